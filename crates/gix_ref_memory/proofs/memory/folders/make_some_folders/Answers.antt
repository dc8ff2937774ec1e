use Rattle.std.proofs.Common.{◌≡◌, ◌∷◌, ◌++◌, [], false, subst, rules}
use Rattle.gix_ref_files.specs.Tree.{Path, no_tree, fronts}
use Rattle.gix_ref_files.specs.Files.{Passes}
use Rattle.gix_ref_files.specs.Calls.{is_in_the_way}
use Rattle.gix_ref_memory.specs.Changes.{after_changes, meaning_after, MakingFrontsOn}
use Rattle.gix_ref_memory.proofs.Grows.{disk}
use Rattle.gix_ref_memory.proofs.MakingLemmas.{making_passes}
use Rattle.gix_ref_memory.proofs.memory.folders.make_some_folders.Goals as goal

pub returns-clause-passes : goal.returns-clause-passes
returns-clause-passes c =
    let old = c.args.changes.now.items in
    let free : is_in_the_way (after_changes old no_tree) c.args.path.now ≡ false = search rules in
    let is : c.in_ok-folders.folders.items ≡ c.args.path.now ++ 47 ∷ [] = search rules in
    let given : c.deref-2.result.now ≡ c.in_ok-folders.folders.items = c.deref-2.ensures.value in
    making_passes (meaning_after old) (meaning_after c.make_fronts.new.changes.items) c.in_ok-folders.folders.items c.args.path.now is free (subst (λ (l : Path). Passes (meaning_after old) (meaning_after c.make_fronts.new.changes.items) (MakingFrontsOn false (disk old) (fronts l))) given c.make_fronts.ensures.passes)
