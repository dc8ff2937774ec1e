use Rattle.std.proofs.Common.{◌≡◌, ◌≤◌, inl, refl, ◌∷◌, ◌++◌, [], true, false, length, take, sym, ◌∙◌, subst, rules, arith}
use Rattle.gix_ref_files.specs.Tree.{Path, no_tree, fronts, with_folders}
use Rattle.gix_ref_files.specs.Files.{AddsDisks, Passes}
use Rattle.gix_ref_files.specs.Calls.{is_in_the_way}
use Rattle.gix_ref_files.proofs.PathFronts.{fronts_short}
use Rattle.gix_ref_memory.specs.Changes.{after_changes, meaning_after, MakingFrontsOn, with_folders_as}
use Rattle.gix_ref_memory.specs.Laws.{disk_is_found}
use Rattle.gix_ref_memory.proofs.Grows.{disk, same_changes}
use Rattle.gix_ref_memory.proofs.MakingLemmas.{all_fronts, all_fronts_on, making_passes, making_adds, way_adds}
use Rattle.gix_ref_memory.proofs.memory.folders.make_folders_now.Goals as goal

pub returns-then-is_file_in_the_way-clause-passes : goal.returns-then-is_file_in_the_way-clause-passes
returns-then-is_file_in_the_way-clause-passes c =
    let old = c.args.changes.now.items in
    let way : is_in_the_way (after_changes old no_tree) c.args.path.now ≡ true = search rules in
    record { passes = same_changes old old _ refl (inl refl); adds = way_adds (meaning_after old) (meaning_after old) c.args.path.now way (λ t le. disk_is_found old t) }

pub returns-clause-answer : goal.returns-clause-answer
returns-clause-answer c =
    let T = after_changes c.args.changes.now.items no_tree in
    let free : is_in_the_way T c.args.path.now ≡ false = search rules in
    let folders = c.in_ok-folders.folders.items in
    let is : folders ≡ c.args.path.now ++ 47 ∷ [] = search rules in
    let made : after_changes c.make_fronts.new.changes.items no_tree ≡ with_folders T (take (length folders) (fronts folders)) = search rules in
    (free, made ∙ all_fronts T folders c.args.path.now is)

pub returns-clause-disk : goal.returns-clause-disk
returns-clause-disk c =
    let D = disk c.args.changes.now.items in
    let folders = c.in_ok-folders.folders.items in
    let is : folders ≡ c.args.path.now ++ 47 ∷ [] = search rules in
    let made : disk c.make_fronts.new.changes.items ≡ with_folders_as false D (take (length folders) (fronts folders)) = search rules in
    made ∙ all_fronts_on D folders c.args.path.now is

pub returns-in_err-make_fronts-clause-passes : goal.returns-in_err-make_fronts-clause-passes
returns-in_err-make_fronts-clause-passes c =
    let old = c.args.changes.now.items in
    let free : is_in_the_way (after_changes old no_tree) c.args.path.now ≡ false = search rules in
    let is : c.in_ok-folders.folders.items ≡ c.args.path.now ++ 47 ∷ [] = search rules in
    let given : c.deref-2.result.now ≡ c.in_ok-folders.folders.items = c.deref-2.ensures.value in
    record { passes = making_passes (meaning_after old) (meaning_after c.make_fronts.new.changes.items) c.in_ok-folders.folders.items c.args.path.now is free (subst (λ (l : Path). Passes (meaning_after old) (meaning_after c.make_fronts.new.changes.items) (MakingFrontsOn false (disk old) (fronts l))) given c.make_fronts.ensures.passes); adds = search rules }

pub returns-clause-passes : goal.returns-clause-passes
returns-clause-passes c =
    let old = c.args.changes.now.items in
    let new = c.make_fronts.new.changes.items in
    let folders = c.in_ok-folders.folders.items in
    let free : is_in_the_way (after_changes old no_tree) c.args.path.now ≡ false = search rules in
    let is : folders ≡ c.args.path.now ++ 47 ∷ [] = search rules in
    let enough : length (fronts folders) ≤ length folders = fronts_short folders in
    let given : c.deref-2.result.now ≡ folders = c.deref-2.ensures.value in
    let fits : length (fronts folders) ≤ c.len.result = omega (arith, enough, c.len.ensures) in
    let run = subst (λ (l : Path). Passes (meaning_after old) (meaning_after new) (MakingFrontsOn false (disk old) (fronts l))) given c.make_fronts.ensures.passes in
    let adds = subst (λ (l : Path). AddsDisks (meaning_after old) (meaning_after new) (MakingFrontsOn false (disk old) (fronts l))) given
    (c.in_ok-make_fronts.ensures.all (subst (λ (l : Path). length (fronts l) ≤ c.len.result) (sym given) fits)).adds in
    record {
      passes = making_passes (meaning_after old) (meaning_after new) folders c.args.path.now is free run;
      adds = making_adds (meaning_after old) (meaning_after new) folders c.args.path.now is (λ t le. run.keeps t (disk old) le (disk_is_found old t)) adds;
    }
