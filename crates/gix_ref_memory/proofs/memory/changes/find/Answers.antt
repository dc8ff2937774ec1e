use Rattle.std.proofs.Common.{◌≤◌, List, length, ◌∙◌, sym, ap, arith}
use Rattle.std.proofs.lemmas.List.{drop_all}
use Rattle.gix_ref_files.specs.Tree.{no_tree}
use Rattle.gix_ref_memory.specs.Changes.{contents_after, found_content}
use Rattle.gix_ref_memory.specs.declared.memory.changes.Change.{Change}
use Rattle.gix_ref_memory.proofs.Grows.{after_is}
use Rattle.gix_ref_memory.proofs.memory.changes.find.Goals as goal

pub returns : goal.returns
returns c =
    let last = c.loop-change in
    let all : length c.args.changes.now ≤ last.change-index = omega arith in
    sym (ap (λ (l : List Change). contents_after l c.args.path.now (found_content last.found)) (drop_all last.change-index c.args.changes.now all)) ∙ last.invariant ∙ sym (after_is c.args.changes.now no_tree c.args.path.now)
