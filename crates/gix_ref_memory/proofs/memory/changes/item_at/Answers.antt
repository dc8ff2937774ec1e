use Rattle.std.proofs.Common.{◌≤◌, List, length, ◌∙◌, sym, ap, arith}
use Rattle.std.proofs.lemmas.List.{drop_all}
use Rattle.gix_ref_memory.specs.Changes.{items, found_item}
use Rattle.gix_ref_memory.specs.declared.memory.changes.Change.{Change}
use Rattle.gix_ref_memory.proofs.memory.changes.item_at.Goals as goal

pub returns : goal.returns
returns c =
    let last = c.loop-change in
    let all : length c.args.changes.now ≤ last.change-index = omega arith in
    sym (ap (λ (l : List Change). items l c.args.path.now (found_item last.known)) (drop_all last.change-index c.args.changes.now all)) ∙ last.invariant
