use Rattle.std.proofs.Common.{◌≤◌, List, length, ◌∙◌, sym, ap, arith}
use Rattle.std.proofs.lemmas.List.{drop_all}
use Rattle.gix_ref_memory.specs.internal.Power.{disk_entry, sure_entry}
use Rattle.gix_ref_memory.specs.declared.memory.changes.Change.{Change}
use Rattle.gix_ref_memory.proofs.memory.sure.sure_at.Goals as goal

pub returns : goal.returns
returns c =
    let last = c.loop-change in
    let all : length c.args.changes.now ≤ last.change-index = omega arith in
    sym (ap (λ (l : List Change). disk_entry l c.args.path.now (sure_entry last.sure)) (drop_all last.change-index c.args.changes.now all)) ∙ last.invariant
