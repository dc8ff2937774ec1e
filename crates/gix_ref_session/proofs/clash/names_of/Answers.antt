use Rattle.std.proofs.Common.{◌∙◌, ap, map}
use Rattle.std.proofs.lemmas.List.{take_all}
use Rattle.gix_ref_edits.specs.RefEdits.{name_of}
use Rattle.gix_ref_session.proofs.NameLists.{names_in_order}
use Rattle.gix_ref_session.proofs.clash.names_of.Goals as goal

pub returns : goal.returns
returns c =
    let all = take_all c.loop-edit.edit-index c.args.edits.now c.loop-edit-test.false in
    names_in_order c.args.edits.now c.loop-edit.names.items c.sort.new.self.items (c.loop-edit.invariant ∙ ap (map name_of) all) c.in_ok-sort.ensures.permutation c.in_ok-sort.ensures.sorted
