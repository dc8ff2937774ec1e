use Rattle.gix_ref_packed.proofs.RecordsInOrder.{keeps_sorted}
use Rattle.gix_ref_packed.proofs.packed.sorting.sorted_text.Goals as goal

pub returns-clause-sorts : goal.returns-clause-sorts
returns-clause-sorts c =
    keeps_sorted c.args.kind c.args.text.now c.in_ok-sorted.sorted.items c.in_ok-entries.entries.items c.sort_by_name.new.entries.items c.deref.result.now c.deref.ensures.value
    c.in_ok-entries.ensures.records c.in_ok-entries.ensures.pieces c.in_ok-entries.ensures.cut c.in_ok-sort_by_name.ensures.moved c.in_ok-sort_by_name.ensures.sorted c.in_ok-sort_by_name.ensures.stable c.in_ok-sorted.ensures
