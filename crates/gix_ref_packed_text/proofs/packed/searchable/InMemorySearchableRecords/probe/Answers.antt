use Rattle.std.proofs.lemmas.List.{take_rest}
use Rattle.gix_ref_packed_text.proofs.LowerBounds.{inside_end}
use Rattle.gix_ref_packed_text.proofs.packed.searchable.InMemorySearchableRecords.probe.Goals as goal

pub returns-clause-probed : goal.returns-clause-probed
returns-clause-probed c = λ honest. record {
  record_of = c.record_start_at_offset-start.ensures.record_there (inside_end c.args.self.now.bytes.now c.args.offset (c.requires.inside honest));
  order = rw take_rest at c.order_at-order.ensures;
  line = c.next_place-next.ensures.line;
}
