-- A name behind that of the last record, or before that of the first, is that of none.
use Rattle.std.proofs.Common.{◌≡◌, ℕ, ◌+◌, ◌<◌, ◌≤◌, List, length, drop, true, inl, refl, subst, arith, Some, None}
use Rattle.std.specs.declared.cmp.Ordering.{Ordering}
use Rattle.std.specs.declared.cmp.Ordering.TheVariants.{Less, Greater}
use Rattle.gix_ref_hash.specs.declared.hash.Kind.{Kind}
use Rattle.gix_ref_target.specs.PackedRecords.{Record, record_named}
use Rattle.gix_ref_packed_text.specs.RecordGrammar.{Forms, Ascending}
use Rattle.gix_ref_packed_text.specs.Positions.{Orders, OrdersIfNamed, HasRecordLine}
use Rattle.gix_ref_packed_text.specs.Probed.{IsProbeAt}
use Rattle.gix_ref_packed_text.specs.declared.packed.searchable.Probe.{Probe}
use Rattle.gix_ref_packed_text.proofs.Halves.{less, greater, at_first, nowhere, start_below}

-- one sure look at the record that a byte is in
module _ (k : Kind) (text n : List ℕ) (o : ℕ) (probe : Probe) (within : o < length text) (probed : IsProbeAt k text n true o probe) where
  orders : (x : Ordering) → probe.order ≡ Some x → Orders k (drop probe.start text) n true x
  orders x is = let order = probed.order in subst (OrdersIfNamed k (drop probe.start text) n true) is order

  pub line_there : (x : Ordering) → probe.order ≡ Some x → HasRecordLine k text
  line_there x is =
      let name = (orders x is).named (inl refl) in
      record { start = probe.start; offset = o; within = within; begins = probed.record_of; name = name.0; some = name.2; named = name.1 }

  pub behind_all : length text ≤ o + 1 → o < probe.next → probe.order ≡ Some Less → (rs : List Record) → Forms k text rs → Ascending rs → record_named n rs ≡ None
  behind_all last beyond is =
      nowhere k text n probe.next (length text) (omega arith)
      (less k text n probe.start o within probed.record_of Less (orders Less is).compares 0 (length text) probe.next beyond probed.line refl (at_first k text n))

  pub before_all : o ≡ 0 → probe.order ≡ Some Greater → (rs : List Record) → Forms k text rs → Ascending rs → record_named n rs ≡ None
  before_all first is =
      let below = start_below text probe.start o probed.record_of in
      nowhere k text n 0 probe.start (omega arith)
      (greater k text n probe.start o within probed.record_of Greater (orders Greater is).compares 0 (length text) refl (at_first k text n))
