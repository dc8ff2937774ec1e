-- What a probe at a byte of a text sees.
use Rattle.std.specs.Prelude.{ℕ, Bool, List, drop}
use Rattle.gix_ref_hash.specs.declared.hash.Kind.{Kind}
use Rattle.gix_ref_packed_text.specs.declared.packed.searchable.Probe.{Probe}
use Rattle.gix_ref_packed_text.specs.Positions.{RecordOf, OrdersIfNamed, SameLine}

-- the record that the byte is in, how its name compares, and a place up to which no other line begins
pub record IsProbeAt (kind : Kind) (text wanted : List ℕ) (sure : Bool) (offset : ℕ)
    (probe : Probe) : Type 0 where
  pub record_of : RecordOf text probe.start offset
  pub order : OrdersIfNamed kind (drop probe.start text) wanted sure probe.order
  pub line : SameLine text offset probe.next
