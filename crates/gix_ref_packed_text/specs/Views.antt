-- A lent reference as a record of its text.
use Rattle.std.specs.Prelude.{ℕ, List, Option}
use Rattle.std.specs.Option.{option_map}
use denote.Ref.{Bor}
use Rattle.gix_ref_name.specs.Names.{full_ref_bytes}
use Rattle.gix_ref_packed_text.specs.declared.packed.reference.Reference.{Reference}
use Rattle.gix_ref_target.specs.PackedRecords.{Record}

-- the record of these bytes
abbrev pub record_with : List ℕ → List ℕ → Option (Bor (List ℕ)) → Record
record_with name target object =
    record { name = name; target = target; object = option_map (λ o. o.now) object }

abbrev pub record_of : Reference → Record
record_of r = record {
  name = full_ref_bytes r.name;
  target = r.target.now;
  object = option_map (λ o. o.now) r.object;
}
