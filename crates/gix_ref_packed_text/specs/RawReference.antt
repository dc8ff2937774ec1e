-- References as values, of any store.
use Rattle.std.specs.Prelude.{◌≡◌}
use Rattle.gix_ref_hash.specs.declared.hash.ObjectId.{ObjectId}
use Rattle.gix_ref_hash.specs.Ids.{ReadsId}
use Rattle.gix_ref_name.specs.Names.{full_bytes, full_ref_bytes}
use Rattle.gix_ref_target.specs.Targets.{target_value}
use Rattle.gix_ref_target.specs.Targets.TargetValue.{object_id}
use Rattle.gix_ref_packed_text.specs.declared.packed.reference.Reference.{Reference as Packed}
use Rattle.gix_ref_packed_text.specs.declared.raw.Reference.{Reference}
use Rattle.gix_ref_packed_text.specs.IdDigits.{ReadsIfAny}

-- the name and the ids of a record
pub record IsOfRecord (r : Reference) (p : Packed) : Type 0 where
  pub name : full_bytes r.name ≡ full_ref_bytes p.name
  pub id : ObjectId
  pub reads : ReadsId p.target.now id
  pub target : target_value r.target ≡ object_id id
  pub peeled : ReadsIfAny p.object r.peeled

-- an equal value
pub record IsCopy (r copy : Reference) : Type 0 where
  pub name : full_bytes copy.name ≡ full_bytes r.name
  pub target : target_value copy.target ≡ target_value r.target
  pub peeled : copy.peeled ≡ r.peeled
