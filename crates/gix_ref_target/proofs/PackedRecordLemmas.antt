-- The digits of an id are read as it.
use Rattle.std.proofs.Common.{◌≡◌, ◌∙◌, ap, Some, None}
use Rattle.std.specs.Prelude.{◌==◌, if◌then◌else◌}
use Rattle.hex.specs.Hex.{encode_lower}
use Rattle.hex.proofs.HexLemmas.{decode_of-encode_lower}
use Rattle.gix_ref_hash.specs.Ids.{id_bytes, IsWhole}
use Rattle.gix_ref_hash.specs.declared.hash.ObjectId.{ObjectId}
use Rattle.gix_ref_hash.specs.declared.hash.ObjectId.TheVariants as ids
use Rattle.gix_ref_target.specs.PackedRecords.{id_read, id_in, id_with}

-- the bytes of an id are those of the id
with_bytes : (id : ObjectId) → IsWhole id → id_with (id_bytes id) ≡ Some id
with_bytes (ids.Sha1 bytes) whole = ap (λ n. if n == 20 then Some (ids.Sha1 bytes) else if n == 32 then Some (ids.Sha256 bytes) else None) whole.len
with_bytes (ids.Sha256 bytes) whole = ap (λ n. if n == 20 then Some (ids.Sha1 bytes) else if n == 32 then Some (ids.Sha256 bytes) else None) whole.len

pub written_is_read : (id : ObjectId) → IsWhole id → id_read (encode_lower (id_bytes id)) ≡ Some id
written_is_read id whole = ap id_in (decode_of-encode_lower (id_bytes id) whole.bytes) ∙ with_bytes id whole
