-- Digits of ids, as a test.
use Rattle.std.specs.Prelude.{ℕ, Bool, true, List, Option, Some, None}
use denote.Ref.{Bor}
use Rattle.gix_ref_hash.specs.declared.hash.ObjectId.{ObjectId}
use Rattle.gix_ref_hash.specs.Ids.{ReadsId, is_id_text}

-- where they are there
abbrev pub is_id_if_any : Option (Bor (List ℕ)) → Bool
is_id_if_any None = true
is_id_if_any (Some digits) = is_id_text digits.now

-- the digits of the object that a tag ends at, or else those of the target
abbrev pub object_or : Option (Bor (List ℕ)) → List ℕ → List ℕ
object_or None target = target
object_or (Some object) target = object.now

-- these digits, where they are there, are read as this id
abbrev pub ReadsIfAny : Option (Bor (List ℕ)) → Option ObjectId → Type 0
ReadsIfAny None None = Unit {0}
ReadsIfAny (Some digits) (Some id) = ReadsId digits.now id
ReadsIfAny None (Some id) = ⊥
ReadsIfAny (Some digits) None = ⊥
