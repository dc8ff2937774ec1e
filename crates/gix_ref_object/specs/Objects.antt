-- What a finder has under an id, and what its calls report of that.
use Rattle.std.specs.Prelude.{◌≡◌, ℕ, List, Option, Some, None, Result, Ok, Err}
use Rattle.gix_ref_hash.specs.declared.hash.ObjectId.{ObjectId}
use Rattle.gix_ref_hash.specs.Ids.{id_kind}
use Rattle.gix_ref_object.specs.declared.object.Kind.{Kind}
use Rattle.gix_ref_object.specs.declared.object.Data.{Data}
use Rattle.gix_ref_object.specs.declared.object.FindError.{FindError}
use Rattle.gix_ref_object.specs.declared.object.FindError.TheVariants as finding

-- an object, nothing, or something that cannot be read
pub data Stored : Type 0 where
  Object : (kind : Kind) (bytes : List ℕ) → Stored
  Absent : Stored
  Faulty : Stored

-- a call for an id reports what is stored, with the hash function of the id, or that there was no memory
abbrev pub Reports : ObjectId → Stored → Result (Option Data) FindError → Type 0
Reports id stored (Err finding.Memory) = Unit {0}
Reports id (Object kind bytes) (Ok (Some found)) = (found.kind ≡ kind)
    × (found.bytes.now ≡ bytes) × (found.object_hash ≡ id_kind id)
Reports id Absent (Ok None) = Unit {0}
Reports id Faulty (Err finding.Failed) = Unit {0}
Reports id stored result = ⊥
