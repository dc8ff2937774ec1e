-- From a tag to the object that it is of (`git tag`, `gitrevisions`): a chain of tags, each of which names the next object.
use Rattle.std.specs.Prelude.{◌≡◌, ◌≢◌, ℕ, zero, suc, ◌*◌, ◌==◌, nat_eq, ◌&&◌, List, [], ◌∷◌, Option, Some, None, Result, Ok, Err, if◌then◌else◌, codes, length, take, drop}
use Rattle.std.specs.List.{starts_with}
use Rattle.hex.specs.Hex.{decode_of}
use Rattle.hex.specs.declared.error.FromHexError.{FromHexError}
use Rattle.gix_ref_hash.specs.declared.hash.Kind.{Kind as HashKind}
use Rattle.gix_ref_hash.specs.declared.hash.Kind.TheVariants as kinds
use Rattle.gix_ref_hash.specs.declared.hash.ObjectId.{ObjectId}
use Rattle.gix_ref_hash.specs.declared.hash.ObjectId.TheVariants as ids
use Rattle.gix_ref_hash.specs.Ids.{kind_len}
use Rattle.gix_ref_object.specs.declared.object.Kind.TheVariants.{Tag}
use Rattle.gix_ref_object.specs.declared.peel.PeelError.{PeelError}
use Rattle.gix_ref_object.specs.declared.peel.PeelError.TheVariants as peeling
use Rattle.gix_ref_object.specs.Objects.{Stored}
use Rattle.gix_ref_object.specs.Objects.Stored.{Object, Absent, Faulty}

-- the id of a kind with these bytes
abbrev pub id_decoded : HashKind → Result (List ℕ) FromHexError → Option ObjectId
id_decoded kinds.Sha1 (Ok bytes) = Some (ids.Sha1 bytes)
id_decoded kinds.Sha256 (Ok bytes) = Some (ids.Sha256 bytes)
id_decoded kind (Err error) = None

-- the id of a kind with these hex digits
abbrev pub id_of_hex : HashKind → List ℕ → Option ObjectId
id_of_hex kind digits = if length digits == 2 * kind_len kind
    then id_decoded kind (decode_of digits) else None

-- the id of the kind in the front of a tag: `object `, the hex digits of the id, LF
unfoldable pub target_of_kind : HashKind → List ℕ → Option ObjectId
target_of_kind kind bytes =
    let rest = drop 7 bytes in
    let len = 2 * kind_len kind in
    if starts_with nat_eq bytes (codes "object ") && starts_with nat_eq (drop len rest) (10 ∷ [])
    then id_of_hex kind (take len rest) else None

-- the first of two, where it is there
abbrev pub first_of : Option ObjectId → Option ObjectId → Option ObjectId
first_of (Some id) other = Some id
first_of None other = other

-- the id in the front of a tag, of either kind
unfoldable pub tag_target : List ℕ → Option ObjectId
tag_target bytes = first_of (target_of_kind kinds.Sha1 bytes) (target_of_kind kinds.Sha256 bytes)

-- how a chain of tags ends: at an object that is no tag, at an id with no object, at a tag that names none, after too
-- many tags, or at an object that cannot be read
pub data Peeled : Type 0 where
  End : ObjectId → Peeled
  Missing : ObjectId → Peeled
  BadTag : ObjectId → Peeled
  TooLong : Peeled
  Failed : Peeled

-- from the tag `id` to its target
abbrev pub onward : ObjectId → (ObjectId → Peeled) → Option ObjectId → Peeled
onward id more None = BadTag id
onward id more (Some target) = more target

-- at one object; `more` goes on after a tag
abbrev pub step : ObjectId → (ObjectId → Peeled) → Stored → Peeled
step id more Absent = Missing id
step id more Faulty = Failed
step id more (Object Tag bytes) = onward id more (tag_target bytes)
step id more (Object kind bytes) = End id

-- over at most `objects` objects
unfoldable pub walk : (ObjectId → Stored) → (objects : ℕ) → ObjectId → Peeled
walk meaning zero id = TooLong
walk meaning (suc n) id = step id (walk meaning n) (meaning id)

-- over at most `tags` tags, and the object at their end
abbrev pub peel : (ObjectId → Stored) → (tags : ℕ) → ObjectId → Peeled
peel meaning tags id = walk meaning (suc tags) id

-- a call reports how the chain ends, or that there was no memory
abbrev pub PeelsTo : Peeled → Result ObjectId PeelError → Type 0
PeelsTo peeled (Err peeling.Memory) = Unit {0}
PeelsTo (End id) (Ok end) = end ≡ id
PeelsTo (Missing id) (Err (peeling.NotFound oid)) = oid ≡ id
PeelsTo (BadTag id) (Err (peeling.NotFound oid)) = oid ≡ id
PeelsTo TooLong (Err peeling.TagChainTooLong) = Unit {0}
PeelsTo Failed (Err peeling.Find) = Unit {0}
PeelsTo peeled result = ⊥

-- one object further: at the end, at the next id, or the error with which the chain ends
abbrev pub Continues : ObjectId → (ObjectId → Peeled) → Peeled →
    Result (Option ObjectId) PeelError → Type 0
Continues id more peeled (Ok None) = peeled ≡ End id
Continues id more peeled (Ok (Some next)) = peeled ≡ more next
Continues id more peeled (Err error) = PeelsTo peeled (Err error)

-- the object is a tag that names the target
abbrev pub TagTo : (ObjectId → Stored) → ObjectId → ObjectId → Type 0
TagTo meaning id target = (bytes : List ℕ) × (meaning id ≡ Object Tag bytes)
    × (tag_target bytes ≡ Some target)

-- `tags` tags in a row lead from one id to another
abbrev pub Chain : (ObjectId → Stored) → (tags : ℕ) → ObjectId → ObjectId → Type 0
Chain meaning zero id end = id ≡ end
Chain meaning (suc tags) id end = (next : ObjectId) × TagTo meaning id next
    × Chain meaning tags next end

-- an object of another kind than a tag
abbrev pub IsNoTag : Stored → Type 0
IsNoTag (Object kind bytes) = kind ≢ Tag
IsNoTag other = ⊥
