-- Peeling a reference: following it to an object, and that object's tags (`gitrevisions`, `<rev>^{}`).
use Rattle.std.specs.Prelude.{◌≡◌, ◌⊎◌, ℕ, List, Option, Some, None, Result, Ok, Err, Bool}
use Rattle.gix_ref_hash.specs.declared.hash.ObjectId.{ObjectId}
use Rattle.gix_ref_name.specs.Names.{full_bytes}
use Rattle.gix_ref_target.specs.PackedRecords.{Record}
use Rattle.gix_ref_target.specs.Targets.{target_value}
use Rattle.gix_ref_target.specs.Targets.TargetValue.{object_id}
use Rattle.gix_ref_files.specs.Files.{Meaning, FaultCounts}
use Rattle.gix_ref_files.specs.declared.files.ReadAt.{Ghosts}
use Rattle.gix_ref_object.specs.Objects.{Stored}
use Rattle.gix_ref_object.specs.Peeling as tags
use Rattle.gix_ref_object.specs.Peeling.Peeled.{End, Missing, BadTag, TooLong, Failed}
use Rattle.gix_ref_object.specs.declared.peel.PeelError.{PeelError}
use Rattle.gix_ref_object.specs.declared.peel.PeelError.TheVariants as peeling_errors
use Rattle.gix_ref_packed_text.specs.declared.raw.Reference.{Reference}
use Rattle.gix_ref_lookup.specs.declared.find.records.Records.{Records}
use Rattle.gix_ref_store.specs.declared.file.store.Store.{Store}
use Rattle.gix_ref_follow.specs.Following.{At, EndOfChain, HitsByName, LeadsWithinLimit, at_of, following}
use Rattle.gix_ref_follow.specs.Following.EndOfChain.{Reached}
use Rattle.gix_ref_follow.specs.Followed.{Follows, HitsNext, IsNotFollowed, finds_in}
use Rattle.gix_ref_follow.specs.declared.peel.to_id.Error.{Error}
use Rattle.gix_ref_follow.specs.declared.peel.to_id.Error.TheVariants.{FollowToObject, Find, NotFound, TagChainTooLong, Memory}

-- how a peeling ends: at a reference with the object that was found, in following it, or in peeling the tags of the object there
pub data Peeling : Type 0 where
  Done : At → ObjectId → Peeling
  NotFollowed : EndOfChain → Peeling
  NotPeeled : At → tags.Peeled → Peeling

-- the reference that points to an object which it is peeled to
abbrev pub peeled_to : At → ObjectId → At
peeled_to at id = record { name = at.name; target = object_id id; peeled = Some id }

-- after the tags of a reference
abbrev pub by_tags : At → tags.Peeled → Peeling
by_tags at (End id) = Done (peeled_to at id) id
by_tags at other = NotPeeled at other

-- after a following: at most 1,000 tags
abbrev pub by_ending : (ObjectId → Stored) → EndOfChain → Peeling
by_ending meaning (Reached at id) = by_tags at (tags.peel meaning 1000 id)
by_ending meaning other = NotFollowed other

-- a reference that was peeled already is followed nowhere
abbrev pub by_known : HitsByName → (ObjectId → Stored) → At → Option ObjectId → Peeling
by_known find meaning start (Some id) = Done (peeled_to start id) id
by_known find meaning start None = by_ending meaning (following find start)

-- from a reference, where lookups find this, and the finder of objects has these
abbrev pub peeling : HitsByName → (ObjectId → Stored) → At → Peeling
peeling find meaning start = by_known find meaning start start.peeled

-- The result of a peeling that began at the one reference and is now at the other.
abbrev pub Peels : HitsByName → (ObjectId → Stored) → (start now : At) →
    Result ObjectId Error → Type 0
Peels find meaning start now (Ok id) = peeling find meaning start ≡ Done now id
Peels find meaning start now (Err (FollowToObject error)) = (start.peeled ≡ None)
    × Follows find start now (Err error)
Peels find meaning start now (Err (NotFound id name)) =
    (full_bytes name ≡ now.name) × ((peeling find meaning start ≡ NotPeeled now (Missing id))
    ⊎ (peeling find meaning start ≡ NotPeeled now (BadTag id)))
Peels find meaning start now (Err TagChainTooLong) = peeling find meaning start
    ≡ NotPeeled now TooLong
Peels find meaning start now (Err Find) = peeling find meaning start ≡ NotPeeled now Failed
Peels find meaning start now (Err Memory) = (start.peeled ≡ None) × (id : ObjectId)
    × (following find start ≡ Reached now id)

-- the error of a reference of this name for one of peeling the tags of its object
abbrev pub IsTagError : List ℕ → PeelError → Error → Type 0
IsTagError name peeling_errors.Find Find = Unit {0}
IsTagError name (peeling_errors.NotFound id) (NotFound oid of) = (oid ≡ id) × (full_bytes of ≡ name)
IsTagError name (peeling_errors.NotFound id) Memory = Unit {0}
IsTagError name peeling_errors.TagChainTooLong TagChainTooLong = Unit {0}
IsTagError name peeling_errors.Memory Memory = Unit {0}
IsTagError name error other = ⊥

-- what comes of peeling the tags of the object of a reference of this name
abbrev pub PeelsTags : List ℕ → tags.Peeled → Result ObjectId Error → Type 0
PeelsTags name (End id) (Ok end) = end ≡ id
PeelsTags name (Missing id) (Err (NotFound oid of)) = (oid ≡ id) × (full_bytes of ≡ name)
PeelsTags name (BadTag id) (Err (NotFound oid of)) = (oid ≡ id) × (full_bytes of ≡ name)
PeelsTags name TooLong (Err TagChainTooLong) = Unit {0}
PeelsTags name Failed (Err Find) = Unit {0}
PeelsTags name peeled (Err Memory) = Unit {0}
PeelsTags name peeled result = ⊥

-- an error of peeling tags; one that names a reference names this one
abbrev pub IsOfTags : List ℕ → Error → Type 0
IsOfTags name (FollowToObject error) = ⊥
IsOfTags name (NotFound id of) = full_bytes of ≡ name
IsOfTags name other = Unit {0}

module _ {F R : Type 0} {G : Ghosts R} (honest : Type 0) (means : F → Meaning)
    (faults : F → FaultCounts) where
  -- why a reference is not peeled: it is not followed; or it was, and the tags of its object are not peeled
  abbrev pub IsNotPeeled : (asks_records : Bool) → (old new : Store F) → Records R G →
      (start at : Reference) → Error → Type 0
  IsNotPeeled asks_records old new asked start at (FollowToObject error) =
      IsNotFollowed honest means faults asks_records old new asked start at error
  IsNotPeeled asks_records old new asked start at (NotFound id name) =
      (full_bytes name ≡ full_bytes at.name) × (first : ObjectId)
      × (target_value at.target ≡ object_id first)
  IsNotPeeled asks_records old new asked start at other = (first : ObjectId)
      × (target_value at.target ≡ object_id first)

-- what comes of peeling the tags of the object that a reference points to, unless it was not followed to its end
abbrev pub PeelsReached : (ObjectId → Stored) → Reference → Result ObjectId Error → Type 0
PeelsReached meaning reached (Err (FollowToObject error)) = Unit {0}
PeelsReached meaning reached result = (first : ObjectId)
    × (target_value reached.target ≡ object_id first)
    × PeelsTags (full_bytes reached.name) (tags.peel meaning 1000 first) result

module _ {F R : Type 0} {G : Ghosts R} (means : F → Meaning) where
  -- On any text of `packed-refs`: the name is that of a reference to which hits lead; and the result is what comes of peeling its
  -- object, by a finder that claims, unless the first one was peeled already.
  pub record HasPassed (asks_records : Bool) (store : Store F) (asked : Records R G)
      (claims : Type 0) (meaning : ObjectId → Stored) (start now : Reference)
      (result : Result ObjectId Error) : Type 0 where
    pub reached : Reference
    pub passes : LeadsWithinLimit (HitsNext means asks_records store asked) start reached
    pub name : full_bytes now.name ≡ full_bytes reached.name
    pub peels : claims → start.peeled ≡ None → PeelsReached meaning reached result

-- By lookups in a store, whatever its records are, as far as `Are` says of them:
module _ {F : Type 0} (Are : List Record → Type 0) (means : F → Meaning)
    (asks_records : Bool) (store : Store F) where
  -- the result of a peeling
  abbrev pub PeelsBy : (ObjectId → Stored) → (start now : Reference) → Result ObjectId Error →
      Type 0
  PeelsBy meaning start now result = (records : List Record) → Are records →
      Peels (finds_in means asks_records store records) meaning (at_of start) (at_of now) result
