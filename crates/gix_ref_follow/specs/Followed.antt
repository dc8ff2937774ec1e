-- What following a reference in a store returns.
use Rattle.std.specs.Prelude.{◌≡◌, ℕ, suc, List, [], ◌∷◌, Option, Some, None, Result, Ok, Err, Bool, true, MatchResult, IfOk, IfErr}
use Rattle.gix_ref_hash.specs.declared.hash.ObjectId.{ObjectId}
use Rattle.gix_ref_name.specs.Names.{full_bytes, partial_bytes}
use Rattle.gix_ref_target.specs.PackedRecords.{Record}
use Rattle.gix_ref_target.specs.Targets.{TargetValue, target_value}
use Rattle.gix_ref_target.specs.Targets.TargetValue.{object_id, symbolic_name}
use Rattle.gix_ref_name.specs.declared.name.FullName.{FullName}
use Rattle.gix_ref_files.specs.Files.{Meaning, FaultCounts}
use Rattle.gix_ref_files.specs.declared.files.ReadAt.{Ghosts}
use Rattle.gix_ref_packed_text.specs.declared.raw.Reference.{Reference}
use Rattle.gix_ref_lookup.specs.Lookups.{AreHonest, IsSound}
use Rattle.gix_ref_lookup.specs.declared.find.records.Records.{Records}
use Rattle.gix_ref_lookup.specs.declared.find.existing.Error.{Error as Missing}
use Rattle.gix_ref_lookup.specs.declared.find.existing.Error.TheVariants.{Find, NotFound}
use Rattle.gix_ref_store.specs.Lookup.{hit_in, FindsBy, IfNotFound, MissesBy, SeesExisting, SeesIn, SeesNothing, MissesIn}
use Rattle.gix_ref_store.specs.Store as stores
use Rattle.gix_ref_store.specs.declared.file.store.Store.{Store}
use Rattle.gix_ref_follow.specs.Following.{At, HitsByName, IsStep, Leads, LeadsWithinLimit, following, is_one_of}
use Rattle.gix_ref_follow.specs.Following.EndOfChain.{Reached, Dangling, Circular, TooDeep}
use Rattle.gix_ref_follow.specs.declared.peel.to_object.Error.{Error}
use Rattle.gix_ref_follow.specs.declared.peel.to_object.Error.TheVariants.{Follow, Cycle, DepthLimitExceeded, Memory}

-- the names of references
abbrev pub bytes_of_names : List FullName → List (List ℕ)
bytes_of_names [] = []
bytes_of_names (name ∷ names) = full_bytes name ∷ bytes_of_names names

-- a step from a target: an object has none, and the lookup of a symbolic one has a result
abbrev pub OfStep : TargetValue → (List ℕ → Result Reference Missing → Type 0) →
    Option (Result Reference Missing) → Type 0
OfStep (object_id id) P None = Unit {0}
OfStep (object_id id) P (Some result) = ⊥
OfStep (symbolic_name name) P None = ⊥
OfStep (symbolic_name name) P (Some result) = P name result

-- so where the lookup, if there was one, did not fail
abbrev pub OnStep : Option (Result Reference Missing) → Type 0 → Type 0
OnStep None P = P
OnStep (Some (Ok reference)) P = P
OnStep (Some (Err error)) P = Unit {0}

-- the error for a reference at this path that leads back
abbrev pub IsCycle : List ℕ → Error → Type 0
IsCycle place (Cycle path) = path.items ≡ place
IsCycle place Memory = Unit {0}
IsCycle place other = ⊥

-- the next reference is one of these, and the reference at this path leads back; or there was no memory
abbrev pub IsReturn : List ℕ → (reached : List (List ℕ)) → (place : List ℕ) → Error → Type 0
IsReturn name reached place (Cycle path) = (is_one_of name reached ≡ true) × (path.items ≡ place)
IsReturn name reached place Memory = Unit {0}
IsReturn name reached place other = ⊥

-- the step is refused: nothing has the name of the target, the lookup fails, or it leads to a reference of one of these names
abbrev pub RefusesStep : HitsByName → (reached : List (List ℕ)) → At → Error → Type 0
RefusesStep find reached at (Follow (NotFound name)) =
    (at.target ≡ symbolic_name (partial_bytes name)) × (find (partial_bytes name) ≡ None)
RefusesStep find reached at (Follow (Find error)) = IsSound error
RefusesStep find reached at (Cycle path) = (next : At) × IsStep find at next
    × (is_one_of next.name reached ≡ true)
RefusesStep find reached at (DepthLimitExceeded steps) = ⊥
RefusesStep find reached at Memory = Unit {0}

-- The result of a following that began at the one reference and is now at the other: how the following ends, and there; or, on a
-- fault or want of memory, a reference on its way.
abbrev pub Follows : HitsByName → (start now : At) → Result ObjectId Error → Type 0
Follows find start now (Ok id) = following find start ≡ Reached now id
Follows find start now (Err (Follow (NotFound name))) = following find start
    ≡ Dangling now (partial_bytes name)
Follows find start now (Err (Follow (Find error))) = IsSound error
    × LeadsWithinLimit (IsStep find) start now
Follows find start now (Err (Cycle path)) = following find start ≡ Circular now
Follows find start now (Err (DepthLimitExceeded steps)) = following find start ≡ TooDeep now
Follows find start now (Err Memory) = LeadsWithinLimit (IsStep find) start now

module _ {F : Type 0} (means : F → Meaning) where
  -- what lookups in a store find, among these records
  abbrev pub finds_in : (asks_records : Bool) → Store F → List Record → HitsByName
  finds_in asks_records store records = hit_in means asks_records store records

  -- the lookup of a target in it finds this, among these records
  abbrev pub StepFinds : (asks_records : Bool) → Store F → List Record → TargetValue →
      Option (Result Reference Missing) → Type 0
  StepFinds asks_records store records target result =
      OfStep target (λ name r. MatchResult r (λ next. FindsBy means asks_records store records name
      (Some next)) (MissesBy means asks_records store records name)) result

module _ {F R : Type 0} {G : Ghosts R} (means : F → Meaning) where
  -- on any text of `packed-refs`: what the lookup of a target finds is one that the target is short for, and `NotFound` says that
  -- it sees nothing
  abbrev pub StepHits : (asks_records : Bool) → Store F → Records R G → TargetValue →
      Option (Result Reference Missing) → Type 0
  StepHits asks_records store asked target result = OfStep target
      (λ name r. SeesExisting means asks_records store asked name r) result

  -- on any text of `packed-refs`: the next reference is one that the target is short for
  abbrev pub HitsNext : (asks_records : Bool) → Store F → Records R G →
      (at next : Reference) → Type 0
  HitsNext asks_records store asked at next = (name : List ℕ)
      × (target_value at.target ≡ symbolic_name name)
      × SeesIn means asks_records store asked name (Some next)

  -- hits lead, by a step or more, from the first reference to one of this name
  abbrev pub WasPassed : (asks_records : Bool) → Store F → Records R G → (start : Reference) →
      (name : List ℕ) → Type 0
  WasPassed asks_records store asked start name = (passed : Reference) × (steps : ℕ)
      × Leads (HitsNext asks_records store asked) (suc steps) start passed
      × (full_bytes passed.name ≡ name)

module _ {F R : Type 0} {G : Ghosts R} (honest : Type 0) (means : F → Meaning)
    (faults : F → FaultCounts) where
  -- why the lookup of a target fails
  abbrev pub StepFails : (asks_records : Bool) → (old new : Store F) → Records R G → TargetValue →
      Option (Result Reference Missing) → Type 0
  StepFails asks_records old new asked target result = OfStep target
      (λ name r. IfErr r (MissesIn honest means faults asks_records old new asked name)) result

  -- the lookup of the target of a reference fails, or sees nothing
  abbrev pub MissesTarget : (asks_records : Bool) → (old new : Store F) → Records R G →
      (at : Reference) → Missing → Type 0
  MissesTarget asks_records old new asked at error =
      (name : List ℕ) × (target_value at.target ≡ symbolic_name name)
      × MissesIn honest means faults asks_records old new asked name error
      × (honest → AreHonest asked →
      IfNotFound error (SeesNothing means asks_records old asked name))

  -- this is the place of a reference whose target leads to one with such a name
  abbrev pub LeadsBack : (asks_records : Bool) → (old : Store F) → Records R G →
      (Was : List ℕ → Type 0) → (at : Reference) → (path : List ℕ) → Type 0
  LeadsBack asks_records old asked Was at path =
      (path ≡ (stores.meaning_of old).place (full_bytes at.name))
      × (honest → AreHonest asked → (next : Reference)
      × HitsNext means asks_records old asked at next × Was (full_bytes next.name))

  -- why one step from a reference is not made: its target is not found, or leads to a name that was reached; no memory
  abbrev pub IsNoStep : (asks_records : Bool) → (old new : Store F) → Records R G →
      (reached : List (List ℕ)) → (at : Reference) → Error → Type 0
  IsNoStep asks_records old new asked reached at (Follow error) =
      MissesTarget asks_records old new asked at error
  IsNoStep asks_records old new asked reached at (Cycle path) =
      LeadsBack asks_records old asked (λ name. is_one_of name reached ≡ true) at path.items
  IsNoStep asks_records old new asked reached at (DepthLimitExceeded steps) = ⊥
  IsNoStep asks_records old new asked reached at Memory = Unit {0}

  -- why a reference is not followed further, to which the first one leads: its target is not found, or leads to a name that was
  -- passed; five steps lead to it; no memory
  abbrev pub IsNotFollowed : (asks_records : Bool) → (old new : Store F) → Records R G →
      (start at : Reference) → Error → Type 0
  IsNotFollowed asks_records old new asked start at (Follow error) =
      MissesTarget asks_records old new asked at error
  IsNotFollowed asks_records old new asked start at (Cycle path) =
      LeadsBack asks_records old asked (WasPassed means asks_records old asked start) at path.items
  IsNotFollowed asks_records old new asked start at (DepthLimitExceeded steps) = (steps ≡ 5)
      × (honest → AreHonest asked → Leads (HitsNext means asks_records old asked) 5 start at)
  IsNotFollowed asks_records old new asked start at Memory = Unit {0}
