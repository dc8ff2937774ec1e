-- What a lookup in a store returns (`gitrevisions`).
use Rattle.std.specs.Prelude.{◌≡◌, ◌⊎◌, ◌&&◌, Bool, true, false, is_some, ℕ, List, [], Option, Some, None, MatchOption, MatchResult, Result}
use denote.Ref.{Bor}
use Rattle.gix_ref_name.specs.Names.{partial_bytes, full_bytes}
use Rattle.gix_ref_target.specs.Targets.{target_value}
use Rattle.gix_ref_theory.specs.Lookups.{Hit}
use Rattle.gix_ref_theory.specs.Readings.Reading.{Is}
use Rattle.gix_ref_target.specs.PackedRecords.{Record}
use Rattle.gix_ref_target.specs.Layout.{packed_refs}
use Rattle.gix_ref_files.specs.Files.{Meaning, disk_of, Leaves, Passes, FaultCounts}
use Rattle.gix_ref_files.specs.Calls.{Unchanged}
use Rattle.gix_ref_files.specs.DiskCalls.{Untouched}
use Rattle.gix_ref_files.specs.declared.files.ReadAt.{Ghosts}
use Rattle.gix_ref_files.specs.Tree.{Content, is_file, bytes_of}
use Rattle.gix_ref_packed.specs.Buffers.{Opened, IsRefusedFile, HoldsRecords, buffer_kind, buffer_text}
use Rattle.gix_ref_packed.specs.declared.packed.buffer.Buffer.{Buffer}
use Rattle.gix_ref_packed.specs.declared.packed.buffer.open.Error.{Error as OpenError}
use Rattle.gix_ref_packed_text.specs.declared.raw.Reference.{Reference}
use Rattle.gix_ref_theory.specs.Views.{View}
use Rattle.gix_ref_theory.specs.OnRealTrees.{view_of}
use Rattle.gix_ref_lookup.specs.Lookups.{ReturnsHit, ArePackedRecords, AreAsked, IsSound, IsSeen, IsHitOf, IsCandidate, CandidateFails, FailsAmong, lookup_of, asked_names, name_asked, AreMissing, AreStillAsked}
use Rattle.gix_ref_lookup.specs.declared.loose.Reference.{Reference as Loose}
use Rattle.gix_ref_lookup.specs.declared.settings.Settings.{Settings}
use Rattle.gix_ref_lookup.specs.declared.find.records.Records.{Records}
use Rattle.gix_ref_lookup.specs.declared.find.records.Records.TheVariants as sources
use Rattle.gix_ref_lookup.specs.declared.find.error.Error.{Error}
use Rattle.gix_ref_lookup.specs.declared.find.error.Error.TheVariants.{Memory}
use Rattle.gix_ref_lookup.specs.declared.find.existing.Error.{Error as Missing}
use Rattle.gix_ref_lookup.specs.declared.find.existing.Error.TheVariants.{Find, NotFound}
use Rattle.gix_ref_store.specs.Store as stores
use Rattle.gix_ref_store.specs.declared.file.store.Store.{Store as StoreValue}
use Rattle.gix_ref_listing.specs.PlainSettings.{lent}

-- a store without its files
abbrev pub settings_of : {F : Type 0} → StoreValue F → Settings
settings_of store = record {
  dirs = lent store.dirs;
  namespace = lent store.namespace;
  kind = stores.kind_of store;
  prohibit_windows_device_names = store.prohibit_windows_device_names;
  precompose_unicode = store.precompose_unicode;
}

-- it composes names where records are asked
abbrev pub composes_in : {F : Type 0} → (asks_records : Bool) → StoreValue F → Bool
composes_in asks_records store = store.precompose_unicode && asks_records

-- why one that has to find something has no reference, where none was found: that, with the name; or no memory for the name
abbrev pub IsNotFound : List ℕ → Missing → Type 0
IsNotFound p (NotFound name) = partial_bytes name ≡ p
IsNotFound p (Find error) = error ≡ Memory

-- this holds where no reference of the name was found
abbrev pub IfNotFound : Missing → Type 0 → Type 0
IfNotFound (NotFound name) P = P
IfNotFound (Find error) P = Unit {0}

-- the records that a buffer of the caller gives a lookup
abbrev pub held : {R : Type 0} {G : Ghosts R} → Option (Bor Buffer) → Records R G
held None = sources.None
held (Some buffer) = sources.Held buffer

-- these are its records; where there is no buffer, there are none
abbrev pub AreHeld : Option (Bor Buffer) → List Record → Type 0
AreHeld None records = records ≡ []
AreHeld (Some buffer) records = HoldsRecords (buffer_kind buffer.now) records
    (buffer_text buffer.now)

-- what a lookup finds, as a loose reference
abbrev pub AnswersLoose : Option Hit → Option Loose → Type 0
AnswersLoose None None = Unit {0}
AnswersLoose (Some hit) (Some r) = (full_bytes r.name ≡ hit.name)
    × (hit.reading ≡ Is (target_value r.target))
AnswersLoose found answer = ⊥

module _ {F : Type 0} (means : F → Meaning) where
  -- the files of a store, without its folders
  abbrev pub view_in : StoreValue F → View
  view_in store = view_of (means (stores.files_of store)).tree

  -- these are the records of the `packed-refs` of a store, which is well formed; where there is no such file, there are none
  abbrev pub AreRecordsIn : StoreValue F → List Record → Type 0
  AreRecordsIn store records = ArePackedRecords (stores.kind_of store)
      (view_in store (packed_refs (stores.folders store))) records

  -- what a lookup of a partial name in a store finds among these records
  abbrev pub hit_in : (asks_records : Bool) → StoreValue F → List Record → List ℕ → Option Hit
  hit_in asks_records store records p = lookup_of (composes_in asks_records store)
      (stores.meaning_of store) (view_in store) records p

  -- a lookup of a partial name in a store finds this among these records; names are composed only where records are asked
  abbrev pub FindsBy : (asks_records : Bool) → StoreValue F → List Record → List ℕ →
      Option Reference → Type 0
  FindsBy asks_records store records p found =
      ReturnsHit (hit_in asks_records store records p) found

  -- and this among these records of its `packed-refs`
  abbrev pub FindsAmong : StoreValue F → List Record → List ℕ → Option Reference → Type 0
  FindsAmong store records p found = FindsBy true store records p found

  -- and this among these records of a buffer of the caller; without one, no records are asked
  abbrev pub FindsHeld : Option (Bor Buffer) → StoreValue F → List Record → List ℕ →
      Option Reference → Type 0
  FindsHeld packed store records p found = FindsBy (is_some packed) store records p found

  -- and this among loose files alone
  abbrev pub FindsLoose : StoreValue F → List ℕ → Option Loose → Type 0
  FindsLoose store p found = AnswersLoose (hit_in false store [] p) found

  -- A lookup of a full name finds this among these records: nothing where the name reads nothing; else what it reads, with the peeled
  -- id of a record, under this name, or a packed one under that of its record less the namespace.
  abbrev pub FindsFull : StoreValue F → List Record → (name : List ℕ) → Option Reference → Type 0
  FindsFull store records name found =
      IsCandidate (stores.meaning_of store) (view_in store) records name found

  -- one that has to find something finds nothing, or fails by a fault, a loose file or want of memory
  abbrev pub MissesBy : (asks_records : Bool) → StoreValue F → List Record → List ℕ →
      Missing → Type 0
  MissesBy asks_records store records p (Find error) = IsSound error
  MissesBy asks_records store records p (NotFound name) = FindsBy asks_records store records p None

  -- and so among the records of its `packed-refs`
  abbrev pub MissesAmong : StoreValue F → List Record → List ℕ → Missing → Type 0
  MissesAmong store records p error = MissesBy true store records p error

  -- it finds this, or so it misses
  abbrev pub FindsExisting : (asks_records : Bool) → StoreValue F → List Record → List ℕ →
      Result Reference Missing → Type 0
  FindsExisting asks_records store records p result = MatchResult result
      (λ r. FindsBy asks_records store records p (Some r)) (MissesBy asks_records store records p)

  -- and so among loose files alone
  abbrev pub MissesLoose : StoreValue F → List ℕ → Missing → Type 0
  MissesLoose store p (Find error) = IsSound error
  MissesLoose store p (NotFound name) = FindsLoose store p None

  -- what is at the path of its `packed-refs`
  abbrev pub packed_refs_at : StoreValue F → Option Content
  packed_refs_at store = (means (stores.files_of store)).tree (packed_refs (stores.folders store))

  -- this is its `packed-refs` in memory; or there is no such file
  abbrev pub OpensBuffer : StoreValue F → Option Buffer → Type 0
  OpensBuffer store None = is_file (packed_refs_at store) ≡ false
  OpensBuffer store (Some buffer) = (is_file (packed_refs_at store) ≡ true)
      × Opened (stores.kind_of store) (bytes_of (packed_refs_at store)) buffer

  -- and it can be opened: there is no such file, or one with some buffer
  abbrev pub CanBeOpened : StoreValue F → Type 0
  CanBeOpened store = (found : Option Buffer) × OpensBuffer store found

  -- why it is not opened
  abbrev pub RefusesBuffer : StoreValue F → OpenError → Type 0
  RefusesBuffer store error = IsRefusedFile (stores.kind_of store) (packed_refs_at store) error

module _ {F R : Type 0} {G : Ghosts R} (means : F → Meaning) where
  -- the records that a lookup in a store asks are these
  abbrev pub AreAskedIn : StoreValue F → Records R G → List Record → Type 0
  AreAskedIn store asked records = AreAsked (stores.kind_of store)
      (view_in means store (packed_refs (stores.folders store))) asked records

  -- and what a lookup leaves of them
  abbrev pub AreStillAskedIn : StoreValue F → (old new : Records R G) → Type 0
  AreStillAskedIn store old new = AreStillAsked (stores.kind_of store)
      (view_in means store (packed_refs (stores.folders store))) old new

  -- on any text of `packed-refs`: nothing is found, since each name that is asked for has no loose file, and no record was found
  abbrev pub SeesNothing : (asks_records : Bool) → StoreValue F → Records R G → List ℕ → Type 0
  SeesNothing asks_records store asked p =
      AreMissing (settings_of store) (view_in means store) asked
      (name_asked (composes_in asks_records store) p)

  -- or what is found is a loose file of a name that is asked for, or a record of it that begins a line
  abbrev pub SeesIn : (asks_records : Bool) → StoreValue F → Records R G → List ℕ →
      Option Reference → Type 0
  SeesIn asks_records store asked p found = MatchOption found
      (SeesNothing asks_records store asked p)
      (IsHitOf (composes_in asks_records store) (settings_of store) (view_in means store) asked p)

  -- the same of a lookup that has to find something, and fails by `NotFound` where it finds nothing
  abbrev pub SeesExisting : (asks_records : Bool) → StoreValue F → Records R G → List ℕ →
      Result Reference Missing → Type 0
  SeesExisting asks_records store asked p result = MatchResult result
      (λ r. SeesIn asks_records store asked p (Some r))
      (λ error. IfNotFound error (SeesNothing asks_records store asked p))

  -- the same of a full name, which alone is asked for
  abbrev pub SeesFull : StoreValue F → Records R G → (name : List ℕ) → Option Reference → Type 0
  SeesFull store asked name found =
      IsSeen (settings_of store) (view_in means store) asked name found

module _ {F : Type 0} (honest : Type 0) (means : F → Meaning) where
  -- What a lookup changes: nothing but the count of faults and the clock; the disk, with what is not synced of it, stays as it is.
  pub record LooksUp (old new : StoreValue F) : Type 0 where
    pub leaves : honest → Leaves (means (stores.files_of old)) (means (stores.files_of new))
        (Unchanged (means (stores.files_of old)).tree)
    pub passes : honest → Passes (means (stores.files_of old)) (means (stores.files_of new))
        (Untouched (disk_of (means (stores.files_of old))))
    pub same : stores.IsSameStore old new

-- a lookup that returns something counts no fault, and the error of one has this
abbrev pub FailsBy : {F A E : Type 0} → (faults : F → FaultCounts) → (old new : StoreValue F) →
    (E → Type 0) → Result A E → Type 0
FailsBy faults old new P result = MatchResult result
    (λ _. faults (stores.files_of new) ≡ faults (stores.files_of old)) P

module _ {F R : Type 0} {G : Ghosts R} (honest : Type 0) (means : F → Meaning)
    (faults : F → FaultCounts) where
  -- why a lookup fails: no memory, or the first of its names that is not passed fails
  abbrev pub FailsIn : (asks_records : Bool) → (old new : StoreValue F) → Records R G → List ℕ →
      Error → Type 0
  FailsIn asks_records old new asked p error =
      (error ≡ Memory)
      ⊎ FailsAmong honest (settings_of old) (means (stores.files_of old)).tree asked
      (faults (stores.files_of old)) (faults (stores.files_of new))
      (asked_names (name_asked (composes_in asks_records old) p)) error

  -- and one of a full name
  abbrev pub FailsFull : (old new : StoreValue F) → Records R G → (name : List ℕ) → Error → Type 0
  FailsFull old new asked name error = CandidateFails honest (settings_of old)
      (means (stores.files_of old)).tree asked
      (faults (stores.files_of old)) (faults (stores.files_of new)) name error

  -- and one that has to find something: it fails, or finds nothing
  abbrev pub MissesIn : (asks_records : Bool) → (old new : StoreValue F) → Records R G → List ℕ →
      Missing → Type 0
  MissesIn asks_records old new asked p (Find error) = FailsIn asks_records old new asked p error
  MissesIn asks_records old new asked p (NotFound name) = partial_bytes name ≡ p
