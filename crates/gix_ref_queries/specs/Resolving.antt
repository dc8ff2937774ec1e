-- Following a reference from name to name, as Git resolves it: each name is looked up as it is, five at most.
use Rattle.std.specs.Prelude.{◌≡◌, ◌≢◌, ◌⊎◌, ℕ, zero, suc, List, Option, Some, None}
use Rattle.gix_ref_hash.specs.declared.hash.ObjectId.{ObjectId}
use Rattle.gix_ref_name.specs.Names.{full_bytes}
use Rattle.gix_ref_files.specs.Files.{Meaning, FaultCounts}
use Rattle.gix_ref_files.specs.declared.files.ReadAt.{Ghosts}
use Rattle.gix_ref_target.specs.Targets.{TargetValue, target_value}
use Rattle.gix_ref_target.specs.Targets.TargetValue.{object_id, symbolic_name}
use Rattle.gix_ref_theory.specs.Readings.{Reading, reading_among, reading_of_loose}
use Rattle.gix_ref_theory.specs.Readings.Reading.{Is}
use Rattle.gix_ref_lookup.specs.declared.find.records.Records.TheVariants.{Unopened}
use Rattle.gix_ref_lookup.specs.declared.find.error.Error.{Error}
use Rattle.gix_ref_lookup.specs.declared.find.error.Error.TheVariants.{Memory}
use Rattle.gix_ref_target.specs.PackedRecords.{Record}
use Rattle.gix_ref_hash.specs.declared.hash.Kind.{Kind}
use Rattle.gix_ref_packed_text.specs.Positions.{IsNotMalformed}
use Rattle.gix_ref_packed_text.specs.Windows.{HitsRecord}
use Rattle.gix_ref_packed_text.specs.declared.packed.window.Found.{Found}
use Rattle.gix_ref_theory.specs.Views.{View}
use Rattle.gix_ref_lookup.specs.Lookups.{HasNoKey, IsOpenedText, OfKey, meaning_in}
use Rattle.gix_ref_lookup.specs.declared.settings.Settings.{Settings}
use Rattle.gix_ref_store.specs.Lookup.{AreRecordsIn, LooksUp, FailsFull, settings_of, view_in}
use Rattle.gix_ref_store.specs.Store.{meaning_of}
use Rattle.gix_ref_store.specs.declared.file.store.Store.{Store}
use Rattle.gix_ref_queries.specs.declared.resolve.NameRead.{NameRead}
use Rattle.gix_ref_queries.specs.declared.resolve.NameRead.TheVariants as names
use Rattle.gix_ref_queries.specs.declared.resolve.End.{End}
use Rattle.gix_ref_queries.specs.declared.resolve.End.TheVariants as ends
use Rattle.gix_ref_queries.specs.declared.resolve.Followed.{Followed}

-- the target of each full name that has one
abbrev pub TargetsByName : Type 0
TargetsByName = List ℕ → Option TargetValue

-- the target that was read
abbrev pub target_read : Reading → Option TargetValue
target_read (Is target) = Some target
target_read other = None

-- what full names read in a store, among these records
abbrev pub targets_in : {F : Type 0} (means : F → Meaning) → Store F → List Record → TargetsByName
targets_in means store records name =
    target_read (reading_among (meaning_of store) (view_in means store) records name)

-- what full names read in a store has P; that is said where the files are honest and `packed-refs` is well formed or missing
abbrev pub OfTargets : {F : Type 0} (honest : Type 0) (means : F → Meaning) → Store F →
    (TargetsByName → Type 0) → Type 0
OfTargets honest means store P = honest → (records : List Record) →
    AreRecordsIn means store records → P (targets_in means store records)

-- how the following of a name ends: at an object, with the last name; at a name without a reference; or after too many names
pub data NameEnd : Type 0 where
  Reached : (name : List ℕ) (id : ObjectId) → NameEnd
  Missing : (name : List ℕ) → NameEnd
  TooDeep : NameEnd

abbrev pub next_end : (List ℕ → NameEnd) → (name : List ℕ) → Option TargetValue → NameEnd
next_end go name None = Missing name
next_end go name (Some (object_id id)) = Reached name id
next_end go name (Some (symbolic_name next)) = go next

-- how the following of a name ends that looks up so many names at most
abbrev pub resolved : TargetsByName → (most : ℕ) → (name : List ℕ) → NameEnd
resolved find zero name = TooDeep
resolved find (suc most) name = next_end (resolved find most) name (find name)

-- a name is on the way from the first one, over so many names at most: it is the first; or on the way from the one that the first points to
abbrev pub IsOnWay : TargetsByName → (most : ℕ) → (first name : List ℕ) → Type 0
IsOnWay find zero first name = ⊥
IsOnWay find (suc most) first name = (name ≡ first)
    ⊎ ((next : List ℕ) × (find first ≡ Some (symbolic_name next)) × IsOnWay find most next name)

-- the result of reading a name that reads this
abbrev pub ReadsAs : Option TargetValue → NameRead → Type 0
ReadsAs read (names.Is target) = read ≡ Some (target_value target)
ReadsAs read names.Absent = read ≡ None
ReadsAs read (names.Unread error) = Unit {0}
ReadsAs read names.Memory = Unit {0}

-- this holds where a lookup did not fail, and there was memory
abbrev pub IfRead : NameRead → Type 0 → Type 0
IfRead (names.Is target) P = P
IfRead names.Absent P = P
IfRead (names.Unread error) P = Unit {0}
IfRead names.Memory P = Unit {0}

-- the result of following the first name, by the last one; a name that was not read is on the way
abbrev pub EndsBy : TargetsByName → (first last : List ℕ) → End → Type 0
EndsBy find first last (ends.Object id) = resolved find 5 first ≡ Reached last id
EndsBy find first last ends.Absent = resolved find 5 first ≡ Missing last
EndsBy find first last ends.TooDeep = resolved find 5 first ≡ TooDeep
EndsBy find first last (ends.Unread error) = IsOnWay find 5 first last
EndsBy find first last ends.Memory = Unit {0}

abbrev pub EndsAs : TargetsByName → (first : List ℕ) → Followed → Type 0
EndsAs find first followed = EndsBy find first (full_bytes followed.name) followed.end

-- this holds where a following ended by no lookup that failed, and not for want of memory
abbrev pub IfFollowed : End → Type 0 → Type 0
IfFollowed (ends.Unread error) P = Unit {0}
IfFollowed ends.Memory P = Unit {0}
IfFollowed end P = P

-- What is seen of a name on any text of `packed-refs`, in a store with these settings over these files.
module _ (settings : Settings) (view : View) where
  -- the text of records that is kept of `packed-refs` has this
  abbrev pub OfKeptText : (P : Kind → List ℕ → Type 0) → Type 0
  OfKeptText P = (kind : Kind) × (text : List ℕ)
      × IsOpenedText settings.kind (view (meaning_in settings).packed_path) kind text × P kind text

  -- a target: that of its loose file; or there is none, and it is the object of a record of its key that begins a line
  abbrev pub IsSeenAs : (name : List ℕ) → TargetValue → Type 0
  IsSeenAs name target =
      let s = meaning_in settings in
      ((bytes : List ℕ) × (view (s.place name) ≡ Some bytes)
      × (reading_of_loose s (s.target_of bytes) ≡ Is target))
      ⊎ ((view (s.place name) ≡ None) × OfKey s name (λ key. OfKeptText (λ kind text.
      (found : Found) × HitsRecord kind text key found × (target ≡ object_id found.target))))

  -- none: there is no loose file; and it has no key, or there is no `packed-refs`, or that is empty, or has a line of the form of a
  -- record
  abbrev pub IsUnseen : (name : List ℕ) → Type 0
  IsUnseen name =
      let s = meaning_in settings in
      (view (s.place name) ≡ None)
      × (HasNoKey s name ⊎ (view s.packed_path ≡ None) ⊎ OfKeptText IsNotMalformed)

-- how a following ends at a name with this target, or goes on
abbrev pub EndsAfter : (Goes : (next : List ℕ) → NameEnd → Type 0) → (name : List ℕ) →
    Option TargetValue → NameEnd → Type 0
EndsAfter Goes name None end = end ≡ Missing name
EndsAfter Goes name (Some (object_id id)) end = end ≡ Reached name id
EndsAfter Goes name (Some (symbolic_name next)) end = Goes next end

module _ {F : Type 0} (means : F → Meaning) (store : Store F) where
  -- on any text of `packed-refs`, a lookup of the name saw this target, or none
  abbrev pub SeesTarget : (name : List ℕ) → Option TargetValue → Type 0
  SeesTarget name None = IsUnseen (settings_of store) (view_in means store) name
  SeesTarget name (Some target) = IsSeenAs (settings_of store) (view_in means store) name target

  -- so where a name was read
  abbrev pub SeesRead : (name : List ℕ) → NameRead → Type 0
  SeesRead name (names.Is target) = SeesTarget name (Some (target_value target))
  SeesRead name names.Absent = SeesTarget name None
  SeesRead name (names.Unread error) = Unit {0}
  SeesRead name names.Memory = Unit {0}

  -- by what lookups saw, the following of a name that looks up so many names at most ends so
  abbrev pub SeesEnd : (most : ℕ) → (name : List ℕ) → NameEnd → Type 0
  SeesEnd zero name end = end ≡ TooDeep
  SeesEnd (suc most) name end = (target : Option TargetValue) × SeesTarget name target
      × EndsAfter (SeesEnd most) name target end

  -- and a name is on the way from the first one
  abbrev pub SeesOnWay : (most : ℕ) → (first name : List ℕ) → Type 0
  SeesOnWay zero first name = ⊥
  SeesOnWay (suc most) first name = (name ≡ first)
      ⊎ ((next : List ℕ) × SeesTarget first (Some (symbolic_name next))
      × SeesOnWay most next name)

  -- the result of following the first name, by the last one, as lookups saw it; a name that was not read is on the way
  abbrev pub SeesEnds : (first last : List ℕ) → End → Type 0
  SeesEnds first last (ends.Object id) = SeesEnd 5 first (Reached last id)
  SeesEnds first last ends.Absent = SeesEnd 5 first (Missing last)
  SeesEnds first last ends.TooDeep = SeesEnd 5 first TooDeep
  SeesEnds first last (ends.Unread error) = SeesOnWay 5 first last
  SeesEnds first last ends.Memory = Unit {0}

-- The following of a name in a store ends so.
pub record FollowsTo {F : Type 0} (honest : Type 0) (means : F → Meaning) (store : Store F)
    (name : List ℕ) (end : NameEnd) : Type 0 where
  -- by what lookups saw, on any text of `packed-refs`
  pub seen : honest → SeesEnd means store 5 name end
  -- where `packed-refs` is well formed or missing, by its records
  pub exact : honest → (records : List Record) → AreRecordsIn means store records →
      end ≡ resolved (targets_in means store records) 5 name

module _ {F R : Type 0} (G : Ghosts R) (honest : Type 0) (means : F → Meaning)
    (faults : F → FaultCounts) where
  -- the lookup of this name failed with this error, which is not want of memory
  pub record IsUnreadBy (old : Store F) (name : List ℕ) (error : Error) : Type 0 where
    pub mid : Store F
    pub new : Store F
    pub looked : LooksUp honest means old mid
    pub fails : FailsFull {G = G} honest means faults mid new Unopened name error
    pub told : error ≢ Memory

  -- so where a name was not read, and where a following ended at this one
  abbrev pub ReadFails : (old : Store F) → (name : List ℕ) → NameRead → Type 0
  ReadFails old name (names.Unread error) = IsUnreadBy old name error
  ReadFails old name other = Unit {0}

  abbrev pub EndFails : (old : Store F) → (last : List ℕ) → End → Type 0
  EndFails old last (ends.Unread error) = IsUnreadBy old last error
  EndFails old last other = Unit {0}

  -- The following of a name failed with this error, that of the lookup of a name on the way: by what lookups saw, on any text of
  -- `packed-refs`, and where that is well formed or missing, by its records.
  pub record IsUnfollowedBy (old : Store F) (first : List ℕ) (error : Error) : Type 0 where
    pub name : List ℕ
    pub unread : IsUnreadBy old name error
    pub seen : honest → SeesOnWay means old 5 first name
    pub on_way : honest → (records : List Record) → AreRecordsIn means old records →
        IsOnWay (targets_in means old records) 5 first name

  -- and with some error
  abbrev pub IsUnread : (old : Store F) → (first : List ℕ) → Type 0
  IsUnread old first = (error : Error) × IsUnfollowedBy old first error
