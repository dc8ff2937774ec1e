-- What becomes of a packing: one transaction of what is chosen, and each reference reads as it did (`git pack-refs`).
use Rattle.std.specs.Prelude.{◌≡◌, ◌⊎◌, ◌++◌, ◌∷◌, ℕ, List, [], Bool, true, false, Option, None, Some, Result, Ok, Err, Vec, length}
use Rattle.std.specs.List.{Any, filter}
use denote.Ref.{Bor}
use Rattle.std.specs.declared.alloc.Global.{Global}
use Rattle.gix_ref_files.specs.declared.files.FileError.{FileError}
use Rattle.gix_ref_files.specs.Files.{Meaning, FaultCounts}
use Rattle.gix_ref_files.specs.Tree.{Path, Tree}
use Rattle.gix_ref_hash.specs.declared.hash.ObjectId.{ObjectId}
use Rattle.gix_ref_name.specs.declared.namespace.Namespace.{Namespace}
use Rattle.gix_ref_target.specs.PackedRecords.{Record}
use Rattle.gix_ref_packed_text.specs.Positions.{CannotRead, RecordBeginsLine}
use Rattle.gix_ref_packed_text.specs.declared.raw.Reference.{Reference}
use Rattle.gix_ref_packed.specs.Buffers.{buffer_kind, buffer_text, count_open}
use Rattle.gix_ref_packed.specs.declared.packed.buffer.Buffer.{Buffer}
use Rattle.gix_ref_listing.specs.declared.error.Error.{Error as ItemError}
use Rattle.gix_ref_store.specs.Listings.{prefix_of_all}
use Rattle.gix_ref_store.specs.Lookup.{AreRecordsIn, LooksUp, OpensBuffer, RefusesBuffer, settings_of, view_in}
use Rattle.gix_ref_store.specs.Prepared.{HasGoodRecords}
use Rattle.gix_ref_store.specs.Store.{files_of, meaning_of}
use Rattle.gix_ref_store.specs.declared.file.store.Store.{Store}
use Rattle.gix_ref_store.specs.declared.file.transaction.outcome.Done.{Done}
use Rattle.gix_ref_store.specs.declared.file.transaction.outcome.Failed.{Failed}
use Rattle.gix_ref_store.specs.declared.file.transaction.outcome.Refused.{Refused}
use Rattle.gix_ref_transaction.specs.OwnLocks.{paths_of}
use Rattle.gix_ref_transaction.specs.declared.packing.PackedRefs.{PackedRefs}
use Rattle.gix_ref_transaction.specs.declared.packing.PackedRefs.TheVariants as modes
use Rattle.gix_ref_read_back.specs.ListedItems.{AreItemsIn}
use Rattle.gix_ref_read_back.specs.ListedReadings.{AreComposed}
use Rattle.gix_ref_read_back.specs.PlainPromises.{ReadsAsItDid}
use Rattle.gix_ref_read_back.specs.WholeRuns.{IsNotMade, MakesEdited}
use Rattle.gix_ref_read_back.specs.declared.error.Error.TheVariants as unmade
use Rattle.gix_ref_pack.specs.KeptObjects.{AreKeptFor}
use Rattle.gix_ref_pack.specs.KnownObjects.{end_in, is_known}
use Rattle.gix_ref_pack.specs.LooseObjects.{end_with_branches, faults_among, is_chosen, is_tag, key_for, loose_among}
use Rattle.gix_ref_pack.specs.contracts.objects.ObjectsFind.TheImpl.{claims-value, meaning-value}
use Rattle.gix_ref_pack.specs.declared.objects.Objects.{Objects}
use Rattle.gix_ref_pack.specs.declared.pack.Loose.{Loose}
use Rattle.gix_ref_pack.specs.declared.pack.PackError.{PackError}
use Rattle.gix_ref_pack.specs.declared.pack.PackError.TheVariants.{Memory, Open, Find, Prepare, Commit}
use Rattle.gix_ref_pack.specs.declared.pack.Packed.{Packed}
use Rattle.gix_ref_pack.specs.declared.pack.Plan.{Plan}

-- what a packing does with `packed-refs`: loose files of packed references are removed, or kept
abbrev pub uses_of : (prune : Bool) → Objects → PackedRefs Objects
uses_of true objects = modes.DeletionsAndNonSymbolicUpdatesRemoveLooseSourceReference objects
uses_of false objects = modes.DeletionsAndNonSymbolicUpdates objects

-- this holds of a store whose `packed-refs` is well formed or missing, and whose names are composed where it composes names
abbrev pub OfComposed : {F : Type 0} → (means : F → Meaning) → Store F → Type 0 → Type 0
OfComposed means store P = HasGoodRecords means store →
    AreComposed (settings_of store) (view_in means store) → P

-- whether a reference is packed without `--all`, unless there was no memory
abbrev pub TellsChosen : Result Bool PackError → Bool → Type 0
TellsChosen (Ok is) chosen = is ≡ chosen
TellsChosen (Err Memory) chosen = Unit {0}
TellsChosen (Err error) chosen = ⊥

-- records are asked for in vain for one of these reasons: no memory, or one cannot be read
abbrev pub IsAskError : (Unreadable : Type 0) → PackError → Type 0
IsAskError Unreadable Memory = Unit {0}
IsAskError Unreadable (Find error) = Unreadable
IsAskError Unreadable error = ⊥

-- a text has a line that is no record, or a damaged record of this key
abbrev pub HidesKey : (key : List ℕ) → Buffer → Type 0
HidesKey key buffer = CannotRead (buffer_kind buffer) (buffer_text buffer) key

-- a record of this key begins a line of it
abbrev pub HasKey : (key : List ℕ) → Buffer → Type 0
HasKey key buffer = (one : Record) × (one.name ≡ key)
    × RecordBeginsLine (buffer_kind buffer) (buffer_text buffer) one

-- and so of a text that is lent
abbrev pub IsOfLent : (Buffer → Type 0) → Option (Bor Buffer) → Type 0
IsOfLent Is None = ⊥
IsOfLent Is (Some buffer) = Is buffer.now

-- a loose reference is a tag, or the text has its key
abbrev pub IsTagOr : (Has : (key : List ℕ) → Type 0) → Option Namespace → Loose → Type 0
IsTagOr Has namespace l = (is_tag l.name ≡ true) ⊎ Has (key_for namespace l.name)

abbrev pub IsNoTag : Loose → Type 0
IsNoTag l = is_tag l.name ≡ false

-- and which of these are
abbrev pub ChoosesAmong : Option Namespace → List Record → (found : List Loose) →
    Result (Vec Loose Global) PackError → Type 0
ChoosesAmong namespace records found (Ok chosen) =
    chosen.items ≡ filter (is_chosen namespace records) found
ChoosesAmong namespace records found (Err Memory) = Unit {0}
ChoosesAmong namespace records found (Err error) = ⊥

-- of the loose references that were found these are picked: each that is has one property, and each that is not the other
abbrev pub ArePicked : (Is IsNot : Loose → Type 0) → (found picked : List Loose) → Type 0
ArePicked Is IsNot [] picked = picked ≡ []
ArePicked Is IsNot (l ∷ found) picked = (IsNot l × ArePicked Is IsNot found picked)
    ⊎ ((more : List Loose) × (picked ≡ l ∷ more) × Is l × ArePicked Is IsNot found more)

module _ {F : Type 0} (honest : Type 0) (means : F → Meaning) where
  -- the text of `packed-refs`, once it is opened, has this
  abbrev pub HasText : (Buffer → Type 0) → Store F → Type 0
  HasText Is store = (buffer : Buffer) × OpensBuffer means store (Some buffer) × Is buffer

  -- Of the loose references that may be packed these are: with `--all` each, else those that are tags or have a record. Whatever
  -- the lines of `packed-refs` are, each of them is a tag or has a line, and each tag is one of them.
  pub record IsChosen (is_all : Bool) (store : Store F) (found chosen : List Loose) : Type 0 where
    pub all : is_all ≡ true → chosen ≡ found
    pub by_record : is_all ≡ false → honest → (records : List Record) →
        AreRecordsIn means store records → chosen ≡ filter (is_chosen store.namespace records) found
    pub by_line : is_all ≡ false → honest → ArePicked
        (IsTagOr (λ key. HasText (HasKey key) store) store.namespace) IsNoTag found chosen

module _ {F : Type 0} (honest : Type 0) (means : F → Meaning) (faults : F → FaultCounts) where
  -- Why it is not known which of these are packed: no memory; or, without `--all`, `packed-refs` is not opened, by a fault that was
  -- counted or for its text; or the record of one of them cannot be read, as none is where `packed-refs` is well formed.
  abbrev pub IsUnchosen : (is_all : Bool) → (found : List Loose) → (old new : Store F) →
      PackError → Type 0
  IsUnchosen is_all found old new Memory = Unit {0}
  IsUnchosen is_all found old new (Open error) = (is_all ≡ false)
      × ((honest → RefusesBuffer means old error)
      × (faults (files_of new) ≡ count_open (Err error) (faults (files_of old))))
  IsUnchosen is_all found old new (Find error) = (is_all ≡ false)
      × ((honest → Any (λ (l : Loose).
      HasText honest means (HidesKey (key_for old.namespace l.name)) old) found)
      × (honest → HasGoodRecords means old → ⊥))
  IsUnchosen is_all found old new (Prepare error) = ⊥
  IsUnchosen is_all found old new (Commit error) = ⊥

  -- which of these are packed, and then no fault was counted; or why it is not known
  abbrev pub Chooses : (is_all : Bool) → (found : List Loose) → (old new : Store F) →
      Result (Vec Loose Global) PackError → Type 0
  Chooses is_all found old new (Ok chosen) = IsChosen honest means is_all old found chosen.items
      × (faults (files_of new) ≡ faults (files_of old))
  Chooses is_all found old new (Err error) = IsUnchosen is_all found old new error

  -- the loose references of a store were listed, which is `now` since: these are the items of the listing
  pub record AreListed (store now : Store F) (items : List (Result Reference ItemError)) :
      Type 0 where
    pub looked : LooksUp honest means store now
    pub items_are : honest → AreItemsIn honest means faults store (faults (files_of store))
        (faults (files_of now)) [] (prefix_of_all store.namespace) items

  -- What is packed of a store: these are the items of its loose files, and these of them are chosen. The table has what was given, and
  -- the objects of chosen branches; each chosen reference whose object is known is given that, which it has. Faults are handed back.
  -- The store is `now` since, and no fault was counted but those of the listing.
  pub record IsPlanned (is_all : Bool) (objects : Objects) (store now : Store F) (plan : Plan)
      (broken : List ItemError) : Type 0 where
    pub items : List (Result Reference ItemError)
    pub listed : AreListed store now items
    pub chosen : List Loose
    pub are_chosen : IsChosen honest means is_all store (loose_among items) chosen
    pub ends : (id : ObjectId) →
        end_in plan.objects id ≡ end_with_branches chosen (end_in objects id) id
    pub edits : AreKeptFor (filter (λ (l : Loose). is_known plan.objects l.id) chosen)
        plan.edits.items
    pub faults_are : broken ≡ faults_among items

  -- The loose references were listed, but it is not known which of them are packed. The faults among them are handed back, or, where
  -- there was no memory, the first of these.
  pub record IsListedOnly (is_all : Bool) (old new : Store F) (error : PackError)
      (broken : List ItemError) : Type 0 where
    pub items : List (Result Reference ItemError)
    pub mid : Store F
    pub listed : AreListed old mid items
    pub more : List ItemError
    pub faults_are : broken ++ more ≡ faults_among items
    pub all : (error ≡ Memory) ⊎ (more ≡ [])
    pub why : IsUnchosen is_all (loose_among items) mid new error

  -- why it is not known what is packed: so; or they were not listed, since there was no memory
  abbrev pub PlanFails : (is_all : Bool) → (old new : Store F) → PackError →
      (broken : List ItemError) → Type 0
  PlanFails is_all old new error broken = IsListedOnly is_all old new error broken
      ⊎ ((error ≡ Memory) × (broken ≡ []))

  -- it is known what is packed, or why it is not
  abbrev pub PlanComes : (is_all : Bool) → Objects → (old new : Store F) →
      Result Plan PackError → (broken : List ItemError) → Type 0
  PlanComes is_all objects old new (Ok plan) broken = IsPlanned is_all objects old new plan broken
  PlanComes is_all objects old new (Err error) broken = PlanFails is_all old new error broken

  module _ (read : FileError → Type 0) where
    -- what becomes of the transaction of a plan
    abbrev pub PutEnds : (prune : Bool) → Plan → (old new : Store F) → Result ℕ PackError →
        (left : List Path) → Type 0
    PutEnds prune plan old new (Ok count) left =
        (count ≡ length plan.edits.items) × ((done : Done Objects)
        × (paths_of done.locks_left.items ≡ left) × MakesEdited honest means faults
        claims-value.it meaning-value.it (uses_of prune plan.objects) old new None
        plan.edits.items done)
    PutEnds prune plan old new (Err (Prepare error)) left =
        (refused : Refused Objects) × (refused.error ≡ error)
        × (paths_of refused.locks_left.items ≡ left) × IsNotMade honest means faults
        claims-value.it meaning-value.it (uses_of prune plan.objects) read old new None
        plan.edits.items (unmade.Prepare refused)
    PutEnds prune plan old new (Err (Commit error)) left =
        (failed : Failed Objects) × (failed.error ≡ error)
        × (paths_of failed.locks_left.items ≡ left) × IsNotMade honest means faults
        claims-value.it meaning-value.it (uses_of prune plan.objects) read old new None
        plan.edits.items (unmade.Commit failed)
    PutEnds prune plan old new (Err error) left = ⊥

    -- nothing was to be packed, and there was none
    abbrev pub NothingPut : Plan → (old new : Store F) → Result ℕ PackError → (left : List Path) →
        Type 0
    NothingPut plan old new result left = (plan.edits.items ≡ []) × (result ≡ Ok 0)
        × (new ≡ old) × (left ≡ [])

    abbrev pub PutComes : (prune : Bool) → Plan → (old new : Store F) → Result ℕ PackError →
        (left : List Path) → Type 0
    PutComes prune plan old new result left = PutEnds prune plan old new result left
        ⊎ NothingPut plan old new result left

    -- What is planned was put into `packed-refs` by one transaction, or not.
    pub record IsPut (is_all prune : Bool) (objects : Objects) (old new : Store F)
        (packed : Packed) : Type 0 where
      pub mid : Store F
      pub plan : Plan
      pub planned : IsPlanned is_all objects old mid plan packed.broken.items
      pub ends : PutComes prune plan mid new packed.result (paths_of packed.locks_left.items)

    -- it was not known what is packed, and nothing changed
    pub record IsUnplanned (is_all : Bool) (old new : Store F) (packed : Packed) : Type 0 where
      pub error : PackError
      pub is : packed.result ≡ Err error
      pub why : PlanFails is_all old new error packed.broken.items
      pub looked : LooksUp honest means old new
      pub left : paths_of packed.locks_left.items ≡ []

    -- what becomes of a packing
    abbrev pub Packs : (is_all prune : Bool) → Objects → (old new : Store F) → Packed → Type 0
    Packs is_all prune objects old new packed =
        IsPut is_all prune objects old new packed ⊎ IsUnplanned is_all old new packed

  -- in this tree each reference reads as it did
  abbrev pub EachReadsAsItDid : Store F → Tree → Type 0
  EachReadsAsItDid old T = (name : List ℕ) → (meaning_of old).is_reference name ≡ true →
      ReadsAsItDid honest means faults old T name
