-- Names that are in one another's way: of `refs/heads/a` and `refs/heads/a/b` only one may exist (`git update-ref`).
use Rattle.std.specs.Prelude.{◌≡◌, ◌<◌, ◌⊎◌, ℕ, List, [], ◌∷◌, ◌++◌, length, map, codes, Bool, true, false, if◌then◌else◌, Option, Some, None, Result, Ok, is_some, IfSome, IsSome, MatchBool}
use Rattle.std.specs.Cmp.Lexicographic.{slice_cmp}
use Rattle.std.specs.List.{AllByRecursion, Any, Contains}
use Rattle.std.specs.List.Sorted.{IsPermutation, IsSorted}
use Rattle.std.specs.Ordering.{nat_cmp}
use denote.Ref.{Bor}
use Rattle.gix_ref_edits.specs.RefEdits.{expected_of, matched, name_of}
use Rattle.gix_ref_edits.specs.declared.transaction.RefEdit.{RefEdit}
use Rattle.gix_ref_files.specs.Files.{Meaning, FaultCounts}
use Rattle.gix_ref_files.specs.declared.files.ReadAt.{Ghosts}
use Rattle.gix_ref_listing.specs.Listings.{Listed}
use Rattle.gix_ref_listing.specs.LooseListings.{IsLooseListed}
use Rattle.gix_ref_listing.specs.OwedNames.{IsDue}
use Rattle.gix_ref_listing.specs.PackedTexts.{Ascends}
use Rattle.gix_ref_listing.specs.WholeListings.{IsListing, IsNameOrMet}
use Rattle.gix_ref_listing.specs.declared.error.Error.{Error as ItemError}
use Rattle.gix_ref_listing.specs.declared.list.LooseNames.{LooseNames}
use Rattle.gix_ref_listing.specs.declared.prefix.Error.{Error as ListError}
use Rattle.gix_ref_lookup.specs.declared.find.error.Error.{Error as FindError}
use Rattle.gix_ref_name.specs.NameGrammar.{full_error}
use Rattle.gix_ref_name.specs.Names.{full_bytes}
use Rattle.gix_ref_name.specs.declared.name.FullName.{FullName}
use Rattle.gix_ref_packed.specs.declared.packed.buffer.Buffer.{Buffer}
use Rattle.gix_ref_packed_text.specs.declared.raw.Reference.{Reference}
use Rattle.gix_ref_queries.specs.Resolving.{TargetsByName, NameEnd, Missing, Reached, TooDeep, IsUnfollowedBy, IsUnreadBy, SeesEnd, SeesTarget, targets_in, resolved}
use Rattle.gix_ref_store.specs.Listings.{AreHeldFor, FollowsWalked, IsNoListing, IsRightSince, IsWalkedIn, NextItem, OfPackedText, walked_prefix}
use Rattle.gix_ref_store.specs.Lookup.{AreRecordsIn, LooksUp, settings_of, view_in}
use Rattle.gix_ref_store.specs.Store.{files_of}
use Rattle.gix_ref_store.specs.declared.file.iter.LooseThenPacked.{LooseThenPacked}
use Rattle.gix_ref_store.specs.declared.file.iter.Remaining.{Remaining}
use Rattle.gix_ref_store.specs.declared.file.store.Store.{Store}
use Rattle.gix_ref_target.specs.PackedRecords.{Record}
use Rattle.gix_ref_target.specs.Targets.{TargetValue}
use Rattle.gix_ref_session.specs.declared.fatal.Fatal.{Fatal}
use Rattle.gix_ref_session.specs.declared.fatal.Fatal.TheVariants as fatals

-- a name, where there is no reference of it
abbrev pub missing_own : (name : List ℕ) → Option TargetValue → Option (List ℕ)
missing_own name None = Some name
missing_own name (Some target) = None

-- the last name of a chain of symbolic references, where there is no reference of it
abbrev pub missing_last : NameEnd → Option (List ℕ)
missing_last (Missing last) = Some last
missing_last (Reached last id) = None
missing_last TooDeep = None

-- The name of which an edit makes a reference: there is none of it. Where it follows symbolic references it is the last of the chain,
-- else its own. An edit that expects a value makes none.
abbrev pub made_name : TargetsByName → RefEdit → Option (List ℕ)
made_name find edit =
    if is_some (matched (expected_of edit.change)) then None
    else if edit.deref then missing_last (resolved find 5 (name_of edit))
    else missing_own (name_of edit) (find (name_of edit))

-- a folder of a name: what stands before one of its slashes, where that is a full name
pub record IsFolderOf (folder name : List ℕ) : Type 0 where
  pub rest : List ℕ
  pub is : name ≡ folder ++ 47 ∷ rest
  pub full : full_error folder ≡ None

-- and it ends before this place
abbrev pub IsFolderAt : (at : ℕ) → (folder name : List ℕ) → Type 0
IsFolderAt at folder name = IsFolderOf folder name × (length folder ≡ at)

-- what the names below a name begin with
abbrev pub front_below : List ℕ → List ℕ
front_below name = name ++ 47 ∷ []

-- the bytes of a name
abbrev pub lent_bytes : Bor (List ℕ) → List ℕ
lent_bytes name = name.now

-- why a look failed: there was no memory; for one of these reasons a lookup or a listing failed; or a name is in the way of another
abbrev pub IsFailedLook : (Unread : FindError → Type 0) → (Unlisted : ListError → Type 0) →
    (Clashes : FullName → Type 0) → Fatal → Type 0
IsFailedLook Unread Unlisted Clashes fatals.Memory = Unit {0}
IsFailedLook Unread Unlisted Clashes (fatals.Find error) = Unread error
IsFailedLook Unread Unlisted Clashes (fatals.List error) = Unlisted error
IsFailedLook Unread Unlisted Clashes (fatals.Clash name) = Clashes name
IsFailedLook Unread Unlisted Clashes fatal = ⊥

-- and so where lookups alone may fail
abbrev pub IsFindFailure : (Unread : FindError → Type 0) → Fatal → Type 0
IsFindFailure Unread = IsFailedLook Unread (λ error. ⊥) (λ name. ⊥)

-- these are the names of edits, in order
pub record AreNamesOf (edits : List RefEdit) (names : List (Bor (List ℕ))) : Type 0 where
  pub sorted : IsSorted (λ (a b : Bor (List ℕ)). slice_cmp nat_cmp a.now b.now) names
  pub reordered : IsPermutation (map name_of edits) (map lent_bytes names)

module _ (find : TargetsByName) (edits : List RefEdit) where
  -- a name is taken: there is a reference of it, or an edit of it
  abbrev pub IsTaken : (name : List ℕ) → Type 0
  IsTaken name = IsSome (find name) ⊎ Contains (map name_of edits) name

  -- the folder of a name that ends before this place is taken
  abbrev pub IsTakenAt : (at : ℕ) → (name : List ℕ) → Type 0
  IsTakenAt at name = (folder : List ℕ) × IsFolderAt at folder name × IsTaken folder

  -- a name is below one that is taken
  abbrev pub IsBelowTaken : (name : List ℕ) → Type 0
  IsBelowTaken name = (folder : List ℕ) × IsFolderOf folder name × IsTaken folder

  -- none that ends before this place is
  abbrev pub IsFreeBefore : (at : ℕ) → (name : List ℕ) → Type 0
  IsFreeBefore at name = (folder : List ℕ) → IsFolderOf folder name → length folder < at →
      IsTaken folder → ⊥

  -- no folder of a name is taken
  abbrev pub HasFreeFolders : (name : List ℕ) → Type 0
  HasFreeFolders name = (folder : List ℕ) → IsFolderOf folder name → IsTaken folder → ⊥

  -- no other name is in the way of this one
  pub record IsClearName (ListsNone : (prefix : List ℕ) → Type 0) (name : List ℕ) : Type 0 where
    pub folders : HasFreeFolders name
    pub below : ListsNone (front_below name)

  -- nor of the name that an edit makes
  abbrev pub IsClearEdit : (ListsNone : (prefix : List ℕ) → Type 0) → RefEdit → Type 0
  IsClearEdit ListsNone edit = IfSome (made_name find edit) (IsClearName ListsNone)

module _ {F : Type 0} (honest : Type 0) (means : F → Meaning) where
  -- the listing of a prefix has no item
  abbrev pub ListsNone : Store F → List Record → (prefix : List ℕ) → Type 0
  ListsNone store records prefix =
      IsListing (settings_of store) (view_in means store) records prefix []

  -- no other name is in the way of this one, where these are the records of a store
  abbrev pub IsClearIn : Store F → List Record → List RefEdit → (name : List ℕ) → Type 0
  IsClearIn store records edits name =
      IsClearName (targets_in means store records) edits (ListsNone store records) name

  -- nor of the name that an edit makes
  abbrev pub IsClearEditIn : Store F → List Record → List RefEdit → RefEdit → Type 0
  IsClearEditIn store records edits edit =
      IsClearEdit (targets_in means store records) edits (ListsNone store records) edit

  -- This holds of what is taken: of what lookups in a store find and of the edits that have these names. That is said where the
  -- files are honest and `packed-refs` is well formed or missing.
  abbrev pub OfTaken : Store F → (names : List (Bor (List ℕ))) →
      (TargetsByName → List RefEdit → Type 0) → Type 0
  OfTaken store names P = honest → (records : List Record) → AreRecordsIn means store records →
      (edits : List RefEdit) → AreNamesOf edits names → P (targets_in means store records) edits

  -- and so of the records of a store and of the edits
  abbrev pub OfEdits : Store F → (names : List (Bor (List ℕ))) →
      (List Record → List RefEdit → Type 0) → Type 0
  OfEdits store names P = honest → (records : List Record) → AreRecordsIn means store records →
      (edits : List RefEdit) → AreNamesOf edits names → P records edits

  -- and so after a name of which no folder is taken
  abbrev pub AfterFree : Store F → (names : List (Bor (List ℕ))) → (last : List ℕ) →
      (List Record → List RefEdit → Type 0) → Type 0
  AfterFree store names last P =
      honest → (records : List Record) → AreRecordsIn means store records →
      (edits : List RefEdit) → AreNamesOf edits names →
      HasFreeFolders (targets_in means store records) edits last → P records edits

  -- an edit makes a reference of this name
  abbrev pub Makes : Store F → RefEdit → (name : List ℕ) → Type 0
  Makes store edit name = honest → (records : List Record) → AreRecordsIn means store records →
      made_name (targets_in means store records) edit ≡ Some name

-- What is seen of names on any text of `packed-refs`.
module _ {F : Type 0} (means : F → Meaning) (store : Store F) where
  -- by a lookup there is a reference of a name, or not
  abbrev pub SeesThere : (name : List ℕ) → (there : Bool) → Type 0
  SeesThere name there = (target : Option TargetValue) × SeesTarget means store name target
      × (there ≡ is_some target)

  -- where the chain of a name ends, if there is no reference there
  abbrev pub SeesMissingEnd : (name : List ℕ) → (last : Option (List ℕ)) → Type 0
  SeesMissingEnd name last = (end : NameEnd) × SeesEnd means store 5 name end
      × (last ≡ missing_last end)

  -- the name of which an edit makes a reference, as `made_name`
  abbrev pub SeesMade : RefEdit → (made : Option (List ℕ)) → Type 0
  SeesMade edit made =
      ((is_some (matched (expected_of edit.change)) ≡ true) × (made ≡ None))
      ⊎ ((is_some (matched (expected_of edit.change)) ≡ false)
      × MatchBool edit.deref (SeesMissingEnd (name_of edit) made)
      ((target : Option TargetValue) × SeesTarget means store (name_of edit) target
      × (made ≡ missing_own (name_of edit) target)))

  module _ (edits : List RefEdit) where
    -- a name is taken: there is a reference of it, or an edit of it; or it is not
    abbrev pub SeesTaken : (name : List ℕ) → (taken : Bool) → Type 0
    SeesTaken name taken = MatchBool taken (SeesThere name true ⊎ Contains (map name_of edits) name)
        (SeesThere name false × (Contains (map name_of edits) name → ⊥))

    -- a folder of a name that ends before this place is taken; or none is that ends there
    abbrev pub SeesTakenAt : (at : ℕ) → (name : List ℕ) → (taken : Bool) → Type 0
    SeesTakenAt at name taken = MatchBool taken
        ((folder : List ℕ) × IsFolderAt at folder name × SeesTaken folder true)
        ((folder : List ℕ) → IsFolderAt at folder name → SeesTaken folder false)

    -- a name is below one that is taken
    abbrev pub SeesBelowTaken : (name : List ℕ) → Type 0
    SeesBelowTaken name = (folder : List ℕ) × IsFolderOf folder name × SeesTaken folder true

    -- no folder of a name is that ends before this place
    abbrev pub SeesFreeBefore : (at : ℕ) → (name : List ℕ) → Type 0
    SeesFreeBefore at name = (folder : List ℕ) → IsFolderOf folder name → length folder < at →
        SeesTaken folder false

    -- none is
    abbrev pub SeesFreeFolders : (name : List ℕ) → Type 0
    SeesFreeFolders name = (folder : List ℕ) → IsFolderOf folder name → SeesTaken folder false

-- This holds of the edits that have these names, where the files are honest.
abbrev pub OfEdited : (honest : Type 0) → (names : List (Bor (List ℕ))) →
    (List RefEdit → Type 0) → Type 0
OfEdited honest names P = honest → (edits : List RefEdit) → AreNamesOf edits names → P edits

module _ {F : Type 0} (honest : Type 0) (means : F → Meaning) (faults : F → FaultCounts) where
  -- On any text of `packed-refs`, a listing of a prefix gave an item when the store was looked at. It is a right one: a loose reference, a
  -- record that begins a line, or a fault that was met.
  pub record SeesListed (store : Store F) (prefix : List ℕ) : Type 0 where
    pub start : Store F
    pub looked : LooksUp honest means store start
    pub item : Result Reference ItemError
    pub last : FaultCounts
    pub right : OfPackedText means start prefix
        (λ text. IsRightSince honest means faults start prefix text last item)

  -- It gave none: there is no loose reference of the prefix, and none is due by a line of a record's form where names ascend.
  pub record SeesNone (store : Store F) (prefix : List ℕ) : Type 0 where
    pub start : Store F
    pub looked : LooksUp honest means store start
    pub loose : (name : List ℕ) →
        IsLooseListed (settings_of start) (view_in means start) prefix name → ⊥
    pub due : OfPackedText means start prefix
        (λ text. Ascends text → (name : List ℕ) → IsDue (settings_of start) text name → ⊥)

  abbrev pub SeesBelow : Store F → (prefix : List ℕ) → (any : Bool) → Type 0
  SeesBelow store prefix any = MatchBool any (SeesListed store prefix) (SeesNone store prefix)

  -- an iterator over the names of a walk and the records of a buffer gives an item, or none
  abbrev pub GivesOne : (store : Store F) → LooseNames → Option (Bor Buffer) → (any : Bool) →
      Type 0
  GivesOne store names packed any = (it : LooseThenPacked F Remaining)
      × (next : LooseThenPacked F Remaining) × (item : Option (Result Reference ItemError))
      × FollowsWalked honest means faults store names packed (Ok it)
      × NextItem honest means faults it item next × (any ≡ is_some item)

  -- on any text of `packed-refs`, a name is in the way of another: it is below one that is taken, or one is listed below it
  abbrev pub SeesInTheWay : Store F → List RefEdit → (name : List ℕ) → Type 0
  SeesInTheWay store edits name = SeesBelowTaken means store edits name
      ⊎ SeesListed store (front_below name)

  -- or it is clear: none of its folders is taken, and nothing is listed below it
  abbrev pub SeesClearName : Store F → List RefEdit → (name : List ℕ) → Type 0
  SeesClearName store edits name = SeesFreeFolders means store edits name
      × SeesNone store (front_below name)

  -- which of these it is, where the folders of `last` are free
  abbrev pub SeesClashes : Store F → List RefEdit → (last name : List ℕ) → (clashes : Bool) → Type 0
  SeesClashes store edits last name clashes = MatchBool clashes (SeesInTheWay store edits name)
      (SeesFreeFolders means store edits last → SeesClearName store edits name)

  -- the name that an edit makes is clear
  abbrev pub SeesClearEdit : Store F → List RefEdit → RefEdit → Type 0
  SeesClearEdit store edits edit = (made : Option (List ℕ)) × SeesMade means store edit made
      × IfSome made (SeesClearName store edits)

  -- The edits are clear of one another and of the references of a store: of the names that they make, none has a folder that is
  -- taken, and nothing is listed below one. That is said by records where `packed-refs` is well formed or missing, and on any text of it
  -- by what lookups and listings saw.
  pub record AreClear (store : Store F) (edits : List RefEdit) : Type 0 where
    pub clear : honest → (records : List Record) → AreRecordsIn means store records →
        AllByRecursion
        (IsClearEdit (targets_in means store records) edits (ListsNone honest means store records))
        edits
    pub seen : honest → AllByRecursion (SeesClearEdit store edits) edits

  -- The listing of a prefix has an item: a reference, or a folder that could not be listed, by a fault that was counted when the
  -- store was looked at.
  pub record ListsOne (store : Store F) (records : List Record) (prefix : List ℕ) : Type 0 where
    pub first : Listed
    pub more : List Listed
    pub is : IsListing (settings_of store) (view_in means store) records prefix (first ∷ more)
    pub before : Store F
    pub now : Store F
    pub looked : LooksUp honest means store before
    pub looks : LooksUp honest means before now
    pub met : IsNameOrMet (faults (files_of before)) (faults (files_of now)) first

  -- whether the listing of a prefix has an item
  abbrev pub SaysListed : Store F → List Record → (prefix : List ℕ) → (any : Bool) → Type 0
  SaysListed store records prefix any = MatchBool any
      (ListsOne store records prefix) (ListsNone honest means store records prefix)

  -- This holds of the store in which a walk found these names, and of the records of which a buffer has those of their prefix,
  -- where the files are honest.
  abbrev pub OfWalk : Store F → LooseNames → Option (Bor Buffer) →
      (Store F → List Record → Type 0) → Type 0
  OfWalk store names packed P = honest → (start : Store F) (records : List Record) →
      IsWalkedIn honest means faults start store names →
      AreHeldFor store (walked_prefix names) packed records → P start records

  -- a name is in the way of another: it is below one that is taken, or one is listed below it
  abbrev pub IsInTheWay : Store F → List RefEdit → List Record → (name : List ℕ) → Type 0
  IsInTheWay store edits records name = IsBelowTaken (targets_in means store records) edits name
      ⊎ ListsOne store records (front_below name)

  -- An edit makes a reference of this name, which is in the way of another: where `packed-refs` is well formed or missing, by its
  -- records, and on any text of it, by what lookups and a listing saw.
  pub record IsClash (store : Store F) (edits : List RefEdit) (name : List ℕ)
      (edit : RefEdit) : Type 0 where
    pub makes : Makes honest means store edit name
    pub in_the_way : honest → (records : List Record) → AreRecordsIn means store records →
        IsInTheWay store edits records name
    pub seen : honest → SeesMade means store edit (Some name) × SeesInTheWay store edits name

  module _ {R : Type 0} (G : Ghosts R) where
    -- the listing of a prefix failed with this error, when the store was looked at
    pub record IsNotListed (store : Store F) (prefix : List ℕ) (error : ListError) : Type 0 where
      pub mid : Store F
      pub now : Store F
      pub looked : LooksUp honest means store mid
      pub none : IsNoListing honest means faults G mid now prefix error

    -- an edit makes a reference of a name, below which the listing failed with this error
    pub record IsUnlisted (store : Store F) (error : ListError) (edit : RefEdit) : Type 0 where
      pub name : List ℕ
      pub makes : Makes honest means store edit name
      pub fails : IsNotListed store (front_below name) error

    -- the lookup of the name of an edit failed with this error, or where it follows symbolic references, that of a name on the way
    abbrev pub IsOwnUnread : Store F → RefEdit → FindError → Type 0
    IsOwnUnread store edit error = IsUnreadBy G honest means faults store (name_of edit) error
        ⊎ ((edit.deref ≡ true) × IsUnfollowedBy G honest means faults store (name_of edit) error)

    -- that of a folder of a name did
    abbrev pub IsFolderUnread : Store F → (name : List ℕ) → FindError → Type 0
    IsFolderUnread store name error = (folder : List ℕ) × IsFolderOf folder name
        × IsUnreadBy G honest means faults store folder error

    -- one of these lookups for an edit did: of its name or one on the way, or of a folder of the name of which it makes a reference
    abbrev pub IsEditUnread : Store F → FindError → RefEdit → Type 0
    IsEditUnread store error edit = IsOwnUnread store edit error
        ⊎ ((name : List ℕ) × Makes honest means store edit name × IsFolderUnread store name error)

    -- that of `HEAD` did, which is looked up where lines are written
    abbrev pub IsHeadUnread : Store F → (writes_lines : Bool) → FindError → Type 0
    IsHeadUnread store writes_lines error = (writes_lines ≡ true)
        × IsUnreadBy G honest means faults store (codes "HEAD") error

    -- why a listing failed
    abbrev pub IsListFailure : Store F → (prefix : List ℕ) → Fatal → Type 0
    IsListFailure store prefix = IsFailedLook (λ error. ⊥) (IsNotListed store prefix) (λ name. ⊥)

    -- why it is not known whether a name is in the way of another
    abbrev pub IsNameFailure : Store F → (name : List ℕ) → Fatal → Type 0
    IsNameFailure store name = IsFailedLook (IsFolderUnread store name)
        (IsNotListed store (front_below name)) (λ name. ⊥)

    -- why an edit, one of these, is refused: a look failed; or it makes a reference of this name, which is in the way of another
    abbrev pub IsEditFailure : Store F → (edits : List RefEdit) → RefEdit → Fatal → Type 0
    IsEditFailure store edits edit = IsFailedLook (λ error. IsEditUnread store error edit)
        (λ error. IsUnlisted store error edit)
        (λ name. IsClash store edits (full_bytes name) edit)

    -- why one of these edits is refused
    abbrev pub IsClashFailure : Store F → (edits : List RefEdit) → Fatal → Type 0
    IsClashFailure store edits = IsFailedLook (λ error. Any (IsEditUnread store error) edits)
        (λ error. Any (IsUnlisted store error) edits)
        (λ name. Any (IsClash store edits (full_bytes name)) edits)

    -- Why these edits are not begun: there was no memory; a lookup for one of them failed, or that of `HEAD`; what is below a name that
    -- one of them makes could not be listed; or such a name is in the way of another.
    abbrev pub IsLookFailure : Store F → (writes_lines : Bool) → (edits : List RefEdit) → Fatal →
        Type 0
    IsLookFailure store writes_lines edits = IsFailedLook
        (λ error. IsHeadUnread store writes_lines error ⊎ Any (IsEditUnread store error) edits)
        (λ error. Any (IsUnlisted store error) edits)
        (λ name. Any (IsClash store edits (full_bytes name)) edits)
