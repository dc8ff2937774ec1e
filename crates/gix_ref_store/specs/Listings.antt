-- What a listing of a store gives (`git for-each-ref`).
use Rattle.std.specs.Prelude.{◌≡◌, ◌⊎◌, ℕ, List, [], ◌∷◌, Option, Some, None, Result, Ok, Err, IfOk, MatchResult, codes}
use denote.Ref.{Bor}
use Rattle.std.specs.Iterator.{Yields}
use Rattle.std.specs.List.{AllByRecursion}
use Rattle.gix_ref_name.specs.Names.{full_bytes}
use Rattle.gix_ref_name.specs.declared.namespace.Namespace.{Namespace}
use Rattle.gix_ref_target.specs.PackedRecords.{Record}
use Rattle.gix_ref_files.specs.Files.{Meaning, FaultCounts, NoFewer}
use Rattle.gix_ref_files.specs.declared.files.ReadAt.{Ghosts}
use Rattle.gix_ref_packed.specs.Buffers.{count_open}
use Rattle.gix_ref_packed.specs.OpenFiles.{CountsRefusal}
use Rattle.gix_ref_packed.specs.declared.packed.buffer.Buffer.{Buffer}
use Rattle.gix_ref_packed_text.specs.declared.raw.Reference.{Reference}
use Rattle.gix_ref_listing.specs.CleanPrefixes.{IsAcceptedPrefix, IsRefusedPrefix}
use Rattle.gix_ref_listing.specs.Items.{IsItem, IsOfRecord}
use Rattle.gix_ref_listing.specs.Listings.{Listed, IsNotLent, merge_left}
use Rattle.gix_ref_listing.specs.GoneFiles.{IsFoundOrGone}
use Rattle.gix_ref_listing.specs.LooseListings.{IsFoundIn, IsLooseListed}
use Rattle.gix_ref_listing.specs.OwedNames.{IsDue}
use Rattle.gix_ref_listing.specs.PackedTexts.{Text, Ascends, IsTextItem, IsTextOf}
use Rattle.gix_ref_listing.specs.Walks.{FoundEntry, IsFileOrMet}
use Rattle.gix_ref_listing.specs.OwnRecords.{own_of}
use Rattle.gix_ref_listing.specs.PrefixedRecords.{IsHeldFor, first_line}
use Rattle.gix_ref_listing.specs.PseudoListings.{IsPseudoListing}
use Rattle.gix_ref_listing.specs.Steps.{AreYet, GivesNext, GivesRecord}
use Rattle.gix_ref_listing.specs.WholeListings.{AreHeldOf, IsListing, IsNameOrMet, IsWalkOf, key_in}
use Rattle.gix_ref_listing.specs.declared.error.Error.{Error}
use Rattle.gix_ref_listing.specs.declared.list.LooseNames.{LooseNames}
use Rattle.gix_ref_listing.specs.declared.own_records.OwnRecord.{OwnRecord}
use Rattle.gix_ref_lookup.specs.Lookups.{Among, IsOpenedText, packed_refs_in}
use Rattle.gix_ref_lookup.specs.declared.settings.Settings.{Settings}
use Rattle.gix_ref_theory.specs.Views.{View}
use Rattle.gix_ref_store.specs.Store as stores
use Rattle.gix_ref_store.specs.Lookup.{AreRecordsIn, LooksUp, RefusesBuffer, settings_of, view_in}
use Rattle.gix_ref_store.specs.declared.file.store.Store.{Store}
use Rattle.gix_ref_store.specs.declared.file.iter.LooseThenPacked.{LooseThenPacked}
use Rattle.gix_ref_store.specs.declared.file.iter.Platform.{Platform}
use Rattle.gix_ref_store.specs.declared.file.iter.Remaining.{Remaining}
use Rattle.gix_ref_listing.specs.declared.prefix.Error.{Error as ListError}
use Rattle.gix_ref_listing.specs.declared.prefix.Error.TheVariants.{PackedOpen, Memory}
use Rattle.gix_ref_packed.specs.declared.packed.buffer.open.Error.{Error as OpenError}
use Rattle.gix_ref_packed.specs.declared.packed.buffer.open.Error.TheVariants as opening

-- what the names of a whole listing begin with
abbrev pub prefix_of_all : Option Namespace → List ℕ
prefix_of_all None = codes "refs/"
prefix_of_all (Some namespace) = []

-- the error of a listing where opening `packed-refs` has this one
abbrev pub of_open : OpenError → ListError
of_open opening.Memory = Memory
of_open (opening.Io error) = PackedOpen (opening.Io error)
of_open opening.HeaderParsing = PackedOpen opening.HeaderParsing
of_open (opening.Iter line) = PackedOpen (opening.Iter line)

-- what the names begin with that a walk found
abbrev pub walked_prefix : LooseNames → List ℕ
walked_prefix names = names.prefix.items

-- an item that is a reference
abbrev pub IsReference : Result Reference Error → Type 0
IsReference (Ok r) = Unit {0}
IsReference (Err error) = ⊥

-- the reference of this name
abbrev pub IsNamed : List ℕ → Result Reference Error → Type 0
IsNamed name (Ok r) = full_bytes r.name ≡ name
IsNamed name (Err error) = ⊥

-- a prefix that has a listing is taken; the error says why one has none, or that there was no memory
abbrev pub JudgesPrefix : {T : Type 0} → Option Namespace → List ℕ → Result T ListError → Type 0
JudgesPrefix namespace prefix result = MatchResult result (λ _. IsAcceptedPrefix namespace prefix)
    (λ error. (error ≡ Memory) ⊎ IsRefusedPrefix namespace prefix error)

module _ {F : Type 0} where
  -- how many items are yet to come at most
  abbrev pub items_ahead : LooseThenPacked F Remaining → ℕ
  items_ahead it = merge_left it.rest.merge

  -- the store that it lists
  abbrev pub store_listed : LooseThenPacked F Remaining → Store F
  store_listed it = it.store.now

  -- the buffer was read for the prefix, and has those of these records; or there is no `packed-refs`
  abbrev pub IsReadFor : Store F → (prefix : List ℕ) → Option Buffer → List Record → Type 0
  IsReadFor store prefix found records = IsHeldFor (key_in (settings_of store) prefix) found records

  -- the buffer has the records of the prefix of these; or there is none, and there are none
  abbrev pub AreHeldFor : Store F → (prefix : List ℕ) → Option (Bor Buffer) → List Record → Type 0
  AreHeldFor store prefix packed records = AreHeldOf
      (key_in (settings_of store) prefix) packed records

  -- these are yet to come of an iterator
  abbrev pub AreYetIn : LooseThenPacked F Remaining → List Listed → Type 0
  AreYetIn it listed = AreYet (settings_of it.store.now) it.rest.merge listed

  -- the next of these is not lent by an iterator: it is no record, or the store prohibits device names
  abbrev pub IsNotLentIn : LooseThenPacked F Remaining → List Listed → Type 0
  IsNotLentIn it listed = IsNotLent (settings_of it.store.now) listed

  -- the store of a platform
  abbrev pub platform_store : Platform F (Option Buffer) → Store F
  platform_store p = p.store.now

  -- why `packed-refs` is not opened: a fault, or a text that is refused, or no memory
  abbrev pub IsNotOpened : (means : F → Meaning) → Store F → ListError → Type 0
  IsNotOpened means store error = (why : OpenError) × RefusesBuffer means store why
      × (error ≡ of_open why)

  -- Why `packed-refs` is not opened after a walk, and that the store which is left has counted it, and has not changed otherwise.
  pub record LeavesRefused {R : Type 0} (G : Ghosts R) (honest : Type 0) (means : F → Meaning)
      (faults : F → FaultCounts) (old : Store F) (error : OpenError) : Type 0 where
    pub refuses : RefusesBuffer means old error
    pub walked : FaultCounts
    pub more : NoFewer (faults (stores.files_of old)) walked
    pub left : Store F
    pub looks_up : LooksUp honest means old left
    pub counts : CountsRefusal G.faults walked (faults (stores.files_of left)) error

  -- why a listing of a platform is not made: no memory; the prefix has none, as `Prefix` says; or `packed-refs` is not opened
  abbrev pub IsNoPlatformListing : {R : Type 0} (G : Ghosts R) (honest : Type 0)
      (means : F → Meaning) (faults : F → FaultCounts) → Store F →
      (Prefix : ListError → Type 0) → ListError → Type 0
  IsNoPlatformListing G honest means faults store Prefix (PackedOpen error) = honest →
      LeavesRefused G honest means faults store error
  IsNoPlatformListing G honest means faults store Prefix Memory = Unit {0}
  IsNoPlatformListing G honest means faults store Prefix error = Prefix error

  -- and then nothing has changed but the count of faults, which a fault of files has raised by one
  abbrev pub LeavesUnopened : (honest : Type 0) (means : F → Meaning) (faults : F → FaultCounts) →
      (old new : Store F) → ListError → Type 0
  LeavesUnopened honest means faults old new error =
      LooksUp honest means old new
      × ((why : OpenError) × (error ≡ of_open why)
      × (faults (stores.files_of new) ≡ count_open (Err why) (faults (stores.files_of old))))

  -- A store has no `packed-refs`; or it can be opened, and this holds of the text that is kept of it, which is asked for a prefix.
  abbrev pub OfPackedText : (means : F → Meaning) (store : Store F) (prefix : List ℕ) →
      (P : Text → Type 0) → Type 0
  OfPackedText means store prefix P =
      let kind = stores.kind_of store in
      let file = packed_refs_in (settings_of store) (means (stores.files_of store)) in
      (file ≡ None) ⊎ ((bytes : List ℕ) × (opened : IsOpenedText kind file kind bytes)
      × P (record {
        kind = kind;
        bytes = bytes;
        line = first_line opened;
        key = key_in (settings_of store) prefix;
      }))

  module _ (honest : Type 0) (means : F → Meaning) (faults : F → FaultCounts) where
    -- the faults of its files
    abbrev pub count_in : LooseThenPacked F Remaining → FaultCounts
    count_in it = faults (stores.files_of it.store.now)

    -- One call of `next`: it gives the next item, and changes no file and nothing of the store.
    pub record NextItem (s : LooseThenPacked F Remaining) (r : Option (Result Reference Error))
        (t : LooseThenPacked F Remaining) : Type 0 where
      pub same_reference : t.store.ghost_name ≡ s.store.ghost_name
      pub same_store : stores.IsSameStore s.store.now t.store.now
      pub gives : GivesNext honest means faults (settings_of s.store.now)
          (stores.files_of s.store.now) (stores.files_of t.store.now) s.rest.merge r t.rest.merge

    -- A record that is lent: it is the first of those that are yet to come; and a reference with its name, its id and the id at
    -- which its tag ends is what `next` gives.
    pub record LendsNext (s t : LooseThenPacked F Remaining) (own : OwnRecord) : Type 0 where
      pub gives : GivesRecord (settings_of s.store.now) s.rest.merge t.rest.merge own
      pub next : (r : Reference) → IsOfRecord (own_of own) r → NextItem s (Some (Ok r)) t

    -- These are the first items of a listing, in its order, and `rest` is yet to come. Each is made between two counts of faults,
    -- the first of which is `before`, and the last at most `now`.
    abbrev pub AreFirst : Settings → View → (before now : FaultCounts) →
        (listed rest : List Listed) →
        List (Result Reference Error) → Type 0
    AreFirst settings view before now listed rest [] = NoFewer before now × (listed ≡ rest)
    AreFirst settings view before now listed rest (item ∷ items) =
        (mid : FaultCounts) × (one : Listed) × (more : List Listed) × (listed ≡ one ∷ more)
        × NoFewer before mid × IsItem honest settings view before mid one item
        × AreFirst settings view mid now more rest items

    -- What calls of `next` gave up to the iterator t: the first items of the listing, each as the files of the store are; and a
    -- call gives none only where none is left.
    pub record GivesFirst (store : Store F) (listed : List Listed)
        (it t : LooseThenPacked F Remaining) (items : List (Result Reference Error)) : Type 0 where
      pub rest : List Listed
      pub first : AreFirst (settings_of store) (view_in means store) (count_in it)
          (count_in t) listed rest items
      pub ends : (u : LooseThenPacked F Remaining) → NextItem t None u → rest ≡ []

    -- Whatever the lines of this text of `packed-refs` are, where its names ascend: where calls of `next` give references alone, and
    -- then none, each name that is due by the text is among theirs.
    abbrev pub LacksNone : Settings → Text → LooseThenPacked F Remaining → Type 0
    LacksNone settings text it = Ascends text → (items : List (Result Reference Error))
        (t u : LooseThenPacked F Remaining) → Yields (NextItem) it items t → NextItem t None u →
        AllByRecursion IsReference items → (name : List ℕ) → IsDue settings text name →
        Among (IsNamed name) items

    -- An item of the listing of a prefix of a store, as it is read while the faults go from `before` to `now`: a loose reference, or a
    -- folder that could not be listed by a fault that was counted; or a record or a bad line of the text.
    abbrev pub IsRightItem : (store : Store F) → (prefix : List ℕ) → Text →
        (before now : FaultCounts) → Result Reference Error → Type 0
    IsRightItem store prefix text before now item =
        ((e : FoundEntry) × IsFoundIn (settings_of store) (view_in means store) prefix e
        × IsFileOrMet (faults (stores.files_of store)) now e
        × IsFoundOrGone honest (settings_of store) (view_in means store) before now e.1 item)
        ⊎ IsTextItem (settings_of store) text item

    -- one that was read when the store had been so, and before the faults were these
    abbrev pub IsRightSince : (store : Store F) → (prefix : List ℕ) → Text → (last : FaultCounts) →
        Result Reference Error → Type 0
    IsRightSince store prefix text last item = (before now : FaultCounts)
        × NoFewer (faults (stores.files_of store)) before × NoFewer now last
        × IsRightItem store prefix text before now item

    -- so each item that calls of `next` give
    abbrev pub GivesRight : (store : Store F) → (prefix : List ℕ) → Text →
        LooseThenPacked F Remaining → Type 0
    GivesRight store prefix text it = (items : List (Result Reference Error))
        (s t : LooseThenPacked F Remaining) (item : Result Reference Error) →
        Yields (NextItem) it items s → NextItem s (Some item) t →
        IsRightSince store prefix text (count_in t) item

    -- Each of its items is right by the text, and it lacks no name that is due by it.
    pub record FollowsText (store : Store F) (prefix : List ℕ) (text : Text)
        (it : LooseThenPacked F Remaining) : Type 0 where
      pub gives_right : GivesRight store prefix text it
      pub lacks_none : LacksNone (settings_of store) text it

    -- Whatever the lines of `packed-refs` are: where calls of `next` give references alone, and then none, each loose reference of
    -- the prefix is among theirs.
    abbrev pub LacksNoLoose : (store : Store F) → (prefix : List ℕ) →
        LooseThenPacked F Remaining → Type 0
    LacksNoLoose store prefix it = (items : List (Result Reference Error))
        (t u : LooseThenPacked F Remaining) → Yields (NextItem) it items t → NextItem t None u →
        AllByRecursion IsReference items → (name : List ℕ) →
        IsLooseListed (settings_of store) (view_in means store) prefix name →
        Among (IsNamed name) items

    -- it lacks no loose reference, and follows the text of the `packed-refs` of a store
    abbrev pub FollowsFile : (store : Store F) → (prefix : List ℕ) →
        LooseThenPacked F Remaining → Type 0
    FollowsFile store prefix it = LacksNoLoose store prefix it
        × OfPackedText means store prefix (λ text. FollowsText store prefix text it)

    -- An iterator over the listing of a prefix of a store: whatever its calls give are the first items of the listing. A folder
    -- that could not be listed is among them only with a fault that was counted.
    pub record IteratesListing (store : Store F) (records : List Record) (prefix : List ℕ)
        (it : LooseThenPacked F Remaining) : Type 0 where
      pub listed : List Listed
      pub is : IsListing (settings_of store) (view_in means store) records prefix listed
      pub counts : NoFewer (faults (stores.files_of store)) (count_in it)
      pub names : AllByRecursion
          (IsNameOrMet (faults (stores.files_of store)) (count_in it)) listed
      pub runs : (items : List (Result Reference Error)) (t : LooseThenPacked F Remaining) →
          Yields (NextItem) it items t → GivesFirst store listed it t items

    -- a listing of a prefix of the store, whatever its records are
    abbrev pub ListsIn : (store : Store F) → (prefix : List ℕ) →
        Result (LooseThenPacked F Remaining) ListError → Type 0
    ListsIn store prefix result = (records : List Record) → AreRecordsIn means store records →
        IfOk result (IteratesListing store records prefix)

    -- and one with the records of a buffer that is given
    abbrev pub ListsHeld : (store : Store F) → (prefix : List ℕ) → Option (Bor Buffer) →
        Result (LooseThenPacked F Remaining) ListError → Type 0
    ListsHeld store prefix packed result = (records : List Record) →
        AreHeldFor store prefix packed records → IfOk result (IteratesListing store records prefix)

    -- which lacks no loose reference and follows its text
    abbrev pub FollowsHeld : (store : Store F) → (prefix : List ℕ) → Option (Bor Buffer) →
        Result (LooseThenPacked F Remaining) ListError → Type 0
    FollowsHeld store prefix packed result = IfOk result (LacksNoLoose store prefix)
        × ((text : Text) → IsTextOf (key_in (settings_of store) prefix) packed text →
        IfOk result (FollowsText store prefix text))

    -- and so over the listing of its pseudo references
    pub record IteratesPseudo (store : Store F) (it : LooseThenPacked F Remaining) : Type 0 where
      pub listed : List Listed
      pub is : IsPseudoListing (settings_of store) (view_in means store) listed
      pub counts : NoFewer (faults (stores.files_of store)) (count_in it)
      pub names : AllByRecursion
          (IsNameOrMet (faults (stores.files_of store)) (count_in it)) listed
      pub runs : (items : List (Result Reference Error)) (t : LooseThenPacked F Remaining) →
          Yields (NextItem) it items t → GivesFirst store listed it t items

module _ {F : Type 0} (honest : Type 0) (means : F → Meaning) (faults : F → FaultCounts) where
  -- A walk of the store `start` found these names, and the store is `now` since: nothing has changed but the count of faults.
  pub record IsWalkedIn (start now : Store F) (names : LooseNames) : Type 0 where
    pub walk : IsWalkOf (settings_of start) (view_in means start)
        (faults (stores.files_of start)) (faults (stores.files_of now)) names
    pub counts : NoFewer (faults (stores.files_of start)) (faults (stores.files_of now))
    pub looks_up : LooksUp honest means start now

  -- Why there is no listing: after the walk `packed-refs` is not opened, by a call of files that failed or for its text; the prefix
  -- has none; no memory.
  abbrev pub IsNoListing : {R : Type 0} (G : Ghosts R) → (start new : Store F) → (prefix : List ℕ) →
      ListError → Type 0
  IsNoListing G start new prefix (PackedOpen error) =
      honest → RefusesBuffer means start error × ((walked : FaultCounts)
      × NoFewer (faults (stores.files_of start)) walked
      × CountsRefusal G.faults walked (faults (stores.files_of new)) error)
  IsNoListing G start new prefix Memory = Unit {0}
  IsNoListing G start new prefix error = IsRefusedPrefix start.namespace prefix error

  -- a listing of the names of a walk, with the records of a buffer that is given
  abbrev pub ListsWalked : (now : Store F) → LooseNames → Option (Bor Buffer) →
      Result (LooseThenPacked F Remaining) ListError → Type 0
  ListsWalked now names packed result = (start : Store F) (records : List Record) →
      IsWalkedIn start now names → AreHeldFor now (walked_prefix names) packed records →
      IfOk result (IteratesListing honest means faults start records (walked_prefix names))

  -- which lacks no loose reference and follows its text
  abbrev pub FollowsWalked : (now : Store F) → LooseNames → Option (Bor Buffer) →
      Result (LooseThenPacked F Remaining) ListError → Type 0
  FollowsWalked now names packed result = (start : Store F) → IsWalkedIn start now names →
      IfOk result (LacksNoLoose honest means faults start (walked_prefix names))
      × ((text : Text) → IsTextOf (key_in (settings_of start) (walked_prefix names)) packed text →
      IfOk result (FollowsText honest means faults start (walked_prefix names) text))
