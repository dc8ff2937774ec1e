-- The rows of `git for-each-ref`: one for each reference that is asked for and leads to an object.
use Rattle.std.specs.Prelude.{◌≡◌, ◌⊎◌, ℕ, Bool, true, false, List, [], ◌∷◌, ◌++◌, Option, Some, None, Result, Ok, Err, Vec, map, reverse, take, codes, if◌then◌else◌, MatchBool, MatchResult}
use denote.Ref.{Bor}
use Rattle.std.specs.Iterator.{Drains, Yields, YieldsThen}
use Rattle.std.specs.List.{AllByRecursion, Any, filter, filter_map, find, flat_map}
use Rattle.std.specs.Option.{option_map, option_to_list}
use Rattle.std.specs.declared.alloc.Global.{Global}
use Rattle.gix_ref_files.specs.Files.{Meaning, FaultCounts, NoFewer}
use Rattle.gix_ref_files.specs.declared.files.ReadAt.{Ghosts}
use Rattle.gix_ref_name.specs.Names.{full_bytes, full_ref_bytes}
use Rattle.gix_ref_target.specs.PackedRecords.{Record}
use Rattle.gix_ref_target.specs.Targets.{TargetValue, target_value}
use Rattle.gix_ref_target.specs.Targets.TargetValue.{object_id, symbolic_name}
use Rattle.gix_ref_theory.specs.Views.{View}
use Rattle.gix_ref_packed.specs.declared.packed.buffer.Buffer.{Buffer}
use Rattle.gix_ref_packed_text.specs.declared.raw.Reference.{Reference}
use Rattle.gix_ref_lookup.specs.declared.settings.Settings.{Settings}
use Rattle.gix_ref_listing.specs.CleanPrefixes.{IsAcceptedPrefix}
use Rattle.gix_ref_listing.specs.Listings.{Listed}
use Rattle.gix_ref_listing.specs.WholeListings.{IsListing, IsNameOrMet}
use Rattle.gix_ref_listing.specs.declared.error.Error.{Error as ItemError}
use Rattle.gix_ref_listing.specs.declared.error.Error.TheVariants as item
use Rattle.gix_ref_listing.specs.declared.list.LooseNames.{LooseNames}
use Rattle.gix_ref_listing.specs.declared.prefix.Error.TheVariants as list
use Rattle.gix_ref_store.specs.Listings.{AreFirst, AreHeldFor, FollowsWalked, IsNoListing, IsRightSince, IsWalkedIn, NextItem, OfPackedText, count_in, walked_prefix}
use Rattle.gix_ref_store.specs.Lookup.{AreRecordsIn, LooksUp, settings_of, view_in}
use Rattle.gix_ref_store.specs.Store.{files_of}
use Rattle.gix_ref_store.specs.declared.file.iter.LooseThenPacked.{LooseThenPacked}
use Rattle.gix_ref_store.specs.declared.file.iter.Remaining.{Remaining}
use Rattle.gix_ref_store.specs.declared.file.store.Store.{Store}
use Rattle.gix_ref_queries.specs.Answers.{Says, Fails}
use Rattle.gix_ref_queries.specs.Formats.{format_parts, row_text, shows_short}
use Rattle.gix_ref_queries.specs.ListedNames.{FollowFiles}
use Rattle.gix_ref_queries.specs.Patterns.{has_other_sign, is_asked_by}
use Rattle.gix_ref_queries.specs.Resolving.{TargetsByName, NameEnd, IsUnread, SeesEnd, targets_in, resolved}
use Rattle.gix_ref_queries.specs.Resolving.NameEnd.{Reached}
use Rattle.gix_ref_queries.specs.Shortening.{IsUnshort, SeesShort, short_name}
use Rattle.gix_ref_queries.specs.declared.answer.Answer.{Answer}
use Rattle.gix_ref_queries.specs.declared.format.Part.{Part}
use Rattle.gix_ref_queries.specs.declared.listing.Unlisted.{Unlisted}
use Rattle.gix_ref_queries.specs.declared.listing.Unlisted.TheVariants as unlisted
use Rattle.gix_ref_queries.specs.declared.rows.RowError.{RowError}
use Rattle.gix_ref_queries.specs.declared.rows.RowError.TheVariants as row_error

-- the row of a symbolic reference, where its following ends at an object
abbrev pub followed_row : List Part → (name short : List ℕ) → NameEnd → Option (List ℕ)
followed_row parts name short (Reached last id) =
    Some (row_text parts (record { name = name; short = short; id = id; symref = last }))
followed_row parts name short end = None

-- and that of a reference to this target
abbrev pub target_row : TargetsByName → List Part → (name short : List ℕ) → TargetValue →
    Option (List ℕ)
target_row find parts name short (object_id id) =
    Some (row_text parts (record { name = name; short = short; id = id; symref = [] }))
target_row find parts name short (symbolic_name target) =
    followed_row parts name short (resolved find 5 name)

-- the short name of a reference, where a format shows it
abbrev pub shown_short : TargetsByName → List Part → (name : List ℕ) → List ℕ
shown_short find parts name = if shows_short parts then short_name find true name else []

-- the row of a reference, if it leads to an object
abbrev pub row_of : TargetsByName → List Part → Reference → Option (List ℕ)
row_of find parts reference =
    let name = full_bytes reference.name in
    target_row find parts name (shown_short find parts name) (target_value reference.target)

-- the rows of these references
abbrev pub rows_of : TargetsByName → List Part → List Reference → List (List ℕ)
rows_of find parts references = filter_map (row_of find parts) references

-- a reference is asked for
abbrev pub is_asked : (patterns : List (List ℕ)) → Reference → Bool
is_asked patterns reference = is_asked_by patterns (full_bytes reference.name)

-- by ascending names, as a listing has them, or by descending ones
abbrev pub ordered : (descending : Bool) → List (List ℕ) → List (List ℕ)
ordered descending rows = if descending then reverse rows else rows

-- the first so many rows, or all
abbrev pub counted : Option ℕ → List (List ℕ) → List (List ℕ)
counted None rows = rows
counted (Some count) rows = take count rows

-- the bytes of rows
abbrev pub row_texts : List (Vec ℕ Global) → List (List ℕ)
row_texts rows = map (λ (row : Vec ℕ Global). row.items) rows

-- and those of a row, if one was made
abbrev pub row_made : Option (Vec ℕ Global) → Option (List ℕ)
row_made row = option_map (λ (text : Vec ℕ Global). text.items) row

-- the text of rows
abbrev pub row_lines : List (List ℕ) → List ℕ
row_lines rows = flat_map (λ (row : List ℕ). row ++ codes "\n") rows

-- an item for each reference
abbrev pub as_items : List Reference → List (Result Reference ItemError)
as_items references =
    map (λ (reference : Reference). let made : Result Reference ItemError = Ok reference in made)
    references

-- the path of a fault in a listing, after what it means
abbrev pub fault_text : ItemError → List ℕ
fault_text (item.Traversal source path) =
    codes "cannot list the folder '" ++ (path.items ++ codes "'")
fault_text (item.ReadFileContents source path) = codes "cannot read '" ++ (path.items ++ codes "'")
fault_text (item.ReferenceCreation source path) =
    codes "no reference in '" ++ (path.items ++ codes "'")
fault_text (item.PackedReference line number) =
    codes "unexpected line in packed-refs: " ++ line.items
fault_text item.Memory = []

-- the error for references that are not listed; want of memory has none
abbrev pub IsItemFault : ItemError → Answer → Type 0
IsItemFault item.Memory answer = ⊥
IsItemFault error answer = Fails (fault_text error) answer

abbrev pub IsUnlistedAs : Unlisted → Answer → Type 0
IsUnlistedAs (unlisted.Prefix (list.PackedOpen error)) answer =
    Fails (codes "cannot read packed-refs") answer
IsUnlistedAs (unlisted.Prefix list.Memory) answer = ⊥
IsUnlistedAs (unlisted.Prefix error) answer = Fails (codes "cannot list 'refs/'") answer
IsUnlistedAs (unlisted.Item error) answer = IsItemFault error answer

-- a reference points to another one
abbrev pub IsSymbolic : Reference → Type 0
IsSymbolic reference = (next : List ℕ) × (target_value reference.target ≡ symbolic_name next)

-- why the row of a reference of this name is not made: a lookup failed, for this reason; or there was no memory
abbrev pub IsRowError : (Unread : Type 0) → (name : List ℕ) → RowError → Type 0
IsRowError Unread name (row_error.Unread unread) = Unread × (full_ref_bytes unread ≡ name)
IsRowError Unread name row_error.Memory = Unit {0}

-- the error for a reference that cannot be followed
abbrev pub IsUnfollowedAs : RowError → Answer → Type 0
IsUnfollowedAs (row_error.Unread name) answer =
    Fails (codes "cannot follow '" ++ (full_ref_bytes name ++ codes "'")) answer
IsUnfollowedAs row_error.Memory answer = ⊥

-- What rows are on any text of `packed-refs`, where followings end as lookups saw it.
module _ {F : Type 0} (means : F → Meaning) (store : Store F) where
  -- what a row shows for a short name: nothing, where the format shows none
  abbrev pub SeesShown : List Part → (name short : List ℕ) → Type 0
  SeesShown parts name short =
      MatchBool (shows_short parts) (SeesShort means store true name short) (short ≡ [])

  -- the row of a symbolic reference
  abbrev pub SeesFollowedRow : List Part → (name short : List ℕ) → (row : Option (List ℕ)) → Type 0
  SeesFollowedRow parts name short row = (end : NameEnd) × SeesEnd means store 5 name end
      × (row ≡ followed_row parts name short end)

  -- that of a reference to this target
  abbrev pub SeesTargetRow : List Part → (name short : List ℕ) → TargetValue →
      (row : Option (List ℕ)) → Type 0
  SeesTargetRow parts name short (object_id id) row =
      row ≡ Some (row_text parts (record { name = name; short = short; id = id; symref = [] }))
  SeesTargetRow parts name short (symbolic_name target) row =
      SeesFollowedRow parts name short row

  abbrev pub SeesRow : List Part → Reference → (row : Option (List ℕ)) → Type 0
  SeesRow parts reference row = let name = full_bytes reference.name in
      (short : List ℕ) × SeesShown parts name short
      × SeesTargetRow parts name short (target_value reference.target) row

  -- and those of these references
  abbrev pub SeesRows : List Part → List Reference → (rows : List (List ℕ)) → Type 0
  SeesRows parts [] rows = rows ≡ []
  SeesRows parts (reference ∷ references) rows = (row : Option (List ℕ))
      × (more : List (List ℕ)) × SeesRow parts reference row × SeesRows parts references more
      × (rows ≡ option_to_list row ++ more)

module _ {F : Type 0} (honest : Type 0) (means : F → Meaning) (faults : F → FaultCounts) where
  -- What the next call of an iterator gives: a reference or none, or a fault.
  abbrev pub GivesReference : (old new : LooseThenPacked F Remaining) →
      Result (Option Reference) ItemError → Type 0
  GivesReference old new (Ok None) = NextItem honest means faults old None new
  GivesReference old new (Ok (Some reference)) =
      NextItem honest means faults old (Some (Ok reference)) new
  GivesReference old new (Err error) = NextItem honest means faults old (Some (Err error)) new

  -- What an iterator gave up to its end, of which these references were asked for.
  pub record Collects (patterns : List (List ℕ)) (old new : LooseThenPacked F Remaining)
      (found : List Reference) : Type 0 where
    pub all : List Reference
    pub last : LooseThenPacked F Remaining
    pub gives : Yields (NextItem honest means faults) old (as_items all) last
    pub ends : NextItem honest means faults last None new
    pub asked : found ≡ filter (is_asked patterns) all

  -- An iterator gave references, and then this fault; or there was no memory.
  abbrev pub StopsAtItem : (old new : LooseThenPacked F Remaining) → ItemError → Type 0
  StopsAtItem old new error = (error ≡ item.Memory) ⊎ ((all : List Reference)
      × YieldsThen (NextItem honest means faults) old (as_items all) (Some (Err error)) new)

  -- Items of the listing of a prefix, between two counts of faults: the first ones, before `rest`. A folder that could not be listed is
  -- among them only with a fault that was counted.
  pub record AreListed (settings : Settings) (view : View) (before now : FaultCounts)
      (records : List Record) (prefix : List ℕ) (rest : List Listed)
      (items : List (Result Reference ItemError)) : Type 0 where
    pub listed : List Listed
    pub is : IsListing settings view records prefix listed
    pub names : AllByRecursion (IsNameOrMet before now) listed
    pub first : AreFirst honest means faults settings view before now listed rest items

  -- and so of a store, up to another state of it
  abbrev pub AreListedIn : (old new : Store F) → List Record → (prefix : List ℕ) →
      (rest : List Listed) → List (Result Reference ItemError) → Type 0
  AreListedIn old new records prefix rest items = AreListed (settings_of old) (view_in means old)
      (faults (files_of old)) (faults (files_of new)) records prefix rest items

  -- a listing goes up to this fault; or there was no memory
  abbrev pub EndsAtItem : (old new : Store F) → List Record → (prefix : List ℕ) → ItemError → Type 0
  EndsAtItem old new records prefix error = (error ≡ item.Memory) ⊎ ((all : List Reference)
      × (rest : List Listed)
      × AreListedIn old new records prefix rest (as_items all ++ Err error ∷ []))

  -- an iterator over the names of a walk and the records of a buffer gives these references, and no more
  abbrev pub GivesAll : (old : Store F) → LooseNames → (packed : Option (Bor Buffer)) →
      (all : List Reference) → Type 0
  GivesAll old names packed all = (it : LooseThenPacked F Remaining)
      × FollowsWalked honest means faults old names packed (Ok it)
      × Drains (NextItem honest means faults) it (as_items all)

  -- or it gives some references, and then this fault; or there was no memory
  abbrev pub GivesFault : (old new : Store F) → LooseNames → (packed : Option (Bor Buffer)) →
      ItemError → Type 0
  GivesFault old new names packed error =
      (error ≡ item.Memory) ⊎ ((it : LooseThenPacked F Remaining)
      × (end : LooseThenPacked F Remaining) × (all : List Reference)
      × FollowsWalked honest means faults old names packed (Ok it)
      × YieldsThen (NextItem honest means faults) it (as_items all) (Some (Err error)) end
      × NoFewer (count_in honest means faults end) (faults (files_of new)))

  -- what is found of the references of a listing, among the names of a walk and the records of a buffer
  abbrev pub FindsAmongNames : (old new : Store F) → LooseNames → (packed : Option (Bor Buffer)) →
      (patterns : List (List ℕ)) → Result (Vec Reference Global) ItemError → Type 0
  FindsAmongNames old new names packed patterns (Ok found) = (all : List Reference)
      × (found.items ≡ filter (is_asked patterns) all)
      × (honest → GivesAll old names packed all × ((start : Store F) (records : List Record) →
      IsWalkedIn honest means faults start old names →
      AreHeldFor old (walked_prefix names) packed records →
      AreListedIn start new records (walked_prefix names) [] (as_items all)))
  FindsAmongNames old new names packed patterns (Err error) = honest →
      GivesFault old new names packed error × ((start : Store F) (records : List Record) →
      IsWalkedIn honest means faults start old names →
      AreHeldFor old (walked_prefix names) packed records →
      EndsAtItem start new records (walked_prefix names) error)

  -- The references of a prefix that are asked for, of all of them. None is lacking or wrong, whatever the lines of `packed-refs` are.
  abbrev pub ListsAsked : (old new : Store F) → (prefix : List ℕ) → (patterns : List (List ℕ)) →
      List Reference → Type 0
  ListsAsked old new prefix patterns references = IsAcceptedPrefix old.namespace prefix
      × (all : List Reference) × (references ≡ filter (is_asked patterns) all)
      × (honest → FollowFiles honest means faults old prefix all
      × ((records : List Record) → AreRecordsIn means old records →
      AreListedIn old new records prefix [] (as_items all)))

  module _ {R : Type 0} (G : Ghosts R) where
    -- Why the references of a prefix are not listed: there is no listing; or an item of it is a fault, of a file or a folder, or of a
    -- record or a line of `packed-refs` that is no record.
    abbrev pub IsUnlisted : (old new : Store F) → (prefix : List ℕ) → Unlisted → Type 0
    IsUnlisted old new prefix (unlisted.Prefix error) =
        IsNoListing honest means faults G old new prefix error
    IsUnlisted old new prefix (unlisted.Item error) = honest → ((error ≡ item.Memory)
        ⊎ OfPackedText means old prefix (λ text. IsRightSince honest means faults old prefix text
        (faults (files_of new)) (Err error)))
        × ((records : List Record) → AreRecordsIn means old records →
        EndsAtItem old new records prefix error)

    -- the references of a prefix that are asked for are listed so, or this is why not
    abbrev pub ListsAs : (old new : Store F) → (prefix : List ℕ) → (patterns : List (List ℕ)) →
        Result (Vec Reference Global) Unlisted → Type 0
    ListsAs old new prefix patterns listed = MatchResult listed
        (λ found. ListsAsked old new prefix patterns found.items) (IsUnlisted old new prefix)

    -- a format shows short names, and a lookup for that of a reference failed
    abbrev pub IsUnreadShort : (old : Store F) → List Part → (name : List ℕ) → Type 0
    IsUnreadShort old parts name = (shows_short parts ≡ true)
        × IsUnshort G honest means faults true old name

    -- a lookup for the row of a reference failed: it is symbolic, and its following failed; or one for its short name did
    abbrev pub IsUnreadRow : (old : Store F) → List Part → Reference → Type 0
    IsUnreadRow old parts reference =
        (IsSymbolic reference × IsUnread G honest means faults old (full_bytes reference.name))
        ⊎ IsUnreadShort old parts (full_bytes reference.name)

    -- why rows of these references are not made: a lookup failed for the row of the one that is named; or there was no memory
    abbrev pub IsUnfollowed : (old : Store F) → List Part → List Reference → RowError → Type 0
    IsUnfollowed old parts references (row_error.Unread name) = Any (λ (reference : Reference).
        (full_bytes reference.name ≡ full_ref_bytes name) × IsUnreadRow old parts reference)
        references
    IsUnfollowed old parts references row_error.Memory = Unit {0}

    -- `for-each-ref` where the format and the patterns are supported: the references are not listed; or one of them cannot be followed; or
    -- a row for each that leads to an object, in the order that was asked for, and so many
    abbrev pub EachListed : (old new : Store F) → List Part → (patterns : List (List ℕ)) →
        (descending : Bool) → (count : Option ℕ) → Answer → Type 0
    EachListed old new parts patterns descending count answer =
        ((why : Unlisted) × IsUnlisted old new (codes "refs/") why × IsUnlistedAs why answer)
        ⊎ ((mid : Store F) × (references : List Reference) × LooksUp honest means old mid
        × ListsAsked old mid (codes "refs/") patterns references
        × (((why : RowError) × IsUnfollowed old parts references why × IsUnfollowedAs why answer)
        ⊎ ((rows : List (List ℕ))
        × Says (row_lines (counted count (ordered descending rows))) 0 answer
        × (honest → SeesRows means old parts references rows
        × ((records : List Record) → AreRecordsIn means old records →
        rows ≡ rows_of (targets_in means old records) parts references)))))

    -- `for-each-ref`: a field of the format or a pattern is not supported; or what is answered of the references
    abbrev pub EachAnswer : (old new : Store F) → (format : List ℕ) → (patterns : List (List ℕ)) →
        (descending : Bool) → (count : Option ℕ) → Answer → Type 0
    EachAnswer old new format patterns descending count answer =
        ((field : List ℕ) × (format_parts format ≡ Err field)
        × Fails (codes "unsupported field: %" ++ field) answer)
        ⊎ ((parts : List Part) × (format_parts format ≡ Ok parts)
        × (((pattern : List ℕ) × (find (has_other_sign false) patterns ≡ Some pattern)
        × Fails (codes "unsupported pattern: " ++ pattern) answer)
        ⊎ ((find (has_other_sign false) patterns ≡ None)
        × EachListed old new parts patterns descending count answer)))
