-- What a listing owes over any text of `packed-refs`: each name that is asked for and has a line of it, or the fault of a line.
use Rattle.std.specs.Prelude.{◌≡◌, ℕ, List, ◌∷◌, Option, Some, None, Result, Ok, Err}
use Rattle.std.specs.List.{All, Contains}
use Rattle.gix_ref_name.specs.Names.{full_bytes, full_ref_bytes}
use Rattle.gix_ref_packed_text.specs.declared.raw.Reference.{Reference}
use Rattle.gix_ref_packed.specs.YetToGive.{IsAsked, Owes}
use Rattle.gix_ref_packed.specs.declared.packed.iter.Iter.{Iter}
use Rattle.gix_ref_packed.specs.declared.packed.iter.error.Error.{Error as LineError}
use Rattle.gix_ref_lookup.specs.declared.settings.Settings.{Settings}
use Rattle.gix_ref_listing.specs.OwnRecords.{own_name, own_of}
use Rattle.gix_ref_listing.specs.PackedTexts.{Text, Ascends, IsLineOf, IsRecordOf, IsRest, IsTextItem}
use Rattle.gix_ref_listing.specs.Walks.{FoundEntry}
use Rattle.gix_ref_listing.specs.declared.error.Error.{Error}
use Rattle.gix_ref_listing.specs.declared.found.Found.TheVariants.{File, Unlisted}
use Rattle.gix_ref_listing.specs.declared.merge.Merge.{Merge}
use Rattle.gix_ref_listing.specs.declared.merge.Taken.{Taken}
use Rattle.gix_ref_listing.specs.declared.merge.Taken.TheVariants as taking
use Rattle.gix_ref_listing.specs.declared.own_records.OwnRecord.{OwnRecord}
use Rattle.gix_ref_listing.specs.declared.own_records.OwnRecords.{OwnRecords}

-- A line of the text, of a record's form, has a key that is asked for, and this is the name of that, whatever the lines are.
pub record IsDue (settings : Settings) (text : Text) (name : List ℕ) : Type 0 where
  pub of : List ℕ
  pub asked : IsAsked text.kind text.bytes text.key of
  pub own : own_name settings of ≡ Some name

-- the names that were given, where no fault was
abbrev pub Given : Type 0
Given = Option (List (List ℕ))

-- and one more
abbrev pub with_name : List ℕ → Given → Given
with_name name None = None
with_name name (Some names) = Some (name ∷ names)

-- each name that is due was given, where no fault was, and the names of the text ascend
abbrev pub AreAllGiven : Settings → Text → Given → Type 0
AreAllGiven settings text None = Unit {0}
AreAllGiven settings text (Some names) = Ascends text → (name : List ℕ) →
    IsDue settings text name → Contains names name

-- the names of these keys are among these
abbrev pub HaveNames : Settings → (keys names : List (List ℕ)) → Type 0
HaveNames settings keys names = (key : List ℕ) → Contains keys key → (name : List ℕ) →
    own_name settings key ≡ Some name → Contains names name

-- so an iterator owes records of the others
abbrev pub OwesKeys : Settings → Text → Given → Iter → Type 0
OwesKeys settings text None it = Unit {0}
OwesKeys settings text (Some names) it = Ascends text → (keys : List (List ℕ))
    × HaveNames settings keys names × Owes text.kind text.bytes text.key keys it

-- where these names were given, an iterator over the rest of the text owes the others
abbrev pub OwesOthers : Settings → Text → Given → Option Iter → Type 0
OwesOthers settings text given None = AreAllGiven settings text given
OwesOthers settings text given (Some it) = IsRest text it × OwesKeys settings text given it

-- and so where the next record was taken, or a line that is none; after that it owes no name
abbrev pub OwesAfter : Settings → Text → Given → Option (Result OwnRecord LineError) →
    Option Iter → Type 0
OwesAfter settings text given None records = AreAllGiven settings text given
OwesAfter settings text given (Some (Ok own)) records = IsRecordOf settings text (own_of own)
    × OwesOthers settings text (with_name (full_ref_bytes own.name) given) records
OwesAfter settings text given (Some (Err e)) records = IsLineOf text e
    × OwesOthers settings text None records

-- and so of records whose first is read ahead
abbrev pub OwesOwn : Settings → Text → Given → OwnRecords → Type 0
OwesOwn settings text given o = OwesAfter settings text given o.first o.records

-- what they owe once the next was taken
abbrev pub PaysOwn : Settings → Text → Given → Option (Result OwnRecord LineError) → OwnRecords →
    Type 0
PaysOwn settings text given None t = AreAllGiven settings text given
PaysOwn settings text given (Some (Ok own)) t = IsRecordOf settings text (own_of own)
    × OwesOwn settings text (with_name (full_ref_bytes own.name) given) t
PaysOwn settings text given (Some (Err e)) t = IsLineOf text e × OwesOwn settings text None t

-- a file was found under its name
abbrev pub IsUnderItsName : FoundEntry → Type 0
IsUnderItsName (key, File name path) = full_bytes name ≡ key.items
IsUnderItsName (key, Unlisted path error) = Unit {0}

-- What is yet to come of a listing is what was found, and what the text has from a line on. It has each other name that is due, where
-- these were given; or a fault is yet to come.
pub record OwesNames (settings : Settings) (text : Text) (given : Given) (m : Merge) : Type 0 where
  pub found : All IsUnderItsName m.found.entries
  pub packed : OwesOwn settings text given m.packed

-- and so once the next was taken
abbrev pub PaysTaken : Settings → Text → Given → Option Taken → Merge → Type 0
PaysTaken settings text given None t = AreAllGiven settings text given
PaysTaken settings text given (Some (taking.Walked (File name path))) t = OwesNames settings text
    (with_name (full_bytes name) given) t
PaysTaken settings text given (Some (taking.Walked (Unlisted path error))) t = OwesNames settings
    text None t
PaysTaken settings text given (Some (taking.Packed (Ok own))) t =
    IsRecordOf settings text (own_of own)
    × OwesNames settings text (with_name (full_ref_bytes own.name) given) t
PaysTaken settings text given (Some (taking.Packed (Err error))) t = IsLineOf text error
    × OwesNames settings text None t

-- the names that were given up to this item
abbrev pub given_with : Result Reference Error → Given → Given
given_with (Ok r) given = with_name (full_bytes r.name) given
given_with (Err error) given = None

-- And so once the next was given as an item, which was read from the text, unless it was found: these are yet to come of what was
-- found. At the end each name that is due was given.
abbrev pub PaysItem : Settings → Text → Given → (found : List FoundEntry) →
    Option (Result Reference Error) → Merge → Type 0
PaysItem settings text given found None t = AreAllGiven settings text given
PaysItem settings text given found (Some item) t =
    OwesNames settings text (given_with item given) t
    × (t.found.entries ≡ found → IsTextItem settings text item)
