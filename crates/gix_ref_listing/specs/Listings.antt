-- A listing: what a walk found and the records of `packed-refs`, in the order of their names.
use Rattle.std.specs.Prelude.{◌≡◌, ◌⊎◌, ◌+◌, ℕ, List, [], ◌∷◌, length, map, Option, Some, None, Result, Ok, Err, true}
use Rattle.std.specs.Ordering.{match_ordering, nat_cmp}
use Rattle.std.specs.Cmp.Lexicographic.{slice_cmp}
use Rattle.std.specs.declared.cmp.Ordering.{Ordering}
use Rattle.std.specs.declared.cmp.Ordering.TheVariants.{Less, Greater}
use Rattle.gix_ref_name.specs.Names.{full_ref_bytes}
use Rattle.gix_ref_packed.specs.declared.packed.iter.error.Error.{Error}
use Rattle.gix_ref_lookup.specs.declared.settings.Settings.{Settings}
use Rattle.gix_ref_listing.specs.Walks.{FoundEntry}
use Rattle.gix_ref_listing.specs.OwnRecords.{Own, own_of, AreAhead, ahead_left}
use Rattle.gix_ref_listing.specs.declared.own_records.OwnRecord.{OwnRecord}
use Rattle.gix_ref_listing.specs.declared.merge.Taken.{Taken}
use Rattle.gix_ref_listing.specs.declared.merge.Taken.TheVariants as taking
use Rattle.gix_ref_listing.specs.declared.merge.Merge.{Merge}

-- what a listing has under a name: what a walk found, or a record
pub data Listed : Type 0 where
  Walked : FoundEntry → Listed
  InPacked : Own → Listed

-- before these records comes what was found, where its key is below the first of them; a loose file has precedence over the
-- record of its name; `more` is the rest of what was found among the records that are left
abbrev pub merged_entry : FoundEntry → (more : List Own → List Listed) → List Own → List Listed
merged_entry e more [] = Walked e ∷ more []
merged_entry e more (own ∷ owns) =
    match_ordering (slice_cmp nat_cmp e.0.items own.name) (Walked e ∷ more (own ∷ owns))
    (Walked e ∷ more owns) (InPacked own ∷ merged_entry e more owns)

-- what was found and the records, by ascending names
abbrev pub merged_listing : List FoundEntry → List Own → List Listed
merged_listing [] owns = map InPacked owns
merged_listing (e ∷ found) owns = merged_entry e (merged_listing found) owns

-- what was found comes first, has the same name as the first record, or comes after it
abbrev pub order_of : List FoundEntry → Option (Result OwnRecord Error) → Ordering
order_of [] first = Greater
order_of (e ∷ found) None = Less
order_of (e ∷ found) (Some (Ok own)) = slice_cmp nat_cmp e.0.items (full_ref_bytes own.name)
order_of (e ∷ found) (Some (Err error)) = Greater

-- the first that was found, and what is left of it
abbrev pub TakesFirst : List FoundEntry → Option Taken → List FoundEntry → Type 0
TakesFirst found None left = (found ≡ []) × (left ≡ [])
TakesFirst found (Some (taking.Walked one)) left = (e : FoundEntry) × (e.1 ≡ one)
    × (found ≡ e ∷ left)
TakesFirst found (Some (taking.Packed item)) left = ⊥

-- over any text: what was found stays, except for its first where that is taken
abbrev pub TakesFound : List FoundEntry → Option Taken → List FoundEntry → Type 0
TakesFound found (Some (taking.Walked one)) left = (e : FoundEntry) × (e.1 ≡ one)
    × (found ≡ e ∷ left)
TakesFound found other left = left ≡ found

-- the first of a listing, and what is left then
abbrev pub TakesListed : Settings → List Listed → Option Taken → Merge → Type 0
TakesListed settings listed None t = (listed ≡ []) × (t.found.entries ≡ [])
    × AreAhead settings t.packed []
TakesListed settings listed (Some (taking.Walked found)) t =
    (e : FoundEntry) × (e.1 ≡ found) × (owns : List Own) × AreAhead settings t.packed owns
    × (listed ≡ Walked e ∷ merged_listing t.found.entries owns)
TakesListed settings listed (Some (taking.Packed (Ok own))) t =
    (owns : List Own) × AreAhead settings t.packed owns
    × (listed ≡ InPacked (own_of own) ∷ merged_listing t.found.entries owns)
TakesListed settings listed (Some (taking.Packed (Err error))) t = ⊥

-- the first of a listing is this record, and what is left then
abbrev pub TakesRecord : Settings → List Listed → OwnRecord → Merge → Type 0
TakesRecord settings listed own t =
    (owns : List Own) × AreAhead settings t.packed owns
    × (listed ≡ InPacked (own_of own) ∷ merged_listing t.found.entries owns)

-- what comes next is no record
abbrev pub IsNoRecord : List Listed → Type 0
IsNoRecord [] = Unit {0}
IsNoRecord (Walked e ∷ more) = Unit {0}
IsNoRecord (InPacked own ∷ more) = ⊥

-- what comes next is not lent: it is no record, or the store prohibits device names
abbrev pub IsNotLent : Settings → List Listed → Type 0
IsNotLent settings listed = IsNoRecord listed ⊎ (settings.prohibit_windows_device_names ≡ true)

-- how many items are yet to come at most
abbrev pub merge_left : Merge → ℕ
merge_left m = length m.found.entries + ahead_left m.packed
