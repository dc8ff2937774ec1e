-- The records of `packed-refs` that a listing gives: each has a name whose own key it is.
use Rattle.std.specs.Prelude.{◌≡◌, ◌++◌, ◌+◌, ℕ, List, [], ◌∷◌, length, drop, nat_eq, ◌&&◌, if◌then◌else◌, Option, Some, None, is_none, Result, Ok, Err}
use Rattle.std.specs.List.{starts_with}
use Rattle.std.specs.Option.{option_len}
use Rattle.gix_ref_name.specs.Names.{full_ref_bytes}
use Rattle.gix_ref_name.specs.NameGrammar.{partial_error}
use Rattle.gix_ref_name.specs.declared.namespace.Namespace.{Namespace}
use Rattle.gix_ref_target.specs.PackedRecords.{Record}
use Rattle.gix_ref_packed.specs.Items.{unread}
use Rattle.gix_ref_packed_text.specs.Views.{record_of}
use Rattle.gix_ref_packed.specs.YetToGive.{IsYet}
use Rattle.gix_ref_packed.specs.declared.packed.iter.Iter.{Iter}
use Rattle.gix_ref_packed.specs.declared.packed.iter.error.Error.{Error}
use Rattle.gix_ref_lookup.specs.Lookups.{meaning_in}
use Rattle.gix_ref_lookup.specs.StoreLayout.{namespace_text}
use Rattle.gix_ref_lookup.specs.declared.settings.Settings.{Settings}
use Rattle.gix_ref_listing.specs.declared.own_records.OwnRecord.{OwnRecord}
use Rattle.gix_ref_listing.specs.declared.own_records.OwnRecords.{OwnRecords}
use Rattle.gix_ref_theory.specs.Edits.{is_key}

-- this is what follows the namespace, if there is one, in the key
abbrev pub IsInside : Option Namespace → (key rest : List ℕ) → Type 0
IsInside namespace key rest = key ≡ namespace_text namespace ++ rest

-- the name that has this key, where that is the namespace and the name
unfoldable pub own_name : Settings → (key : List ℕ) → Option (List ℕ)
own_name settings key =
    let namespace = namespace_text settings.namespace.now in
    let name = drop (length namespace) key in
    if starts_with nat_eq key namespace && (is_none (partial_error name)
    && is_key ((meaning_in settings).key name) key) then Some name else None

-- A record that a listing gives, and its name.
pub record Own : Type 0 where
  pub name : List ℕ
  pub of : Record

abbrev pub with_own : Option (List ℕ) → Record → List Own → List Own
with_own None r owns = owns
with_own (Some name) r owns = record { name = name; of = r } ∷ owns

-- of these records, those that a listing gives
abbrev pub own_records : Settings → List Record → List Own
own_records settings [] = []
own_records settings (r ∷ rs) = with_own (own_name settings r.name) r (own_records settings rs)

abbrev pub own_of : OwnRecord → Own
own_of own = record { name = full_ref_bytes own.name; of = record_of own.record }

-- how many bytes of records are not read yet
abbrev pub records_left : Iter → ℕ
records_left it = length (unread it).text

-- the first record of these that a listing gives, and the records that the iterator is yet to give then
abbrev pub GivesOwn : Settings → List Record → Option (Result OwnRecord Error) → Iter → Type 0
GivesOwn settings rs None t = (own_records settings rs ≡ []) × IsYet t []
GivesOwn settings rs (Some (Ok own)) t = (more : List Record)
    × (own_records settings rs ≡ own_of own ∷ own_records settings more) × IsYet t more
GivesOwn settings rs (Some (Err e)) t = ⊥

abbrev pub YetOf : Option Iter → List Record → Type 0
YetOf None rs = rs ≡ []
YetOf (Some it) rs = IsYet it rs

abbrev pub AheadOf : Settings → Option (Result OwnRecord Error) → Option Iter → List Own → Type 0
AheadOf settings None records owns = owns ≡ []
AheadOf settings (Some (Ok own)) records owns = (rs : List Record) × YetOf records rs
    × (owns ≡ own_of own ∷ own_records settings rs)
AheadOf settings (Some (Err e)) records owns = ⊥

-- these are yet to come, without a fault
abbrev pub AreAhead : Settings → OwnRecords → List Own → Type 0
AreAhead settings o owns = AheadOf settings o.first o.records owns

-- the first of these, and those that are yet to come then
abbrev pub TakesOwn : Settings → List Own → Option (Result OwnRecord Error) → OwnRecords → Type 0
TakesOwn settings owns None t = (owns ≡ []) × AreAhead settings t []
TakesOwn settings owns (Some (Ok own)) t = (more : List Own) × (owns ≡ own_of own ∷ more)
    × AreAhead settings t more
TakesOwn settings owns (Some (Err e)) t = ⊥

abbrev pub records_left_of : Option Iter → ℕ
records_left_of None = 0
records_left_of (Some it) = records_left it

-- how many items are yet to come at most
abbrev pub ahead_left : OwnRecords → ℕ
ahead_left o = option_len o.first + records_left_of o.records
