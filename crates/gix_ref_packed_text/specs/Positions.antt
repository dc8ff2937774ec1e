-- Where records lie in a text, and the filter of a list of records by a name.
use Rattle.std.specs.Prelude.{◌≡◌, ◌≢◌, ◌<◌, ◌≤◌, ◌-◌, ◌+◌, ◌⊎◌, ℕ, Bool, true, List, [], slice_index, length, drop, Option, Some, None, MatchOption}
use Rattle.std.specs.List.{All}
use Rattle.std.specs.Cmp.Lexicographic.{slice_cmp}
use Rattle.std.specs.Ordering.{nat_cmp}
use Rattle.std.specs.declared.cmp.Ordering.{Ordering}
use Rattle.std.specs.declared.cmp.Ordering.TheVariants.{Equal}
use Rattle.gix_ref_hash.specs.declared.hash.Kind.{Kind}
use Rattle.gix_ref_hash.specs.Bytes.{StopsAt}
use Rattle.gix_ref_hash.specs.Ids.{IsHexOf}
use Rattle.gix_ref_name.specs.NameGrammar.{IsFullName}
use Rattle.gix_ref_target.specs.PackedRecords.{record_named, Record}
use Rattle.gix_ref_packed_text.specs.RecordGrammar.{RecordLine, Takes, TakesForm, NoRecord, is_caret}

-- a line begins there
abbrev pub BeginsLine : List ℕ → ℕ → Type 0
BeginsLine text start = 0 < start → slice_index text (start - 1) ≡ 10

-- the line that the byte is in begins there
pub record LineOf (text : List ℕ) (start offset : ℕ) : Type 0 where
  pub below : start ≤ offset
  pub begins : BeginsLine text start
  pub within : (i : ℕ) → start ≤ i → i < offset → slice_index text i ≢ 10

-- no line begins after the offset and before the end
abbrev pub SameLine : List ℕ → ℕ → ℕ → Type 0
SameLine text offset end = (i : ℕ) → offset ≤ i → i + 1 < end → slice_index text i ≢ 10

-- a line that begins with `^` goes with the line before it
abbrev pub GoesWith : List ℕ → ℕ → ℕ → Type 0
GoesWith text line start =
    ((slice_index text line ≡ 94) × (0 < line) × LineOf text start (line - 1))
    ⊎ ((slice_index text line ≡ 94 → line ≡ 0) × (start ≡ line))

-- the lines of the record that the byte is in begin there
pub record RecordOf (text : List ℕ) (start offset : ℕ) : Type 0 where
  pub line : ℕ
  pub in_line : LineOf text line offset
  pub goes : GoesWith text line start

-- where the record that the byte is in begins; at the end of a text that ends in a newline, 0
pub record StartsRecord (text : List ℕ) (start offset : ℕ) : Type 0 where
  pub below : start ≤ offset
  pub record_there : (LineOf text (length text) offset → ⊥) → RecordOf text start offset
  pub end : LineOf text (length text) offset → start ≡ 0

-- a name is in a record's place at the front of the text; a line that begins with `^` has none
abbrev pub NameAt : Kind → List ℕ → List ℕ → Type 0
NameAt kind text name = (digits rest : List ℕ) × RecordLine kind text digits name rest
    × StopsAt is_caret text

-- how the name there compares with the wanted one; an empty name is no name
abbrev pub Compares : Kind → List ℕ → List ℕ → Option Ordering → Type 0
Compares kind text wanted order =
    MatchOption order ((name : List ℕ) → name ≢ [] → NameAt kind text name → ⊥)
    (λ o. (name : List ℕ) × NameAt kind text name × (o ≡ slice_cmp nat_cmp name wanted)
    × (name ≢ []))

-- no byte up to CR is in it: so it compares with the bytes of a line as with the name at the front of them
abbrev pub IsPlain : List ℕ → Type 0
IsPlain name = All (λ b. 13 < b) name

-- how the name there compares with the wanted one, if there is one; where it is the wanted one, or `sure` holds, there is one
pub record Orders (kind : Kind) (text wanted : List ℕ) (sure : Bool)
    (order : Ordering) : Type 0 where
  pub compares : (name : List ℕ) → NameAt kind text name → order ≡ slice_cmp nat_cmp name wanted
  pub named : (sure ≡ true) ⊎ (order ≡ Equal) → (name : List ℕ) × NameAt kind text name
      × (name ≢ [])

-- the same, or that no name is there; an empty name is no name
abbrev pub OrdersIfNamed : Kind → List ℕ → List ℕ → Bool → Option Ordering → Type 0
OrdersIfNamed kind text wanted sure order =
    MatchOption order ((name : List ℕ) → name ≢ [] → NameAt kind text name → ⊥)
    (Orders kind text wanted sure)

-- on any text: a line begins there, with the wanted name in a record's place
pub record HitsAt (kind : Kind) (text wanted : List ℕ) (start : ℕ) : Type 0 where
  pub within : start < length text
  pub line : BeginsLine text start
  pub named : NameAt kind (drop start text) wanted

-- in a list of records: the one of that name begins there
pub record FindsAt (kind : Kind) (text : List ℕ) (rs : List Record) (wanted : List ℕ)
    (start : ℕ) : Type 0 where
  pub found : Record
  pub is : record_named wanted rs ≡ Some found
  pub rest : List ℕ
  pub takes : TakesForm kind (drop start text) found rest

-- the record begins a line of the text
pub record RecordBeginsLine (kind : Kind) (text : List ℕ) (r : Record) : Type 0 where
  pub start : ℕ
  pub line : BeginsLine text start
  pub rest : List ℕ
  pub takes : Takes kind (drop start text) r rest

-- a line of the text that has not the form of a record: a record begins there, and no name is in the name's place
pub record IsMalformed (kind : Kind) (text : List ℕ) : Type 0 where
  pub start : ℕ
  pub offset : ℕ
  pub within : offset < length text
  pub begins : RecordOf text start offset
  pub no_name : (name : List ℕ) → name ≢ [] → NameAt kind (drop start text) name → ⊥

-- some line of the text has the form of a record: a record begins there, and a name is in the name's place
pub record HasRecordLine (kind : Kind) (text : List ℕ) : Type 0 where
  pub start : ℕ
  pub offset : ℕ
  pub within : offset < length text
  pub begins : RecordOf text start offset
  pub name : List ℕ
  pub some : name ≢ []
  pub named : NameAt kind (drop start text) name

-- what `None` says of any text: it is empty, or not all of its lines are malformed
abbrev pub IsNotMalformed : Kind → List ℕ → Type 0
IsNotMalformed kind text = 0 < length text → HasRecordLine kind text

-- a line begins there with the wanted name in a record's place, and no record can be read
pub record IsDamaged (kind : Kind) (text wanted : List ℕ) : Type 0 where
  pub start : ℕ
  pub hit : HitsAt kind text wanted start
  pub bad : NoRecord kind (drop start text)

-- why a search on any text fails: a malformed line, or a damaged record of the wanted name
abbrev pub CannotRead : Kind → List ℕ → List ℕ → Type 0
CannotRead kind text wanted = IsMalformed kind text ⊎ IsDamaged kind text wanted

abbrev pub IsObject : Kind → Option (List ℕ) → Type 0
IsObject kind None = Unit {0}
IsObject kind (Some object) = IsHexOf kind object

-- a record whose name and ids can be read
pub record IsReadable (kind : Kind) (r : Record) : Type 0 where
  pub name : IsFullName r.name
  pub target : IsHexOf kind r.target
  pub object : IsObject kind r.object

-- there is a record, and it cannot be read
abbrev pub IsUnreadable : Kind → Option Record → Type 0
IsUnreadable kind None = ⊥
IsUnreadable kind (Some r) = IsReadable kind r → ⊥
