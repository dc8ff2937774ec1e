-- Where the names of a prefix begin among ascending records, and the filter of a list of records by a prefix.
use Rattle.std.specs.Prelude.{◌≡◌, ◌≢◌, ◌<◌, ◌≤◌, ◌+◌, ◌⊎◌, ℕ, Bool, false, List, [], ◌++◌, nat_eq, length, drop}
use Rattle.std.specs.List.{All, filter, starts_with}
use Rattle.gix_ref_hash.specs.declared.hash.Kind.{Kind}
use Rattle.gix_ref_hash.specs.Bytes.{StopsAt}
use Rattle.gix_ref_target.specs.PackedRecords.{Record}
use Rattle.gix_ref_packed_text.specs.RecordGrammar.{RecordLine, Takes, NoRecord, Records, Below, is_caret}
use Rattle.gix_ref_packed_text.specs.OpenedText.{Fronts}
use Rattle.gix_ref_packed_text.specs.Positions.{BeginsLine, NameAt, RecordOf}

-- the records whose names begin with the prefix
abbrev pub records_prefixed : List ℕ → List Record → List Record
records_prefixed prefix rs = filter (λ r. starts_with nat_eq r.name prefix) rs

-- a line begins there, or the text ends
pub record IsListStart (text : List ℕ) (start : ℕ) : Type 0 where
  pub within : start ≤ length text
  pub begins : (start ≡ length text) ⊎ BeginsLine text start

-- the names before the place are below the wanted one, and those from there on are not
pub record SplitsAt (kind : Kind) (text : List ℕ) (rs : List Record) (wanted : List ℕ)
    (start : ℕ) : Type 0 where
  pub before : List Record
  pub after : List Record
  pub is : rs ≡ before ++ after
  pub front : Fronts kind text before (drop start text)
  pub rest : Records kind (drop start text) after
  pub low : All (λ r. Below r.name wanted) before
  pub high : All (λ r. Below r.name wanted → ⊥) after

-- a line begins there, and a record with it, whatever the other lines are
abbrev pub RecordAt : Kind → List ℕ → ℕ → Record → Type 0
RecordAt kind text place r = BeginsLine text place
    × ((rest : List ℕ) × Takes kind (drop place text) r rest)

-- no record that begins before the place goes on after it
abbrev pub CutsNoRecord : Kind → List ℕ → ℕ → Type 0
CutsNoRecord kind text place = (p : ℕ) (r : Record) (at : RecordAt kind text p r) → p < place →
    length text ≤ place + length at.1.0

-- A line begins there that is of no record before it, or the text ends.
pub record IsItemStart (kind : Kind) (text : List ℕ) (start : ℕ) : Type 0 where
  pub list_start : IsListStart text start
  pub apart : CutsNoRecord kind text start

-- a line begins there, with this name in a record's place
abbrev pub NameAtLine : Kind → List ℕ → ℕ → List ℕ → Type 0
NameAtLine kind text place name = BeginsLine text place × NameAt kind (drop place text) name
    × (name ≢ [])

-- A line begins there that has the form of a record's, with this name: as many bytes as an id has digits, the first no `^` and none a
-- LF, a space and the name. Whether it is a record, its id and its name say.
pub record NamedLine (kind : Kind) (text : List ℕ) (place : ℕ) (name : List ℕ) : Type 0 where
  pub begins : BeginsLine text place
  pub digits : List ℕ
  pub rest : List ℕ
  pub line : RecordLine kind (drop place text) digits name rest
  pub one_line : All (λ b. b ≢ 10) digits
  pub no_caret : StopsAt is_caret (drop place text)
  pub some_name : name ≢ []

-- the names of a text ascend, whatever its other lines are
abbrev pub NamesAscend : Kind → List ℕ → Type 0
NamesAscend kind text = (p q : ℕ) (m n : List ℕ) → p < q → NameAtLine kind text p m →
    NameAtLine kind text q n → Below m n

-- a name is in a record's place there, or the text ends
abbrev pub IsNameStart : Kind → List ℕ → ℕ → Type 0
IsNameStart kind text place = (place ≡ length text)
    ⊎ ((name : List ℕ) × NameAtLine kind text place name)

-- the lines with a name before the place are below the wanted name, and those from there on are not
pub record SplitsLines (kind : Kind) (text wanted : List ℕ) (place : ℕ) : Type 0 where
  pub there : IsNameStart kind text place
  pub low : (p : ℕ) (name : List ℕ) → p < place → NamedLine kind text p name → Below name wanted
  pub high : (p : ℕ) (name : List ℕ) → place ≤ p → NamedLine kind text p name →
      Below name wanted → ⊥

-- A line begins there that is no record; of the record that this byte is in, it is the first line.
pub record IsBadStart (kind : Kind) (text : List ℕ) (place : ℕ) : Type 0 where
  pub some : place < length text
  pub bad : NoRecord kind (drop place text)
  pub offset : ℕ
  pub within : offset < length text
  pub begins : RecordOf text place offset

-- A line begins there that is no record, and of none before it.
pub record IsBadLineAt (kind : Kind) (text : List ℕ) (place : ℕ) : Type 0 where
  pub begins : IsItemStart kind text place
  pub some : place < length text
  pub bad : NoRecord kind (drop place text)

-- Where halving ended: a line begins there, or the text ends. It begins with no `^`, unless a line was met that has not the form of a
-- record.
pub record EndsHalving (text : List ℕ) (is_malformed : Bool) (place : ℕ) : Type 0 where
  pub starts : IsListStart text place
  pub no_caret : is_malformed ≡ false → StopsAt is_caret (drop place text)
