-- A window of a text, and what a probe at it says of the text.
use Rattle.std.specs.Prelude.{◌≡◌, ◌≢◌, ◌+◌, ℕ, Bool, true, List, [], length, take, drop, Option, Some, None, IfSome, MatchOption}
use Rattle.gix_ref_hash.specs.declared.hash.Kind.{Kind}
use Rattle.gix_ref_hash.specs.declared.hash.ObjectId.{ObjectId}
use Rattle.gix_ref_hash.specs.Ids.{ReadsId}
use denote.Ref.{Bor}
use Rattle.gix_ref_packed_text.specs.declared.packed.window.Found.{Found}
use Rattle.gix_ref_packed_text.specs.declared.packed.window.InWindow.{InWindow}
use Rattle.gix_ref_packed_text.specs.Shown.{IfHere}
use Rattle.gix_ref_target.specs.PackedRecords.{Record}
use Rattle.gix_ref_packed_text.specs.RecordGrammar.{Takes, NoRecord}
use Rattle.gix_ref_packed_text.specs.Positions.{LineOf, RecordOf, NameAt, RecordBeginsLine}

-- the window holds the bytes of the text from a place on
abbrev pub IsWindow : List ℕ → ℕ → List ℕ → Type 0
IsWindow text from window = window ≡ take (length window) (drop from text)

-- of each text that has this window, which begins with the text where `at_start` holds
abbrev pub EachText : Bool → List ℕ → (List ℕ → ℕ → Type 0) → Type 0
EachText at_start window P = (text : List ℕ) (from : ℕ) → IsWindow text from window →
    (at_start ≡ true → from ≡ 0) → P text from

-- the byte's line begins there, if it begins in the window
abbrev pub ShowsLine : Bool → List ℕ → ℕ → Option ℕ → Type 0
ShowsLine at_start window at found = IfSome found
    (λ start. EachText at_start window (λ text from. LineOf text (from + start) (from + at)))

-- the byte's record begins there, if it begins in the window
abbrev pub ShowsRecord : Bool → List ℕ → ℕ → Option ℕ → Type 0
ShowsRecord at_start window at found = IfSome found
    (λ start. EachText at_start window (λ text from. RecordOf text (from + start) (from + at)))

-- the name in a record's place at the front of a text, or that no name is there, if the part of it shows that; the
-- part is the whole text where `at_eof` holds
abbrev pub ShowsName : Kind → Bool → List ℕ → InWindow (Option (Bor (List ℕ))) → Type 0
ShowsName kind at_eof part found =
    IfHere found
    (λ name. (text : List ℕ) → part ≡ take (length part) text → (at_eof ≡ true → part ≡ text) →
    MatchOption name ((n : List ℕ) → n ≢ [] → NameAt kind text n → ⊥)
    (λ n. (n.now ≢ []) × NameAt kind text n.now))

-- the digits, where they are there, are read as this id
abbrev pub ReadsOption : Option (List ℕ) → Option ObjectId → Type 0
ReadsOption None None = Unit {0}
ReadsOption (Some digits) (Some id) = ReadsId digits id
ReadsOption None (Some id) = ⊥
ReadsOption (Some digits) None = ⊥

-- the ids of a record
pub record IsFound (r : Record) (found : Found) : Type 0 where
  pub target : ReadsId r.target found.target
  pub object : ReadsOption r.object found.object

-- the ids of the record, if there is one
abbrev pub AreFound : Option Record → Option Found → Type 0
AreFound None None = Unit {0}
AreFound (Some r) (Some found) = IsFound r found
AreFound None (Some found) = ⊥
AreFound (Some r) None = ⊥

-- the record at the front of a text, or that no record is there
abbrev pub FrontIs : Kind → List ℕ → Option Found → Type 0
FrontIs kind text None = NoRecord kind text
FrontIs kind text (Some found) = (r : Record) × (rest : List ℕ) × Takes kind text r rest
    × IsFound r found

-- the ids are those of a record of that name at the start of a line
pub record HitsRecord (kind : Kind) (text wanted : List ℕ) (found : Found) : Type 0 where
  pub record_there : Record
  pub named : record_there.name ≡ wanted
  pub begins : RecordBeginsLine kind text record_there
  pub ids : IsFound record_there found
