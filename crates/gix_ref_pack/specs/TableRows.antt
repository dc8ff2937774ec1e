-- A table of objects: a line for each, with the object at the end of its tags if it is a tag.
use Rattle.std.specs.Prelude.{◌≡◌, ◌≢◌, ◌⊎◌, ◌+◌, ◌++◌, ℕ, List, [], ◌∷◌, Option, Some, None, codes, length}
use Rattle.gix_ref_hash.specs.Bytes.{Cuts, NoByte}
use Rattle.gix_ref_hash.specs.Ids.{ReadsId}
use Rattle.gix_ref_hash.specs.declared.hash.ObjectId.{ObjectId}
use Rattle.gix_ref_pack.specs.declared.objects.Row.{Row}
use Rattle.gix_ref_pack.specs.declared.objects.TableError.{TableError}
use Rattle.gix_ref_pack.specs.declared.objects.TableError.TheVariants.{Line, Memory}

-- a line spells it: `ID` or `ID ` of any object, `ID PEELED` of a tag
abbrev pub IsRowTo : (line : List ℕ) → ObjectId → (end : Option ObjectId) → Type 0
IsRowTo line id None = ReadsId line id
    ⊎ ((digits : List ℕ) × (line ≡ digits ++ codes " ") × ReadsId digits id)
IsRowTo line id (Some end) = (digits peeled : List ℕ) × (line ≡ digits ++ (32 ∷ peeled))
    × ReadsId digits id × ReadsId peeled end

abbrev pub IsRow : (line : List ℕ) → Row → Type 0
IsRow line row = IsRowTo line row.id row.end

-- the first line of a text, and what comes after it; the last line may have no line break
abbrev pub IsFirstLine : (text line after : List ℕ) → Type 0
IsFirstLine text line after = Cuts 10 text line after
    ⊎ (NoByte 10 text × (line ≡ text) × (after ≡ []))

-- a text begins with these lines, and this is the rest
abbrev pub BeginsWithRows : (text : List ℕ) → List Row → (rest : List ℕ) → Type 0
BeginsWithRows text [] rest = rest ≡ text
BeginsWithRows text (row ∷ rows) rest = (line after : List ℕ) × (text ≢ [])
    × IsFirstLine text line after × IsRow line row × BeginsWithRows after rows rest

-- a table of these lines
abbrev pub IsTable : (text : List ℕ) → List Row → Type 0
IsTable text rows = BeginsWithRows text rows []

-- The line of this number, counted from 1, is the first that is none of a table.
pub record IsBadLine (text : List ℕ) (number : ℕ) : Type 0 where
  pub rows : List Row
  pub rest : List ℕ
  pub line : List ℕ
  pub after : List ℕ
  pub begins : BeginsWithRows text rows rest
  pub more : rest ≢ []
  pub first : IsFirstLine rest line after
  pub none : (row : Row) → IsRow line row → ⊥
  pub number_is : number ≡ length rows + 1

-- why a text is no table
abbrev pub IsNoTable : (text : List ℕ) → TableError → Type 0
IsNoTable text (Line number) = IsBadLine text number
IsNoTable text Memory = Unit {0}
