-- The items of a log: forward, and newest first through a buffer.
use Rattle.std.specs.Prelude.{ℕ, ◌+◌, ◌-◌, ◌≡◌, ◌≢◌, ◌==◌, ◌&&◌, nat_lt, nat_le, List, [], ◌∷◌, length, reverse, slice_index, if◌then◌else◌, Option, Some, None, Result, Ok, Err, ⊤}
use Rattle.std.specs.List.{All}
use Rattle.bstr.specs.Text.{lines_of, without_terminator}
use Rattle.gix_ref_files.specs.Files.{FaultCounts, count_with}
use Rattle.gix_ref_files.specs.declared.files.FileError.TheVariants as faults_of
use Rattle.gix_ref_log.specs.LogLines.{LogLine, IsLine, NoLine, IsReadAs, line_ref_parts}
use Rattle.gix_ref_log.specs.declared.log.line.Line.{Line}
use Rattle.gix_ref_log.specs.declared.log.line.LineRef.{LineRef}
use Rattle.gix_ref_log.specs.declared.log.iter.decode.Error as decode
use Rattle.gix_ref_log.specs.declared.log.iter.decode.LineNumber.TheVariants.{FromEnd, FromStart}
use Rattle.gix_ref_log.specs.declared.log.iter.error.ReverseError.{ReverseError}
use Rattle.gix_ref_log.specs.declared.log.iter.error.ReverseError.TheVariants.{Io, Decode, BufferTooSmall, Memory}

-- the result for a line, forward
abbrev pub IsAnswer : ℕ → List ℕ → Result LineRef decode.Error → Type 0
IsAnswer n text (Ok l) = IsLine text (line_ref_parts l)
IsAnswer n text (Err e) = (e.line ≡ FromStart n) × NoLine text

-- a run forward: a result for each line, in order, numbered from n. `Ended` holds where the run went on to the end
abbrev pub IsForwardRun : Type 0 → ℕ → List (List ℕ) → List (Result LineRef decode.Error) → Type 0
IsForwardRun Ended n lines [] = Ended → lines ≡ []
IsForwardRun Ended n lines (r ∷ rs) = (text : List ℕ) × (rest : List (List ℕ))
    × (lines ≡ text ∷ rest) × IsAnswer n text r × IsForwardRun Ended (n + 1) rest rs

-- an item backward: the text of a line with its number from the end, or a line that does not fit
pub data Item : Type 0 where
  Text : ℕ → List ℕ → Item
  TooSmall : Item

-- how many bytes a line has, its CR counted and its LF not
abbrev pub len_without_feed : List ℕ → ℕ
len_without_feed p = if nat_lt 0 (length p) && slice_index p (length p - 1) == 10 then length p - 1
    else length p

-- of lines with their LF, newest first: a buffer of `room` bytes holds a line and the LF before it, and the first line
-- of the file alone; after the first line that does not fit there is nothing
abbrev pub backward : ℕ → ℕ → List (List ℕ) → List Item
backward room n [] = []
backward room n (p ∷ []) = if nat_le (len_without_feed p) room
    then Text n (without_terminator p) ∷ [] else TooSmall ∷ []
backward room n (p ∷ q ∷ ps) = if nat_le (len_without_feed p + 1) room
    then Text n (without_terminator p) ∷ backward room (n + 1) (q ∷ ps) else TooSmall ∷ []

-- the items of a log, newest first, the next of which has the number n
unfoldable pub items_from : ℕ → ℕ → List ℕ → List Item
items_from room n log = backward room n (reverse (lines_of log))

-- Of lines of a type T, where `Reads n text l` says that the text, with the number n from the end, is read as l.
module _ {T : Type 0} (Reads : ℕ → List ℕ → T → Type 0) where
  -- one call, by the items that were to come before it and those to come after it
  abbrev pub GivesLine : List Item → Option (Result T ReverseError) → List Item → Type 0
  GivesLine items None rest = (items ≡ []) × (rest ≡ [])
  GivesLine items (Some (Ok l)) rest = (n : ℕ) × (text : List ℕ) × (items ≡ Text n text ∷ rest)
      × Reads n text l
  GivesLine items (Some (Err (Decode e))) rest = (n : ℕ) × (text : List ℕ)
      × (items ≡ Text n text ∷ rest) × (e.line ≡ FromEnd n) × NoLine text
  GivesLine items (Some (Err BufferTooSmall)) rest = (items ≡ TooSmall ∷ []) × (rest ≡ [])
  GivesLine items (Some (Err Memory)) rest = (rest ≡ []) × ((n : ℕ) × (text : List ℕ)
      × (more : List Item) × (l : LogLine) × (items ≡ Text n text ∷ more) × IsLine text l)
  GivesLine items (Some (Err (Io e))) rest = (items ≢ []) × (rest ≡ [])

  -- what is made of a line's text
  abbrev pub LineGives : ℕ → List ℕ → Result T ReverseError → Type 0
  LineGives n text (Ok l) = Reads n text l
  LineGives n text (Err (Decode e)) = (e.line ≡ FromEnd n) × NoLine text
  LineGives n text (Err Memory) = (l : LogLine) × IsLine text l
  LineGives n text (Err BufferTooSmall) = ⊥
  LineGives n text (Err (Io e)) = ⊥

  -- A run backward: the items that are to come, each line read or a decode fault with its number; or a beginning of them
  -- and one `Io`, or one `Memory` in the place of a good line, and the end. `Ended` holds where the run went on to the end
  abbrev pub IsRunOf : Type 0 → List Item → List (Result T ReverseError) → Type 0
  IsRunOf Ended items [] = Ended → items ≡ []
  IsRunOf Ended items (Ok l ∷ rs) = (n : ℕ) × (text : List ℕ) × (rest : List Item)
      × (items ≡ Text n text ∷ rest) × Reads n text l × IsRunOf Ended rest rs
  IsRunOf Ended items (Err (Decode e) ∷ rs) = (n : ℕ) × (text : List ℕ) × (rest : List Item)
      × (items ≡ Text n text ∷ rest) × (e.line ≡ FromEnd n) × NoLine text × IsRunOf Ended rest rs
  IsRunOf Ended items (Err BufferTooSmall ∷ rs) = (items ≡ TooSmall ∷ []) × (rs ≡ [])
  IsRunOf Ended items (Err Memory ∷ rs) = ((n : ℕ) × (text : List ℕ) × (more : List Item)
      × (l : LogLine) × (items ≡ Text n text ∷ more) × IsLine text l) × (rs ≡ [])
  IsRunOf Ended items (Err (Io e) ∷ rs) = (items ≢ []) × (rs ≡ [])

-- the line is owned
abbrev pub ReadsOwned : ℕ → List ℕ → Line → Type 0
ReadsOwned n text l = IsReadAs text l

-- the line is lent
abbrev pub ReadsLent : ℕ → List ℕ → LineRef → Type 0
ReadsLent n text l = IsLine text (line_ref_parts l)

-- a run of `next`
abbrev pub IsRun : Type 0 → List Item → List (Result Line ReverseError) → Type 0
IsRun = IsRunOf ReadsOwned

-- a run of `next_ref`, which takes no memory
abbrev pub IsLentRun : Type 0 → List Item → List (Result LineRef ReverseError) → Type 0
IsLentRun Ended items rs = IsRunOf ReadsLent Ended items rs × All (λ r. r ≢ Err Memory) rs

module _ {T : Type 0} where
  -- after any error but a decode fault there is nothing; `Io` is never `Memory`, which a reader does not return
  abbrev pub EndsAtError : List (Result T ReverseError) → Type 0
  EndsAtError [] = ⊤
  EndsAtError (Ok l ∷ rs) = EndsAtError rs
  EndsAtError (Err (Decode e) ∷ rs) = EndsAtError rs
  EndsAtError (Err BufferTooSmall ∷ rs) = rs ≡ []
  EndsAtError (Err Memory ∷ rs) = rs ≡ []
  EndsAtError (Err (Io e) ∷ rs) = (rs ≡ []) × (e ≢ faults_of.Memory)

  -- the faults that a reader met, after an item: `Io` is one more
  abbrev pub count_of : Option (Result T ReverseError) → FaultCounts → FaultCounts
  count_of None faults = faults
  count_of (Some (Ok l)) faults = faults
  count_of (Some (Err (Decode e))) faults = faults
  count_of (Some (Err BufferTooSmall)) faults = faults
  count_of (Some (Err Memory)) faults = faults
  count_of (Some (Err (Io e))) faults = count_with e faults

  -- and after a run
  abbrev pub faults_after : FaultCounts → List (Result T ReverseError) → FaultCounts
  faults_after faults [] = faults
  faults_after faults (r ∷ rs) = faults_after (count_of (Some r) faults) rs
