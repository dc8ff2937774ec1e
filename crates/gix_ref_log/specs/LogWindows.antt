-- What a window on a log is to give.
use Rattle.std.specs.Prelude.{ℕ, ◌+◌, ◌-◌, ◌≡◌, ◌≢◌, Bool, true, false, slice_index, slice_range, ◌≤◌, ◌<◌, ◌^◌, List, [], ◌∷◌, ◌++◌, length, take, drop, Option, Result, Some, None, Err, IsErrOf}
use Rattle.gix_ref_files.specs.Files.{count_after, FaultCounts}
use Rattle.gix_ref_files.specs.declared.files.FileError.{FileError}
use Rattle.gix_ref_files.specs.declared.files.FileError.TheVariants as faulty
use Rattle.gix_ref_hash.specs.Bytes.{NoByte}
use Rattle.gix_ref_log.specs.LogStages.{tail_of, text_of_line, IsDoneAfter}
use Rattle.gix_ref_log.specs.LogItems.{Item, items_from, GivesLine, count_of, ReadsOwned, ReadsLent}
use Rattle.gix_ref_log.specs.declared.log.line.Line.{Line}
use Rattle.gix_ref_log.specs.declared.log.line.LineRef.{LineRef}
use Rattle.gix_ref_log.specs.declared.log.iter.error.ReverseError.{ReverseError}
use Rattle.gix_ref_log.specs.declared.log.iter.error.ReverseError.TheVariants.{Memory}
use Rattle.gix_ref_log.specs.declared.log.iter.backward.Reverse.{Reverse}
use Rattle.gix_ref_log.specs.declared.log.iter.stage.Place.{Place}
use Rattle.gix_ref_log.specs.declared.log.iter.stage.Stage.{Stage}
use Rattle.gix_ref_log.specs.declared.log.iter.stage.Stage.TheVariants.{Unread, Reading, Done}

-- the first `end` bytes of the buffer are those of the log from `pos` on
pub record IsLogWindow (log buf : List ℕ) (pos end : ℕ) : Type 0 where
  pub fits : end ≤ length buf
  pub within : pos + end ≤ length log
  pub same : take end buf ≡ take end (drop pos log)

-- the window ends at the log's end, or before a line feed there
abbrev pub BeginsAtEnd : List ℕ → List ℕ → ℕ → ℕ → Bool → Type 0
BeginsAtEnd log buf pos end true = IsLogWindow log buf pos end × (pos + end + 1 ≡ length log)
    × (take (pos + end) log ++ 10 ∷ [] ≡ log)
BeginsAtEnd log buf pos end false = IsLogWindow log buf pos end × (pos + end ≡ length log)
    × (0 < end) × (slice_index log (length log - 1) ≢ 10)

-- at each stage, how the place in the file and the buffer belong to the log
abbrev pub Tied : Stage → List ℕ → List ℕ → ℕ → ℕ → ℕ → Type 0
Tied Unread log buf pos end n = (pos ≡ length log) × (end ≡ 0) × (n ≡ 1)
Tied Reading log buf pos end n = IsLogWindow log buf pos end × (n + (pos + end) ≤ length log)
Tied Done log buf pos end n = Unit {0}

-- what is to come: while it reads, all before the window's end, and a line feed
abbrev pub to_come : Stage → ℕ → List ℕ → ℕ → ℕ → ℕ → List Item
to_come Unread room log pos end n = items_from room n log
to_come Reading room log pos end n = items_from room n (take (pos + end) log ++ 10 ∷ [])
to_come Done room log pos end n = []

-- what is left of a log ends at e, before a line feed or at the end of the log, and the next line has the number n
abbrev pub EndsWindow : Bool → List ℕ → ℕ → ℕ → Type 0
EndsWindow true log e n = n + e ≤ length log
EndsWindow false log e n = (n ≡ 1) × (0 < e) × (e ≡ length log)
    × (slice_index log (length log - 1) ≢ 10)

-- at most how many items are left
abbrev pub most_at : Stage → ℕ → ℕ → ℕ
most_at Unread pos end = pos + end + 2
most_at Reading pos end = pos + end + 1
most_at Done pos end = 0

module _ {F : Type 0} where
  abbrev pub most_left : Reverse F → ℕ
  most_left s = most_at s.stage s.pos s.end

module _ {F : Type 0} (bytes : F → List ℕ) where
  abbrev pub IsTied : Reverse F → Type 0
  IsTied s = (length (bytes s.reader) < 2 ^ 64)
      × Tied s.stage (bytes s.reader) s.buf.now s.pos s.end s.number

  abbrev pub items_left : Reverse F → List Item
  items_left s = to_come s.stage (length s.buf.now) (bytes s.reader) s.pos s.end s.number

  abbrev pub IsOpen : Bool → Reverse F → Type 0
  IsOpen ends s = (length (bytes s.reader) < 2 ^ 64) × IsLogWindow (bytes s.reader) s.buf.now s.pos
      s.end × EndsWindow ends (bytes s.reader) (s.pos + s.end) s.number

  abbrev pub open_items : Bool → Reverse F → List Item
  open_items ends s = items_from (length s.buf.now) s.number
      (take (s.pos + s.end) (bytes s.reader) ++ tail_of ends)

  -- the same file through the same buffer
  pub record SameFileAndBuffer (s t : Reverse F) : Type 0 where
    pub same_reference : t.buf.ghost_name ≡ s.buf.ghost_name
    pub same_bytes : bytes t.reader ≡ bytes s.reader
    pub same_length : length t.buf.now ≡ length s.buf.now

  -- the window moves, and all else stays as it is
  pub record OnlyWindowMoves (s t : Reverse F) : Type 0 where
    pub log : SameFileAndBuffer s t
    pub stage : t.stage ≡ s.stage
    pub number : t.number ≡ s.number

  -- a window on the log stays one
  abbrev pub KeepsWindow : Reverse F → Reverse F → Type 0
  KeepsWindow s t = IsLogWindow (bytes s.reader) s.buf.now s.pos s.end →
      IsLogWindow (bytes s.reader) t.buf.now t.pos t.end

module _ {F : Type 0} (faults : F → FaultCounts) where
  -- the reader counts a fault that comes; it is never `Memory`
  pub record CountsReaderFault {T : Type 0} (r : Result T FileError)
      (s t : Reverse F) : Type 0 where
    pub count : faults t.reader ≡ count_after r (faults s.reader)
    pub memory : IsErrOf r faulty.Memory → ⊥

-- where a line is in the window: within it, and no line feed is in it
pub record IsInWindow (buf : List ℕ) (p : Place) : Type 0 where
  pub within : p.start ≤ p.end
  pub fits : p.end ≤ length buf
  pub one_line : NoByte 10 (slice_range buf p.start p.end)

-- the text that is there, with its number
pub record ReadsPlace (buf : List ℕ) (n : ℕ) (text : List ℕ) (p : Place) : Type 0 where
  pub number : p.number ≡ n
  pub same : text_of_line p.ends (slice_range buf p.start p.end) ≡ text

-- what one call does that gives lines of a type T
pub record StepOf {F T : Type 0} (Reads : ℕ → List ℕ → T → Type 0) (honest : Type 0)
    (bytes : F → List ℕ) (faults : F → FaultCounts) (s : Reverse F)
    (r : Option (Result T ReverseError)) (t : Reverse F) : Type 0 where
  pub same_reference : t.buf.ghost_name ≡ s.buf.ghost_name
  pub same_bytes : bytes t.reader ≡ bytes s.reader
  -- for any reader: `Io` is a fault that the reader counted, and what is done stays done
  pub counts : faults t.reader ≡ count_of r (faults s.reader)
  pub done : IsDoneAfter r t.stage
  pub stays_done : s.stage ≡ Done → (r ≡ None) × (t.stage ≡ Done)
  -- for one that reads its bytes: the next item
  pub gives : honest → IsTied bytes s →
      GivesLine Reads (items_left bytes s) r (items_left bytes t) × IsTied bytes t

module _ {F : Type 0} (honest : Type 0) (bytes : F → List ℕ) (faults : F → FaultCounts) where
  -- what one call of `next` does
  abbrev pub NextStep : Reverse F → Option (Result Line ReverseError) → Reverse F → Type 0
  NextStep = StepOf ReadsOwned honest bytes faults

  -- and one of `next_ref`, which takes no memory
  abbrev pub NextRefStep : Reverse F → Option (Result LineRef ReverseError) → Reverse F → Type 0
  NextRefStep s r t = StepOf ReadsLent honest bytes faults s r t × (r ≢ Some (Err Memory))
