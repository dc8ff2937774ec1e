-- Lines in a window, and where the backward reader is.
use Rattle.std.specs.Prelude.{ℕ, ◌≡◌, ◌≢◌, ◌<◌, Bool, true, false, List, [], ◌∷◌, length, slice_index, Option, Some, None, Result, Ok, Err, ⊤}
use Rattle.bstr.specs.Text.{no_cr}
use Rattle.gix_ref_files.specs.declared.files.FileError.TheVariants as faults_of
use Rattle.gix_ref_log.specs.declared.log.iter.error.ReverseError.{ReverseError}
use Rattle.gix_ref_log.specs.declared.log.iter.error.ReverseError.TheVariants.{Io, Decode, BufferTooSmall, Memory}
use Rattle.gix_ref_log.specs.declared.log.iter.stage.Stage.{Stage}
use Rattle.gix_ref_log.specs.declared.log.iter.stage.Stage.TheVariants.{Done}

-- no byte is a line feed
abbrev pub NoFeed : List ℕ → Type 0
NoFeed v = (k : ℕ) → k < length v → slice_index v k ≢ 10

-- what follows a line
abbrev pub tail_of : Bool → List ℕ
tail_of true = 10 ∷ []
tail_of false = []

-- the text of a line: less a carriage return where a line feed follows
abbrev pub text_of_line : Bool → List ℕ → List ℕ
text_of_line true v = no_cr v
text_of_line false v = v

-- after the end, and after any error but a decode fault, it is done; `Io` is never `Memory`, which a reader does not return
module _ {T : Type 0} where
  abbrev pub IsDoneAfter : Option (Result T ReverseError) → Stage → Type 0
  IsDoneAfter None stage = stage ≡ Done
  IsDoneAfter (Some (Ok l)) stage = ⊤
  IsDoneAfter (Some (Err (Decode e))) stage = ⊤
  IsDoneAfter (Some (Err (Io e))) stage = (stage ≡ Done) × (e ≢ faults_of.Memory)
  IsDoneAfter (Some (Err BufferTooSmall)) stage = stage ≡ Done
  IsDoneAfter (Some (Err Memory)) stage = stage ≡ Done
