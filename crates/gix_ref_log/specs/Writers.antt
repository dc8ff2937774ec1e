-- What a writer holds of a text that was written to it.
use Rattle.std.specs.Prelude.{ℕ, ◌<◌, ◌≢◌, List, length, take, Option}
use Rattle.std.specs.Io.KnownBytes.{Appends}
use Rattle.std.specs.IoError.{error_kind}
use Rattle.std.specs.declared.io.Error.{Error}
use Rattle.std.specs.declared.io.ErrorKind.TheVariants.{Interrupted}

-- known bytes grow by a beginning of the text, and not by all of it
abbrev pub AppendsBeginning : Option (List ℕ) → Option (List ℕ) → List ℕ → Type 0
AppendsBeginning old new text = (n : ℕ) × (n < length text) × Appends old new (take n text)

-- Writing the text stopped at this error: the writer holds a beginning of the text, and not all of it. A signal that
-- interrupts a write is no such error, since that write is tried again.
pub record StopsShort (old new : Option (List ℕ)) (text : List ℕ) (error : Error) : Type 0 where
  pub begun : AppendsBeginning old new text
  pub retried : error_kind error ≢ Interrupted
