-- What the fast path finds.
use Rattle.std.specs.Prelude.{ℕ, ◌≡◌, List, ◌∷◌}
use Rattle.gix_ref_hash.specs.Bytes.{NoByte, Cuts}
use Rattle.gix_ref_log.specs.LogCuts.{log_lines}
use Rattle.gix_ref_log.specs.LogIds.{IdFront}
use Rattle.gix_ref_log.specs.LogLines.{LogLine, IsLine, line_ref_parts}
use Rattle.gix_ref_log.specs.Signatures.{IsSignature}
use Rattle.gix_ref_log.specs.declared.log.line.LineRef.{LineRef}

-- two ids, a signature with no LF up to the first tab, and after the tab the message: all that follows
pub record HasFront (text : List ℕ) (l : LogLine) : Type 0 where
  pub ids : List ℕ
  pub rest : List ℕ
  pub head : List ℕ
  pub previous : IdFront text l.previous ids
  pub new : IdFront ids l.new rest
  pub tab : Cuts 9 rest head l.message
  pub one_line : NoByte 10 head
  pub who : IsSignature head l.who

-- the log's first line has these parts, and the rest follows it
abbrev pub BeginsWithLine : List ℕ → LineRef → List ℕ → Type 0
BeginsWithLine log line rest = (text : List ℕ) × (log_lines log ≡ text ∷ log_lines rest)
    × IsLine text (line_ref_parts line)
