-- The lines of a log.
use Rattle.std.specs.Prelude.{ℕ, List, map}
use Rattle.bstr.specs.Text.{lines_of, without_terminator}

-- cut at LF, a CR before one dropped, and nothing after the last
abbrev pub log_lines : List ℕ → List (List ℕ)
log_lines log = map without_terminator (lines_of log)
