-- Runs of old records as they are written.
use Rattle.std.specs.Prelude.{◌==◌, ℕ, Bool, not, List}
use Rattle.std.specs.List.{filter}

abbrev pub is_no_cr : ℕ → Bool
is_no_cr b = not (b == 13)

-- the bytes except for each CR
abbrev pub without_cr : List ℕ → List ℕ
without_cr = filter is_no_cr
