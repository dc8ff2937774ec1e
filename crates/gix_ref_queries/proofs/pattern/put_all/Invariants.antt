use Rattle.std.proofs.Common.{drop}
use Rattle.gix_ref_queries.specs.Patterns.{IsRow, is_glob_of}
use Rattle.gix_ref_queries.proofs.pattern.put_all.Given as goal

-- what the pattern matches from `i` on
abbrev pub invariant-loop-i : goal.invariant-loop-i
invariant-loop-i l = IsRow (is_glob_of (drop l.i l.pattern)) l.name l.row
