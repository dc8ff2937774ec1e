use Rattle.std.proofs.Common.{◌≡◌, take}
use Rattle.gix_ref_queries.specs.LogRows.{entry_lines, entry_parts}
use Rattle.gix_ref_queries.proofs.log_rows.lines.Given as goal

-- the lines of the entries so far
abbrev pub invariant-loop-place : goal.invariant-loop-place
invariant-loop-place l = l.text.items ≡ entry_lines l.name 0 (entry_parts (take l.place l.entries))
