use Rattle.std.proofs.Common.{◌≡◌, take}
use Rattle.gix_ref_queries.specs.Answers.{path_lines}
use Rattle.gix_ref_queries.proofs.locks.lines.Given as goal

-- the lines of the paths that were seen
abbrev pub invariant-loop-path : goal.invariant-loop-path
invariant-loop-path l = l.text.items ≡ path_lines (take l.path-index l.paths)
