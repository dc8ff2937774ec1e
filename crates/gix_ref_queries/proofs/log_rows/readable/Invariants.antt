use Rattle.std.proofs.Common.{◌≡◌}
use Rattle.std.specs.List.{filter_map}
use Rattle.std.specs.Result.{result_ok}
use Rattle.gix_ref_queries.proofs.log_rows.readable.Given as goal

-- the lines so far that can be read
abbrev pub invariant-loop-line : goal.invariant-loop-line
invariant-loop-line l = l.entries.items ≡ filter_map result_ok l.yielded
