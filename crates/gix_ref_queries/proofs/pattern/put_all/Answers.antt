use Rattle.std.proofs.Common.{drop, arith}
use Rattle.gix_ref_queries.specs.Patterns.{is_glob_of}
use Rattle.gix_ref_queries.proofs.Globs.{row_more}
use Rattle.gix_ref_queries.proofs.pattern.put_all.Goals as goal

pub loop-i-preserved : goal.loop-i-preserved
loop-i-preserved c = row_more c.args.pattern.now c.args.name.now c.put.new.row c.loop-i.i (omega arith) (omega arith) (c.put.ensures (is_glob_of (drop c.loop-i.i c.args.pattern.now)) c.loop-i.invariant)
