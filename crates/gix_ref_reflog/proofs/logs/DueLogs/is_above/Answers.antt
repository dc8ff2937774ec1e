use Rattle.std.proofs.Common.{arith, sym}
use Rattle.gix_ref_reflog.specs.internal.SeenLogs.{due_paths}
use Rattle.gix_ref_reflog.proofs.ShortPaths.{none_as_long}
use Rattle.gix_ref_reflog.proofs.logs.DueLogs.is_above.Goals as goal

pub returns-then-path-self : goal.returns-then-path-self
returns-then-path-self c = sym (none_as_long (due_paths c.args.self.now) c.args.self.now.shortest c.args.path.now c.requires (omega arith))
