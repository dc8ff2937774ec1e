use Rattle.std.proofs.Common.{Some, None, refl}
use Rattle.gix_ref_target.specs.Targets.{target_value}
use Rattle.gix_ref_session.proofs.clash.exists.Goals as goal

pub returns-in-Is-clause-seen : goal.returns-in-Is-clause-seen
returns-in-Is-clause-seen g c h = (Some (target_value c.in-Is.field-0), rw c.in-Is.is at (c.read_name.ensures.seen h), refl)

pub returns-in-Absent-clause-seen : goal.returns-in-Absent-clause-seen
returns-in-Absent-clause-seen g c h = (None, rw c.in-Absent.is at (c.read_name.ensures.seen h), refl)
