use Rattle.std.proofs.Common.{Some, ap, refl, sym}
use Rattle.gix_ref_name.specs.Names.{full_bytes}
use Rattle.gix_ref_target.specs.Targets.TargetValue.{object_id, symbolic_name}
use Rattle.gix_ref_session.specs.Leading.{next_of}
use Rattle.gix_ref_session.proofs.lead.next_name.Goals as goal

pub returns-in-Absent-clause-reads : goal.returns-in-Absent-clause-reads
returns-in-Absent-clause-reads g c h records are = sym (ap next_of (c.in-Absent.ensures.reads h records are))

pub returns-in-Is-Symbolic-clause-seen : goal.returns-in-Is-Symbolic-clause-seen
returns-in-Is-Symbolic-clause-seen g c h = (Some (symbolic_name (full_bytes c.in-Is-Symbolic.next)), rw c.in-Is-Symbolic.field-0-is at (c.in-Is-Symbolic.ensures.seen h), refl)

pub returns-in-Is-Object-clause-seen : goal.returns-in-Is-Object-clause-seen
returns-in-Is-Object-clause-seen g c h = (Some (object_id c.in-Is-Object.field-0-0), rw c.in-Is-Object.field-0-is at (c.in-Is-Object.ensures.seen h), refl)
