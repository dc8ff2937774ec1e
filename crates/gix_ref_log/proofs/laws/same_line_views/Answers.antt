use Rattle.gix_ref_log.proofs.LineEquality.{same_line_ref}
use Rattle.gix_ref_log.proofs.laws.same_line_views.Goals as goal

pub returns : goal.returns
returns c = same_line_ref c.args.a c.args.b c.eq.result c.eq.ensures
