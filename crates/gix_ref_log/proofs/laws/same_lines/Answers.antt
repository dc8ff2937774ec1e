use Rattle.gix_ref_hash.proofs.IdEquality.{id_eq}
use Rattle.gix_ref_log.proofs.LineEquality.{same_line}
use Rattle.gix_ref_log.proofs.laws.same_lines.Goals as goal

pub returns : goal.returns
unfolding id_eq
returns c = same_line c.args.a.now c.args.b.now c.eq.result c.eq.ensures
