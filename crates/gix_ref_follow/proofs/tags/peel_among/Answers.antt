use Rattle.std.proofs.Common.{arith, refl}
use Rattle.gix_ref_follow.proofs.Peels.{peels_reached}
use Rattle.gix_ref_follow.proofs.tags.peel_among.Goals as goal

pub returns-in-Some-clause-hits : goal.returns-in-Some-clause-hits
returns-in-Some-clause-hits g c h honest =
    record { reached = c.args.reference.now; passes = (0, omega arith, refl); name = refl; peels = λ claims none. let is = c.in-Some.is in absurd (cc) }

pub returns-in-Ok-clause-hits : goal.returns-in-Ok-clause-hits
returns-in-Ok-clause-hits g c h honest =
    record {
      reached = c.follow_among.new.reference;
      passes = c.in-Ok.ensures.hits h honest;
      name = c.peel_tags.ensures.same_name;
      peels = λ claims none. peels_reached _ c.follow_among.new.reference c.in-Ok.id c.peel_tags.result c.in-Ok.ensures.object (c.peel_tags.ensures.peeled claims);
    }

pub returns-in-Err-clause-hits : goal.returns-in-Err-clause-hits
returns-in-Err-clause-hits g c h honest =
    record { reached = c.follow_among.new.reference; passes = c.in-Err.ensures.hits h honest; name = refl; peels = λ claims none. tt }

pub returns-in-Err-clause-peeled : goal.returns-in-Err-clause-peeled
returns-in-Err-clause-peeled g c h claims records are = (c.in_default.is, c.in-Err.ensures.followed h records are)
