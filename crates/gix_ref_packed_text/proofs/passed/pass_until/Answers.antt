use Rattle.std.proofs.Common.{◌++◌, [], ◌∷◌, refl, arith}
use Rattle.gix_ref_packed_text.proofs.RecordBytes.{fronts_more, lines_fit, lines_more}
use Rattle.gix_ref_packed_text.proofs.PassLemmas.{still_more, still_ends}
use Rattle.gix_ref_packed_text.proofs.passed.pass_until.Goals as goal

pub loop-rest-init : goal.loop-rest-init
loop-rest-init c = record {
  passed = [];
  fronts = refl;
  number = omega arith;
  fits = omega arith;
  shorter = omega arith;
  exact = λ rs mid fronts len. record { more = rs; whole = refl; fronts = fronts };
}

pub loop-rest-preserved : goal.loop-rest-preserved
loop-rest-preserved c =
    let was = c.loop-rest.invariant in
    let taken = c.in-Some.ensures in
    let r = taken.0 in
    let fit = lines_fit c.args.kind c.loop-rest.rest.now r c.in-Some.after.now taken.1 in
    let lines = lines_more was.passed r in
    let count = taken.2 in
    let number = was.number in
    let fits = was.fits in
    let shorter = was.shorter in
    record {
      passed = was.passed ++ r ∷ [];
      fronts = fronts_more c.args.kind c.args.ahead.rest.now was.passed c.loop-rest.rest.now r c.in-Some.after.now was.fronts taken.1;
      number = omega arith;
      fits = omega arith;
      shorter = omega arith;
      exact = λ rs mid fronts len. still_more c.args.kind was.passed c.loop-rest.rest.now r c.in-Some.after.now rs mid taken.1 (omega arith) (was.exact rs mid fronts len);
    }

pub returns-clause-passes : goal.returns-clause-passes
returns-clause-passes c =
    let was = c.loop-rest.invariant in
    let shorter = was.shorter in
    record {
      passed = was.passed;
      passes = record { fronts = was.fronts; number = was.number; shorter = shorter };
      within = omega arith;
      exact = λ rs mid fronts len. still_ends c.args.kind was.passed c.loop-rest.rest.now rs mid (omega arith) (was.exact rs mid fronts len);
    }
