use Rattle.std.proofs.Common.{◌≡◌, ◌==◌, true, length, sym, refl, ap, [], eqb-true}
use Rattle.std.proofs.lemmas.List.{nil_from_length}
use Rattle.gix_ref_packed_text.proofs.RecordBytes.{fronts_more, fronts_all, not_stuck}
use Rattle.gix_ref_packed.proofs.packed.prefixed.is_records.Goals as goal

pub loop-rest-init : goal.loop-rest-init
loop-rest-init c = record { before = []; fronts = refl }

pub loop-rest-preserved : goal.loop-rest-preserved
loop-rest-preserved c =
    let was = c.loop-rest.invariant in
    record {
      before = _;
      fronts = fronts_more c.args.kind c.args.text.now was.before c.loop-rest.rest.now _ c.in-Some.after.now was.fronts c.in-Some.ensures;
    }

pub returns-in_default : goal.returns-in_default
returns-in_default c = λ rs h.
    let was = c.loop-rest.invariant in
    not_stuck c.args.kind c.args.text.now was.before c.loop-rest.rest.now rs was.fronts (λ none. let bad : (length c.loop-rest.rest.now == 0) ≡ true = ap (λ r. length r == 0) none in absurd (cc)) c.in_default.ensures h

pub returns : goal.returns
returns c =
    let was = c.loop-rest.invariant in
    (was.before, fronts_all c.args.kind c.args.text.now was.before c.loop-rest.rest.now (nil_from_length c.loop-rest.rest.now (eqb-true _ _ (sym c.loop-rest-test.ensures))) was.fronts)
