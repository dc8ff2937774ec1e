use Rattle.std.proofs.Common.{◌≡◌, ◌∙◌, ◌++◌, ◌∷◌, [], sym, rules, length, vec_len, arith}
use Rattle.std.specs.List.{Any}
use Rattle.std.proofs.lemmas.Iterator.Adapters.{YieldsList-from_vec}
use Rattle.std.proofs.lemmas.Iterator.Consumers.{YieldsList-turn}
use Rattle.gix_ref_pack.specs.LooseObjects.{is_chosen, key_for}
use Rattle.gix_ref_pack.specs.Packings.{HasKey, HidesKey, IsNoTag, IsOfLent, IsTagOr}
use Rattle.gix_ref_pack.specs.declared.pack.Loose.{Loose}
use Rattle.gix_ref_pack.proofs.Choosing.{filter_more, filter_less, picked_more, picked_but, told_ask}
use Rattle.gix_ref_pack.proofs.pack.chosen_among.Goals as goal

pub returns-in_err-is_packed_again-clause-errors : goal.returns-in_err-is_packed_again-clause-errors
returns-in_err-is_packed_again-clause-errors c =
    let items = c.args.found.items in
    let l = c.in-Some.loose in
    let Hides : Loose → Type 0 = λ (m : Loose). IsOfLent (HidesKey (key_for c.args.namespace.now m.name)) c.args.records in
    let long : vec_len c.args.found ≡ length items = omega arith in
    let rest = c.into_iter-loose-iterator.ensures.into_iter_gives in
    let turn = YieldsList-turn (YieldsList-from_vec items rest.0 (rest.1 ∙ long)) c.loop-loose.yielded c.loop-loose.loose-iterator c.loop-loose.yielded_by c.next.result c.next.new.self l c.in-Some.is c.next.ensures.steps in
    told_ask c.from_residual.result c.in_err-is_packed_again.field-0.0 (Hides l) (Any Hides items) c.from_residual.ensures.1 (λ hides. (length c.loop-loose.yielded, l, turn.0, sym turn.1, hides)) c.in_err-is_packed_again.ensures.errors

pub loop-loose-preserved-in-Continue-branch-2 : goal.loop-loose-preserved-in-Continue-branch-2
loop-loose-preserved-in-Continue-branch-2 c =
    let l = c.in-Some.loose in
    let seen = c.loop-loose.yielded in
    let before = c.loop-loose.chosen.items in
    let added : c.push.new.self.items ≡ before ++ l ∷ [] = search rules in
    rw added
    (record {
      chosen = λ rs are. filter_more (is_chosen c.args.namespace.now rs) seen before l (c.loop-loose.invariant.chosen rs are) (sym (c.in_ok-is_packed_again.ensures.chosen rs are) ∙ c.if-branch.true);
      picked = picked_more (IsTagOr (λ key. IsOfLent (HasKey key) c.args.records) c.args.namespace.now) IsNoTag seen before l c.loop-loose.invariant.picked (c.in_ok-is_packed_again.ensures.line c.if-branch.true);
    })

pub loop-loose-preserved : goal.loop-loose-preserved
loop-loose-preserved c =
    let l = c.in-Some.loose in
    let seen = c.loop-loose.yielded in
    let before = c.loop-loose.chosen.items in
    record {
      chosen = λ rs are. filter_less (is_chosen c.args.namespace.now rs) seen before l (c.loop-loose.invariant.chosen rs are) (sym (c.in_ok-is_packed_again.ensures.chosen rs are) ∙ c.if-branch.false);
      picked = picked_but (IsTagOr (λ key. IsOfLent (HasKey key) c.args.records) c.args.namespace.now) IsNoTag seen before l c.loop-loose.invariant.picked (c.in_ok-is_packed_again.ensures.tag c.if-branch.false);
    }
