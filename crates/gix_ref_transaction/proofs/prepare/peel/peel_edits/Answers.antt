use Rattle.std.proofs.Common.{◌≡◌, inl, inr, ⊎_elim, length, get_or, ◌<◌, arith, ap, sym, ◌∙◌, subst, List}
use Rattle.std.proofs.Math.Seq.{map-set_same}
use Rattle.std.proofs.lemmas.List.{length-map, take_more_set}
use Rattle.std.proofs.lemmas.Result.{err_from_is_err_and}
use Rattle.gix_ref_transaction.specs.Packing.{OfFinder, ends_of, mode_in}
use Rattle.gix_ref_transaction.specs.Peels.{ArePut, CanPeelEdit, IsUnpeeledEdit}
use Rattle.gix_ref_transaction.specs.PrepareSteps.{setting_of, updates}
use Rattle.gix_ref_transaction.specs.declared.edit.Edit.{Edit}
use Rattle.gix_ref_transaction.proofs.Firsts.{fault_here, fault_later}
use Rattle.gix_ref_transaction.proofs.PackedLemmas.{updates_alike}
use Rattle.gix_ref_transaction.proofs.Puts.{can_peel, puts_more, update_at}
use Rattle.gix_ref_transaction.proofs.prepare.peel.peel_edits.Goals as goal

pub returns-in_err-edit-clause-refused : goal.returns-in_err-edit-clause-refused
returns-in_err-edit-clause-refused g c claims =
    let s = setting_of c.args.settings.now in
    let mode = mode_in c.args.packed_refs.now in
    let kind = c.args.settings.now.kind in
    let meaning = ends_of g.T.Find.meaning c.args.packed_refs.now in
    let x = c.loop-edit.invariant in
    let old = c.args.edits.now in
    let edits = c.loop-edit.edits in
    let i = c.loop-edit.edit-index in
    let e = get_or edits i c.edit-item.result in
    let is : e ≡ get_or edits i e = ap (λ d. get_or edits i d) c.edit-item.is in
    let lt : i < length edits = omega arith in
    let all = updates old in
    let lt_all : i < length all = omega (arith, lt, length-map edits (λ (a : Edit). a.update), ap length (updates_alike old edits x.same)) in
    let told = err_from_is_err_and c.from_residual.result c.from_residual.ensures.1 in
    rw (told.1, told.2)
    (⊎_elim (λ memory. inl memory)
    (λ bad. inr (x.fault claims _ (fault_here (λ _ edit. CanPeelEdit s mode kind meaning edit) (λ _ edit error. IsUnpeeledEdit s mode kind meaning edit error) all i e.update _ lt_all (update_at old edits x.same i e lt is) bad)))
    (c.in_err-edit.ensures.refused claims))

pub loop-edit-preserved : goal.loop-edit-preserved
loop-edit-preserved g c =
    let s = setting_of c.args.settings.now in
    let mode = mode_in c.args.packed_refs.now in
    let kind = c.args.settings.now.kind in
    let meaning = ends_of g.T.Find.meaning c.args.packed_refs.now in
    let hold = OfFinder g.T.Find.claims c.args.packed_refs.now in
    let x = c.loop-edit.invariant in
    let old = c.args.edits.now in
    let edits = c.loop-edit.edits in
    let i = c.loop-edit.edit-index in
    let e = get_or edits i c.edit-item.result in
    let is : e ≡ get_or edits i e = ap (λ d. get_or edits i d) c.edit-item.is in
    let lt : i < length edits = omega arith in
    let all = updates old in
    let lt_all : i < length all = omega (arith, lt, length-map edits (λ (a : Edit). a.update), ap length (updates_alike old edits x.same)) in
    let put = c.in_ok-edit.ensures in
    record {
      same = map-set_same (λ (a : Edit). (a.update, a.lock, a.parent)) edits i _ e (ap (λ (a : Edit). (a.update, a.lock, a.parent)) is) ∙ x.same;
      ids = map-set_same (λ (a : Edit). a.packed) edits i _ e (ap (λ (a : Edit). a.packed) is) ∙ x.ids;
      put = subst (λ (l : List Edit). ArePut hold meaning s mode kind l) (sym (take_more_set edits i _ lt))
          (puts_more hold meaning s mode kind _ _ x.put (record { put_is = put.put; kind_is = put.kind; ends = put.ends }));
      fault = λ claims error later. x.fault claims error (fault_later (λ _ edit. CanPeelEdit s mode kind meaning edit) (λ _ edit error. IsUnpeeledEdit s mode kind meaning edit error) all i e.update error lt_all (update_at old edits x.same i e lt is)
          (can_peel s mode kind meaning e.update _ put.put put.kind (put.ends claims)) later);
    }
