use Rattle.std.proofs.Common.{◌≡◌, ◌+◌, ◌<◌, ◌≤◌, ◌∷◌, [], ⊎_elim, ℕ, List, Option, None, Some, length, refl, get_or, sym, ap, ◌∙◌, subst, arith}
use Rattle.std.proofs.Math.ListN.{set}
use Rattle.std.proofs.Math.Nat.{eq-or-lt_of_le}
use Rattle.std.proofs.Math.Seq.{map-set_same}
use Rattle.std.proofs.lemmas.List.{get_or_default, get_or-map, get_or-set_same, get_or-set_other, length-map}
use Rattle.gix_ref_edits.specs.declared.transaction.RefEdit.{RefEdit}
use Rattle.gix_ref_target.specs.Targets.{TargetValue}
use Rattle.gix_ref_edits.specs.RefEdits.{new_of}
use Rattle.gix_ref_edits.specs.declared.transaction.Change.{Change}
use Rattle.gix_ref_edits.specs.declared.transaction.Change.TheVariants.{Update, Delete}
use Rattle.gix_ref_theory.specs.Edits as plan
use Rattle.gix_ref_transaction.specs.CarriedEdits.{IsCarried, change_of}
use Rattle.gix_ref_transaction.specs.declared.edit.Effect.{Effect}
use Rattle.gix_ref_transaction.specs.declared.edit.Effect.TheVariants.{Write, Remove, Keep}
use Rattle.gix_ref_transaction.specs.PrepareSteps.{effect_value, targets_of, text_of_new, updates, value_of}
use Rattle.gix_ref_transaction.specs.declared.edit.Edit.{Edit}
use Rattle.gix_ref_transaction.proofs.prepare.carry.record_old_values.Goals as goal

-- one edit more carries what was found of it
carried_more : (given edits : List Edit) (i : ℕ) (e new : Edit) → i < length edits → e ≡ get_or edits i e → ((k : ℕ) (d : Edit) → i ≤ k → get_or edits k d ≡ get_or given k d) →
    IsCarried e.update (value_of e.found) new.update →
    ((k : ℕ) (d : Edit) → k < i → IsCarried (get_or given k d).update (value_of (get_or given k d).found) (get_or edits k d).update) →
    (k : ℕ) (d : Edit) → k < i + 1 → IsCarried (get_or given k d).update (value_of (get_or given k d).found) (get_or (set edits i new) k d).update
carried_more given edits i e new lt is rest here done k d within = ⊎_elim
    (λ (same : k ≡ i).
    let before : get_or given i d ≡ e = sym (rest i d (omega arith)) ∙ (get_or_default edits i d e lt ∙ sym is) in
    subst (λ j. IsCarried (get_or given j d).update (value_of (get_or given j d).found) (get_or (set edits i new) j d).update) (sym same)
    (subst (λ (x : Edit). IsCarried x.update (value_of x.found) (get_or (set edits i new) i d).update) (sym before)
    (subst (λ (x : Edit). IsCarried e.update (value_of e.found) x.update) (sym (get_or-set_same edits i new d lt)) here)))
    (λ (less : k < i). subst (λ (x : Edit). IsCarried (get_or given k d).update (value_of (get_or given k d).found) x.update) (sym (get_or-set_other edits i k new d (λ same. absurd (omega (arith, less, same))))) (done k d less))
    (eq-or-lt_of_le (omega (arith, within)))

-- what becomes of the loose file is by what the change makes, whatever it expects
abbrev new_in : plan.Change → Option TargetValue
new_in (plan.Change.Update new) = Some new
new_in plan.Change.Delete = None

new_is : (c : Change) → new_of c ≡ new_in (change_of c)
new_is (Update log expected new) = refl
new_is (Delete expected log) = refl

effect_kept : (a b : Change) (d : Effect) → change_of a ≡ change_of b → effect_value a d ≡ effect_value b d
effect_kept a b Write same = ap (λ n. plan.Effect.Writes (text_of_new n)) (new_is a ∙ (ap new_in same ∙ sym (new_is b)))
effect_kept a b Remove same = refl
effect_kept a b Keep same = refl

-- of lists, at an index
carried_at : (given edits : List Edit) (k : ℕ) (d : RefEdit) → k < length given → length edits ≡ length given →
    ((x : Edit) → IsCarried (get_or given k x).update (value_of (get_or given k x).found) (get_or edits k x).update) →
    IsCarried (get_or (updates given) k d) (get_or (targets_of given) k None) (get_or (updates edits) k d)
carried_at [] edits k d lt len here = absurd (omega (arith, lt))
carried_at (g ∷ given) edits k d lt len here =
    let all = g ∷ given in
    let before : get_or (updates all) k d ≡ (get_or all k g).update = get_or-map (λ (a : Edit). a.update) all k g d lt in
    let was : get_or (targets_of all) k None ≡ value_of (get_or all k g).found = get_or-map (λ (a : Edit). value_of a.found) all k g None lt in
    let after : get_or (updates edits) k d ≡ (get_or edits k g).update = get_or-map (λ (a : Edit). a.update) edits k g d (omega (arith, lt, len)) in
    subst (λ (e : RefEdit). IsCarried e (get_or (targets_of all) k None) (get_or (updates edits) k d)) (sym before)
    (subst (λ (t : Option TargetValue). IsCarried (get_or all k g).update t (get_or (updates edits) k d)) (sym was)
    (subst (λ (e : RefEdit). IsCarried (get_or all k g).update (value_of (get_or all k g).found) e) (sym after) (here g)))

pub loop-edit-preserved : goal.loop-edit-preserved
loop-edit-preserved c =
    let x = c.loop-edit.invariant in
    let edits = c.loop-edit.edits in
    let i = c.loop-edit.edit-index in
    let e = get_or edits i c.edit-item.result in
    let is : e ≡ get_or edits i e = ap (λ d. get_or edits i d) c.edit-item.is in
    let new = c.record_old_value.new.edit in
    let lt : i < length edits = omega arith in
    record {
      places = map-set_same (λ (a : Edit). a.lock) edits i new e (c.record_old_value.ensures.place ∙ ap (λ (a : Edit). a.lock) is) ∙ x.places;
      parents = map-set_same (λ (a : Edit). a.parent) edits i new e (c.record_old_value.ensures.parent ∙ ap (λ (a : Edit). a.parent) is) ∙ x.parents;
      files = map-set_same (λ (a : Edit). a.has_file) edits i new e (c.record_old_value.ensures.file ∙ ap (λ (a : Edit). a.has_file) is) ∙ x.files;
      effects = map-set_same (λ (a : Edit). effect_value a.update.change a.effect) edits i new e
          (effect_kept new.update.change e.update.change new.effect c.record_old_value.ensures.carried.change ∙ ap (effect_value e.update.change) c.record_old_value.ensures.effect ∙ ap (λ (a : Edit). effect_value a.update.change a.effect) is) ∙ x.effects;
      ids = map-set_same (λ (a : Edit). a.packed) edits i new e (c.record_old_value.ensures.id ∙ ap (λ (a : Edit). a.packed) is) ∙ x.ids;
      puts = map-set_same (λ (a : Edit). a.put) edits i new e (c.record_old_value.ensures.put ∙ ap (λ (a : Edit). a.put) is) ∙ x.puts;
      carried = carried_more c.args.edits.now edits i e new lt is x.rest c.record_old_value.ensures.carried x.carried;
      rest = λ k d le. get_or-set_other edits i k new d (λ same. absurd (omega (arith, le, same))) ∙ x.rest k d (omega (arith, le));
    }

pub returns-clause-carried : goal.returns-clause-carried
returns-clause-carried c =
    let x = c.loop-edit.invariant in
    let given = c.args.edits.now in
    let edits = c.loop-edit.edits in
    let len : length edits ≡ length given = omega (arith, length-map edits (λ (a : Edit). a.lock), length-map given (λ (a : Edit). a.lock), ap length x.places) in
    record {
      len = omega (arith, length-map edits (λ (a : Edit). a.update), length-map given (λ (a : Edit). a.update), len);
      each = λ k d lt. carried_at given edits k d (omega (arith, lt, length-map given (λ (a : Edit). a.update))) len
          (λ y. x.carried k y (omega (arith, lt, length-map given (λ (a : Edit). a.update), len)));
    }
