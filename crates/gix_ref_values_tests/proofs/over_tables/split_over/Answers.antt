use Rattle.std.proofs.Common.{◌≡◌, ap, refl, sym, ◌∙◌, Result, Ok, Err, rules}
use Rattle.std.specs.Result.{OnOk}
use Rattle.gix_ref_edits.proofs.Finders.{outcome_relates, lookups_answer}
use Rattle.gix_ref_values_tests.proofs.over_tables.split_over.Goals as goal

on_ok_then : {T E : Type 0} {P Q : Type 0} (r : Result T E) → (P → Q) → OnOk r P → OnOk r Q
on_ok_then (Ok x) f p = f p
on_ok_then (Err e) f p = tt

pub returns-clause-split : goal.returns-clause-split
returns-clause-split g c =
    let it = c.extend_with_splits_of_symbolic_refs in
    let means = g.T.Table.means in
    let start = c.args.table.now in
    on_ok_then it.result (λ h. (h.each (means start) (lookups_answer _ (λ f. means f.0.now ≡ means start) (λ s asked result t holds called. search rules) (means start) (λ s asked target t holds called. search rules) _ h.lookups _ refl h.called)).list) it.ensures.split

pub returns-clause-same : goal.returns-clause-same
returns-clause-same g c =
    let it = c.extend_with_splits_of_symbolic_refs in
    let means = g.T.Table.means in
    let kept = outcome_relates _ (λ s f. (means f.0.now ≡ means s.0.now) × (f.0.ghost_name ≡ s.0.ghost_name)) (λ s. (refl, refl)) (λ s t asked result u holds called. search rules)
    _ _ _ _ it.new.find _ _ _ _ _ it.result it.ensures.split it.ensures.fault in
    ap means (c.table-1.given.1 (sym kept.1)) ∙ kept.0
