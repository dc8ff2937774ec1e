use Rattle.std.proofs.Common.{◌≡◌, ◌≤◌, ◌+◌, ◌∷◌, ◌++◌, [], List, length, take, inl, inr, ⊎_elim, sym, ◌∙◌, ap, subst, arith}
use Rattle.std.proofs.lemmas.List.{take_more, take_all}
use Rattle.gix_ref_files.specs.Tree.{no_tree}
use Rattle.gix_ref_memory.specs.Changes.{after_changes, IsChangedPath}
use Rattle.gix_ref_memory.specs.internal.Power.{Fills, IsReachable}
use Rattle.gix_ref_memory.specs.declared.memory.changes.Change.{Change}
use Rattle.gix_ref_memory.proofs.Knowing.{fills_more, placed_snoc, all_reached}
use Rattle.gix_ref_memory.proofs.memory.power.reachable_entries.Goals as goal

pub loop-entry-preserved : goal.loop-entry-preserved
loop-entry-preserved c =
    let xs = c.args.entries.now in
    let i = c.loop-entry.entry-index in
    let item = c.entry-item.result in
    let next : take (i + 1) xs ≡ take i xs ++ item ∷ [] = take_more xs i item c.loop-entry-test.true ∙ ap (λ (x : Change). take i xs ++ x ∷ []) (sym c.entry-item.is) in
    fills_more (IsReachable (after_changes xs no_tree)) (IsChangedPath (take i xs)) (λ q. c.place.result.now ≡ q) (IsChangedPath (take (i + 1) xs)) [] c.loop-entry.left.items c.reach.new.left.items c.loop-entry.invariant c.in_ok-reach.ensures
    (λ q there. ⊎_elim (λ old. inl old) (λ here. inr (c.place.ensures ∙ here)) (placed_snoc (take i xs) item q (subst (λ (l : List Change). IsChangedPath l q) next there)))

pub returns-clause-tree : goal.returns-clause-tree
returns-clause-tree c =
    let xs = c.args.entries.now in
    let i = c.loop-entry.entry-index in
    let le : length xs ≤ i = omega arith in
    all_reached xs c.loop-entry.left.items (subst (λ (l : List Change). Fills (IsReachable (after_changes xs no_tree)) (IsChangedPath l) [] c.loop-entry.left.items) (take_all i xs le) c.loop-entry.invariant)
