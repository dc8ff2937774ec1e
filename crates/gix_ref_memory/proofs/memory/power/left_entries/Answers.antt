use Rattle.std.proofs.Common.{◌≡◌, ◌≤◌, ◌+◌, ◌∷◌, ◌++◌, [], List, length, take, sym, ◌∙◌, ap, subst, arith}
use Rattle.std.proofs.lemmas.List.{take_more, take_all}
use Rattle.gix_ref_memory.specs.internal.Power.{Fills, IsChoice, IsNamedByChange, Names}
use Rattle.gix_ref_memory.specs.declared.memory.changes.Change.{Change}
use Rattle.gix_ref_memory.proofs.Knowing.{fills_more, named_snoc, all_chosen}
use Rattle.gix_ref_memory.proofs.memory.power.left_entries.Goals as goal

pub loop-change-preserved : goal.loop-change-preserved
loop-change-preserved c =
    let xs = c.args.changes.now in
    let i = c.loop-change.change-index in
    let item = c.change-item.result in
    let next : take (i + 1) xs ≡ take i xs ++ item ∷ [] = take_more xs i item c.loop-change-test.true ∙ ap (λ (x : Change). take i xs ++ x ∷ []) (sym c.change-item.is) in
    fills_more (IsChoice xs c.args.pick) (IsNamedByChange (take i xs)) (Names item) (IsNamedByChange (take (i + 1) xs)) [] c.loop-change.left.items c.leave_named.new.left.items c.loop-change.invariant c.in_ok-leave_named.ensures
    (λ q there. named_snoc (take i xs) item q (subst (λ (l : List Change). IsNamedByChange l q) next there))

pub returns : goal.returns
returns c =
    let xs = c.args.changes.now in
    let i = c.loop-change.change-index in
    let le : length xs ≤ i = omega arith in
    all_chosen xs c.loop-change.left.items c.args.pick (subst (λ (l : List Change). Fills (IsChoice xs c.args.pick) (IsNamedByChange l) [] c.loop-change.left.items) (take_all i xs le) c.loop-change.invariant)
