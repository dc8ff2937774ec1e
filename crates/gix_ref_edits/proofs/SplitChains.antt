-- The split lists of chains, level by level.
use Rattle.std.proofs.Common.{◌≡◌, ℕ, suc, refl, sym, ap, ◌∙◌, List, [], ◌∷◌, ◌++◌, true, false, Option, Some, None, append-nil}
use Rattle.gix_ref_edits.specs.EditValues.{ChangeValue, EditValue}
use Rattle.gix_ref_edits.specs.SplitLists.{level, first_levels, children, after_round, child_list}
use Rattle.gix_ref_edits.specs.SplitChains.{edit_at, parent_at, ChainOfFourSplits, ChainOfFiveIsTooLong, EditThatStaysIsKept}

module _ (find : List ℕ → Option (List ℕ)) (change : ChangeValue) where
  abbrev follows : List ℕ → EditValue
  follows name = edit_at change name true

  children_of : (name : List ℕ) (answer : Option (List ℕ)) → find name ≡ answer → children find (follows name ∷ []) ≡ child_list (follows name) answer
  unfolding children
  children_of name answer is = ap (λ r. child_list (follows name) r ++ []) is ∙ append-nil (child_list (follows name) answer)

  level_more : (edits : List EditValue) (n : ℕ) (now next : List EditValue) → level find edits n ≡ now → children find now ≡ next → level find edits (suc n) ≡ next
  unfolding level
  level_more edits n now next is more = ap (children find) is ∙ more

  level_none : (name : List ℕ) → level find (follows name ∷ []) 0 ≡ follows name ∷ []
  unfolding level
  level_none name = refl

  five_levels : (edits l0 l1 l2 l3 l4 : List EditValue) → level find edits 0 ≡ l0 → level find edits 1 ≡ l1 → level find edits 2 ≡ l2 → level find edits 3 ≡ l3 → level find edits 4 ≡ l4
      → first_levels find edits 5 ≡ ((((([] ++ l0) ++ l1) ++ l2) ++ l3) ++ l4)
  unfolding first_levels
  five_levels edits l0 l1 l2 l3 l4 e0 e1 e2 e3 e4 =
      ap (λ l. (((([] ++ l) ++ level find edits 1) ++ level find edits 2) ++ level find edits 3) ++ level find edits 4) e0
      ∙ ap (λ l. (((([] ++ l0) ++ l) ++ level find edits 2) ++ level find edits 3) ++ level find edits 4) e1
      ∙ ap (λ l. (((([] ++ l0) ++ l1) ++ l) ++ level find edits 3) ++ level find edits 4) e2
      ∙ ap (λ l. (((([] ++ l0) ++ l1) ++ l2) ++ l) ++ level find edits 4) e3
      ∙ ap (λ l. (((([] ++ l0) ++ l1) ++ l2) ++ l3) ++ l) e4

  rounds_of_five : (a b c d e : List ℕ) → find a ≡ Some b → find b ≡ Some c → find c ≡ Some d → find d ≡ Some e → find e ≡ None
      → after_round find (follows a ∷ follows b ∷ follows c ∷ follows d ∷ follows e ∷ [])
      ≡ parent_at change a ∷ parent_at change b ∷ parent_at change c ∷ parent_at change d ∷ edit_at change e false ∷ []
  unfolding after_round
  rounds_of_five a b c d e ab bc cd de end = rw (ab, bc, cd, de, end) refl

pub chain_of_four_splits : ChainOfFourSplits
chain_of_four_splits find change a b c d e ab bc cd de end =
    let edits = edit_at change a true ∷ [] in
    let at : List ℕ → List EditValue = λ name. edit_at change name true ∷ [] in
    let l0 = level_none find change a in
    let l1 = level_more find change edits 0 (at a) (at b) l0 (children_of find change a (Some b) ab) in
    let l2 = level_more find change edits 1 (at b) (at c) l1 (children_of find change b (Some c) bc) in
    let l3 = level_more find change edits 2 (at c) (at d) l2 (children_of find change c (Some d) cd) in
    let l4 = level_more find change edits 3 (at d) (at e) l3 (children_of find change d (Some e) de) in
    record {
      ends = level_more find change edits 4 (at e) [] l4 (children_of find change e None end);
      levels = sym (ap (after_round find) (five_levels find change edits (at a) (at b) (at c) (at d) (at e) l0 l1 l2 l3 l4) ∙ rounds_of_five find change a b c d e ab bc cd de end);
    }

pub chain_of_five_is_too_long : ChainOfFiveIsTooLong
chain_of_five_is_too_long find change a b c d e f ab bc cd de ef split is =
    let edits = edit_at change a true ∷ [] in
    let at : List ℕ → List EditValue = λ name. edit_at change name true ∷ [] in
    let l0 = level_none find change a in
    let l1 = level_more find change edits 0 (at a) (at b) l0 (children_of find change a (Some b) ab) in
    let l2 = level_more find change edits 1 (at b) (at c) l1 (children_of find change b (Some c) bc) in
    let l3 = level_more find change edits 2 (at c) (at d) l2 (children_of find change c (Some d) cd) in
    let l4 = level_more find change edits 3 (at d) (at e) l3 (children_of find change d (Some e) de) in
    let l5 = level_more find change edits 4 (at e) (at f) l4 (children_of find change e (Some f) ef) in
    let never = sym is.ends ∙ l5 in absurd (cc)

pub edit_that_stays_is_kept : EditThatStaysIsKept
unfolding level first_levels children after_round
edit_that_stays_is_kept find change name = record { ends = refl; levels = refl }
