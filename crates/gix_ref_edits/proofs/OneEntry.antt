-- Rounds over no entry, over one, and over one more.
use Rattle.std.proofs.Common.{◌≡◌, ℕ, zero, suc, ◌+◌, ◌<◌, refl, sym, ap, subst, ◌∙◌, List, [], ◌∷◌, ◌++◌, length, get_or, set, take, drop, map, arith, Option, Some, None, Result}
use Rattle.std.proofs.lemmas.List.{take_more, take_more_set, get_or-drop, length-take-le}
use Rattle.gix_ref_name.specs.declared.name.PartialNameRef.{PartialNameRef}
use Rattle.gix_ref_target.specs.declared.target.Target.{Target}
use Rattle.gix_ref_edits.specs.declared.transaction.RefEdit.{RefEdit}
use Rattle.gix_ref_edits.specs.EditValues.{EditValue, edit_value}
use Rattle.gix_ref_edits.specs.LookUps.{lookups_of}
use Rattle.gix_ref_edits.specs.SplitLists.{child_list, referent, after_round, children}
use Rattle.gix_ref_edits.specs.MadeEntries.{IsSameButEdit, place_list, parent_places}
use Rattle.gix_ref_edits.specs.internal.Rounds.{HasRound, HasSplitLevel}
use Rattle.gix_ref_edits.proofs.Joining.{levels_join}

-- an edit has a place among the parents for each of its children
place_of_one : (at : ℕ) (edit : EditValue) (name : Option (List ℕ)) → map (λ child. at) (child_list edit name ++ []) ≡ place_list at name ++ []
place_of_one at edit None = refl
place_of_one at edit (Some name) = refl

places_of_one : (find : List ℕ → Option (List ℕ)) (at : ℕ) (edit : EditValue) (kids : List EditValue)
    → kids ≡ children find (edit ∷ []) → map (λ child. at) kids ≡ parent_places find at (edit ∷ [])
unfolding children parent_places
places_of_one find at edit kids is = ap (map (λ child. at)) is ∙ place_of_one at edit (referent find edit.name edit.deref)

pub rest_of : {X : Type 0} (xs ys : List X) (i : ℕ) (y : X) → i < length xs → i < length ys → drop i xs ≡ drop i ys → drop (i + 1) (set xs i y) ≡ drop (i + 1) ys
rest_of [] ys i y lt lt' same = absurd (omega arith)
rest_of (x ∷ xs) [] i y lt lt' same = absurd (omega arith)
rest_of (x ∷ xs) (z ∷ zs) zero y lt lt' same = ap (drop 1) same
rest_of (x ∷ xs) (z ∷ zs) (suc i) y lt lt' same =
    let next : suc i + 1 ≡ suc (i + 1) = omega arith in
    ap (λ n. drop n (x ∷ set xs i y)) next ∙ rest_of xs zs i y (omega arith) (omega arith) same ∙ ap (λ n. drop n (z ∷ zs)) (sym next)

read_of : {X : Type 0} (xs ys : List X) (i : ℕ) (x : X) → drop i xs ≡ drop i ys → x ≡ get_or xs i x → get_or ys i x ≡ x
read_of xs ys i x same is =
    let at : (zs : List _) → get_or (drop i zs) 0 x ≡ get_or zs i x = λ zs. get_or-drop i zs 0 x ∙ ap (λ n. get_or zs n x) (omega arith) in
    sym (at ys) ∙ ap (λ zs. get_or zs 0 x) (sym same) ∙ at xs ∙ sym is

module _ {F E M T : Type 0} (step : F → PartialNameRef → Result (Option Target) E → F → Type 0) (makes : M → ℕ → RefEdit → T → M → Type 0) (edit_of : T → RefEdit) (with_edit : T → RefEdit → T) where
  abbrev value : T → EditValue
  value entry = edit_value (edit_of entry)

  pub level_of_none : (at : ℕ) (s : F × M) (kids : List T) → kids ≡ [] → HasSplitLevel step makes edit_of with_edit at s [] [] kids s
  unfolding after_round children lookups_of parent_places
  level_of_none at s kids none = record {
    round = record { lookups = []; called = refl; each = λ find answers. record { asked = refl; changed = refl; split = ap (map value) none } };
    made = [];
    called = refl;
    entries = none;
    places = λ find answers. refl;
    kept = tt;
  }

  pub level_without_child : (at : ℕ) (s t : F) (m : M) (x y : T) → HasRound step s (value x ∷ []) (value y ∷ []) [] t → IsSameButEdit with_edit x y
      → HasSplitLevel step makes edit_of with_edit at (s, m) (x ∷ []) (y ∷ []) [] (t, m)
  level_without_child at s t m x y round same = record {
    round = round;
    made = [];
    called = refl;
    entries = refl;
    places = λ find answers. places_of_one find at (value x) [] (round.each find answers).split;
    kept = (same, tt);
  }

  pub level_with_child : (at : ℕ) (s t : F) (m n : M) (x y : T) (child : RefEdit) (entry : T) → HasRound step s (value x ∷ []) (value y ∷ []) (edit_value child ∷ []) t
      → makes m at child entry n → value entry ≡ edit_value child → IsSameButEdit with_edit x y
      → HasSplitLevel step makes edit_of with_edit at (s, m) (x ∷ []) (y ∷ []) (entry ∷ []) (t, n)
  level_with_child at s t m n x y child entry round call kept same = record {
    round = record {
      lookups = round.lookups;
      called = round.called;
      each = λ find answers. let at = round.each find answers in record {
        asked = at.asked;
        changed = at.changed;
        split = ap (λ v. v ∷ []) kept ∙ at.split;
      };
    };
    made = record { place = at; child = child; entry = entry } ∷ [];
    called = (n, call, refl);
    entries = refl;
    places = λ find answers. places_of_one find at (value x) (edit_value child ∷ []) (round.each find answers).split;
    kept = (same, tt);
  }

  pub level_more : (at : ℕ) (s t u : F × M) (start now : List T) (i : ℕ) (x y : T) (kids others : List T)
      → i < length start → i < length now → drop i now ≡ drop i start → x ≡ get_or now i x
      → HasSplitLevel step makes edit_of with_edit at s (take i start) (take i now) kids t
      → HasSplitLevel step makes edit_of with_edit (at + i) t (x ∷ []) (y ∷ []) others u
      → HasSplitLevel step makes edit_of with_edit at s (take (i + 1) start) (take (i + 1) (set now i y)) (kids ++ others) u
  level_more at s t u start now i x y kids others lt lt' same is first rest =
      let before : take (i + 1) start ≡ take i start ++ x ∷ [] = take_more start i x lt ∙ ap (λ z. take i start ++ z ∷ []) (read_of now start i x same is) in
      let after : take (i + 1) (set now i y) ≡ take i now ++ y ∷ [] = take_more_set now i y lt' in
      let there : at + i ≡ at + length (take i start) = omega (arith, length-take-le i start (omega arith)) in
      let beyond : HasSplitLevel step makes edit_of with_edit (at + length (take i start)) t (x ∷ []) (y ∷ []) others u =
      subst (λ n. HasSplitLevel step makes edit_of with_edit n t (x ∷ []) (y ∷ []) others u) there rest in
      subst (λ l. HasSplitLevel step makes edit_of with_edit at s l (take (i + 1) (set now i y)) (kids ++ others) u) (sym before)
      (subst (λ l. HasSplitLevel step makes edit_of with_edit at s (take i start ++ x ∷ []) l (kids ++ others) u) (sym after)
      (levels_join step makes edit_of with_edit at s t u (take i start) (x ∷ []) (take i now) (y ∷ []) kids others first beyond))
