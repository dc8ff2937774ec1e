-- Rounds over a list, one after the other.
use Rattle.std.proofs.Common.{◌≡◌, ℕ, suc, ◌+◌, refl, sym, ap, subst, ◌∙◌, List, [], ◌++◌, length, take, drop, map, arith, append_assoc, append-nil, Option, Result}
use Rattle.std.proofs.Math.Seq.{take-append_seam, drop-append_seam}
use Rattle.std.proofs.lemmas.List.{map-append, length-map, length-append, take-append-drop, nil_from_length}
use Rattle.std.specs.List.{AllZip}
use Rattle.gix_ref_name.specs.declared.name.PartialNameRef.{PartialNameRef}
use Rattle.gix_ref_target.specs.declared.target.Target.{Target}
use Rattle.gix_ref_edits.specs.declared.transaction.RefEdit.{RefEdit}
use Rattle.gix_ref_edits.specs.EditValues.{EditValue, edit_value}
use Rattle.gix_ref_edits.specs.LookUps.{LookUp, Answers, lookups_of}
use Rattle.gix_ref_edits.specs.SplitLists.{looked_up, referent, after_round, children, level, first_levels}
use Rattle.gix_ref_edits.specs.MadeEntries.{MadeEntry, IsSameButEdit, edits_of, parent_places}
use Rattle.gix_ref_edits.specs.internal.Rounds.{AreLevels, HasSplitLevel, HasRounds}
use Rattle.gix_ref_edits.specs.SplitResults.{HasSplits, HasTooManySplits}
use Rattle.gix_ref_edits.proofs.Joining.{all_front, all_back, folds_join, zips_join, after_round-append, lookups_of-append, parent_places-append}

module _ (find : List ℕ → Option (List ℕ)) (edits : List EditValue) where
  length-after_round : (xs : List EditValue) → length (after_round find xs) ≡ length xs
  unfolding after_round
  length-after_round xs = length-map xs (λ edit. looked_up edit (referent find edit.name edit.deref))

  pub no_levels : AreLevels find edits 0 [] edits [] []
  unfolding first_levels level after_round lookups_of parent_places
  no_levels = record { levels = refl; next = refl; asked = refl; places = refl }

  pub level_more : (n : ℕ) (front back after kids : List EditValue) (lookups more : List LookUp) (parents others : List ℕ)
      → AreLevels find edits n front back lookups parents
      → after ≡ after_round find back → kids ≡ children find back → more ≡ lookups_of find back → others ≡ parent_places find (length front) back
      → AreLevels find edits (suc n) (front ++ after) kids (lookups ++ more) (parents ++ others)
  unfolding first_levels level
  level_more n front back after kids lookups more parents others are changed split asked places =
      let done = first_levels find edits n in
      let next = level find edits n in
      let there : length front ≡ 0 + length done = ap length are.levels ∙ length-after_round done ∙ omega arith in
      record {
        levels = ap (λ l. l ++ after) are.levels ∙ ap (λ l. after_round find done ++ l) (changed ∙ ap (after_round find) are.next) ∙ sym (after_round-append find done next);
        next = split ∙ ap (children find) are.next;
        asked = ap (λ l. l ++ more) are.asked ∙ ap (λ l. lookups_of find done ++ l) (asked ∙ ap (lookups_of find) are.next) ∙ sym (lookups_of-append find done next);
        places = ap (λ l. l ++ others) are.places ∙ ap (λ l. parent_places find 0 done ++ l) (places ∙ ap (λ m. parent_places find m back) there ∙ ap (parent_places find (0 + length done)) are.next)
            ∙ sym (parent_places-append find 0 done next);
      }

module _ {F E M T : Type 0} (step : F → PartialNameRef → Result (Option Target) E → F → Type 0) (makes : M → ℕ → RefEdit → T → M → Type 0) (edit_of : T → RefEdit) (with_edit : T → RefEdit → T) where
  -- the first round is over the whole list
  pub rounds_of_none : (s : F × M) (edits : List T) → HasRounds step makes edit_of with_edit 0 s edits edits 0 s
  rounds_of_none s edits = record {
    front = [];
    back = edits;
    given = [];
    lookups = [];
    made = [];
    parts = refl;
    place = refl;
    called = refl;
    makings = refl;
    entries = append-nil edits;
    kept = tt;
    each = λ find answers. no_levels find (edits_of edit_of edits);
  }

  pub rounds_more : (n : ℕ) (s t u : F × M) (edits list after kids : List T) (first : ℕ)
      → (rounds : HasRounds step makes edit_of with_edit n s edits list first t)
      → HasSplitLevel step makes edit_of with_edit first t rounds.back after kids u
      → HasRounds step makes edit_of with_edit (suc n) s edits ((rounds.front ++ after) ++ kids) (length (rounds.front ++ after)) u
  rounds_more n s t u edits list after kids first rounds more =
      let value : T → EditValue = λ entry. edit_value (edit_of entry) in
      let entry : MadeEntry T → T = λ made. made.entry in
      let place : MadeEntry T → ℕ = λ made. made.place in
      let Agrees : (List ℕ → Option (List ℕ)) → LookUp → Type 0 = λ find lookup. find lookup.name ≡ lookup.referent in
      record {
        front = rounds.front ++ after;
        back = kids;
        given = rounds.given ++ rounds.back;
        lookups = rounds.lookups ++ more.round.lookups;
        made = rounds.made ++ more.made;
        parts = refl;
        place = refl;
        called = folds_join (Answers step) s.0 rounds.lookups t.0 more.round.lookups u.0 rounds.called more.round.called;
        makings = folds_join (λ before made later. makes before made.place made.child made.entry later) s.1 rounds.made t.1 more.made u.1 rounds.makings more.called;
        entries = ap (λ l. edits ++ l) (map-append entry rounds.made more.made) ∙ sym (append_assoc edits (map entry rounds.made) (map entry more.made))
            ∙ ap (λ l. l ++ map entry more.made) rounds.entries ∙ ap (λ l. (rounds.given ++ rounds.back) ++ l) (sym more.entries);
        kept = zips_join (IsSameButEdit with_edit) rounds.given rounds.front rounds.back after rounds.kept more.kept;
        each = λ find answers.
            let before = rounds.each find (all_front (Agrees find) rounds.lookups more.round.lookups answers) in
            let answered = all_back (Agrees find) rounds.lookups more.round.lookups answers in
            let now = more.round.each find answered in
            let first_is : first ≡ length (map value rounds.front) = sym (length-map rounds.front value ∙ rounds.place) in
            let next = level_more find (map value edits) n (map value rounds.front) (map value rounds.back) (map value after) (map value kids)
            rounds.lookups more.round.lookups (map place rounds.made) (map place more.made) before now.changed now.split now.asked
            (more.places find answered ∙ ap (λ m. parent_places find m (map value rounds.back)) first_is) in
            record {
              levels = map-append value rounds.front after ∙ next.levels;
              next = next.next;
              asked = next.asked;
              places = map-append place rounds.made more.made ∙ next.places;
            };
      }

  -- a round over the level that is next, as the call makes it: over the list from the place `first` on
  pub rounds_step : (n : ℕ) (s t u : F × M) (edits list now kids : List T) (first : ℕ)
      → HasRounds step makes edit_of with_edit n s edits list first t → take first now ≡ take first list
      → HasSplitLevel step makes edit_of with_edit first t (drop first list) (drop first now) kids u
      → HasRounds step makes edit_of with_edit (suc n) s edits (now ++ kids) (length now) u
  rounds_step n s t u edits list now kids first rounds same more =
      let there : take first list ≡ rounds.front = ap (take first) rounds.parts ∙ ap (λ m. take m (rounds.front ++ rounds.back)) (sym rounds.place) ∙ take-append_seam rounds.front rounds.back in
      let next : drop first list ≡ rounds.back = ap (drop first) rounds.parts ∙ ap (λ m. drop m (rounds.front ++ rounds.back)) (sym rounds.place) ∙ drop-append_seam rounds.front rounds.back in
      let whole : rounds.front ++ drop first now ≡ now = ap (λ l. l ++ drop first now) (sym (same ∙ there)) ∙ take-append-drop first now in
      subst (λ l. HasRounds step makes edit_of with_edit (suc n) s edits (l ++ kids) (length l) u) whole
      (rounds_more n s t u edits list (drop first now) kids first rounds
      (subst (λ l. HasSplitLevel step makes edit_of with_edit first t l (drop first now) kids u) next more))

  -- five rounds, the last of which found no children
  pub five_rounds : (s u : F × M) (edits now kids : List T) → kids ≡ [] → HasRounds step makes edit_of with_edit 5 s edits (now ++ kids) (length now) u
      → HasSplits step makes edit_of with_edit s edits now u
  five_rounds s u edits now kids none rounds =
      let parts : now ≡ rounds.front ++ rounds.back = sym (append-nil now) ∙ ap (λ l. now ++ l) (sym none) ∙ rounds.parts in
      let empty : rounds.back ≡ [] = nil_from_length rounds.back (omega (arith, rounds.place, ap length parts, length-append rounds.front rounds.back)) in
      let whole : now ≡ rounds.front = parts ∙ ap (λ l. rounds.front ++ l) empty ∙ append-nil rounds.front in
      let entries : edits ++ map (λ made. made.entry) rounds.made ≡ rounds.given = rounds.entries ∙ ap (λ l. rounds.given ++ l) empty ∙ append-nil rounds.given in
      let value : T → EditValue = λ entry. edit_value (edit_of entry) in
      record {
        lookups = rounds.lookups;
        called = rounds.called;
        made = rounds.made;
        makings = rounds.makings;
        entries = subst (λ l. AllZip (IsSameButEdit with_edit) l now) (sym entries) (subst (λ l. AllZip (IsSameButEdit with_edit) rounds.given l) (sym whole) rounds.kept);
        each = λ find answers. let at = rounds.each find answers in record {
          list = record { ends = sym at.next ∙ ap (map value) empty; levels = ap (map value) whole ∙ at.levels };
          asked = at.asked;
          places = at.places;
        };
      }

  -- and five of which the last found some
  pub too_many_rounds : (s u : F × M) (edits now kids : List T) → (kids ≡ [] → ⊥) → HasRounds step makes edit_of with_edit 5 s edits (now ++ kids) (length now) u
      → HasTooManySplits step s.0 (edits_of edit_of edits) u.0
  too_many_rounds s u edits now kids some rounds =
      let value : T → EditValue = λ entry. edit_value (edit_of entry) in
      record {
        lookups = rounds.lookups;
        called = rounds.called;
        each = λ find answers none.
            let length_of : length rounds.back ≡ 0 = sym (length-map rounds.back value) ∙ ap length ((rounds.each find answers).next ∙ none) in
            some (nil_from_length kids (omega (arith, length_of, rounds.place, ap length rounds.parts, length-append now kids, length-append rounds.front rounds.back)));
      }
