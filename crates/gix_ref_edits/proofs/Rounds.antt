-- Rounds over one edit.
use Rattle.std.proofs.Common.{◌≡◌, refl, sym, ap, subst, ◌∙◌, append-nil, arith, List, [], ◌∷◌, Option, Result, Ok, Err, Bool, true, false, ℕ}
use Rattle.gix_ref_name.specs.declared.name.PartialNameRef.{PartialNameRef}
use Rattle.gix_ref_target.specs.declared.target.Target.{Target}
use Rattle.gix_ref_name.specs.Names.{partial_ref_bytes}
use Rattle.gix_ref_edits.specs.EditValues.{ChangeValue, EditValue}
use Rattle.gix_ref_edits.specs.LookUps.{LookUp, Answers, HasLookedUp, LookUpFailed, referent_of, lookups_of}
use Rattle.gix_ref_edits.specs.SplitLists.{looked_up, child_list, after_round, children}
use Rattle.gix_ref_edits.specs.internal.Rounds.{IsRound, HasRound}

module _ {F E : Type 0} (step : F → PartialNameRef → Result (Option Target) E → F → Type 0) (before later : F) where
  -- a call that answered
  pub answered : (asked : PartialNameRef) (name : List ℕ) (result : Result (Option Target) E) (target : Option Target)
      → step before asked result later → partial_ref_bytes asked ≡ name → result ≡ Ok target
      → Answers step before (record { name = name; referent = referent_of target }) later
  answered asked name result target called named is =
      record { asked = asked; name = named; target = target; called = subst (λ r. step before asked r later) is called; referent = refl }

  pub looked_up_once : (lookup : LookUp) → Answers step before lookup later → HasLookedUp step before later
  looked_up_once lookup call = record { lookups = lookup ∷ []; called = (later, call, refl) }

  pub failed_at_once : (asked : PartialNameRef) (result : Result (Option Target) E) (error : E)
      → step before asked result later → result ≡ Err error → LookUpFailed step before later error
  failed_at_once asked result error called is =
      record { lookups = []; between = before; called = refl; asked = asked; failed = subst (λ r. step before asked r later) is called }

module _ (find : List ℕ → Option (List ℕ)) (name : List ℕ) (change : ChangeValue) where
  abbrev edit : Bool → EditValue
  edit deref = record { name = name; change = change; deref = deref }

  over_one_that_stays : IsRound find (edit false ∷ []) [] (edit false ∷ []) []
  unfolding after_round children lookups_of
  over_one_that_stays = record { asked = refl; changed = refl; split = refl }

  over_one_that_follows : (answer : Option (List ℕ)) → find name ≡ answer
      → IsRound find (edit true ∷ []) (record { name = name; referent = answer } ∷ []) (looked_up (edit true) answer ∷ []) (child_list (edit true) answer)
  unfolding after_round children lookups_of
  over_one_that_follows answer found = record {
    asked = ap {B = List LookUp} (λ r. record { name = name; referent = r } ∷ []) (sym found);
    changed = ap (λ r. looked_up (edit true) r ∷ []) (sym found);
    split = ap (child_list (edit true)) (sym found) ∙ sym (append-nil (child_list (edit true) (find name)));
  }

module _ {F E : Type 0} (step : F → PartialNameRef → Result (Option Target) E → F → Type 0) (before : F) (edit : EditValue) where
  -- a round over an edit that does not follow
  pub not_followed : edit.deref ≡ false → HasRound step before (edit ∷ []) (edit ∷ []) [] before
  not_followed is = record {
    lookups = [];
    called = refl;
    each = λ find answers. subst (λ d. IsRound find (record edit { deref = d } ∷ []) [] (record edit { deref = d } ∷ []) []) (sym is) (over_one_that_stays find edit.name edit.change);
  }

  -- and over one that does
  pub followed : (later : F) (answer : Option (List ℕ)) (after : EditValue) (kids : List EditValue) → edit.deref ≡ true
      → Answers step before (record { name = edit.name; referent = answer }) later
      → after ≡ looked_up edit answer → kids ≡ child_list edit answer
      → HasRound step before (edit ∷ []) (after ∷ []) kids later
  followed later answer after kids is call changed split =
      let round : (find : List ℕ → Option (List ℕ)) → find edit.name ≡ answer → IsRound find (edit ∷ []) (record { name = edit.name; referent = answer } ∷ []) (looked_up edit answer ∷ []) (child_list edit answer) =
      λ find found. subst (λ d. IsRound find (record edit { deref = d } ∷ []) (record { name = edit.name; referent = answer } ∷ []) (looked_up (record edit { deref = d }) answer ∷ []) (child_list (record edit { deref = d }) answer))
      (sym is) (over_one_that_follows find edit.name edit.change answer found) in
      record {
        lookups = record { name = edit.name; referent = answer } ∷ [];
        called = (later, call, refl);
        each = λ find answers. let at = round find (answers 0 (record { name = edit.name; referent = answer }) (omega arith)) in record {
          asked = at.asked;
          changed = ap (λ a. a ∷ []) changed ∙ at.changed;
          split = split ∙ at.split;
        };
      }
