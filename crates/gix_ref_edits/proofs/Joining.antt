-- Rounds over two lists of edits, one after the other, are a round over both.
use Rattle.std.proofs.Common.{◌≡◌, ℕ, ◌+◌, sym, ap, subst, ◌∙◌, List, [], ◌∷◌, ◌++◌, length, map, filter, append_assoc, arith, Option, Result, All}
use Rattle.std.proofs.lemmas.List.{map-append, length-map}
use Rattle.std.proofs.lemmas.List.Concat.{flat_map-append}
use Rattle.std.proofs.lemmas.List.Elements.{All-nil, All-cons, All-head, All-tail, filter-append}
use Rattle.std.specs.List.{FoldsTo, AllZip}
use Rattle.gix_ref_name.specs.declared.name.PartialNameRef.{PartialNameRef}
use Rattle.gix_ref_target.specs.declared.target.Target.{Target}
use Rattle.gix_ref_edits.specs.declared.transaction.RefEdit.{RefEdit}
use Rattle.gix_ref_edits.specs.declared.transaction.ext.error.SplitError.{SplitError}
use Rattle.gix_ref_edits.specs.declared.transaction.ext.error.SplitError.TheVariants.{Find, TooManySplits, DoubledName, Memory}
use Rattle.gix_ref_edits.specs.EditValues.{EditValue, edit_value}
use Rattle.gix_ref_edits.specs.LookUps.{LookUp, Answers, CallsInOrder, HasLookedUp, LookUpFailed, lookups_of}
use Rattle.gix_ref_edits.specs.SplitLists.{looked_up, child_list, referent, after_round, children}
use Rattle.gix_ref_edits.specs.MadeEntries.{MadeEntry, place_list, parent_places}
use Rattle.gix_ref_edits.specs.SplitErrors.{IsSplitFault}
use Rattle.gix_ref_edits.specs.internal.Rounds.{IsRound, HasRound, IsLookUpFault, HasSplitLevel}

pub all_front : {X : Type 0} (P : X → Type 0) (xs ys : List X) → All P (xs ++ ys) → All P xs
all_front P [] ys all = All-nil P
all_front P (x ∷ xs) ys all = All-cons P x xs (All-head P x (xs ++ ys) all) (all_front P xs ys (All-tail P x (xs ++ ys) all))

pub all_back : {X : Type 0} (P : X → Type 0) (xs ys : List X) → All P (xs ++ ys) → All P ys
all_back P [] ys all = all
all_back P (x ∷ xs) ys all = all_back P xs ys (All-tail P x (xs ++ ys) all)

pub folds_join : {P A : Type 0} (R : P → A → P → Type 0) (p : P) (xs : List A) (q : P) (ys : List A) (r : P)
    → FoldsTo R p xs q → FoldsTo R q ys r → FoldsTo R p (xs ++ ys) r
folds_join R p [] q ys r is rest = subst (λ s. FoldsTo R s ys r) (sym is) rest
folds_join R p (x ∷ xs) q ys r first rest = (first.0, first.1, folds_join R first.0 xs q ys r first.2 rest)

pub zips_join : {A B : Type 0} (R : A → B → Type 0) (xs : List A) (ys : List B) (us : List A) (vs : List B)
    → AllZip R xs ys → AllZip R us vs → AllZip R (xs ++ us) (ys ++ vs)
zips_join R [] [] us vs first rest = rest
zips_join R [] (y ∷ ys) us vs first rest = absurd first
zips_join R (x ∷ xs) [] us vs first rest = absurd first
zips_join R (x ∷ xs) (y ∷ ys) us vs first rest = (first.0, zips_join R xs ys us vs first.1 rest)

-- the finder answered this for the name
abbrev Agrees : (List ℕ → Option (List ℕ)) → LookUp → Type 0
Agrees find lookup = find lookup.name ≡ lookup.referent

module _ (find : List ℕ → Option (List ℕ)) where
  pub after_round-append : (xs ys : List EditValue) → after_round find (xs ++ ys) ≡ after_round find xs ++ after_round find ys
  unfolding after_round
  after_round-append xs ys = map-append (λ edit. looked_up edit (referent find edit.name edit.deref)) xs ys

  pub children-append : (xs ys : List EditValue) → children find (xs ++ ys) ≡ children find xs ++ children find ys
  unfolding children
  children-append xs ys = flat_map-append (λ edit. child_list edit (referent find edit.name edit.deref)) xs ys

  pub lookups_of-append : (xs ys : List EditValue) → lookups_of find (xs ++ ys) ≡ lookups_of find xs ++ lookups_of find ys
  unfolding lookups_of
  lookups_of-append xs ys =
      let lookup : EditValue → LookUp = λ edit. record { name = edit.name; referent = find edit.name } in
      ap (map lookup) (filter-append (λ edit. edit.deref) xs ys) ∙ map-append lookup (filter (λ edit. edit.deref) xs) (filter (λ edit. edit.deref) ys)

  pub parent_places-append : (at : ℕ) (xs ys : List EditValue) → parent_places find at (xs ++ ys) ≡ parent_places find at xs ++ parent_places find (at + length xs) ys
  unfolding parent_places
  parent_places-append at [] ys = ap (λ n. parent_places find n ys) (omega arith)
  parent_places-append at (x ∷ xs) ys =
      let here = place_list at (referent find x.name x.deref) in
      let same : at + 1 + length xs ≡ at + length (x ∷ xs) = omega arith in
      ap (λ l. here ++ l) (parent_places-append (at + 1) xs ys)
      ∙ sym (append_assoc here (parent_places find (at + 1) xs) (parent_places find (at + 1 + length xs) ys))
      ∙ ap (λ n. here ++ parent_places find (at + 1) xs ++ parent_places find n ys) same

  pub rounds_join : (xs ys : List EditValue) (asked more : List LookUp) (after later kids others : List EditValue)
      → IsRound find xs asked after kids → IsRound find ys more later others → IsRound find (xs ++ ys) (asked ++ more) (after ++ later) (kids ++ others)
  rounds_join xs ys asked more after later kids others first rest = record {
    asked = ap (λ l. l ++ more) first.asked ∙ ap (λ l. lookups_of find xs ++ l) rest.asked ∙ sym (lookups_of-append xs ys);
    changed = ap (λ l. l ++ later) first.changed ∙ ap (λ l. after_round find xs ++ l) rest.changed ∙ sym (after_round-append xs ys);
    split = ap (λ l. l ++ others) first.split ∙ ap (λ l. children find xs ++ l) rest.split ∙ sym (children-append xs ys);
  }

module _ {F E : Type 0} (step : F → PartialNameRef → Result (Option Target) E → F → Type 0) where
  pub has_rounds_join : (s t u : F) (xs ys after later kids others : List EditValue)
      → HasRound step s xs after kids t → HasRound step t ys later others u → HasRound step s (xs ++ ys) (after ++ later) (kids ++ others) u
  has_rounds_join s t u xs ys after later kids others first rest = record {
    lookups = first.lookups ++ rest.lookups;
    called = folds_join (Answers step) s first.lookups t rest.lookups u first.called rest.called;
    each = λ find answers. rounds_join find xs ys first.lookups rest.lookups after later kids others
        (first.each find (all_front (Agrees find) first.lookups rest.lookups answers)) (rest.each find (all_back (Agrees find) first.lookups rest.lookups answers));
  }

  -- a call that failed after others
  pub fails_later : (s t u : F) (lookups : List LookUp) (error : E) → CallsInOrder step s lookups t → LookUpFailed step t u error → LookUpFailed step s u error
  fails_later s t u lookups error first fault = record {
    lookups = lookups ++ fault.lookups;
    between = fault.between;
    called = folds_join (Answers step) s lookups t fault.lookups fault.between first fault.called;
    asked = fault.asked;
    failed = fault.failed;
  }

  pub looked_up_later : (s t u : F) (lookups : List LookUp) → CallsInOrder step s lookups t → HasLookedUp step t u → HasLookedUp step s u
  looked_up_later s t u lookups first rest = record {
    lookups = lookups ++ rest.lookups;
    called = folds_join (Answers step) s lookups t rest.lookups u first rest.called;
  }

  pub looked_up_both : (s t u : F) (lookups more : List LookUp) → CallsInOrder step s lookups t → CallsInOrder step t more u → HasLookedUp step s u
  looked_up_both s t u lookups more first rest = looked_up_later s t u lookups first (record { lookups = more; called = rest })

  pub faults_later : (s t u : F) (lookups : List LookUp) (error : SplitError E) → CallsInOrder step s lookups t → IsLookUpFault step t u error → IsLookUpFault step s u error
  faults_later s t u lookups (Find error) first fault = fails_later s t u lookups error first fault
  faults_later s t u lookups (TooManySplits rounds) first fault = fault
  faults_later s t u lookups (DoubledName name) first fault = fault
  faults_later s t u lookups Memory first fault = looked_up_later s t u lookups first fault

  pub split_faults_later : (s t u : F) (lookups : List LookUp) (TooMany : Type 0) (Doubled : List ℕ → Type 0) (error : SplitError E)
      → CallsInOrder step s lookups t → IsLookUpFault step t u error → IsSplitFault step s u TooMany Doubled error
  split_faults_later s t u lookups TooMany Doubled (Find error) first fault = fails_later s t u lookups error first fault
  split_faults_later s t u lookups TooMany Doubled (TooManySplits rounds) first fault = absurd fault
  split_faults_later s t u lookups TooMany Doubled (DoubledName name) first fault = absurd fault
  split_faults_later s t u lookups TooMany Doubled Memory first fault = looked_up_later s t u lookups first fault

module _ {F E M T : Type 0} (step : F → PartialNameRef → Result (Option Target) E → F → Type 0) (makes : M → ℕ → RefEdit → T → M → Type 0) (edit_of : T → RefEdit) (with_edit : T → RefEdit → T) where
  pub levels_join : (at : ℕ) (s t u : F × M) (xs ys after later kids others : List T)
      → HasSplitLevel step makes edit_of with_edit at s xs after kids t
      → HasSplitLevel step makes edit_of with_edit (at + length xs) t ys later others u
      → HasSplitLevel step makes edit_of with_edit at s (xs ++ ys) (after ++ later) (kids ++ others) u
  unfolding has_rounds_join
  levels_join at s t u xs ys after later kids others first rest =
      let value : T → EditValue = λ entry. edit_value (edit_of entry) in
      let place : MadeEntry T → ℕ = λ made. made.place in
      let entry : MadeEntry T → T = λ made. made.entry in
      let joined : HasRound step s.0 (map value xs ++ map value ys) (map value after ++ map value later) (map value kids ++ map value others) u.0 =
      has_rounds_join step s.0 t.0 u.0 (map value xs) (map value ys) (map value after) (map value later) (map value kids) (map value others) first.round rest.round in
      record {
        round = record {
          lookups = first.round.lookups ++ rest.round.lookups;
          called = joined.called;
          each = λ find answers. let at = joined.each find answers in record {
            asked = at.asked ∙ ap (lookups_of find) (sym (map-append value xs ys));
            changed = map-append value after later ∙ at.changed ∙ ap (after_round find) (sym (map-append value xs ys));
            split = map-append value kids others ∙ at.split ∙ ap (children find) (sym (map-append value xs ys));
          };
        };
        made = first.made ++ rest.made;
        called = folds_join _ s.1 first.made t.1 rest.made u.1 first.called rest.called;
        entries = ap (λ l. l ++ others) first.entries ∙ ap (λ l. map entry first.made ++ l) rest.entries ∙ sym (map-append entry first.made rest.made);
        places = λ find answers.
            let before = first.places find (all_front (Agrees find) first.round.lookups rest.round.lookups answers) in
            let beyond = rest.places find (all_back (Agrees find) first.round.lookups rest.round.lookups answers) in
            map-append place first.made rest.made
            ∙ ap (λ l. l ++ map place rest.made) before
            ∙ ap (λ l. parent_places find at (map value xs) ++ l) beyond
            ∙ ap (λ n. parent_places find at (map value xs) ++ parent_places find (at + n) (map value ys)) (sym (length-map xs value))
            ∙ sym (parent_places-append find at (map value xs) (map value ys))
            ∙ ap (parent_places find at) (sym (map-append value xs ys));
        kept = zips_join _ xs after ys later first.kept rest.kept;
      }
