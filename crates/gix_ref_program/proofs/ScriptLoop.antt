-- The lines of a script, one after the other.
use Rattle.std.proofs.Common.{◌≡◌, ◌⊎◌, inl, inr, ℕ, List, [], ◌∷◌, ◌++◌, Option, Some, None, Result, Ok, Err, IfOk, OnOk, refl, sym, ◌∙◌, ap, subst, arith, append_assoc, append-nil}
use Rattle.gix_ref_files.specs.declared.files.FileError.{FileError}
use Rattle.std.specs.Io.KnownBytes.{Appends}
use Rattle.std.specs.List.{flat_map}
use Rattle.gix_ref_files.specs.Files.{Meaning, Leaves, Loses, FaultCounts}
use Rattle.gix_ref_files.specs.Tree.{Tree}
use Rattle.gix_ref_theory.specs.Sequences.{AreDone, AtNext}
use Rattle.gix_ref_theory.proofs.Sequences.{done_keeps, done_more, loses_starts, losses_go_on, stops_begin, stops_go_on, within_first}
use Rattle.gix_ref_transaction.specs.OwnLocks.{paths_of}
use Rattle.gix_ref_store.specs.Prepared.{HasGoodRecords, IsAtRest, tree_of}
use Rattle.gix_ref_store.specs.Store.{files_of}
use Rattle.gix_ref_store.specs.declared.file.store.Store.{Store}
use Rattle.gix_ref_program.specs.Outcomes.{printed, status_of}
use Rattle.gix_ref_program.specs.Scripts.{IsLineLoss, IsLineStop, IsScriptLoss, IsScriptStop, LineComes, LineMade, LinePrints, MadeOnWay, ScriptPrints, Way}
use Rattle.gix_ref_program.specs.Writes.{IsKept, IsMade, IsRefused, Terms}
use Rattle.gix_ref_program.proofs.Writing.{kept}
use Rattle.gix_ref_program.specs.Scripts.ScriptEnd.{AllMade, OneRefused, Unsaid}
use Rattle.gix_ref_program.specs.declared.outcome.Outcome.{Outcome}
use Rattle.gix_ref_program.specs.declared.outcome.Outcome.TheVariants as outcomes

-- What is printed.

pub append_more : (a b c : Option (List ℕ)) (first second : List ℕ) → Appends a b first → Appends b c second → Appends a c (first ++ second)
append_more None b c first second one two = _
append_more (Some x) None c first second one two = absurd one
append_more (Some x) (Some y) None first second one two = absurd two
append_more (Some x) (Some y) (Some z) first second one two = two ∙ (ap (λ w. w ++ second) one ∙ append_assoc x first second)

pub append_none : (a : Option (List ℕ)) → Appends a a []
append_none None = _
append_none (Some x) = sym (append-nil x)

more_said : (said : List Outcome) (outcome : Outcome) → flat_map printed (said ++ outcome ∷ []) ≡ flat_map printed said ++ printed outcome
more_said [] outcome = append-nil (printed outcome)
more_said (o ∷ said) outcome = ap (λ w. printed o ++ w) (more_said said outcome) ∙ sym (append_assoc (printed o) (flat_map printed said) (printed outcome))

zero_one : (n : ℕ) → n ≡ 0 → n ≡ 1 → ⊥
zero_one n zero one = absurd (omega (arith, zero, one))

-- What a line comes to.

module _ {F : Type 0} (honest : Type 0) (read : FileError → Type 0) (means : F → Meaning) (faults : F → FaultCounts) (terms : Terms) where
  -- it is made or refused
  made_or_refused : (line : List ℕ) (old new : Store F) (outcome : Outcome) → LineComes honest read means faults terms line old new outcome → (IsMade outcome × (status_of outcome ≡ 0)) ⊎ (IsRefused outcome × (status_of outcome ≡ 1))
  made_or_refused line old new (outcomes.Updated locks) comes = inl (tt, refl)
  made_or_refused line old new (outcomes.Refused refusal locks) comes = inr (tt, refl)
  made_or_refused line old new outcomes.WrongWords (inl comes) = absurd comes.2
  made_or_refused line old new outcomes.WrongWords (inr not) = absurd not
  made_or_refused line old new (outcomes.Shown reference) (inl comes) = absurd comes.2
  made_or_refused line old new (outcomes.Shown reference) (inr not) = absurd not

  is_made : (line : List ℕ) (old new : Store F) (outcome : Outcome) → LineComes honest read means faults terms line old new outcome → IsMade outcome → LineMade honest means faults terms line old new
  is_made line old new (outcomes.Updated locks) (inl (asked, asks, written)) made = (asked, asks, (paths_of locks.items, written))
  is_made line old new (outcomes.Updated locks) (inr not) made = absurd not
  is_made line old new (outcomes.Refused refusal locks) comes made = absurd made
  is_made line old new outcomes.WrongWords comes made = absurd made
  is_made line old new (outcomes.Shown reference) comes made = absurd made

  -- lines that were made on the way were made
  pub on_way : (done : List (List ℕ)) (s t : Way F) → AreDone (MadeOnWay honest read means faults terms) done s t → AreDone (LineMade honest means faults terms) done s.store t.store
  on_way [] s t is = ap (λ (w : Way F). w.store) is
  on_way (line ∷ done) s t (mid, (outcome, comes, made, says), rest) = (mid.store, is_made line s.store mid.store outcome comes made, on_way done mid t rest)

  -- A script so far, with these lines to come.
  pub record SoFar (lines : List (List ℕ)) (first now : Store F) (rest : List (List ℕ)) (out so_far : Option (List ℕ)) : Type 0 where
    pub done : List (List ℕ)
    pub lines_are : lines ≡ done ++ rest
    pub said : List Outcome
    pub were : AreDone (MadeOnWay honest read means faults terms) done (record { store = first; said = [] }) (record { store = now; said = said })
    pub prints : Appends out so_far (flat_map printed said)
    pub leaves : honest → Leaves (means (files_of first)) (means (files_of now)) (IsScriptStop honest means faults terms lines first)
    pub good : honest → HasGoodRecords means first → HasGoodRecords means now
    pub rests : honest → IsAtRest means first → IsAtRest means now
    pub loses : honest → HasGoodRecords means first → IsAtRest means first → Loses (means (files_of first)) (means (files_of now)) (IsScriptLoss honest means faults terms lines first)

  pub begins : (lines : List (List ℕ)) (first : Store F) (out : Option (List ℕ)) → SoFar lines first first lines out out
  begins lines first out = record {
    done = [];
    lines_are = refl;
    said = [];
    were = refl;
    prints = append_none out;
    leaves = λ h. stops_begin (λ (s : Store F). means (files_of s)) (LineMade honest means faults terms) (LineMade honest means faults terms) (λ T s. T ≡ tree_of means s) (λ T. IsLineStop honest means faults terms T) lines first (λ s. refl) (λ line s. inl refl);
    good = λ h good. good;
    rests = λ h rests. rests;
    loses = λ h good rests. loses_starts (means (files_of first)) (IsScriptLoss honest means faults terms lines first)
        (λ T lost. within_first (LineMade honest means faults terms) (λ s. IsKept means (files_of s) T) (IsLineLoss honest means faults terms T) lines first (at T lines (kept means (files_of first) T lost)));
  }
    where
      at : (T : Tree) (lines : List (List ℕ)) → IsKept means (files_of first) T → AtNext (λ s. IsKept means (files_of s) T) (IsLineLoss honest means faults terms T) lines first
      at T [] is = is
      at T (line ∷ lines) is = inl is

  -- the next line of a script so far
  module _ (lines : List (List ℕ)) (first mid new : Store F) (line : List ℕ) (rest : List (List ℕ)) (out so_far now : Option (List ℕ)) (b : SoFar lines first mid (line ∷ rest) out so_far) where
    pub leaves_more : (honest → Leaves (means (files_of mid)) (means (files_of new)) (λ T. IsLineStop honest means faults terms T line mid)) → honest → Leaves (means (files_of first)) (means (files_of new)) (IsScriptStop honest means faults terms lines first)
    leaves_more step h =
        stops_go_on (λ (s : Store F). means (files_of s)) (LineMade honest means faults terms) (LineMade honest means faults terms) (λ T s. T ≡ tree_of means s) (λ T. IsLineStop honest means faults terms T) lines b.done rest line first mid new b.lines_are
        (on_way b.done (record { store = first; said = [] }) (record { store = mid; said = b.said }) b.were) (b.leaves h) (step h)

    pub loses_more : (honest → HasGoodRecords means mid → IsAtRest means mid → Loses (means (files_of mid)) (means (files_of new)) (λ T. IsLineLoss honest means faults terms T line mid)) →
        honest → HasGoodRecords means first → IsAtRest means first → Loses (means (files_of first)) (means (files_of new)) (IsScriptLoss honest means faults terms lines first)
    loses_more step h good rests =
        losses_go_on (λ (s : Store F). means (files_of s)) (LineMade honest means faults terms) (LineMade honest means faults terms) (λ (T : Tree) (s : Store F). IsKept means (files_of s) T) (IsLineLoss honest means faults terms) lines b.done rest line first mid new b.lines_are
        (on_way b.done (record { store = first; said = [] }) (record { store = mid; said = b.said }) b.were) (b.loses h good rests) (step h (b.good h good) (b.rests h rests))

    abbrev said_now : Outcome → List Outcome
    said_now outcome = b.said ++ outcome ∷ []

    said_text : (outcome : Outcome) → Appends so_far now (printed outcome) → Appends out now (flat_map printed (said_now outcome))
    said_text outcome more = subst (λ w. Appends out now w) (sym (more_said b.said outcome)) (append_more out so_far now (flat_map printed b.said) (printed outcome) b.prints more)

    more_done : (outcome : Outcome) → LineComes honest read means faults terms line mid new outcome → IsMade outcome →
        AreDone (MadeOnWay honest read means faults terms) (b.done ++ line ∷ []) (record { store = first; said = [] }) (record { store = new; said = said_now outcome })
    more_done outcome comes made =
        done_more (MadeOnWay honest read means faults terms) b.done line (record { store = first; said = [] }) (record { store = mid; said = b.said }) (record { store = new; said = said_now outcome }) b.were (outcome, comes, made, refl)

    more_lines : lines ≡ (b.done ++ line ∷ []) ++ rest
    more_lines = b.lines_are ∙ sym (append_assoc b.done (line ∷ []) rest)

    -- it was made
    pub goes_on : {E : Type 0} → LinePrints honest read means faults terms {E = E} line mid new so_far now (Ok 0) → (honest → Leaves (means (files_of first)) (means (files_of new)) (IsScriptStop honest means faults terms lines first)) →
        (honest → HasGoodRecords means first → IsAtRest means first → Loses (means (files_of first)) (means (files_of new)) (IsScriptLoss honest means faults terms lines first)) → SoFar lines first new rest out now
    goes_on p leaves loses = by (made_or_refused line mid new p.outcome p.comes)
      where
        by : (IsMade p.outcome × (status_of p.outcome ≡ 0)) ⊎ (IsRefused p.outcome × (status_of p.outcome ≡ 1)) → SoFar lines first new rest out now
        by (inl (made, zero)) =
            let is = is_made line mid new p.outcome p.comes made in
            record {
              done = b.done ++ line ∷ [];
              lines_are = more_lines;
              said = said_now p.outcome;
              were = more_done p.outcome p.comes made;
              prints = said_text p.outcome p.prints.1;
              leaves = leaves;
              good = λ h good. is.2.1.good h (b.good h good);
              rests = λ h rests. is.2.1.rests h (b.rests h rests);
              loses = loses;
            }
        by (inr (refused, one)) = absurd (zero_one (status_of p.outcome) (sym p.prints.0) one)

    -- the script ends at it
    pub ends_at : {E : Type 0} (status : Result ℕ E) → LinePrints honest read means faults terms line mid new so_far now status → IfOk status (λ s. s ≡ 0 → ⊥) → ScriptPrints honest read means faults terms lines first new out now status
    ends_at {E = E} (Ok s) p some = by (made_or_refused line mid new p.outcome p.comes)
      where
        by : (IsMade p.outcome × (status_of p.outcome ≡ 0)) ⊎ (IsRefused p.outcome × (status_of p.outcome ≡ 1)) → ScriptPrints honest read means faults terms {E = E} lines first new out now (Ok s)
        by (inl (made, zero)) = absurd (some (p.prints.0 ∙ zero))
        by (inr (refused, one)) = record {
          end = OneRefused;
          said = said_now p.outcome;
          ends = record { done = b.done; step = line; rest = rest; steps_are = b.lines_are; state = record { store = mid; said = b.said }; are_done = b.were; fails = (p.outcome, p.comes, refused, refl) };
          prints = (tt, p.prints.0 ∙ one, said_text p.outcome p.prints.1);
        }
    ends_at (Err e) p some = by (made_or_refused line mid new p.outcome p.comes)
      where
        by : (IsMade p.outcome × (status_of p.outcome ≡ 0)) ⊎ (IsRefused p.outcome × (status_of p.outcome ≡ 1)) → ScriptPrints honest read means faults terms lines first new out now (Err e)
        by (inl (made, zero)) = record { end = Unsaid; said = said_now p.outcome; ends = (b.done ++ line ∷ [], rest, more_lines, more_done p.outcome p.comes made); prints = _ }
        by (inr (refused, one)) = record {
          end = OneRefused;
          said = said_now p.outcome;
          ends = record { done = b.done; step = line; rest = rest; steps_are = b.lines_are; state = record { store = mid; said = b.said }; are_done = b.were; fails = (p.outcome, p.comes, refused, refl) };
          prints = _;
        }

  -- no line follows
  pub ends : {E : Type 0} (lines : List (List ℕ)) (first now : Store F) (out so_far : Option (List ℕ)) → SoFar lines first now [] out so_far → ScriptPrints honest read means faults terms {E = E} lines first now out so_far (Ok 0)
  ends lines first now out so_far b = record {
    end = AllMade;
    said = b.said;
    ends = subst (λ done. AreDone (MadeOnWay honest read means faults terms) done (record { store = first; said = [] }) (record { store = now; said = b.said })) (sym (b.lines_are ∙ append-nil b.done)) b.were;
    prints = (tt, refl, b.prints);
  }

  -- an outcome is printed as a whole
  pub line_prints : {E : Type 0} (line : List ℕ) (old new : Store F) (outcome : Outcome) (out now : Option (List ℕ)) (status : Result ℕ E) → LineComes honest read means faults terms line old new outcome → IfOk status (λ s. s ≡ status_of outcome) → OnOk status (Appends out now (printed outcome)) →
      LinePrints honest read means faults terms line old new out now status
  line_prints line old new outcome out now (Ok s) comes is appends = record { outcome = outcome; comes = comes; prints = (is, appends) }
  line_prints line old new outcome out now (Err e) comes is appends = record { outcome = outcome; comes = comes; prints = _ }

-- What is within a script begins with good records, and at rest, where the script does: so each promise of a line that asks for these
-- holds of the line in which a script is stopped or loses power.
module _ {F : Type 0} (honest : Type 0) (means : F → Meaning) (faults : F → FaultCounts) (terms : Terms) (h : honest) (lines : List (List ℕ)) (first : Store F) (T : Tree) where
  pub stop_is_good : (w : IsScriptStop honest means faults terms lines first T) → HasGoodRecords means first → HasGoodRecords means w.state
  stop_is_good w good = done_keeps (LineMade honest means faults terms) (HasGoodRecords means) (λ line s t made before. made.2.1.good h before) w.done first w.state w.are_done good

  pub loss_is_good : (w : IsScriptLoss honest means faults terms lines first T) → HasGoodRecords means first → HasGoodRecords means w.state
  loss_is_good w good = done_keeps (LineMade honest means faults terms) (HasGoodRecords means) (λ line s t made before. made.2.1.good h before) w.done first w.state w.are_done good

  pub loss_is_at_rest : (w : IsScriptLoss honest means faults terms lines first T) → IsAtRest means first → IsAtRest means w.state
  loss_is_at_rest w rests = done_keeps (LineMade honest means faults terms) (IsAtRest means) (λ line s t made before. made.2.1.rests h before) w.done first w.state w.are_done rests
