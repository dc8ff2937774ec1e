-- Rounds of splits over a finder.
use Rattle.std.specs.Prelude.{◌≡◌, ℕ, List, [], ◌∷◌, ◌++◌, length, Option, Some, None, Result, map}
use Rattle.std.specs.List.{AllZip}
use Rattle.gix_ref_name.specs.declared.name.PartialNameRef.{PartialNameRef}
use Rattle.gix_ref_target.specs.declared.target.Target.{Target}
use Rattle.gix_ref_edits.specs.declared.transaction.RefEdit.{RefEdit}
use Rattle.gix_ref_edits.specs.declared.transaction.ext.error.SplitError.{SplitError}
use Rattle.gix_ref_edits.specs.declared.transaction.ext.error.SplitError.TheVariants.{Find, TooManySplits, DoubledName, Memory}
use Rattle.gix_ref_edits.specs.EditValues.{EditValue, edit_value}
use Rattle.gix_ref_edits.specs.LookUps.{LookUp, CallsInOrder, AnswersBy, HasLookedUp, LookUpFailed, lookups_of}
use Rattle.gix_ref_edits.specs.MadeEntries.{MadeEntry, Makes, IsSameButEdit, edits_of, parent_places}
use Rattle.gix_ref_edits.specs.SplitLists.{after_round, children, level, first_levels}

-- one round over edits, with a finder that answered as `find`: its calls, the edits after it, and their children
pub record IsRound (find : List ℕ → Option (List ℕ)) (edits : List EditValue)
    (lookups : List LookUp) (after kids : List EditValue) : Type 0 where
  pub asked : lookups ≡ lookups_of find edits
  pub changed : after ≡ after_round find edits
  pub split : kids ≡ children find edits

-- One round over edits: the calls that took the finder from one state to the next, and what came of them, for each `find`
-- that answers as the calls did.
pub record HasRound {F E : Type 0} (step : F → PartialNameRef → Result (Option Target) E → F →
    Type 0) (before : F) (edits after kids : List EditValue) (later : F) : Type 0 where
  pub lookups : List LookUp
  pub called : CallsInOrder step before lookups later
  pub each : (find : List ℕ → Option (List ℕ)) → AnswersBy find lookups →
      IsRound find edits lookups after kids

-- the error is one of the finder, or of memory, after calls that answered
abbrev pub IsLookUpFault : {F E : Type 0} →
    (F → PartialNameRef → Result (Option Target) E → F → Type 0) → F → F → SplitError E → Type 0
IsLookUpFault step before later (Find error) = LookUpFailed step before later error
IsLookUpFault step before later (TooManySplits rounds) = ⊥
IsLookUpFault step before later (DoubledName name) = ⊥
IsLookUpFault step before later Memory = HasLookedUp step before later

abbrev pub values_of_option : Option RefEdit → List EditValue
values_of_option None = []
values_of_option (Some edit) = edit_value edit ∷ []

-- One round over the entries of a level, the first of which is at the place `at` of the list: the entries after it, and
-- those that were made for the children, each with the place of its parent.
pub record HasSplitLevel {F E M T : Type 0}
    (step : F → PartialNameRef → Result (Option Target) E → F → Type 0)
    (makes : M → ℕ → RefEdit → T → M → Type 0) (edit_of : T → RefEdit) (with_edit : T → RefEdit → T)
    (at : ℕ) (before : F × M) (level after kids : List T) (later : F × M) : Type 0 where
  pub round : HasRound step before.0 (edits_of edit_of level) (edits_of edit_of after)
      (edits_of edit_of kids) later.0
  pub made : List (MadeEntry T)
  pub called : Makes makes before.1 made later.1
  pub entries : kids ≡ map (λ made. made.entry) made
  pub places : (find : List ℕ → Option (List ℕ)) → AnswersBy find round.lookups →
      map (λ made. made.place) made ≡ parent_places find at (edits_of edit_of level)
  pub kept : AllZip (IsSameButEdit with_edit) level after

-- n levels with their calls and the places of their parents, and the next level
pub record AreLevels (find : List ℕ → Option (List ℕ)) (edits : List EditValue) (n : ℕ)
    (front back : List EditValue) (lookups : List LookUp) (parents : List ℕ) : Type 0 where
  pub levels : front ≡ after_round find (first_levels find edits n)
  pub next : back ≡ level find edits n
  pub asked : lookups ≡ lookups_of find (first_levels find edits n)
  pub places : parents ≡ parent_places find 0 (first_levels find edits n)

-- What n rounds over a list made of it: a front that had its rounds, and the level whose round is next, at the place
-- `first`; `given` is the front as it was before.
pub record HasRounds {F E M T : Type 0}
    (step : F → PartialNameRef → Result (Option Target) E → F → Type 0)
    (makes : M → ℕ → RefEdit → T → M → Type 0) (edit_of : T → RefEdit) (with_edit : T → RefEdit → T)
    (n : ℕ) (before : F × M) (edits list : List T) (first : ℕ) (later : F × M) : Type 0 where
  pub front : List T
  pub back : List T
  pub given : List T
  pub lookups : List LookUp
  pub made : List (MadeEntry T)
  pub parts : list ≡ front ++ back
  pub place : length front ≡ first
  pub called : CallsInOrder step before.0 lookups later.0
  pub makings : Makes makes before.1 made later.1
  pub entries : edits ++ map (λ made. made.entry) made ≡ given ++ back
  pub kept : AllZip (IsSameButEdit with_edit) given front
  pub each : (find : List ℕ → Option (List ℕ)) → AnswersBy find lookups →
      AreLevels find (edits_of edit_of edits) n (edits_of edit_of front)
      (edits_of edit_of back) lookups (map (λ made. made.place) made)
