-- What the calls on lists of edits do, over a finder of targets and a maker of entries.
use Rattle.std.specs.Prelude.{◌≡◌, ℕ, List, [], ◌++◌, Option, Result, map}
use Rattle.std.specs.List.{AllZip}
use Rattle.gix_ref_name.specs.declared.name.PartialNameRef.{PartialNameRef}
use Rattle.gix_ref_target.specs.declared.target.Target.{Target}
use Rattle.gix_ref_edits.specs.declared.transaction.RefEdit.{RefEdit}
use Rattle.gix_ref_edits.specs.DoubledNames.{IsLeastDoubled, entry_names}
use Rattle.gix_ref_edits.specs.EditValues.{EditValue}
use Rattle.gix_ref_edits.specs.LookUps.{LookUp, CallsInOrder, AnswersBy, lookups_of}
use Rattle.gix_ref_edits.specs.MadeEntries.{MadeEntry, Makes, IsSameButEdit, edits_of, parent_places}
use Rattle.gix_ref_edits.specs.SplitLists.{IsSplitList, level, first_levels}

-- a split list, with a finder that answers as `find`: it was asked once for each edit that follows, in order, and each
-- child was made with the place of its parent
pub record IsSplit (find : List ℕ → Option (List ℕ)) (edits split : List EditValue)
    (lookups : List LookUp) (parents : List ℕ) : Type 0 where
  pub list : IsSplitList find edits split
  pub asked : lookups ≡ lookups_of find (first_levels find edits 5)
  pub places : parents ≡ parent_places find 0 (first_levels find edits 5)

-- The entries became those of the split list, by these calls of the finder and of the maker: the entries as given, and
-- after them those that were made, each with its edit of the split list.
pub record HasSplits {F E M T : Type 0}
    (step : F → PartialNameRef → Result (Option Target) E → F → Type 0)
    (makes : M → ℕ → RefEdit → T → M → Type 0) (edit_of : T → RefEdit) (with_edit : T → RefEdit → T)
    (before : F × M) (edits split : List T) (later : F × M) : Type 0 where
  pub lookups : List LookUp
  pub called : CallsInOrder step before.0 lookups later.0
  pub made : List (MadeEntry T)
  pub makings : Makes makes before.1 made later.1
  pub entries : AllZip (IsSameButEdit with_edit) (edits ++ map (λ made. made.entry) made) split
  pub each : (find : List ℕ → Option (List ℕ)) → AnswersBy find lookups → IsSplit find
      (edits_of edit_of edits) (edits_of edit_of split) lookups (map (λ made. made.place) made)

-- These calls of the finder found edits of level 4 that have children, so there is no split list.
pub record HasTooManySplits {F E : Type 0} (step : F → PartialNameRef → Result (Option Target) E →
    F → Type 0) (before : F) (edits : List EditValue) (later : F) : Type 0 where
  pub lookups : List LookUp
  pub called : CallsInOrder step before lookups later
  pub each : (find : List ℕ → Option (List ℕ)) → AnswersBy find lookups →
      level find edits 5 ≡ [] → ⊥

-- The entries became those of the split list, and this is the least name that more than one of its edits has.
pub record HasSplitsDoubling {F E M T : Type 0}
    (step : F → PartialNameRef → Result (Option Target) E → F → Type 0)
    (makes : M → ℕ → RefEdit → T → M → Type 0) (edit_of : T → RefEdit) (with_edit : T → RefEdit → T)
    (before : F × M) (edits split : List T) (later : F × M) (name : List ℕ) : Type 0 where
  pub splits : HasSplits step makes edit_of with_edit before edits split later
  pub doubled : IsLeastDoubled (entry_names edit_of split) name
