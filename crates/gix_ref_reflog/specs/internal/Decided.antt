-- How far the decision of the lines has come.
use Rattle.std.specs.Prelude.{◌≡◌, ℕ, List, ◌++◌, take, drop}
use Rattle.gix_ref_files.specs.Tree.{Path, Tree}
use Rattle.gix_ref_theory.specs.OnRealTrees.{view_of}
use Rattle.gix_ref_theory.specs.Views.{View}
use Rattle.gix_ref_transaction.specs.declared.edit.Edit.{Edit}
use Rattle.gix_ref_reflog.specs.AskedEdits.{asked, asked_from, outcomes_of}
use Rattle.gix_ref_reflog.specs.DueLines.{LogRules, log_outcomes}
use Rattle.gix_ref_reflog.specs.LineCauses.{AllHaveNoCause, IsRefusal}
use Rattle.gix_ref_reflog.specs.declared.error.Error.{Error as Refusal}
use Rattle.gix_ref_reflog.specs.internal.LineSteps.{Sees}

-- The edits before the place i are decided, and the due lines among them leave these files. What is decided of the edits from
-- there on decides all.
pub record AreDecidedBefore (r : LogRules) (T : Tree) (given : List Edit) (i : ℕ)
    (edits : List Edit) (due : List Path) : Type 0 where
  pub files : View
  pub sees : Sees files T due
  pub logs : log_outcomes r (view_of T) (asked given)
      ≡ outcomes_of (take i edits) ++ log_outcomes r files (asked_from i (drop i given))
  pub passed : AllHaveNoCause r files (asked_from i (drop i given)) →
      AllHaveNoCause r (view_of T) (asked given)
  pub refused : (e : Refusal) → IsRefusal r files (asked_from i (drop i given)) e →
      IsRefusal r (view_of T) (asked given) e
