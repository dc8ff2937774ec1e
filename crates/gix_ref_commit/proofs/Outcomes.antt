-- Logs whose outcomes were decided: what becomes of each, and the lines that they gain.
use Rattle.std.proofs.Common.{◌≡◌, ℕ, ◌+◌, List, [], ◌∷◌, Bool, true, false, Option, Some, None, refl, sym, ◌∙◌, ap, length, arith, map, cond}
use Rattle.std.specs.Prelude.{if◌then◌else◌}
use Rattle.gix_ref_files.specs.Tree.{Path}
use Rattle.gix_ref_theory.specs.Views.{View}
use Rattle.gix_ref_edits.specs.declared.transaction.Change.{Change}
use Rattle.gix_ref_edits.specs.declared.transaction.Change.TheVariants.{Update, Delete}
use Rattle.gix_ref_edits.specs.declared.transaction.PreviousValue.{PreviousValue}
use Rattle.gix_ref_edits.specs.declared.transaction.RefLog.{RefLog}
use Rattle.gix_ref_transaction.specs.CarriedEdits.{change_of}
use Rattle.gix_ref_transaction.specs.PrepareSteps.{updates}
use Rattle.gix_ref_transaction.specs.declared.edit.Edit.{Edit}
use Rattle.gix_ref_transaction.specs.declared.edit.LogEffect.{LogEffect}
use Rattle.gix_ref_transaction.specs.declared.edit.LogEffect.TheVariants.{Keep, Append, Remove}
use Rattle.gix_ref_reflog.specs.AskedEdits.{asked_edit, asked_from, leaf_after, outcome_of, outcomes_of}
use Rattle.gix_ref_reflog.specs.DueLines.{LogOutcome, LogRules, AskedEdit, due_line, due_lines, ids_of, is_off, log_outcome, log_outcomes, asked_log, outcome_by, with_log, written_ids}
use Rattle.gix_ref_reflog.specs.DueLines.LogOutcome.{Stays, Gains, Goes}
use Rattle.gix_ref_reflog.specs.declared.ids.LineIds.{LineIds}
use Rattle.gix_ref_reflog.proofs.LineSteps.{no_ids, no_line}
use Rattle.gix_ref_commit.specs.LogEffects.{IsLogOf, AreLogsOf, line_in, lines_in}
use Rattle.gix_ref_transaction.proofs.EditsApart.{heads}

-- the line of an outcome
abbrev gained : LogOutcome → Option (List ℕ)
gained Stays = None
gained (Gains log line) = Some line
gained (Goes log) = None

gained_by : (l : LogEffect) → line_in l ≡ gained (outcome_of l)
gained_by Keep = refl
gained_by (Append log line) = refl
gained_by (Remove log) = refl

lines_gained : (ran : List Edit) → lines_in ran ≡ map gained (outcomes_of ran)
lines_gained [] = refl
lines_gained (p ∷ ran) =
    ap (λ (line : Option (List ℕ)). line ∷ lines_in ran) (gained_by p.log) ∙ ap (λ (ls : List (Option (List ℕ))). gained (outcome_of p.log) ∷ ls) (lines_gained ran)

module _ (r : LogRules) (files : View) (a : AskedEdit) where
  -- no line is due for a deletion
  no_written : (expected : PreviousValue) (log : RefLog) → a.update.change ≡ Delete expected log → written_ids r a ≡ None
  no_written expected log is = ap (λ (c : Change). if is_off r.mode then None else ids_of c a.found a.leaf) is ∙ by (is_off r.mode)
    where
      by : (b : Bool) → cond {A = Option LineIds} b None None ≡ None
      by true = refl
      by false = refl

  due_is_gained : gained (log_outcome r files a) ≡ due_line r files a
  due_is_gained = by a.update.change refl
    where
      update : (line : Option (List ℕ)) → (change : Change) → ((path : Path) → outcome_by change path None ≡ Stays) → ((path : Path) (text : List ℕ) → outcome_by change path (Some text) ≡ Gains path text) →
          gained (outcome_by change (asked_log r a) line) ≡ line
      update None change none some = ap gained (none (asked_log r a))
      update (Some text) change none some = ap gained (some (asked_log r a) text)

      by : (c : Change) → a.update.change ≡ c → gained (outcome_by a.update.change (asked_log r a) (due_line r files a)) ≡ due_line r files a
      by (Update log expected new) is = ap (λ (c : Change). gained (outcome_by c (asked_log r a) (due_line r files a))) is ∙ update (due_line r files a) (Update log expected new) (λ path. refl) (λ path text. refl)
      by (Delete expected log) is =
          ap (λ (c : Change). gained (outcome_by c (asked_log r a) (due_line r files a))) is ∙ sym (no_line r files a (no_ids r files a (no_written expected log is)))

-- what is gained is what is due
dues_gained : (r : LogRules) (files : View) (edits : List AskedEdit) → map gained (log_outcomes r files edits) ≡ due_lines r files edits
dues_gained r files [] = refl
dues_gained r files (a ∷ rest) =
    ap (λ (line : Option (List ℕ)). line ∷ map gained (log_outcomes r (with_log r files a) rest)) (due_is_gained r files a)
    ∙ ap (λ (ls : List (Option (List ℕ))). due_line r files a ∷ ls) (dues_gained r (with_log r files a) rest)

-- the lines that logs gain are those that are due
pub lines_are : (r : LogRules) (files : View) (ran : List Edit) (edits : List AskedEdit) → outcomes_of ran ≡ log_outcomes r files edits → lines_in ran ≡ due_lines r files edits
lines_are r files ran edits is = lines_gained ran ∙ (ap (map gained) is ∙ dues_gained r files edits)

-- what becomes of a log, by its change
log_by : (change : Change) (path : Path) (line : Option (List ℕ)) (l : LogEffect) → outcome_of l ≡ outcome_by change path line → IsLogOf path (change_of change) l
log_by (Delete expected mode) path line Keep is = cc
log_by (Delete expected mode) path line (Append log text) is = cc
log_by (Delete expected mode) path line (Remove log) is = inner is
  where
    inner : {x y : Path} → Goes x ≡ Goes y → x ≡ y
    inner h = cc
log_by (Update log expected new) path None Keep is = tt
log_by (Update log expected new) path None (Append at text) is = cc
log_by (Update log expected new) path None (Remove at) is = cc
log_by (Update log expected new) path (Some due) Keep is = tt
log_by (Update log expected new) path (Some due) (Append at text) is = inner is
  where
    inner : {x y : Path} {a b : List ℕ} → Gains x a ≡ Gains y b → x ≡ y
    inner h = cc
log_by (Update log expected new) path (Some due) (Remove at) is = cc

pub logs_are : (r : LogRules) (files : View) (place : ℕ) (held ran : List Edit) → outcomes_of ran ≡ log_outcomes r files (asked_from place held) → AreLogsOf r.store (updates held) ran
logs_are r files place [] [] is = tt
logs_are r files place [] (p ∷ ran) is = absurd (omega (arith, ap length is))
logs_are r files place (e ∷ held) [] is = absurd (omega (arith, ap length is))
logs_are r files place (e ∷ held) (p ∷ ran) is =
    let a = asked_edit e (leaf_after place (place + 1) None held) in
    (log_by e.update.change (asked_log r a) (due_line r files a) p.log (heads is).0, logs_are r (with_log r files a) (place + 1) held ran (heads is).1)
