-- The lines that are due for prepared edits are due by the files before `prepare`.
use Rattle.std.proofs.Common.{◌≡◌, ℕ, ◌+◌, Bool, true, false, List, [], ◌∷◌, ◌++◌, refl, sym, ◌∙◌, ap, subst, Option, Some, None, All, if◌then◌else◌}
use Rattle.std.specs.Prelude.{bytes_eq, is_some, ◌||◌}
use Rattle.std.proofs.lemmas.List.Elements.{All-head, All-tail}
use Rattle.gix_ref_name.specs.Names.{full_bytes}
use Rattle.gix_ref_name.specs.declared.name.FullName.{FullName}
use Rattle.gix_ref_files.specs.Tree.{Path}
use Rattle.gix_ref_theory.specs.Readings.{Store as Places}
use Rattle.gix_ref_theory.specs.Views.{View, after_write, file_bytes}
use Rattle.gix_ref_theory.specs.Views.Write.{Append}
use Rattle.gix_ref_edits.specs.RefEdits.{is_forced, message_of, name_of}
use Rattle.gix_ref_edits.specs.declared.transaction.RefEdit.{RefEdit}
use Rattle.gix_ref_transaction.specs.PrepareSteps.{updates}
use Rattle.gix_ref_transaction.specs.declared.edit.Edit.{Edit}
use Rattle.gix_ref_reflog.specs.AskedEdits.{asked_from}
use Rattle.gix_ref_reflog.specs.DueLines.{AskedEdit, LogRules, asked_log, due_ids, due_line, due_line_text, due_lines, with_log, written_ids}
use Rattle.gix_ref_reflog.specs.MadeLogs.{below_logs, makes_log}
use Rattle.gix_ref_reflog.specs.declared.ids.LineIds.{LineIds}
use Rattle.gix_ref_commit.proofs.Alike.{AreSame}

-- the same file at each path that counts
abbrev pub Agree : (Path → Type 0) → View → View → Type 0
Agree Counts v w = (q : Path) → Counts q → v q ≡ w q

module _ (Counts : Path → Type 0) (r : LogRules) where
  -- the log of each edit counts
  abbrev pub AllCount : List AskedEdit → Type 0
  AllCount [] = Unit {0}
  AllCount (a ∷ edits) = Counts (asked_log r a) × AllCount edits

  ids_same : (v w : View) (a : AskedEdit) → v (asked_log r a) ≡ w (asked_log r a) → due_ids r v a ≡ due_ids r w a
  ids_same v w a at =
      ap (λ (f : Option (List ℕ)). if is_some f || makes_log r.mode (is_forced a.update.change) (below_logs r.namespace (name_of a.update)) then written_ids r a else None) at

  -- a log that a due line makes
  made_same : (v w : View) (p : Path) → Agree Counts v w → Counts p → Agree Counts (after_write (Append p []) v) (after_write (Append p []) w)
  made_same v w p agree at q counts =
      ap (λ (f : Option (List ℕ)). if bytes_eq p q then Some (file_bytes f ++ []) else v q) (agree p at)
      ∙ ap (λ (f : Option (List ℕ)). if bytes_eq p q then Some (file_bytes (w p) ++ []) else f) (agree q counts)

  if_same : (b : Bool) (v w : View) (p : Path) → Agree Counts v w → Counts p → Agree Counts (if b then after_write (Append p []) v else v) (if b then after_write (Append p []) w else w)
  if_same true v w p agree at = made_same v w p agree at
  if_same false v w p agree at = agree

  log_same : (v w : View) (a : AskedEdit) → Agree Counts v w → Counts (asked_log r a) → Agree Counts (with_log r v a) (with_log r w a)
  log_same v w a agree at =
      subst (λ (ids : Option LineIds). Agree Counts (with_log r v a) (if is_some ids then after_write (Append (asked_log r a) []) w else w)) (ids_same v w a (agree (asked_log r a) at))
      (if_same (is_some (due_ids r v a)) v w (asked_log r a) agree at)

  pub lines_same : (edits : List AskedEdit) (v w : View) → Agree Counts v w → AllCount edits → due_lines r v edits ≡ due_lines r w edits
  lines_same [] v w agree count = refl
  lines_same (a ∷ edits) v w agree (at, count) =
      ap (λ (ids : Option LineIds). due_line_text r.committer ids (message_of a.update.change) ∷ due_lines r (with_log r v a) edits) (ids_same v w a (agree (asked_log r a) at))
      ∙ ap (λ (lines : List (Option (List ℕ))). due_line r w a ∷ lines) (lines_same edits (with_log r v a) (with_log r w a) (log_same v w a agree at) count)

  -- the logs of edits that carry what was found
  pub all_count : (s : Places) → r.store ≡ s → ((n : List ℕ) → s.is_reference n ≡ true → Counts (s.log n)) → (given : List RefEdit) (held : List Edit) (place : ℕ) → AreSame given (updates held) →
      All (λ (e : RefEdit). s.is_reference (name_of e) ≡ true) given → AllCount (asked_from place held)
  all_count s is counts [] [] place same refs = tt
  all_count s is counts [] (f ∷ held) place same refs = absurd same
  all_count s is counts (e ∷ given) [] place same refs = absurd same
  all_count s is counts (e ∷ given) (f ∷ held) place ((found, carried), rest) refs = (
    subst (λ (n : FullName). Counts (r.store.log (full_bytes n))) (sym carried.name)
        (subst (λ (x : Places). Counts (x.log (name_of e))) (sym is) (counts (name_of e) (All-head (λ (e : RefEdit). s.is_reference (name_of e) ≡ true) e given refs))),
    all_count s is counts given held (place + 1) rest (All-tail (λ (e : RefEdit). s.is_reference (name_of e) ≡ true) e given refs),
  )
