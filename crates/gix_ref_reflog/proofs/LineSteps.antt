-- The steps of the decision of a line.
use Rattle.std.proofs.Common.{◌≡◌, ℕ, List, [], ◌∷◌, ◌++◌, Bool, true, false, Option, Some, None, cond, refl, sym, subst, ap, ◌∙◌}
use Rattle.std.specs.Prelude.{◌&&◌, ◌||◌, IfSome, bytes_eq, if◌then◌else◌, is_some, not}
use Rattle.std.specs.Option.{IsSomeAnd}
use Rattle.std.specs.List.{list_any}
use Rattle.gix_ref_edits.specs.RefEdits.{name_of, is_forced, message_of}
use Rattle.gix_ref_files.specs.Tree.{Tree, Path, Content, file_of, fronts, is_blocked, is_file}
use Rattle.gix_ref_files.specs.Tree.Content.{File, Folder}
use Rattle.gix_ref_log.specs.Signatures.{Who}
use Rattle.gix_ref_theory.specs.OnRealTrees.{view_of}
use Rattle.gix_ref_theory.specs.Views.{View, after_write, file_bytes}
use Rattle.gix_ref_theory.proofs.Writes.{same}
use Rattle.gix_ref_theory.specs.Views.Write.{Append as Adds}
use Rattle.gix_ref_reflog.specs.DueLines.{LogRules, AskedEdit, due_ids, due_line, has_log, due_line_text, asked_log, with_log, written_ids}
use Rattle.gix_ref_reflog.specs.LineCauses.{CanMake, CannotAdd, IsRefusalAt, HasNoCause, has_file_in_path}
use Rattle.gix_ref_reflog.specs.MadeLogs.{below_logs, makes_log}
use Rattle.gix_ref_reflog.specs.declared.ids.LineIds.{LineIds}
use Rattle.gix_ref_reflog.specs.declared.create_or_update.Error.{Error}
use Rattle.gix_ref_reflog.specs.declared.create_or_update.Error.TheVariants.{CreateLeadingDirectories, Append, MessageWithNewlines, MissingCommitter, SignatureUnwritable}
use Rattle.gix_ref_reflog.specs.declared.error.Error.{Error as Refusal}
use Rattle.gix_ref_reflog.specs.declared.error.Error.TheVariants.{CreateOrUpdateRefLog, Memory}
use Rattle.gix_ref_reflog.specs.internal.LineSteps.{IsUnadded, Sees}
use Rattle.gix_ref_transaction.specs.OwnLocks.{is_in}

-- the files of a view, and those in a path
file_there : (c : Option Content) → is_some (file_of c) ≡ is_file c
file_there (Some (File bytes)) = refl
file_there (Some Folder) = refl
file_there None = refl

module _ (files : View) (T : Tree) (due : List Path) (sees : Sees files T due) where
  any_seen : (fs : List Path) → list_any (λ (f : Path). is_some (files f)) fs ≡ (list_any (λ (f : Path). is_file (T f)) fs || list_any (is_in due) fs)
  any_seen [] = refl
  any_seen (f ∷ fs) =
      ap (λ (b : Bool). b || list_any (λ (f : Path). is_some (files f)) fs) (sees f ∙ ap (λ (b : Bool). b || is_in due f) (file_there (T f)))
      ∙ (ap (λ (b : Bool). (is_file (T f) || is_in due f) || b) (any_seen fs)
      ∙ mixed (is_file (T f)) (is_in due f) (list_any (λ (f : Path). is_file (T f)) fs) (list_any (is_in due) fs))
    where
      mixed : (a b c d : Bool) → ((a || b) || (c || d)) ≡ ((a || c) || (b || d))
      mixed true b c d = refl
      mixed false true true d = refl
      mixed false true false d = refl
      mixed false false c d = refl

  pub blocked_seen : (path : Path) → has_file_in_path files path ≡ (is_blocked T path || list_any (is_in due) (fronts path))
  blocked_seen path = any_seen (fronts path)

module _ (r : LogRules) (files : View) (a : AskedEdit) where
  -- without ids no line is due
  pub no_ids : written_ids r a ≡ None → due_ids r files a ≡ None
  no_ids none = ap (λ (ids : Option LineIds). if has_log r files a then ids else None) none ∙ by (has_log r files a)
    where
      by : (b : Bool) → cond {A = Option LineIds} b None None ≡ None
      by true = refl
      by false = refl

  pub no_line : due_ids r files a ≡ None → due_line r files a ≡ None
  no_line none = ap (λ (ids : Option LineIds). due_line_text r.committer ids (message_of a.update.change)) none ∙ by r.committer
    where
      by : (who : Option Who) → due_line_text who None (message_of a.update.change) ≡ None
      by (Some who) = refl
      by None = refl

  pub none_passes : due_ids r files a ≡ None → HasNoCause r files a
  none_passes none = subst (λ (o : Option LineIds). IfSome o (λ ids. CanMake r.committer (message_of a.update.change) × (has_file_in_path files (asked_log r a) ≡ false))) (sym none) tt

  pub none_kept : due_ids r files a ≡ None → (q : Path) → is_some (with_log r files a q) ≡ is_some (files q)
  none_kept none q = ap (λ (ids : Option LineIds). is_some ((if is_some ids then after_write (Adds (asked_log r a) []) files else files) q)) none

  -- what there is to later edits, where the log of a due line is added to those that have one, unless it is there
  with_due : (ids : LineIds) → due_ids r files a ≡ Some ids → (path : Path) → path ≡ asked_log r a → (q : Path) → is_some (with_log r files a q) ≡ (bytes_eq path q || is_some (files q))
  with_due ids due path at q =
      ap (λ (o : Option LineIds). is_some ((if is_some o then after_write (Adds (asked_log r a) []) files else files) q)) due
      ∙ (ap (λ (p : Path). is_some (after_write (Adds p []) files q)) (sym at) ∙ by (bytes_eq path q))
    where
      by : (b : Bool) → is_some (if b then Some (file_bytes (files path) ++ []) else files q) ≡ (b || is_some (files q))
      by true = refl
      by false = refl

  pub seen_with : (T : Tree) (before now : List Path) (ids : LineIds) → due_ids r files a ≡ Some ids → (path : Path) → path ≡ asked_log r a → (there : Bool) → there ≡ is_some (view_of T path) → Sees files T before →
      ((q : Path) → is_in now q ≡ ((not there && bytes_eq path q) || is_in before q)) → Sees (with_log r files a) T now
  seen_with T before now ids due path at there is sees added q =
      with_due ids due path at q ∙ (ap (λ (b : Bool). bytes_eq path q || b) (sees q) ∙ (by there (bytes_eq path q) refl is ∙ ap (λ (b : Bool). is_some (view_of T q) || b) (sym (added q))))
    where
      moved : (b c d : Bool) → (b || (c || d)) ≡ (c || (b || d))
      moved true true d = refl
      moved true false d = refl
      moved false c d = refl

      by : (there b : Bool) → bytes_eq path q ≡ b → there ≡ is_some (view_of T path) → (b || (is_some (view_of T q) || is_in before q)) ≡ (is_some (view_of T q) || ((not there && b) || is_in before q))
      by false b e is = moved b (is_some (view_of T q)) (is_in before q)
      by true false e is = refl
      by true true e is = sym (ap (λ (b : Bool). b || is_in before q) (ap (λ (p : Path). is_some (view_of T p)) (sym (same path q e)) ∙ sym is))

  -- a line with ids and a log is due
  pub is_due : (ids : LineIds) → written_ids r a ≡ Some ids → has_log r files a ≡ true → due_ids r files a ≡ Some ids
  is_due ids some has = ap (λ (b : Bool). if b then written_ids r a else None) has ∙ some

  pub due_passes : (ids : LineIds) → due_ids r files a ≡ Some ids → (message : List ℕ) → message ≡ message_of a.update.change → (path : Path) → path ≡ asked_log r a → CanMake r.committer message → has_file_in_path files path ≡ false → HasNoCause r files a
  due_passes ids due message said path at can way = subst (λ (o : Option LineIds). IfSome o (λ ids. CanMake r.committer (message_of a.update.change) × (has_file_in_path files (asked_log r a) ≡ false))) (sym due)
      (subst (CanMake r.committer) said can, ap (has_file_in_path files) (sym at) ∙ way)

  -- an edit has a log where the search for it found one, or one is made
  pub has_one : (path : Path) → path ≡ asked_log r a → (is_log has : Bool) → is_log ≡ is_some (files path) → has ≡ (is_log || makes_log r.mode (is_forced a.update.change) (below_logs r.namespace (name_of a.update))) → has ≡ true → has_log r files a ≡ true
  has_one path at is_log has there is truth =
      ap (λ (b : Bool). b || makes_log r.mode (is_forced a.update.change) (below_logs r.namespace (name_of a.update))) (ap (λ (p : Path). is_some (files p)) (sym at) ∙ sym there)
      ∙ (sym is ∙ truth)

  abbrev FailsBy : Option LineIds → Error → Type 0
  FailsBy due error = IsSomeAnd due (λ ids. CannotAdd r.committer (message_of a.update.change) (asked_log r a) (has_file_in_path files (asked_log r a)) error)

  fails_by : (ids : LineIds) → due_ids r files a ≡ Some ids → (error : Error) → CannotAdd r.committer (message_of a.update.change) (asked_log r a) (has_file_in_path files (asked_log r a)) error → FailsBy (due_ids r files a) error
  fails_by ids due error told = subst (λ (o : Option LineIds). FailsBy o error) (sym due) told

  due_fails_by : (ids : LineIds) → due_ids r files a ≡ Some ids → (e : Refusal) → IsUnadded r.committer (message_of a.update.change) (asked_log r a) (has_file_in_path files (asked_log r a)) e → IsRefusalAt r files a e
  due_fails_by ids due Memory told = tt
  due_fails_by ids due (CreateOrUpdateRefLog (CreateLeadingDirectories None folder)) told = fails_by ids due (CreateLeadingDirectories None folder) told
  due_fails_by ids due (CreateOrUpdateRefLog (CreateLeadingDirectories (Some fault) folder)) told = absurd told
  due_fails_by ids due (CreateOrUpdateRefLog (Append source path)) told = fails_by ids due (Append source path) told
  due_fails_by ids due (CreateOrUpdateRefLog MessageWithNewlines) told = fails_by ids due MessageWithNewlines told
  due_fails_by ids due (CreateOrUpdateRefLog MissingCommitter) told = fails_by ids due MissingCommitter told
  due_fails_by ids due (CreateOrUpdateRefLog SignatureUnwritable) told = fails_by ids due SignatureUnwritable told

  pub due_fails : (ids : LineIds) → due_ids r files a ≡ Some ids → (message : List ℕ) → message ≡ message_of a.update.change → (path : Path) → path ≡ asked_log r a → (blocked : Bool) → blocked ≡ has_file_in_path files path →
      (e : Refusal) → IsUnadded r.committer message path blocked e → IsRefusalAt r files a e
  due_fails ids due message said path at blocked way e told = due_fails_by ids due e
      (subst (λ (p : Path). IsUnadded r.committer (message_of a.update.change) p (has_file_in_path files p) e) at
      (subst (λ (b : Bool). IsUnadded r.committer (message_of a.update.change) path b e) way
      (subst (λ (m : List ℕ). IsUnadded r.committer m path blocked e) said told)))
