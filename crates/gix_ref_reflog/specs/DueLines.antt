-- Which log line is due for an edit, and what becomes of its log (`git reflog`, `git update-ref`).
use Rattle.std.specs.Prelude.{ℕ, List, [], ◌∷◌, Bool, true, false, ◌||◌, Option, Some, None, is_some, if◌then◌else◌}
use Rattle.std.specs.Option.{option_map}
use Rattle.gix_ref_hash.specs.Ids.{id_kind, null_id}
use Rattle.gix_ref_hash.specs.declared.hash.ObjectId.{ObjectId}
use Rattle.gix_ref_target.specs.Targets.{TargetValue, target_value}
use Rattle.gix_ref_target.specs.Targets.TargetValue.{object_id, symbolic_name}
use Rattle.gix_ref_edits.specs.RefEdits.{name_of, expected_of, previous_of, is_forced, message_of}
use Rattle.gix_ref_edits.specs.declared.transaction.Change.{Change}
use Rattle.gix_ref_edits.specs.declared.transaction.Change.TheVariants.{Update, Delete}
use Rattle.gix_ref_edits.specs.declared.transaction.PreviousValue.{PreviousValue}
use Rattle.gix_ref_edits.specs.declared.transaction.PreviousValue.TheVariants.{ExistingMustMatch}
use Rattle.gix_ref_edits.specs.declared.transaction.RefEdit.{RefEdit}
use Rattle.gix_ref_files.specs.Tree.{Path}
use Rattle.gix_ref_log.specs.LogLines.{appended_text}
use Rattle.gix_ref_log.specs.Signatures.{Who, signature_ref_who}
use Rattle.gix_ref_log.specs.declared.actor.SignatureRef.{SignatureRef}
use Rattle.gix_ref_lookup.specs.Lookups.{meaning_in}
use Rattle.gix_ref_lookup.specs.StoreLayout.{namespace_text}
use Rattle.gix_ref_lookup.specs.declared.settings.Settings.{Settings}
use Rattle.gix_ref_theory.specs.Edits.{is_same_id}
use Rattle.gix_ref_theory.specs.Readings.{Store}
use Rattle.gix_ref_theory.specs.Views.{View, after_write}
use Rattle.gix_ref_theory.specs.Views.Write.{Append}
use Rattle.gix_ref_reflog.specs.MadeLogs.{below_logs, makes_log}
use Rattle.gix_ref_reflog.specs.declared.ids.LineIds.{LineIds}
use Rattle.gix_ref_reflog.specs.declared.write_reflog.WriteReflog.{WriteReflog}
use Rattle.gix_ref_reflog.specs.declared.write_reflog.WriteReflog.TheVariants.{Disable}

-- What the lines of a commit depend on beside its edits: where logs are, which are made, and who commits.
pub record LogRules : Type 0 where
  pub store : Store
  pub namespace : List ℕ
  pub mode : WriteReflog
  pub committer : Option Who

abbrev pub rules_of : Settings → WriteReflog → Option SignatureRef → LogRules
rules_of settings mode committer = record {
  store = meaning_in settings;
  namespace = namespace_text settings.namespace.now;
  mode = mode;
  committer = option_map signature_ref_who committer;
}

-- An edit, the target that was found for it, and the object that its leaf expects: the edit at the end of the chain of those
-- that were split from it.
pub record AskedEdit : Type 0 where
  pub update : RefEdit
  pub found : Option TargetValue
  pub leaf : Option ObjectId

-- the object of a target
abbrev pub object_id_in : Option TargetValue → Option ObjectId
object_id_in None = None
object_id_in (Some (object_id id)) = Some id
object_id_in (Some (symbolic_name name)) = None

-- the object that an edit expects, if it names one
abbrev pub expected_id : Change → Option ObjectId
expected_id change = object_id_in (previous_of (expected_of change))

-- THE PREVIOUS ID: the object that was found, else the one that the leaf expects
abbrev pub previous_id : (found : Option TargetValue) (leaf : Option ObjectId) → Option ObjectId
previous_id None leaf = leaf
previous_id (Some (object_id id)) leaf = Some id
previous_id (Some (symbolic_name name)) leaf = leaf

-- the ids of a line from one object to another; none where the two are the same
abbrev pub between : (previous new : ObjectId) → Option LineIds
between previous new = if is_same_id previous new
    then None else Some (record { previous = previous; new = new })

-- the ids of a line to an object; without a previous id from the null id of its kind
abbrev pub ids_from : (previous : Option ObjectId) (new : ObjectId) → Option LineIds
ids_from None new = Some (record { previous = null_id (id_kind new); new = new })
ids_from (Some previous) new = between previous new

-- the ids of a line to an object that was never there, unless it is the null id
abbrev pub ids_to : TargetValue → Option LineIds
ids_to (object_id id) = between (null_id (id_kind id)) id
ids_to (symbolic_name name) = None

-- a symbolic update has a line only where the reference was not there, and an object is what it must match if it is
abbrev pub ids_of_symbolic : PreviousValue → (found : Option TargetValue) → Option LineIds
ids_of_symbolic (ExistingMustMatch target) None = ids_to (target_value target)
ids_of_symbolic expected found = None

abbrev pub ids_of_update : PreviousValue → (new : TargetValue) (found : Option TargetValue)
    (leaf : Option ObjectId) → Option LineIds
ids_of_update expected (object_id new) found leaf = ids_from (previous_id found leaf) new
ids_of_update expected (symbolic_name name) found leaf = ids_of_symbolic expected found

-- THE IDS OF A LINE: of an update, in both log modes
abbrev pub ids_of : Change → (found : Option TargetValue) (leaf : Option ObjectId) → Option LineIds
ids_of (Update log expected new) found leaf = ids_of_update expected (target_value new) found leaf
ids_of (Delete expected log) found leaf = None

-- the path of an edit's log
abbrev pub asked_log : LogRules → AskedEdit → Path
asked_log r a = r.store.log (name_of a.update)

-- the store writes no lines
abbrev pub is_off : WriteReflog → Bool
is_off Disable = true
is_off mode = false

-- the ids of a line, if the store writes lines
abbrev pub written_ids : LogRules → AskedEdit → Option LineIds
written_ids r a = if is_off r.mode then None else ids_of a.update.change a.found a.leaf

-- the log of an edit is there, or it is made
abbrev pub has_log : LogRules → View → AskedEdit → Bool
has_log r files a = is_some (files (asked_log r a))
    || makes_log r.mode (is_forced a.update.change) (below_logs r.namespace (name_of a.update))

-- A LINE IS DUE for an update with ids for one, and with a log
abbrev pub due_ids : LogRules → View → AskedEdit → Option LineIds
due_ids r files a = if has_log r files a then written_ids r a else None

-- the files as later edits find them: the log of a due line is there
abbrev pub with_log : LogRules → View → AskedEdit → View
with_log r files a = if is_some (due_ids r files a)
    then after_write (Append (asked_log r a) []) files else files

-- the bytes of a line
abbrev pub due_line_text : Option Who → Option LineIds → (message : List ℕ) → Option (List ℕ)
due_line_text (Some who) (Some ids) message = Some (appended_text ids.previous ids.new who message)
due_line_text (Some who) None message = None
due_line_text None ids message = None

-- THE DUE LINE of an edit among these files
abbrev pub due_line : LogRules → View → AskedEdit → Option (List ℕ)
due_line r files a = due_line_text r.committer (due_ids r files a) (message_of a.update.change)

-- the due lines of edits, each among the files as the lines before it leave them
abbrev pub due_lines : LogRules → View → List AskedEdit → List (Option (List ℕ))
due_lines r files [] = []
due_lines r files (a ∷ rest) = due_line r files a ∷ due_lines r (with_log r files a) rest

-- What becomes of a log.
pub data LogOutcome : Type 0 where
  Stays : LogOutcome
  Gains : (log : Path) (line : List ℕ) → LogOutcome
  Goes : (log : Path) → LogOutcome

abbrev pub outcome_by : Change → Path → (line : Option (List ℕ)) → LogOutcome
outcome_by (Delete expected mode) log line = Goes log
outcome_by (Update change expected new) log None = Stays
outcome_by (Update change expected new) log (Some line) = Gains log line

-- WHAT BECOMES OF THE LOG of an edit: that of a deletion goes, in both log modes, and that of an update gains the due line
abbrev pub log_outcome : LogRules → View → AskedEdit → LogOutcome
log_outcome r files a = outcome_by a.update.change (asked_log r a) (due_line r files a)

-- and so for each of these
abbrev pub log_outcomes : LogRules → View → List AskedEdit → List LogOutcome
log_outcomes r files [] = []
log_outcomes r files (a ∷ rest) = log_outcome r files a ∷ log_outcomes r (with_log r files a) rest
