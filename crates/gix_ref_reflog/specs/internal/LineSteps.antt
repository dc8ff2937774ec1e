-- The steps of the decision of a line.
use Rattle.std.specs.Prelude.{◌≡◌, ◌||◌, ℕ, List, Bool, Some, None, Option, is_some}
use Rattle.gix_ref_files.specs.Disk.{folder_of}
use Rattle.gix_ref_files.specs.Tree.{Path, Tree}
use Rattle.gix_ref_log.specs.Signatures.{Who}
use Rattle.gix_ref_log.specs.declared.log.line.write.AppendError.{AppendError}
use Rattle.gix_ref_log.specs.declared.log.line.write.AppendError.TheVariants as appending
use Rattle.gix_ref_theory.specs.OnRealTrees.{view_of}
use Rattle.gix_ref_theory.specs.Views.{View}
use Rattle.gix_ref_reflog.specs.DueLines.{LogRules, rules_of}
use Rattle.gix_ref_reflog.specs.LineCauses.{CannotMake, CannotAdd}
use Rattle.gix_ref_reflog.specs.internal.SeenLogs.{due_paths}
use Rattle.gix_ref_reflog.specs.declared.logs.DueLogs.{DueLogs}
use Rattle.gix_ref_reflog.specs.declared.rules.ReflogPolicy.{ReflogPolicy}
use Rattle.gix_ref_reflog.specs.declared.create_or_update.Error.TheVariants.{CreateLeadingDirectories, MessageWithNewlines, SignatureUnwritable}
use Rattle.gix_ref_reflog.specs.declared.error.Error.{Error as Refusal}
use Rattle.gix_ref_reflog.specs.declared.error.Error.TheVariants.{CreateOrUpdateRefLog, Memory}
use Rattle.gix_ref_transaction.specs.OwnLocks.{is_in}

abbrev pub log_rules : ReflogPolicy → LogRules
log_rules r = rules_of r.settings.now r.write_reflog r.committer

abbrev pub refusal_of : AppendError → Refusal
refusal_of appending.MessageWithNewlines = CreateOrUpdateRefLog MessageWithNewlines
refusal_of appending.SignatureUnwritable = CreateOrUpdateRefLog SignatureUnwritable
refusal_of appending.Memory = Memory

-- why the bytes of a line are not made
abbrev pub IsUnmade : Option Who → (message : List ℕ) → Refusal → Type 0
IsUnmade committer message (CreateOrUpdateRefLog error) = CannotMake committer message error
IsUnmade committer message Memory = Unit {0}

-- why a due line is not added
abbrev pub IsUnadded : Option Who → (message : List ℕ) → Path → (blocked : Bool) → Refusal → Type 0
IsUnadded committer message path blocked (CreateOrUpdateRefLog error) =
    CannotAdd committer message path blocked error
IsUnadded committer message path blocked Memory = Unit {0}

-- a fault in the search for the log at this path
abbrev pub IsFaultAt : Path → Refusal → Type 0
IsFaultAt path (CreateOrUpdateRefLog (CreateLeadingDirectories (Some fault) folder)) = folder.items
    ≡ folder_of path
IsFaultAt path (CreateOrUpdateRefLog error) = ⊥
IsFaultAt path Memory = Unit {0}

-- a file is in the path of the log
abbrev pub IsInPath : Path → Refusal → Type 0
IsInPath path (CreateOrUpdateRefLog (CreateLeadingDirectories None folder)) = folder.items
    ≡ folder_of path
IsInPath path (CreateOrUpdateRefLog error) = ⊥
IsInPath path Memory = Unit {0}

-- the files are those of a tree, and logs that have a line due
abbrev pub Sees : View → Tree → List Path → Type 0
Sees files T due = (q : Path) → is_some (files q) ≡ (is_some (view_of T q) || is_in due q)

-- this holds of all files that are seen so, where these logs have a line due
abbrev pub OfSeen : Tree → DueLogs → (View → Type 0) → Type 0
OfSeen T due P = (view : View) → Sees view T (due_paths due) → P view
