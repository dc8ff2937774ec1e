-- A folder that could not be listed: before which step, and what the error says.
use Rattle.std.proofs.Common.{◌≡◌, ◌≢◌, ℕ, zero, suc, ◌<◌, List, [], ◌∷◌, Option, Some, None, length, get_or, refl, sym, ◌∙◌, ap, subst, arith}
use Rattle.gix_ref_files.specs.Files.{FaultCounts, IsMet}
use Rattle.gix_ref_name.specs.Names.{full_bytes}
use Rattle.gix_ref_name.specs.declared.name.FullName.{FullName}
use Rattle.gix_ref_files.specs.Tree.{Path}
use Rattle.gix_ref_files.specs.Steps.{Step}
use Rattle.gix_ref_files.specs.declared.files.FileError.{FileError}
use Rattle.gix_ref_files.specs.declared.steps.Cause.TheVariants.{File as Fault, Sync, Unexpected, Asked}
use Rattle.gix_ref_lookup.specs.declared.folders.Dirs.{Dirs}
use Rattle.gix_ref_packed_text.specs.declared.outcome.Rewrite.{Rewrite}
use Rattle.gix_ref_reflog.specs.declared.create_or_update.Error.{Error as LogError}
use Rattle.gix_ref_reflog.specs.declared.create_or_update.Error.TheVariants.{CreateLeadingDirectories, Append, MessageWithNewlines, MissingCommitter, SignatureUnwritable}
use Rattle.gix_ref_transaction.specs.Causes.{names_of}
use Rattle.gix_ref_transaction.specs.CommitRenames.{log_at}
use Rattle.gix_ref_transaction.specs.PrepareSteps.{updates}
use Rattle.gix_ref_transaction.specs.declared.edit.Edit.{Edit}
use Rattle.gix_ref_transaction.specs.declared.edit.LogEffect.{LogEffect}
use Rattle.gix_ref_transaction.specs.declared.edit.LogEffect.TheVariants as logs
use Rattle.gix_ref_commit.specs.Cleared.{written_at}
use Rattle.gix_ref_commit.specs.Entries.{bare, planned_entries}
use Rattle.gix_ref_commit.specs.Failures.{AllWrite, IsNameAt, IsOfListing, IsWriteOf, SaysUnlisted, SaysWhyUnlisted}
use Rattle.gix_ref_commit.specs.LogEffects.{line_in}
use Rattle.gix_ref_commit.specs.declared.error.Error.{Error}
use Rattle.gix_ref_commit.specs.declared.error.Error.TheVariants.{CreateOrUpdateRefLog, PackedTransactionCommit, LockCommit, DeleteReference, DeleteReflog, FolderInPlace, PreprocessingFailed, Memory}
use Rattle.gix_ref_commit.specs.declared.plan.About.{About}
use Rattle.gix_ref_commit.specs.declared.plan.About.TheVariants as about
use Rattle.gix_ref_commit.specs.declared.run.Unfinished.{Unfinished}
use Rattle.gix_ref_commit.specs.declared.run.Unfinished.TheVariants.{Memory as no_memory, Step as AtStep}
use Rattle.gix_ref_commit.specs.internal.Walks.{FailsToList}
use Rattle.gix_ref_commit.proofs.Shapes.{AllShaped, HasLine, HasShape, all_shaped, shape_at}

pub has_line : (l : LogEffect) → line_in l ≢ None → HasLine l
has_line (logs.Append log line) some = tt
has_line logs.Keep some = absurd (some refl)
has_line (logs.Remove log) some = absurd (some refl)

some_line : (l : LogEffect) → HasLine l → line_in l ≢ None
some_line (logs.Append log line) has none = differ none
  where
    differ : Some line.items ≡ None → ⊥
    differ e = cc
some_line logs.Keep has none = absurd has
some_line (logs.Remove log) has none = absurd has

-- a step that writes a file is about a line, a rename, or `packed-refs`
write_of : (edits : List Edit) (packed : Option Path) (a : About) (step : Step) → HasShape edits packed a step → written_at step ≢ None → IsWriteOf edits a
write_of edits packed (about.Line at) step (lt, has, line) writes = (lt, some_line (log_at edits at) has)
write_of edits packed (about.Rename at) step (lt, is) writes = lt
write_of edits packed about.Packed step shape writes = tt
write_of edits packed (about.Folders at) step (lt, has, is) writes = absurd (writes (ap written_at is))
write_of edits packed (about.LogRemoval at) step (lt, (p, is)) writes = absurd (writes (ap written_at is))
write_of edits packed (about.Removal at) step (lt, (p, is)) writes = absurd (writes (ap written_at is))

module _ (dirs : Dirs) (edits : List Edit) (packed : Option Path) (rewrite : Rewrite) (before now : FaultCounts) where
  pub all_write : (u : Unfinished) → FailsToList (planned_entries dirs edits packed rewrite) before now u → AllWrite edits u
  all_write no_memory fails = tt
  all_write (AtStep a (Fault fault)) (step, is, fails) =
      subst (IsWriteOf edits) is
      (write_of edits packed step.1 (bare step.0) (shape_at edits packed fails.seen step fails.rest (subst (AllShaped edits packed) fails.cut (all_shaped edits packed dirs rewrite))) fails.writes)
  all_write (AtStep a (Sync fault)) fails = absurd fails
  all_write (AtStep a Unexpected) fails = absurd fails
  all_write (AtStep a Asked) fails = absurd fails

  -- so its error is that of a write of these edits
  at_line : (at : ℕ) (fault : FileError) (error : LogError) → FailsToList (planned_entries dirs edits packed rewrite) before now (AtStep (about.Line at) (Fault fault)) → SaysUnlisted edits (about.Line at) fault (CreateOrUpdateRefLog error) →
      IsOfListing edits before now (CreateOrUpdateRefLog error)
  at_line at fault (Append source path) fails (same, is) =
      let write = all_write (AtStep (about.Line at) (Fault fault)) fails in
      ((subst (λ e. IsMet e before now) (sym same) fails.2.counted, λ want. fails.2.no_want (sym same ∙ want)), (at, write.0, write.1, is))
  at_line at fault (CreateLeadingDirectories source folder) fails says = absurd says
  at_line at fault MessageWithNewlines fails says = absurd says
  at_line at fault MissingCommitter fails says = absurd says
  at_line at fault SignatureUnwritable fails says = absurd says

  at_step : (a : About) (fault : FileError) (error : Error) → FailsToList (planned_entries dirs edits packed rewrite) before now (AtStep a (Fault fault)) → SaysWhyUnlisted edits (AtStep a (Fault fault)) error → IsOfListing edits before now error
  at_step a fault Memory fails says = tt
  at_step (about.Folders at) fault error fails says = absurd (all_write (AtStep (about.Folders at) (Fault fault)) fails)
  at_step (about.LogRemoval at) fault error fails says = absurd (all_write (AtStep (about.LogRemoval at) (Fault fault)) fails)
  at_step (about.Removal at) fault error fails says = absurd (all_write (AtStep (about.Removal at) (Fault fault)) fails)
  at_step (about.Line at) fault (CreateOrUpdateRefLog error) fails says = at_line at fault error fails says
  at_step (about.Line at) fault (PackedTransactionCommit error) fails says = absurd says
  at_step (about.Line at) fault (LockCommit source name) fails says = absurd says
  at_step (about.Line at) fault (DeleteReference name source) fails says = absurd says
  at_step (about.Line at) fault (DeleteReflog name source) fails says = absurd says
  at_step (about.Line at) fault (FolderInPlace path) fails says = absurd says
  at_step (about.Line at) fault (PreprocessingFailed source) fails says = absurd says
  at_step (about.Rename at) fault (LockCommit source name) fails (same, is) =
      ((subst (λ e. IsMet e before now) (sym same) fails.2.counted, λ want. fails.2.no_want (sym same ∙ want)), (at, all_write (AtStep (about.Rename at) (Fault fault)) fails, is))
  at_step (about.Rename at) fault (CreateOrUpdateRefLog error) fails says = absurd says
  at_step (about.Rename at) fault (PackedTransactionCommit error) fails says = absurd says
  at_step (about.Rename at) fault (DeleteReference name source) fails says = absurd says
  at_step (about.Rename at) fault (DeleteReflog name source) fails says = absurd says
  at_step (about.Rename at) fault (FolderInPlace path) fails says = absurd says
  at_step (about.Rename at) fault (PreprocessingFailed source) fails says = absurd says
  at_step about.Packed fault (PackedTransactionCommit error) fails says =
      subst (λ e. IsOfListing edits before now (PackedTransactionCommit e)) (sym says) (fails.2.counted, fails.2.no_want)
  at_step about.Packed fault (CreateOrUpdateRefLog error) fails says = absurd says
  at_step about.Packed fault (LockCommit source name) fails says = absurd says
  at_step about.Packed fault (DeleteReference name source) fails says = absurd says
  at_step about.Packed fault (DeleteReflog name source) fails says = absurd says
  at_step about.Packed fault (FolderInPlace path) fails says = absurd says
  at_step about.Packed fault (PreprocessingFailed source) fails says = absurd says

  pub of_listing : (u : Unfinished) (error : Error) → FailsToList (planned_entries dirs edits packed rewrite) before now u → SaysWhyUnlisted edits u error → IsOfListing edits before now error
  of_listing u Memory fails says = tt
  of_listing (AtStep a (Sync fault)) error fails says = absurd fails
  of_listing (AtStep a Unexpected) error fails says = absurd fails
  of_listing (AtStep a Asked) error fails says = absurd fails
  of_listing (AtStep a (Fault fault)) error fails says = at_step a fault error fails says
  of_listing no_memory (CreateOrUpdateRefLog error) fails says = absurd says
  of_listing no_memory (PackedTransactionCommit error) fails says = absurd says
  of_listing no_memory (LockCommit source name) fails says = absurd says
  of_listing no_memory (DeleteReference name source) fails says = absurd says
  of_listing no_memory (DeleteReflog name source) fails says = absurd says
  of_listing no_memory (FolderInPlace path) fails says = absurd says
  of_listing no_memory (PreprocessingFailed source) fails says = absurd says

-- the name of the edit at a place of the list
pub name_at : (edits : List Edit) (k : ℕ) (d : Edit) (name : FullName) → k < length edits → full_bytes name ≡ full_bytes (get_or edits k d).update.name → IsNameAt (updates edits) k name
name_at edits k d name lt same = same ∙ by edits k lt
  where
    by : (l : List Edit) (i : ℕ) → i < length l → full_bytes (get_or l i d).update.name ≡ get_or (names_of (updates l)) i []
    by [] i lt = absurd (omega (arith, lt))
    by (x ∷ l) zero lt = refl
    by (x ∷ l) (suc i) lt = by l i (omega (arith, lt))
