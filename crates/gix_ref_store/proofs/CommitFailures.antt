-- Why a commit failed, by what it could not decide or by the step at which it ended.
use Rattle.std.proofs.Common.{◌≡◌, ◌≢◌, inl, inr, ⊎_elim, ◌⊎◌, ℕ, zero, suc, ◌<◌, List, [], ◌∷◌, ◌++◌, Bool, true, false, Option, Some, None, map, refl, sym, ◌∙◌, ap, subst, length, arith, get_or}
use Rattle.gix_ref_files.proofs.Meeting.{no_fewer_starts, met_wider}
use Rattle.std.specs.Prelude.{bytes_eq, if◌then◌else◌}
use Rattle.std.proofs.lemmas.List.{length-map}
use Rattle.gix_ref_files.specs.Files.{Meaning, FaultCounts, NoFewer}
use Rattle.gix_ref_files.specs.Lock.{lock_of}
use Rattle.gix_ref_files.specs.Steps.{Step, IsAfter}
use Rattle.gix_ref_files.specs.Tree.{Tree, Path, is_blocked, is_folder}
use Rattle.gix_ref_files.specs.Tree.Content.{File}
use Rattle.gix_ref_files.specs.declared.files.FileError.{FileError}
use Rattle.gix_ref_files.specs.declared.steps.Cause.{Cause}
use Rattle.gix_ref_files.specs.declared.steps.Cause.TheVariants.{File as Fault, Sync, Unexpected, Asked}
use Rattle.gix_ref_files.proofs.Puts.{put_other}
use Rattle.gix_ref_lookup.specs.declared.folders.Dirs.{Dirs}
use Rattle.gix_ref_packed_text.specs.declared.outcome.Rewrite.{Rewrite}
use Rattle.gix_ref_edits.specs.declared.transaction.RefEdit.{RefEdit}
use Rattle.gix_ref_transaction.specs.CommitRenames.{SeeLogs, log_at, path_in, place_at}
use Rattle.gix_ref_transaction.specs.CarriedEdits.{change_of}
use Rattle.gix_ref_transaction.specs.declared.edit.LogEffect.{LogEffect}
use Rattle.gix_ref_transaction.specs.declared.edit.LogEffect.TheVariants as log_effects
use Rattle.gix_ref_edits.specs.RefEdits.{name_of}
use Rattle.gix_ref_files.specs.Disk.{folder_of}
use Rattle.gix_ref_theory.specs.Edits as plan
use Rattle.gix_ref_theory.specs.Readings as readings
use Rattle.gix_ref_log.specs.declared.actor.SignatureRef.{SignatureRef}
use Rattle.gix_ref_reflog.specs.AskedEdits.{all_but_logs, asked, but_log, outcomes_of}
use Rattle.gix_ref_reflog.specs.DueLines.{log_outcomes}
use Rattle.gix_ref_reflog.specs.LineCauses.{IsCountedError}
use Rattle.gix_ref_reflog.specs.declared.create_or_update.Error.{Error as LogError}
use Rattle.gix_ref_reflog.specs.declared.create_or_update.Error.TheVariants.{CreateLeadingDirectories, Append, MessageWithNewlines, MissingCommitter, SignatureUnwritable}
use Rattle.gix_ref_transaction.specs.OwnLocks.{is_in, RemovesLocks}
use Rattle.gix_ref_transaction.specs.PrepareSteps.{held_locks, lock_paths, packed_places, updates, IsPackedPlace}
use Rattle.gix_ref_transaction.specs.declared.edit.Edit.{Edit}
use Rattle.gix_ref_transaction.proofs.Adds.{any_cases, any_left, any_right, clash, in_here}
use Rattle.gix_ref_packed_transaction.specs.declared.error.Error.{Error as RepackError}
use Rattle.gix_ref_packed_transaction.specs.declared.error.Error.TheVariants as repack
use Rattle.gix_ref_commit.specs.Cleared.{AllInWay, AreInWay, AreInWayOf, FoldersGo, all_removed, cleared, commit_entries, folder_lists, is_seen, removals, written_at}
use Rattle.gix_ref_commit.specs.Decided.{FillsPacked, IsFilled}
use Rattle.gix_ref_commit.specs.Entries.{Entry, bare, done_at, done_before, done_of, planned_entries, IsOfEdit, bare_steps}
use Rattle.gix_ref_target.specs.PackedRecords.{Record}
use Rattle.gix_ref_lookup.specs.Lookups.{ArePackedRecords}
use Rattle.gix_ref_theory.specs.Between.{AreEdits}
use Rattle.gix_ref_theory.specs.OnRealTrees.{view_of}
use Rattle.gix_ref_transaction.specs.Packing.{plan_edits}
use Rattle.gix_ref_transaction.specs.PackedCauses.{ids_among}
use Rattle.gix_ref_packed_transaction.specs.Refusals.{IsCountedRefusal, IsRepackFault, IsRefusedRewrite}
use Rattle.gix_ref_packed_transaction.specs.Repacks.{IsRepack}
use Rattle.gix_ref_commit.specs.Failures.{AllOfEdits, IsNameAt, IsOfListing, SaysFault, SaysFile, SaysInWay, SaysLogFault, SaysWhy, of_repack}
use Rattle.gix_ref_commit.specs.LogEffects.{AreLogsOf, IsLogOf}
use Rattle.gix_ref_commit.specs.Unfinished.{EndsAtStep, EndsIn, IsRaised}
use Rattle.gix_ref_commit.specs.declared.error.Error.{Error}
use Rattle.gix_ref_commit.specs.declared.error.Error.TheVariants.{CreateOrUpdateRefLog, PackedTransactionCommit, LockCommit, DeleteReference, DeleteReflog, FolderInPlace, PreprocessingFailed, Memory}
use Rattle.gix_ref_commit.specs.declared.folders.EmptyDirs.{EmptyDirs}
use Rattle.gix_ref_commit.specs.declared.plan.About.{About}
use Rattle.gix_ref_commit.specs.declared.plan.About.TheVariants.{Folders, Line, Rename, LogRemoval, Packed, Removal}
use Rattle.gix_ref_commit.specs.declared.run.Unfinished.{Unfinished}
use Rattle.gix_ref_commit.specs.declared.run.Unfinished.TheVariants.{Memory as no_memory, Step as AtStep}
use Rattle.gix_ref_commit.proofs.Alike.{alters_alike, can_alike, ids_alike, locks_alike, places_alike, plans_alike, puts_alike, updates_alike}
use Rattle.gix_ref_commit.proofs.Synced.{done_asked, done_by_fault, done_unexpected}
use Rattle.gix_ref_commit.proofs.Cleared.{Any, IsCutOf, Way, Ways, all_ways, any_ways, cut_of}
use Rattle.gix_ref_commit.proofs.Endings.{MeetsAt, WritesAt, meets, never_asked, not_emptied, removal_not_asked, removal_not_refused, writes}
use Rattle.gix_ref_commit.proofs.Outcomes.{logs_are}
use Rattle.gix_ref_commit.proofs.Refilled.{IsWrite, holds_file, new_holds, old_holds, plan_grows}
use Rattle.gix_ref_commit.proofs.Unlisted.{has_line}
use Rattle.gix_ref_commit.proofs.Shapes.{AllShaped, HasLine, HasShape, all_shaped, names_edit, shape_at}
use Rattle.gix_ref_store.specs.CommitResult.{ChangesLocks, EndsByFault, FailsAtStep, FailsAtWrite, FailsFor, FailsForLog, RefusesLine, IsFaultBetween, IsOfBadLine, IsPackedEmpty, MeetsFolder, OnlyItsLocks, RepacksFrom, EndsEarlyAt, IsNotEmptied}
use Rattle.gix_ref_store.specs.CommitLines.{LinesPass, line_rules, log_path_at}
use Rattle.gix_ref_store.specs.Decisions.{IsUndecided}
use Rattle.gix_ref_store.specs.Prepared.{tree_of}
use Rattle.gix_ref_store.specs.Store.{files_of, kind_of, meaning_of}
use Rattle.gix_ref_store.specs.declared.file.store.Store.{Store}

-- a fault at `packed-refs` that was counted, within a longer run
pub counted_from : (a b c : FaultCounts) (error : RepackError) → NoFewer a b → IsCountedRefusal b c error → IsCountedRefusal a c error
counted_from a b c (repack.Io fault) le is = (met_wider le (no_fewer_starts c) is.0, is.1)
counted_from a b c (repack.Iteration line) le is = tt
counted_from a b c repack.Memory le is = tt
counted_from a b c (repack.Commit error) le is = is

-- An error that a decision returned, by what is said of that of `packed-refs`.
pub undecided_by : {F : Type 0} (honest : Type 0) (means : F → Meaning) (faults : F → FaultCounts) (start new : Store F) (committer : Option SignatureRef) (held ran : List Edit) (error : RepackError) → all_but_logs ran ≡ all_but_logs held →
    IsCountedRefusal (faults (files_of start)) (faults (files_of new)) error → (honest → IsRefusedRewrite (kind_of start) (tree_of means start (meaning_of start).packed_path) error) →
    (honest → AreEdits (meaning_of start) (plan_edits ran) → (rs : List Record) → ArePackedRecords (kind_of start) (view_of (tree_of means start) (meaning_of start).packed_path) rs → IsRepackFault error) → LinesPass honest means start committer held →
    IsUndecided honest means faults start new committer held (of_repack error)
undecided_by honest means faults start new committer held ran (repack.Io error) alike counted refused sound passes = counted
undecided_by honest means faults start new committer held ran (repack.Iteration line) alike counted refused sound passes =
    (refused, (λ h apart rs are. sound h (subst (λ (l : List plan.Edit). AreEdits (meaning_of start) l) (sym (plans_alike ran held alike)) apart) rs are), passes)
undecided_by honest means faults start new committer held ran repack.Memory alike counted refused sound passes = tt
undecided_by honest means faults start new committer held ran (repack.Commit error) alike counted refused sound passes = counted

-- the log to which a line is added is that of its edit
log_path_is : (s : readings.Store) (held ran : List Edit) → AreLogsOf s (updates held) ran → (at : ℕ) → HasLine (log_at ran at) → path_in (log_at ran at) ≡ get_or (map (λ (e : Edit). s.log (name_of e.update)) held) at []
log_path_is s held [] are zero has = absurd has
log_path_is s held [] are (suc at) has = absurd has
log_path_is s [] (p ∷ ran) are at has = absurd are
log_path_is s (e ∷ held) (p ∷ ran) are zero has = by (change_of e.update.change) p.log are.0 has
  where
    by : (c : plan.Change) (l : LogEffect) → IsLogOf (s.log (name_of e.update)) c l → HasLine l → path_in l ≡ s.log (name_of e.update)
    by (plan.Change.Update target) (log_effects.Append log line) is has = is
    by plan.Change.Delete (log_effects.Append log line) is has = absurd is
    by c log_effects.Keep is has = absurd has
    by c (log_effects.Remove log) is has = absurd has
log_path_is s (e ∷ held) (p ∷ ran) are (suc at) has = log_path_is s held ran are.1 at has

-- What was decided of `packed-refs` by the edits whose logs were decided before is what becomes of it by those that were given.
pub repacked_by : {F : Type 0} (honest : Type 0) (means : F → Meaning) (faults : F → FaultCounts) (start : Store F) (packed : Option Path) (held ran : List Edit) (rewrite : Rewrite) → all_but_logs ran ≡ all_but_logs held →
    RepacksFrom honest means faults start packed ran rewrite → RepacksFrom honest means faults start packed held rewrite
repacked_by honest means faults start packed held ran rewrite alike repacks = record {
  made = λ h mode apart rs are ids puts can some.
      subst (λ (l : List plan.Edit). IsRepack (meaning_of start) mode (kind_of start) rs l rewrite) (plans_alike ran held alike)
      (repacks.made h mode (subst (λ (l : List plan.Edit). AreEdits (meaning_of start) l) (sym (plans_alike ran held alike)) apart) rs are
      (ids_alike ran held alike ∙ (ids ∙ ap (ids_among (meaning_of start) rs) (sym (updates_alike ran held alike))))
      (puts_alike (meaning_of start) mode ran held alike puts) (can_alike (meaning_of start) (kind_of start) ran held alike can) some);
  read = λ h some alters. repacks.read h some (alters_alike ran held alike ∙ alters);
}

-- what is in the way of a step is no fault of `packed-refs`
none_in_way : (place log packed : Path) (a : About) (error : RepackError) → SaysInWay place log packed a (PackedTransactionCommit error) → ⊥
none_in_way place log packed (Folders at) error says = says
none_in_way place log packed (Line at) error says = says
none_in_way place log packed (Rename at) error says = says
none_in_way place log packed (LogRemoval at) error says = says
none_in_way place log packed Packed error says = says
none_in_way place log packed (Removal at) error says = says

-- an error of a step is of no line of `packed-refs`
pub of_no_line : (edits : List RefEdit) (place log packed : Path) (u : Unfinished) (error : Error) → SaysWhy edits place log packed u error → IsOfBadLine error → ⊥
of_no_line edits place log packed no_memory (PackedTransactionCommit (repack.Iteration line)) says bad = says
of_no_line edits place log packed (AtStep about Unexpected) (PackedTransactionCommit (repack.Iteration line)) says bad = none_in_way place log packed about (repack.Iteration line) says
of_no_line edits place log packed (AtStep about Asked) (PackedTransactionCommit (repack.Iteration line)) says bad = none_in_way place log packed about (repack.Iteration line) says
of_no_line edits place log packed (AtStep Packed (Fault fault)) (PackedTransactionCommit (repack.Iteration line)) says bad = differ says
  where
    differ : repack.Iteration line ≡ repack.Io fault → ⊥
    differ e = cc
of_no_line edits place log packed (AtStep (Folders at) (Fault fault)) (PackedTransactionCommit (repack.Iteration line)) says bad = says
of_no_line edits place log packed (AtStep (Line at) (Fault fault)) (PackedTransactionCommit (repack.Iteration line)) says bad = says
of_no_line edits place log packed (AtStep (Rename at) (Fault fault)) (PackedTransactionCommit (repack.Iteration line)) says bad = says
of_no_line edits place log packed (AtStep (LogRemoval at) (Fault fault)) (PackedTransactionCommit (repack.Iteration line)) says bad = says
of_no_line edits place log packed (AtStep (Removal at) (Fault fault)) (PackedTransactionCommit (repack.Iteration line)) says bad = says
of_no_line edits place log packed (AtStep Packed (Sync fault)) (PackedTransactionCommit (repack.Iteration line)) says bad = differ says
  where
    differ : repack.Iteration line ≡ repack.Io fault → ⊥
    differ e = cc
of_no_line edits place log packed (AtStep (Folders at) (Sync fault)) (PackedTransactionCommit (repack.Iteration line)) says bad = says
of_no_line edits place log packed (AtStep (Line at) (Sync fault)) (PackedTransactionCommit (repack.Iteration line)) says bad = says
of_no_line edits place log packed (AtStep (Rename at) (Sync fault)) (PackedTransactionCommit (repack.Iteration line)) says bad = says
of_no_line edits place log packed (AtStep (LogRemoval at) (Sync fault)) (PackedTransactionCommit (repack.Iteration line)) says bad = says
of_no_line edits place log packed (AtStep (Removal at) (Sync fault)) (PackedTransactionCommit (repack.Iteration line)) says bad = says
of_no_line edits place log packed u (PackedTransactionCommit (repack.Commit error)) says bad = bad
of_no_line edits place log packed u (PackedTransactionCommit (repack.Io error)) says bad = bad
of_no_line edits place log packed u (PackedTransactionCommit repack.Memory) says bad = bad
of_no_line edits place log packed u (CreateOrUpdateRefLog error) says bad = bad
of_no_line edits place log packed u (LockCommit source name) says bad = bad
of_no_line edits place log packed u (DeleteReference name source) says bad = bad
of_no_line edits place log packed u (DeleteReflog name source) says bad = bad
of_no_line edits place log packed u (FolderInPlace path) says bad = bad
of_no_line edits place log packed u (PreprocessingFailed source) says bad = bad
of_no_line edits place log packed u Memory says bad = bad

-- what was counted is counted afterwards too
log_wider : (a b c : FaultCounts) (error : LogError) → NoFewer b c → IsCountedError a b error → IsCountedError a c error
log_wider a b c (CreateLeadingDirectories (Some fault) folder) le is = (met_wider (no_fewer_starts a) le is.0, is.1)
log_wider a b c (CreateLeadingDirectories None folder) le is = tt
log_wider a b c (Append source path) le is = is
log_wider a b c MessageWithNewlines le is = tt
log_wider a b c MissingCommitter le is = tt
log_wider a b c SignatureUnwritable le is = tt

fault_wider : {F : Type 0} (honest : Type 0) (means : F → Meaning) (faults : F → FaultCounts) (start mid new : Store F) (source : FileError) → NoFewer (faults (files_of mid)) (faults (files_of new)) →
    IsFaultBetween honest means faults start mid source → IsFaultBetween honest means faults start new source
fault_wider honest means faults start mid new source le is = (met_wider (no_fewer_starts (faults (files_of start))) le is.0, is.1)

pub undecided_wider : {F : Type 0} (honest : Type 0) (means : F → Meaning) (faults : F → FaultCounts) (start mid new : Store F) (committer : Option SignatureRef) (held : List Edit) (error : Error) → NoFewer (faults (files_of mid)) (faults (files_of new)) →
    IsUndecided honest means faults start mid committer held error → IsUndecided honest means faults start new committer held error
undecided_wider honest means faults start mid new committer held (CreateOrUpdateRefLog (Append source path)) le is = (fault_wider honest means faults start mid new source le is.0, is.1)
undecided_wider honest means faults start mid new committer held (CreateOrUpdateRefLog (CreateLeadingDirectories source folder)) le is = (is.0, log_wider (faults (files_of start)) (faults (files_of mid)) (faults (files_of new)) (CreateLeadingDirectories source folder) le is.1)
undecided_wider honest means faults start mid new committer held (CreateOrUpdateRefLog MessageWithNewlines) le is = is
undecided_wider honest means faults start mid new committer held (CreateOrUpdateRefLog MissingCommitter) le is = is
undecided_wider honest means faults start mid new committer held (CreateOrUpdateRefLog SignatureUnwritable) le is = is
undecided_wider honest means faults start mid new committer held (PackedTransactionCommit (repack.Io fault)) le is = (met_wider (no_fewer_starts (faults (files_of start))) le is.0, is.1)
undecided_wider honest means faults start mid new committer held (PackedTransactionCommit (repack.Iteration line)) le is = is
undecided_wider honest means faults start mid new committer held (PackedTransactionCommit (repack.Commit error)) le is = is
undecided_wider honest means faults start mid new committer held (PackedTransactionCommit repack.Memory) le is = is
undecided_wider honest means faults start mid new committer held (LockCommit source name) le is = (fault_wider honest means faults start mid new source le is.0, is.1)
undecided_wider honest means faults start mid new committer held (DeleteReference name source) le is = is
undecided_wider honest means faults start mid new committer held (DeleteReflog name source) le is = is
undecided_wider honest means faults start mid new committer held (FolderInPlace path) le is = is
undecided_wider honest means faults start mid new committer held (PreprocessingFailed source) le is = is
undecided_wider honest means faults start mid new committer held Memory le is = is

-- a bad line is never the cause where `packed-refs` is well formed
pub never_bad : {F : Type 0} (honest : Type 0) (means : F → Meaning) (faults : F → FaultCounts) (start mid : Store F) (committer : Option SignatureRef) (held : List Edit) (error : Error) → IsUndecided honest means faults start mid committer held error → IsOfBadLine error → honest →
    AreEdits (meaning_of start) (plan_edits held) → (rs : List Record) → ArePackedRecords (kind_of start) (view_of (tree_of means start) (meaning_of start).packed_path) rs → ⊥
never_bad honest means faults start mid committer held (PackedTransactionCommit (repack.Iteration line)) is bad h apart rs are = is.1 h apart rs are
never_bad honest means faults start mid committer held (PackedTransactionCommit (repack.Io fault)) is bad h apart rs are = bad
never_bad honest means faults start mid committer held (PackedTransactionCommit (repack.Commit error)) is bad h apart rs are = bad
never_bad honest means faults start mid committer held (PackedTransactionCommit repack.Memory) is bad h apart rs are = bad
never_bad honest means faults start mid committer held Memory is bad h apart rs are = bad
never_bad honest means faults start mid committer held (CreateOrUpdateRefLog error) is bad h apart rs are = bad
never_bad honest means faults start mid committer held (LockCommit source name) is bad h apart rs are = bad
never_bad honest means faults start mid committer held (DeleteReference name source) is bad h apart rs are = bad
never_bad honest means faults start mid committer held (DeleteReflog name source) is bad h apart rs are = bad
never_bad honest means faults start mid committer held (FolderInPlace path) is bad h apart rs are = bad
never_bad honest means faults start mid committer held (PreprocessingFailed source) is bad h apart rs are = bad

-- the rise of a fault at a step, seen from around it
pub raised_wider : (a b c d : FaultCounts) (u : Unfinished) → NoFewer a b → NoFewer c d → IsRaised b c u → IsRaised a d u
raised_wider a b c d no_memory lower upper raised = tt
raised_wider a b c d (AtStep about (Fault fault)) lower upper raised = (met_wider lower upper raised.0, raised.1)
raised_wider a b c d (AtStep about (Sync fault)) lower upper raised = (met_wider lower upper raised.0, raised.1)
raised_wider a b c d (AtStep about Unexpected) lower upper raised = tt
raised_wider a b c d (AtStep about Asked) lower upper raised = tt

-- a step at which a run ended is of one of the edits
pub all_of_edits : (honest : Type 0) (dirs : Dirs) (ran : List Edit) (packed : Option Path) (rewrite : Rewrite) (ways : List EmptyDirs) (S T : Tree) (u : Unfinished) → EndsIn honest (commit_entries dirs ran packed rewrite ways) S T u → AllOfEdits (length ran) u
all_of_edits honest dirs ran packed rewrite ways S T no_memory e = tt
all_of_edits honest dirs ran packed rewrite ways S T (AtStep a cause) e =
    let c = cut_of Any (folder_lists ways) (planned_entries dirs ran packed rewrite) (any_ways (folder_lists ways) (planned_entries dirs ran packed rewrite)) e.before (e.step, a) e.rest e.cut in
    subst (IsOfEdit (length ran)) c.about
    (names_edit ran packed c.step.1 (bare c.step.0) (shape_at ran packed c.seen c.step c.later (subst (AllShaped ran packed) c.cut (all_shaped ran packed dirs rewrite))))

-- An error of a folder that could not be listed.
pub unlisted_by : {F : Type 0} (honest : Type 0) (means : F → Meaning) (faults : F → FaultCounts) (start new : Store F) (committer : Option SignatureRef) (held ran : List Edit) (mid : FaultCounts) (error : Error) → all_but_logs ran ≡ all_but_logs held →
    (honest → outcomes_of ran ≡ log_outcomes (line_rules start committer) (view_of (tree_of means start)) (asked held)) → NoFewer (faults (files_of start)) mid → IsOfListing ran mid (faults (files_of new)) error →
    IsUndecided honest means faults start new committer held error
unlisted_by honest means faults start new committer held ran mid Memory alike outcomes le is = tt
unlisted_by honest means faults start new committer held ran mid (CreateOrUpdateRefLog (Append source path)) alike outcomes le (fault, (at, lt, line, same)) = (
  (met_wider le (no_fewer_starts (faults (files_of new))) fault.0, fault.1),
  (
    at,
    omega (arith, lt, length-map ran but_log, length-map held but_log, ap length alike),
    λ h. same ∙ log_path_is (meaning_of start) held ran (logs_are (line_rules start committer) (view_of (tree_of means start)) 0 held ran (outcomes h)) at (has_line (log_at ran at) line),
  ),
)
unlisted_by honest means faults start new committer held ran mid (LockCommit source name) alike outcomes le (fault, (at, lt, same)) = (
  (met_wider le (no_fewer_starts (faults (files_of new))) fault.0, fault.1),
  (at, omega (arith, lt, length-map ran but_log, length-map held but_log, ap length alike), subst (λ (l : List RefEdit). IsNameAt l at name) (updates_alike ran held alike) same),
)
unlisted_by honest means faults start new committer held ran mid (PackedTransactionCommit (repack.Io fault)) alike outcomes le is = (met_wider le (no_fewer_starts (faults (files_of new))) is.0, is.1)
unlisted_by honest means faults start new committer held ran mid (CreateOrUpdateRefLog (CreateLeadingDirectories source folder)) alike outcomes le is = absurd is
unlisted_by honest means faults start new committer held ran mid (CreateOrUpdateRefLog MessageWithNewlines) alike outcomes le is = absurd is
unlisted_by honest means faults start new committer held ran mid (CreateOrUpdateRefLog MissingCommitter) alike outcomes le is = absurd is
unlisted_by honest means faults start new committer held ran mid (CreateOrUpdateRefLog SignatureUnwritable) alike outcomes le is = absurd is
unlisted_by honest means faults start new committer held ran mid (PackedTransactionCommit (repack.Iteration line)) alike outcomes le is = absurd is
unlisted_by honest means faults start new committer held ran mid (PackedTransactionCommit (repack.Commit error)) alike outcomes le is = absurd is
unlisted_by honest means faults start new committer held ran mid (PackedTransactionCommit repack.Memory) alike outcomes le is = absurd is
unlisted_by honest means faults start new committer held ran mid (DeleteReference name source) alike outcomes le is = absurd is
unlisted_by honest means faults start new committer held ran mid (DeleteReflog name source) alike outcomes le is = absurd is
unlisted_by honest means faults start new committer held ran mid (FolderInPlace path) alike outcomes le is = absurd is
unlisted_by honest means faults start new committer held ran mid (PreprocessingFailed source) alike outcomes le is = absurd is

module _ {F : Type 0} (honest : Type 0) (means : F → Meaning) (faults : F → FaultCounts) (start new : Store F) (committer : Option SignatureRef) (packed : Option Path) (held ran : List Edit) (alike : all_but_logs ran ≡ all_but_logs held) where
  -- the locks that are released are some of those that are held
  pub ran_held : (renamed : Bool) (q : Path) → is_in (held_locks (if renamed then None else packed) ran) q ≡ true → is_in (held_locks packed held) q ≡ true
  ran_held renamed q within = ⊎_elim
      (λ p. any_left (λ r. bytes_eq r q) (map lock_of (packed_places packed)) (lock_paths held) (unless_within renamed p))
      (λ e. any_right (λ r. bytes_eq r q) (map lock_of (packed_places packed)) (lock_paths held) (subst (λ (l : List Path). is_in l q ≡ true) (locks_alike ran held alike) e))
      (any_cases (λ r. bytes_eq r q) (map lock_of (packed_places (if renamed then None else packed))) (lock_paths ran) within)
    where
      unless_within : (b : Bool) → is_in (map lock_of (packed_places (if b then None else packed))) q ≡ true → is_in (map lock_of (packed_places packed)) q ≡ true
      unless_within true p = clash p refl
      unless_within false p = p

  pub held_less : (renamed : Bool) (T U : Tree) → RemovesLocks (held_locks (if renamed then None else packed) ran) T U → RemovesLocks (held_locks packed held) T U
  held_less renamed T U removes q = ⊎_elim (λ same. inl same) (λ gone. inr (ran_held renamed q gone.0, gone.1, gone.2)) (removes q)

  -- before the first write nothing but locks has changed
  pub only_locks : (renamed : Bool) (decided : Tree) → FillsPacked packed (tree_of means start) decided → RemovesLocks (held_locks (if renamed then None else packed) ran) decided (tree_of means new) →
      ChangesLocks (held_locks packed held) (tree_of means start) (tree_of means new)
  only_locks renamed decided fills removes q out = ⊎_elim (λ same. same ∙ by packed refl fills) (λ gone. clash (ran_held renamed q gone.0) out) (removes q)
    where
      by : (p : Option Path) → packed ≡ p → FillsPacked p (tree_of means start) decided → decided q ≡ tree_of means start q
      by None is same = ap (λ (T : Tree). T q) same
      by (Some path) is (inl same) = ap (λ (T : Tree). T q) same
      by (Some path) is (inr (text, filled)) =
          ap (λ (T : Tree). T q) filled
          ∙ put_other (tree_of means start) (lock_of path) q (Some (File text))
          (λ same. clash
          (any_left (λ r. bytes_eq r q) (map lock_of (packed_places packed)) (lock_paths held)
          (subst (λ (p : Option Path). is_in (map lock_of (packed_places p)) q ≡ true) (sym is) (in_here (lock_of path) q [] same))) out)

  -- what could not be decided
  unlogged_fails : (error : LogError) → IsCountedError (faults (files_of start)) (faults (files_of new)) error → RefusesLine honest means faults start new committer packed held error → FailsForLog honest means faults start new committer packed held error
  unlogged_fails (CreateLeadingDirectories None folder) counted refused = inl refused
  unlogged_fails (CreateLeadingDirectories (Some fault) folder) counted refused = (counted, inl refused)
  unlogged_fails (Append source path) counted refused = absurd counted
  unlogged_fails MessageWithNewlines counted refused = refused
  unlogged_fails MissingCommitter counted refused = refused
  unlogged_fails SignatureUnwritable counted refused = refused

  -- nor where a folder could not be listed
  unlisted_fails : (about : ℕ → About) (fault : FileError) (is_named : ℕ → Type 0) → IsFaultBetween honest means faults start new fault × ((at : ℕ) × (at < length held) × is_named at) → OnlyItsLocks honest means faults start new packed held →
      FailsAtWrite honest means faults start new committer packed held about fault is_named
  unlisted_fails about fault is_named is only = (is.0, (is.1.0, is.1.1, is.1.2, inl only))

  pub undecided_fails : (error : Error) → IsUndecided honest means faults start new committer held error → OnlyItsLocks honest means faults start new packed held → FailsFor honest means faults start new committer packed held error
  undecided_fails (CreateOrUpdateRefLog (Append source path)) is only = unlisted_fails Line source (λ k. honest → path.items ≡ log_path_at start held k) is only
  undecided_fails (CreateOrUpdateRefLog (CreateLeadingDirectories source folder)) is only = unlogged_fails (CreateLeadingDirectories source folder) is.1 (is.0, only)
  undecided_fails (CreateOrUpdateRefLog MessageWithNewlines) is only = unlogged_fails MessageWithNewlines is.1 (is.0, only)
  undecided_fails (CreateOrUpdateRefLog MissingCommitter) is only = unlogged_fails MissingCommitter is.1 (is.0, only)
  undecided_fails (CreateOrUpdateRefLog SignatureUnwritable) is only = unlogged_fails SignatureUnwritable is.1 (is.0, only)
  undecided_fails (PackedTransactionCommit (repack.Io fault)) is only = (is, inl only)
  undecided_fails (PackedTransactionCommit (repack.Iteration line)) is only = (is.0, is.2, only)
  undecided_fails Memory is only = only
  undecided_fails (PackedTransactionCommit (repack.Commit error)) is only = absurd is
  undecided_fails (PackedTransactionCommit repack.Memory) is only = absurd is
  undecided_fails (LockCommit source name) is only = unlisted_fails Rename source (λ k. IsNameAt (updates held) k name) is only
  undecided_fails (DeleteReference name source) is only = absurd is
  undecided_fails (DeleteReflog name source) is only = absurd is
  undecided_fails (FolderInPlace path) is only = absurd is
  undecided_fails (PreprocessingFailed source) is only = absurd is

  -- The log of the edit at which the run ended is at the path that is reported.
  module _ (log : Path) where
    abbrev IsLogAt : About → Type 0
    IsLogAt (Folders at) = honest → log ≡ log_path_at start held at
    IsLogAt (Line at) = honest → log ≡ log_path_at start held at
    IsLogAt other = Unit {0}

    log_fault : (about : ℕ → About) (at : ℕ) (fault source : FileError) → source ≡ fault → IsFaultBetween honest means faults start new fault → EndsByFault honest means faults start new committer packed held (about at) fault →
        IsFaultBetween honest means faults start new source × EndsByFault honest means faults start new committer packed held (about at) source
    log_fault about at fault source same isf stop =
        (subst (IsFaultBetween honest means faults start new) (sym same) isf, subst (EndsByFault honest means faults start new committer packed held (about at)) (sym same) stop)

    faults_at_log : (a : About) (fault : FileError) (error : LogError) → SaysLogFault a log fault error → IsFaultBetween honest means faults start new fault → IsLogAt a → IsOfEdit (length held) a →
        EndsByFault honest means faults start new committer packed held a fault → FailsForLog honest means faults start new committer packed held error
    faults_at_log (Folders at) fault (CreateLeadingDirectories (Some source) folder) (same, is) isf logged within stop =
        let on = log_fault Folders at fault source same isf stop in (on.0, inr (⊎_elim (λ file. inl (at, within, (λ h. is ∙ ap folder_of (logged h)), file)) (λ sync. inr (at, within, (λ h. is ∙ ap folder_of (logged h)), sync)) on.1))
    faults_at_log (Line at) fault (Append source path) (same, is) isf logged within stop =
        let on = log_fault Line at fault source same isf stop in (on.0, (at, within, (λ h. is ∙ logged h), inr on.1))
    faults_at_log (Folders at) fault (CreateLeadingDirectories None folder) is isf logged within stop = absurd is
    faults_at_log (Folders at) fault (Append source path) is isf logged within stop = absurd is
    faults_at_log (Folders at) fault MessageWithNewlines is isf logged within stop = absurd is
    faults_at_log (Folders at) fault MissingCommitter is isf logged within stop = absurd is
    faults_at_log (Folders at) fault SignatureUnwritable is isf logged within stop = absurd is
    faults_at_log (Line at) fault (CreateLeadingDirectories source folder) is isf logged within stop = absurd is
    faults_at_log (Line at) fault MessageWithNewlines is isf logged within stop = absurd is
    faults_at_log (Line at) fault MissingCommitter is isf logged within stop = absurd is
    faults_at_log (Line at) fault SignatureUnwritable is isf logged within stop = absurd is
    faults_at_log (Rename at) fault error is isf logged within stop = absurd is
    faults_at_log (LogRemoval at) fault error is isf logged within stop = absurd is
    faults_at_log Packed fault error is isf logged within stop = absurd is
    faults_at_log (Removal at) fault error is isf logged within stop = absurd is

    faults_at : (a : About) (fault : FileError) (error : Error) → SaysFault (updates held) log a fault error → IsFaultBetween honest means faults start new fault → IsLogAt a → IsOfEdit (length held) a →
        EndsByFault honest means faults start new committer packed held a fault → FailsFor honest means faults start new committer packed held error
    faults_at (Folders at) fault (CreateOrUpdateRefLog error) is isf logged within stop = faults_at_log (Folders at) fault error is isf logged within stop
    faults_at (Line at) fault (CreateOrUpdateRefLog error) is isf logged within stop = faults_at_log (Line at) fault error is isf logged within stop
    faults_at (Rename at) fault (CreateOrUpdateRefLog error) is isf logged within stop = faults_at_log (Rename at) fault error is isf logged within stop
    faults_at (LogRemoval at) fault (CreateOrUpdateRefLog error) is isf logged within stop = faults_at_log (LogRemoval at) fault error is isf logged within stop
    faults_at Packed fault (CreateOrUpdateRefLog error) is isf logged within stop = faults_at_log Packed fault error is isf logged within stop
    faults_at (Removal at) fault (CreateOrUpdateRefLog error) is isf logged within stop = faults_at_log (Removal at) fault error is isf logged within stop
    faults_at (Folders at) fault (PackedTransactionCommit error) is isf logged within stop = absurd is
    faults_at (Folders at) fault (LockCommit source name) is isf logged within stop = absurd is
    faults_at (Folders at) fault (DeleteReference name source) is isf logged within stop = absurd is
    faults_at (Folders at) fault (DeleteReflog name source) is isf logged within stop = absurd is
    faults_at (Folders at) fault (FolderInPlace path) is isf logged within stop = absurd is
    faults_at (Folders at) fault (PreprocessingFailed source) is isf logged within stop = absurd is
    faults_at (Folders at) fault Memory is isf logged within stop = absurd is
    faults_at (Line at) fault (PackedTransactionCommit error) is isf logged within stop = absurd is
    faults_at (Line at) fault (LockCommit source name) is isf logged within stop = absurd is
    faults_at (Line at) fault (DeleteReference name source) is isf logged within stop = absurd is
    faults_at (Line at) fault (DeleteReflog name source) is isf logged within stop = absurd is
    faults_at (Line at) fault (FolderInPlace path) is isf logged within stop = absurd is
    faults_at (Line at) fault (PreprocessingFailed source) is isf logged within stop = absurd is
    faults_at (Line at) fault Memory is isf logged within stop = absurd is
    faults_at (Rename at) fault (PackedTransactionCommit error) is isf logged within stop = absurd is
    faults_at (Rename at) fault (LockCommit source name) is isf logged within stop = subst (λ (f : FileError). FailsAtWrite honest means faults start new committer packed held Rename f (λ k. IsNameAt (updates held) k name)) (sym is.0) (isf, (at, within, is.1, inr stop))
    faults_at (Rename at) fault (DeleteReference name source) is isf logged within stop = absurd is
    faults_at (Rename at) fault (DeleteReflog name source) is isf logged within stop = absurd is
    faults_at (Rename at) fault (FolderInPlace path) is isf logged within stop = absurd is
    faults_at (Rename at) fault (PreprocessingFailed source) is isf logged within stop = absurd is
    faults_at (Rename at) fault Memory is isf logged within stop = absurd is
    faults_at (LogRemoval at) fault (PackedTransactionCommit error) is isf logged within stop = absurd is
    faults_at (LogRemoval at) fault (LockCommit source name) is isf logged within stop = absurd is
    faults_at (LogRemoval at) fault (DeleteReference name source) is isf logged within stop = absurd is
    faults_at (LogRemoval at) fault (DeleteReflog name source) is isf logged within stop = subst (λ (f : FileError). FailsAtStep honest means faults start new committer packed held LogRemoval f (λ k. IsNameAt (updates held) k name)) (sym is.0) (isf, (at, within, is.1, stop))
    faults_at (LogRemoval at) fault (FolderInPlace path) is isf logged within stop = absurd is
    faults_at (LogRemoval at) fault (PreprocessingFailed source) is isf logged within stop = absurd is
    faults_at (LogRemoval at) fault Memory is isf logged within stop = absurd is
    faults_at Packed fault (PackedTransactionCommit error) is isf logged within stop = subst (λ (e : RepackError). FailsFor honest means faults start new committer packed held (PackedTransactionCommit e)) (sym is) (isf, inr stop)
    faults_at Packed fault (LockCommit source name) is isf logged within stop = absurd is
    faults_at Packed fault (DeleteReference name source) is isf logged within stop = absurd is
    faults_at Packed fault (DeleteReflog name source) is isf logged within stop = absurd is
    faults_at Packed fault (FolderInPlace path) is isf logged within stop = absurd is
    faults_at Packed fault (PreprocessingFailed source) is isf logged within stop = absurd is
    faults_at Packed fault Memory is isf logged within stop = absurd is
    faults_at (Removal at) fault (PackedTransactionCommit error) is isf logged within stop = absurd is
    faults_at (Removal at) fault (LockCommit source name) is isf logged within stop = absurd is
    faults_at (Removal at) fault (DeleteReference name source) is isf logged within stop = subst (λ (f : FileError). FailsAtStep honest means faults start new committer packed held Removal f (λ k. IsNameAt (updates held) k name)) (sym is.0) (isf, (at, within, is.1, stop))
    faults_at (Removal at) fault (DeleteReflog name source) is isf logged within stop = absurd is
    faults_at (Removal at) fault (FolderInPlace path) is isf logged within stop = absurd is
    faults_at (Removal at) fault (PreprocessingFailed source) is isf logged within stop = absurd is
    faults_at (Removal at) fault Memory is isf logged within stop = absurd is

  -- The run of the steps ended early.
  module _ (outcomes : honest → outcomes_of ran ≡ log_outcomes (line_rules start committer) (view_of (tree_of means start)) (asked held)) (seen_logs : honest → SeeLogs (tree_of means start) ran) (passes : LinesPass honest means start committer held) (rewrite : Rewrite) (repacked : RepacksFrom honest means faults start packed held rewrite) (filled mid released : Tree)
      (ways : List EmptyDirs) (way_is : honest → AllInWay ran start.dirs filled (folder_lists ways) (planned_entries start.dirs ran packed rewrite))
      (fills : honest → IsPackedEmpty honest means faults start packed → IsFilled packed rewrite (tree_of means start) filled)
      (removes : honest → RemovesLocks (held_locks packed held) mid released) (tidies : honest → FoldersGo start.dirs (all_removed ran) released (tree_of means new)) where
    abbrev Ends : About → Cause → Type 0
    Ends a cause = EndsAtStep honest (commit_entries start.dirs ran packed rewrite ways) filled mid a cause

    abbrev stops : (a : About) (cause : Cause) → Ends a cause → EndsEarlyAt honest means faults start new committer packed held a cause
    stops a cause ended = record {
      ran = ran;
      alike = alike;
      logs = outcomes;
      logged = seen_logs;
      passed = passes;
      rewrite = rewrite;
      repacked = repacked;
      filled = filled;
      fills = fills;
      ways = ways;
      in_way = way_is;
      mid = mid;
      stops = ended;
      released = released;
      removes = removes;
      tidies = tidies;
    }

    same_length : length ran ≡ length held
    same_length = omega (arith, length-map ran but_log, length-map held but_log, ap length alike)

    -- the step of the plan that it is, or before which a folder was to be removed
    module _ (a : About) (cause : Cause) (e : Ends a cause) where
      module _ (W : Entry → List Path → Type 0) (each : Ways W (folder_lists ways) (planned_entries start.dirs ran packed rewrite)) where
        abbrev pub at_cut : IsCutOf W (planned_entries start.dirs ran packed rewrite) e.before (e.step, a)
        at_cut = cut_of W (folder_lists ways) (planned_entries start.dirs ran packed rewrite) each e.before (e.step, a) e.rest e.cut

        pub shape_in : HasShape ran packed a (bare at_cut.step.0)
        shape_in = subst (λ (b : About). HasShape ran packed b (bare at_cut.step.0)) at_cut.about
            (shape_at ran packed at_cut.seen at_cut.step at_cut.later (subst (AllShaped ran packed) at_cut.cut (all_shaped ran packed start.dirs rewrite)))

      abbrev pub planned_step : Step
      planned_step = bare (at_cut Any (any_ways (folder_lists ways) (planned_entries start.dirs ran packed rewrite))).step.0

      pub shape : HasShape ran packed a planned_step
      shape = shape_in Any (any_ways (folder_lists ways) (planned_entries start.dirs ran packed rewrite))

    edit_at : (a : About) (cause : Cause) → Ends a cause → IsOfEdit (length held) a
    edit_at a cause e = subst (λ n. IsOfEdit n a) same_length (names_edit ran packed a (planned_step a cause e) (shape a cause e))

    -- no step asks for the end
    never : (a : About) → Ends a Asked → honest → ⊥
    never a e h =
        let at = e.ended h in
        ⊎_elim
        (λ it. never_asked ran packed a (bare e.step) at.0 mid (subst (λ (x : Step). HasShape ran packed a x) (sym (ap (λ (x : Entry). bare x.0) it.0)) (shape a Asked e)) at.2)
        (λ gone. removal_not_asked (bare e.step) gone.0 (ap bare gone.1) at.0 mid at.2)
        (at_cut a Asked e Any (any_ways (folder_lists ways) (planned_entries start.dirs ran packed rewrite))).what

    unasked : (a : About) → Ends a Asked → Ends a Unexpected
    unasked a e = record { before = e.before; step = e.step; rest = e.rest; cut = e.cut; ended = λ h. absurd (never a e h) }

    -- What was in its way is a step of the plan, and what was there was not emptied.
    module _ (a : About) (e : Ends a Unexpected) (h : honest) where
      abbrev pub met_cut : IsCutOf (Way ran start.dirs filled) (planned_entries start.dirs ran packed rewrite) e.before (e.step, a)
      met_cut = at_cut a Unexpected e (Way ran start.dirs filled) (all_ways ran start.dirs filled (folder_lists ways) (planned_entries start.dirs ran packed rewrite) (way_is h))

      pub met : MeetsAt ran packed a mid
      met =
          let at = e.ended h in
          ⊎_elim
          (λ it. meets ran packed a (bare e.step) at.0 mid
          (subst (λ (x : Step). HasShape ran packed a x) (sym (ap (λ (x : Entry). bare x.0) it.0)) (shape_in a Unexpected e (Way ran start.dirs filled) (all_ways ran start.dirs filled (folder_lists ways) (planned_entries start.dirs ran packed rewrite) (way_is h)))) at.2)
          (λ gone. absurd (removal_not_refused (bare e.step) gone.0 (ap bare gone.1) at.0 mid at.2))
          met_cut.what

      pub written : WritesAt ran packed a (bare e.step)
      written =
          let at = e.ended h in
          ⊎_elim
          (λ it. writes ran packed a (bare e.step) at.0 mid
          (subst (λ (x : Step). HasShape ran packed a x) (sym (ap (λ (x : Entry). bare x.0) it.0)) (shape_in a Unexpected e (Way ran start.dirs filled) (all_ways ran start.dirs filled (folder_lists ways) (planned_entries start.dirs ran packed rewrite) (way_is h)))) at.2)
          (λ gone. absurd (removal_not_refused (bare e.step) gone.0 (ap bare gone.1) at.0 mid at.2))
          met_cut.what

      -- what was at the path of this step, after the removals of the folders there
      pub kept : (path : Path) → IsWrite a → written_at (bare e.step) ≡ Some path → is_folder (mid path) ≡ true → IsNotEmptied honest means faults start new committer packed held a Unexpected (stops a Unexpected e) path
      kept path write writes folder =
          let at = e.ended h in
          ⊎_elim
          (λ it.
          let step_is : written_at (bare met_cut.step.0) ≡ Some path = ap (λ (x : Entry). written_at (bare x.0)) (sym it.0) ∙ writes in
          let way : AreInWay start.dirs filled (is_seen ran met_cut.step.1) path it.1.1 = subst (λ (w : Option Path). AreInWayOf start.dirs filled (is_seen ran met_cut.step.1) w it.1.1) step_is it.1.3 in
          let grown = plan_grows start.dirs ran packed rewrite met_cut.seen met_cut.step met_cut.later met_cut.cut (subst IsWrite (sym met_cut.about) write) in
          let after : IsAfter (bare_steps (cleared it.1.4.0 met_cut.seen ++ removals met_cut.step.1 it.1.1)) filled mid =
          subst (λ (R : Tree). IsAfter (bare_steps (cleared it.1.4.0 met_cut.seen ++ removals met_cut.step.1 it.1.1)) filled R) (sym at.2.1)
          (subst (λ (es : List Entry). IsAfter (bare_steps es) filled at.0) (it.1.2 ∙ ap (λ (l : List Entry). l ++ removals met_cut.step.1 it.1.1) it.1.4.1) at.1) in
          record {
            there = λ unseen folder_there. ⊎_elim
                (λ more. inl more)
                (λ full. inr (record {
                  front = it.1.0;
                  folders = it.1.1;
                  removed = it.1.2 ∙ ap (λ (b : About). it.1.0 ++ removals b it.1.1) met_cut.about;
                  all = full.0;
                  full = full.1;
                  file = λ entries. holds_file start.dirs path filled mid
                      (old_holds path filled mid met_cut.step.1 it.1.1 it.1.4.0 met_cut.seen grown.0 grown.2.0 (bare met_cut.step.0) grown.1 grown.2.1 step_is after folder folder_there way.inside full.0 entries);
                }))
                (not_emptied start.dirs filled at.0 mid e.before it.1.0 met_cut.step.1 it.1.1 path (is_seen ran met_cut.step.1) it.1.2 way at.1 at.2.1
                (ap (is_seen ran) met_cut.about ∙ unseen) folder_there);
            came = λ none. holds_file start.dirs path filled mid
                (new_holds path filled mid met_cut.step.1 it.1.1 it.1.4.0 met_cut.seen grown.0 grown.2.0 (bare met_cut.step.0) grown.1 grown.2.1 step_is after folder none);
          })
          (λ gone. absurd (removal_not_refused (bare e.step) gone.0 (ap bare gone.1) at.0 mid at.2))
          met_cut.what

    -- the path of a log to which a line is added
    log_path : honest → (n : ℕ) → HasLine (log_at ran n) → path_in (log_at ran n) ≡ log_path_at start held n
    log_path h n has = log_path_is (meaning_of start) held ran (logs_are (line_rules start committer) (view_of (tree_of means start)) 0 held ran (outcomes h)) n has

    module _ (place log told : Path) where
      -- The paths that are reported are those of the edit at which it ended, and of `packed-refs`.
      pub record IsTold (done : ℕ) : Type 0 where
        pub here : done < length ran → place ≡ place_at ran done
        pub logged : done < length ran → log ≡ path_in (log_at ran done)
        pub at_packed : packed ≢ None → told ≡ (meaning_of start).packed_path

      abbrev ToldAt : About → Type 0
      ToldAt a = IsTold (done_before (length ran) a)

      log_is : (a : About) (cause : Cause) → Ends a cause → ToldAt a → IsLogAt log a
      log_is (Folders n) cause e tells = λ h. let sh = shape (Folders n) cause e in tells.logged sh.0 ∙ log_path h n sh.1
      log_is (Line n) cause e tells = λ h. let sh = shape (Line n) cause e in tells.logged sh.0 ∙ log_path h n sh.1
      log_is (Rename n) cause e tells = tt
      log_is (LogRemoval n) cause e tells = tt
      log_is Packed cause e tells = tt
      log_is (Removal n) cause e tells = tt

      -- and so where only a sync failed
      log_synced : (a : About) (fault : FileError) → Ends a (Sync fault) → IsTold (done_at (length ran) a (Sync fault)) → IsLogAt log a
      log_synced (Folders n) fault e tells = log_is (Folders n) (Sync fault) e tells
      log_synced (Line n) fault e tells = log_is (Line n) (Sync fault) e tells
      log_synced (Rename n) fault e tells = tt
      log_synced (LogRemoval n) fault e tells = tt
      log_synced Packed fault e tells = tt
      log_synced (Removal n) fault e tells = tt

      -- what was met is at the path that is reported
      met_rename : (n : ℕ) (path : Path) → Ends (Rename n) Unexpected → ToldAt (Rename n) → path ≡ place → honest → MeetsFolder honest means faults start new committer packed held path
      met_rename n path e tells is h =
          let meet = met (Rename n) e h in
          let here : path ≡ place_at ran n = is ∙ tells.here meet.0 in
          inl (
            n,
            omega (arith, meet.0, same_length),
            here ∙ ap (λ (l : List Path). get_or l n []) (places_alike ran held alike),
            ((stops (Rename n) Unexpected e, kept (Rename n) e h path tt (written (Rename n) e h ∙ ap Some (sym here))), ap (λ (p : Path). is_folder (mid p)) here ∙ meet.1),
          )

      met_line : (n : ℕ) (path : Path) → Ends (Line n) Unexpected → ToldAt (Line n) → path ≡ log → honest → MeetsFolder honest means faults start new committer packed held path
      met_line n path e tells is h =
          let meet = met (Line n) e h in
          let here : path ≡ log_path_at start held n = is ∙ log_is (Line n) Unexpected e tells h in
          let own : path_in (log_at ran n) ≡ path = log_path h n meet.1 ∙ sym here in
          inr (inl (
            n,
            edit_at (Line n) Unexpected e,
            here,
            (
              (stops (Line n) Unexpected e, kept (Line n) e h path tt (written (Line n) e h ∙ ap Some own)),
              subst (λ (p : Path). (is_folder (mid p) ≡ true) ⊎ (is_blocked mid p ≡ true)) own meet.2,
            ),
          ))

      met_packed : (path : Path) → Ends Packed Unexpected → ToldAt Packed → path ≡ told → honest → MeetsFolder honest means faults start new committer packed held path
      met_packed path e tells is h =
          let meet = met Packed e h in
          let here : path ≡ (meaning_of start).packed_path = is ∙ tells.at_packed (λ none. differ meet.0 (sym meet.1 ∙ none)) in
          inr (inr (
            here,
            (stops Packed Unexpected e, λ place_is. ap (λ (q : Path). is_folder (mid q)) (here ∙ by meet.0 meet.1 place_is) ∙ meet.2),
          ))
        where
          differ : (p : Path) → Some p ≡ None → ⊥
          differ p x = cc

          inner : {x y : Path} → Some x ≡ Some y → x ≡ y
          inner x = cc

          by : (p : Path) → packed ≡ Some p → IsPackedPlace (meaning_of start) packed → (meaning_of start).packed_path ≡ p
          by p some (inl none) = absurd (differ p (sym some ∙ none))
          by p some (inr same) = inner (sym same ∙ some)

      met_removal : (a : About) (path : Path) → Ends a Unexpected → (MeetsAt ran packed a mid → ⊥) → honest → MeetsFolder honest means faults start new committer packed held path
      met_removal a path e never_met h = absurd (never_met (met a e h))

      -- a file in the path of a log
      in_way_of_log : (n : ℕ) (error : LogError) → Ends (Folders n) Unexpected → ToldAt (Folders n) → SaysFile log error → FailsForLog honest means faults start new committer packed held error
      in_way_of_log n (CreateLeadingDirectories None folder) e tells says =
          inr (n, edit_at (Folders n) Unexpected e, (λ h. says ∙ ap folder_of (log_is (Folders n) Unexpected e tells h)), stops (Folders n) Unexpected e)
      in_way_of_log n (CreateLeadingDirectories (Some fault) folder) e tells says = absurd says
      in_way_of_log n (Append source path) e tells says = absurd says
      in_way_of_log n MessageWithNewlines e tells says = absurd says
      in_way_of_log n MissingCommitter e tells says = absurd says
      in_way_of_log n SignatureUnwritable e tells says = absurd says

      in_way : (a : About) (error : Error) → Ends a Unexpected → ToldAt a → SaysInWay place log told a error → FailsFor honest means faults start new committer packed held error
      in_way (Folders n) (CreateOrUpdateRefLog error) e tells says = in_way_of_log n error e tells says
      in_way (Line n) (FolderInPlace path) e tells says = met_line n path.items e tells says
      in_way (Line n) (PreprocessingFailed source) e tells says = absurd says
      in_way (Rename n) (FolderInPlace path) e tells says = met_rename n path.items e tells says
      in_way (Rename n) (PreprocessingFailed source) e tells says = absurd says
      in_way (LogRemoval n) (FolderInPlace path) e tells says = met_removal (LogRemoval n) path.items e (λ none. none)
      in_way (LogRemoval n) (PreprocessingFailed source) e tells says = absurd says
      in_way Packed (FolderInPlace path) e tells says = met_packed path.items e tells says
      in_way Packed (PreprocessingFailed source) e tells says = absurd says
      in_way (Removal n) (FolderInPlace path) e tells says = met_removal (Removal n) path.items e (λ none. none)
      in_way (Removal n) (PreprocessingFailed source) e tells says = absurd says
      in_way (Folders n) (PackedTransactionCommit error) e tells says = absurd says
      in_way (Folders n) (LockCommit source name) e tells says = absurd says
      in_way (Folders n) (DeleteReference name source) e tells says = absurd says
      in_way (Folders n) (DeleteReflog name source) e tells says = absurd says
      in_way (Folders n) (FolderInPlace path) e tells says = absurd says
      in_way (Folders n) (PreprocessingFailed source) e tells says = absurd says
      in_way (Folders n) Memory e tells says = absurd says
      in_way (Line n) (CreateOrUpdateRefLog error) e tells says = absurd says
      in_way (Line n) (PackedTransactionCommit error) e tells says = absurd says
      in_way (Line n) (LockCommit source name) e tells says = absurd says
      in_way (Line n) (DeleteReference name source) e tells says = absurd says
      in_way (Line n) (DeleteReflog name source) e tells says = absurd says
      in_way (Line n) Memory e tells says = absurd says
      in_way (Rename n) (CreateOrUpdateRefLog error) e tells says = absurd says
      in_way (Rename n) (PackedTransactionCommit error) e tells says = absurd says
      in_way (Rename n) (LockCommit source name) e tells says = absurd says
      in_way (Rename n) (DeleteReference name source) e tells says = absurd says
      in_way (Rename n) (DeleteReflog name source) e tells says = absurd says
      in_way (Rename n) Memory e tells says = absurd says
      in_way (LogRemoval n) (CreateOrUpdateRefLog error) e tells says = absurd says
      in_way (LogRemoval n) (PackedTransactionCommit error) e tells says = absurd says
      in_way (LogRemoval n) (LockCommit source name) e tells says = absurd says
      in_way (LogRemoval n) (DeleteReference name source) e tells says = absurd says
      in_way (LogRemoval n) (DeleteReflog name source) e tells says = absurd says
      in_way (LogRemoval n) Memory e tells says = absurd says
      in_way Packed (CreateOrUpdateRefLog error) e tells says = absurd says
      in_way Packed (PackedTransactionCommit error) e tells says = absurd says
      in_way Packed (LockCommit source name) e tells says = absurd says
      in_way Packed (DeleteReference name source) e tells says = absurd says
      in_way Packed (DeleteReflog name source) e tells says = absurd says
      in_way Packed Memory e tells says = absurd says
      in_way (Removal n) (CreateOrUpdateRefLog error) e tells says = absurd says
      in_way (Removal n) (PackedTransactionCommit error) e tells says = absurd says
      in_way (Removal n) (LockCommit source name) e tells says = absurd says
      in_way (Removal n) (DeleteReference name source) e tells says = absurd says
      in_way (Removal n) (DeleteReflog name source) e tells says = absurd says
      in_way (Removal n) Memory e tells says = absurd says

      -- Why a commit failed, by where its steps ended.
      pub run_fails : (u : Unfinished) (error : Error) → EndsIn honest (commit_entries start.dirs ran packed rewrite ways) filled mid u → IsTold (done_of (length ran) u) → SaysWhy (updates held) place log told u error →
          IsRaised (faults (files_of start)) (faults (files_of new)) u → (u ≡ no_memory → OnlyItsLocks honest means faults start new packed held) →
          FailsFor honest means faults start new committer packed held error
      run_fails no_memory Memory ended tells says raised only = only refl
      run_fails no_memory (CreateOrUpdateRefLog error) ended tells says raised only = absurd says
      run_fails no_memory (PackedTransactionCommit error) ended tells says raised only = absurd says
      run_fails no_memory (LockCommit source name) ended tells says raised only = absurd says
      run_fails no_memory (DeleteReference name source) ended tells says raised only = absurd says
      run_fails no_memory (DeleteReflog name source) ended tells says raised only = absurd says
      run_fails no_memory (FolderInPlace path) ended tells says raised only = absurd says
      run_fails no_memory (PreprocessingFailed source) ended tells says raised only = absurd says
      run_fails (AtStep a (Fault fault)) error ended tells says raised only =
          faults_at log a fault error says raised (log_is a (Fault fault) ended (subst IsTold (done_by_fault (length ran) a fault) tells)) (edit_at a (Fault fault) ended) (inl (stops a (Fault fault) ended))
      run_fails (AtStep a (Sync fault)) error ended tells says raised only =
          faults_at log a fault error says raised (log_synced a fault ended tells) (edit_at a (Sync fault) ended) (inr (stops a (Sync fault) ended))
      run_fails (AtStep a Unexpected) error ended tells says raised only = in_way a error ended (subst IsTold (done_unexpected (length ran) a) tells) says
      run_fails (AtStep a Asked) error ended tells says raised only = in_way a error (unasked a ended) (subst IsTold (done_asked (length ran) a) tells) says
