-- What a commit reports that ended early.
use Rattle.std.specs.Prelude.{◌≡◌, ◌≢◌, ◌<◌, ℕ, List, [], Some, None, get_or, length}
use Rattle.gix_ref_name.specs.Names.{full_bytes}
use Rattle.gix_ref_name.specs.declared.name.FullName.{FullName}
use Rattle.gix_ref_files.specs.Disk.{folder_of}
use Rattle.gix_ref_files.specs.Tree.{Path}
use Rattle.gix_ref_files.specs.Files.{FaultCounts, IsMet}
use Rattle.gix_ref_files.specs.declared.files.FileError.{FileError}
use Rattle.gix_ref_files.specs.declared.files.FileError.TheVariants.{Memory as no_want}
use Rattle.gix_ref_files.specs.declared.steps.Cause.TheVariants.{File, Sync, Unexpected, Asked}
use Rattle.gix_ref_edits.specs.declared.transaction.RefEdit.{RefEdit}
use Rattle.gix_ref_reflog.specs.declared.create_or_update.Error.{Error as LogError}
use Rattle.gix_ref_reflog.specs.declared.create_or_update.Error.TheVariants.{CreateLeadingDirectories, Append}
use Rattle.gix_ref_reflog.specs.declared.error.Error.{Error as LinesError}
use Rattle.gix_ref_reflog.specs.declared.error.Error.TheVariants as lines
use Rattle.gix_ref_packed_transaction.specs.declared.error.Error.{Error as RepackError}
use Rattle.gix_ref_packed_transaction.specs.declared.error.Error.TheVariants as repack
use Rattle.gix_ref_transaction.specs.Causes.{names_of}
use Rattle.gix_ref_transaction.specs.CommitRenames.{log_at, path_in}
use Rattle.gix_ref_transaction.specs.PrepareSteps.{updates}
use Rattle.gix_ref_transaction.specs.declared.edit.Edit.{Edit}
use Rattle.gix_ref_commit.specs.LogEffects.{line_in}
use Rattle.gix_ref_commit.specs.Entries.{IsOfEdit}
use Rattle.gix_ref_commit.specs.declared.error.Error.{Error}
use Rattle.gix_ref_commit.specs.declared.error.Error.TheVariants.{CreateOrUpdateRefLog, PackedTransactionCommit, LockCommit, DeleteReference, DeleteReflog, FolderInPlace, Memory}
use Rattle.gix_ref_commit.specs.declared.plan.About.{About}
use Rattle.gix_ref_commit.specs.declared.plan.About.TheVariants.{Folders, Line, Rename, LogRemoval, Packed, Removal}
use Rattle.gix_ref_commit.specs.declared.run.Unfinished.{Unfinished}
use Rattle.gix_ref_commit.specs.declared.run.Unfinished.TheVariants.{Memory as no_memory, Step}

-- the name of the edit at this place of the list
abbrev pub IsNameAt : List RefEdit → ℕ → FullName → Type 0
IsNameAt edits at name = full_bytes name ≡ get_or (names_of edits) at []

-- a step that ended a run names one of so many edits
abbrev pub AllOfEdits : ℕ → Unfinished → Type 0
AllOfEdits n no_memory = Unit {0}
AllOfEdits n (Step about cause) = IsOfEdit n about

-- the error of a line that is not added to this log: a call of files failed where its folders were made, or where it was added
abbrev pub SaysLogFault : About → (log : Path) → FileError → LogError → Type 0
SaysLogFault (Folders at) log fault (CreateLeadingDirectories (Some source) folder) =
    (source ≡ fault) × (folder.items ≡ folder_of log)
SaysLogFault (Line at) log fault (Append source path) = (source ≡ fault) × (path.items ≡ log)
SaysLogFault about log fault error = ⊥

-- the error of a step at which a call of files failed with this fault
abbrev pub SaysFault : List RefEdit → (log : Path) → About → FileError → Error → Type 0
SaysFault edits log about fault (CreateOrUpdateRefLog error) = SaysLogFault about log fault error
SaysFault edits log (Rename at) fault (LockCommit source name) = (source ≡ fault)
    × IsNameAt edits at name
SaysFault edits log (LogRemoval at) fault (DeleteReflog name source) = (source ≡ fault)
    × IsNameAt edits at name
SaysFault edits log Packed fault (PackedTransactionCommit error) = error ≡ repack.Io fault
SaysFault edits log (Removal at) fault (DeleteReference name source) = (source ≡ fault)
    × IsNameAt edits at name
SaysFault edits log about fault error = ⊥

-- the path that is reported where a step found something in its way
abbrev pub path_reported : (place log packed : Path) → About → Path
path_reported place log packed Packed = packed
path_reported place log packed (Folders at) = log
path_reported place log packed (Line at) = log
path_reported place log packed (Rename at) = place
path_reported place log packed (LogRemoval at) = place
path_reported place log packed (Removal at) = place

-- the error of a step that found a file in the path of a log
abbrev pub SaysFile : (log : Path) → LogError → Type 0
SaysFile log (CreateLeadingDirectories None folder) = folder.items ≡ folder_of log
SaysFile log error = ⊥

-- the error of a step that found something in its way: a file in the path of a log, or a folder
abbrev pub SaysInWay : (place log packed : Path) → About → Error → Type 0
SaysInWay place log packed (Folders at) (CreateOrUpdateRefLog error) = SaysFile log error
SaysInWay place log packed (Folders at) error = ⊥
SaysInWay place log packed about (FolderInPlace path) = path.items
    ≡ path_reported place log packed about
SaysInWay place log packed about error = ⊥

-- the error of a commit whose plan was not run to its end
abbrev pub SaysWhy : List RefEdit → (place log packed : Path) → Unfinished → Error → Type 0
SaysWhy edits place log packed no_memory Memory = Unit {0}
SaysWhy edits place log packed no_memory error = ⊥
SaysWhy edits place log packed (Step about (File fault)) error =
    SaysFault edits log about fault error
SaysWhy edits place log packed (Step about (Sync fault)) error =
    SaysFault edits log about fault error
SaysWhy edits place log packed (Step about Unexpected) error =
    SaysInWay place log packed about error
SaysWhy edits place log packed (Step about Asked) error = SaysInWay place log packed about error

-- the error of a commit that could not decide its log lines
abbrev pub of_lines : LinesError → Error
of_lines (lines.CreateOrUpdateRefLog error) = CreateOrUpdateRefLog error
of_lines lines.Memory = Memory

-- the error of a commit that could not decide what becomes of `packed-refs`
abbrev pub of_repack : RepackError → Error
of_repack repack.Memory = Memory
of_repack (repack.Commit error) = PackedTransactionCommit (repack.Commit error)
of_repack (repack.Iteration line) = PackedTransactionCommit (repack.Iteration line)
of_repack (repack.Io error) = PackedTransactionCommit (repack.Io error)

-- a folder in the way of the step about this can be one that could not be listed: it is a step that writes a file
abbrev pub IsWriteOf : List Edit → About → Type 0
IsWriteOf edits (Line at) = (at < length edits) × (line_in (log_at edits at) ≢ None)
IsWriteOf edits (Rename at) = at < length edits
IsWriteOf edits Packed = Unit {0}
IsWriteOf edits other = ⊥

-- and so for a search that ended at a step
abbrev pub AllWrite : List Edit → Unfinished → Type 0
AllWrite edits no_memory = Unit {0}
AllWrite edits (Step about cause) = IsWriteOf edits about

-- The error of a write, in whose way a folder could not be listed.
abbrev pub SaysUnlisted : List Edit → About → FileError → Error → Type 0
SaysUnlisted edits (Line at) fault (CreateOrUpdateRefLog (Append source path)) = (source ≡ fault)
    × (path.items ≡ path_in (log_at edits at))
SaysUnlisted edits (Rename at) fault (LockCommit source name) = (source ≡ fault)
    × IsNameAt (updates edits) at name
SaysUnlisted edits Packed fault (PackedTransactionCommit error) = error ≡ repack.Io fault
SaysUnlisted edits about fault error = ⊥

-- and of a search that ended; or memory was refused
abbrev pub SaysWhyUnlisted : List Edit → Unfinished → Error → Type 0
SaysWhyUnlisted edits unfinished Memory = Unit {0}
SaysWhyUnlisted edits no_memory error = ⊥
SaysWhyUnlisted edits (Step about (File fault)) error = SaysUnlisted edits about fault error
SaysWhyUnlisted edits (Step about cause) error = ⊥

-- this fault of files was counted, and is no want of memory
abbrev IsFileFault : (before now : FaultCounts) → FileError → Type 0
IsFileFault before now fault = IsMet fault before now × (fault ≢ no_want)

-- Why no folder was listed: a call of files failed, and the error is that of a write of these edits; or memory was refused.
abbrev pub IsOfListing : List Edit → (before now : FaultCounts) → Error → Type 0
IsOfListing edits before now Memory = Unit {0}
IsOfListing edits before now (CreateOrUpdateRefLog (Append source path)) =
    IsFileFault before now source × ((at : ℕ) × (at < length edits)
    × (line_in (log_at edits at) ≢ None) × (path.items ≡ path_in (log_at edits at)))
IsOfListing edits before now (LockCommit source name) = IsFileFault before now source
    × ((at : ℕ) × (at < length edits) × IsNameAt (updates edits) at name)
IsOfListing edits before now (PackedTransactionCommit (repack.Io source)) =
    IsFileFault before now source
IsOfListing edits before now other = ⊥
