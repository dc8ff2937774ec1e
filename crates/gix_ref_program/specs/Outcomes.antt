-- What the program prints, and its status.
use Rattle.std.specs.Prelude.{ℕ, List, ◌++◌, codes, Vec}
use Rattle.std.specs.List.{flat_map}
use Rattle.std.specs.declared.alloc.Global.{Global}
use Rattle.hex.specs.Hex.{encode_lower}
use Rattle.gix_ref_hash.specs.Ids.{id_bytes}
use Rattle.gix_ref_name.specs.Names.{full_bytes}
use Rattle.gix_ref_target.specs.Targets.{TargetValue, target_value}
use Rattle.gix_ref_target.specs.Targets.TargetValue.{object_id, symbolic_name}
use Rattle.gix_ref_name.specs.declared.name.error.Error as names
use Rattle.gix_ref_name.specs.declared.name.error.Error.TheVariants as name
use Rattle.gix_ref_transaction.specs.declared.prepare.error.Error as prepares
use Rattle.gix_ref_transaction.specs.declared.prepare.error.Error.TheVariants as prepare
use Rattle.gix_ref_reflog.specs.declared.create_or_update.Error as lines
use Rattle.gix_ref_reflog.specs.declared.create_or_update.Error.TheVariants as line
use Rattle.gix_ref_commit.specs.declared.error.Error as commits
use Rattle.gix_ref_commit.specs.declared.error.Error.TheVariants as commit
use Rattle.gix_ref_lookup.specs.declared.find.error.Error as finds
use Rattle.gix_ref_lookup.specs.declared.find.error.Error.TheVariants as find
use Rattle.gix_ref_packed_text.specs.declared.raw.Reference.{Reference}
use Rattle.gix_ref_packed.specs.declared.packed.buffer.open.Error as opens
use Rattle.gix_ref_packed.specs.declared.packed.buffer.open.Error.TheVariants as opening
use Rattle.gix_ref_listing.specs.declared.prefix.Error as lists
use Rattle.gix_ref_listing.specs.declared.prefix.Error.TheVariants as list
use Rattle.gix_ref_lookup.specs.declared.reflog.error.Error as logs
use Rattle.gix_ref_lookup.specs.declared.reflog.error.Error.TheVariants as log
use Rattle.gix_ref_program.specs.declared.update.UpdateError.TheVariants as error
use Rattle.gix_ref_program.specs.declared.refusal.Refusal.{Refusal}
use Rattle.gix_ref_program.specs.declared.refusal.Refusal.TheVariants as refusals
use Rattle.gix_ref_program.specs.declared.outcome.Outcome.{Outcome}
use Rattle.gix_ref_program.specs.declared.outcome.Outcome.TheVariants as outcomes

-- The variants of errors.

abbrev pub name_word : names.Error → List ℕ
name_word name.Empty = codes "Empty"
name_word (name.InvalidByte byte) = codes "InvalidByte"
name_word name.Asterisk = codes "Asterisk"
name_word name.StartsWithSlash = codes "StartsWithSlash"
name_word name.EndsWithSlash = codes "EndsWithSlash"
name_word name.RepeatedSlash = codes "RepeatedSlash"
name_word name.StartsWithDot = codes "StartsWithDot"
name_word name.EndsWithDot = codes "EndsWithDot"
name_word name.RepeatedDot = codes "RepeatedDot"
name_word name.LockFileSuffix = codes "LockFileSuffix"
name_word name.ReflogPortion = codes "ReflogPortion"
name_word name.SingleAt = codes "SingleAt"
name_word name.SomeLowercase = codes "SomeLowercase"
name_word name.Memory = codes "Memory"

abbrev pub prepare_word : prepares.Error → List ℕ
prepare_word prepare.UnsafeName = codes "UnsafeName"
prepare_word prepare.DeviceName = codes "DeviceName"
prepare_word prepare.DeleteMustNotExist = codes "DeleteMustNotExist"
prepare_word prepare.TargetNotFull = codes "TargetNotFull"
prepare_word prepare.OtherHashKind = codes "OtherHashKind"
prepare_word (prepare.PreprocessingFailed source) = codes "PreprocessingFailed"
prepare_word prepare.PackedTransactionAcquire = codes "PackedTransactionAcquire"
prepare_word (prepare.PackedTransactionPrepare error) = codes "PackedTransactionPrepare"
prepare_word (prepare.Packed error) = codes "Packed"
prepare_word (prepare.PackedFind error) = codes "PackedFind"
prepare_word (prepare.PathCollision name) = codes "PathCollision"
prepare_word (prepare.LockAcquire name) = codes "LockAcquire"
prepare_word (prepare.DeleteReferenceMustExist name) = codes "DeleteReferenceMustExist"
prepare_word (prepare.MustExist name expected) = codes "MustExist"
prepare_word (prepare.MustNotExist name actual new) = codes "MustNotExist"
prepare_word (prepare.ReferenceOutOfDate name expected actual) = codes "ReferenceOutOfDate"
prepare_word (prepare.ReferenceDecode error) = codes "ReferenceDecode"
prepare_word (prepare.Io error) = codes "Io"
prepare_word prepare.Memory = codes "Memory"

abbrev pub line_word : lines.Error → List ℕ
line_word (line.CreateLeadingDirectories source folder) = codes "CreateLeadingDirectories"
line_word (line.Append source path) = codes "Append"
line_word line.MessageWithNewlines = codes "MessageWithNewlines"
line_word line.MissingCommitter = codes "MissingCommitter"
line_word line.SignatureUnwritable = codes "SignatureUnwritable"

abbrev pub commit_word : commits.Error → List ℕ
commit_word (commit.CreateOrUpdateRefLog error) = line_word error
commit_word (commit.PackedTransactionCommit error) = codes "PackedTransactionCommit"
commit_word (commit.LockCommit source name) = codes "LockCommit"
commit_word (commit.DeleteReference name source) = codes "DeleteReference"
commit_word (commit.DeleteReflog name source) = codes "DeleteReflog"
commit_word (commit.FolderInPlace path) = codes "FolderInPlace"
commit_word (commit.PreprocessingFailed source) = codes "PreprocessingFailed"
commit_word commit.Memory = codes "Memory"

abbrev pub find_word : finds.Error → List ℕ
find_word (find.RefnameValidation error) = codes "RefnameValidation"
find_word (find.ReadFileContents source path) = codes "ReadFileContents"
find_word (find.ReferenceCreation source path) = codes "ReferenceCreation"
find_word (find.PackedRef error) = codes "PackedRef"
find_word (find.PackedOpen error) = codes "PackedOpen"
find_word find.Memory = codes "Memory"

abbrev pub log_word : logs.Error → List ℕ
log_word (log.RefnameValidation error) = codes "RefnameValidation"
log_word (log.Io error) = codes "Io"
log_word log.DeviceName = codes "DeviceName"
log_word log.EmptyBuffer = codes "EmptyBuffer"
log_word log.Memory = codes "Memory"

abbrev pub open_word : opens.Error → List ℕ
open_word (opening.Iter line) = codes "Iter"
open_word opening.HeaderParsing = codes "HeaderParsing"
open_word (opening.Io error) = codes "Io"
open_word opening.Memory = codes "Memory"

abbrev pub list_word : lists.Error → List ℕ
list_word list.EmptyPrefix = codes "EmptyPrefix"
list_word list.PrefixNotClean = codes "PrefixNotClean"
list_word (list.PackedOpen error) = open_word error
list_word list.Memory = codes "Memory"

abbrev pub refusal_word : Refusal → List ℕ
refusal_word refusals.PathNotClean = codes "PathNotClean"
refusal_word (refusals.Name error) = name_word error
refusal_word (refusals.Update (error.Prepare error)) = prepare_word error
refusal_word (refusals.Update (error.Commit error)) = commit_word error
refusal_word (refusals.Find error) = find_word error
refusal_word (refusals.List error) = list_word error
refusal_word (refusals.Log error) = log_word error
refusal_word refusals.ReadFileContents = codes "ReadFileContents"
refusal_word refusals.WrongLine = codes "WrongLine"
refusal_word refusals.NotFound = codes "NotFound"
refusal_word refusals.Memory = codes "Memory"

-- What is printed.

-- a line for each lock that could not be removed
abbrev pub lock_lines : List (Vec ℕ Global) → List ℕ
lock_lines locks =
    flat_map (λ (lock : Vec ℕ Global). codes "lock left: " ++ (lock.items ++ codes "\n")) locks

-- the digits of an id, or `ref: ` and a name
abbrev pub shown_target : TargetValue → List ℕ
shown_target (object_id id) = encode_lower (id_bytes id)
shown_target (symbolic_name name) = codes "ref: " ++ name

-- a target and a name
abbrev pub reference_line : Reference → List ℕ
reference_line reference = shown_target (target_value reference.target)
    ++ (codes " " ++ (full_bytes reference.name ++ codes "\n"))

abbrev pub printed : Outcome → List ℕ
printed outcomes.WrongWords = codes "wrong words\n"
printed (outcomes.Updated locks) = lock_lines locks.items
printed (outcomes.Shown reference) = reference_line reference
printed (outcomes.Refused refusal locks) = codes "refused: "
    ++ (refusal_word refusal ++ (codes "\n" ++ lock_lines locks.items))

-- the status: 0 for what is done, 1 for a refusal, 2 for wrong words
abbrev pub status_of : Outcome → ℕ
status_of outcomes.WrongWords = 2
status_of (outcomes.Updated locks) = 0
status_of (outcomes.Shown reference) = 0
status_of (outcomes.Refused refusal locks) = 1
