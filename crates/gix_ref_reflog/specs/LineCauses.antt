-- Why a line cannot be decided: the first cause, edit by edit.
use Rattle.std.specs.Prelude.{◌≡◌, ◌⊎◌, ℕ, List, [], ◌∷◌, Bool, true, false, Option, Some, None, IsSome, IfSome, is_some}
use Rattle.std.specs.Option.{IsSomeAnd}
use Rattle.std.specs.List.{list_any}
use Rattle.gix_ref_hash.specs.Bytes.{NoByte}
use Rattle.gix_ref_edits.specs.RefEdits.{message_of}
use Rattle.gix_ref_files.specs.Disk.{folder_of}
use Rattle.gix_ref_files.specs.Files.{FaultCounts, IsMet}
use Rattle.gix_ref_files.specs.Tree.{Path, fronts}
use Rattle.gix_ref_files.specs.declared.files.FileError.TheVariants.{Memory as no_memory}
use Rattle.gix_ref_log.specs.LogLines.{CanWriteLine}
use Rattle.gix_ref_log.specs.Signatures.{Who, CanWrite, trimmed_who}
use Rattle.gix_ref_theory.specs.Views.{View}
use Rattle.gix_ref_reflog.specs.DueLines.{LogRules, AskedEdit, asked_log, written_ids, due_ids, with_log}
use Rattle.gix_ref_reflog.specs.declared.create_or_update.Error.{Error}
use Rattle.gix_ref_reflog.specs.declared.create_or_update.Error.TheVariants.{CreateLeadingDirectories, Append, MessageWithNewlines, MissingCommitter, SignatureUnwritable}
use Rattle.gix_ref_reflog.specs.declared.error.Error.{Error as Refusal}
use Rattle.gix_ref_reflog.specs.declared.error.Error.TheVariants.{CreateOrUpdateRefLog, Memory}

-- a file is where a folder of this path would be
abbrev pub has_file_in_path : View → Path → Bool
has_file_in_path files path = list_any (λ front. is_some (files front)) (fronts path)

-- a line can be made: there is a committer, whose signature and message can be written
abbrev pub CanMake : Option Who → (message : List ℕ) → Type 0
CanMake None message = ⊥
CanMake (Some who) message = CanWriteLine (trimmed_who who) message

-- why a line cannot be made: no committer, a message with LF, or a signature that cannot be written, in this order
abbrev pub CannotMake : Option Who → (message : List ℕ) → Error → Type 0
CannotMake None message MissingCommitter = Unit {0}
CannotMake (Some who) message MessageWithNewlines = NoByte 10 message → ⊥
CannotMake (Some who) message SignatureUnwritable = NoByte 10 message
    × (CanWrite (trimmed_who who) → ⊥)
CannotMake committer message error = ⊥

-- why a due line has no log: last of all, a file in the path of the log, whose folder is reported
abbrev pub CannotAdd : Option Who → (message : List ℕ) → Path → (blocked : Bool) → Error → Type 0
CannotAdd committer message path blocked (CreateLeadingDirectories None folder) =
    CanMake committer message × (blocked ≡ true) × (folder.items ≡ folder_of path)
CannotAdd committer message path blocked (CreateLeadingDirectories (Some fault) folder) = ⊥
CannotAdd committer message path blocked error = CannotMake committer message error

-- A due line of an edit fails. So does the search for a log that a line may be added to, by a fault of files.
abbrev pub Fails : LogRules → View → AskedEdit → Error → Type 0
Fails r files a (CreateLeadingDirectories (Some fault) folder) = IsSome (written_ids r a)
    × (folder.items ≡ folder_of (asked_log r a))
Fails r files a error = IsSomeAnd (due_ids r files a) (λ ids. CannotAdd r.committer
    (message_of a.update.change) (asked_log r a) (has_file_in_path files (asked_log r a)) error)

-- an edit without a due line passes, and so does one whose line can be made and has no file in its path
abbrev pub HasNoCause : LogRules → View → AskedEdit → Type 0
HasNoCause r files a =
    IfSome (due_ids r files a) (λ ids. CanMake r.committer (message_of a.update.change)
    × (has_file_in_path files (asked_log r a) ≡ false))

-- all of these pass, each among the files as the lines before it leave them
abbrev pub AllHaveNoCause : LogRules → View → List AskedEdit → Type 0
AllHaveNoCause r files [] = Unit {0}
AllHaveNoCause r files (a ∷ rest) = HasNoCause r files a
    × AllHaveNoCause r (with_log r files a) rest

-- the first that fails does so for this cause
abbrev pub FirstFails : LogRules → View → List AskedEdit → Error → Type 0
FirstFails r files [] error = ⊥
FirstFails r files (a ∷ rest) error = Fails r files a error
    ⊎ (HasNoCause r files a × FirstFails r (with_log r files a) rest error)

-- a refusal at an edit, and of a list of edits: it reports the first cause, or that there was no memory
abbrev pub IsRefusalAt : LogRules → View → AskedEdit → Refusal → Type 0
IsRefusalAt r files a (CreateOrUpdateRefLog error) = Fails r files a error
IsRefusalAt r files a Memory = Unit {0}

abbrev pub IsRefusal : LogRules → View → List AskedEdit → Refusal → Type 0
IsRefusal r files edits (CreateOrUpdateRefLog error) = FirstFails r files edits error
IsRefusal r files edits Memory = Unit {0}

-- a fault of files that is reported was counted, and is never a want of memory; no append is reported
abbrev pub IsCountedError : (before now : FaultCounts) → Error → Type 0
IsCountedError before now (CreateLeadingDirectories (Some fault) folder) = IsMet fault before now
    × (fault ≡ no_memory → ⊥)
IsCountedError before now (Append source path) = ⊥
IsCountedError before now error = Unit {0}

abbrev pub IsCountedCause : (before now : FaultCounts) → Refusal → Type 0
IsCountedCause before now (CreateOrUpdateRefLog error) = IsCountedError before now error
IsCountedCause before now Memory = Unit {0}
