-- Why the record of an edit cannot be read, from the searches among open records.
use Rattle.gix_ref_files.specs.declared.files.FileError.{FileError}
use Rattle.gix_ref_files.specs.Files.{FaultCounts}
use Rattle.std.proofs.Common.{◌≡◌, ◌<◌, ℕ, List, None, length, get_or, sym, ◌∙◌, ap, arith}
use Rattle.std.proofs.lemmas.List.{get_or-map, length-map}
use Rattle.gix_ref_hash.specs.declared.hash.Kind.{Kind}
use Rattle.gix_ref_files.specs.declared.files.ReadAt.{Ghosts}
use Rattle.gix_ref_packed.specs.declared.packed.buffer.open.Error.{Error as OpenError}
use Rattle.gix_ref_packed.specs.declared.packed.find.Error.TheVariants as finding
use Rattle.gix_ref_lookup.specs.Lookups.{IsNotPacked, IsSearched, OfKey}
use Rattle.gix_ref_lookup.specs.declared.find.records.Records.{Records}
use Rattle.gix_ref_lookup.specs.declared.find.error.Error.{Error as LookupError}
use Rattle.gix_ref_lookup.specs.declared.find.error.Error.TheVariants.{RefnameValidation, ReadFileContents, ReferenceCreation, PackedRef, PackedOpen, Memory}
use Rattle.gix_ref_theory.specs.Readings.{Store}
use Rattle.gix_ref_edits.specs.RefEdits.{name_of}
use Rattle.gix_ref_edits.specs.declared.transaction.RefEdit.{RefEdit}
use Rattle.gix_ref_transaction.specs.Causes.{IsCounted, OfFind, OfSomeKey}
use Rattle.gix_ref_transaction.specs.PackedCauses.{as_cause}
use Rattle.gix_ref_transaction.specs.PrepareSteps.{all_asked, updates}
use Rattle.gix_ref_transaction.specs.declared.edit.Edit.{Edit}
use Rattle.gix_ref_transaction.specs.declared.prepare.error.Error.{Error}
use Rattle.gix_ref_transaction.specs.declared.prepare.error.Error.TheVariants.{UnsafeName, DeviceName, DeleteMustNotExist, PackedTransactionAcquire, DeleteReferenceMustExist, TargetNotFull, OtherHashKind, PreprocessingFailed, Packed, PackedFind, PackedTransactionPrepare, PathCollision, LockAcquire, MustExist, MustNotExist, ReferenceOutOfDate, ReferenceDecode, Io, Memory as NoMemory}
use Rattle.gix_ref_transaction.specs.internal.StuckRecords.{IsFindError, IsStuckKey}
use Rattle.gix_ref_transaction.proofs.PackedLemmas.{updates_alike}

-- why no record was found, as it is reported
pub found_cause : (honest : Type 0) (fault : FileError → Type 0) (unreadable : Type 0) (refused : OpenError → Type 0) (error : LookupError) → honest → IsNotPacked honest fault unreadable refused error → OfFind unreadable (as_cause error)
found_cause honest fault unreadable refused (PackedOpen error) h told = tt
found_cause honest fault unreadable refused (PackedRef finding.Parse) h told = told h
found_cause honest fault unreadable refused (PackedRef (finding.RefnameValidation error)) h told = absurd told
found_cause honest fault unreadable refused (PackedRef finding.Memory) h told = absurd told
found_cause honest fault unreadable refused Memory h told = tt
found_cause honest fault unreadable refused (RefnameValidation error) h told = tt
found_cause honest fault unreadable refused (ReadFileContents source path) h told = tt
found_cause honest fault unreadable refused (ReferenceCreation source path) h told = tt

-- an error that is counted by files alone is another
pub no_find : (P : Type 0) (before now : FaultCounts) (error : Error) → IsCounted before now error → OfFind P error
no_find P before now (PackedFind error) counted = absurd counted
no_find P before now (Packed error) counted = tt
no_find P before now (Io error) counted = tt
no_find P before now NoMemory counted = tt
no_find P before now UnsafeName counted = tt
no_find P before now DeviceName counted = tt
no_find P before now DeleteMustNotExist counted = tt
no_find P before now TargetNotFull counted = tt
no_find P before now OtherHashKind counted = tt
no_find P before now (PreprocessingFailed source) counted = tt
no_find P before now PackedTransactionAcquire counted = tt
no_find P before now (PackedTransactionPrepare error) counted = tt
no_find P before now (PathCollision name) counted = tt
no_find P before now (LockAcquire name) counted = tt
no_find P before now (DeleteReferenceMustExist name) counted = tt
no_find P before now (MustExist name expected) counted = tt
no_find P before now (MustNotExist name actual new) counted = tt
no_find P before now (ReferenceOutOfDate name expected actual) counted = tt
no_find P before now (ReferenceDecode error) counted = tt

pub find_wider : (P Q : Type 0) (error : Error) → (P → Q) → OfFind P error → OfFind Q error
find_wider P Q (PackedFind finding.Parse) wider holds = wider holds
find_wider P Q (PackedFind finding.Memory) wider holds = holds
find_wider P Q (PackedFind (finding.RefnameValidation error)) wider holds = holds
find_wider P Q (Packed error) wider holds = tt
find_wider P Q (Io error) wider holds = tt
find_wider P Q NoMemory wider holds = tt
find_wider P Q UnsafeName wider holds = tt
find_wider P Q DeviceName wider holds = tt
find_wider P Q DeleteMustNotExist wider holds = tt
find_wider P Q TargetNotFull wider holds = tt
find_wider P Q OtherHashKind wider holds = tt
find_wider P Q (PreprocessingFailed source) wider holds = tt
find_wider P Q PackedTransactionAcquire wider holds = tt
find_wider P Q (PackedTransactionPrepare error) wider holds = tt
find_wider P Q (PathCollision name) wider holds = tt
find_wider P Q (LockAcquire name) wider holds = tt
find_wider P Q (DeleteReferenceMustExist name) wider holds = tt
find_wider P Q (MustExist name expected) wider holds = tt
find_wider P Q (MustNotExist name actual new) wider holds = tt
find_wider P Q (ReferenceOutOfDate name expected actual) wider holds = tt
find_wider P Q (ReferenceDecode error) wider holds = tt

-- and of an edit whose record is asked for
pub find_asked : (A P : Type 0) (error : Error) → (IsFindError error → A) → OfFind P error → OfFind (A × P) error
find_asked A P (PackedFind finding.Parse) asked holds = (asked tt, holds)
find_asked A P (PackedFind finding.Memory) asked holds = holds
find_asked A P (PackedFind (finding.RefnameValidation error)) asked holds = holds
find_asked A P (Packed error) asked holds = tt
find_asked A P (Io error) asked holds = tt
find_asked A P NoMemory asked holds = tt
find_asked A P UnsafeName asked holds = tt
find_asked A P DeviceName asked holds = tt
find_asked A P DeleteMustNotExist asked holds = tt
find_asked A P TargetNotFull asked holds = tt
find_asked A P OtherHashKind asked holds = tt
find_asked A P (PreprocessingFailed source) asked holds = tt
find_asked A P PackedTransactionAcquire asked holds = tt
find_asked A P (PackedTransactionPrepare error) asked holds = tt
find_asked A P (PathCollision name) asked holds = tt
find_asked A P (LockAcquire name) asked holds = tt
find_asked A P (DeleteReferenceMustExist name) asked holds = tt
find_asked A P (MustExist name expected) asked holds = tt
find_asked A P (MustNotExist name actual new) asked holds = tt
find_asked A P (ReferenceOutOfDate name expected actual) asked holds = tt
find_asked A P (ReferenceDecode error) asked holds = tt

-- among records that search the same texts
pub stuck_back : {R : Type 0} {G : Ghosts R} (kind : Kind) (old new : Records R G) → ((of_kind : Kind) (text : List ℕ) → IsSearched kind None new of_kind text → IsSearched kind None old of_kind text) →
    (key : List ℕ) → IsStuckKey kind new key → IsStuckKey kind old key
stuck_back kind old new back key stuck = record {
  of_kind = stuck.of_kind;
  text = stuck.text;
  searched = back stuck.of_kind stuck.text stuck.searched;
  has = stuck.has;
}

-- a key of one edit of a list, whose record is asked for
pub some_key : (Asked : RefEdit → Type 0) (Bad : List ℕ → Type 0) (s : Store) (old now : List Edit) → all_asked now ≡ all_asked old → (i : ℕ) (e : Edit) → i < length now → e ≡ get_or now i e → Asked e.update × OfKey s (name_of e.update) Bad → OfSomeKey Asked Bad s (updates old)
some_key Asked Bad s old now same i e lt is key = (i, e.update, omega (arith, lt, length-map now (λ (a : Edit). a.update), ap length all_same), at, key)
  where
    all_same : updates now ≡ updates old
    all_same = updates_alike old now same

    at : get_or (updates old) i e.update ≡ e.update
    at = ap (λ l. get_or l i e.update) (sym all_same) ∙ (get_or-map (λ (a : Edit). a.update) now i e e.update lt ∙ ap (λ (a : Edit). a.update) (sym is))

pub keys_wider : (Asked Still : RefEdit → Type 0) (Bad Worse : List ℕ → Type 0) (s : Store) (edits : List RefEdit) → ((edit : RefEdit) → Asked edit → Still edit) → ((key : List ℕ) → Bad key → Worse key) →
    OfSomeKey Asked Bad s edits → OfSomeKey Still Worse s edits
keys_wider Asked Still Bad Worse s edits still wider some = (some.0, some.1, some.2, some.3, (still some.1 some.4.0, (some.4.1.0, some.4.1.1, wider some.4.1.0 some.4.1.2)))
