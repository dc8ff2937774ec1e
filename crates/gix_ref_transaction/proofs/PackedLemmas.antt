-- Faults of `packed-refs` as `prepare` reports them, and the ids of records.
use Rattle.std.proofs.Common.{map, take, length, get_or, [], ◌∷◌, ◌++◌, ◌+◌, ◌<◌, ◌≡◌, ◌⊎◌, inl, inr, ⊎_elim, arith, ℕ, List, Bool, Option, Some, None, Result, Ok, Err, IfOk, IfErr, refl, subst, sym, ap, ◌∙◌}
use Rattle.std.proofs.Math.ListN.{set}
use Rattle.std.proofs.lemmas.Simd.{map-map}
use Rattle.std.proofs.lemmas.List.{map-append, take_more_set, take_more, get_or-map, length-map}
use Rattle.std.proofs.Math.Seq.{take-append_seam}
use Rattle.gix_ref_theory.specs.Edits.{Mode}
use Rattle.gix_ref_transaction.specs.Parents.{parents_in}
use Rattle.gix_ref_transaction.specs.PrepareSteps.{Given, AreSettled, HoldTexts, all_asked, all_given, given, effects_of, effects_on, files_at, ids_in, old_targets, packed_ids, place_paths, seen_files, targets_of, updates}
use Rattle.gix_ref_transaction.specs.Causes.{NoCause, IsCounted, IsCountedWith, IsIoOrMemory, IsPackedRefusal, id_of_record, packed_id}
use Rattle.gix_ref_transaction.specs.declared.edit.Edit.{Edit}
use Rattle.gix_ref_hash.specs.declared.hash.Kind.{Kind}
use Rattle.gix_ref_hash.specs.declared.hash.ObjectId.{ObjectId}
use Rattle.gix_ref_target.specs.PackedRecords.{Record, record_named, id_read}
use Rattle.gix_ref_files.proofs.Meeting.{met_wider, no_fewer_starts}
use Rattle.gix_ref_files.specs.declared.files.FileError.{FileError}
use Rattle.gix_ref_files.specs.Files.{IsMet, FaultCounts, NoFewer}
use Rattle.gix_ref_files.specs.Tree.{Content, Path, Tree}
use Rattle.gix_ref_packed.proofs.RecordsOfText.{records_computed}
use Rattle.gix_ref_packed.specs.Buffers.{IsRefusedFile}
use Rattle.gix_ref_packed.specs.declared.packed.buffer.open.Error.{Error as OpenError}
use Rattle.gix_ref_packed.specs.declared.packed.buffer.open.Error.TheVariants.{Iter, HeaderParsing, Io as unread, Memory as open_memory}
use Rattle.gix_ref_target.specs.Layout.{Layout}
use Rattle.gix_ref_theory.specs.ConcreteStore.{store_of}
use Rattle.gix_ref_lookup.specs.StoreLayout.{git_options}
use Rattle.gix_ref_theory.specs.Readings.{Store, reading_by, reading_of_record, reading_of_id, records_of_file}
use Rattle.gix_ref_theory.specs.Readings.Reading.{Absent}
use Rattle.gix_ref_lookup.specs.Lookups.{IsFaultOrMemory, IsNotPacked, ArePackedRecords}
use Rattle.gix_ref_lookup.specs.declared.find.error.Error.{Error as LookupError}
use Rattle.gix_ref_lookup.specs.declared.find.error.Error.TheVariants.{RefnameValidation, ReadFileContents, ReferenceCreation, PackedRef, PackedOpen, Memory}
use Rattle.gix_ref_transaction.specs.PackedCauses.{as_cause, ids_among}
use Rattle.gix_ref_theory.specs.OnRealTrees.{view_of}
use Rattle.gix_ref_edits.specs.RefEdits.{name_of}
use Rattle.gix_ref_edits.specs.declared.transaction.RefEdit.{RefEdit}
use Rattle.gix_ref_transaction.specs.declared.prepare.error.Error.{Error}
use Rattle.gix_ref_transaction.specs.declared.prepare.error.Error.TheVariants.{UnsafeName, DeviceName, DeleteMustNotExist, PackedTransactionAcquire, DeleteReferenceMustExist, TargetNotFull, OtherHashKind, PreprocessingFailed, Packed, PackedFind, PackedTransactionPrepare, PathCollision, LockAcquire, MustExist, MustNotExist, ReferenceOutOfDate, ReferenceDecode, Io, Memory as NoMemory}

-- why no record is found, as it is reported
pub counted_cause : (honest : Type 0) (fault : FileError → Type 0) (unreadable : Type 0) (read : FileError → Type 0) (refused : OpenError → Type 0) (before now : FaultCounts) (error : LookupError) → ((e : FileError) → fault e → IsMet e before now ⊎ read e) →
    IsNotPacked honest fault unreadable refused error → IsCountedWith honest read before now (as_cause error)
counted_cause honest fault unreadable read refused before now (PackedOpen (unread error)) came told = λ h. let why = told h in (came error why.1, why.0)
counted_cause honest fault unreadable read refused before now (PackedOpen HeaderParsing) came told = tt
counted_cause honest fault unreadable read refused before now (PackedOpen (Iter line)) came told = tt
counted_cause honest fault unreadable read refused before now (PackedOpen open_memory) came told = absurd told
counted_cause honest fault unreadable read refused before now (PackedRef error) came told = tt
counted_cause honest fault unreadable read refused before now Memory came told = tt
counted_cause honest fault unreadable read refused before now (RefnameValidation error) came told = tt
counted_cause honest fault unreadable read refused before now (ReadFileContents source path) came told = tt
counted_cause honest fault unreadable read refused before now (ReferenceCreation source path) came told = tt

-- where honesty follows from another, so does what is counted
pub counted_by : (honest other : Type 0) (read : FileError → Type 0) (before now : FaultCounts) (error : Error) → (other → honest) → IsCountedWith honest read before now error → IsCountedWith other read before now error
counted_by honest other read before now (Packed (unread error)) follows told = λ o. told (follows o)
counted_by honest other read before now (Packed HeaderParsing) follows told = tt
counted_by honest other read before now (Packed (Iter line)) follows told = tt
counted_by honest other read before now (Packed open_memory) follows told = tt
counted_by honest other read before now (PackedFind error) follows told = tt
counted_by honest other read before now (Io error) follows told = told
counted_by honest other read before now UnsafeName follows told = told
counted_by honest other read before now DeviceName follows told = told
counted_by honest other read before now DeleteMustNotExist follows told = told
counted_by honest other read before now PackedTransactionAcquire follows told = told
counted_by honest other read before now TargetNotFull follows told = told
counted_by honest other read before now OtherHashKind follows told = told
counted_by honest other read before now (PreprocessingFailed source) follows told = told
counted_by honest other read before now (PathCollision name) follows told = told
counted_by honest other read before now (LockAcquire name) follows told = told
counted_by honest other read before now (DeleteReferenceMustExist name) follows told = told
counted_by honest other read before now (MustExist name expected) follows told = told
counted_by honest other read before now (MustNotExist name actual new) follows told = told
counted_by honest other read before now (ReferenceOutOfDate name expected actual) follows told = told
counted_by honest other read before now (PackedTransactionPrepare source) follows told = told
counted_by honest other read before now (ReferenceDecode source) follows told = told
counted_by honest other read before now NoMemory follows told = told

-- a search refuses no file
pub searched_refusal : (honest : Type 0) (fault : FileError → Type 0) (unreadable : Type 0) (kind : Kind) (packed : Option Content) (error : LookupError) → honest →
    IsNotPacked honest fault unreadable (λ e. ⊥) error → IsPackedRefusal kind packed (as_cause error)
searched_refusal honest fault unreadable kind packed (PackedOpen (unread error)) h told = (told h).0
searched_refusal honest fault unreadable kind packed (PackedOpen HeaderParsing) h told = absurd (told h)
searched_refusal honest fault unreadable kind packed (PackedOpen (Iter line)) h told = absurd (told h)
searched_refusal honest fault unreadable kind packed (PackedOpen open_memory) h told = absurd told
searched_refusal honest fault unreadable kind packed (PackedRef error) h told = tt
searched_refusal honest fault unreadable kind packed Memory h told = tt
searched_refusal honest fault unreadable kind packed (RefnameValidation error) h told = tt
searched_refusal honest fault unreadable kind packed (ReadFileContents source path) h told = tt
searched_refusal honest fault unreadable kind packed (ReferenceCreation source path) h told = tt

-- an opening refuses the file
pub opened_refusal : (honest : Type 0) (fault : FileError → Type 0) (kind : Kind) (packed : Option Content) (error : LookupError) → honest → IsNotPacked honest fault ⊥ (IsRefusedFile kind packed) error → IsPackedRefusal kind packed (as_cause error)
opened_refusal honest fault kind packed (PackedOpen (unread error)) h told = (told h).0
opened_refusal honest fault kind packed (PackedOpen HeaderParsing) h told = told h
opened_refusal honest fault kind packed (PackedOpen (Iter line)) h told = told h
opened_refusal honest fault kind packed (PackedOpen open_memory) h told = absurd told
opened_refusal honest fault kind packed (PackedRef error) h told = tt
opened_refusal honest fault kind packed Memory h told = tt
opened_refusal honest fault kind packed (RefnameValidation error) h told = tt
opened_refusal honest fault kind packed (ReadFileContents source path) h told = tt
opened_refusal honest fault kind packed (ReferenceCreation source path) h told = tt

-- and a well-formed one only for a fault or want of memory
pub sound_cause : (error : LookupError) → IsFaultOrMemory error → IsIoOrMemory (as_cause error)
sound_cause (PackedOpen (unread error)) is = tt
sound_cause (PackedOpen HeaderParsing) is = absurd is
sound_cause (PackedOpen (Iter line)) is = absurd is
sound_cause (PackedOpen open_memory) is = absurd is
sound_cause (PackedRef error) is = absurd is
sound_cause Memory is = tt
sound_cause (RefnameValidation error) is = absurd is
sound_cause (ReadFileContents source path) is = absurd is
sound_cause (ReferenceCreation source path) is = absurd is

-- a name that reads nothing by records has no id
pub no_id : (s : Store) (key : Option (List ℕ)) (rs : List Record) → reading_by s key None rs ≡ Absent → packed_id key rs ≡ None
no_id s None rs absent = refl
no_id s (Some key) rs absent = by (record_named key rs) absent
  where
    unread_is : (id : Option ObjectId) → reading_of_id id ≡ Absent → id ≡ None
    unread_is None absent' = refl
    unread_is (Some id) absent' = cc

    by : (r : Option Record) → reading_of_record r ≡ Absent → id_of_record r ≡ None
    by None absent' = refl
    by (Some r) absent' = unread_is (id_read r.target) absent'

-- the records of a well-formed `packed-refs` are those that the store reads
pub records_are : (f : Layout) (kind : Kind) (prohibits : Bool) (packed : Option (List ℕ)) (rs : List Record) → ArePackedRecords kind packed rs → records_of_file (store_of f (git_options kind prohibits)) packed ≡ rs
records_are f kind prohibits None rs are = sym are
records_are f kind prohibits (Some text) rs are = records_computed kind text are.0 rs are.1.whole

-- carried through a result
pub if_err : {X E : Type 0} {P Q : E → Type 0} (r : Result X E) → ((e : E) → P e → Q e) → IfErr r P → IfErr r Q
if_err (Ok x) wider holds = tt
if_err (Err e) wider holds = wider e holds

-- and so two facts together
pub both_err : {X E : Type 0} {P Q R : E → Type 0} (r : Result X E) → ((e : E) → P e → Q e → R e) → IfErr r P → IfErr r Q → IfErr r R
both_err (Ok x) wider first second = tt
both_err (Err e) wider first second = wider e first second

-- the ids of edits among the records of a well-formed `packed-refs` are those that `prepare` asks for
pub asked_ids : (f : Layout) (kind : Kind) (prohibits : Bool) (T U : Tree) (edits : List RefEdit) (rs : List Record) (ids : List (Option ObjectId)) →
    let s = store_of f (git_options kind prohibits) in ArePackedRecords kind (view_of T s.packed_path) rs → ids ≡ ids_among s rs edits → U ≡ T → ids ≡ packed_ids s U edits
asked_ids f kind prohibits T U edits rs ids are found same =
    let s = store_of f (git_options kind prohibits) in
    found
    ∙ (ap (λ records. ids_among s records edits) (sym (records_are f kind prohibits (view_of T s.packed_path) rs are))
    ∙ ap (λ (R : Tree). packed_ids s R edits) (sym same))

-- what is counted of files alone is none of `packed-refs`
pub not_packed : (kind : Kind) (packed : Option Content) (before now : FaultCounts) (error : Error) → IsCounted before now error → IsPackedRefusal kind packed error × ((honest : Type 0) (read : FileError → Type 0) → IsCountedWith honest read before now error)
not_packed kind packed before now (Packed error) told = absurd told
not_packed kind packed before now (PackedFind error) told = absurd told
not_packed kind packed before now UnsafeName told = (tt, λ honest read. told)
not_packed kind packed before now DeviceName told = (tt, λ honest read. told)
not_packed kind packed before now DeleteMustNotExist told = (tt, λ honest read. told)
not_packed kind packed before now PackedTransactionAcquire told = (tt, λ honest read. told)
not_packed kind packed before now TargetNotFull told = (tt, λ honest read. told)
not_packed kind packed before now OtherHashKind told = (tt, λ honest read. told)
not_packed kind packed before now (PreprocessingFailed source) told = (tt, λ honest read. told)
not_packed kind packed before now (PathCollision name) told = (tt, λ honest read. told)
not_packed kind packed before now (LockAcquire name) told = (tt, λ honest read. told)
not_packed kind packed before now (DeleteReferenceMustExist name) told = (tt, λ honest read. told)
not_packed kind packed before now (MustExist name expected) told = (tt, λ honest read. told)
not_packed kind packed before now (MustNotExist name actual new) told = (tt, λ honest read. told)
not_packed kind packed before now (ReferenceOutOfDate name expected actual) told = (tt, λ honest read. told)
not_packed kind packed before now (PackedTransactionPrepare source) told = (tt, λ honest read. told)
not_packed kind packed before now (ReferenceDecode source) told = (tt, λ honest read. told)
not_packed kind packed before now NoMemory told = (tt, λ honest read. told)
not_packed kind packed before now (Io error) told = (tt, λ honest read. told)

-- a rise of a count is one from an earlier moment too
rise_before : (error : FileError) (a b d : FaultCounts) → NoFewer a b → IsMet error b d → IsMet error a d
rise_before error a b d le met = met_wider {error = error} le (no_fewer_starts d) met

pub counted_later : (honest : Type 0) (read : FileError → Type 0) (a b d : FaultCounts) (error : Error) → NoFewer a b → IsCounted b d error → IsCountedWith honest read a d error
counted_later honest read a b d (Packed error) le told = absurd told
counted_later honest read a b d (PackedFind error) le told = absurd told
counted_later honest read a b d (Io error) le told = (rise_before error a b d le told.0, told.1)
counted_later honest read a b d UnsafeName le told = tt
counted_later honest read a b d DeviceName le told = tt
counted_later honest read a b d DeleteMustNotExist le told = tt
counted_later honest read a b d PackedTransactionAcquire le told = tt
counted_later honest read a b d TargetNotFull le told = tt
counted_later honest read a b d OtherHashKind le told = tt
counted_later honest read a b d (PreprocessingFailed source) le told = tt
counted_later honest read a b d (PathCollision name) le told = tt
counted_later honest read a b d (LockAcquire name) le told = tt
counted_later honest read a b d (DeleteReferenceMustExist name) le told = tt
counted_later honest read a b d (MustExist name expected) le told = tt
counted_later honest read a b d (MustNotExist name actual new) le told = tt
counted_later honest read a b d (ReferenceOutOfDate name expected actual) le told = tt
counted_later honest read a b d (PackedTransactionPrepare source) le told = tt
counted_later honest read a b d (ReferenceDecode source) le told = tt
counted_later honest read a b d NoMemory le told = tt

-- a count with reads of `packed-refs`, from an earlier moment
pub counted_on : (honest : Type 0) (read : FileError → Type 0) (a b d : FaultCounts) (error : Error) → NoFewer a b → IsCountedWith honest read b d error → IsCountedWith honest read a d error
counted_on honest read a b d (Packed (unread error)) le told = λ h. (⊎_elim (λ risen. inl (rise_before error a b d le risen)) (λ failed. inr failed) (told h).0, (told h).1)
counted_on honest read a b d (Packed HeaderParsing) le told = tt
counted_on honest read a b d (Packed (Iter line)) le told = tt
counted_on honest read a b d (Packed open_memory) le told = tt
counted_on honest read a b d (PackedFind error) le told = tt
counted_on honest read a b d (Io error) le told = (rise_before error a b d le told.0, told.1)
counted_on honest read a b d UnsafeName le told = tt
counted_on honest read a b d DeviceName le told = tt
counted_on honest read a b d DeleteMustNotExist le told = tt
counted_on honest read a b d PackedTransactionAcquire le told = tt
counted_on honest read a b d TargetNotFull le told = tt
counted_on honest read a b d OtherHashKind le told = tt
counted_on honest read a b d (PreprocessingFailed source) le told = tt
counted_on honest read a b d (PathCollision name) le told = tt
counted_on honest read a b d (LockAcquire name) le told = tt
counted_on honest read a b d (DeleteReferenceMustExist name) le told = tt
counted_on honest read a b d (MustExist name expected) le told = tt
counted_on honest read a b d (MustNotExist name actual new) le told = tt
counted_on honest read a b d (ReferenceOutOfDate name expected actual) le told = tt
counted_on honest read a b d (PackedTransactionPrepare source) le told = tt
counted_on honest read a b d (ReferenceDecode source) le told = tt
counted_on honest read a b d NoMemory le told = tt

-- what is the same of edits that ask for the same
pub updates_alike : (old now : List Edit) → all_asked now ≡ all_asked old → updates now ≡ updates old
updates_alike old now same =
    sym (map-map (λ (p : RefEdit × Path × Option ℕ). p.0) (λ (a : Edit). (a.update, a.lock, a.parent)) now)
    ∙ (ap (map (λ (p : RefEdit × Path × Option ℕ). p.0)) same
    ∙ map-map (λ (p : RefEdit × Path × Option ℕ). p.0) (λ (a : Edit). (a.update, a.lock, a.parent)) old)

pub places_alike : (old now : List Edit) → all_asked now ≡ all_asked old → place_paths now ≡ place_paths old
places_alike old now same =
    sym (map-map (λ (p : RefEdit × Path × Option ℕ). p.1) (λ (a : Edit). (a.update, a.lock, a.parent)) now)
    ∙ (ap (map (λ (p : RefEdit × Path × Option ℕ). p.1)) same
    ∙ map-map (λ (p : RefEdit × Path × Option ℕ). p.1) (λ (a : Edit). (a.update, a.lock, a.parent)) old)

pub parents_alike : (old now : List Edit) → all_asked now ≡ all_asked old → parents_in now ≡ parents_in old
parents_alike old now same =
    sym (map-map (λ (p : RefEdit × Path × Option ℕ). p.2) (λ (a : Edit). (a.update, a.lock, a.parent)) now)
    ∙ (ap (map (λ (p : RefEdit × Path × Option ℕ). p.2)) same
    ∙ map-map (λ (p : RefEdit × Path × Option ℕ). p.2) (λ (a : Edit). (a.update, a.lock, a.parent)) old)

pub asked_alike : (old now : List Edit) → all_given now ≡ all_given old → all_asked now ≡ all_asked old
asked_alike old now same =
    sym (map-map {C = RefEdit × Path × Option ℕ} (λ (p : Given). (p.0, p.1, p.3)) given now)
    ∙ (ap (map {B = RefEdit × Path × Option ℕ} (λ (p : Given). (p.0, p.1, p.3))) same
    ∙ map-map {C = RefEdit × Path × Option ℕ} (λ (p : Given). (p.0, p.1, p.3)) given old)

-- a list that was written over in whole, by one that asks for the same
pub asked_over : (len : ℕ) (old now rest : List Edit) → all_asked now ≡ all_asked old → length old ≡ len → take len (now ++ rest) ≡ now
asked_over len old now rest same is =
    ap (λ n. take n (now ++ rest))
    (omega (arith, is, length-map {B = RefEdit × Path × Option ℕ} now (λ (a : Edit). (a.update, a.lock, a.parent)), length-map {B = RefEdit × Path × Option ℕ} old (λ (a : Edit). (a.update, a.lock, a.parent)), ap length same))
    ∙ take-append_seam now rest

pub if_ok : {X E : Type 0} {P Q : X → Type 0} (r : Result X E) → ((x : X) → P x → Q x) → IfOk r P → IfOk r Q
if_ok (Ok x) wider holds = wider x holds
if_ok (Err e) wider holds = tt

-- edits are settled by what is asked for
pub settled_alike : {mode : Mode} (s : Store) (kind : Kind) (before T : Tree) (a b new : List Edit) → updates a ≡ updates b → AreSettled s mode kind before T a new → AreSettled s mode kind before T b new
settled_alike {mode = mode} s kind before T a b new same settled = record {
  was = subst (λ (u : List RefEdit). targets_of new ≡ old_targets s before u) same settled.was;
  files = subst (λ (u : List RefEdit). seen_files new ≡ files_at s before u) same settled.files;
  what = subst (λ (u : List RefEdit). effects_of new ≡ effects_on s mode (view_of before) u) same settled.what;
  ids = subst (λ (u : List RefEdit). ids_in new ≡ packed_ids s before u) same settled.ids;
  no_cause = subst (NoCause s kind before []) same settled.no_cause;
  texts = subst (HoldTexts s mode before T) same settled.texts;
}

-- one more edit of a list has its id
pub ids_more : (s : Store) (rs : List Record) (old now : List Edit) → all_asked now ≡ all_asked old → (i : ℕ) (e : Edit) → i < length now → e ≡ get_or now i e → (new : Edit) →
    ids_in (take i now) ≡ ids_among s rs (take i (updates old)) → new.packed ≡ packed_id (s.key (name_of e.update)) rs →
    ids_in (take (i + 1) (set now i new)) ≡ ids_among s rs (take (i + 1) (updates old))
ids_more s rs old now same i e lt is new before here =
    ap ids_in (take_more_set now i new lt)
    ∙ (map-append (λ (a : Edit). a.packed) (take i now) (new ∷ [])
    ∙ (ap (λ l. l ++ new.packed ∷ []) before
    ∙ (ap (λ id. ids_among s rs (take i (updates old)) ++ id ∷ []) here
    ∙ (sym (map-append (λ (u : RefEdit). packed_id (s.key (name_of u)) rs) (take i (updates old)) (e.update ∷ []))
    ∙ ap (ids_among s rs) (sym more)))))
  where
    all_same : updates now ≡ updates old
    all_same = updates_alike old now same

    lt_all : i < length (updates old)
    lt_all = omega (arith, lt, length-map now (λ (a : Edit). a.update), ap length all_same)

    at : get_or (updates old) i e.update ≡ e.update
    at = ap (λ l. get_or l i e.update) (sym all_same) ∙ (get_or-map (λ (a : Edit). a.update) now i e e.update lt ∙ ap (λ (a : Edit). a.update) (sym is))

    more : take (i + 1) (updates old) ≡ take i (updates old) ++ e.update ∷ []
    more = take_more (updates old) i e.update lt_all ∙ ap (λ u. take i (updates old) ++ u ∷ []) at
