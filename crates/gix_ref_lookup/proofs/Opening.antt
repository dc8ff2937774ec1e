-- What an opened `packed-refs` holds.
use Rattle.std.proofs.Common.{◌≡◌, ◌≢◌, inl, inr, ℕ, List, Option, Some, None, [], ◌∷◌, length, Result, Ok, Err, IfOk, IfErr, IfSome, OnOk, MatchResult, MatchOption, true, refl, sym, ◌∙◌, ap, subst, arith}
use Rattle.gix_ref_hash.specs.declared.hash.Kind.{Kind}
use Rattle.gix_ref_target.specs.PackedRecords.{Record}
use Rattle.gix_ref_files.specs.Tree.{Content, is_file, bytes_of}
use Rattle.gix_ref_files.specs.Tree.Content.{File, Folder}
use Rattle.gix_ref_files.specs.declared.files.ReadAt.{Ghosts}
use Rattle.gix_ref_theory.specs.OnRealTrees.{file_of}
use Rattle.gix_ref_packed.specs.declared.packed.file.PackedFile.{PackedFile}
use Rattle.gix_ref_packed.specs.Buffers.{HoldsRecords, IsRefusedFile, IsRefusedBytes}
use Rattle.gix_ref_packed.specs.OpenFiles.{OpenedFile, CountsRefusal, HasReadFault, FailsFindByRead, packed_file_text}
use Rattle.gix_ref_packed.specs.FileSearches.{FailsInFile}
use Rattle.gix_ref_packed_text.specs.Positions.{CannotRead}
use Rattle.gix_ref_packed.specs.declared.packed.sorted_file.FindError.{FindError}
use Rattle.gix_ref_packed.specs.declared.packed.sorted_file.FindError.TheVariants.{Read, Parse}
use Rattle.gix_ref_packed.specs.declared.packed.sorted_file.ReadError.TheVariants as reading
use Rattle.gix_ref_packed.proofs.WellFormedLemmas.{opened_file_holds}
use Rattle.gix_ref_lookup.specs.Lookups.{ArePackedRecords, IsSearched, OfSearched, IsHitOfKey, IsRecordIn, IsFaultOf, IsNotPacked, IsFaultOrMemory, IsSound, of_opening, as_found}
use Rattle.gix_ref_lookup.specs.declared.find.records.Records.{Records as Asked}
use Rattle.gix_ref_packed_text.specs.declared.raw.Reference.{Reference}
use Rattle.gix_ref_packed_text.specs.OpenedText.{Fronts, PackedText}
use Rattle.gix_ref_packed_text.specs.declared.packed.decode.options.Header.{Header}
use Rattle.gix_ref_packed_text.specs.RecordGrammar.{Records, Takes, NoRecord}
use Rattle.gix_ref_packed_text.proofs.OneReading.{same_record}
use Rattle.gix_ref_packed_text.proofs.ReadBack.{same_heading}
use Rattle.gix_ref_packed_text.proofs.RecordPlaces.{shorter_record}
use Rattle.gix_ref_lookup.specs.declared.find.error.Error.{Error}
use Rattle.gix_ref_lookup.specs.declared.find.error.Error.TheVariants.{RefnameValidation, ReadFileContents, ReferenceCreation, PackedRef, PackedOpen, Memory}
use Rattle.gix_ref_packed.specs.declared.packed.find.Error.TheVariants as parse
use Rattle.gix_ref_packed_text.specs.declared.packed.window.Found.{Found}
use Rattle.gix_ref_packed.specs.declared.packed.buffer.open.Error.{Error as OpenError}
use Rattle.gix_ref_packed.specs.declared.packed.buffer.open.Error.TheVariants.{Iter, HeaderParsing, Io, Memory as open_memory}
use Rattle.gix_ref_files.specs.Files.{FaultCounts, IsMet}
use Rattle.gix_ref_files.specs.declared.files.FileError.{FileError}
use Rattle.gix_ref_files.proofs.Meeting.{met_now}

-- an opened file of these records holds them
pub holds_packed : {R : Type 0} {G : Ghosts R} (kind : Kind) (content : Option Content) (records : List Record) (p : PackedFile R G) →
    ArePackedRecords kind (file_of content) records → is_file content ≡ true → OpenedFile kind (bytes_of content) p →
    HoldsRecords kind records (packed_file_text p)
holds_packed kind (Some (File bytes)) records p are a_file opened = opened_file_holds p kind bytes are.0 records are.1 opened
holds_packed kind (Some Folder) records p are a_file opened = absurd (cc)
holds_packed kind None records p are a_file opened = absurd (cc)

-- what opening was refused for is what the lookup says
pub not_opened : {R : Type 0} (honest : Type 0) (faults : R → FaultCounts) (kind : Kind) (content : Option Content) (before now : FaultCounts) (error : OpenError) →
    (honest → IsRefusedFile kind content error) → CountsRefusal faults before now error →
    IsNotPacked honest (IsFaultOf faults before now) ⊥ (IsRefusedFile kind content) (of_opening error)
not_opened honest faults kind content before now open_memory refused counts = tt
not_opened honest faults kind content before now HeaderParsing refused counts = refused
not_opened honest faults kind content before now (Iter line) refused counts = refused
not_opened honest faults kind content before now (Io fault) refused (inl more) = λ h. (refused h, inl (subst (IsMet fault before) (sym more) (met_now fault before (refused h))))
not_opened honest faults kind content before now (Io fault) refused (inr failed) = λ h. (refused h, inr failed.1)

-- what a search failed by is what the lookup says
pub not_searched : {R : Type 0} (honest : Type 0) (faults : R → FaultCounts) (unreadable : Type 0) (kind : Kind) (text name : List ℕ) (found : Result (Option Found) FindError) →
    (honest → IfErr found (FailsInFile kind text name)) → IfErr found (FailsFindByRead faults) → (CannotRead kind text name → unreadable) →
    IfErr (as_found found) (IsNotPacked honest (λ error. Unit {0} × HasReadFault faults error) unreadable (λ error. ⊥))
not_searched honest faults unreadable kind text name (Ok found) refused failed bad = tt
not_searched honest faults unreadable kind text name (Err (Read (reading.Io fault))) refused failed bad = λ h. (refused h, (tt, failed))
not_searched honest faults unreadable kind text name (Err (Read reading.Changed)) refused failed bad = λ h. absurd (refused h)
not_searched honest faults unreadable kind text name (Err (Read reading.Memory)) refused failed bad = tt
not_searched honest faults unreadable kind text name (Err Parse) refused failed bad = λ h. bad (refused h)

-- where less is known, more may be why
pub not_packed_wider : (honest honest' : Type 0) (fault fault' : FileError → Type 0) (unreadable unreadable' : Type 0) (refused refused' : OpenError → Type 0) (error : Error) →
    (honest' → honest) → (honest' → (e : FileError) → fault e → fault' e) → (honest' → unreadable → unreadable') → (honest' → (e : OpenError) → refused e → refused' e) →
    IsNotPacked honest fault unreadable refused error → IsNotPacked honest' fault' unreadable' refused' error
not_packed_wider honest honest' fault fault' unreadable unreadable' refused refused' (PackedOpen (Io e)) h f u r why = λ k. let w = why (h k) in (w.0, f k e w.1)
not_packed_wider honest honest' fault fault' unreadable unreadable' refused refused' (PackedOpen HeaderParsing) h f u r why = λ k. r k HeaderParsing (why (h k))
not_packed_wider honest honest' fault fault' unreadable unreadable' refused refused' (PackedOpen (Iter line)) h f u r why = λ k. r k (Iter line) (why (h k))
not_packed_wider honest honest' fault fault' unreadable unreadable' refused refused' (PackedOpen open_memory) h f u r why = absurd why
not_packed_wider honest honest' fault fault' unreadable unreadable' refused refused' (PackedRef parse.Parse) h f u r why = λ k. u k (why (h k))
not_packed_wider honest honest' fault fault' unreadable unreadable' refused refused' (PackedRef parse.Memory) h f u r why = absurd why
not_packed_wider honest honest' fault fault' unreadable unreadable' refused refused' (PackedRef (parse.RefnameValidation e)) h f u r why = absurd why
not_packed_wider honest honest' fault fault' unreadable unreadable' refused refused' Memory h f u r why = tt
not_packed_wider honest honest' fault fault' unreadable unreadable' refused refused' (RefnameValidation e) h f u r why = absurd why
not_packed_wider honest honest' fault fault' unreadable unreadable' refused refused' (ReadFileContents e path) h f u r why = absurd why
not_packed_wider honest honest' fault fault' unreadable unreadable' refused refused' (ReferenceCreation e path) h f u r why = absurd why

-- after some of the records of a text there is a record, or nothing
not_stuck : (kind : Kind) (text rest : List ℕ) (before rs : List Record) → Fronts kind text before rest → Records kind text rs → rest ≢ [] → NoRecord kind rest → ⊥
not_stuck kind text rest [] [] fronts are some bad = some (sym fronts ∙ are)
not_stuck kind text rest [] (r ∷ rs) fronts are some bad = bad r are.0 (subst (λ (t : List ℕ). Takes kind t r are.0) fronts are.1)
not_stuck kind text rest (b ∷ before) [] fronts are some bad =
    let less = shorter_record kind text b fronts.0 fronts.1 in
    let none : length text ≡ 0 = ap length are in omega arith
not_stuck kind text rest (b ∷ before) (r ∷ rs) fronts are some bad =
    let same = same_record kind text b fronts.0 r are.0 fronts.1 are.1 in
    not_stuck kind fronts.0 rest before rs fronts.2 (subst (λ (t : List ℕ). Records kind t rs) (sym same.1) are.2) some bad

-- a well-formed text is opened, except for a fault or want of memory
opens_bytes : (kind : Kind) (bytes : List ℕ) (h : Option Header) (rs : List Record) (error : OpenError) → PackedText kind bytes h rs → IsRefusedBytes kind bytes error →
    IsFaultOrMemory (of_opening error)
opens_bytes kind bytes h rs (Io fault) text refused = tt
opens_bytes kind bytes h rs open_memory text refused = tt
opens_bytes kind bytes h rs HeaderParsing text refused = absurd (refused h text.0 text.1)
opens_bytes kind bytes h rs (Iter line) text refused =
    let same = same_heading bytes refused.0 h refused.1 text.0 refused.2 text.1 in
    let stuck = refused.4 in
    absurd (not_stuck kind refused.1 stuck.rest stuck.before rs stuck.fronts (subst (λ (t : List ℕ). Records kind t rs) (sym same.1) text.2) stuck.some stuck.bad)

pub opens_sound : (kind : Kind) (content : Option Content) (rs : List Record) (error : OpenError) → ArePackedRecords kind (file_of content) rs → IsRefusedFile kind content error →
    IsFaultOrMemory (of_opening error)
opens_sound kind (Some (File bytes)) rs error are refused = opens_bytes kind bytes are.0 rs error are.1.whole refused
opens_sound kind (Some Folder) rs error are refused = opens_bytes kind [] None [] error ([], (refl, tt), refl) refused
opens_sound kind None rs error are refused = opens_bytes kind [] None [] error ([], (refl, tt), refl) refused

-- a record's fault is no more than a lookup's
pub is_sound : (error : Error) → IsFaultOrMemory error → IsSound error
is_sound (PackedOpen (Io error)) is = tt
is_sound (PackedOpen HeaderParsing) is = absurd is
is_sound (PackedOpen (Iter line)) is = absurd is
is_sound (PackedOpen open_memory) is = absurd is
is_sound (PackedRef error) is = absurd is
is_sound (RefnameValidation error) is = absurd is
is_sound (ReadFileContents error path) is = absurd is
is_sound (ReferenceCreation error path) is = absurd is
is_sound Memory is = tt

-- what is searched, from a source that is open to one that was not yet
pub searched_wider : {R : Type 0} {G : Ghosts R} (kind : Kind) (f f' : Option (List ℕ)) (r r' : Asked R G) (P : Kind → List ℕ → Type 0) →
    ((k : Kind) (text : List ℕ) → IsSearched kind f r k text → IsSearched kind f' r' k text) → OfSearched kind f r P → OfSearched kind f' r' P
searched_wider kind f f' r r' P wider o = record { of_kind = o.of_kind; text = o.text; searched = wider o.of_kind o.text o.searched; has = o.has }

pub hit_wider : {R : Type 0} {G : Ghosts R} (kind : Kind) (f f' : Option (List ℕ)) (r r' : Asked R G) (namespace key : List ℕ) (x : Reference) →
    ((k : Kind) (text : List ℕ) → IsSearched kind f r k text → IsSearched kind f' r' k text) → IsHitOfKey kind f r namespace key x → IsHitOfKey kind f' r' namespace key x
hit_wider kind f f' r r' namespace key x wider hit =
    record { name = hit.name; searched = searched_wider kind f f' r r' (λ k text. IsRecordIn k text key x) wider hit.searched }

-- carried through a result
pub if_ok : {X E : Type 0} {P Q : X → Type 0} (r : Result X E) → ((x : X) → P x → Q x) → IfOk r P → IfOk r Q
if_ok (Ok x) wider holds = wider x holds
if_ok (Err e) wider holds = holds

pub if_err : {X E : Type 0} {P Q : E → Type 0} (r : Result X E) → ((e : E) → P e → Q e) → IfErr r P → IfErr r Q
if_err (Ok x) wider holds = holds
if_err (Err e) wider holds = wider e holds

pub both_ways : {X E : Type 0} {P P' : X → Type 0} {Q Q' : E → Type 0} (r : Result X E) → ((x : X) → P x → P' x) → ((e : E) → Q e → Q' e) → MatchResult r P Q → MatchResult r P' Q'
both_ways (Ok x) found failed holds = found x holds
both_ways (Err e) found failed holds = failed e holds

-- one way alone
pub ok_of : {X E : Type 0} (P : X → Type 0) (Q : E → Type 0) (r : Result X E) → MatchResult r P Q → IfOk r P
ok_of P Q (Ok x) holds = holds
ok_of P Q (Err e) holds = tt

pub err_of : {X E : Type 0} (P : X → Type 0) (Q : E → Type 0) (r : Result X E) → MatchResult r P Q → IfErr r Q
err_of P Q (Ok x) holds = tt
err_of P Q (Err e) holds = holds

pub on_ok_of : {X E : Type 0} (S : Type 0) (Q : E → Type 0) (r : Result X E) → MatchResult r (λ x. S) Q → OnOk r S
on_ok_of S Q (Ok x) holds = holds
on_ok_of S Q (Err e) holds = tt

pub on_ok : {X E S : Type 0} (r : Result X E) → S → OnOk r S
on_ok (Ok x) holds = holds
on_ok (Err e) holds = tt

-- nothing is changed where a result is had, and an error has this
pub same_or_err : {X E S : Type 0} {P Q : E → Type 0} (r : Result X E) → S → ((e : E) → P e → Q e) → IfErr r P → MatchResult r (λ x. S) Q
same_or_err (Ok x) same wider holds = same
same_or_err (Err e) same wider holds = wider e holds

pub none_or_some : {X N N' : Type 0} {P Q : X → Type 0} (r : Option X) → (N → N') → ((x : X) → P x → Q x) → MatchOption r N P → MatchOption r N' Q
none_or_some None none some holds = none holds
none_or_some (Some x) none some holds = some x holds

pub some_of : {X : Type 0} (N : Type 0) {P Q : X → Type 0} (r : Option X) → ((x : X) → P x → Q x) → MatchOption r N P → IfSome r Q
some_of N None wider holds = tt
some_of N (Some x) wider holds = wider x holds
