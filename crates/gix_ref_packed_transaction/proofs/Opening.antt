-- What an opened `packed-refs` holds, and what it is where it is not opened.
use Rattle.std.proofs.Common.{◌≡◌, List, [], Option, Some, None, true, false, sym, subst, inr, Result, Ok, Err}
use Rattle.std.specs.Prelude.{IfErr, IfOk, MatchResult, OnOk}
use Rattle.gix_ref_hash.specs.declared.hash.Kind.{Kind}
use Rattle.gix_ref_target.specs.PackedRecords.{Record}
use Rattle.gix_ref_files.specs.Tree.{Content, is_file, bytes_of}
use Rattle.gix_ref_files.specs.Tree.Content.{File, Folder}
use Rattle.gix_ref_theory.specs.OnRealTrees.{file_of}
use Rattle.gix_ref_packed.specs.Buffers.{HoldsRecords, IsRefusedFile, Opened, buffer_line, buffer_text}
use Rattle.gix_ref_packed.specs.declared.packed.buffer.Buffer.{Buffer}
use Rattle.gix_ref_packed.specs.declared.packed.buffer.open.Error.{Error as OpenError}
use Rattle.gix_ref_packed.specs.declared.packed.buffer.open.Error.TheVariants.{Iter, HeaderParsing, Io as unread, Memory as open_memory}
use Rattle.gix_ref_packed.proofs.WellFormedLemmas.{opened_holds}
use Rattle.gix_ref_lookup.specs.Lookups.{ArePackedRecords, IsFaultOrMemory}
use Rattle.gix_ref_lookup.specs.Lookups as lookups
use Rattle.gix_ref_lookup.proofs.Opening.{opens_sound}
use Rattle.gix_ref_packed_transaction.specs.Refusals.{IsRepackFault, IsReadFile, IsReadText, repack_of_opening}
use Rattle.gix_ref_packed_transaction.specs.declared.error.Error.{Error}
use Rattle.gix_ref_packed_transaction.specs.declared.error.Error.TheVariants.{Memory}
use Rattle.gix_ref_packed_text.specs.declared.outcome.Rewrite.{Rewrite}
use Rattle.gix_ref_packed_transaction.specs.Changes.{ChangeValue, IsChanged}

-- an opened file of these records holds them
pub holds : (kind : Kind) (content : Option Content) (rs : List Record) (b : Buffer) → ArePackedRecords kind (file_of content) rs → is_file content ≡ true → Opened kind (bytes_of content) b →
    HoldsRecords kind rs (buffer_text b)
holds kind (Some (File bytes)) rs b are a_file opened = opened_holds kind bytes are.0 rs b are.1 opened
holds kind (Some Folder) rs b are a_file opened = absurd (cc)
holds kind None rs b are a_file opened = absurd (cc)

-- where there is no file, there are no records
pub no_records : (kind : Kind) (content : Option Content) (rs : List Record) → ArePackedRecords kind (file_of content) rs → is_file content ≡ false → rs ≡ []
no_records kind (Some (File bytes)) rs are no_file = absurd (cc)
no_records kind (Some Folder) rs are no_file = are
no_records kind None rs are no_file = are

-- what is made of no records
pub made_of : (kind : Kind) (changes : List ChangeValue) (rs : List Record) → rs ≡ [] → (r : Result Rewrite Error) → IfOk r (IsChanged kind changes []) → IfErr r (λ error. error ≡ Memory) → MatchResult r (IsChanged kind changes rs) IsRepackFault
made_of kind changes rs none (Ok w) is memory = subst (λ (xs : List Record). IsChanged kind changes xs w) (sym none) is
made_of kind changes rs none (Err e) is memory = subst IsRepackFault (sym memory) tt

-- a well-formed file is opened, except for a fault or want of memory
pub sound : (kind : Kind) (content : Option Content) (rs : List Record) (error : OpenError) → ArePackedRecords kind (file_of content) rs → IsRefusedFile kind content error → IsRepackFault (repack_of_opening error)
sound kind content rs error are refused = by error (opens_sound kind content rs error are refused)
  where
    by : (e : OpenError) → IsFaultOrMemory (lookups.of_opening e) → IsRepackFault (repack_of_opening e)
    by (unread fault) is = tt
    by open_memory is = tt
    by HeaderParsing is = is
    by (Iter line) is = is

-- want of memory is one of the two
pub memory_only : {X : Type 0} (P : X → Type 0) (r : Result X Error) → MatchResult r P (λ error. error ≡ Memory) → MatchResult r P IsRepackFault
memory_only P (Ok x) is = is
memory_only P (Err e) is = subst IsRepackFault (sym is) tt

-- what is read of an opened file is read of the file
pub file_is_read : {X : Type 0} (kind : Kind) (content : Option Content) (b : Buffer) (r : Result X Error) → Opened kind (bytes_of content) b → OnOk r (IsReadText kind (buffer_text b)) → OnOk r (IsReadFile kind content)
file_is_read kind content b (Ok x) opened read = inr (buffer_text b, buffer_line b, opened.opens, read)
file_is_read kind content b (Err e) opened read = tt
