-- What a buffer holds that was read for a prefix.
use Rattle.std.proofs.Common.{◌≡◌, ℕ, List, [], ◌∷◌, false, Option, Some, None, refl, inr, true, subst, sym}
use Rattle.std.specs.List.{All}
use Rattle.std.specs.Prelude.{slice_index_or}
use Rattle.gix_ref_hash.specs.declared.hash.Kind.{Kind}
use Rattle.gix_ref_target.specs.PackedRecords.{Record}
use Rattle.gix_ref_files.specs.Tree.{Content, is_file, file_of, bytes_of}
use Rattle.gix_ref_files.specs.Tree.Content.{File, Folder}
use Rattle.gix_ref_packed.specs.Buffers.{HoldsRecords, buffer_kind, buffer_text}
use Rattle.gix_ref_files.specs.Files.{FaultCounts}
use Rattle.gix_ref_packed.specs.FilePrefixes.{HoldsPrefix, HoldsAsked, FailsReadBy}
use Rattle.gix_ref_packed.specs.FileSearches.{IsNoChange}
use Rattle.gix_ref_packed_text.specs.Prefixes.{NamesAscend}
use Rattle.gix_ref_files.specs.declared.files.ReadAt.{Ghosts}
use Rattle.gix_ref_packed.specs.OpenFiles.{CountsRefusal, OpenedFile, packed_file_kind, packed_file_line, packed_file_text}
use Rattle.gix_ref_packed.specs.declared.packed.file.PackedFile.{PackedFile}
use Rattle.gix_ref_packed.specs.declared.packed.sorted_file.ReadError.{ReadError}
use Rattle.gix_ref_packed.specs.declared.packed.sorted_file.ReadError.TheVariants as reading
use Rattle.gix_ref_packed_text.specs.RecordGrammar.{Below, Ascending, Rising}
use Rattle.gix_ref_packed.specs.declared.packed.buffer.Buffer.{Buffer}
use Rattle.gix_ref_packed_text.proofs.Halves.{not_both}
use Rattle.gix_ref_packed.proofs.PrefixBuffers.{prefixed_hold}
use Rattle.gix_ref_lookup.specs.Lookups.{ArePackedRecords}
use Rattle.gix_ref_listing.specs.PrefixedRecords.{WholeBuffersHold, HoldsAskedOf, of_part}
use Rattle.gix_ref_listing.specs.WholeListings.{HoldsFor}

rising_all : (r : Record) (rs : List Record) → All (λ s. Below r.name s.name) rs → All (λ s. Below s.name r.name → ⊥) rs
rising_all r rs all = λ k d under over. not_both r.name (slice_index_or rs k d).name (all k d under) over

pub rises : (rs : List Record) → Ascending rs → Rising rs
rises [] up = _
rises (r ∷ rs) up = (rising_all r rs up.0, rises rs up.1)

-- the records of a buffer are those of each prefix
pub held_whole : WholeBuffersHold
held_whole kind records text prefix holds = record {
  held = holds.held;
  ascending = holds.ascending;
  named = holds.named;
  part = holds.held;
  lines = holds.records;
  rising = rises holds.held holds.ascending;
  kept = refl;
}

-- a part of the text that was read for a prefix has its records
pub held_part : (kind : Kind) (text : List ℕ) (line : ℕ) (prefix : List ℕ) (b : Buffer) (records : List Record) → HoldsPrefix kind text line prefix b → HoldsRecords kind records text →
    HoldsFor (buffer_kind b) prefix records (buffer_text b)
held_part kind text line prefix b records part holds =
    let kept = prefixed_hold kind text line prefix b holds.held part holds.records (rises holds.held holds.ascending) in
    record {
      held = holds.held;
      ascending = holds.ascending;
      named = holds.named;
      part = kept.held;
      lines = kept.records;
      rising = kept.rises;
      kept = kept.kept;
    }

-- where no file is, there are no records
pub no_records : (kind : Kind) (content : Option Content) (records : List Record) → ArePackedRecords kind (file_of content) records → is_file content ≡ false → records ≡ []
no_records kind (Some (File bytes)) records are none = cc
no_records kind (Some Folder) records are none = are
no_records kind None records are none = are

-- a read of an honest file that failed
pub part_fails : {R : Type 0} (faults : R → FaultCounts) (count : FaultCounts) (error : ReadError) → IsNoChange error → FailsReadBy faults error → CountsRefusal faults count count (of_part error)
part_fails faults count (reading.Io error) no_change fails = inr (refl, fails)
part_fails faults count reading.Memory no_change fails = refl
part_fails faults count reading.Changed no_change fails = absurd no_change

-- a file that is there is read as its bytes
there_is : (content : Option Content) → is_file content ≡ true → file_of content ≡ Some (bytes_of content)
there_is (Some (File bytes)) is = refl
there_is (Some Folder) is = absurd (cc)
there_is None is = absurd (cc)

pub not_there : (content : Option Content) → is_file content ≡ false → file_of content ≡ None
not_there (Some (File bytes)) is = absurd (cc)
not_there (Some Folder) is = refl
not_there None is = refl

-- what was read of an open file for a key has the records of the key
pub asked_of : {R : Type 0} {G : Ghosts R} (kind : Kind) (content : Option Content) (file : PackedFile R G) (b : Buffer) (asked key : List ℕ) → is_file content ≡ true → OpenedFile kind (bytes_of content) file → asked ≡ key →
    HoldsPrefix (packed_file_kind file) (packed_file_text file) (packed_file_line file) asked b
    → (NamesAscend (packed_file_kind file) (packed_file_text file) → HoldsAsked (packed_file_kind file) (packed_file_text file) asked (buffer_text b)) → HoldsAskedOf kind (file_of content) key (Some b)
asked_of kind content file b asked key is opened same part holds = (
  packed_file_text file,
  (refl, bytes_of content, opened.line, there_is content is, opened.opens),
  subst (λ (k : Kind). HoldsPrefix k (packed_file_text file) opened.line key b) opened.kind_is
      (subst (λ (n : ℕ). HoldsPrefix (packed_file_kind file) (packed_file_text file) n key b) (sym opened.line_is)
      (subst (λ (n : List ℕ). HoldsPrefix (packed_file_kind file) (packed_file_text file) (packed_file_line file) n b) same part)),
  λ ascend.
      let of_file = holds (subst (λ (k : Kind). NamesAscend k (packed_file_text file)) (sym opened.kind_is) ascend) in
      subst (λ (k : Kind). HoldsAsked k (packed_file_text file) key (buffer_text b)) opened.kind_is (subst (λ (n : List ℕ). HoldsAsked (packed_file_kind file) (packed_file_text file) n (buffer_text b)) same of_file),
)
