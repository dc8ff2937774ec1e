-- Why there is no new `packed-refs`.
use Rattle.std.specs.Prelude.{◌≡◌, ◌⊎◌, ℕ, List, true, false, Option}
use Rattle.gix_ref_hash.specs.declared.hash.Kind.{Kind}
use Rattle.gix_ref_files.specs.Files.{FaultCounts, IsMet}
use Rattle.gix_ref_files.specs.Tree.{Content, is_file, bytes_of}
use Rattle.gix_ref_files.specs.declared.files.FileError.TheVariants.{Memory as out_of_memory}
use Rattle.gix_ref_target.specs.PackedRecords.{Record}
use Rattle.gix_ref_packed_text.specs.OpenedText.{OpensTo, StuckAt}
use Rattle.gix_ref_packed_text.specs.RecordGrammar.{Records}
use Rattle.gix_ref_packed.specs.Buffers.{IsRefusedFile}
use Rattle.gix_ref_packed.specs.declared.packed.buffer.open.Error.{Error as OpenError}
use Rattle.gix_ref_packed.specs.declared.packed.buffer.open.Error.TheVariants.{Iter, HeaderParsing, Io as unread, Memory as open_memory}
use Rattle.gix_ref_packed_text.specs.declared.error.Error.{Error as RewriteError}
use Rattle.gix_ref_packed_text.specs.declared.error.Error.TheVariants as rewriting
use Rattle.gix_ref_packed_transaction.specs.declared.error.Error.{Error}
use Rattle.gix_ref_packed_transaction.specs.declared.error.Error.TheVariants.{Commit, Iteration, Io, Memory}

-- how a fault of opening is reported
abbrev pub repack_of_opening : OpenError → Error
repack_of_opening HeaderParsing = Iteration 1
repack_of_opening (Iter line) = Iteration line
repack_of_opening (unread error) = Io error
repack_of_opening open_memory = Memory

-- how a fault of a rewrite is reported
abbrev pub of_rewrite : RewriteError → Error
of_rewrite (rewriting.Iteration line) = Iteration line
of_rewrite rewriting.Memory = Memory

-- a fault of files, or no memory
abbrev pub IsRepackFault : Error → Type 0
IsRepackFault (Io error) = Unit {0}
IsRepackFault Memory = Unit {0}
IsRepackFault other = ⊥

-- `Io` is returned only with a fault that was counted, and never for want of memory; `Commit` is not returned
abbrev pub IsCountedRefusal : (before now : FaultCounts) → Error → Type 0
IsCountedRefusal before now (Io error) = IsMet error before now × (error ≡ out_of_memory → ⊥)
IsCountedRefusal before now (Commit error) = ⊥
IsCountedRefusal before now (Iteration line) = Unit {0}
IsCountedRefusal before now Memory = Unit {0}

-- why the records of a text, whose first line has that number, cannot be rewritten
abbrev pub IsStuckIn : Kind → ℕ → List ℕ → Error → Type 0
IsStuckIn kind first text (Iteration line) = StuckAt kind first text line
IsStuckIn kind first text Memory = Unit {0}
IsStuckIn kind first text other = ⊥

-- the text is records as a whole
abbrev pub IsReadText : Kind → List ℕ → Type 0
IsReadText kind text = (rs : List Record) × Records kind text rs

-- each line of the file after its header is a record, or there is no file
abbrev pub IsReadFile : Kind → Option Content → Type 0
IsReadFile kind packed =
    (is_file packed ≡ false) ⊎ ((text : List ℕ) × (first : ℕ)
    × OpensTo kind (bytes_of packed) text first × IsReadText kind text)

-- the file is opened, and in the line of that number no record begins
abbrev pub IsStuckFile : Kind → Option Content → ℕ → Type 0
IsStuckFile kind packed line =
    (is_file packed ≡ true) × (text : List ℕ) × (first : ℕ)
    × OpensTo kind (bytes_of packed) text first × StuckAt kind first text line

-- the file is not opened, for its header or for the line of that number; or it is opened, and no record begins there
abbrev pub IsBadLine : Kind → Option Content → ℕ → Type 0
IsBadLine kind packed line =
    ((line ≡ 1) × IsRefusedFile kind packed HeaderParsing)
    ⊎ (IsRefusedFile kind packed (Iter line) ⊎ IsStuckFile kind packed line)

-- `Iteration` reports a bad line of `packed-refs`
abbrev pub IsRefusedRewrite : Kind → Option Content → Error → Type 0
IsRefusedRewrite kind packed (Iteration line) = IsBadLine kind packed line
IsRefusedRewrite kind packed (Commit error) = ⊥
IsRefusedRewrite kind packed (Io error) = Unit {0}
IsRefusedRewrite kind packed Memory = Unit {0}
