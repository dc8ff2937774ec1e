-- The text of packed references as it is written (`git pack-refs`): the header with its last space, LF everywhere, and ids
-- as the records have them.
use Rattle.std.specs.Prelude.{◌≡◌, ℕ, true, List, Option, Some}
use Rattle.std.specs.List.{All}
use Rattle.gix_ref_hash.specs.declared.hash.Kind.{Kind}
use Rattle.gix_ref_packed_text.specs.declared.packed.decode.options.Header.{Header}
use Rattle.gix_ref_packed_text.specs.declared.packed.decode.options.Peeled.TheVariants.{Fully}
use Rattle.gix_ref_target.specs.PackedRecords.{Record, written_text}
use Rattle.gix_ref_packed_text.specs.Positions.{IsReadable}
use Rattle.gix_ref_packed_text.specs.OpenedText.{PackedText}

-- what that header says
abbrev pub written_header : Header
written_header = record { peeled = Fully; sorted = true }

-- the written text of such records is that of these records
abbrev pub WrittenTextReadsBack : Type 0
WrittenTextReadsBack = (kind : Kind) (rs : List Record) → All (IsReadable kind) rs →
    PackedText kind (written_text rs) (Some written_header) rs

-- a text is that of one header and one list of records at most
abbrev pub PackedTextIsOne : Type 0
PackedTextIsOne =
    (kind : Kind) (text : List ℕ) (g h : Option Header) (rs ss : List Record) →
    PackedText kind text g rs → PackedText kind text h ss → (g ≡ h) × (rs ≡ ss)
