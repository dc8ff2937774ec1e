-- Records that are read to be sorted, each with its bytes.
use Rattle.std.specs.Prelude.{ℕ, List}
use Rattle.gix_ref_name.specs.Names.{full_ref_bytes}
use Rattle.gix_ref_packed.specs.declared.packed.sorting.Entry.{Entry}
use Rattle.gix_ref_target.specs.PackedRecords.{Record}
use Rattle.gix_ref_packed_text.specs.OpenedText.{Piece}
use Rattle.gix_ref_packed_text.specs.Views.{record_of}

abbrev pub entry_record : Entry → Record
entry_record e = record_of e.reference

abbrev pub entry_ref_name : Entry → List ℕ
entry_ref_name e = full_ref_bytes e.reference.name

abbrev pub entry_bytes : Entry → List ℕ
entry_bytes e = e.bytes.now

abbrev pub entry_piece : Entry → Piece
entry_piece e = record { said = entry_record e; bytes = entry_bytes e }
