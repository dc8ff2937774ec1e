-- A `packed-refs` whose names do not rise, which is searched line by line in its file. Clauses speak of it through these words.
use Rattle.std.specs.Prelude.{◌≡◌, ℕ, List, drop}
use Rattle.gix_ref_files.specs.declared.files.ReadAt.{Ghosts}
use Rattle.gix_ref_hash.specs.declared.hash.Kind.{Kind}
use Rattle.gix_ref_packed_text.specs.OpenedText.{line_behind}
use Rattle.gix_ref_packed.specs.declared.packed.unsorted.Unsorted.{Unsorted}
use Rattle.gix_ref_packed.specs.declared.packed.buffer.Buffer.{Buffer}
use Rattle.gix_ref_packed.specs.Buffers.{buffer_kind, buffer_line}
use Rattle.gix_ref_packed.specs.InOrder.{in_order}

abbrev pub unsorted_kind : {R : Type 0} {G : Ghosts R} → Unsorted R G → Kind
unsorted_kind u = u.kind

-- the records in the order of their names, which are searched
abbrev pub unsorted_text : {R : Type 0} {G : Ghosts R} → Unsorted R G → List ℕ
unsorted_text {R} {G} u = in_order u.kind (drop u.start (G.bytes u.reader))

-- the number of the records' first line in the file
abbrev pub unsorted_line : {R : Type 0} {G : Ghosts R} → Unsorted R G → ℕ
unsorted_line u = line_behind u.header

-- the same file as before: its bytes and its size, what its ids are, and where its records begin
abbrev pub IsSameUnsorted : {R : Type 0} {G : Ghosts R} → Unsorted R G → Unsorted R G → Type 0
IsSameUnsorted {R} {G} old now = (G.bytes now.reader ≡ G.bytes old.reader)
    × (now.start ≡ old.start) × (now.kind ≡ old.kind) × (now.header ≡ old.header)
    × (G.size now.reader ≡ G.size old.reader)

-- a buffer of records of that kind, whose lines have the numbers that they have in the file
abbrev pub IsNumberedLike : {R : Type 0} {G : Ghosts R} → Unsorted R G → Buffer → Type 0
IsNumberedLike u b = (buffer_kind b ≡ unsorted_kind u) × (buffer_line b ≡ unsorted_line u)
