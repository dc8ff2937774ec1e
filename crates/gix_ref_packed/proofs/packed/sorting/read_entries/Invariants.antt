use Rattle.std.proofs.Common.{◌≡◌, ◌≤◌, ◌+◌, ◌++◌, length, map}
use Rattle.std.specs.List.{All, flat_map}
use Rattle.gix_ref_packed_text.specs.OpenedText.{Fronts, IsPiece, line_count}
use Rattle.gix_ref_packed.specs.internal.Entries.{entry_record, entry_piece, entry_bytes}
use Rattle.gix_ref_packed.proofs.packed.sorting.read_entries.Given as goal

abbrev pub invariant-loop-rest : goal.invariant-loop-rest
invariant-loop-rest l = record {
  fronts : Fronts l.kind l.text (map entry_record l.entries.items) l.rest;
  pieces : All (IsPiece l.kind) (map entry_piece l.entries.items);
  cut : l.text ≡ flat_map entry_bytes l.entries.items ++ l.rest;
  number : l.line ≡ l.first + line_count (map entry_record l.entries.items);
  fits : l.line + length l.rest ≤ l.first + length l.text;
}

abbrev pub decreases-loop-rest : goal.decreases-loop-rest
decreases-loop-rest l = length l.rest
