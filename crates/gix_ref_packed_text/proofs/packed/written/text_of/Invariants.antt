use Rattle.std.proofs.Common.{◌≡◌, take, map}
use Rattle.gix_ref_packed_text.specs.Views.{record_of}
use Rattle.gix_ref_target.specs.PackedRecords.{written_text}
use Rattle.gix_ref_packed_text.proofs.packed.written.text_of.Given as goal

abbrev pub invariant-loop-record : goal.invariant-loop-record
invariant-loop-record l = l.text.items ≡ written_text (map record_of (take l.record-index l.records))
