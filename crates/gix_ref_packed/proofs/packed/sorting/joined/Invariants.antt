use Rattle.std.proofs.Common.{◌≡◌, take}
use Rattle.std.specs.List.{flat_map}
use Rattle.gix_ref_packed.specs.internal.Entries.{entry_bytes}
use Rattle.gix_ref_packed.proofs.packed.sorting.joined.Given as goal

abbrev pub invariant-loop-entry : goal.invariant-loop-entry
invariant-loop-entry l = l.text.items ≡ flat_map entry_bytes (take l.entry-index l.entries)
