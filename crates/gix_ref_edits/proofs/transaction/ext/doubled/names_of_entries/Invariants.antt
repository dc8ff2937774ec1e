use Rattle.std.proofs.Common.{◌≡◌, map, take}
use Rattle.gix_ref_name.specs.Names.{full_ref_bytes}
use Rattle.gix_ref_edits.specs.DoubledNames.{entry_names}
use Rattle.gix_ref_edits.proofs.transaction.ext.doubled.names_of_entries.Given as goal

abbrev pub invariant-loop-entry : goal.invariant-loop-entry
invariant-loop-entry g l = map full_ref_bytes l.names.items ≡ entry_names g.T.EditEntry.edit_of (take l.entry-index l.entries)
