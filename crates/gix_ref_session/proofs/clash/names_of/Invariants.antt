use Rattle.std.proofs.Common.{◌≡◌, map, take}
use Rattle.gix_ref_edits.specs.RefEdits.{name_of}
use Rattle.gix_ref_session.specs.Clashes.{lent_bytes}
use Rattle.gix_ref_session.proofs.clash.names_of.Given as goal

abbrev pub invariant-loop-edit : goal.invariant-loop-edit
invariant-loop-edit l = map lent_bytes l.names.items ≡ map name_of (take l.edit-index l.edits)
