-- What a prepared transaction holds.
use Rattle.std.specs.Prelude.{List, Option}
use Rattle.gix_ref_files.specs.Tree.{Path}
use Rattle.gix_ref_object.specs.declared.object.Find.{Ghosts}
use Rattle.gix_ref_transaction.specs.declared.packing.PackedRefs.{PackedRefs}
use Rattle.gix_ref_store.specs.declared.file.transaction.Plan.{Plan}
use Rattle.gix_ref_transaction.specs.PrepareSteps.{updates}
use Rattle.gix_ref_transaction.specs.declared.edit.Edit.{Edit}
use Rattle.gix_ref_edits.specs.declared.transaction.RefEdit.{RefEdit}

module _ {T : Type 0} {G : Ghosts T} where
  -- its edits, each with its place and what becomes of its loose file
  abbrev pub held_edits : Plan T G → List Edit
  held_edits plan = plan.edits.items

  -- the place of the lock of `packed-refs`, where that is held
  abbrev pub held_packed : Plan T G → Option Path
  held_packed plan = plan.packed

  -- what they ask for: each carries what was found
  abbrev pub prepared_edits : Plan T G → List RefEdit
  prepared_edits plan = updates (held_edits plan)

  -- the mode that it was given
  abbrev pub prepared_mode : Plan T G → PackedRefs T
  prepared_mode plan = plan.packed_refs
