-- Which updates go into `packed-refs`, and with which object.
use Rattle.std.specs.Prelude.{◌≡◌, ◌&&◌, ℕ, List, [], ◌∷◌, Option, Some, None, IfSome, map, if◌then◌else◌}
use Rattle.gix_ref_hash.specs.declared.hash.ObjectId.{ObjectId}
use Rattle.gix_ref_target.specs.Targets.{TargetValue, target_value}
use Rattle.gix_ref_target.specs.Targets.TargetValue.{object_id, symbolic_name}
use Rattle.gix_ref_theory.specs.Edits as plan
use Rattle.gix_ref_theory.specs.Edits.{Mode, packs}
use Rattle.gix_ref_theory.specs.Edits.Mode.{DeletionsOnly, Packing as PackingUpdates, PackingAndRemoving}
use Rattle.gix_ref_theory.specs.Readings.{Store}
use Rattle.gix_ref_object.specs.Objects.{Stored}
use Rattle.gix_ref_object.specs.Objects.Stored.{Absent}
use Rattle.gix_ref_edits.specs.RefEdits.{name_of, mode_of, is_of_reference}
use Rattle.gix_ref_edits.specs.declared.transaction.Change.{Change}
use Rattle.gix_ref_edits.specs.declared.transaction.Change.TheVariants.{Update, Delete}
use Rattle.gix_ref_edits.specs.declared.transaction.RefEdit.{RefEdit}
use Rattle.gix_ref_transaction.specs.CarriedEdits.{change_of}
use Rattle.gix_ref_transaction.specs.declared.edit.Edit.{Edit}
use Rattle.gix_ref_transaction.specs.declared.edit.PackedObject.{PackedObject}
use Rattle.gix_ref_transaction.specs.declared.packing.PackedRefs.{PackedRefs}
use Rattle.gix_ref_transaction.specs.declared.packing.PackedRefs.TheVariants as modes
use Rattle.gix_ref_transaction.specs.declared.packing.Packing.{Packing}
use Rattle.gix_ref_transaction.specs.declared.packing.Packing.TheVariants.{Deletions, Updates, UpdatesAlone}

-- the use of `packed-refs`, as the plan of a commit has it
abbrev pub mode_of_packing : Packing → Mode
mode_of_packing Deletions = DeletionsOnly
mode_of_packing Updates = PackingUpdates
mode_of_packing UpdatesAlone = PackingAndRemoving

module _ {T : Type 0} where
  abbrev pub packing_in : PackedRefs T → Packing
  packing_in modes.DeletionsOnly = Deletions
  packing_in (modes.DeletionsAndNonSymbolicUpdates finder) = Updates
  packing_in (modes.DeletionsAndNonSymbolicUpdatesRemoveLooseSourceReference finder) = UpdatesAlone

  abbrev pub mode_in : PackedRefs T → Mode
  mode_in packed_refs = mode_of_packing (packing_in packed_refs)

  -- its finder of objects, if it has one
  abbrev pub finder_in : PackedRefs T → Option T
  finder_in modes.DeletionsOnly = None
  finder_in (modes.DeletionsAndNonSymbolicUpdates finder) = Some finder
  finder_in (modes.DeletionsAndNonSymbolicUpdatesRemoveLooseSourceReference finder) = Some finder

  -- what the finder claims, if there is one
  abbrev pub OfFinder : (T → Type 0) → PackedRefs T → Type 0
  OfFinder claims packed_refs = IfSome (finder_in packed_refs) claims

  -- what it has under each id
  abbrev pub stored_by : (T → ObjectId → Stored) → Option T → ObjectId → Stored
  stored_by meaning None id = Absent
  stored_by meaning (Some finder) id = meaning finder id

  abbrev pub ends_of : (T → ObjectId → Stored) → PackedRefs T → ObjectId → Stored
  ends_of meaning packed_refs = stored_by meaning (finder_in packed_refs)

-- the object of a new target, if it is one
abbrev pub new_object : Option TargetValue → Option ObjectId
new_object (Some (object_id id)) = Some id
new_object other = None

-- a new object, with the one at the end of its tags, where that is another one
abbrev pub packed_object : TargetValue → Option ObjectId → Option PackedObject
packed_object (object_id id) peeled = Some (record { target = id; peeled = peeled })
packed_object (symbolic_name name) peeled = None

-- what an edit puts into `packed-refs`, where its reference has this key: the object of an update that is packed
abbrev pub put_by :
    Mode → (key : Option (List ℕ)) → Change → (peeled : Option ObjectId) → Option PackedObject
put_by mode key (Delete expected log) peeled = None
put_by mode key (Update log expected new) peeled =
    if is_of_reference log.mode && packs mode key (target_value new)
    then packed_object (target_value new) peeled else None

-- the object at the end of the tags of what is put
abbrev pub peeled_in : Option PackedObject → Option ObjectId
peeled_in None = None
peeled_in (Some put) = put.peeled

-- an edit puts just that, with some object at the end of its tags
abbrev pub HasItsPut : Store → Mode → Edit → Type 0
HasItsPut s mode e = e.put
    ≡ put_by mode (s.key (name_of e.update)) e.update.change (peeled_in e.put)

-- and so for each of these edits
abbrev pub HaveTheirPuts : Store → Mode → List Edit → Type 0
HaveTheirPuts s mode [] = Unit {0}
HaveTheirPuts s mode (e ∷ edits) = HasItsPut s mode e × HaveTheirPuts s mode edits

-- an edit as the plan of a commit has it, with the object at the end of its tags
abbrev pub edit_peeled : RefEdit → Option ObjectId → plan.Edit
edit_peeled edit peeled = record {
  name = name_of edit;
  change = change_of edit.change;
  and_reference = is_of_reference (mode_of edit.change);
  line = None;
  peeled = peeled;
}

abbrev pub plan_edits : List Edit → List plan.Edit
plan_edits edits = map (λ (e : Edit). edit_peeled e.update (peeled_in e.put)) edits
