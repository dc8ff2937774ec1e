-- What `prepare` has seen to of an update: its new target is written so that it is read back.
use Rattle.std.proofs.Common.{◌≡◌, Bool, Some, IsSome, refl, subst}
use Rattle.gix_ref_hash.specs.declared.hash.Kind.{Kind}
use Rattle.gix_ref_hash.specs.declared.hash.ObjectId.{ObjectId}
use Rattle.gix_ref_target.specs.PackedRecords.{id_read, written_id}
use Rattle.gix_ref_target.specs.Targets.{TargetValue, target_value}
use Rattle.gix_ref_target.specs.Targets.TargetValue.{object_id, symbolic_name}
use Rattle.gix_ref_target.specs.Layout.{Layout}
use Rattle.gix_ref_target.proofs.PackedRecordLemmas.{written_is_read}
use Rattle.gix_ref_theory.specs.ConcreteStore.{store_of, loose_text}
use Rattle.gix_ref_theory.specs.Edits.Change.{Update}
use Rattle.gix_ref_theory.specs.Readings.{Store}
use Rattle.gix_ref_lookup.specs.StoreLayout.{git_options}
use Rattle.gix_ref_lookup.specs.LooseText.{target_in}
use Rattle.gix_ref_lookup.proofs.LooseLemmas.{id_reads_back, name_reads_back}
use Rattle.gix_ref_edits.specs.RefEdits.{new_of}
use Rattle.gix_ref_edits.specs.declared.transaction.Change.{Change as GivenChange}
use Rattle.gix_ref_edits.specs.declared.transaction.Change.TheVariants as given
use Rattle.gix_ref_transaction.specs.CarriedEdits.{change_of}
use Rattle.gix_ref_transaction.specs.Causes.{IsFullTarget, IsOfKind, IsWholeTarget}
use Rattle.gix_ref_transaction.proofs.Adds.{false_is_true}

-- what an update is
pub update_is : (c : GivenChange) → IsSome (new_of c) → (t : TargetValue) × (new_of c ≡ Some t) × (change_of c ≡ Update t)
update_is (given.Update log expected new) h = (target_value new, refl, refl)
update_is (given.Delete expected log) h = false_is_true h

module _ (f : Layout) (kind : Kind) (prohibits : Bool) where
  abbrev s : Store
  s = store_of f (git_options kind prohibits)

  -- what `prepare` has seen to
  pub reads_back : (t : TargetValue) → IsFullTarget (Some t) → IsOfKind kind (Some t) → IsWholeTarget (Some t) → target_in kind (loose_text t) ≡ Some t
  reads_back (object_id id) full of_kind whole = id_reads_back kind id of_kind whole
  reads_back (symbolic_name name) full of_kind whole = name_reads_back kind name full

  -- the digits of its id are read as it
  pub id_reads_as_written : (t : TargetValue) → IsWholeTarget (Some t) → (id : ObjectId) → t ≡ object_id id → id_read (written_id id) ≡ Some id
  id_reads_as_written t whole id is = written_is_read id (subst (λ u. IsWholeTarget (Some u)) is whole)
