-- A transaction that is prepared, from what its locks and the edits that carry what was found say of it.
use Rattle.std.proofs.Common.{◌≡◌, inl, ◌∙◌, ℕ, List, [], Option, ◌++◌, length, take, sym, ap, subst, arith, Result, Ok, Err, IfOk, IfErr}
use Rattle.gix_ref_files.specs.declared.files.FileError.{FileError}
use Rattle.std.proofs.Math.Seq.{take-append_seam}
use Rattle.std.proofs.lemmas.List.{length-map}
use Rattle.gix_ref_files.specs.Files.{Meaning, FaultCounts}
use Rattle.gix_ref_files.specs.Tree.{Path}
use Rattle.gix_ref_hash.specs.declared.hash.ObjectId.{ObjectId}
use Rattle.gix_ref_object.specs.Objects.{Stored}
use Rattle.gix_ref_theory.specs.Edits.{Mode}
use Rattle.gix_ref_theory.specs.OnRealTrees.{view_of}
use Rattle.gix_ref_lookup.specs.StoreLayout.{git_options}
use Rattle.gix_ref_lookup.proofs.Laying.{folders_laid}
use Rattle.gix_ref_transaction.specs.Causes.{AreRecordIds}
use Rattle.gix_ref_transaction.specs.Peels.{ArePut}
use Rattle.gix_ref_transaction.proofs.Apart.{references}
use Rattle.gix_ref_commit.proofs.Alike.{AreSame, are_same}
use Rattle.gix_ref_commit.proofs.CanBePut.{all_can_be_put, carried_can, carried_puts, have_their_puts}
use Rattle.gix_ref_edits.specs.declared.transaction.RefEdit.{RefEdit}
use Rattle.gix_ref_transaction.specs.CarriedEdits.{AreCarried}
use Rattle.gix_ref_transaction.specs.Parents.{parents_in}
use Rattle.gix_ref_transaction.specs.OwnLocks.{paths_of}
use Rattle.gix_ref_transaction.specs.declared.prepare.hold.HeldLocks.{HeldLocks}
use Rattle.gix_ref_transaction.specs.declared.prepare.hold.NotHeld.{NotHeld}
use Rattle.gix_ref_transaction.specs.PrepareSteps.{puts_in, effects_of, ids_in, place_paths, seen_files, targets_of, updates}
use Rattle.gix_ref_transaction.specs.declared.edit.Edit.{Edit}
use Rattle.gix_ref_store.specs.ComposedEdits.{AreAskedAs}
use Rattle.gix_ref_store.specs.Prepared.{HaveParents, HoldsGiven, HoldsSplit, PreparesFrom, PreparesGiven, RefusesFrom, RefusesGiven, SplitsFrom, tree_of}
use Rattle.gix_ref_store.specs.Store.{folders, kind_of, meaning_of}
use Rattle.gix_ref_store.specs.declared.file.store.Store.{Store}

-- `seen` are the edits that are held, and `after` those that carry what was found of them: as many
pub prepares : {F : Type 0} (honest : Type 0) (means : F → Meaning) (faults : F → FaultCounts) (claims : Type 0) (meaning : ObjectId → Stored) (mode : Mode) (old new : Store F) (given : List RefEdit) (len : ℕ) (packed : Option Path) (held seen after rest : List Edit) →
    seen ≡ held → length seen ≡ len → HoldsGiven honest means faults claims meaning mode old new given packed held →
    AreCarried (updates seen) (targets_of seen) (updates after) → place_paths after ≡ place_paths seen → parents_in after ≡ parents_in seen → effects_of after ≡ effects_of seen → seen_files after ≡ seen_files seen → ids_in after ≡ ids_in seen → puts_in after ≡ puts_in seen →
    PreparesGiven honest means faults claims meaning mode old new given packed (take len (after ++ rest))
prepares honest means faults claims meaning mode old new given len packed held seen after rest are all holds carried same_places same_parents same_effects same_files same_ids same_puts = record {
  split = updates held;
  splits = holds.splits;
  parents = λ h. ap parents_in over ∙ (same_parents ∙ (ap parents_in are ∙ holds.parents h));
  put = subst (λ (l : List Edit). ArePut claims meaning (meaning_of old) mode (kind_of old) l) (sym over) (carried_puts (meaning_of old) mode (kind_of old) claims meaning held after same puts (holds.from.put));
  prepared = subst (λ (l : List Edit). PreparesFrom honest means faults mode old new (updates held) packed l) (sym over) (record {
    was = targets_of held;
    held = holds.from.held;
    lost = holds.from.lost;
    whole = holds.from.whole;
    packed = holds.from.packed;
    carried = subst (λ (l : List Edit). AreCarried (updates l) (targets_of l) (updates after)) are carried;
    places = same_places ∙ (ap place_paths are ∙ holds.from.places);
    effects = λ h good. same_effects ∙ (ap effects_of are ∙ holds.from.effects h good);
    files = λ h good. same_files ∙ (ap seen_files are ∙ holds.from.files h good);
    ids = λ h good. same_ids ∙ (ap ids_in are ∙ holds.from.ids h good);
    read = λ h. subst (AreRecordIds (meaning_of old) (kind_of old) (view_of (tree_of means old)) (updates held)) (sym (same_ids ∙ ap ids_in are)) (holds.from.read h);
    puts = have_their_puts old.dirs old.namespace (kind_of old) old.prohibit_windows_device_names mode claims meaning after (carried_puts (meaning_of old) mode (kind_of old) claims meaning held after same puts (holds.from.put));
    can_be_put = carried_can (meaning_of old) mode (kind_of old) held after same puts
        (all_can_be_put old.dirs old.namespace (kind_of old) old.prohibit_windows_device_names mode claims meaning [] held
        (references (folders old) (git_options (kind_of old) old.prohibit_windows_device_names) (folders_laid old.dirs old.namespace) (kind_of old) [] (updates held) holds.from.held.valid)
        holds.from.held.valid holds.from.put);
  });
}
  where
    same : AreSame (updates held) (updates after)
    same = are_same (updates held) (targets_of held) (updates after) (subst (λ (l : List Edit). AreCarried (updates l) (targets_of l) (updates after)) are carried)

    puts : puts_in after ≡ puts_in held
    puts = same_puts ∙ ap puts_in are

    over : take len (after ++ rest) ≡ after
    over =
        ap (λ n. take n (after ++ rest)) (omega (arith, all, carried.len, length-map after (λ (e : Edit). e.update), length-map seen (λ (e : Edit). e.update)))
        ∙ take-append_seam after rest

-- locks that are held of the edits that are asked for are held of those that are given
module _ {F : Type 0} (honest : Type 0) (means : F → Meaning) (faults : F → FaultCounts) (claims : Type 0) (meaning : ObjectId → Stored) (mode : Mode) (old new : Store F) (given asked : List RefEdit) (composed : AreAskedAs old.precompose_unicode given asked) where
  pub holds_given : (r : Result HeldLocks NotHeld) →
      IfOk r (λ held. SplitsFrom honest means faults old asked (updates held.edits.items)) →
      (honest → IfOk r (λ held. HaveParents honest means faults old asked held.edits.items)) →
      IfOk r (λ held. HoldsSplit honest means faults claims meaning mode old new (updates held.edits.items) held.packed held.edits.items) →
      IfOk r (λ held. HoldsGiven honest means faults claims meaning mode old new given held.packed held.edits.items)
  holds_given (Ok held) splits parents from = record {
    splits = record { asked = asked; composed = composed; from = splits };
    parents = parents;
    from = from;
  }
  holds_given (Err failure) splits parents from = tt

  -- and a refusal of the one is one of the other
  pub refuses_given : (read : FileError → Type 0) (r : Result HeldLocks NotHeld) →
      IfErr r (λ r. RefusesFrom honest read means faults claims meaning mode old new asked r.failure.error (paths_of r.failure.locks_left.items)) →
      IfErr r (λ r. RefusesGiven honest read means faults claims meaning mode old new given r.failure.error (paths_of r.failure.locks_left.items))
  refuses_given read (Ok held) refused = tt
  refuses_given read (Err failure) refused = record { asked = asked; composed = inl composed; refuses = refused }
