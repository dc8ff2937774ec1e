-- A split list that is refused, or held, from what the search in `packed-refs` and the rounds of the locks say of it.
use Rattle.gix_ref_store.proofs.Releasing.{paths_risen}
use Rattle.gix_ref_files.specs.declared.files.FileError.{FileError}
use Rattle.std.proofs.Common.{◌≡◌, inl, inr, ⊎_elim, ℕ, List, [], Option, Result, Ok, Err, IfOk, IfErr, Vec, Global, ◌∙◌, ap, sym, subst, arith, vec_len, length}
use Rattle.std.proofs.lemmas.List.{length-map}
use Rattle.gix_ref_transaction.specs.declared.release.Remains.{Remains}
use Rattle.gix_ref_files.specs.Tree.{Path}
use Rattle.gix_ref_files.specs.Files.{Meaning, Leaves, FaultCounts}
use Rattle.gix_ref_edits.specs.DoubledNames.{NoneDoubled}
use Rattle.gix_ref_edits.specs.declared.transaction.RefEdit.{RefEdit}
use Rattle.gix_ref_transaction.specs.Causes.{IsPackedLocked, names_of, packed_taken}
use Rattle.gix_ref_transaction.specs.Peels.{ArePut, IsLockCause}
use Rattle.gix_ref_transaction.specs.HeldLocks.{HoldAllLocks, AreRemovedAgain, HoldsPackedLock, IsHeldBack, OnlyTakes}
use Rattle.gix_ref_transaction.specs.LeftLocks.{HasRoom}
use Rattle.gix_ref_transaction.specs.OwnLocks.{AddsLocks, paths_of}
use Rattle.gix_ref_transaction.specs.Causes.{AllValid, AreRecordIds, NoCause}
use Rattle.gix_ref_lookup.specs.Lookups.{IsOpenable}
use Rattle.gix_ref_transaction.specs.Parents.{parents_in}
use Rattle.gix_ref_transaction.specs.PrepareSteps.{AreLockable, AreWholeLocks, ids_in, packed_ids, possible_locks, effects_of, effects_on, files_at, seen_files, HoldTexts, old_targets, place_paths, places_of, targets_of, updates}
use Rattle.gix_ref_transaction.specs.declared.edit.Edit.{Edit}
use Rattle.gix_ref_transaction.proofs.PackedLemmas.{parents_alike, places_alike, updates_alike}
use Rattle.gix_ref_hash.specs.declared.hash.ObjectId.{ObjectId}
use Rattle.gix_ref_object.specs.Objects.{Stored}
use Rattle.gix_ref_theory.specs.Edits.{Mode}
use Rattle.gix_ref_theory.specs.OnRealTrees.{view_of}
use Rattle.gix_ref_transaction.specs.declared.prepare.hold.HeldLocks.{HeldLocks}
use Rattle.gix_ref_transaction.specs.declared.prepare.hold.NotHeld.{NotHeld}
use Rattle.gix_ref_store.specs.Prepared.{HasGoodRecords, HoldsFrom, HoldsPacked, HoldsSplit, LosesNothing, RefusesSplit, disk_in, locks_in, tree_of}
use Rattle.gix_ref_store.specs.Store.{files_of, kind_of, meaning_of, IsSameStore}
use Rattle.gix_ref_store.specs.declared.file.store.Store.{Store}

pub refused_split : {F : Type 0} (honest : Type 0) (read : FileError → Type 0) (means : F → Meaning) (faults : F → FaultCounts) (claims : Type 0) (meaning : ObjectId → Stored) (mode : Mode) (old new : Store F) (edits : List RefEdit) (r : Result HeldLocks NotHeld) →
    IsSameStore old new → NoneDoubled (names_of edits) →
    IfErr r (λ u. IsHeldBack honest means faults read (meaning_of old) (kind_of old) edits (IsLockCause claims meaning (meaning_of old) mode (kind_of old) (tree_of means old) edits) (files_of old) (files_of new) u.failure.error) →
    IfErr r (λ u. AreRemovedAgain honest means faults (locks_in means mode old edits) (possible_locks (meaning_of old) edits) u.failure.locks_left (files_of old) (files_of new)) →
    OnlyTakes honest means faults (locks_in means mode old edits) (files_of old) (files_of new) →
    IfErr r (λ u. RefusesSplit honest read means faults claims meaning mode old new edits u.failure.error (paths_of u.failure.locks_left.items))
refused_split honest read means faults claims meaning mode old new edits (Ok t) same single back removed takes = tt
refused_split honest read means faults claims meaning mode old new edits (Err u) same single back removed takes = record {
  cause = λ h good. ⊎_elim (λ outside. inl outside) (λ first. inr (inr (single, first))) (back.cause h good);
  opened = back.opened;
  unread = back.unread;
  counted = back.counted;
  as_before = removed.as_before;
  ours = removed.named.ours;
  once = removed.named.once;
  named = paths_risen u.failure.locks_left (faults (files_of old)) (faults (files_of new)) removed.named.named;
  leaves = takes.leaves;
  same = same;
}

-- the edits that are held, from those that were begun with the split list
module _ {F : Type 0} (honest : Type 0) (means : F → Meaning) (faults : F → FaultCounts) (mode : Mode) (old new : Store F) (begun : Vec Edit Global) (room : Remains) (split : List RefEdit) (asked : updates begun.items ≡ split) where
  -- what is ensured of them, and of the lock of `packed-refs`
  abbrev Held : HeldLocks → Type 0
  Held h = HoldAllLocks honest (HasGoodRecords means old) (meaning_of old) mode (kind_of old) (locks_in means mode old (updates begun.items)) (means (files_of old)) (means (files_of new)) begun.items h.edits.items room h.remains

  abbrev HeldPacked : HeldLocks → Type 0
  HeldPacked h = HoldsPackedLock honest (meaning_of old) mode (tree_of means old) (tree_of means new) (updates begun.items) h.packed

  pub held_asked : (r : Result HeldLocks NotHeld) → IfOk r Held → IfOk r (λ h. updates h.edits.items ≡ split)
  held_asked (Ok h) held = updates_alike begun.items h.edits.items held.asked ∙ asked
  held_asked (Err failure) held = tt

  held_places : (r : Result HeldLocks NotHeld) → IfOk r Held → (places : List Path) → place_paths begun.items ≡ places → IfOk r (λ h. place_paths h.edits.items ≡ places)
  held_places (Ok h) held places are = places_alike begun.items h.edits.items held.asked ∙ are
  held_places (Err failure) held places are = tt

  pub held_parents : (r : Result HeldLocks NotHeld) → IfOk r Held → (parents : List (Option ℕ)) → parents_in begun.items ≡ parents → IfOk r (λ h. parents_in h.edits.items ≡ parents)
  held_parents (Ok h) held parents are = parents_alike begun.items h.edits.items held.asked ∙ are
  held_parents (Err failure) held parents are = tt

  held_effects : (r : Result HeldLocks NotHeld) → IfOk r Held → honest → HasGoodRecords means old → IfOk r (λ h. effects_of h.edits.items ≡ effects_on (meaning_of old) mode (view_of (tree_of means old)) split)
  held_effects (Ok h) held honestly good = ((held.taken honestly).settled good).what ∙ ap (effects_on (meaning_of old) mode (view_of (tree_of means old))) asked
  held_effects (Err failure) held honestly good = tt

  held_files : (r : Result HeldLocks NotHeld) → IfOk r Held → honest → HasGoodRecords means old → IfOk r (λ h. seen_files h.edits.items ≡ files_at (meaning_of old) (tree_of means old) split)
  held_files (Ok h) held honestly good = ((held.taken honestly).settled good).files ∙ ap (files_at (meaning_of old) (tree_of means old)) asked
  held_files (Err failure) held honestly good = tt

  held_ids : (r : Result HeldLocks NotHeld) → IfOk r Held → honest → HasGoodRecords means old → IfOk r (λ h. ids_in h.edits.items ≡ packed_ids (meaning_of old) (tree_of means old) split)
  held_ids (Ok h) held honestly good = ((held.taken honestly).settled good).ids ∙ ap (packed_ids (meaning_of old) (tree_of means old)) asked
  held_ids (Err failure) held honestly good = tt

  held_read : (r : Result HeldLocks NotHeld) → IfOk r (λ h. AreRecordIds (meaning_of old) (kind_of old) (view_of (tree_of means old)) (updates begun.items) (ids_in h.edits.items)) →
      IfOk r (λ h. AreRecordIds (meaning_of old) (kind_of old) (view_of (tree_of means old)) split (ids_in h.edits.items))
  held_read (Ok h) read = subst (λ (u : List RefEdit). AreRecordIds (meaning_of old) (kind_of old) (view_of (tree_of means old)) u (ids_in h.edits.items)) asked read
  held_read (Err failure) read = tt

  held_whole : (r : Result HeldLocks NotHeld) → IfOk r Held → honest → IfOk r (λ h. AreWholeLocks (disk_in means new) (locks_in means mode old split))
  held_whole (Ok h) held honestly = subst (λ (u : List RefEdit). AreWholeLocks (disk_in means new) (locks_in means mode old u)) asked (held.taken honestly).whole
  held_whole (Err failure) held honestly = tt

  held_split : (r : Result HeldLocks NotHeld) → IfOk r Held → IfOk r HeldPacked → (honest → IfOk r (λ h. IsOpenable (kind_of old) (view_of (tree_of means old) (meaning_of old).packed_path))) → IsSameStore old new → AllValid (meaning_of old) (kind_of old) [] split → NoneDoubled (names_of split) →
      OnlyTakes honest means faults (locks_in means mode old (updates begun.items)) (files_of old) (files_of new) → IfOk r (λ h. HoldsFrom honest means faults mode old new split (targets_of h.edits.items))
  held_split (Err failure) held packed opened same valid single takes = tt
  held_split (Ok h) held packed opened same valid single takes = record {
    accepted = λ honestly good. record {
      sound = valid;
      single = single;
      unlocked = subst (λ (u : List RefEdit). IsPackedLocked (meaning_of old) mode (tree_of means old) u → ⊥) asked (packed.free honestly);
      no_cause = subst (λ (u : List RefEdit). NoCause (meaning_of old) (kind_of old) (tree_of means old) [] u) asked ((held.taken honestly).settled good).no_cause;
    };
    found = λ honestly good. ((held.taken honestly).settled good).was ∙ ap (old_targets (meaning_of old) (tree_of means old)) asked;
    texts = λ honestly good. subst (λ (u : List RefEdit). HoldTexts (meaning_of old) mode (tree_of means old) (tree_of means new) u) asked ((held.taken honestly).settled good).texts;
    opened = opened;
    valid = valid;
    lockable = λ honestly. subst (λ (u : List RefEdit). AreLockable (meaning_of old) (kind_of old) (tree_of means old) [] u) asked (held.taken honestly).lockable;
    adds = λ honestly. subst (λ (u : List RefEdit). AddsLocks (locks_in means mode old u) (locks_in means mode old u) (tree_of means old) (tree_of means new)) asked (held.adds honestly);
    leaves = λ honestly. subst (λ (u : List RefEdit). Leaves (means (files_of old)) (means (files_of new)) (AddsLocks (locks_in means mode old u) (locks_in means mode old u) (tree_of means old))) asked (takes.leaves honestly);
    no_fewer = takes.no_fewer;
    same = same;
  }

  -- the lock of `packed-refs`
  held_packed : (r : Result HeldLocks NotHeld) → IfOk r HeldPacked → IfOk r (λ h. HoldsPacked honest means faults mode old new split h.packed)
  held_packed (Err failure) packed = tt
  held_packed (Ok h) packed = record {
    place = packed.place;
    due = λ honestly. packed.due honestly ∙ ap (packed_taken (meaning_of old) mode (tree_of means old)) asked;
    empty = packed.empty;
  }

  -- all that is said of what is held, at once
  pub holds_split : (claims : Type 0) (meaning : ObjectId → Stored) (r : Result HeldLocks NotHeld) → IfOk r Held → IfOk r HeldPacked → (honest → IfOk r (λ h. IsOpenable (kind_of old) (view_of (tree_of means old) (meaning_of old).packed_path))) →
      IsSameStore old new → AllValid (meaning_of old) (kind_of old) [] split → NoneDoubled (names_of split) → OnlyTakes honest means faults (locks_in means mode old (updates begun.items)) (files_of old) (files_of new) →
      (honest → LosesNothing means mode old new split) → place_paths begun.items ≡ places_of (meaning_of old) split →
      (honest → IfOk r (λ h. AreRecordIds (meaning_of old) (kind_of old) (view_of (tree_of means old)) (updates begun.items) (ids_in h.edits.items))) →
      IfOk r (λ h. ArePut claims meaning (meaning_of old) mode (kind_of old) h.edits.items) →
      IfOk r (λ h. HoldsSplit honest means faults claims meaning mode old new split h.packed h.edits.items)
  holds_split claims meaning (Err failure) held packed opened same valid single takes lost places read put = tt
  holds_split claims meaning (Ok h) held packed opened same valid single takes lost places read put = record {
    held = held_split (Ok h) held packed opened same valid single takes;
    lost = lost;
    whole = held_whole (Ok h) held;
    packed = held_packed (Ok h) packed;
    places = held_places (Ok h) held (places_of (meaning_of old) split) places;
    effects = held_effects (Ok h) held;
    files = held_files (Ok h) held;
    ids = held_ids (Ok h) held;
    read = λ honestly. held_read (Ok h) (read honestly);
    put = put;
  }

  -- and there is as much room as before
  pub held_room : (r : Result HeldLocks NotHeld) → IfOk r Held → HasRoom begun room → IfOk r (λ h. HasRoom h.edits h.remains)
  held_room (Err failure) held is = tt
  held_room (Ok h) held is =
      let len : vec_len h.edits ≡ vec_len begun =
      omega (arith, h.edits.ok, begun.ok, length-map {B = RefEdit × Path × Option ℕ} h.edits.items (λ (e : Edit). (e.update, e.lock, e.parent)), length-map {B = RefEdit × Path × Option ℕ} begun.items (λ (e : Edit). (e.update, e.lock, e.parent)), ap length held.asked) in
      subst (HasRoom h.edits) (sym held.remains) (record {
        locks = omega (arith, len, is.locks);
        edits = omega (arith, len, is.edits);
        no_edits = is.no_edits;
        no_locks = is.no_locks;
      })

-- what holds of the split list, of the edits that are held
pub if_asked_of : (split : List RefEdit) (r : Result HeldLocks NotHeld) → IfOk r (λ held. updates held.edits.items ≡ split) → (P : HeldLocks → List RefEdit → Type 0) (Q : HeldLocks → Type 0) →
    ((held : HeldLocks) → Q held → P held split) → IfOk r Q → IfOk r (λ held. P held (updates held.edits.items))
if_asked_of split (Ok held) asked P Q holds given = subst (P held) (sym asked) (holds held given)
if_asked_of split (Err failure) asked P Q holds given = tt

pub if_asked : (split : List RefEdit) (r : Result HeldLocks NotHeld) → IfOk r (λ held. updates held.edits.items ≡ split) → (P : HeldLocks → List RefEdit → Type 0) →
    ((held : HeldLocks) → P held split) → IfOk r (λ held. P held (updates held.edits.items))
if_asked split (Ok held) asked P holds = subst (P held) (sym asked) (holds held)
if_asked split (Err failure) asked P holds = tt
