use Rattle.std.proofs.Common.{◌≡◌, ◌≤◌, inl, inr, ⊎_elim, ℕ, List, [], ◌++◌, ap, refl, sym, ◌∙◌, subst, true, take, drop, length, arith, Vec, Global}
use Rattle.gix_ref_files.specs.Files.{disk_of}
use Rattle.gix_ref_files.specs.Tree.{Tree}
use Rattle.gix_ref_lookup.specs.StoreLayout.{folders_of}
use Rattle.gix_ref_edits.specs.declared.transaction.RefEdit.{RefEdit}
use Rattle.gix_ref_theory.specs.OnRealTrees.{view_of}
use Rattle.gix_ref_transaction.specs.OwnLocks.{paths_of, is_in, times, AddsLocks}
use Rattle.gix_ref_transaction.specs.Causes.{AllValid, AreRecordIds, IsFirstCause, IsPackedWell, LocksAreApart, locks_of}
use Rattle.gix_ref_transaction.specs.HeldLocks.{HoldAllLocks, AreRemovedAgain, IsTakingFault, OnlyTakes}
use Rattle.gix_ref_transaction.specs.PackedCauses.{ids_among}
use Rattle.gix_ref_transaction.specs.Packing.{OfFinder, ends_of, mode_in, mode_of_packing}
use Rattle.gix_ref_transaction.specs.Peels.{ArePut, CanPeelAll, IsPeelCause}
use Rattle.gix_ref_transaction.specs.PrepareSteps.{setting_of, all_asked, all_given, ids_in, packed_ids, places_of, updates, AreLockable, AreSettled, AreWholeLocks}
use Rattle.gix_ref_transaction.specs.declared.edit.Edit.{Edit}
use Rattle.gix_ref_transaction.specs.declared.prepare.hold.HeldEdits.{HeldEdits}
use Rattle.gix_ref_transaction.specs.declared.prepare.hold.NotHeld.{NotHeld}
use Rattle.gix_ref_transaction.proofs.PackedLemmas.{asked_ids, asked_over, counted_later, if_err, if_ok, not_packed, places_alike, settled_alike, updates_alike}
use Rattle.gix_ref_transaction.proofs.Adds.{clash}
use Rattle.gix_ref_transaction.proofs.Faults.{risen_by_before, risen_by_none_left}
use Rattle.gix_ref_transaction.proofs.Puts.{all_peel, puts_alike}
use Rattle.gix_ref_transaction.proofs.TakingRuns.{reads_take, reads_then_takes}
use Rattle.gix_ref_transaction.proofs.RecordIds.{always, ids_alike}
use Rattle.gix_ref_transaction.proofs.UnreadRecords.{no_find}
use Rattle.gix_ref_transaction.proofs.prepare.hold.find_and_lock.Goals as goal

pub lock_all_or_none-requires-clause-ready : goal.lock_all_or_none-requires-clause-ready
lock_all_or_none-requires-clause-ready g c =
    let s = setting_of c.args.settings.now in
    let kind = c.args.settings.now.kind in
    let given = c.args.edits.items in
    let found = c.find_and_peel.new.edits in
    let now = take c.args.edits.len (found ++ drop (length found) given) in
    let over : now ≡ found = asked_over c.args.edits.len c.deref_mut.result.now found (drop (length found) given) c.find_and_peel.ensures.asked c.deref_mut.ensures.len in
    let asked : all_asked now ≡ all_asked given = ap all_asked over ∙ (c.find_and_peel.ensures.asked ∙ ap all_asked c.deref_mut.ensures.value) in
    let U : updates now ≡ updates given = updates_alike given now asked in
    let ready = c.requires.ready in
    record {
      places = places_alike given now asked ∙ (ready.places ∙ ap (places_of s) (sym U));
      apart = subst (LocksAreApart s) (sym U) ready.apart;
      valid = subst (AllValid s kind []) (sym U) ready.valid;
    }

pub returns-in-Ok-clause-held : goal.returns-in-Ok-clause-held
returns-in-Ok-clause-held g c =
    let s = setting_of c.args.settings.now in
    let kind = c.args.settings.now.kind in
    let given = c.args.edits.items in
    let found = c.find_and_peel.new.edits in
    let now = take c.args.edits.len (found ++ drop (length found) given) in
    let over : now ≡ found = asked_over c.args.edits.len c.deref_mut.result.now found (drop (length found) given) c.find_and_peel.ensures.asked c.deref_mut.ensures.len in
    let asked : all_asked now ≡ all_asked given = ap all_asked over ∙ (c.find_and_peel.ensures.asked ∙ ap all_asked c.deref_mut.ensures.value) in
    let U : updates now ≡ updates given = updates_alike given now asked in
    let F = g.F.Files in
    let old = F.means c.args.files.now in
    let mid = F.means c.find_and_peel.new.files in
    let last = F.means c.lock_all_or_none.new.files in
    let same : F.honest → mid.tree ≡ old.tree = λ h. (c.find_and_peel.ensures.reads.leaves h).tree in
    let ids : F.honest → IsPackedWell kind (view_of old.tree s.packed_path) → ids_in now ≡ packed_ids s mid.tree (updates now) = λ h good.
    asked_ids (folders_of c.args.settings.now.dirs.now c.args.settings.now.namespace.now) kind c.args.settings.now.prohibit_windows_device_names old.tree mid.tree (updates now) good.0 (ids_in now) good.1
    (ap ids_in over ∙ (c.in-Ok.ensures.found h good.0 good.1
    ∙ (ap (λ (l : List Edit). ids_among s good.0 (updates l)) c.deref_mut.ensures.value
    ∙ ap (ids_among s good.0) (sym U)))) (same h) in
    let r = c.lock_all_or_none.result in
    let all = locks_of s (updates now) in
    if_ok r (λ (held : HeldEdits) (is : HoldAllLocks F.honest (ids_in now ≡ packed_ids s mid.tree (updates now)) s (mode_of_packing c.packing.result) kind all mid last now held.edits.items c.args.remains held.remains). record {
      asked = is.asked ∙ asked;
      remains = is.remains;
      adds = λ h. subst (λ (u : List RefEdit). AddsLocks (locks_of s u) (locks_of s u) old.tree last.tree) U (subst (λ (T : Tree). AddsLocks all all T last.tree) (same h) (is.adds h));
      taken = λ h. let taken = is.taken h in record {
        settled = λ good. subst (λ p. AreSettled s (mode_of_packing p) kind old.tree last.tree given held.edits.items) c.packing.ensures
            (subst (λ (T : Tree). AreSettled s (mode_of_packing c.packing.result) kind T last.tree given held.edits.items) (same h) (settled_alike s kind mid.tree last.tree now given held.edits.items U (taken.settled (ids h good))));
        lockable = subst (λ (u : List RefEdit). AreLockable s kind old.tree [] u) U (subst (λ (T : Tree). AreLockable s kind T [] (updates now)) (same h) taken.lockable);
        whole = subst (λ (u : List RefEdit). AreWholeLocks (disk_of last) (locks_of s u)) U taken.whole;
      };
    }) c.lock_all_or_none.ensures.held

pub returns-in-Ok-clause-refused : goal.returns-in-Ok-clause-refused
returns-in-Ok-clause-refused g c =
    let s = setting_of c.args.settings.now in
    let kind = c.args.settings.now.kind in
    let given = c.args.edits.items in
    let found = c.find_and_peel.new.edits in
    let now = take c.args.edits.len (found ++ drop (length found) given) in
    let over : now ≡ found = asked_over c.args.edits.len c.deref_mut.result.now found (drop (length found) given) c.find_and_peel.ensures.asked c.deref_mut.ensures.len in
    let asked : all_asked now ≡ all_asked given = ap all_asked over ∙ (c.find_and_peel.ensures.asked ∙ ap all_asked c.deref_mut.ensures.value) in
    let U : updates now ≡ updates given = updates_alike given now asked in
    let F = g.F.Files in
    let old = F.means c.args.files.now in
    let mid = F.means c.find_and_peel.new.files in
    let last = F.means c.lock_all_or_none.new.files in
    let same : F.honest → mid.tree ≡ old.tree = λ h. (c.find_and_peel.ensures.reads.leaves h).tree in
    let ids : F.honest → IsPackedWell kind (view_of old.tree s.packed_path) → ids_in now ≡ packed_ids s mid.tree (updates now) = λ h good.
    asked_ids (folders_of c.args.settings.now.dirs.now c.args.settings.now.namespace.now) kind c.args.settings.now.prohibit_windows_device_names old.tree mid.tree (updates now) good.0 (ids_in now) good.1
    (ap ids_in over ∙ (c.in-Ok.ensures.found h good.0 good.1
    ∙ (ap (λ (l : List Edit). ids_among s good.0 (updates l)) c.deref_mut.ensures.value
    ∙ ap (ids_among s good.0) (sym U)))) (same h) in
    let mode = mode_in c.args.packed_refs.now in
    let meaning = ends_of g.T.Find.meaning c.args.packed_refs.now in
    let claims = OfFinder g.T.Find.claims c.args.packed_refs.now in
    let a = F.faults c.args.files.now in
    let b = F.faults c.find_and_peel.new.files in
    let d = F.faults c.lock_all_or_none.new.files in
    if_err c.lock_all_or_none.result (λ (r : NotHeld) (why : IsTakingFault F.honest F.means F.faults s kind now c.find_and_peel.new.files c.lock_all_or_none.new.files r.failure.error). record {
      cause = λ h good. inr (inr (
        (λ hold. subst (λ (u : List RefEdit). CanPeelAll s mode kind meaning [] u) (sym (ap updates over) ∙ U) (all_peel claims meaning s mode kind [] found c.in-Ok.ensures.put hold)),
        subst (λ (u : List RefEdit). IsFirstCause s kind old.tree [] u r.failure.error) U
            (subst (λ (T : Tree). IsFirstCause s kind T [] (updates now) r.failure.error) (same h) (why.first h (ids h good))),
      ));
      opened = λ h. (not_packed kind (old.tree s.packed_path) b d r.failure.error why.counted).0;
      unread = λ h. no_find _ b d r.failure.error why.counted;
      counted = counted_later _ _ a b d r.failure.error c.find_and_peel.ensures.reads.no_fewer why.counted;
    }) c.lock_all_or_none.ensures.refused

pub returns-in-Ok-clause-removed : goal.returns-in-Ok-clause-removed
returns-in-Ok-clause-removed g c =
    let s = setting_of c.args.settings.now in
    let kind = c.args.settings.now.kind in
    let given = c.args.edits.items in
    let found = c.find_and_peel.new.edits in
    let now = take c.args.edits.len (found ++ drop (length found) given) in
    let over : now ≡ found = asked_over c.args.edits.len c.deref_mut.result.now found (drop (length found) given) c.find_and_peel.ensures.asked c.deref_mut.ensures.len in
    let asked : all_asked now ≡ all_asked given = ap all_asked over ∙ (c.find_and_peel.ensures.asked ∙ ap all_asked c.deref_mut.ensures.value) in
    let U : updates now ≡ updates given = updates_alike given now asked in
    let F = g.F.Files in
    let old = F.means c.args.files.now in
    let mid = F.means c.find_and_peel.new.files in
    let last = F.means c.lock_all_or_none.new.files in
    let same : F.honest → mid.tree ≡ old.tree = λ h. (c.find_and_peel.ensures.reads.leaves h).tree in
    let all = locks_of s (updates now) in
    if_err c.lock_all_or_none.result (λ (r : NotHeld) (is : AreRemovedAgain F.honest F.means F.faults all all r.failure.locks_left c.find_and_peel.new.files c.lock_all_or_none.new.files). record {
      as_before = λ h. subst (λ (u : List RefEdit). AddsLocks (paths_of r.failure.locks_left.items) (locks_of s u) old.tree last.tree) U
          (subst (λ (T : Tree). AddsLocks (paths_of r.failure.locks_left.items) all T last.tree) (same h) (is.as_before h));
      named = record {
        ours = λ q left. subst (λ (u : List RefEdit). is_in (locks_of s u) q ≡ true) U (is.named.ours q left);
        once = λ q. subst (λ (u : List RefEdit). times q (paths_of r.failure.locks_left.items) ≤ times q (locks_of s u)) U (is.named.once q);
        named = risen_by_before _ (F.faults c.args.files.now) (F.faults c.find_and_peel.new.files) (F.faults c.lock_all_or_none.new.files) c.find_and_peel.ensures.reads.no_fewer is.named.named;
      };
    }) c.lock_all_or_none.ensures.removed

pub returns-in-Ok-clause-edits : goal.returns-in-Ok-clause-edits
returns-in-Ok-clause-edits g c =
    let given = c.args.edits.items in
    let found = c.find_and_peel.new.edits in
    let now = take c.args.edits.len (found ++ drop (length found) given) in
    let over : now ≡ found = asked_over c.args.edits.len c.deref_mut.result.now found (drop (length found) given) c.find_and_peel.ensures.asked c.deref_mut.ensures.len in
    let asked : all_asked now ≡ all_asked given = ap all_asked over ∙ (c.find_and_peel.ensures.asked ∙ ap all_asked c.deref_mut.ensures.value) in
    if_err c.lock_all_or_none.result (λ (r : NotHeld) (same : r.edits.items ≡ updates now). same ∙ updates_alike given now asked) c.lock_all_or_none.ensures.edits

pub returns-in-Ok-clause-takes : goal.returns-in-Ok-clause-takes
returns-in-Ok-clause-takes g c =
    let s = setting_of c.args.settings.now in
    let kind = c.args.settings.now.kind in
    let given = c.args.edits.items in
    let found = c.find_and_peel.new.edits in
    let now = take c.args.edits.len (found ++ drop (length found) given) in
    let over : now ≡ found = asked_over c.args.edits.len c.deref_mut.result.now found (drop (length found) given) c.find_and_peel.ensures.asked c.deref_mut.ensures.len in
    let asked : all_asked now ≡ all_asked given = ap all_asked over ∙ (c.find_and_peel.ensures.asked ∙ ap all_asked c.deref_mut.ensures.value) in
    let U : updates now ≡ updates given = updates_alike given now asked in
    let F = g.F.Files in
    reads_then_takes F.honest F.means F.faults (locks_of s (updates given)) c.args.files.now c.find_and_peel.new.files c.lock_all_or_none.new.files c.find_and_peel.ensures.reads
    (subst (λ (u : List RefEdit). OnlyTakes F.honest F.means F.faults (locks_of s u) c.find_and_peel.new.files c.lock_all_or_none.new.files) U c.lock_all_or_none.ensures.takes)

pub returns-in-Ok-clause-opened : goal.returns-in-Ok-clause-opened
returns-in-Ok-clause-opened g c h = if_ok {P = λ _. Unit {0}} c.lock_all_or_none.result (λ held it. c.in-Ok.ensures.opened h) (always c.lock_all_or_none.result)

pub returns-in-Ok-clause-read : goal.returns-in-Ok-clause-read
returns-in-Ok-clause-read g c h =
    let s = setting_of c.args.settings.now in
    let kind = c.args.settings.now.kind in
    let given = c.args.edits.items in
    let found = c.find_and_peel.new.edits in
    let now = take c.args.edits.len (found ++ drop (length found) given) in
    let over : now ≡ found = asked_over c.args.edits.len c.deref_mut.result.now found (drop (length found) given) c.find_and_peel.ensures.asked c.deref_mut.ensures.len in
    let view = view_of (g.F.Files.means c.args.files.now).tree in
    if_ok c.lock_all_or_none.result (λ (held : HeldEdits) (same : all_given held.edits.items ≡ all_given now).
    subst (AreRecordIds s kind view (updates given)) (sym (ids_alike now held.edits.items same ∙ ap ids_in over))
    (subst (λ (l : List Edit). AreRecordIds s kind view (updates l) (ids_in found)) c.deref_mut.ensures.value (c.in-Ok.ensures.read h))) c.lock_all_or_none.ensures.given

pub returns-in-Ok-clause-put : goal.returns-in-Ok-clause-put
returns-in-Ok-clause-put g c =
    let s = setting_of c.args.settings.now in
    let kind = c.args.settings.now.kind in
    let given = c.args.edits.items in
    let found = c.find_and_peel.new.edits in
    let now = take c.args.edits.len (found ++ drop (length found) given) in
    let over : now ≡ found = asked_over c.args.edits.len c.deref_mut.result.now found (drop (length found) given) c.find_and_peel.ensures.asked c.deref_mut.ensures.len in
    let mode = mode_in c.args.packed_refs.now in
    let meaning = ends_of g.T.Find.meaning c.args.packed_refs.now in
    let claims = OfFinder g.T.Find.claims c.args.packed_refs.now in
    if_ok c.lock_all_or_none.result (λ (held : HeldEdits) (same : all_given held.edits.items ≡ all_given now).
    puts_alike claims meaning s mode kind held.edits.items now same (subst (ArePut claims meaning s mode kind) (sym over) c.in-Ok.ensures.put)) c.lock_all_or_none.ensures.given

pub returns-in-Err-clause-refused : goal.returns-in-Err-clause-refused
returns-in-Err-clause-refused g c =
    let s = setting_of c.args.settings.now in
    let kind = c.args.settings.now.kind in
    let mode = mode_in c.args.packed_refs.now in
    let meaning = ends_of g.T.Find.meaning c.args.packed_refs.now in
    let claims = OfFinder g.T.Find.claims c.args.packed_refs.now in
    let why = c.in-Err.ensures.failed in
    let error = c.in-Err.error in
    record {
      cause = λ h good. ⊎_elim (λ outside. inl outside)
          (λ peel. inr (inl (subst (λ (l : List Edit). IsPeelCause claims meaning s mode kind (updates l) error) c.deref_mut.ensures.value peel))) (why.cause h good);
      opened = why.opened;
      unread = λ h. rw c.deref_mut.ensures.value at (why.unread h);
      counted = why.counted;
    }

pub returns-in-Err-clause-removed : goal.returns-in-Err-clause-removed
returns-in-Err-clause-removed g c =
    let no_locks = c.requires.room.no_locks in
    record {
      as_before = λ h q. inl (ap (λ (T : Tree). T q) (c.find_and_peel.ensures.reads.leaves h).tree);
      named = record {
        ours = λ q left. clash (ap (λ (l : List (Vec ℕ Global)). is_in (paths_of l) q) (sym no_locks) ∙ left) refl;
        once = λ q.
            let none : times q (paths_of c.args.remains.left.items) ≡ 0 = ap (λ (l : List (Vec ℕ Global)). times q (paths_of l)) no_locks in
            omega (arith, none);
        named = risen_by_none_left c.args.remains.left _ _ no_locks c.find_and_peel.ensures.reads.no_fewer;
      };
    }

pub returns-in-Err-clause-edits : goal.returns-in-Err-clause-edits
returns-in-Err-clause-edits g c =
    let given = c.args.edits.items in
    let found = c.find_and_peel.new.edits in
    let now = take c.args.edits.len (found ++ drop (length found) given) in
    let over : now ≡ found = asked_over c.args.edits.len c.deref_mut.result.now found (drop (length found) given) c.find_and_peel.ensures.asked c.deref_mut.ensures.len in
    let asked : all_asked now ≡ all_asked given = ap all_asked over ∙ (c.find_and_peel.ensures.asked ∙ ap all_asked c.deref_mut.ensures.value) in
    c.give_back.ensures ∙ updates_alike given now asked

pub returns-in-Err-clause-takes : goal.returns-in-Err-clause-takes
returns-in-Err-clause-takes g c =
    let F = g.F.Files in
    reads_take F.honest F.means F.faults _ c.args.files.now c.find_and_peel.new.files c.find_and_peel.ensures.reads
