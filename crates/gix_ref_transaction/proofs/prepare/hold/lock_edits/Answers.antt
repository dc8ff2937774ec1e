use Rattle.gix_ref_files.proofs.Meeting.{no_fewer_joins}
use Rattle.gix_ref_transaction.proofs.Faults.{risen_by_before, risen_by_none_left}
use Rattle.std.proofs.Common.{◌≡◌, ◌≢◌, ◌+◌, ◌∙◌, refl, inl, inr, ⊎_elim, ℕ, List, [], ◌∷◌, ◌++◌, Option, true, map, sym, ap, subst, arith, Vec, Global}
use Rattle.gix_ref_files.specs.Files.{disk_of, Leaves}
use Rattle.gix_ref_files.specs.Lock.{lock_of}
use Rattle.gix_ref_files.specs.Tree.{Path, Content, fronts}
use Rattle.gix_ref_transaction.specs.Causes.{locks_of, packed_taken, IsPackedCause, IsPackedLocked, IsPackedRefusal, IsPackedWell}
use Rattle.gix_ref_lookup.specs.Lookups.{IsOpenable}
use Rattle.gix_ref_transaction.specs.Packing.{mode_in, mode_of_packing}
use Rattle.gix_ref_transaction.specs.HeldLocks.{OnlyTakes}
use Rattle.gix_ref_transaction.specs.OwnLocks.{AddsLocks, is_in, paths_of, times, OnlyRemoves, RemovesLocks}
use Rattle.gix_ref_transaction.specs.declared.edit.Edit.{Edit}
use Rattle.gix_ref_transaction.specs.PrepareSteps.{packed_locks, packed_places, setting_of, updates, AreWholeLocks}
use Rattle.gix_ref_transaction.proofs.PackedLemmas.{counted_on, not_packed}
use Rattle.gix_ref_transaction.proofs.Adds.{adds_wider, any_left, clash}
use Rattle.gix_ref_transaction.proofs.TakingRuns.{takes_alone, takes_then_more}
use Rattle.gix_ref_transaction.proofs.PackedHeld.{IsSameButWay, off_way, find_cause_on, first_cause_on, lockable_all_on, off_lock, record_ids_on, same_packed, settled_on}
use Rattle.gix_ref_transaction.proofs.PackedRuns.{adds_again, counted_after, leaves_again, possible, taken_free, takes_less, whole_both}
use Rattle.gix_ref_transaction.proofs.PackedLocks.{still_empty, taken_empty}
use Rattle.gix_ref_transaction.proofs.Removing.{times_append}
use Rattle.gix_ref_transaction.proofs.TimesLeft.{times_packed}
use Rattle.gix_ref_transaction.proofs.UnreadRecords.{no_find}
use Rattle.gix_ref_transaction.proofs.prepare.hold.lock_edits.Goals as goal

pub returns-in-Ok-find_and_lock-clause-held : goal.returns-in-Ok-find_and_lock-clause-held
returns-in-Ok-find_and_lock-clause-held g c =
    let F = g.F.Files in
    let s = setting_of c.args.settings.now in
    let kind = c.args.settings.now.kind in
    let mode = mode_in c.args.packed_refs.now in
    let apart = c.requires.ready.apart in
    let old = F.means c.args.files.now in
    let mid = F.means c.take_packed.new.files in
    let U = updates c.args.edits.items in
    let xs = packed_locks s mode old.tree U in
    let all = locks_of s U in
    let first : OnlyTakes F.honest F.means F.faults xs c.args.files.now c.take_packed.new.files = subst (λ p. OnlyTakes F.honest F.means F.faults (packed_locks s (mode_of_packing p) old.tree U) c.args.files.now c.take_packed.new.files) c.packing.ensures (rw c.deref.ensures.value at c.take_packed.ensures.takes) in
    let off : F.honest → (q : Path) → q ≢ lock_of s.packed_path → IsSameButWay (lock_of s.packed_path) old.tree mid.tree q = λ h. off_lock s old.tree mid.tree c.in-Ok.packed c.in-Ok.ensures.taken.place (c.in-Ok.ensures.taken.takes h) in
    let held : F.honest → map lock_of (packed_places c.in-Ok.packed) ≡ xs = λ h. ap (map lock_of) (subst (λ p. packed_places c.in-Ok.packed ≡ packed_taken s (mode_of_packing p) old.tree U) c.packing.ensures (rw c.deref.ensures.value at (c.in-Ok.ensures.taken.due h))) in
    let end = F.means c.find_and_lock.new.files in
    let is = c.in-Ok-find_and_lock.ensures.held in
    record {
      asked = is.asked;
      remains = is.remains;
      adds = λ h. ((takes_then_more F.honest F.means F.faults xs all _ _ _ first c.find_and_lock.ensures.takes).leaves h).tree;
      taken = λ h. let taken = is.taken h in record {
        settled = λ good. settled_on s kind old.tree mid.tree (off h) apart.packed_lock _ c.args.edits.items _ apart.packed_locks
            (taken.settled (subst (IsPackedWell kind) (sym (same_packed s kind old.tree mid.tree (off h) apart.packed_lock)) good));
        lockable = lockable_all_on s kind old.tree mid.tree (off h) apart.packed_lock [] U apart.packed_locks taken.lockable;
        whole = whole_both (disk_of mid) (disk_of end) xs all (λ q text. c.in-Ok-find_and_lock.ensures.wholes h q text)
            (subst (AreWholeLocks (disk_of mid)) (held h) (c.in-Ok.ensures.taken.whole h)) taken.whole;
      };
    }

pub returns-in-Ok-find_and_lock-clause-opened : goal.returns-in-Ok-find_and_lock-clause-opened
returns-in-Ok-find_and_lock-clause-opened g c h =
    let s = setting_of c.args.settings.now in
    let kind = c.args.settings.now.kind in
    let old = (g.F.Files.means c.args.files.now).tree in
    let mid = (g.F.Files.means c.take_packed.new.files).tree in
    let off = off_lock s old mid c.in-Ok.packed c.in-Ok.ensures.taken.place (c.in-Ok.ensures.taken.takes h) in
    subst (IsOpenable kind) (same_packed s kind old mid off c.requires.ready.apart.packed_lock) (c.in-Ok-find_and_lock.ensures.opened h)

pub returns-in-Ok-find_and_lock-clause-read : goal.returns-in-Ok-find_and_lock-clause-read
returns-in-Ok-find_and_lock-clause-read g c h =
    let s = setting_of c.args.settings.now in
    let kind = c.args.settings.now.kind in
    let apart = c.requires.ready.apart in
    let old = (g.F.Files.means c.args.files.now).tree in
    let mid = (g.F.Files.means c.take_packed.new.files).tree in
    let off = off_lock s old mid c.in-Ok.packed c.in-Ok.ensures.taken.place (c.in-Ok.ensures.taken.takes h) in
    record_ids_on s kind old mid off apart.packed_lock (updates c.args.edits.items) _ apart.packed_locks (c.in-Ok-find_and_lock.ensures.read h)

pub returns-in-Ok-find_and_lock-clause-packed : goal.returns-in-Ok-find_and_lock-clause-packed
returns-in-Ok-find_and_lock-clause-packed g c =
    record {
      place = c.in-Ok.ensures.taken.place;
      due = λ h. subst (λ p. packed_places c.in-Ok.packed ≡ packed_taken (setting_of c.args.settings.now) (mode_of_packing p) (g.F.Files.means c.args.files.now).tree (updates c.args.edits.items)) c.packing.ensures (rw c.deref.ensures.value at (c.in-Ok.ensures.taken.due h));
      empty = λ h. still_empty (g.F.Files.means c.take_packed.new.files).tree (g.F.Files.means c.find_and_lock.new.files).tree (locks_of (setting_of c.args.settings.now) (updates c.args.edits.items)) _ (c.in-Ok-find_and_lock.ensures.held.adds h)
          (taken_empty (g.F.Files.means c.args.files.now).tree (g.F.Files.means c.take_packed.new.files).tree c.in-Ok.packed (c.in-Ok.ensures.taken.takes h));
      free = λ h. subst (λ p. IsPackedLocked (setting_of c.args.settings.now) (mode_of_packing p) (g.F.Files.means c.args.files.now).tree (updates c.args.edits.items) → ⊥) c.packing.ensures (rw c.deref.ensures.value at (c.in-Ok.ensures.taken.free h));
    }

pub returns-in-Ok-find_and_lock-clause-takes : goal.returns-in-Ok-find_and_lock-clause-takes
returns-in-Ok-find_and_lock-clause-takes g c =
    let F = g.F.Files in
    let s = setting_of c.args.settings.now in
    let kind = c.args.settings.now.kind in
    let mode = mode_in c.args.packed_refs.now in
    let apart = c.requires.ready.apart in
    let old = F.means c.args.files.now in
    let mid = F.means c.take_packed.new.files in
    let U = updates c.args.edits.items in
    let xs = packed_locks s mode old.tree U in
    let all = locks_of s U in
    let first : OnlyTakes F.honest F.means F.faults xs c.args.files.now c.take_packed.new.files = subst (λ p. OnlyTakes F.honest F.means F.faults (packed_locks s (mode_of_packing p) old.tree U) c.args.files.now c.take_packed.new.files) c.packing.ensures (rw c.deref.ensures.value at c.take_packed.ensures.takes) in
    takes_then_more F.honest F.means F.faults xs all _ _ _ first c.find_and_lock.ensures.takes

pub returns-in-Err-clause-refused : goal.returns-in-Err-clause-refused
returns-in-Err-clause-refused g c =
    let F = g.F.Files in
    let s = setting_of c.args.settings.now in
    let kind = c.args.settings.now.kind in
    let mode = mode_in c.args.packed_refs.now in
    let apart = c.requires.ready.apart in
    let old = F.means c.args.files.now in
    let mid = F.means c.take_packed.new.files in
    let U = updates c.args.edits.items in
    let xs = packed_locks s mode old.tree U in
    let all = locks_of s U in
    let a = F.faults c.args.files.now in
    let b = F.faults c.take_packed.new.files in
    let outside = not_packed kind (old.tree s.packed_path) a b c.in-Err.error c.in-Err.ensures.refused.counted in
    record {
      cause = λ h good. ⊎_elim (λ fault. inl fault) (λ way. inr (inl (subst (λ p. IsPackedCause s (mode_of_packing p) old.tree U c.in-Err.error) c.packing.ensures way))) (rw c.deref.ensures.value at (c.in-Err.ensures.refused.cause h));
      opened = λ h. outside.0;
      unread = λ h. no_find _ a b c.in-Err.error c.in-Err.ensures.refused.counted;
      counted = outside.1 _ _;
    }

pub returns-in-Err-clause-removed : goal.returns-in-Err-clause-removed
returns-in-Err-clause-removed g c =
    let F = g.F.Files in
    let s = setting_of c.args.settings.now in
    let mode = mode_in c.args.packed_refs.now in
    let old = F.means c.args.files.now in
    let mid = F.means c.take_packed.new.files in
    let U = updates c.args.edits.items in
    let xs = packed_locks s mode old.tree U in
    let all = locks_of s U in
    let no_locks = c.requires.room.no_locks in
    record {
      as_before = λ h. adds_wider [] (paths_of c.args.remains.left.items) xs (xs ++ all) old.tree mid.tree (λ q none. clash none refl) (λ q ways. any_left (λ p. is_in (fronts p) q) xs all ways)
          (subst (λ p. AddsLocks [] (packed_locks s (mode_of_packing p) old.tree U) old.tree mid.tree) c.packing.ensures (rw c.deref.ensures.value at (c.in-Err.ensures.refused.kept h)));
      named = record {
        ours = λ q left. clash (ap (λ (l : List (Vec ℕ Global)). is_in (paths_of l) q) (sym no_locks) ∙ left) refl;
        once = λ q.
            let none : times q (paths_of c.args.remains.left.items) ≡ 0 = ap (λ (l : List (Vec ℕ Global)). times q (paths_of l)) no_locks in
            omega (arith, none);
        named = risen_by_none_left c.args.remains.left _ _ no_locks c.take_packed.ensures.takes.no_fewer;
      };
    }

pub returns-in-Err-clause-takes : goal.returns-in-Err-clause-takes
returns-in-Err-clause-takes g c =
    let F = g.F.Files in
    let s = setting_of c.args.settings.now in
    let kind = c.args.settings.now.kind in
    let mode = mode_in c.args.packed_refs.now in
    let apart = c.requires.ready.apart in
    let old = F.means c.args.files.now in
    let mid = F.means c.take_packed.new.files in
    let U = updates c.args.edits.items in
    let xs = packed_locks s mode old.tree U in
    let all = locks_of s U in
    let first : OnlyTakes F.honest F.means F.faults xs c.args.files.now c.take_packed.new.files = subst (λ p. OnlyTakes F.honest F.means F.faults (packed_locks s (mode_of_packing p) old.tree U) c.args.files.now c.take_packed.new.files) c.packing.ensures (rw c.deref.ensures.value at c.take_packed.ensures.takes) in
    takes_alone F.honest F.means F.faults xs all _ _ first

pub returns-in-Err-find_and_lock-clause-refused : goal.returns-in-Err-find_and_lock-clause-refused
returns-in-Err-find_and_lock-clause-refused g c =
    let F = g.F.Files in
    let s = setting_of c.args.settings.now in
    let kind = c.args.settings.now.kind in
    let mode = mode_in c.args.packed_refs.now in
    let apart = c.requires.ready.apart in
    let old = F.means c.args.files.now in
    let mid = F.means c.take_packed.new.files in
    let U = updates c.args.edits.items in
    let xs = packed_locks s mode old.tree U in
    let all = locks_of s U in
    let off : F.honest → (q : Path) → q ≢ lock_of s.packed_path → IsSameButWay (lock_of s.packed_path) old.tree mid.tree q = λ h. off_lock s old.tree mid.tree c.in-Ok.packed c.in-Ok.ensures.taken.place (c.in-Ok.ensures.taken.takes h) in
    let why = c.in-Err-find_and_lock.ensures.refused in
    let error = c.in-Err-find_and_lock.refused.failure.error in
    record {
      cause = λ h good. ⊎_elim (λ outside. inl outside)
          (λ later. inr (inr (
            subst (λ p. IsPackedLocked s (mode_of_packing p) old.tree U → ⊥) c.packing.ensures (rw c.deref.ensures.value at (c.in-Ok.ensures.taken.free h)),
            ⊎_elim (λ peel. inl peel) (λ first. inr (first.0, first_cause_on s kind old.tree mid.tree (off h) apart.packed_lock [] U error apart.packed_locks first.1)) later,
          )))
          (why.cause h (subst (IsPackedWell kind) (sym (same_packed s kind old.tree mid.tree (off h) apart.packed_lock)) good));
      opened = λ h. subst (λ (content : Option Content). IsPackedRefusal kind content error) (off_way s kind old.tree mid.tree (off h) apart.packed_lock s.packed_path apart.packed_lock apart.packed_way) (why.opened h);
      unread = λ h. find_cause_on s kind old.tree mid.tree (off h) apart.packed_lock U error apart.packed_locks (why.unread h);
      counted = counted_on _ _ (F.faults c.args.files.now) (F.faults c.take_packed.new.files) (F.faults c.release_packed.new.files) error c.take_packed.ensures.takes.no_fewer (counted_after _ _ (F.faults c.take_packed.new.files) (F.faults c.find_and_lock.new.files) (F.faults c.release_packed.new.files) error c.release_packed.ensures.releases.no_fewer why.counted);
    }

pub returns-in-Err-find_and_lock-clause-removed : goal.returns-in-Err-find_and_lock-clause-removed
returns-in-Err-find_and_lock-clause-removed g c =
    let F = g.F.Files in
    let s = setting_of c.args.settings.now in
    let kind = c.args.settings.now.kind in
    let mode = mode_in c.args.packed_refs.now in
    let apart = c.requires.ready.apart in
    let old = F.means c.args.files.now in
    let mid = F.means c.take_packed.new.files in
    let U = updates c.args.edits.items in
    let xs = packed_locks s mode old.tree U in
    let all = locks_of s U in
    let held : F.honest → map lock_of (packed_places c.in-Ok.packed) ≡ xs = λ h. ap (map lock_of) (subst (λ p. packed_places c.in-Ok.packed ≡ packed_taken s (mode_of_packing p) old.tree U) c.packing.ensures (rw c.deref.ensures.value at (c.in-Ok.ensures.taken.due h))) in
    let end = F.means c.find_and_lock.new.files in
    let new = F.means c.release_packed.new.files in
    let left = paths_of c.in-Err-find_and_lock.refused.failure.locks_left.items in
    let named = paths_of c.release_packed.new.left.items in
    let removed = c.in-Err-find_and_lock.ensures.removed in
    record {
      as_before = λ h. adds_again xs all left named old.tree mid.tree end.tree new.tree (taken_free old.tree mid.tree c.in-Ok.packed xs (held h) (c.in-Ok.ensures.taken.takes h))
          ((subst (λ p. OnlyTakes F.honest F.means F.faults (packed_locks s (mode_of_packing p) old.tree U) c.args.files.now c.take_packed.new.files) c.packing.ensures (rw c.deref.ensures.value at c.take_packed.ensures.takes)).leaves h).tree
          (removed.as_before h)
          (subst (λ (l : List Path). RemovesLocks l end.tree new.tree) (held h) (c.release_packed.ensures.releases.leaves h).tree)
          (λ q mine out. c.release_packed.ensures.gone h q (subst (λ (l : List Path). is_in l q ≡ true) (sym (held h)) mine) out)
          (λ q there. c.release_packed.ensures.named.kept q there);
      named = record {
        ours = possible s all c.in-Ok.packed c.in-Ok.ensures.taken.place left named c.release_packed.ensures.left removed.named.ours;
        once = λ q.
            let both : times q (lock_of s.packed_path ∷ all) ≡ times q (lock_of s.packed_path ∷ []) + times q all = times_append q (lock_of s.packed_path ∷ []) all in
            omega (arith, both, c.release_packed.ensures.named.once q, removed.named.once q, times_packed s q c.in-Ok.packed c.in-Ok.ensures.taken.place);
        named = c.release_packed.ensures.named.counted (F.faults c.args.files.now)
            (risen_by_before _ (F.faults c.args.files.now) (F.faults c.take_packed.new.files) (F.faults c.find_and_lock.new.files) c.take_packed.ensures.takes.no_fewer removed.named.named);
      };
    }

pub returns-in-Err-find_and_lock-clause-takes : goal.returns-in-Err-find_and_lock-clause-takes
returns-in-Err-find_and_lock-clause-takes g c =
    let F = g.F.Files in
    let s = setting_of c.args.settings.now in
    let kind = c.args.settings.now.kind in
    let mode = mode_in c.args.packed_refs.now in
    let apart = c.requires.ready.apart in
    let old = F.means c.args.files.now in
    let mid = F.means c.take_packed.new.files in
    let U = updates c.args.edits.items in
    let xs = packed_locks s mode old.tree U in
    let all = locks_of s U in
    let first : OnlyTakes F.honest F.means F.faults xs c.args.files.now c.take_packed.new.files = subst (λ p. OnlyTakes F.honest F.means F.faults (packed_locks s (mode_of_packing p) old.tree U) c.args.files.now c.take_packed.new.files) c.packing.ensures (rw c.deref.ensures.value at c.take_packed.ensures.takes) in
    let held : F.honest → map lock_of (packed_places c.in-Ok.packed) ≡ xs = λ h. ap (map lock_of) (subst (λ p. packed_places c.in-Ok.packed ≡ packed_taken s (mode_of_packing p) old.tree U) c.packing.ensures (rw c.deref.ensures.value at (c.in-Ok.ensures.taken.due h))) in
    let end = F.means c.find_and_lock.new.files in
    let new = F.means c.release_packed.new.files in
    let left = paths_of c.in-Err-find_and_lock.refused.failure.locks_left.items in
    let named = paths_of c.release_packed.new.left.items in
    let removed = c.in-Err-find_and_lock.ensures.removed in
    let both = takes_then_more F.honest F.means F.faults xs all _ _ _ first c.find_and_lock.ensures.takes in
    let less = c.release_packed.ensures.releases in
    record {
      leaves = λ h. leaves_again xs all old mid end new left (taken_free old.tree mid.tree c.in-Ok.packed xs (held h) (c.in-Ok.ensures.taken.takes h))
          (first.leaves h) (c.find_and_lock.ensures.takes.leaves h) (removed.as_before h) removed.named.ours
          (subst (λ (l : List Path). Leaves end new (RemovesLocks l end.tree)) (held h) (less.leaves h));
      passes = λ h. takes_less xs all old end new (both.passes h)
          (subst (λ (l : List Path). OnlyRemoves l end new) (held h) (less.passes h));
      no_fewer = no_fewer_joins both.no_fewer less.no_fewer;
    }

pub find_and_lock-requires-clause-absent : goal.find_and_lock-requires-clause-absent
find_and_lock-requires-clause-absent g c h is =
    let F = g.F.Files in
    let s = setting_of c.args.settings.now in
    let kind = c.args.settings.now.kind in
    let apart = c.requires.ready.apart in
    let old = F.means c.args.files.now in
    let mid = F.means c.take_packed.new.files in
    let U = updates c.args.edits.items in
    let off : (q : Path) → q ≢ lock_of s.packed_path → IsSameButWay (lock_of s.packed_path) old.tree mid.tree q = off_lock s old.tree mid.tree c.in-Ok.packed c.in-Ok.ensures.taken.place (c.in-Ok.ensures.taken.takes h) in
    let due : packed_places c.in-Ok.packed ≡ packed_taken s (mode_of_packing c.packing.result) old.tree U = rw c.deref.ensures.value at (c.in-Ok.ensures.taken.due h) in
    same_packed s kind old.tree mid.tree off apart.packed_lock
    ∙ c.known_missing-known_missing.ensures (mode_of_packing c.packing.result) old.tree
    (subst (λ (l : List Edit). packed_places c.in-Ok.packed ≡ packed_taken s (mode_of_packing c.packing.result) old.tree (updates l)) (sym c.deref-2.ensures.value) due) is
