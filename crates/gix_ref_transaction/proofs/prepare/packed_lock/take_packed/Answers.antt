use Rattle.gix_ref_transaction.proofs.Faults.{told_fault}
use Rattle.std.proofs.lemmas.Result.{err_from_is_err_and}
use Rattle.gix_ref_files.proofs.Meeting.{fewer_same, fewer_after}
use Rattle.gix_ref_files.proofs.Meeting.{no_fewer_joins}
use Rattle.std.proofs.Common.{rules, ◌≡◌, inl, inr, ⊎_elim, List, [], ◌∷◌, true, false, IsSome, Option, Some, map, sym, ◌∙◌, ap, subst}
use Rattle.gix_ref_files.specs.Tree.{Tree, Path, is_file, node_at}
use Rattle.gix_ref_files.specs.Disk.{Disk}
use Rattle.gix_ref_files.specs.Files.{disk_of}
use Rattle.gix_ref_files.specs.Lock.{lock_of}
use Rattle.gix_ref_theory.specs.OnDisks.{IsAsBefore}
use Rattle.gix_ref_theory.specs.Views.{IsOwnLock}
use Rattle.gix_ref_transaction.specs.OwnLocks.{is_in, AddsLocks}
use Rattle.gix_ref_transaction.proofs.Adds.{in_here}
use Rattle.gix_ref_files.proofs.Moments.{joins, weaken, passes_joins, passes_weaken}
use Rattle.gix_ref_transaction.specs.Causes.{ask_packed, IsCounted, IsInTheWay}
use Rattle.gix_ref_theory.proofs.LockDisks.{locking_as_before}
use Rattle.gix_ref_transaction.specs.Causes.{may_change}
use Rattle.gix_ref_transaction.specs.Packing.{mode_of_packing}
use Rattle.gix_ref_transaction.specs.PackedLock.{IsPackedFault, IsPackedTaken}
use Rattle.gix_ref_transaction.specs.PrepareSteps.{packed_locks, packed_places, setting_of, updates, AreWholeLocks, TakesPacked}
use Rattle.gix_ref_transaction.proofs.PackedLemmas.{if_err, if_ok}
use Rattle.gix_ref_transaction.proofs.PackedLocks.{on_true}
use Rattle.gix_ref_transaction.proofs.PackedLocks.{asked, due_taken, file_led, file_there, in_the_way, may_by, passed, something_there, unasked_free, unasked_taken, was_free}
use Rattle.gix_ref_transaction.specs.declared.prepare.error.Error.{Error}
use Rattle.gix_ref_transaction.specs.declared.prepare.error.Error.TheVariants.{PackedTransactionAcquire}
use Rattle.gix_ref_transaction.proofs.prepare.packed_lock.take_packed.Goals as goal

pub returns-then-not-may_touch_packed_refs-clause-taken : goal.returns-then-not-may_touch_packed_refs-clause-taken
returns-then-not-may_touch_packed_refs-clause-taken g c =
    let s = setting_of c.args.settings.now in
    let T = (g.F.Files.means c.args.files.now).tree in
    let edits = updates c.args.edits.now in
    let asks_not : ask_packed s edits ≡ false = asked s c.args.edits.now c.may_touch_packed_refs.result c.may_touch_packed_refs.ensures ∙ c.if-not-may_touch_packed_refs.true in
    record {
      place = search rules;
      due = λ h. unasked_taken s (mode_of_packing c.args.packing) T edits asks_not;
      free = λ h. unasked_free s (mode_of_packing c.args.packing) T edits asks_not;
      takes = search rules;
      whole = search rules;
    }

pub returns-in_err-kind-clause-takes : goal.returns-in_err-kind-clause-takes
returns-in_err-kind-clause-takes g c = record {
  leaves = λ h. weaken (c.kind.ensures.leaves h) (λ R is q. inl (ap (λ (U : Tree). U q) is));
  passes = λ h locked staying first own here. passes_weaken (c.kind.ensures.passes h) (λ (E : Disk) is. subst (IsAsBefore locked staying first) (sym is) here);
  no_fewer = fewer_after c.kind.result _ _ c.kind.ensures.count.0;
}

pub take_lock-requires : goal.take_lock-requires
take_lock-requires g c =
    let F = g.F.Files in
    let s = setting_of c.args.settings.now in
    let lock = c.in_ok-lock.lock in
    let at : lock ≡ s.packed_path = c.in_ok-lock.ensures ∙ c.in_ok-packed_refs_path.ensures in
    λ h there.
    let T = (F.means c.kind.new.self).tree in
    let old = (F.means c.args.files.now).tree in
    let same : T ≡ old = (c.kind.ensures.leaves h).tree in
    let node : c.in_ok-kind.field-0 ≡ node_at old s.packed_path = c.in_ok-kind.ensures.answer h ∙ ap (node_at old) (c.place.ensures ∙ at) in
    file_led T lock (g.met.F.Files.shaped c.kind.new.self h)
    (subst (λ (p : Path). is_file (T p) ≡ true) (sym at) (subst (λ (R : Tree). is_file (R s.packed_path) ≡ true) (sym same) (file_there old s.packed_path (sym node ∙ on_true _ _ c.is_file_node-is_there.result there c.is_file_node-is_there.ensures))))

pub returns-then-may_change-clause-taken : goal.returns-then-may_change-clause-taken
returns-then-may_change-clause-taken g c =
    let F = g.F.Files in
    let s = setting_of c.args.settings.now in
    let mode = mode_of_packing c.args.packing in
    let old = F.means c.args.files.now in
    let T = old.tree in
    let edits = updates c.args.edits.now in
    let lock = c.in_ok-lock.lock in
    let asks : ask_packed s edits ≡ true = asked s c.args.edits.now c.may_touch_packed_refs.result c.may_touch_packed_refs.ensures ∙ c.if-not-may_touch_packed_refs.false in
    let at : lock ≡ s.packed_path = c.in_ok-lock.ensures ∙ c.in_ok-packed_refs_path.ensures in
    let same : F.honest → (F.means c.kind.new.self).tree ≡ T = λ h. (c.kind.ensures.leaves h).tree in
    let node : F.honest → c.in_ok-kind.field-0 ≡ node_at T s.packed_path = λ h. c.in_ok-kind.ensures.answer h ∙ ap (node_at T) (c.place.ensures ∙ at) in
    let due : F.honest → may_change s mode T edits ≡ c.may_change.result = λ h. may_by s mode T c.args.edits.now c.in_ok-kind.field-0 (node h) c.is_file_node-is_there.result c.is_file_node-is_there.ensures c.may_change.result c.may_change.ensures in
    let r = c.take_lock.result in
    let may : F.honest → may_change s mode T edits ≡ true = λ h. due h ∙ c.if-may_change.true in
    if_ok r (λ (packed : Option Path) (is : IsPackedTaken F.honest lock (F.means c.kind.new.self) (F.means c.take_lock.new.files) packed). record {
      place = inr (is.same ∙ ap Some at);
      due = λ h. ap packed_places is.same ∙ (ap (λ (p : Path). p ∷ []) at ∙ due_taken s mode T edits asks (may h));
      free = λ h. was_free s mode T edits asks (may h) lock at (λ way. is.free h (subst (λ (R : Tree). IsInTheWay R (lock_of lock)) (sym (same h)) way));
      takes = λ h. subst (λ (p : Option Path). TakesPacked T p (F.means c.take_lock.new.files).tree) (sym is.same)
          (subst (λ (R : Tree). TakesPacked R (Some lock) (F.means c.take_lock.new.files).tree) (same h) (is.takes h));
      whole = λ h. subst (λ (p : Option Path). AreWholeLocks (disk_of (F.means c.take_lock.new.files)) (map lock_of (packed_places p))) (sym is.same) (([], is.whole h), tt);
    }) c.take_lock.ensures.taken

pub returns-then-may_change-clause-refused : goal.returns-then-may_change-clause-refused
returns-then-may_change-clause-refused g c =
    let F = g.F.Files in
    let s = setting_of c.args.settings.now in
    let mode = mode_of_packing c.args.packing in
    let old = F.means c.args.files.now in
    let T = old.tree in
    let edits = updates c.args.edits.now in
    let lock = c.in_ok-lock.lock in
    let asks : ask_packed s edits ≡ true = asked s c.args.edits.now c.may_touch_packed_refs.result c.may_touch_packed_refs.ensures ∙ c.if-not-may_touch_packed_refs.false in
    let at : lock ≡ s.packed_path = c.in_ok-lock.ensures ∙ c.in_ok-packed_refs_path.ensures in
    let same : F.honest → (F.means c.kind.new.self).tree ≡ T = λ h. (c.kind.ensures.leaves h).tree in
    let node : F.honest → c.in_ok-kind.field-0 ≡ node_at T s.packed_path = λ h. c.in_ok-kind.ensures.answer h ∙ ap (node_at T) (c.place.ensures ∙ at) in
    let due : F.honest → may_change s mode T edits ≡ c.may_change.result = λ h. may_by s mode T c.args.edits.now c.in_ok-kind.field-0 (node h) c.is_file_node-is_there.result c.is_file_node-is_there.ensures c.may_change.result c.may_change.ensures in
    let r = c.take_lock.result in
    let new = c.take_lock.new.files in
    let may : F.honest → may_change s mode T edits ≡ true = λ h. due h ∙ c.if-may_change.true in
    if_err r (λ (e : Error) (why : IsPackedFault F.honest F.means F.faults (lock_of lock ∷ []) (λ error. IsInTheWay (F.means c.kind.new.self).tree (lock_of lock) × (error ≡ PackedTransactionAcquire)) c.kind.new.self new e). record {
      cause = λ h. ⊎_elim (λ outside. inl outside)
          (λ there. inr (in_the_way s mode T edits asks (may h) lock at e (subst (λ (R : Tree). IsInTheWay R (lock_of lock)) (same h) there.0) there.1)) (why.cause h);
      kept = λ h. subst (λ (l : List Path). AddsLocks [] l T (F.means new).tree) (ap (map lock_of) (due_taken s mode T edits asks (may h)))
          (subst (λ (p : Path). AddsLocks [] (lock_of p ∷ []) T (F.means new).tree) at (subst (λ (R : Tree). AddsLocks [] (lock_of lock ∷ []) R (F.means new).tree) (same h) (why.kept h)));
      counted = subst (λ n. IsCounted n (F.faults new) e) c.in_ok-kind.ensures.count.0 why.counted;
    }) c.take_lock.ensures.refused

pub returns-then-may_change-clause-takes : goal.returns-then-may_change-clause-takes
returns-then-may_change-clause-takes g c =
    let F = g.F.Files in
    let s = setting_of c.args.settings.now in
    let mode = mode_of_packing c.args.packing in
    let old = F.means c.args.files.now in
    let T = old.tree in
    let edits = updates c.args.edits.now in
    let lock = c.in_ok-lock.lock in
    let asks : ask_packed s edits ≡ true = asked s c.args.edits.now c.may_touch_packed_refs.result c.may_touch_packed_refs.ensures ∙ c.if-not-may_touch_packed_refs.false in
    let at : lock ≡ s.packed_path = c.in_ok-lock.ensures ∙ c.in_ok-packed_refs_path.ensures in
    let same : F.honest → (F.means c.kind.new.self).tree ≡ T = λ h. (c.kind.ensures.leaves h).tree in
    let node : F.honest → c.in_ok-kind.field-0 ≡ node_at T s.packed_path = λ h. c.in_ok-kind.ensures.answer h ∙ ap (node_at T) (c.place.ensures ∙ at) in
    let due : F.honest → may_change s mode T edits ≡ c.may_change.result = λ h. may_by s mode T c.args.edits.now c.in_ok-kind.field-0 (node h) c.is_file_node-is_there.result c.is_file_node-is_there.ensures c.may_change.result c.may_change.ensures in
    let takes = c.take_lock.ensures.takes in
    let locks : F.honest → map lock_of (s.packed_path ∷ []) ≡ packed_locks s mode T edits = λ h. ap (map lock_of) (due_taken s mode T edits asks (due h ∙ c.if-may_change.true)) in
    record {
      leaves = λ h. joins (weaken (c.kind.ensures.leaves h) (λ R is q. inl (ap (λ (U : Tree). U q) is)))
          (weaken (takes.leaves h) (λ R made. subst (λ (l : List Path). AddsLocks l l T R) (locks h)
          (subst (λ (p : Path). AddsLocks (lock_of p ∷ []) (lock_of p ∷ []) T R) at
          (subst (λ (U : Tree). AddsLocks (lock_of lock ∷ []) (lock_of lock ∷ []) U R) (same h) made))));
      passes = λ h locked staying first own here.
          let still = (c.kind.ensures.passes h).disk in
          let mine : IsOwnLock locked (lock_of lock) = own (lock_of lock) (subst (λ (l : List Path). is_in l (lock_of lock) ≡ true) (locks h) (in_here (lock_of s.packed_path) (lock_of lock) [] (ap lock_of (sym at)))) in
          passes_joins (passes_weaken (c.kind.ensures.passes h) (λ (E : Disk) is. subst (IsAsBefore locked staying first) (sym is) here))
          (passes_weaken (takes.passes h) (λ (E : Disk) found. locking_as_before locked staying first _ E lock mine (subst (IsAsBefore locked staying first) (sym still) here) found));
      no_fewer = no_fewer_joins (fewer_same _ _ c.in_ok-kind.ensures.count.0) takes.no_fewer;
    }

pub returns-else-may_change-clause-taken : goal.returns-else-may_change-clause-taken
returns-else-may_change-clause-taken g c =
    let F = g.F.Files in
    let s = setting_of c.args.settings.now in
    let mode = mode_of_packing c.args.packing in
    let old = F.means c.args.files.now in
    let T = old.tree in
    let edits = updates c.args.edits.now in
    let lock = c.in_ok-lock.lock in
    let asks : ask_packed s edits ≡ true = asked s c.args.edits.now c.may_touch_packed_refs.result c.may_touch_packed_refs.ensures ∙ c.if-not-may_touch_packed_refs.false in
    let at : lock ≡ s.packed_path = c.in_ok-lock.ensures ∙ c.in_ok-packed_refs_path.ensures in
    let same : F.honest → (F.means c.kind.new.self).tree ≡ T = λ h. (c.kind.ensures.leaves h).tree in
    let node : F.honest → c.in_ok-kind.field-0 ≡ node_at T s.packed_path = λ h. c.in_ok-kind.ensures.answer h ∙ ap (node_at T) (c.place.ensures ∙ at) in
    let due : F.honest → may_change s mode T edits ≡ c.may_change.result = λ h. may_by s mode T c.args.edits.now c.in_ok-kind.field-0 (node h) c.is_file_node-is_there.result c.is_file_node-is_there.ensures c.may_change.result c.may_change.ensures in
    let reads = c.refuse_stale_lock.ensures.reads in
    let new = c.refuse_stale_lock.new.files in
    let all : F.honest → (F.means new).tree ≡ T = λ h. (reads.leaves h).tree ∙ same h in
    passed F.honest s mode edits old (F.means c.kind.new.self) (F.means new) asks (λ h. due h ∙ c.if-may_change.false) lock at same all c.refuse_stale_lock.result c.refuse_stale_lock.ensures.none c.refuse_stale_lock.ensures.free

pub returns-else-may_change-clause-refused : goal.returns-else-may_change-clause-refused
returns-else-may_change-clause-refused g c =
    let F = g.F.Files in
    let s = setting_of c.args.settings.now in
    let mode = mode_of_packing c.args.packing in
    let old = F.means c.args.files.now in
    let T = old.tree in
    let edits = updates c.args.edits.now in
    let lock = c.in_ok-lock.lock in
    let asks : ask_packed s edits ≡ true = asked s c.args.edits.now c.may_touch_packed_refs.result c.may_touch_packed_refs.ensures ∙ c.if-not-may_touch_packed_refs.false in
    let at : lock ≡ s.packed_path = c.in_ok-lock.ensures ∙ c.in_ok-packed_refs_path.ensures in
    let same : F.honest → (F.means c.kind.new.self).tree ≡ T = λ h. (c.kind.ensures.leaves h).tree in
    let node : F.honest → c.in_ok-kind.field-0 ≡ node_at T s.packed_path = λ h. c.in_ok-kind.ensures.answer h ∙ ap (node_at T) (c.place.ensures ∙ at) in
    let due : F.honest → may_change s mode T edits ≡ c.may_change.result = λ h. may_by s mode T c.args.edits.now c.in_ok-kind.field-0 (node h) c.is_file_node-is_there.result c.is_file_node-is_there.ensures c.may_change.result c.may_change.ensures in
    let reads = c.refuse_stale_lock.ensures.reads in
    let new = c.refuse_stale_lock.new.files in
    let r = c.refuse_stale_lock.result in
    if_err r (λ (e : Error) (why : IsPackedFault F.honest F.means F.faults (lock_of lock ∷ []) (λ error. IsSome ((F.means c.kind.new.self).tree (lock_of lock)) × (error ≡ PackedTransactionAcquire)) c.kind.new.self new e). record {
      cause = λ h. ⊎_elim (λ outside. inl outside)
          (λ there. inr (something_there s mode T edits asks (due h ∙ c.if-may_change.false) lock at e (subst (λ (R : Tree). IsSome (R (lock_of lock))) (same h) there.0) there.1)) (why.cause h);
      kept = λ h q. inl (ap (λ (U : Tree). U q) ((reads.leaves h).tree ∙ same h));
      counted = subst (λ n. IsCounted n (F.faults new) e) c.in_ok-kind.ensures.count.0 why.counted;
    }) c.refuse_stale_lock.ensures.refused

pub returns-else-may_change-clause-takes : goal.returns-else-may_change-clause-takes
returns-else-may_change-clause-takes g c =
    let F = g.F.Files in
    let s = setting_of c.args.settings.now in
    let mode = mode_of_packing c.args.packing in
    let old = F.means c.args.files.now in
    let T = old.tree in
    let edits = updates c.args.edits.now in
    let lock = c.in_ok-lock.lock in
    let asks : ask_packed s edits ≡ true = asked s c.args.edits.now c.may_touch_packed_refs.result c.may_touch_packed_refs.ensures ∙ c.if-not-may_touch_packed_refs.false in
    let at : lock ≡ s.packed_path = c.in_ok-lock.ensures ∙ c.in_ok-packed_refs_path.ensures in
    let same : F.honest → (F.means c.kind.new.self).tree ≡ T = λ h. (c.kind.ensures.leaves h).tree in
    let node : F.honest → c.in_ok-kind.field-0 ≡ node_at T s.packed_path = λ h. c.in_ok-kind.ensures.answer h ∙ ap (node_at T) (c.place.ensures ∙ at) in
    let due : F.honest → may_change s mode T edits ≡ c.may_change.result = λ h. may_by s mode T c.args.edits.now c.in_ok-kind.field-0 (node h) c.is_file_node-is_there.result c.is_file_node-is_there.ensures c.may_change.result c.may_change.ensures in
    let reads = c.refuse_stale_lock.ensures.reads in
    record {
      leaves = λ h. joins (weaken (c.kind.ensures.leaves h) (λ R is q. inl (ap (λ (U : Tree). U q) is)))
          (weaken (reads.leaves h) (λ R is q. inl (ap (λ (U : Tree). U q) (is ∙ same h))));
      passes = λ h locked staying first' own here.
          let still = (c.kind.ensures.passes h).disk in
          passes_joins (passes_weaken (c.kind.ensures.passes h) (λ (E : Disk) is. subst (IsAsBefore locked staying first') (sym is) here))
          (passes_weaken (reads.passes h) (λ (E : Disk) is. subst (IsAsBefore locked staying first') (sym (is ∙ still)) here));
      no_fewer = no_fewer_joins (fewer_same _ _ c.in_ok-kind.ensures.count.0) reads.no_fewer;
    }

pub returns-in_err-kind-clause-refused : goal.returns-in_err-kind-clause-refused
returns-in_err-kind-clause-refused g c =
    let told = err_from_is_err_and c.from_residual-in_err-kind.result c.from_residual-in_err-kind.ensures.1 in
    rw (told.1, told.2) (record {
      cause = search rules;
      kept = search rules;
      counted = told_fault _ _ _ c.in_err-kind.ensures.count.0;
    })
