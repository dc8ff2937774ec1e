use Rattle.gix_ref_files.proofs.Meeting.{no_fewer_joins}
use Rattle.gix_ref_transaction.proofs.Faults.{risen_by_none_left}
use Rattle.std.proofs.Common.{rules, ◌≡◌, ⊎_elim, ℕ, List, [], ◌++◌, true, None, take, drop, length, refl, sym, ◌∙◌, ap, subst, arith, Vec}
use Rattle.std.specs.declared.alloc.Global.{Global}
use Rattle.gix_ref_files.specs.Files.{Leaves}
use Rattle.gix_ref_files.specs.Tree.{Path}
use Rattle.gix_ref_files.proofs.Moments.{passes_joins}
use Rattle.gix_ref_transaction.specs.OwnLocks.{paths_of, times, AddsLocks, is_in}
use Rattle.gix_ref_transaction.specs.Causes.{locks_of}
use Rattle.gix_ref_transaction.specs.HeldLocks.{AreTaken}
use Rattle.gix_ref_transaction.specs.Packing.{mode_of_packing}
use Rattle.gix_ref_transaction.specs.PrepareSteps.{setting_of, lock_paths, updates, all_asked, all_given, ids_in, packed_ids}
use Rattle.gix_ref_transaction.specs.declared.edit.Edit.{Edit}
use Rattle.gix_ref_transaction.proofs.Adds.{clash}
use Rattle.gix_ref_transaction.proofs.PackedLemmas.{asked_alike, asked_over, updates_alike}
use Rattle.gix_ref_transaction.proofs.Removing.{locks_given, cleaned, cleaning}
use Rattle.gix_ref_transaction.proofs.Taking.{front_in}
use Rattle.gix_ref_transaction.proofs.TimesLeft.{times_first}
use Rattle.gix_ref_transaction.proofs.prepare.hold.lock_all_or_none.Goals as goal

pub take_locks-requires-clause-ready : goal.take_locks-requires-clause-ready
take_locks-requires-clause-ready g c = rw c.deref_mut.ensures.value c.requires.ready

pub returns-in-Ok-clause-held : goal.returns-in-Ok-clause-held
returns-in-Ok-clause-held g c =
    let s = setting_of c.args.settings.now in
    let kind = c.args.settings.now.kind in
    let first = g.F.Files.means c.args.files.now in
    let last = g.F.Files.means c.take_locks.new.files in
    let given = c.deref_mut.result.now in
    let same : given ≡ c.args.edits.items = c.deref_mut.ensures.value in
    let asked : all_asked c.take_locks.new.edits ≡ all_asked given = asked_alike given c.take_locks.new.edits c.take_locks.ensures.given in
    let now = take c.args.edits.len (c.take_locks.new.edits ++ drop (length c.take_locks.new.edits) c.args.edits.items) in
    let over : now ≡ c.take_locks.new.edits = asked_over c.args.edits.len given c.take_locks.new.edits _ asked c.deref_mut.ensures.len in
    record {
      asked = ap all_asked over ∙ (asked ∙ ap all_asked same);
      remains = refl;
      adds = search rules;
      taken = λ h. subst (λ (l : List Edit). AreTaken (ids_in l ≡ packed_ids s first.tree (updates l)) s (mode_of_packing c.args.packing) kind (locks_of s (updates l)) first last l now) same
          (subst (λ (l : List Edit). AreTaken (ids_in given ≡ packed_ids s first.tree (updates given)) s (mode_of_packing c.args.packing) kind (locks_of s (updates given)) first last given l) (sym over) (c.in-Ok.ensures.taken h));
    }

pub returns-in-Ok-clause-takes : goal.returns-in-Ok-clause-takes
returns-in-Ok-clause-takes g c = rw c.deref_mut.ensures.value at c.take_locks.ensures.takes

pub returns-in-Err-clause-refused : goal.returns-in-Err-clause-refused
returns-in-Err-clause-refused g c = record {
  first = rw c.deref_mut.ensures.value at c.in-Err.ensures.refused.first;
  counted = search rules;
}

pub returns-in-Err-clause-removed : goal.returns-in-Err-clause-removed
returns-in-Err-clause-removed g c =
    let s = setting_of c.args.settings.now in
    let edits = updates c.args.edits.items in
    let n = c.take_locks.new.taken in
    let all_now = take c.args.edits.len (c.take_locks.new.edits ++ drop (length c.take_locks.new.edits) c.args.edits.items) in
    let same : lock_paths (take n all_now) ≡ locks_of s (take n edits) =
    ap (λ (l : List Edit). lock_paths (take n l)) (asked_over c.args.edits.len c.deref_mut.result.now c.take_locks.new.edits _ (asked_alike c.deref_mut.result.now c.take_locks.new.edits c.take_locks.ensures.given) c.deref_mut.ensures.len)
    ∙ locks_given s c.args.edits.items c.take_locks.new.edits n c.requires.ready.places (c.take_locks.ensures.given ∙ ap all_given c.deref_mut.ensures.value) in
    let first = g.F.Files.means c.args.files.now in
    let mid = g.F.Files.means c.take_locks.new.files in
    let now = g.F.Files.means c.release_taken-remains.new.files in
    let all = locks_of s edits in
    let locks = lock_paths (take n all_now) in
    let free : g.F.Files.honest → (q : Path) → is_in locks q ≡ true → first.tree q ≡ None = λ h q taken.
    c.take_locks.ensures.first.free h q (subst (λ (l : List Path). is_in l q ≡ true) (same ∙ ap (λ (l : List Edit). locks_of s (take n (updates l))) (sym c.deref_mut.ensures.value)) taken) in
    let adds : g.F.Files.honest → AddsLocks locks all first.tree mid.tree = λ h.
    subst (λ (l : List Path). AddsLocks l all first.tree mid.tree) (sym same)
    (subst (λ (l : List Edit). AddsLocks (locks_of s (take n (updates l))) (locks_of s (updates l)) first.tree mid.tree) c.deref_mut.ensures.value (c.take_locks.ensures.first.adds h)) in
    let known = λ (q : Path) (taken : is_in locks q ≡ true). front_in s c.args.settings.now.kind edits n q (subst (λ (l : List Path). is_in l q ≡ true) same taken) in
    let next = c.release_taken-remains.ensures.releases in
    let left = paths_of c.release_taken-remains.result.left.items in
    let named = c.release_taken-remains.ensures.named in
    let no_locks = c.requires.room.no_locks in
    record {
      as_before = λ h. cleaned all locks first mid now (free h) (adds h) known (next.leaves h) left
          (λ q taken out. c.release_taken-remains.ensures.gone h q taken out);
      named = record {
        ours = λ q there. front_in s c.args.settings.now.kind edits n q (subst (λ (l : List Path). is_in l q ≡ true) same
            (⊎_elim (λ before. clash (ap (λ (l : List (Vec ℕ Global)). is_in (paths_of l) q) (sym no_locks) ∙ before) refl) (λ mine. mine) (named.ours q there)));
        once = λ q.
            let none : times q (paths_of c.args.remains.left.items) ≡ 0 = ap (λ (l : List (Vec ℕ Global)). times q (paths_of l)) no_locks in
            let front : times q locks ≡ times q (locks_of s (take n edits)) = ap (times q) same in
            omega (arith, none, front, named.once q, times_first s q n edits);
        named = named.counted (g.F.Files.faults c.args.files.now)
            (risen_by_none_left c.args.remains.left _ _ no_locks c.take_locks.ensures.takes.no_fewer);
      };
    }

pub returns-in-Err-clause-edits : goal.returns-in-Err-clause-edits
returns-in-Err-clause-edits g c =
    let given = c.deref_mut.result.now in
    let same : given ≡ c.args.edits.items = c.deref_mut.ensures.value in
    let asked : all_asked c.take_locks.new.edits ≡ all_asked given = asked_alike given c.take_locks.new.edits c.take_locks.ensures.given in
    let now = take c.args.edits.len (c.take_locks.new.edits ++ drop (length c.take_locks.new.edits) c.args.edits.items) in
    let over : now ≡ c.take_locks.new.edits = asked_over c.args.edits.len given c.take_locks.new.edits _ asked c.deref_mut.ensures.len in
    c.release_taken-remains.ensures.edits ∙ updates_alike c.args.edits.items now (ap all_asked over ∙ (asked ∙ ap all_asked same))

pub returns-in-Err-clause-takes : goal.returns-in-Err-clause-takes
returns-in-Err-clause-takes g c =
    let s = setting_of c.args.settings.now in
    let edits = updates c.args.edits.items in
    let n = c.take_locks.new.taken in
    let all_now = take c.args.edits.len (c.take_locks.new.edits ++ drop (length c.take_locks.new.edits) c.args.edits.items) in
    let same : lock_paths (take n all_now) ≡ locks_of s (take n edits) =
    ap (λ (l : List Edit). lock_paths (take n l)) (asked_over c.args.edits.len c.deref_mut.result.now c.take_locks.new.edits _ (asked_alike c.deref_mut.result.now c.take_locks.new.edits c.take_locks.ensures.given) c.deref_mut.ensures.len)
    ∙ locks_given s c.args.edits.items c.take_locks.new.edits n c.requires.ready.places (c.take_locks.ensures.given ∙ ap all_given c.deref_mut.ensures.value) in
    let first = g.F.Files.means c.args.files.now in
    let mid = g.F.Files.means c.take_locks.new.files in
    let now = g.F.Files.means c.release_taken-remains.new.files in
    let all = locks_of s edits in
    let locks = lock_paths (take n all_now) in
    let free : g.F.Files.honest → (q : Path) → is_in locks q ≡ true → first.tree q ≡ None = λ h q taken.
    c.take_locks.ensures.first.free h q (subst (λ (l : List Path). is_in l q ≡ true) (same ∙ ap (λ (l : List Edit). locks_of s (take n (updates l))) (sym c.deref_mut.ensures.value)) taken) in
    let adds : g.F.Files.honest → AddsLocks locks all first.tree mid.tree = λ h.
    subst (λ (l : List Path). AddsLocks l all first.tree mid.tree) (sym same)
    (subst (λ (l : List Edit). AddsLocks (locks_of s (take n (updates l))) (locks_of s (updates l)) first.tree mid.tree) c.deref_mut.ensures.value (c.take_locks.ensures.first.adds h)) in
    let known = λ (q : Path) (taken : is_in locks q ≡ true). front_in s c.args.settings.now.kind edits n q (subst (λ (l : List Path). is_in l q ≡ true) same taken) in
    let next = c.release_taken-remains.ensures.releases in
    record {
      leaves = λ h. cleaning all locks first mid now (free h) (adds h) known (next.leaves h)
          (subst (λ (l : List Edit). Leaves first mid (AddsLocks (locks_of s (updates l)) (locks_of s (updates l)) first.tree)) c.deref_mut.ensures.value (c.take_locks.ensures.takes.leaves h));
      passes = λ h locked staying D own here.
          let run = (rw c.deref_mut.ensures.value at (c.take_locks.ensures.takes.passes h)) locked staying D own here in
          passes_joins run (next.passes h locked staying [] D (λ q within. own q (known q within)) run.disk);
      no_fewer = no_fewer_joins c.take_locks.ensures.takes.no_fewer next.no_fewer;
    }
