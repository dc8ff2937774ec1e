use Rattle.gix_ref_files.proofs.Meeting.{no_fewer_joins}
use Rattle.std.proofs.Common.{◌≡◌, ◌≤◌, ◌<◌, ◌+◌, inr, ⊎_elim, ℕ, List, [], ◌∷◌, ◌++◌, Bool, true, false, not, ◌&&◌, if◌then◌else◌, refl, sym, ◌∙◌, ap, subst, arith, reverse, vec_len, length, append_assoc}
use Rattle.std.specs.Prelude.{nat_lt, nat_eq}
use Rattle.std.specs.Bool.{OnFalse}
use Rattle.std.proofs.lemmas.Bool.{eqb-true, eqb-false}
use Rattle.std.proofs.lemmas.List.{map-append, reverse-append}
use Rattle.gix_ref_files.specs.Files.{HasRisen}
use Rattle.gix_ref_files.specs.Lock.{lock_of}
use Rattle.gix_ref_files.specs.Tree.{Path}
use Rattle.gix_ref_transaction.specs.OwnLocks.{paths_of, is_in, times}
use Rattle.gix_ref_transaction.specs.Effects.{is_write}
use Rattle.gix_ref_transaction.specs.CommitRenames.{lock_at, log_at, path_in, place_at, is_written_at}
use Rattle.gix_ref_transaction.specs.PrepareSteps.{lock_paths, updates}
use Rattle.gix_ref_transaction.specs.declared.edit.Edit.{Edit}
use Rattle.gix_ref_transaction.proofs.Adds.{clash, in_here}
use Rattle.gix_ref_transaction.proofs.Faults.{risen_by_lock}
use Rattle.gix_ref_transaction.proofs.Removals.{one_trees, removals_leave, removals_more, removals_only}
use Rattle.gix_ref_transaction.proofs.Removing.{named_cases, named_here, named_kept, named_once}
use Rattle.gix_ref_transaction.proofs.Renames.{flag_there, log_there, lock_there, lock_within, place_there, released}
use Rattle.gix_ref_transaction.proofs.release.release_each.Goals as goal

-- all of them, parted at the one that is released
parted : (all edits rest : List Edit) (own : Edit) (tail : List Edit) → all ≡ edits ++ tail → edits ≡ rest ++ own ∷ [] → all ≡ rest ++ own ∷ tail
parted all edits rest own tail whole split = whole ∙ (ap (λ (l : List Edit). l ++ tail) split ∙ append_assoc rest (own ∷ []) tail)

gone_here : {P : Type 0} (b : Bool) → (b ≡ true → P) → (b ≡ false → ⊥) → P
gone_here true done left = done refl
gone_here false done left = absurd (left refl)

-- the place that is kept, or the path of the log
place_then : (at done : ℕ) (own old new target : List ℕ) → new ≡ (if nat_eq at done then own else old) → (at ≡ done → own ≡ target) → (at < done → old ≡ target) → at ≤ done → new ≡ target
place_then at done own old new target is here before le = by (nat_eq at done) refl
  where
    by : (b : Bool) → nat_eq at done ≡ b → new ≡ target
    by true same = is ∙ (ap (λ b. if b then own else old) same ∙ here (eqb-true at done same))
    by false other = is ∙ (ap (λ b. if b then own else old) other ∙ before (omega (arith, le, eqb-false at done other)))

nothing : (xs : List Edit) → length xs ≡ 0 → xs ≡ []
nothing [] none = refl
nothing (x ∷ xs) none = absurd (omega (arith, none))

pub loop-edit-preserved : goal.loop-edit-preserved
loop-edit-preserved g c =
    let x = c.loop-edit.invariant in
    let first = g.F.Files.means c.args.files.now in
    let mid = g.F.Files.means c.loop-edit.files in
    let now = g.F.Files.means c.release-removed.new.files in
    let all = c.args.edits.items in
    let rest = c.pop.new.self.items in
    let own = c.in-Some.edit in
    let lock = lock_of own.lock in
    let removed = c.release-removed.result in
    let split : c.loop-edit.edits.items ≡ rest ++ own ∷ [] = c.in-Some.ensures.items in
    let tail = x.front.0 in
    let whole : all ≡ rest ++ own ∷ tail = parted all c.loop-edit.edits.items rest own tail x.front.1 split in
    let within : is_in (lock_paths all) lock ≡ true = subst (λ (l : List Edit). is_in (lock_paths l) lock ≡ true) (sym whole) (lock_within rest own tail) in
    let len : c.len-at.result ≡ length rest = omega (arith, c.len-at.ensures) in
    let flag : is_written_at all c.len-at.result ≡ is_write own.effect = ap (λ (l : List Edit). is_written_at l c.len-at.result) whole ∙ (ap (is_written_at (rest ++ own ∷ tail)) len ∙ flag_there rest own tail) in
    let at : lock_at all c.len-at.result ≡ lock = ap (λ (l : List Edit). lock_at l c.len-at.result) whole ∙ (ap (lock_at (rest ++ own ∷ tail)) len ∙ lock_there rest own tail) in
    let there : place_at all c.len-at.result ≡ own.lock = ap (λ (l : List Edit). place_at l c.len-at.result) whole ∙ (ap (place_at (rest ++ own ∷ tail)) len ∙ place_there rest own tail) in
    let log_is : log_at all c.len-at.result ≡ own.log = ap (λ (l : List Edit). log_at l c.len-at.result) whole ∙ (ap (log_at (rest ++ own ∷ tail)) len ∙ log_there rest own tail) in
    let names = paths_of c.loop-edit.remains.left.items in
    let named : paths_of c.add.new.self.left.items ≡ names ++ (if removed then [] else lock ∷ []) = c.add.ensures.adds.left in
    record {
      no_fewer = no_fewer_joins x.no_fewer c.release-removed.ensures.no_fewer;
      counted = λ base so_far. risen_by_lock removed (vec_len c.loop-edit.remains.left) (vec_len c.add.new.self.left) base _ _ c.release-removed.ensures.no_fewer c.add.ensures.adds.len (λ is. omega (arith, c.add.new.self.left.ok, c.loop-edit.remains.left.ok, ap length (c.add.ensures.adds.same is)))
          (λ kept. subst (λ b. OnFalse b (HasRisen (g.F.Files.faults c.loop-edit.files) (g.F.Files.faults c.release-removed.new.files))) kept c.release-removed.ensures.counted) (x.counted base so_far);
      room = omega (arith, x.room, c.in-Some.ensures.len, c.add.ensures.adds.len, c.add.ensures.adds.room);
      room_for_edits = omega (arith, x.room_for_edits, c.in-Some.ensures.len, c.add.ensures.adds.len_of_edits, c.add.ensures.adds.room_for_edits);
      len = omega (arith, x.len, c.in-Some.ensures.len, c.add.ensures.adds.len);
      room_left = omega (arith, x.room_left, c.add.ensures.adds.room);
      bound = omega (arith, x.bound, c.in-Some.ensures.len);
      renamed = λ all_renamed. c.release-removed.ensures.renamed (subst (λ b. not (nat_lt c.len-at.result c.args.done && b) ≡ false) flag (all_renamed c.len-at.result (omega (arith, x.bound, c.in-Some.ensures.len, c.len-at.ensures)))) ∙ x.renamed all_renamed;
      front = (own ∷ tail, whole, c.add.ensures.adds.edits ∙ (ap (λ (l : List _). l ++ own.update ∷ []) x.front.2 ∙ (append_assoc c.args.remains.edits.items (reverse (updates tail)) (own.update ∷ []) ∙ ap (λ (l : List _). c.args.remains.edits.items ++ l) (sym (reverse-append (own.update ∷ []) (updates tail))))));
      place = λ some less. place_then c.len-at.result c.args.done own.lock _ _ (place_at all c.args.done) c.add.ensures.place (λ same. sym there ∙ ap (place_at all) same) (λ more. x.place some (omega (arith, more, c.in-Some.ensures.len, c.len-at.ensures))) (omega (arith, less, c.len-at.ensures));
      log = λ some less. place_then c.len-at.result c.args.done (path_in own.log) _ _ (path_in (log_at all c.args.done)) c.add.ensures.log (λ same. sym (ap path_in log_is) ∙ ap (λ n. path_in (log_at all n)) same) (λ more. x.log some (omega (arith, more, c.in-Some.ensures.len, c.len-at.ensures))) (omega (arith, less, c.len-at.ensures));
      ours = λ q h. ⊎_elim (λ old. x.ours q old) (λ e. inr (subst (λ (p : Path). is_in (lock_paths all) p ≡ true) e within)) (named_cases names lock removed q (subst (λ (l : List Path). is_in l q ≡ true) named h));
      kept = λ q h. subst (λ (l : List Path). is_in l q ≡ true) (sym named) (named_kept names _ q (x.kept q h));
      once = λ q. subst (λ (l : List Path). times q l + times q (lock_paths rest) ≤ times q (paths_of c.args.remains.left.items) + times q (lock_paths all)) (sym named)
          (named_once q names (paths_of c.args.remains.left.items) (times q (lock_paths all)) (lock_paths rest) lock removed
          (subst (λ (l : List Path). times q names + times q l ≤ times q (paths_of c.args.remains.left.items) + times q (lock_paths all)) (ap lock_paths split ∙ map-append (λ (e : Edit). lock_of e.lock) rest (own ∷ [])) (x.once q)));
      gone = λ h.
          λ j first_le. released all (vec_len c.args.edits) c.args.done c.len-at.result lock at mid.tree now.tree (one_trees (lock ∷ []) lock (in_here lock lock [] refl) _ _ (c.release-removed.ensures.passes h).disk) names (paths_of c.add.new.self.left.items)
          (λ q k. subst (λ (l : List Path). is_in l q ≡ true) (sym named) (named_kept names _ q k))
          (λ stays out. gone_here removed (λ removed_is. c.release-removed.ensures.gone h (subst (λ b. not (nat_lt c.len-at.result c.args.done && b) ≡ true) flag stays) removed_is)
          (λ kept. clash (subst (λ (l : List Path). is_in l lock ≡ true) (sym named) (named_here names lock removed kept)) out))
          (λ k le. x.gone h k (omega (arith, le, len, c.in-Some.ensures.len)))
          j (omega (arith, first_le, c.len-at.ensures));
      removes = λ h. removals_more (lock_paths all) lock first mid now within (x.removes h) (c.release-removed.ensures.passes h);
    }

pub returns-clause-edits : goal.returns-clause-edits
returns-clause-edits g c =
    let x = c.loop-edit.invariant in
    let tail = x.front.0 in
    let none : c.loop-edit.edits.items ≡ [] = nothing c.loop-edit.edits.items (omega (arith, c.in_default.ensures.cases.0)) in
    x.front.2 ∙ ap (λ (l : List Edit). c.args.remains.edits.items ++ reverse (updates l)) (sym (x.front.1 ∙ ap (λ (l : List Edit). l ++ tail) none))

pub returns-clause-place : goal.returns-clause-place
returns-clause-place g c some = c.loop-edit.invariant.place some (omega (arith, c.in_default.ensures.cases.0))

pub returns-clause-log : goal.returns-clause-log
returns-clause-log g c some = c.loop-edit.invariant.log some (omega (arith, c.in_default.ensures.cases.0))

pub returns-clause-releases : goal.returns-clause-releases
returns-clause-releases g c =
    let x = c.loop-edit.invariant in
    record {
      leaves = λ h. removals_leave (lock_paths c.args.edits.items) _ _ (x.removes h);
      passes = λ h. removals_only (lock_paths c.args.edits.items) _ _ (x.removes h);
      no_fewer = x.no_fewer;
    }

pub returns-clause-named : goal.returns-clause-named
returns-clause-named g c =
    let x = c.loop-edit.invariant in
    record {
      ours = x.ours;
      kept = x.kept;
      once = λ q. omega (arith, x.once q);
      len = omega (arith, x.len);
      room = x.room_left;
      counted = x.counted;
    }
