-- The steps of some edits, and then those of others; and the locks that are released after them.
use Rattle.std.proofs.Common.{◌≡◌, ◌<◌, ◌≤◌, ◌+◌, ℕ, suc, List, [], ◌∷◌, ◌++◌, length, ⊎_elim, true, false, refl, sym, ◌∙◌, ap, subst, arith}
use Rattle.std.specs.Prelude.{bytes_eq, not, ◌&&◌}
use Rattle.std.proofs.lemmas.Bool.{le-ltb}
use Rattle.std.proofs.Math.Nat.{eq-or-lt_of_le}
use Rattle.std.proofs.lemmas.List.{map-append}
use Rattle.gix_ref_files.specs.Lock.{lock_of}
use Rattle.gix_ref_files.specs.Tree.{Tree, Path, is_file}
use Rattle.gix_ref_transaction.specs.OwnLocks.{is_in, RemovesLocks}
use Rattle.gix_ref_transaction.specs.Effects.{is_write}
use Rattle.gix_ref_transaction.specs.CommitRenames.{lock_at, log_at, place_at, stays_at, is_written_at}
use Rattle.gix_ref_transaction.specs.PrepareSteps.{lock_paths}
use Rattle.gix_ref_transaction.specs.declared.edit.Edit.{Edit as Own}
use Rattle.gix_ref_transaction.proofs.Adds.{clash, false_is_true, is_false, any_right, any_cases, in_here, in_one}
use Rattle.gix_ref_transaction.proofs.Removing.{no_file_then}

-- the lock of an element of a list
pub lock_there : (rest : List Own) (own : Own) (tail : List Own) → lock_at (rest ++ own ∷ tail) (length rest) ≡ (lock_of own.lock)
lock_there [] own tail = refl
lock_there (p ∷ rest) own tail = lock_there rest own tail

-- and its place
pub place_there : (rest : List Own) (own : Own) (tail : List Own) → place_at (rest ++ own ∷ tail) (length rest) ≡ own.lock
place_there [] own tail = refl
place_there (p ∷ rest) own tail = place_there rest own tail

-- what becomes of its log
pub log_there : (rest : List Own) (own : Own) (tail : List Own) → log_at (rest ++ own ∷ tail) (length rest) ≡ own.log
log_there [] own tail = refl
log_there (p ∷ rest) own tail = log_there rest own tail

-- and so is whether it is written
pub flag_there : (rest : List Own) (own : Own) (tail : List Own) → is_written_at (rest ++ own ∷ tail) (length rest) ≡ (is_write own.effect)
flag_there [] own tail = refl
flag_there (p ∷ rest) own tail = flag_there rest own tail

-- it is among the locks
pub lock_within : (rest : List Own) (own : Own) (tail : List Own) → is_in (lock_paths (rest ++ own ∷ tail)) (lock_of own.lock) ≡ true
lock_within rest own tail =
    subst (λ (locks : List Path). is_in locks (lock_of own.lock) ≡ true) (sym (map-append (λ (p : Own). (lock_of p.lock)) rest (own ∷ tail)))
    (any_right (λ p. bytes_eq p (lock_of own.lock)) (lock_paths rest) (lock_paths (own ∷ tail)) (in_here (lock_of own.lock) (lock_of own.lock) (lock_paths tail) refl))

-- one more is released: the lock at a place from it on is gone, renamed or left
module _ (all : List Own) (total : ℕ) (done n : ℕ) (lock : Path) (at : lock_at all n ≡ lock) (T U : Tree) (removes : RemovesLocks (lock ∷ []) T U) where
  pub released : (left left' : List Path) → ((q : Path) → is_in left q ≡ true → is_in left' q ≡ true) →
      (stays_at all done n ≡ true → is_in left' lock ≡ false → is_file (U lock) ≡ false) →
      ((k : ℕ) → n + 1 ≤ k → k < total → stays_at all done k ≡ true → is_in left (lock_at all k) ≡ false → is_file (T (lock_at all k)) ≡ false) →
      (k : ℕ) → n ≤ k → k < total → stays_at all done k ≡ true → is_in left' (lock_at all k) ≡ false → is_file (U (lock_at all k)) ≡ false
  released left left' wider here before k le lt stays out = ⊎_elim
      (λ (same : n ≡ k).
      let e : lock_at all k ≡ lock = ap (lock_at all) (sym same) ∙ at in
      subst (λ (p : Path). is_file (U p) ≡ false) (sym e) (here (ap (stays_at all done) same ∙ stays) (subst (λ (p : Path). is_in left' p ≡ false) e out)))
      (λ (less : n < k).
      no_file_then lock T U (lock_at all k) removes
      (before k (omega (arith, less)) lt stays (is_false (is_in left (lock_at all k)) (λ h. clash (wider (lock_at all k) h) out))))
      (eq-or-lt_of_le le)

-- a lock of some paths is at an index of the list
pub lock_found : (paths : List Own) (q : Path) → is_in (lock_paths paths) q ≡ true → (k : ℕ) × (k < length paths) × (lock_at paths k ≡ q)
lock_found [] q h = false_is_true h
lock_found (own ∷ paths) q h = ⊎_elim
    (λ here. (0, omega arith, in_one (lock_of own.lock) q here))
    (λ later. let at = lock_found paths q later in (suc at.0, omega (arith, at.1), at.2))
    (any_cases (λ p. bytes_eq p q) ((lock_of own.lock) ∷ []) (lock_paths paths) h)

-- where none is done, no lock was renamed
pub none_renamed : (paths : List Own) (k : ℕ) → stays_at paths 0 k ≡ true
none_renamed paths k = ap (λ b. not (b && is_written_at paths k)) (le-ltb k 0 (omega arith))
