-- How often locks are named that are left.
use Rattle.std.proofs.Common.{◌≡◌, inl, inr, ℕ, zero, suc, ◌≤◌, List, [], ◌∷◌, take, Option, Some, None, map, subst, arith}
use Rattle.gix_ref_files.specs.Lock.{lock_of}
use Rattle.gix_ref_files.specs.Tree.{Path}
use Rattle.gix_ref_theory.specs.Readings.{Store}
use Rattle.gix_ref_edits.specs.declared.transaction.RefEdit.{RefEdit}
use Rattle.gix_ref_transaction.specs.Causes.{locks_of}
use Rattle.gix_ref_transaction.specs.OwnLocks.{times}
use Rattle.gix_ref_transaction.specs.PrepareSteps.{packed_places, IsPackedPlace}

-- no more often among the first ones
pub times_first : (s : Store) (q : Path) (n : ℕ) (edits : List RefEdit) → times q (locks_of s (take n edits)) ≤ times q (locks_of s edits)
times_first s q zero edits = omega arith
times_first s q (suc n) [] = omega arith
times_first s q (suc n) (e ∷ edits) = omega (arith, times_first s q n edits)

-- and the lock of `packed-refs` is one
pub times_packed : (s : Store) (q : Path) (packed : Option Path) → IsPackedPlace s packed → times q (map lock_of (packed_places packed)) ≤ times q (lock_of s.packed_path ∷ [])
times_packed s q None place = omega arith
times_packed s q (Some path) (inl none) = absurd (differ none)
  where
    differ : Some path ≡ None → ⊥
    differ e = cc
times_packed s q (Some path) (inr same) = subst (λ (p : Path). times q (lock_of path ∷ []) ≤ times q (lock_of p ∷ [])) (inner same) (omega arith)
  where
    inner : Some path ≡ Some s.packed_path → path ≡ s.packed_path
    inner e = cc
