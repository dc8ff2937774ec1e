-- How the count of faults rises with the locks that are left.
use Rattle.std.proofs.Common.{◌≡◌, ◌≤◌, ◌+◌, inl, inr, ℕ, List, [], Bool, true, false, length, refl, sym, ap, subst, arith, vec_len, Vec, Global}
use Rattle.std.proofs.lemmas.List.{length-map}
use Rattle.gix_ref_files.specs.Files.{FaultCounts, NoFewer, HasRisen, HasRisenBy, IsMet, count_with}
use Rattle.gix_ref_files.specs.declared.files.FileError.TheVariants.{Device, NotUtf8, Memory as no_memory}
use Rattle.gix_ref_transaction.specs.Causes.{IsCounted, IsIoOrMemory, cause_of}
use Rattle.gix_ref_files.specs.declared.files.FileError.{FileError}
use Rattle.gix_ref_files.proofs.Meeting.{met_now}
use Rattle.gix_ref_transaction.specs.OwnLocks.{paths_of}

-- it rose by nothing at least, where there are no fewer
pub risen_by_none : (a b : FaultCounts) → NoFewer a b → HasRisenBy 0 a b
risen_by_none a b le = inl (omega (arith, le.total))

-- so where no lock is left
pub risen_by_none_left : (left : Vec (Vec ℕ Global) Global) (a b : FaultCounts) → left.items ≡ [] → NoFewer a b → HasRisenBy (vec_len left) a b
risen_by_none_left left a b none le = inl (omega (arith, le.total, left.ok, ap length none))

-- and where it rose later too
pub risen_by_on : (n : ℕ) (a b c : FaultCounts) → NoFewer b c → HasRisenBy n a b → HasRisenBy n a c
risen_by_on n a b c le (inl more) = inl (omega (arith, le.total, more))
risen_by_on n a b c le (inr full) = inr (omega (arith, le.total, full))

-- or before
pub risen_by_before : (n : ℕ) (a b c : FaultCounts) → NoFewer a b → HasRisenBy n b c → HasRisenBy n a c
risen_by_before n a b c le (inl more) = inl (omega (arith, le.total, more))
risen_by_before n a b c le (inr full) = inr full

-- one more fault is for one more lock
pub risen_by_more : (m n : ℕ) (a b c : FaultCounts) → n ≤ m + 1 → HasRisen b c → HasRisenBy m a b → HasRisenBy n a c
risen_by_more m n a b c le (inl more) (inl so_far) = inl (omega (arith, le, more, so_far))
risen_by_more m n a b c le (inl more) (inr full) = inr (omega (arith, more, full))
risen_by_more m n a b c le (inr full) so_far = inr full

-- a lock that is removed is not left, and one that is left has a fault
pub risen_by_lock : (removed : Bool) (m n : ℕ) (a b c : FaultCounts) → NoFewer b c → n ≤ m + 1 → (removed ≡ true → n ≡ m) → (removed ≡ false → HasRisen b c) → HasRisenBy m a b → HasRisenBy n a c
risen_by_lock true m n a b c le len same rose so_far = subst (λ k. HasRisenBy k a c) (sym (same refl)) (risen_by_on m a b c le so_far)
risen_by_lock false m n a b c le len same rose so_far = risen_by_more m n a b c len (rose refl) so_far

-- the paths that are left are as many as their vectors
pub risen_by_paths : (left : List (Vec ℕ Global)) (a b : FaultCounts) → HasRisenBy (length left) a b → HasRisenBy (length (paths_of left)) a b
risen_by_paths left a b (inl more) = inl (omega (arith, more, length-map left (λ (v : Vec ℕ Global). v.items)))
risen_by_paths left a b (inr full) = inr full

-- a fault of files is told with itself
pub told_fault : (error : FileError) (a b : FaultCounts) → b ≡ count_with error a → IsCounted a b (cause_of error)
told_fault (Device kind) a b same = (subst (IsMet (Device kind) a) (sym same) (met_now (Device kind) a device_is), device_is)
  where
    device_is : Device kind ≡ no_memory → ⊥
    device_is is = absurd (cc)
told_fault NotUtf8 a b same = (subst (IsMet NotUtf8 a) (sym same) (met_now NotUtf8 a name_is), name_is)
  where
    name_is : NotUtf8 ≡ no_memory → ⊥
    name_is is = absurd (cc)
told_fault no_memory a b same = tt

pub outside_fault : (error : FileError) → IsIoOrMemory (cause_of error)
outside_fault (Device kind) = tt
outside_fault NotUtf8 = tt
outside_fault no_memory = tt
