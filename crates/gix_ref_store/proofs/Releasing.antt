-- Locks that are released, where none was named before.
use Rattle.gix_ref_transaction.proofs.Faults.{risen_by_paths}
use Rattle.gix_ref_files.specs.Files.{HasRisenBy, FaultCounts}
use Rattle.std.proofs.Common.{◌≡◌, ◌<◌, inl, inr, ℕ, List, true, false, sym, subst, length, arith, Vec, Global, vec_len}
use Rattle.gix_ref_files.specs.Tree.{Tree, Path, is_file}
use Rattle.gix_ref_transaction.specs.OwnLocks.{is_in, paths_of}
use Rattle.gix_ref_transaction.specs.CommitRenames.{lock_at, stays_at}
use Rattle.gix_ref_transaction.specs.PrepareSteps.{lock_paths}
use Rattle.gix_ref_transaction.specs.declared.edit.Edit.{Edit}
use Rattle.gix_ref_transaction.proofs.Renames.{lock_found, none_renamed}

-- each that is named has a fault
pub paths_risen : (left : Vec (Vec ℕ Global) Global) (a b : FaultCounts) → HasRisenBy (vec_len left) a b → HasRisenBy (length (paths_of left.items)) a b
paths_risen left a b (inl more) = risen_by_paths left.items a b (inl (omega (arith, more, left.ok)))
paths_risen left a b (inr full) = risen_by_paths left.items a b (inr full)

-- where nothing was renamed, all that are not named are gone
pub all_gone : (held : List Edit) (n : ℕ) (left : List Path) (T : Tree) → length held ≡ n →
    ((k : ℕ) → k < n → stays_at held 0 k ≡ true → is_in left (lock_at held k) ≡ false → is_file (T (lock_at held k)) ≡ false) →
    (q : Path) → is_in (lock_paths held) q ≡ true → is_in left q ≡ false → is_file (T q) ≡ false
all_gone held n left T len gone q within named =
    let at = lock_found held q within in
    subst (λ (p : Path). is_file (T p) ≡ false) at.2
    (gone at.0 (omega (arith, at.1, len)) (none_renamed held at.0) (subst (λ (p : Path). is_in left p ≡ false) (sym at.2) named))
