-- Locks removed one after another, as one relation of disks, from which both follow: what stops leave, and that no write is begun.
use Rattle.std.proofs.Common.{◌≡◌, ◌⊎◌, inl, inr, List, [], ◌∷◌, Bool, true, false, None, refl, sym, ◌∙◌, ap, subst}
use Rattle.std.specs.Prelude.{bytes_eq, if◌then◌else◌}
use Rattle.std.proofs.lemmas.Slice.Eq.{bytes_eq-Decides}
use Rattle.gix_ref_files.specs.Disk.{Disk}
use Rattle.gix_ref_files.specs.DiskCalls.{RemovingFileOn}
use Rattle.gix_ref_files.specs.Files.{Meaning, disk_of, Leaves, Passes}
use Rattle.gix_ref_files.specs.Tree.{Path, is_file}
use Rattle.gix_ref_files.proofs.Moments.{passes_joins, passes_weaken, stops}
use Rattle.gix_ref_theory.proofs.LockDisks.{removing_among}
use Rattle.gix_ref_theory.specs.OnDisks.{IsAmong}
use Rattle.gix_ref_theory.specs.Views.{Write, IsOwnLock}
use Rattle.gix_ref_transaction.specs.OwnLocks.{is_in, OnlyRemoves, RemovesLocks}
use Rattle.gix_ref_transaction.proofs.Adds.{in_here}
use Rattle.gix_ref_transaction.proofs.Removing.{removes_then}

-- some of these locks are removed, one after another
abbrev pub RemovedOn : List Path → List Path → Disk → Disk → Type 0
RemovedOn locks [] D E = E ≡ D
RemovedOn locks (p ∷ ps) D E = (mid : Disk) × RemovedOn locks ps D mid × (is_in locks p ≡ true) × RemovingFileOn mid p E

abbrev pub RemovesOn : List Path → Disk → Disk → Type 0
RemovesOn locks D E = (ps : List Path) × RemovedOn locks ps D E

-- the trees of one removal
pub one_trees : (locks : List Path) (p : Path) → is_in locks p ≡ true → (D E : Disk) → RemovingFileOn D p E → RemovesLocks locks D.tree E.tree
one_trees locks p within D E (inl e) q = inl (ap (λ (X : Disk). X.tree q) e)
one_trees locks p within D E (inr (file, e)) q = by (bytes_eq p q) refl
  where
    by : (b : Bool) → bytes_eq p q ≡ b → (E.tree q ≡ D.tree q) ⊎ ((is_in locks q ≡ true) × (E.tree q ≡ None) × (is_file (D.tree q) ≡ true))
    by true eq =
        let same : p ≡ q = (bytes_eq-Decides p q).0 eq in
        inr (
          subst (λ (x : Path). is_in locks x ≡ true) same within,
          ap (λ (X : Disk). X.tree q) e ∙ ap (λ (b : Bool). if b then None else D.tree q) eq,
          subst (λ (x : Path). is_file (D.tree x) ≡ true) same file,
        )
    by false ne = inl (ap (λ (X : Disk). X.tree q) e ∙ ap (λ (b : Bool). if b then None else D.tree q) ne)

-- and of some
removed_trees : (locks ps : List Path) (D E : Disk) → RemovedOn locks ps D E → RemovesLocks locks D.tree E.tree
removed_trees locks [] D E e = λ q. inl (ap (λ (X : Disk). X.tree q) e)
removed_trees locks (p ∷ ps) D E (mid, before, within, found) =
    removes_then locks p D.tree mid.tree E.tree within (removed_trees locks ps D mid before) (one_trees (p ∷ []) p (in_here p p [] refl) mid E found)

removed_among : (locks ps locked staying : List Path) (writes : List Write) (first D E : Disk) → ((q : Path) → is_in locks q ≡ true → IsOwnLock locked q) → IsAmong locked staying writes first D → RemovedOn locks ps D E → IsAmong locked staying writes first E
removed_among locks [] locked staying writes first D E own among e = subst (IsAmong locked staying writes first) (sym e) among
removed_among locks (p ∷ ps) locked staying writes first D E own among (mid, before, within, found) =
    removing_among locked staying writes first mid E p (own p within) (removed_among locks ps locked staying writes first D mid own among before) found

-- no removal, and one more
pub none_removed : (locks : List Path) (D : Disk) → RemovesOn locks D D
none_removed locks D = ([], refl)

pub removals_more : (locks : List Path) (p : Path) (first mid now : Meaning) → is_in locks p ≡ true → Passes first mid (RemovesOn locks (disk_of first)) → Passes mid now (RemovingFileOn (disk_of mid) p) → Passes first now (RemovesOn locks (disk_of first))
removals_more locks p first mid now within run next =
    passes_joins run (passes_weaken next (λ E found. (p ∷ run.disk.0, (disk_of mid, run.disk.1, within, found))))

-- both that follow
pub removals_leave : (locks : List Path) (old new : Meaning) → Passes old new (RemovesOn locks (disk_of old)) → Leaves old new (RemovesLocks locks old.tree)
removals_leave locks old new run = stops (RemovesLocks locks old.tree) (λ D found. removed_trees locks found.0 (disk_of old) D found.1) run

pub removals_only : (locks : List Path) (old new : Meaning) → Passes old new (RemovesOn locks (disk_of old)) → OnlyRemoves locks old new
removals_only locks old new run locked staying writes first own among =
    passes_weaken run (λ E found. removed_among locks found.0 locked staying writes first (disk_of old) E own among found.1)

pub one_leaves : (locks : List Path) (p : Path) (old new : Meaning) → is_in locks p ≡ true → Passes old new (RemovingFileOn (disk_of old) p) → Leaves old new (RemovesLocks locks old.tree)
one_leaves locks p old new within run = stops (RemovesLocks locks old.tree) (λ D found. one_trees locks p within (disk_of old) D found) run
