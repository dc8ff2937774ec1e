-- The lock of `packed-refs`, released with those of edits.
use Rattle.std.proofs.Common.{◌≡◌, inl, inr, ⊎_elim, List, ◌++◌, true, ◌∙◌, subst}
use Rattle.std.specs.Prelude.{bytes_eq}
use Rattle.gix_ref_files.specs.Disk.{Disk}
use Rattle.gix_ref_files.specs.DiskCalls.{RemovingFileOn}
use Rattle.gix_ref_files.specs.Files.{Meaning, disk_of, Leaves, Passes}
use Rattle.gix_ref_files.specs.Tree.{Tree, Path, is_file}
use Rattle.gix_ref_files.proofs.Moments.{joins, weaken, passes_joins, passes_weaken}
use Rattle.gix_ref_theory.proofs.LockDisks.{removing_among}
use Rattle.gix_ref_transaction.specs.OwnLocks.{is_in, OnlyRemoves, RemovesLocks}
use Rattle.gix_ref_transaction.proofs.Adds.{any_left, any_right}

-- one lock alone
pub one_removes : (locks : List Path) (lock : Path) (old new : Meaning) → is_in locks lock ≡ true → Passes old new (RemovingFileOn (disk_of old) lock) → OnlyRemoves locks old new
one_removes locks lock old new within removing locked staying writes first own among =
    passes_weaken removing (λ (E : Disk) found. removing_among locked staying writes first (disk_of old) E lock (own lock within) among found)

-- some locks, and then others
pub both_remove : (xs ys : List Path) (old mid new : Meaning) → OnlyRemoves xs old mid → OnlyRemoves ys mid new → OnlyRemoves (xs ++ ys) old new
both_remove xs ys old mid new first second locked staying writes D own among =
    let run = first locked staying writes D (λ q h. own q (any_left (λ p. bytes_eq p q) xs ys h)) among in
    passes_joins run (second locked staying writes D (λ q h. own q (any_right (λ p. bytes_eq p q) xs ys h)) run.disk)

both_trees : (xs ys : List Path) (S T U : Tree) → RemovesLocks xs S T → RemovesLocks ys T U → RemovesLocks (xs ++ ys) S U
both_trees xs ys S T U first second q =
    ⊎_elim
    (λ same. ⊎_elim (λ old. inl (same ∙ old)) (λ gone. inr (any_left (λ p. bytes_eq p q) xs ys gone.0, same ∙ gone.1, gone.2)) (first q))
    (λ gone. inr (any_right (λ p. bytes_eq p q) xs ys gone.0, gone.1, ⊎_elim (λ old. subst (λ content. is_file content ≡ true) old gone.2) (λ before. before.2) (first q)))
    (second q)

wider : (xs ys : List Path) (S T : Tree) → RemovesLocks xs S T → RemovesLocks (xs ++ ys) S T
wider xs ys S T removes q = ⊎_elim (λ same. inl same) (λ gone. inr (any_left (λ p. bytes_eq p q) xs ys gone.0, gone.1, gone.2)) (removes q)

pub both_leave : (xs ys : List Path) (old mid new : Meaning) → Leaves old mid (RemovesLocks xs old.tree) → Leaves mid new (RemovesLocks ys mid.tree) → Leaves old new (RemovesLocks (xs ++ ys) old.tree)
both_leave xs ys old mid new first second =
    joins (weaken first (λ (T : Tree). wider xs ys old.tree T)) (weaken second (λ (T : Tree). both_trees xs ys old.tree mid.tree T first.tree))
