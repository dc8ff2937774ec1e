-- The lock of `packed-refs` gets its text, and nothing else changes.
use Rattle.std.proofs.Common.{◌≡◌, ◌≢◌, inl, inr, ℕ, List, [], ◌∷◌, ◌∙◌, Option, None, Some, Vec, Global, map, refl, sym, ap, subst}
use Rattle.gix_ref_files.proofs.Meeting.{no_fewer_joins}
use Rattle.std.specs.Prelude.{bytes_eq}
use Rattle.gix_ref_files.specs.Disk.{Disk}
use Rattle.gix_ref_files.specs.DiskCalls.{Untouched}
use Rattle.gix_ref_files.specs.Files.{Meaning, disk_of, Leaves, Passes, FaultCounts, NoFewer}
use Rattle.gix_ref_files.specs.Lock.{lock_of}
use Rattle.gix_ref_files.specs.ReadOnly.{OnlyReads}
use Rattle.gix_ref_files.specs.Settled.{IsWholeAt}
use Rattle.gix_ref_files.specs.Tree.{Tree, Path, is_file}
use Rattle.gix_ref_files.specs.Tree.Content.{File}
use Rattle.gix_ref_files.proofs.Moments.{joins, weaken, passes_joins, passes_starts, passes_weaken}
use Rattle.gix_ref_packed_text.specs.declared.outcome.Rewrite.{Rewrite}
use Rattle.gix_ref_packed_text.specs.declared.outcome.Rewrite.TheVariants.{Text, Unchanged, Removed}
use Rattle.gix_ref_theory.specs.OnDisks.{IsAsBefore}
use Rattle.gix_ref_theory.proofs.LockDisks.{whole_writing}
use Rattle.gix_ref_transaction.specs.OwnLocks.{OnlyLocks}
use Rattle.gix_ref_transaction.specs.PrepareSteps.{AreEmpty, AreWholeLocks, FillingOn, FillsLock, packed_places}
use Rattle.gix_ref_transaction.proofs.Adds.{clash, either_way, in_here, is_same_path, same_path}
use Rattle.gix_ref_transaction.proofs.LockRounds.{filling_passes}
use Rattle.gix_ref_commit.specs.Decided.{FillsPacked, IsFilled, IsPackedLockEmpty, OnlyFillsPacked}

same_bytes : {x y : List ℕ} → Some (File x) ≡ Some (File y) → x ≡ y
same_bytes h = cc

-- locks that are whole stay so
pub wholes_filled : (D E : Disk) (lock : Path) (text : List ℕ) → D.tree lock ≡ Some (File []) → (IsWholeAt D lock [] → IsWholeAt E lock text) → FillingOn D lock E →
    (locks : List Path) → AreWholeLocks D locks → AreWholeLocks E locks
wholes_filled D E lock text empty here filling [] whole = tt
wholes_filled D E lock text empty here filling (q ∷ locks) whole = (
  either_way (bytes_eq lock q)
      (λ same. (
        text,
        subst (λ (p : Path). IsWholeAt E p text) (same_path lock q same)
            (here (subst (IsWholeAt D lock) (none (subst (λ (p : Path). IsWholeAt D p whole.0.0) (sym (same_path lock q same)) whole.0.1)) (subst (λ (p : Path). IsWholeAt D p whole.0.0) (sym (same_path lock q same)) whole.0.1))),
      ))
      (λ other. (whole.0.0, still (λ is. clash (is_same_path lock q is) other) whole.0.1 filling)),
  wholes_filled D E lock text empty here filling locks whole.1,
)
  where
    none : {bytes : List ℕ} → IsWholeAt D lock bytes → bytes ≡ []
    none is = same_bytes (sym is.0 ∙ empty)

    still : {bytes : List ℕ} → lock ≢ q → IsWholeAt D q bytes → FillingOn D lock E → IsWholeAt E q bytes
    still {bytes} apart is (inl e) = subst (λ (X : Disk). IsWholeAt X q bytes) (sym e) is
    still {bytes} apart is (inr (t, writing)) = whole_writing D E lock q t bytes apart is writing

-- where nothing is touched, no lock is either
pub untouched_only : (locks : List Path) (old mid : Meaning) → Passes old mid (Untouched (disk_of old)) → OnlyLocks locks old mid
untouched_only locks old mid passes locked staying first own here = passes_weaken passes (λ E same. subst (IsAsBefore locked staying first) (sym same) here)

-- the one lock, where all of these are empty
pub empty_at : (T : Tree) (lock : Path) → AreEmpty T (lock ∷ []) → T lock ≡ Some (File [])
empty_at T lock empty = empty lock (in_here lock lock [] refl)

-- and where there is no new text nothing is filled
pub not_filled : (path : Path) (rewrite : Rewrite) (S T : Tree) → ((text : Vec ℕ Global) → rewrite ≡ Text text → ⊥) → T ≡ S → IsFilled (Some path) rewrite S T
not_filled path (Text text) S T other same = absurd (other text refl)
not_filled path Unchanged S T other same = same
not_filled path Removed S T other same = same

-- nothing was done, which is a part of it
nothing_filled : (packed : Option Path) (S T : Tree) → T ≡ S → FillsPacked packed S T
nothing_filled None S T same = same
nothing_filled (Some path) S T same = inl same

module _ {F : Type 0} (honest : Type 0) (means : F → Meaning) (faults : F → FaultCounts) where
  -- a run that only reads fills no lock
  pub fills_none : (packed : Option Path) (a b : F) → OnlyReads honest means faults a b → OnlyFillsPacked honest means faults packed a b
  fills_none packed a b reads = record {
    leaves = λ h empty. weaken (reads.leaves h) (λ T same. nothing_filled packed (means a).tree T same);
    passes = λ h empty. untouched_only (map lock_of (packed_places packed)) (means a) (means b) (reads.passes h);
    no_fewer = reads.no_fewer;
  }

  -- one that only reads, and then one that fills the lock, or does not
  pub reads_then_fills : (packed : Option Path) (a b d : F) → OnlyReads honest means faults a b → OnlyFillsPacked honest means faults packed b d → OnlyFillsPacked honest means faults packed a d
  reads_then_fills packed a b d reads fills = record {
    leaves = λ h empty.
        let same : (means b).tree ≡ (means a).tree = (reads.leaves h).tree in
        joins (weaken (reads.leaves h) (λ T is. nothing_filled packed (means a).tree T is))
        (subst (λ (S : Tree). Leaves (means b) (means d) (FillsPacked packed S)) same (fills.leaves h (subst (IsPackedLockEmpty packed) (sym same) empty)));
    passes = λ h empty locked staying first own here.
        let same : (means b).tree ≡ (means a).tree = (reads.leaves h).tree in
        let early = untouched_only (map lock_of (packed_places packed)) (means a) (means b) (reads.passes h) locked staying first own here in
        passes_joins early (fills.passes h (subst (IsPackedLockEmpty packed) (sym same) empty) locked staying first own early.disk);
    no_fewer = no_fewer_joins reads.no_fewer fills.no_fewer;
  }

  -- the other way round
  pub fills_then_reads : (packed : Option Path) (a b d : F) → OnlyFillsPacked honest means faults packed a b → OnlyReads honest means faults b d → OnlyFillsPacked honest means faults packed a d
  fills_then_reads packed a b d fills reads = record {
    leaves = λ h empty.
        let first = fills.leaves h empty in
        joins first (weaken (reads.leaves h) (λ T same. subst (FillsPacked packed (means a).tree) (sym same) first.tree));
    passes = λ h empty locked staying first own here.
        let early = fills.passes h empty locked staying first own here in
        passes_joins early (passes_weaken (reads.passes h) (λ E same. subst (IsAsBefore locked staying first) (sym same) early.disk));
    no_fewer = no_fewer_joins fills.no_fewer reads.no_fewer;
  }

  -- the lock got its text, or not
  pub fills_here : (path : Path) (a b : F) → (honest → (means a).tree (lock_of path) ≡ Some (File []) → Leaves (means a) (means b) (FillsLock (means a).tree (lock_of path))) → (honest → Passes (means a) (means b) (FillingOn (disk_of (means a)) (lock_of path))) → NoFewer (faults a) (faults b) →
      OnlyFillsPacked honest means faults (Some path) a b
  fills_here path a b fills filling le = record {
    leaves = λ h empty. weaken (fills h (empty_at (means a).tree (lock_of path) empty)) (λ T filled. filled);
    passes = λ h empty locked staying first own here.
        filling_passes locked staying first (means a) (means a) (means b) (lock_of path) (own (lock_of path) (in_here (lock_of path) (lock_of path) [] refl)) (ap is_file (empty_at (means a).tree (lock_of path) empty))
        (passes_starts (means a) (IsAsBefore locked staying first) here) (filling h);
    no_fewer = le;
  }
