-- Runs that take locks, after others.
use Rattle.gix_ref_files.proofs.Meeting.{no_fewer_joins}
use Rattle.std.proofs.Common.{inl, List, ◌++◌, sym, ap, subst}
use Rattle.gix_ref_files.specs.Disk.{Disk}
use Rattle.gix_ref_files.specs.Files.{Meaning, Leaves, FaultCounts}
use Rattle.gix_ref_files.specs.ReadOnly.{OnlyReads}
use Rattle.gix_ref_files.specs.Tree.{Tree, Path}
use Rattle.gix_ref_files.proofs.Moments.{joins, weaken, passes_joins, passes_weaken}
use Rattle.gix_ref_theory.specs.OnDisks.{IsAsBefore}
use Rattle.gix_ref_transaction.specs.HeldLocks.{OnlyTakes}
use Rattle.gix_ref_transaction.specs.OwnLocks.{AddsLocks}
use Rattle.gix_ref_transaction.proofs.PackedRuns.{adds_first, leaves_both, takes_both, takes_first}

module _ {F : Type 0} (honest : Type 0) (means : F → Meaning) (faults : F → FaultCounts) where
  -- a run that only reads takes no lock
  pub reads_take : (locks : List Path) (a b : F) → OnlyReads honest means faults a b → OnlyTakes honest means faults locks a b
  reads_take locks a b reads = record {
    leaves = λ h. weaken (reads.leaves h) (λ (T : Tree) is q. inl (ap (λ (U : Tree). U q) is));
    passes = λ h locked staying first own here. passes_weaken (reads.passes h) (λ (D : Disk) is. subst (IsAsBefore locked staying first) (sym is) here);
    no_fewer = reads.no_fewer;
  }

  -- one that reads, and then one that takes locks
  pub reads_then_takes : (locks : List Path) (a b d : F) → OnlyReads honest means faults a b → OnlyTakes honest means faults locks b d → OnlyTakes honest means faults locks a d
  reads_then_takes locks a b d reads takes = record {
    leaves = λ h. joins (weaken (reads.leaves h) (λ (T : Tree) is q. inl (ap (λ (U : Tree). U q) is)))
        (subst (λ (T : Tree). Leaves (means b) (means d) (AddsLocks locks locks T)) (reads.leaves h).tree (takes.leaves h));
    passes = λ h locked staying first own here.
        passes_joins (passes_weaken (reads.passes h) (λ (D : Disk) is. subst (IsAsBefore locked staying first) (sym is) here))
        (takes.passes h locked staying first own (subst (IsAsBefore locked staying first) (sym (reads.passes h).disk) here));
    no_fewer = no_fewer_joins reads.no_fewer takes.no_fewer;
  }

  -- some locks, and then others
  pub takes_then_more : (xs ys : List Path) (a b d : F) → OnlyTakes honest means faults xs a b → OnlyTakes honest means faults ys b d → OnlyTakes honest means faults (xs ++ ys) a d
  takes_then_more xs ys a b d first next = record {
    leaves = λ h. leaves_both xs ys (means a) (means b) (means d) (first.leaves h) (next.leaves h);
    passes = λ h. takes_both xs ys (means a) (means b) (means d) (first.passes h) (next.passes h);
    no_fewer = no_fewer_joins first.no_fewer next.no_fewer;
  }

  -- the first of them alone
  pub takes_alone : (xs ys : List Path) (a b : F) → OnlyTakes honest means faults xs a b → OnlyTakes honest means faults (xs ++ ys) a b
  takes_alone xs ys a b first = record {
    leaves = λ h. weaken (first.leaves h) (λ (T : Tree). adds_first xs ys (means a).tree T);
    passes = λ h. takes_first xs ys (means a) (means b) (first.passes h);
    no_fewer = first.no_fewer;
  }
