-- Runs that only read, one after another.
use Rattle.std.proofs.Common.{refl, subst}
use Rattle.gix_ref_files.specs.Calls.{Unchanged}
use Rattle.gix_ref_files.specs.DiskCalls.{Untouched}
use Rattle.gix_ref_files.specs.Files.{FaultCounts, Meaning, disk_of, Leaves, Passes}
use Rattle.gix_ref_files.specs.ReadOnly.{OnlyReads}
use Rattle.gix_ref_files.proofs.Meeting.{no_fewer_starts, no_fewer_joins}
use Rattle.gix_ref_files.proofs.Moments.{starts, joins, passes_starts, passes_joins}

-- no call
pub reads_none : {F : Type 0} (honest : Type 0) (means : F → Meaning) (faults : F → FaultCounts) (a : F) → OnlyReads honest means faults a a
reads_none honest means faults a = record {
  leaves = λ h. starts (means a) (Unchanged (means a).tree) refl;
  passes = λ h. passes_starts (means a) (Untouched (disk_of (means a))) refl;
  no_fewer = no_fewer_starts (faults a);
}

-- a call that only reads, and then another one
pub reads_more : {F : Type 0} (honest : Type 0) (means : F → Meaning) (faults : F → FaultCounts) (a b d : F) → OnlyReads honest means faults a b → OnlyReads honest means faults b d → OnlyReads honest means faults a d
reads_more honest means faults a b d first next = record {
  leaves = λ h. joins (first.leaves h) (subst (λ T. Leaves (means b) (means d) (Unchanged T)) (first.leaves h).tree (next.leaves h));
  passes = λ h. passes_joins (first.passes h) (subst (λ D. Passes (means b) (means d) (Untouched D)) (first.passes h).disk (next.passes h));
  no_fewer = no_fewer_joins first.no_fewer next.no_fewer;
}
