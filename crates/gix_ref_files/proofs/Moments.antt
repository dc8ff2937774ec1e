-- How a run of calls goes on.
use Rattle.std.proofs.Common.{◌≡◌, inl, inr, ⊎_elim, subst, sym, arith}
use Rattle.gix_ref_files.specs.Tree.{Tree}
use Rattle.gix_ref_files.specs.Disk.{Disk, Lost}
use Rattle.gix_ref_files.specs.Files.{Meaning, disk_of, left_since, lost_since, Leaves, Passes, Loses, Adds, AddsDisks, StopsLeave}

-- before the first call
pub starts : (now : Meaning) (P : Tree → Type 0) → P now.tree → Leaves now now P
starts now P here = record { tree = here; later = omega arith; since = λ t T le left. inl left; keeps = λ t T le left. left }

-- a weaker property
pub weaken : {old new : Meaning} {P Q : Tree → Type 0} → Leaves old new P → ((T : Tree) → P T → Q T) → Leaves old new Q
weaken run wider = record {
  tree = wider _ run.tree;
  later = run.later;
  since = λ t T le left. ⊎_elim (λ past. inl past) (λ p. inr (wider T p)) (run.since t T le left);
  keeps = run.keeps;
}

-- one run, and then another
pub joins : {old mid new : Meaning} {P : Tree → Type 0} → Leaves old mid P → Leaves mid new P → Leaves old new P
joins first second = record {
  tree = second.tree;
  later = omega (arith, first.later, second.later);
  since = λ t T le left. ⊎_elim (first.since t T le) (λ p. inr p) (second.since t T (omega (arith, le, first.later)) left);
  keeps = λ t T le left. second.keeps t T (omega (arith, le, first.later)) (first.keeps t T le left);
}

-- what a stop since old could have left, where since old nothing else was left as old was now
pub stops_leave : {old new : Meaning} {P : Tree → Type 0} → Leaves old new P → P old.tree → ((T : Tree) → left_since old old.moment T → T ≡ old.tree) → StopsLeave old new P
stops_leave {P = P} run here only T left = ⊎_elim (λ past. subst P (sym (only T past)) here) (λ p. p) (run.since _ T (omega arith) left)

-- The same of the disks that are found.

pub passes_starts : (now : Meaning) (P : Disk → Type 0) → P (disk_of now) → Passes now now P
passes_starts now P here = record { disk = here; later = omega arith; since = λ t D le found. inl found; keeps = λ t D le found. found }

pub passes_weaken : {old new : Meaning} {P Q : Disk → Type 0} → Passes old new P → ((D : Disk) → P D → Q D) → Passes old new Q
passes_weaken run wider = record {
  disk = wider _ run.disk;
  later = run.later;
  since = λ t D le found. ⊎_elim (λ past. inl past) (λ p. inr (wider D p)) (run.since t D le found);
  keeps = run.keeps;
}

pub passes_joins : {old mid new : Meaning} {P : Disk → Type 0} → Passes old mid P → Passes mid new P → Passes old new P
passes_joins first second = record {
  disk = second.disk;
  later = omega (arith, first.later, second.later);
  since = λ t D le found. ⊎_elim (first.since t D le) (λ p. inr p) (second.since t D (omega (arith, le, first.later)) found);
  keeps = λ t D le found. second.keeps t D (omega (arith, le, first.later)) (first.keeps t D le found);
}

-- The same of what losses of power leave.

pub loses_weaken : {old new : Meaning} {P Q : Tree → Type 0} → Loses old new P → ((T : Tree) → P T → Q T) → Loses old new Q
loses_weaken run wider = record {
  now = λ T lost. wider T (run.now T lost);
  later = run.later;
  since = λ t T le lost. ⊎_elim (λ past. inl past) (λ p. inr (wider T p)) (run.since t T le lost);
  keeps = run.keeps;
}

pub loses_joins : {old mid new : Meaning} {P : Tree → Type 0} → Loses old mid P → Loses mid new P → Loses old new P
loses_joins first second = record {
  now = second.now;
  later = omega (arith, first.later, second.later);
  since = λ t T le lost. ⊎_elim (first.since t T le) (λ p. inr p) (second.since t T (omega (arith, le, first.later)) lost);
  keeps = λ t T le lost. second.keeps t T (omega (arith, le, first.later)) (first.keeps t T le lost);
}

-- what stops then leave
pub stops : {old new : Meaning} {P : Disk → Type 0} (Q : Tree → Type 0) → ((D : Disk) → P D → Q D.tree) → Passes old new P → Leaves old new Q
unfolding left_since
stops {old = old} {new = new} Q wider run = record {
  tree = wider (disk_of new) run.disk;
  later = run.later;
  since = λ t T le left. ⊎_elim (λ past. inl (left.0, past, left.2)) (λ p. inr (subst Q left.2 (wider left.0 p))) (run.since t left.0 le left.1);
  keeps = λ t T le left. (left.0, run.keeps t left.0 le left.1, left.2);
}

-- and what losses of power leave
pub losses : {old new : Meaning} {P : Disk → Type 0} (Q : Tree → Type 0) → ((D : Disk) → P D → (T : Tree) → Lost D T → Q T) → Passes old new P → Loses old new Q
unfolding lost_since
losses {old = old} {new = new} Q wider run = record {
  now = λ T lost. wider (disk_of new) run.disk T lost;
  later = run.later;
  since = λ t T le left. ⊎_elim (λ past. inl (left.0, past, left.2)) (λ p. inr (wider left.0 p T left.2)) (run.since t left.0 le left.1);
  keeps = λ t T le left. (left.0, run.keeps t left.0 le left.1, left.2);
}

-- each tree that has Q is that of a disk that is added
pub adds_trees : (old new : Meaning) (P : Disk → Type 0) (Q : Tree → Type 0) → ((T : Tree) → Q T → (D : Disk) × P D × (D.tree ≡ T)) → AddsDisks old new P → Adds old new Q
unfolding left_since
adds_trees old new P Q disk adds t T le q = let found = disk T q in (found.0, adds t found.0 le found.1, found.2)
