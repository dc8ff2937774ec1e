use Rattle.std.proofs.Common.{◌≡◌, ◌≤◌, length, take}
use Rattle.gix_ref_files.proofs.clean.shared_end.Given as goal

-- up to here the paths are alike
abbrev pub invariant-loop-end : goal.invariant-loop-end
invariant-loop-end l = record {
  within : l.end ≤ length l.path;
  other : l.end ≤ length l.other;
  same : take l.end l.path ≡ take l.end l.other;
}

abbrev pub decreases-loop-end : goal.decreases-loop-end
decreases-loop-end l = l.end
