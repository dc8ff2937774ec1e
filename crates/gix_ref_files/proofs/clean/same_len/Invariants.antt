use Rattle.std.proofs.Common.{◌≡◌, ◌-◌, ◌≤◌, length, take}
use Rattle.gix_ref_files.proofs.clean.same_len.Given as goal

-- so far they are alike
abbrev pub invariant-loop-len : goal.invariant-loop-len
invariant-loop-len l = record {
  within : l.len ≤ length l.path;
  other : l.len ≤ length l.other;
  same : take l.len l.path ≡ take l.len l.other;
}

abbrev pub decreases-loop-len : goal.decreases-loop-len
decreases-loop-len l = length l.path - l.len
