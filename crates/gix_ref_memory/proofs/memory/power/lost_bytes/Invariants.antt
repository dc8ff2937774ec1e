use Rattle.std.proofs.Common.{◌≡◌, ◌++◌, ◌-◌, take, replicate}
use Rattle.gix_ref_memory.proofs.memory.power.lost_bytes.Given as goal

-- one of the other bytes for each place so far
abbrev pub invariant-loop-at : goal.invariant-loop-at
invariant-loop-at l = l.left.items ≡ take l.kept l.bytes ++ replicate (l._at - l.kept) 63
