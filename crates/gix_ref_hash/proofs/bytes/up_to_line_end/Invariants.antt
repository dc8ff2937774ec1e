use Rattle.std.proofs.Common.{take, ◌≡◌, true}
use Rattle.std.specs.List.{All}
use Rattle.gix_ref_hash.specs.Bytes.{in_line}
use Rattle.gix_ref_hash.proofs.bytes.up_to_line_end.Given as goal

abbrev pub invariant-loop-i : goal.invariant-loop-i
invariant-loop-i l = All (λ b. in_line b ≡ true) (take l.i l.text)
