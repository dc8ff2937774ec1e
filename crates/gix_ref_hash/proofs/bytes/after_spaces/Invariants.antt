use Rattle.std.proofs.Common.{take, ◌≡◌, true}
use Rattle.std.specs.List.{All}
use Rattle.gix_ref_hash.specs.Bytes.{is_space}
use Rattle.gix_ref_hash.proofs.bytes.after_spaces.Given as goal

abbrev pub invariant-loop-i : goal.invariant-loop-i
invariant-loop-i l = All (λ b. is_space b ≡ true) (take l.i l.text)
