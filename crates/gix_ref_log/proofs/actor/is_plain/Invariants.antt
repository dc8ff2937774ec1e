use Rattle.std.proofs.Common.{take}
use Rattle.std.specs.List.{All}
use Rattle.gix_ref_log.proofs.PlainTexts.{IsUnmarked}
use Rattle.gix_ref_log.proofs.actor.is_plain.Given as goal

-- no mark so far
abbrev pub invariant-loop-byte : goal.invariant-loop-byte
invariant-loop-byte l = All IsUnmarked (take l.byte-index l.text)
