use Rattle.std.proofs.Common.{◌≡◌, ◌≤◌, length}
use Rattle.gix_ref_program.specs.ScriptLines.{script_lines}
use Rattle.gix_ref_program.proofs.script_lines.next_line.Given as goal

abbrev pub invariant-loop-rest : goal.invariant-loop-rest
invariant-loop-rest l = (script_lines l.text ≡ script_lines l.rest) × (length l.rest ≤ length l.text)

abbrev pub decreases-loop-rest : goal.decreases-loop-rest
decreases-loop-rest l = length l.rest
