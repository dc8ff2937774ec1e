use Rattle.std.proofs.Common.{◌≡◌, length}
use Rattle.gix_ref_packed.specs.OpenFiles.{HasReadFault}
use Rattle.gix_ref_program.specs.ScriptLines.{script_lines}
use Rattle.gix_ref_program.specs.Writes.{terms_in}
use Rattle.gix_ref_program.proofs.ScriptLoop.{SoFar}
use Rattle.gix_ref_program.proofs.script.run_lines.Given as goal

abbrev pub decreases-loop-line : goal.decreases-loop-line
decreases-loop-line g l = length l.rest

abbrev pub invariant-loop-line : goal.invariant-loop-line
invariant-loop-line g l =
    let F = g.F.Files in
    (l.packed_refs ≡ l.fn.packed_refs)
    × SoFar F.honest (HasReadFault g.F.Reader.ReadAt.faults) F.means F.faults (terms_in l.terms l.fn.packed_refs) (script_lines l.text) l.fn.store l.store (script_lines l.rest) (g.W.Write.contents l.fn.out) (g.W.Write.contents l.out)
