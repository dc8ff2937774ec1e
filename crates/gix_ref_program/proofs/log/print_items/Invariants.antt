use Rattle.gix_ref_log.specs.LogWindows.{most_left}
use Rattle.gix_ref_program.proofs.LogLoop.{AreSoFar}
use Rattle.gix_ref_program.proofs.log.print_items.Given as goal

abbrev pub decreases-loop-text : goal.decreases-loop-text
decreases-loop-text g l = most_left l.lines

-- what is written and the text are what is printed of the items so far
abbrev pub invariant-loop-text : goal.invariant-loop-text
invariant-loop-text g l =
    let R = g.R.ReadAt in
    AreSoFar R.honest R.bytes R.faults l.fn.lines l.lines (g.W.Write.contents l.fn.out) (g.W.Write.contents l.out) l.text.items l.status
