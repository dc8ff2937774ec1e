use Rattle.std.proofs.Common.{sym, subst, ◌∷◌, []}
use Rattle.gix_ref_packed.specs.OpenFiles.{HasReadFault}
use Rattle.gix_ref_program.specs.Runs.{CommandRan, WriteRan}
use Rattle.gix_ref_program.specs.Runs.Ran.{Said}
use Rattle.gix_ref_program.specs.Words.{command_asked, line_asked}
use Rattle.gix_ref_program.specs.Writes.{terms_in}
use Rattle.gix_ref_program.specs.declared.words.Command.{Command}
use Rattle.gix_ref_program.proofs.RunLemmas.{write_runs, write_stops}
use Rattle.gix_ref_program.proofs.Printing.{prints_more, said}
use Rattle.gix_ref_program.proofs.run.execute.Goals as goal

pub transact-packed_refs-requires : goal.transact-packed_refs-requires
transact-packed_refs-requires g c = (c.if-writes.ensures, tt)

pub returns-then-writes-clause-prints : goal.returns-then-writes-clause-prints
returns-then-writes-clause-prints g c =
    let F = g.F.Files in
    let line = line_asked c.args.line.now in
    let terms = terms_in c.args.line.now c.args.packed_refs in
    let old = c.args.store.now in
    let made = c.transact-packed_refs in
    let new = made.new.store in
    let out = g.W.Write.contents c.args.out.now in
    let now = g.W.Write.contents c.print.new.out in
    prints_more (WriteRan F.honest F.means F.faults (HasReadFault g.F.Reader.ReadAt.faults) old new terms (line.asked ∷ [])) (CommandRan F.honest F.means F.faults g.F.Reader.ReadAt old new terms line.asked) out now c.print.result
    (write_runs F.honest F.means F.faults g.F.Reader.ReadAt old new terms line.asked c.if-writes.ensures)
    (said (WriteRan F.honest F.means F.faults (HasReadFault g.F.Reader.ReadAt.faults) old new terms (line.asked ∷ [])) out now c.print.result made.result.1 made.ensures.outcome c.print.ensures.status c.print.ensures.printed)

pub returns-then-writes-clause-leaves : goal.returns-then-writes-clause-leaves
returns-then-writes-clause-leaves g c h =
    let F = g.F.Files in
    let line = line_asked c.args.line.now in
    write_stops F.honest F.means F.faults c.args.store.now c.transact-packed_refs.new.store (terms_in c.args.line.now c.args.packed_refs) line.asked c.if-writes.ensures (c.transact-packed_refs.ensures.leaves h)

pub returns-in-Show-clause-prints : goal.returns-in-Show-clause-prints
returns-in-Show-clause-prints g c =
    let F = g.F.Files in
    let does = λ (command : Command). CommandRan F.honest F.means F.faults g.F.Reader.ReadAt c.args.store.now c.show.new.store (terms_in c.args.line.now c.args.packed_refs) (command_asked command) in
    said (does c.args.line.now.command) (g.W.Write.contents c.args.out.now) (g.W.Write.contents c.print-in-Show.new.out) c.print-in-Show.result c.show.result
    (subst (λ (command : Command). does command (Said c.show.result)) (sym c.in-Show.is) c.show.ensures.outcome) c.print-in-Show.ensures.status c.print-in-Show.ensures.printed
