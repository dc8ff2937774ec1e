use Rattle.std.proofs.Common.{sym, subst}
use Rattle.gix_ref_files.specs.Files.{Loses}
use Rattle.gix_ref_program.specs.Runs.{IsLossInScript}
use Rattle.gix_ref_program.specs.Words.{line_asked}
use Rattle.gix_ref_program.proofs.ScriptRuns.{ready_now, script_leaves, script_loses, script_prints, unread_loses, unread_prints}
use Rattle.gix_ref_program.proofs.run.run_script.Goals as goal

pub returns-in-Ok-clause-prints : goal.returns-in-Ok-clause-prints
returns-in-Ok-clause-prints g c =
    let F = g.F.Files in
    let read = c.read_script in
    script_prints F.honest F.means F.faults c.args.packed_refs c.args.files read.new.files (line_asked c.args.line.now) c.args.path.now (λ h. (read.ensures.passes h).disk) g.F.Reader.ReadAt c.run_text.result.files c.in-Ok.text.items
    (g.W.Write.contents c.args.out.now) (g.W.Write.contents c.run_text.new.out) c.run_text.result.status c.in-Ok.ensures.read (rw c.deref.ensures.value at c.run_text.ensures.prints)

pub returns-in-Ok-clause-leaves : goal.returns-in-Ok-clause-leaves
returns-in-Ok-clause-leaves g c h =
    let F = g.F.Files in
    let read = c.read_script in
    script_leaves F.honest F.means F.faults c.args.packed_refs c.args.files read.new.files (line_asked c.args.line.now) c.args.path.now (read.ensures.leaves h) (read.ensures.passes h) c.run_text.result.files c.in-Ok.text.items c.in-Ok.ensures.read
    (rw c.deref.ensures.value at c.run_text.ensures.leaves h)

pub returns-in-Ok-clause-loses : goal.returns-in-Ok-clause-loses
returns-in-Ok-clause-loses g c h ready =
    let F = g.F.Files in
    let read = c.read_script in
    script_loses F.honest F.means F.faults c.args.packed_refs c.args.files read.new.files (line_asked c.args.line.now) c.args.path.now (read.ensures.leaves h) (read.ensures.passes h) c.run_text.result.files c.in-Ok.text.items c.in-Ok.ensures.read
    (rw c.deref.ensures.value at c.run_text.ensures.loses h
    (ready_now F.honest F.means F.faults c.args.packed_refs c.args.files read.new.files (line_asked c.args.line.now) c.args.path.now (read.ensures.leaves h) (read.ensures.passes h) h ready))

pub returns-in-Err-clause-prints : goal.returns-in-Err-clause-prints
returns-in-Err-clause-prints g c =
    let F = g.F.Files in
    let read = c.read_script in
    unread_prints F.honest F.means F.faults c.args.packed_refs c.args.files read.new.files (line_asked c.args.line.now) c.args.path.now (λ h. (read.ensures.passes h).disk) g.F.Reader.ReadAt c.print_unread.result.files c.in-Err.unread
    (g.W.Write.contents c.args.out.now) (g.W.Write.contents c.print_unread.new.out) c.print_unread.result.status c.print_unread.ensures.files c.in-Err.ensures.read c.print_unread.ensures.prints

pub returns-in-Err-clause-loses : goal.returns-in-Err-clause-loses
returns-in-Err-clause-loses g c h ready =
    let F = g.F.Files in
    let read = c.read_script in
    subst (λ f. Loses (F.means c.args.files) (F.means f) (IsLossInScript F.honest F.means F.faults c.args.packed_refs c.args.files (line_asked c.args.line.now) c.args.path.now)) (sym c.print_unread.ensures.files)
    (unread_loses F.honest F.means F.faults c.args.packed_refs c.args.files read.new.files (line_asked c.args.line.now) c.args.path.now (read.ensures.leaves h) (read.ensures.passes h))
