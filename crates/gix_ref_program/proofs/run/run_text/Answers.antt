use Rattle.std.proofs.Common.{refl, sym, subst}
use Rattle.gix_ref_files.specs.Files.{Loses}
use Rattle.gix_ref_program.specs.Runs.{IsTextLoss, NotBegun, TextRan}
use Rattle.gix_ref_program.specs.Runs.Ran.{Said}
use Rattle.gix_ref_program.specs.Words.{line_asked}
use Rattle.gix_ref_program.specs.declared.outcome.Outcome.{Outcome}
use Rattle.gix_ref_program.proofs.Printing.{said}
use Rattle.gix_ref_program.proofs.ScriptRuns.{text_leaves, text_loses, text_prints, unopened_loses}
use Rattle.gix_ref_program.proofs.run.run_text.Goals as goal

pub returns-in-Ok-clause-prints : goal.returns-in-Ok-clause-prints
returns-in-Ok-clause-prints g c =
    let F = g.F.Files in
    let ran = c.run_lines-packed_refs in
    text_prints F.honest F.means F.faults c.args.packed_refs c.args.files c.into_files.result (line_asked c.args.line.now) c.args.text.now c.in-Ok.store ran.new.store c.args.line.now.committer refl c.in-Ok.ensures (sym c.into_files.ensures)
    g.F.Reader.ReadAt (g.W.Write.contents c.args.out.now) (g.W.Write.contents ran.new.out) ran.result.1 ran.ensures.prints

pub returns-in-Ok-clause-leaves : goal.returns-in-Ok-clause-leaves
returns-in-Ok-clause-leaves g c h =
    let F = g.F.Files in
    let ran = c.run_lines-packed_refs in
    text_leaves F.honest F.means F.faults c.args.packed_refs c.args.files c.into_files.result (line_asked c.args.line.now) c.args.text.now c.in-Ok.store ran.new.store c.args.line.now.committer refl c.in-Ok.ensures (sym c.into_files.ensures) (ran.ensures.leaves h)

pub returns-in-Ok-clause-loses : goal.returns-in-Ok-clause-loses
returns-in-Ok-clause-loses g c h ready =
    let F = g.F.Files in
    let ran = c.run_lines-packed_refs in
    let begun = ready c.args.files c.in-Ok.store refl c.in-Ok.ensures in
    text_loses F.honest F.means F.faults c.args.packed_refs c.args.files c.into_files.result (line_asked c.args.line.now) c.args.text.now c.in-Ok.store ran.new.store c.args.line.now.committer refl c.in-Ok.ensures (sym c.into_files.ensures) (ran.ensures.loses h begun.0 begun.1)

pub returns-in-Err-clause-prints : goal.returns-in-Err-clause-prints
returns-in-Err-clause-prints g c =
    let F = g.F.Files in
    let line = line_asked c.args.line.now in
    let refused = c.refused.ensures in
    said (TextRan F.honest F.means F.faults c.args.packed_refs g.F.Reader.ReadAt c.args.files c.in-Err.files line c.args.text.now) (g.W.Write.contents c.args.out.now) (g.W.Write.contents c.print.new.out) c.print.result c.refused.result
    (c.in-Err.ensures.0, subst (λ (o : Outcome). NotBegun F.honest F.means F.faults line (Said o)) (sym refused.1) (c.in-Err.ensures.1, refused.2)) c.print.ensures.status c.print.ensures.printed

pub returns-in-Err-clause-loses : goal.returns-in-Err-clause-loses
returns-in-Err-clause-loses g c h ready =
    let F = g.F.Files in
    let line = line_asked c.args.line.now in
    subst (λ f. Loses (F.means c.args.files) (F.means f) (IsTextLoss F.honest F.means F.faults c.args.packed_refs c.args.files line c.args.text.now)) (sym c.in-Err.ensures.0) (unopened_loses F.honest F.means F.faults c.args.packed_refs c.args.files line c.args.text.now)
