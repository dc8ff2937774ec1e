use Rattle.std.proofs.Common.{inl, inr, refl, sym, subst}
use Rattle.gix_ref_files.specs.Files.{Loses}
use Rattle.gix_ref_program.specs.Words.{line_asked}
use Rattle.gix_ref_program.specs.Writes.{terms_in}
use Rattle.gix_ref_program.specs.Runs.{CommandRan, IsLossIn, LineRan, NotBegun}
use Rattle.gix_ref_program.specs.Runs.Ran.{Said}
use Rattle.gix_ref_program.specs.declared.outcome.Outcome.{Outcome}
use Rattle.gix_ref_program.proofs.RunLemmas.{line_comes, line_loses, line_stops}
use Rattle.gix_ref_program.proofs.Printing.{prints_more, said}
use Rattle.gix_ref_program.proofs.Writing.{keeps_all}
use Rattle.gix_ref_program.proofs.run.run_command.Goals as goal

pub returns-in-Ok-clause-prints : goal.returns-in-Ok-clause-prints
returns-in-Ok-clause-prints g c =
    let F = g.F.Files in
    let line = line_asked c.args.line.now in
    let done = c.execute-packed_refs in
    prints_more (CommandRan F.honest F.means F.faults g.F.Reader.ReadAt c.in-Ok.store done.new.store (terms_in c.args.line.now c.args.packed_refs) line.asked) (LineRan F.honest F.means F.faults c.args.packed_refs g.F.Reader.ReadAt c.args.files c.into_files.result line)
    (g.W.Write.contents c.args.out.now) (g.W.Write.contents done.new.out) done.result.1
    (line_comes F.honest F.means F.faults c.args.packed_refs c.args.files c.into_files.result line c.in-Ok.store done.new.store c.args.line.now.committer refl c.in-Ok.ensures (sym c.into_files.ensures) g.F.Reader.ReadAt) done.ensures.prints

pub returns-in-Err-clause-prints : goal.returns-in-Err-clause-prints
returns-in-Err-clause-prints g c =
    let F = g.F.Files in
    let line = line_asked c.args.line.now in
    let refused = c.refused.ensures in
    said (LineRan F.honest F.means F.faults c.args.packed_refs g.F.Reader.ReadAt c.args.files c.in-Err.files line) (g.W.Write.contents c.args.out.now) (g.W.Write.contents c.print.new.out) c.print.result c.refused.result
    (inr (inl (c.in-Err.ensures.0, subst (λ (o : Outcome). NotBegun F.honest F.means F.faults line (Said o)) (sym refused.1) (c.in-Err.ensures.1, refused.2)))) c.print.ensures.status c.print.ensures.printed

pub returns-in-Ok-clause-leaves : goal.returns-in-Ok-clause-leaves
returns-in-Ok-clause-leaves g c h =
    let F = g.F.Files in
    line_stops F.honest F.means F.faults c.args.packed_refs c.args.files c.into_files.result (line_asked c.args.line.now) c.in-Ok.store c.execute-packed_refs.new.store c.args.line.now.committer refl c.in-Ok.ensures (sym c.into_files.ensures) (c.execute-packed_refs.ensures.leaves h)

pub returns-in-Ok-clause-loses : goal.returns-in-Ok-clause-loses
returns-in-Ok-clause-loses g c h writes ready =
    let F = g.F.Files in
    let begun = ready c.args.files c.in-Ok.store refl c.in-Ok.ensures in
    line_loses F.honest F.means F.faults c.args.packed_refs c.args.files c.into_files.result (line_asked c.args.line.now) c.in-Ok.store c.execute-packed_refs.new.store c.args.line.now.committer refl c.in-Ok.ensures (sym c.into_files.ensures) (c.execute-packed_refs.ensures.loses h writes begun.0 begun.1)

pub returns-in-Err-clause-loses : goal.returns-in-Err-clause-loses
returns-in-Err-clause-loses g c h writes ready =
    let F = g.F.Files in
    let line = line_asked c.args.line.now in
    subst (λ f. Loses (F.means c.args.files) (F.means f) (IsLossIn F.honest F.means F.faults c.args.packed_refs c.args.files line)) (sym c.in-Err.ensures.0)
    (keeps_all F.means c.args.files (IsLossIn F.honest F.means F.faults c.args.packed_refs c.args.files line) (λ T is. inl is))
