use Rattle.std.proofs.Common.{rules, inr, ap}
use Rattle.gix_ref_files.proofs.Moments.{loses_weaken}
use Rattle.gix_ref_program.specs.Words.{IsNoScript, command_asked, line_asked}
use Rattle.gix_ref_program.proofs.RunLemmas.{writes_alone}
use Rattle.gix_ref_program.proofs.run.run_line.Goals as goal

pub returns-in-Script-clause-loses : goal.returns-in-Script-clause-loses
returns-in-Script-clause-loses g c h may ready = loses_weaken (c.run_script.ensures.loses h ready) (λ T loss. inr (inr (c.in-Script.path.now, ap command_asked c.in-Script.is, loss)))

pub returns-in_default : goal.returns-in_default
returns-in_default g c =
    let done = c.run_command.ensures in
    let alone : IsNoScript (line_asked c.args.line.now).asked = search rules in
    record { packed_refs = done.packed_refs; prints = done.prints; leaves = done.leaves; loses = λ h may ready. done.loses h (writes_alone (line_asked c.args.line.now).asked alone may) ready }
