use Rattle.std.proofs.Common.{sym, subst, Bool, rules}
use Rattle.gix_ref_files.specs.Calls.{RemovesFile}
use Rattle.gix_ref_files.specs.DiskSteps.{CanSettle}
use Rattle.gix_ref_files.specs.declared.steps.Action.{Action}
use Rattle.gix_ref_files.proofs.LockLemmas.{if_ok}
use Rattle.gix_ref_files.proofs.Ready.{ready_line, ready_removed}
use Rattle.gix_ref_files.specs.Steps.{Begins}
use Rattle.gix_ref_files.specs.Steps.Step.{Line}
use Rattle.gix_ref_files.proofs.Stops.{begins_trees}
use Rattle.gix_ref_files.proofs.steps.change.Goals as goal

pub returns-in_err-add_line-in-Line-clause-ended : goal.returns-in_err-add_line-in-Line-clause-ended
returns-in_err-add_line-in-Line-clause-ended g c h =
    let begun : Begins (Line c.in-Line.path.now c.in-Line.bytes.now) (g.F.Files.means c.args.files.now).tree (g.F.Files.means c.add_line.new.files).tree =
    begins_trees (Line c.in-Line.path.now c.in-Line.bytes.now) _ _ (c.add_line.ensures.passes h).disk in
    search (rules, begun)

pub returns-in_ok-add_line-in-Line-clause-ready : goal.returns-in_ok-add_line-in-Line-clause-ready
returns-in_ok-add_line-in-Line-clause-ready g c h =
    if_ok c.as_done-in-Line.result (λ more done is. subst (λ (a : Action). CanSettle a (g.F.Files.means c.add_line.new.files).tree) (sym c.in-Line.is)
    (ready_line _ _ _ _ (g.met.F.Files.shaped c.args.files.now h) (c.in_ok-add_line-in-Line.ensures.done h done)))
    c.as_done-in-Line.ensures.done

pub returns-in_ok-remove_file-in-RemoveFile-clause-ready : goal.returns-in_ok-remove_file-in-RemoveFile-clause-ready
returns-in_ok-remove_file-in-RemoveFile-clause-ready g c h more =
    subst (λ (a : Action). CanSettle a (g.F.Files.means c.remove_file.new.self).tree) (sym c.in-RemoveFile.is)
    (ready_removed _ _ _ (g.met.F.Files.shaped c.args.files.now h)
    (subst (λ (b : Bool). RemovesFile (g.F.Files.means c.args.files.now).tree c.in-RemoveFile.path.now (g.F.Files.means c.remove_file.new.self).tree b) more (c.in_ok-remove_file-in-RemoveFile.ensures.answer h)))
