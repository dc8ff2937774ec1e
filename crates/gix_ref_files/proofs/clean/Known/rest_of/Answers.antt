use Rattle.std.proofs.Common.{true, false, sym, subst}
use Rattle.gix_ref_files.specs.DiskSteps.{syncs_of, IsSomeSynced}
use Rattle.gix_ref_files.specs.declared.steps.Action.{Action}
use Rattle.gix_ref_files.proofs.clean.Known.rest_of.Goals as goal

pub returns-in-Line-clause-some : goal.returns-in-Line-clause-some
returns-in-Line-clause-some c D E some =
    subst (λ (a : Action). IsSomeSynced (syncs_of a c.args.settle) D E) (sym c.in-Line.is)
    (c.rest_of.ensures.some true D E (subst (λ (a : Action). IsSomeSynced (syncs_of a c.rest_of.result) D E) c.in-Line.is some))

pub returns-in-Rename-clause-some : goal.returns-in-Rename-clause-some
returns-in-Rename-clause-some c D E some =
    subst (λ (a : Action). IsSomeSynced (syncs_of a c.args.settle) D E) (sym c.in-Rename.is)
    (c.rest_of-in-Rename.ensures.some false D E (subst (λ (a : Action). IsSomeSynced (syncs_of a c.rest_of-in-Rename.result) D E) c.in-Rename.is some))
