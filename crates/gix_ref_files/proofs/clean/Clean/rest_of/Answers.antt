use Rattle.std.proofs.Common.{sym, ◌∙◌, ap, subst}
use Rattle.gix_ref_files.specs.Settled.{synced_by}
use Rattle.gix_ref_files.specs.DiskSteps.{path_syncs, IsSomeSynced}
use Rattle.gix_ref_files.specs.declared.steps.Settle.{Settle}
use Rattle.gix_ref_files.proofs.CleanFolders.{same_without, some_more}
use Rattle.gix_ref_files.proofs.clean.Clean.rest_of.Goals as goal

pub returns-in-UpTo-clause-syncs : goal.returns-in-UpTo-clause-syncs
returns-in-UpTo-clause-syncs c grows D holds =
    let clean = c.args.self in
    let x = c.changed_from.ensures in
    same_without grows clean.path.now c.args.path.now clean.from clean.end c.in-UpTo.root c.changed_from.result x.low x.within x.clean D holds
    ∙ ap (λ (s : Settle). synced_by (path_syncs grows c.args.path.now s) D) (sym c.in-UpTo.is)

pub returns-in-UpTo-clause-some : goal.returns-in-UpTo-clause-some
returns-in-UpTo-clause-some c grows D E some =
    let x = c.changed_from.ensures in
    subst (λ (s : Settle). IsSomeSynced (path_syncs grows c.args.path.now s) D E) (sym c.in-UpTo.is)
    (some_more grows c.args.path.now c.in-UpTo.root c.changed_from.result x.low x.within D E some)
