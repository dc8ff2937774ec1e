use Rattle.gix_ref_commit.proofs.Walking.{not_of_store}
use Rattle.gix_ref_commit.proofs.folders.leads_to_store.Goals as goal

pub returns-else-is_on_way-clause-outside : goal.returns-else-is_on_way-clause-outside
returns-else-is_on_way-clause-outside c none within =
    not_of_store c.args.dirs.now c.args.folder.now
    (λ git. c.is_on_way.ensures.outside c.if-is_on_way.false (rw c.as_slice-git_dir.ensures.value git))
    (λ common. c.is_on_way-else-is_on_way.ensures.outside none (rw c.common.ensures common)) within
