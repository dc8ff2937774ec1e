use Rattle.gix_ref_commit.proofs.Walking.{unlisted_for}
use Rattle.gix_ref_commit.proofs.folders.empty_dirs_before.Goals as goal

pub returns-in-Err-clause-failed : goal.returns-in-Err-clause-failed
returns-in-Err-clause-failed g c =
    unlisted_for c.args.planned.now (g.F.Files.faults c.args.files.now) (g.F.Files.faults c.in_way_of.new.files) c.in-Err.source c.unlisted.result c.in-Err.ensures.writes c.in-Err.ensures.counted c.unlisted.ensures.memory c.unlisted.ensures.fault
