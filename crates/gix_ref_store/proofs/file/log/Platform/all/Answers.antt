use Rattle.gix_ref_name.specs.Names.{full_ref_bytes}
use Rattle.gix_ref_store.proofs.PlatformLogs.{no_lines}
use Rattle.gix_ref_store.proofs.file.log.Platform.all.Goals as goal

pub returns-clause-failed : goal.returns-clause-failed
returns-clause-failed g c =
    let F = g.F.Files in
    no_lines F.honest F.means F.faults c.args.self.now.store.now (full_ref_bytes c.args.self.now.name) c.reflog_iter.new.self c.reflog_iter.result c.reflog_iter.ensures.unchanged c.reflog_iter.ensures.count c.reflog_iter.ensures.failed
