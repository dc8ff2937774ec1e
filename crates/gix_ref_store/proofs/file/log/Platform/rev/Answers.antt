use Rattle.std.proofs.Common.{◌≡◌, length, rules}
use Rattle.std.proofs.lemmas.Result.{err_from_is_err_and}
use Rattle.gix_ref_name.specs.Names.{full_ref_bytes}
use Rattle.gix_ref_store.specs.Reflogs.{reflog_at}
use Rattle.gix_ref_store.proofs.PlatformLogs.{no_lines_back, no_room}
use Rattle.gix_ref_store.proofs.file.log.Platform.rev.Goals as goal

pub returns-in_err-resize-clause-failed : goal.returns-in_err-resize-clause-failed
returns-in_err-resize-clause-failed g c =
    let F = g.F.Files in
    let told = err_from_is_err_and c.from_residual.result c.from_residual.ensures.1 in
    rw (told.1, told.2) (no_room F.honest F.means F.faults c.args.self.now.store.now (full_ref_bytes c.args.self.now.name))

pub returns-clause-failed : goal.returns-clause-failed
returns-clause-failed g c =
    let F = g.F.Files in
    let room : length c.deref_mut.result.now ≡ 4096 = search rules in
    no_lines_back F.honest F.means F.faults c.args.self.now.store.now (full_ref_bytes c.args.self.now.name) c.reflog_iter_rev.new.self (reflog_at F.means c.args.self.now.store.now (full_ref_bytes c.args.self.now.name)) (length c.deref_mut.result.now)
    c.reflog_iter_rev.result room c.reflog_iter_rev.ensures.unchanged c.reflog_iter_rev.ensures.count c.reflog_iter_rev.ensures.failed
