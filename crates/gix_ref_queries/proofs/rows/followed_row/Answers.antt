use Rattle.std.proofs.Common.{refl}
use Rattle.gix_ref_name.specs.Names.{full_bytes, full_ref_bytes}
use Rattle.gix_ref_queries.specs.Resolving.{targets_in}
use Rattle.gix_ref_queries.proofs.Names.{unfollowed_by}
use Rattle.gix_ref_queries.proofs.RowLemmas.{row_reached, row_missing, sees_missing, sees_reached}
use Rattle.gix_ref_queries.proofs.rows.followed_row.Goals as goal

pub returns-in-Object-clause-rows : goal.returns-in-Object-clause-rows
returns-in-Object-clause-rows g c h records are =
    let done = c.follow-last.result in
    row_reached (targets_in g.F.Files.means c.args.store.now records) c.args.parts.now (full_ref_bytes c.args.name) c.args.short.now (full_bytes c.in_ok-owned.owned) (full_bytes done.name) c.in_ok-owned.ensures
    c.to_path.result.now c.to_path-in-Object.result.now c.in-Object.id done.end c.in_ok-text-in-Object.text.items (c.follow-last.ensures.ends h records are) c.in-Object.is c.to_path.ensures.bytes c.to_path-in-Object.ensures.bytes c.in_ok-text-in-Object.ensures

pub returns-in-Absent-clause-rows : goal.returns-in-Absent-clause-rows
returns-in-Absent-clause-rows g c h records are =
    let done = c.follow-last.result in
    row_missing (targets_in g.F.Files.means c.args.store.now records) c.args.parts.now (full_ref_bytes c.args.name) c.args.short.now (full_bytes c.in_ok-owned.owned) (full_bytes done.name) c.in_ok-owned.ensures
    done.end (c.follow-last.ensures.ends h records are) c.in-Absent.is

pub returns-in-Unread-clause-failed : goal.returns-in-Unread-clause-failed
returns-in-Unread-clause-failed g c =
    let F = g.F.Files in
    let done = c.follow-last.result in
    let error = c.in-Unread.field-0 in
    ((error, unfollowed_by g.F.Reader.ReadAt F.honest F.means F.faults c.args.store.now (full_bytes c.in_ok-owned.owned) (full_bytes done.name) (full_ref_bytes c.args.name) done.end error c.in-Unread.is c.in_ok-owned.ensures c.follow-last.ensures.ends c.follow-last.ensures.seen c.follow-last.ensures.failed), refl)

pub returns-in-Object-clause-seen : goal.returns-in-Object-clause-seen
returns-in-Object-clause-seen g c h =
    let done = c.follow-last.result in
    sees_reached g.F.Files.means c.args.store.now c.args.parts.now (full_ref_bytes c.args.name) c.args.short.now (full_bytes c.in_ok-owned.owned) (full_bytes done.name) c.in_ok-owned.ensures
    c.to_path.result.now c.to_path-in-Object.result.now c.in-Object.id done.end c.in_ok-text-in-Object.text.items (c.follow-last.ensures.seen h) c.in-Object.is c.to_path.ensures.bytes c.to_path-in-Object.ensures.bytes c.in_ok-text-in-Object.ensures

pub returns-in-Absent-clause-seen : goal.returns-in-Absent-clause-seen
returns-in-Absent-clause-seen g c h =
    let done = c.follow-last.result in
    sees_missing g.F.Files.means c.args.store.now c.args.parts.now (full_ref_bytes c.args.name) c.args.short.now (full_bytes c.in_ok-owned.owned) (full_bytes done.name) c.in_ok-owned.ensures
    done.end (c.follow-last.ensures.seen h) c.in-Absent.is
