use Rattle.gix_ref_name.specs.Names.{full_ref_bytes}
use Rattle.gix_ref_store.specs.Reflogs.{reflog_at}
use Rattle.gix_ref_queries.proofs.LogEntries.{shown_of}
use Rattle.gix_ref_queries.proofs.log_rows.shown_log.Goals as goal

pub returns-in-Ok-clause-shows : goal.returns-in-Ok-clause-shows
returns-in-Ok-clause-shows g c h =
    let reads = rw c.in-Ok-Some.field-0-is at (c.in-Ok-Some.ensures.lines h) in
    shown_of (reflog_at g.F.Files.means c.args.store.now (full_ref_bytes c.args.of)) c.in-Ok-Some.log c.args.name.now c.args.count c.in-Ok.text reads.0 reads.1 c.in-Ok.ensures
