use Rattle.std.proofs.Common.{◌≡◌, refl, sym, subst, List, ℕ, Some, false}
use Rattle.gix_ref_name.specs.Names.{full_ref_bytes}
use Rattle.gix_ref_files.specs.Tree.{is_file}
use Rattle.gix_ref_store.specs.Reflogs.{reflog_at, ReadsBackward, IsNoReflog}
use Rattle.gix_ref_program.specs.Runs.{RefusesReflog, LogRan}
use Rattle.gix_ref_program.specs.declared.outcome.Outcome.{Outcome}
use Rattle.gix_ref_program.proofs.Printing.{said, logged, no_log, has_room}
use Rattle.gix_ref_program.proofs.run.print_log.Goals as goal

pub returns-in-Err-clause-prints : goal.returns-in-Err-clause-prints
returns-in-Err-clause-prints g c =
    let F = g.F.Files in
    let store = c.args.store.now in
    let refused = c.refused.ensures in
    said (LogRan F.honest F.means F.faults g.F.Reader.ReadAt store store c.args.name.now) (g.W.Write.contents c.args.out.now) (g.W.Write.contents c.print.new.out) c.print.result c.refused.result
    (subst (λ (o : Outcome). RefusesReflog F.faults store store c.args.name.now o) (sym refused.1) (c.in-Err.ensures, refl, refused.2)) c.print.ensures.status c.print.ensures.printed

pub returns-in-Ok-Some-clause-prints : goal.returns-in-Ok-Some-clause-prints
returns-in-Ok-Some-clause-prints g c =
    let F = g.F.Files in
    let store = c.args.store.now in
    logged g.F.Reader.ReadAt F.honest F.means F.faults store c.reflog_iter_rev.new.self c.args.name.now c.in-Ok-Some.lines (g.W.Write.contents c.args.out.now) (g.W.Write.contents c.print_items.new.out) c.print_items.result
    c.in-Ok.ensures.1
    (λ h. subst (λ (p : List ℕ). ReadsBackward g.F.Reader.ReadAt (reflog_at F.means store p) 4096 (Some c.in-Ok-Some.lines)) c.in-Ok.ensures.0 (rw c.in-Ok-Some.field-0-is at (c.in-Ok-Some.ensures.lines h)))
    (rw c.in-Ok-Some.field-0-is at c.in-Ok-Some.ensures.ends) c.print_items.ensures

pub returns-in-Ok-None-clause-prints : goal.returns-in-Ok-None-clause-prints
returns-in-Ok-None-clause-prints g c =
    let F = g.F.Files in
    let store = c.args.store.now in
    no_log g.F.Reader.ReadAt F.honest F.means F.faults store c.reflog_iter_rev.new.self c.args.name.now (g.W.Write.contents c.args.out.now) c.in-Ok.ensures.1
    (λ h. subst (λ (p : List ℕ). is_file (reflog_at F.means store p) ≡ false) c.in-Ok.ensures.0 (rw c.in-Ok-None.field-0-is at (c.in-Ok-None.ensures.lines h)))

pub returns-in-Err-reflog_iter_rev-clause-prints : goal.returns-in-Err-reflog_iter_rev-clause-prints
returns-in-Err-reflog_iter_rev-clause-prints g c =
    let F = g.F.Files in
    let store = c.args.store.now in
    let new = c.reflog_iter_rev.new.self in
    let refused = c.refused-in-Err-reflog_iter_rev.ensures in
    let failed = c.in-Err-reflog_iter_rev in
    let name = c.args.name.now in
    said (LogRan F.honest F.means F.faults g.F.Reader.ReadAt store new name) (g.W.Write.contents c.args.out.now) (g.W.Write.contents c.print-in-Err-reflog_iter_rev.new.out) c.print-in-Err-reflog_iter_rev.result c.refused-in-Err-reflog_iter_rev.result
    (subst (λ (o : Outcome). RefusesReflog F.faults store new name o) (sym refused.1) (
      subst (λ (p : List ℕ). IsNoReflog store p failed.error) c.in-Ok.ensures.0 (has_room F.honest (reflog_at F.means store (full_ref_bytes c.in-Ok.name)) 4096 store (full_ref_bytes c.in-Ok.name) failed.error (λ none. cc) failed.ensures.failed),
      failed.ensures.count,
      refused.2,
    ))
    c.print-in-Err-reflog_iter_rev.ensures.status c.print-in-Err-reflog_iter_rev.ensures.printed
