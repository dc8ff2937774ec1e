use Rattle.std.proofs.Common.{List, ℕ, Some, None, true, sym, subst}
use Rattle.gix_ref_target.specs.PackedRecords.{Record}
use Rattle.gix_ref_lookup.specs.declared.find.records.Records.TheVariants.{Unopened}
use Rattle.gix_ref_store.specs.Lookup.{AreRecordsIn, FindsAmong, SeesIn, FailsIn}
use Rattle.gix_ref_program.specs.Runs.{ShowOutcome}
use Rattle.gix_ref_program.specs.declared.outcome.Outcome.{Outcome}
use Rattle.gix_ref_program.proofs.run.show.Goals as goal

pub returns-in-Ok-Some-clause-outcome : goal.returns-in-Ok-Some-clause-outcome
returns-in-Ok-Some-clause-outcome g c h =
    let F = g.F.Files in
    let old = c.args.store.now in
    let found = c.in-Ok-Some.reference in
    let hit = rw c.in-Ok-Some.field-0-is at (c.in-Ok-Some.ensures.seen h) in (
      subst (λ (p : List ℕ). SeesIn {R = g.row.F-Reader.Denot} {G = g.F.Reader.ReadAt} F.means true old Unopened p (Some found)) c.in-Ok.ensures.0 hit,
      λ (records : List Record) (are : AreRecordsIn F.means old records).
          subst (λ (p : List ℕ). FindsAmong F.means old records p (Some found)) c.in-Ok.ensures.0 (rw c.in-Ok-Some.field-0-is at (c.in-Ok-Some.ensures.found h records are)),
    )

pub returns-in-Ok-None-clause-outcome : goal.returns-in-Ok-None-clause-outcome
returns-in-Ok-None-clause-outcome g c =
    let F = g.F.Files in
    let old = c.args.store.now in
    let refused = c.refused-in-Ok-None.ensures in
    subst (λ (o : Outcome). ShowOutcome F.honest F.means F.faults g.F.Reader.ReadAt old c.try_find.new.self c.args.name.now o) (sym refused.1) (
      λ h. (
        subst (λ (p : List ℕ). SeesIn {R = g.row.F-Reader.Denot} {G = g.F.Reader.ReadAt} F.means true old Unopened p None) c.in-Ok.ensures.0 (rw c.in-Ok-None.field-0-is at (c.in-Ok-None.ensures.seen h)),
        λ (records : List Record) (are : AreRecordsIn F.means old records).
            subst (λ (p : List ℕ). FindsAmong F.means old records p None) c.in-Ok.ensures.0 (rw c.in-Ok-None.field-0-is at (c.in-Ok-None.ensures.found h records are)),
      ),
      refused.2,
    )

pub returns-in-Err-try_find-clause-outcome : goal.returns-in-Err-try_find-clause-outcome
returns-in-Err-try_find-clause-outcome g c =
    let F = g.F.Files in
    let old = c.args.store.now in
    let refused = c.refused-in-Err-try_find.ensures in
    subst (λ (o : Outcome). ShowOutcome F.honest F.means F.faults g.F.Reader.ReadAt old c.try_find.new.self c.args.name.now o) (sym refused.1) (
      subst (λ (p : List ℕ). FailsIn {R = g.row.F-Reader.Denot} {G = g.F.Reader.ReadAt} F.honest F.means F.faults true old c.try_find.new.self Unopened p c.in-Err-try_find.error) c.in-Ok.ensures.0 c.in-Err-try_find.ensures.failed,
      λ h (records : List Record) (are : AreRecordsIn F.means old records). c.in-Err-try_find.ensures.found h records are,
      refused.2,
    )
