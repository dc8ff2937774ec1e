use Rattle.std.proofs.Common.{◌≡◌, List, ap, ◌∙◌, subst, sym}
use Rattle.gix_ref_files.proofs.Meeting.{no_fewer_starts, fewer_same}
use Rattle.gix_ref_files.specs.Files.{disk_of}
use Rattle.gix_ref_files.specs.Steps.{IsLeftBy}
use Rattle.gix_ref_files.specs.DiskSteps.{IsReachedBy}
use Rattle.gix_ref_files.specs.declared.steps.Planned.{Planned}
use Rattle.gix_ref_files.proofs.Between.{none_begun}
use Rattle.gix_ref_files.proofs.Moments.{starts, passes_starts}
use Rattle.gix_ref_files.proofs.Runs.{none_reached}
use Rattle.gix_ref_commit.specs.Cleared.{cleared, folder_lists}
use Rattle.gix_ref_commit.specs.Entries.{bare_steps, entries, steps_in}
use Rattle.gix_ref_commit.specs.Unfinished.{IsStepAt}
use Rattle.gix_ref_commit.specs.declared.plan.About.{About}
use Rattle.gix_ref_commit.proofs.PlanRuns.{bares_are, synced_are, ends_in, no_fewer_at_end, raised_at_end}
use Rattle.gix_ref_commit.proofs.run.run_plan.Goals as goal

pub returns-in_default-clause-runs : goal.returns-in_default-clause-runs
returns-in_default-clause-runs g c =
    let now = g.F.Files.means c.args.files.now in
    let planned = cleared (folder_lists c.args.ways.now) (entries c.args.plan.items) in
    record {
      leaves = λ h. starts now (IsLeftBy (bare_steps planned) now.tree) (none_begun (bare_steps planned) now.tree);
      passes = λ h. passes_starts now (IsReachedBy (steps_in planned) (disk_of now)) (none_reached (steps_in planned) (disk_of now));
      no_fewer = no_fewer_starts _;
    }

pub returns-in-Ok-run_steps-clause-ended : goal.returns-in-Ok-run_steps-clause-ended
returns-in-Ok-run_steps-clause-ended g c = record {
  done = λ h. rw (bares_are c.deref.result.now _ (ap entries c.deref.ensures.value ∙ c.in-Ok.ensures)) at (c.in-Ok-run_steps.ensures.done h);
  synced = λ h. rw (synced_are c.deref.result.now _ (ap entries c.deref.ensures.value ∙ c.in-Ok.ensures)) at (c.in-Ok-run_steps.ensures.synced h);
}

pub returns-in-Ok-run_steps-clause-runs : goal.returns-in-Ok-run_steps-clause-runs
returns-in-Ok-run_steps-clause-runs g c = record {
  leaves = λ h. rw (bares_are c.deref.result.now _ (ap entries c.deref.ensures.value ∙ c.in-Ok.ensures)) at (c.run_steps.ensures.leaves h);
  passes = λ h. rw (synced_are c.deref.result.now _ (ap entries c.deref.ensures.value ∙ c.in-Ok.ensures)) at (c.run_steps.ensures.passes h);
  no_fewer = fewer_same _ _ c.in-Ok-run_steps.ensures.count;
}

pub returns-clause-runs : goal.returns-clause-runs
returns-clause-runs g c = record {
  leaves = λ h. rw (bares_are c.deref.result.now _ (ap entries c.deref.ensures.value ∙ c.in-Ok.ensures)) at (c.run_steps.ensures.leaves h);
  passes = λ h. rw (synced_are c.deref.result.now _ (ap entries c.deref.ensures.value ∙ c.in-Ok.ensures)) at (c.run_steps.ensures.passes h);
  no_fewer = no_fewer_at_end c.in-Err.ended.cause _ _ c.in-Err.ensures.count.0;
}

pub returns-clause-ended : goal.returns-clause-ended
returns-clause-ended g c =
    let plan = c.deref.result.now in
    let same : c.deref-in-Err.result.now ≡ plan = c.deref-in-Err.ensures.value ∙ sym c.deref.ensures.value in
    record {
      memory = λ none. absurd (subst (IsStepAt c.deref-in-Err.result.now c.in-Err.ended) none c.step_of_end.ensures);
      ended =
          ends_in g.F.Files.honest plan (cleared (folder_lists c.args.ways.now) (entries c.args.plan.items)) c.in-Err.ended c.step_of_end.result
          (g.F.Files.means c.args.files.now).tree (g.F.Files.means c.run_steps.new.files).tree
          (ap entries c.deref.ensures.value ∙ c.in-Ok.ensures) c.in-Err.ensures.place
          (subst (λ (l : List (Planned About)). IsStepAt l c.in-Err.ended c.step_of_end.result) same c.step_of_end.ensures)
          c.in-Err.ensures.ended;
      counted = raised_at_end c.deref-in-Err.result.now c.in-Err.ended c.step_of_end.result _ _ c.step_of_end.ensures c.in-Err.ensures.count.0 c.in-Err.ensures.count.1;
    }
