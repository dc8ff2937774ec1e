use Rattle.std.proofs.Common.{◌≡◌, ℕ, ◌+◌, ◌<◌, List, ◌∷◌, suc, length, take, drop, get_or, [], refl, sym, ◌∙◌, ap, subst, arith}
use Rattle.std.proofs.lemmas.List.{drop_more}
use Rattle.gix_ref_files.specs.Steps.{Step, IsAfter, IsLeftBy, EndsAt, step_of, steps_of}
use Rattle.gix_ref_files.specs.declared.steps.Planned.{Planned}
use Rattle.gix_ref_files.specs.Files.{disk_of}
use Rattle.gix_ref_files.specs.DiskSteps.{Synced, IsReachedBy, IsSyncedAfter, synced_step, synced_steps}
use Rattle.gix_ref_files.proofs.Moments.{passes_starts, passes_weaken, passes_joins}
use Rattle.gix_ref_files.proofs.Runs.{none_reached, after_behind, reached_at, ended_at, front_more, whole_front}
use Rattle.gix_ref_files.proofs.Stops.{leaves_of, planned_trees}
use Rattle.gix_ref_files.proofs.steps.run_steps.Goals as goal

pub loop-at-init : goal.loop-at-init
loop-at-init g c =
    let first = g.F.Files.means c.args.files.now in
    record {
      count = refl;
      passes = λ h. passes_starts first _ (none_reached (synced_steps c.args.plan.now) (disk_of first));
      known = λ h. c.none-known.ensures (disk_of first);
      synced = λ h. refl;
      done = λ h T after. after;
      ended = λ h k cause T ends. subst (λ (n : ℕ). EndsAt (steps_of c.args.plan.now) n cause first.tree T) (omega arith) ends;
    }

-- the rest of a plan is its next step and what follows that
split : {E : Type 0} (plan : List (Planned E)) (i : ℕ) (planned : Planned E) → i < length plan → planned ≡ get_or plan i planned → step_of planned.action ∷ steps_of (drop (i + 1) plan) ≡ steps_of (drop i plan)
split plan i planned lt is =
    ap (λ (p : Planned _). step_of p.action ∷ steps_of (drop (i + 1) plan)) is ∙ sym (ap steps_of (drop_more plan i planned lt))

pub returns-in-Err-clause-ended : goal.returns-in-Err-clause-ended
returns-in-Err-clause-ended g c h =
    let plan = c.args.plan.now in
    let i = c.loop-at.at in
    let planned = c.index-plan-at.result in
    let mid = (g.F.Files.means c.loop-at.files).tree in
    let now = (g.F.Files.means c.run_step.new.files).tree in
    let here : EndsAt (steps_of (drop i plan)) 0 c.in-Err.cause mid now =
    subst (λ (steps : List Step). EndsAt steps 0 c.in-Err.cause mid now) (split plan i planned c.loop-at-test.true c.index-plan-at.is) (c.in-Err.ensures.ended h) in
    subst (λ (n : ℕ). EndsAt (steps_of plan) n c.in-Err.cause (g.F.Files.means c.args.files.now).tree now) (omega arith) (c.loop-at.invariant.ended h 0 c.in-Err.cause now here)

reached_on_err : goal.returns-in-Err-clause-passes
reached_on_err g c h =
    passes_joins (c.loop-at.invariant.passes h) (passes_weaken (c.run_step.ensures.passes h)
    (λ E reached. reached_at c.args.plan.now c.loop-at.at c.index-plan-at.result _ _ E c.loop-at-test.true c.index-plan-at.is (c.loop-at.invariant.synced h) reached))

pub returns-in-Err-clause-leaves : goal.returns-in-Err-clause-leaves
returns-in-Err-clause-leaves g c h =
    leaves_of (IsReachedBy (synced_steps c.args.plan.now)) (IsLeftBy (steps_of c.args.plan.now)) (planned_trees c.args.plan.now) (reached_on_err g c h)

pub returns-clause-leaves : goal.returns-clause-leaves
returns-clause-leaves g c h =
    leaves_of (IsReachedBy (synced_steps c.args.plan.now)) (IsLeftBy (steps_of c.args.plan.now)) (planned_trees c.args.plan.now) (c.loop-at.invariant.passes h)

pub loop-at-preserved : goal.loop-at-preserved
loop-at-preserved g c =
    let plan = c.args.plan.now in
    let i = c.loop-at.at in
    let planned = c.index-plan-at.result in
    let rest = steps_of (drop (i + 1) plan) in
    let mid = (g.F.Files.means c.loop-at.files).tree in
    let now = (g.F.Files.means c.run_step.new.files).tree in
    let so_far = c.loop-at.invariant in
    let steps_are : step_of planned.action ∷ rest ≡ steps_of (drop i plan) = split plan i planned c.loop-at-test.true c.index-plan-at.is in
    let counted : g.F.Files.faults c.run_step.new.files ≡ g.F.Files.faults c.loop-at.files = c.in_default.ensures.count in
    record {
      count = counted ∙ so_far.count;
      passes = λ h. passes_joins (so_far.passes h) (passes_weaken (c.run_step.ensures.passes h)
          (λ E reached. reached_at plan i planned _ _ E c.loop-at-test.true c.index-plan-at.is (so_far.synced h) reached));
      known = λ h. c.in_default.ensures.known h;
      synced = λ h. subst (λ (l : List Synced). IsSyncedAfter l (disk_of (g.F.Files.means c.args.files.now)) (disk_of (g.F.Files.means c.run_step.new.files))) (front_more plan i planned c.loop-at-test.true c.index-plan-at.is)
          (after_behind (take i (synced_steps plan)) (synced_step planned ∷ []) _ _ _ (so_far.synced h) (c.in_default.ensures.synced h));
      done = λ h T after. so_far.done h T (subst (λ (steps : List Step). IsAfter steps mid T) steps_are (now, c.in_default.ensures.done h, after));
      ended = λ h k cause T ends.
          subst (λ (n : ℕ). EndsAt (steps_of plan) n cause (g.F.Files.means c.args.files.now).tree T) (omega arith)
          (so_far.ended h (suc k) cause T (subst (λ (steps : List Step). EndsAt steps (suc k) cause mid T) steps_are (now, c.in_default.ensures.done h, ends)));
    }

pub returns-in-Err-clause-passes : goal.returns-in-Err-clause-passes
returns-in-Err-clause-passes g c h = reached_on_err g c h

pub returns-in-Err-clause-ended_on : goal.returns-in-Err-clause-ended_on
returns-in-Err-clause-ended_on g c h =
    ended_at c.args.plan.now c.loop-at.at c.index-plan-at.result c.in-Err.cause _ _ _ c.loop-at-test.true c.index-plan-at.is (c.loop-at.invariant.synced h) (c.in-Err.ensures.ended_on h)

pub returns-clause-synced : goal.returns-clause-synced
returns-clause-synced g c h = subst (λ (l : List Synced). IsSyncedAfter l (disk_of (g.F.Files.means c.args.files.now)) (disk_of (g.F.Files.means c.loop-at.files))) (whole_front c.args.plan.now c.loop-at.at (omega arith)) (c.loop-at.invariant.synced h)
