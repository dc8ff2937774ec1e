-- The theorems about a plan, put together: the stops, the logs, the whole plan, and the locks on both sides.
use Rattle.std.proofs.Common.{refl, subst, ◌∷◌}
use Rattle.gix_ref_theory.proofs.Stops as stop
use Rattle.gix_ref_theory.proofs.Logs as log
use Rattle.gix_ref_theory.proofs.Whole as whole
use Rattle.gix_ref_theory.proofs.Locks as locks
use Rattle.gix_ref_theory.proofs.Writes.{cut_at}
use Rattle.gix_ref_theory.proofs.Plans.{edit_behind, edit_in_front}
use Rattle.gix_ref_theory.specs.Views.{after}
use Rattle.gix_ref_theory.specs.Views.Ending.{Stop}
use Rattle.gix_ref_theory.proofs.StopLogs.{stop_logs}
use Rattle.gix_ref_theory.specs.Plan.{plan}
use Rattle.gix_ref_theory.specs.Between.{IsEdit}
use Rattle.gix_ref_theory.specs.Theorems.{EveryStopIsBetween, NoDeletionShowsFirst, UpdatesShowInOrder, WholePlanCommits}

pub between : EveryStopIsBetween
between s laws mode locked edits merged before view left p alike l =
    locks.before_alike s laws mode locked edits p.apart view before left alike
    (locks.between s laws mode locked view edits p.apart l.without_locks left l.same (record {
      readings = stop.readings s laws mode view edits merged p Stop l.without_locks (cut_at Stop (plan s mode view edits merged) view l.without_locks l.stopped);
      places = stop.places s laws mode view edits merged p Stop l.without_locks (cut_at Stop (plan s mode view edits merged) view l.without_locks l.stopped);
      logs = λ e he. stop_logs s edits (s.log e.name) (view (s.log e.name)) (l.without_locks (s.log e.name)) (log.logs s laws mode view edits merged p Stop l.without_locks (cut_at Stop (plan s mode view edits merged) view l.without_locks l.stopped) e he);
      packed = stop.packed s laws mode view edits merged p Stop l.without_locks (cut_at Stop (plan s mode view edits merged) view l.without_locks l.stopped);
      others = stop.others s laws mode view edits merged p Stop l.without_locks (cut_at Stop (plan s mode view edits merged) view l.without_locks l.stopped) locked;
    }))

pub no_deletion_first : NoDeletionShowsFirst
no_deletion_first s laws mode locked edits merged before view left p alike l keeps =
    locks.no_deletion_first_before s laws mode locked edits p.apart view before left alike
    (locks.no_deletion_first s laws mode locked view edits p.apart l.without_locks left l.same (stop.no_deletion_first s laws mode view edits merged p Stop l.without_locks (cut_at Stop (plan s mode view edits merged) view l.without_locks l.stopped) keeps))

pub in_order : UpdatesShowInOrder
in_order s laws mode locked edits merged before view left p alike l keeps =
    locks.in_order_before s laws mode locked edits p.apart view before left alike
    (locks.in_order s laws mode locked view edits p.apart l.without_locks left l.same (stop.in_edit_order s laws mode view edits merged p Stop l.without_locks (cut_at Stop (plan s mode view edits merged) view l.without_locks l.stopped) keeps)
    (λ before u later all. subst (IsEdit u) all (edit_behind before u later))
    (λ e u before later all he. subst (IsEdit e) all (edit_in_front e before (u ∷ later) he)))

pub committed : WholePlanCommits
committed s laws mode locked staying edits merged before view left p alike same gone =
    locks.committed_before s laws mode locked staying edits p.apart view before left alike gone
    (locks.committed s laws mode locked view edits p.apart (after (plan s mode view edits merged) view) left same
    (whole.committed s laws mode view edits merged p (after (plan s mode view edits merged) view) (λ path. refl) locked))
