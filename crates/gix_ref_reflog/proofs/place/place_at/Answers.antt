use Rattle.std.proofs.Common.{◌≡◌, Bool, sym, ap, ◌∙◌}
use Rattle.std.specs.Prelude.{◌||◌}
use Rattle.std.specs.List.{list_any}
use Rattle.gix_ref_files.specs.Tree.{fronts, is_blocked}
use Rattle.gix_ref_reflog.specs.internal.SeenLogs.{due_paths}
use Rattle.gix_ref_reflog.proofs.BlockedPaths.{blocked_node}
use Rattle.gix_ref_reflog.proofs.place.place_at.Goals as goal
use Rattle.gix_ref_reflog.proofs.place.place_at.Goals.{then-eq, else-eq}
use Rattle.gix_ref_transaction.specs.OwnLocks.{is_in}

pub returns-after-eq-clause-blocked : goal.returns-after-eq-clause-blocked
returns-after-eq-clause-blocked g c h =
    let T = (g.F.Files.means c.args.files.now).tree in
    let any = list_any (is_in (due_paths c.args.due.now)) (fronts c.args.path.now) in
    let is : c.eq.result ≡ is_blocked T c.args.path.now =
    c.eq.ensures ∙ blocked_node T c.args.path.now (g.met.F.Files.shaped c.args.files.now h) c.in-Ok.node (c.in-Ok.ensures.answer h) in
    elim c.if-eq.branch [
      | then-eq w ↦ w.result-is ∙ (w.if-eq.true ∙ ap (λ (b : Bool). b || any) (sym w.if-eq.true ∙ is))
      | else-eq w ↦ w.result-is ∙ (w.is_above.ensures ∙ ap (λ (b : Bool). b || any) (sym w.if-eq.false ∙ is))
    ]
