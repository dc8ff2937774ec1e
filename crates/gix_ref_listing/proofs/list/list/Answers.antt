use Rattle.std.proofs.Common.{sym, subst, List, ℕ}
use Rattle.std.specs.Prelude.{IfOk}
use Rattle.gix_ref_theory.specs.OnRealTrees.{view_of}
use Rattle.gix_ref_listing.specs.PlainSettings.{plain}
use Rattle.gix_ref_listing.specs.WholeListings.{AreHeldOf, ListsAll, OwesHeld, key_in}
use Rattle.gix_ref_listing.proofs.list.list.Goals as goal

pub returns-in-Ok-clause-lists : goal.returns-in-Ok-clause-lists
returns-in-Ok-clause-lists g c h records held =
    let F = g.F.Files in
    let settings = c.args.settings in
    let view = view_of (F.means c.args.files.now).tree in
    let before = F.faults c.args.files.now in
    let now = F.faults c.walk.new.files in
    subst (λ (p : List ℕ). IfOk c.merge_walked.result (ListsAll (plain settings) view records p before now)) c.in-Ok.ensures.asked
    (c.merge_walked.ensures.lists view before now (c.in-Ok.ensures.walks h) records (subst (λ (p : List ℕ). AreHeldOf (key_in settings p) c.args.packed records) (sym c.in-Ok.ensures.asked) held))

pub returns-in-Ok-clause-owes : goal.returns-in-Ok-clause-owes
returns-in-Ok-clause-owes g c h =
    let F = g.F.Files in
    let settings = c.args.settings in
    let view = view_of (F.means c.args.files.now).tree in
    subst (λ (p : List ℕ). OwesHeld settings view p c.args.packed (F.faults c.args.files.now) (F.faults c.walk.new.files) c.merge_walked.result) c.in-Ok.ensures.asked
    (c.merge_walked.ensures.owes view (F.faults c.args.files.now) (F.faults c.walk.new.files) (c.in-Ok.ensures.walks h))
