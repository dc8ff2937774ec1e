use Rattle.gix_ref_theory.specs.OnRealTrees.{view_of}
use Rattle.gix_ref_listing.proofs.WalkedNames.{walk_of}
use Rattle.gix_ref_listing.proofs.list.walk.Goals as goal

pub returns-clause-walks : goal.returns-clause-walks
returns-clause-walks g c h =
    let F = g.F.Files in
    walk_of c.args.settings (view_of (F.means c.args.files.now).tree) (F.faults c.args.files.now) (F.faults c.walk_store.new.files) (record { found = c.in-Ok.found; prefix = c.in_ok-prefix.prefix }) c.args.prefix.now
    (c.in_ok-prefix.ensures.items_if_clones_equal (λ x y e. e))
    (c.in-Ok.ensures.finds h) c.in-Ok.ensures.files (c.in-Ok.ensures.there h)
