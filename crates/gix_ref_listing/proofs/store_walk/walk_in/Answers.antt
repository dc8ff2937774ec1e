use Rattle.std.proofs.Common.{◌∙◌, refl}
use Rattle.gix_ref_target.specs.Layout.{below}
use Rattle.gix_ref_theory.specs.OnRealTrees.{view_of}
use Rattle.gix_ref_lookup.specs.StoreLayout.{namespace_text}
use Rattle.gix_ref_listing.proofs.StoreWalks.{of_root, all_store}
use Rattle.gix_ref_listing.proofs.store_walk.walk_in.Goals as goal

pub returns-clause-finds : goal.returns-clause-finds
returns-clause-finds g c h name loose =
    c.in_ok-walk.ensures.finds h name
    (of_root record { path = c.deref.result; prefix = c.args.prefix; settings = c.args.settings } c.args.settings (view_of (g.F.Files.means c.args.files.now).tree) c.args.prefix.now (below c.args.folder.now (namespace_text c.args.settings.namespace.now))
    c.requires.front refl (c.deref.ensures.value ∙ c.in-Ok.ensures.front) refl name loose)

pub returns-clause-there : goal.returns-clause-there
returns-clause-there g c h old =
    all_store record { path = c.deref.result; prefix = c.args.prefix; settings = c.args.settings } c.args.settings (view_of (g.F.Files.means c.args.files.now).tree) c.args.prefix.now (below c.args.folder.now (namespace_text c.args.settings.namespace.now))
    c.requires.front refl (c.deref.ensures.value ∙ c.in-Ok.ensures.front) refl c.args.found.now.entries c.walk.new.found.entries old (c.in_ok-walk.ensures.there h c.args.found.now.entries)
