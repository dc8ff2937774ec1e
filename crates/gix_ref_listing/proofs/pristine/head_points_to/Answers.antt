use Rattle.std.proofs.Common.{◌∙◌, ap, inl, subst}
use Rattle.gix_ref_theory.specs.OnRealTrees.{view_of}
use Rattle.gix_ref_lookup.specs.Lookups.{meaning_in}
use Rattle.gix_ref_listing.specs.PlainSettings.{plain}
use Rattle.gix_ref_listing.specs.PristineStores.{ReadsNone}
use Rattle.gix_ref_listing.proofs.PristineLemmas.{head_is_name}
use Rattle.gix_ref_listing.proofs.pristine.head_points_to.Goals as goal

pub returns-in_default-clause-says : goal.returns-in_default-clause-says
returns-in_default-clause-says g c = absurd (c.in_default.ensures head_is_name)

pub returns-in-Nothing-clause-says : goal.returns-in-Nothing-clause-says
returns-in-Nothing-clause-says g c =
    let settings = c.args.settings in
    inl (λ h. subst (ReadsNone (plain settings) (view_of (g.F.Files.means c.args.files.now).tree)) (c.in_ok-path.ensures ∙ ap (meaning_in settings).place c.in-Some.ensures.1) (rw c.in-Nothing.is at (c.in_ok-target.ensures.reads h)))
