use Rattle.std.proofs.Common.{refl, []}
use Rattle.gix_ref_theory.specs.OnRealTrees.{view_of}
use Rattle.gix_ref_listing.specs.Listings.{merged_listing}
use Rattle.gix_ref_listing.proofs.Listing.{found_rises, all_names}
use Rattle.gix_ref_listing.proofs.PlainListings.{to_plain}
use Rattle.gix_ref_listing.proofs.PseudoLemmas.{pseudo_listing}
use Rattle.gix_ref_listing.proofs.pseudo.list_pseudo.Goals as goal

pub returns-clause-lists : goal.returns-clause-lists
returns-clause-lists g c h =
    let settings = c.args.settings in
    let es = c.in-Ok.found.entries in
    record {
      listed = merged_listing es [];
      is = pseudo_listing settings (view_of (g.F.Files.means c.args.files.now).tree) es (found_rises es c.len.ensures.ordered) (c.in-Ok.ensures.finds h) (c.in-Ok.ensures.there h);
      names = all_names (g.F.Files.faults c.args.files.now) (g.F.Files.faults c.walk_pseudo.new.files) es [] c.in-Ok.ensures.files;
      yet = to_plain settings record { found = c.in-Ok.found; packed = c.of-packed.result } (merged_listing es []) ([], c.of-packed.ensures.ahead [] refl, refl);
    }
