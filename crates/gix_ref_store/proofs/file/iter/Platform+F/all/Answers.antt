use Rattle.std.proofs.Common.{List, ℕ, subst}
use Rattle.std.specs.Prelude.{IfErr, IfOk}
use Rattle.gix_ref_listing.specs.CleanPrefixes.{IsRefusedPrefix}
use Rattle.gix_ref_lookup.proofs.Opening.{if_err}
use Rattle.gix_ref_store.specs.Listings.{IsNoPlatformListing, FollowsFile, platform_store}
use Rattle.gix_ref_store.proofs.Platforms.{all_not_made}
use Rattle.gix_ref_store.proofs.file.iter.Platform+F.all.Goals as goal

pub returns-clause-refused : goal.returns-clause-refused
returns-clause-refused g c =
    let F = g.F.Files in
    let store = platform_store c.args.self.now in
    if_err c.prefixed.result (λ error why. all_not_made g.F.Reader.ReadAt F.honest F.means F.faults store store.namespace error why)
    (subst (λ (p : List ℕ). IfErr c.prefixed.result (IsNoPlatformListing g.F.Reader.ReadAt F.honest F.means F.faults store (IsRefusedPrefix store.namespace p))) c.prefix_of_all-prefix.ensures c.prefixed.ensures.refused)

pub returns-clause-complete : goal.returns-clause-complete
returns-clause-complete g c h =
    let F = g.F.Files in
    let store = platform_store c.args.self.now in
    subst (λ (p : List ℕ). IfOk c.prefixed.result (FollowsFile F.honest F.means F.faults store p)) c.prefix_of_all-prefix.ensures (c.prefixed.ensures.complete h)
