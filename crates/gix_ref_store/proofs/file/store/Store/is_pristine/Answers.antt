use Rattle.std.proofs.Common.{◌⊎◌, List, ℕ, subst}
use Rattle.gix_ref_listing.specs.Walks.{IsAnyMet}
use Rattle.std.specs.Prelude.{IfOk}
use Rattle.gix_ref_name.specs.Names.{full_ref_bytes}
use Rattle.gix_ref_listing.specs.PristineStores as listings
use Rattle.gix_ref_store.specs.Lookup.{settings_of}
use Rattle.gix_ref_store.specs.Pristine.{HasNoHead}
use Rattle.gix_ref_store.proofs.file.store.Store.is_pristine.Goals as goal

pub returns-clause-says : goal.returns-clause-says
returns-clause-says g c =
    let F = g.F.Files in
    let store = c.args.self.now in
    let T = (F.means store.files).tree in
    let name = full_ref_bytes c.args.default_ref in
    subst
    (λ (p : List ℕ). IfOk c.is_pristine.result (listings.Says (F.honest → listings.IsPristine (settings_of store) T p name) (F.honest → listings.IsInUse (settings_of store) T p name)
    ((F.honest → HasNoHead F.means store) ⊎ IsAnyMet (F.faults store.files) (F.faults c.is_pristine.new.files))))
    c.prefix_of_all-prefix.ensures c.is_pristine.ensures.says
