use Rattle.std.proofs.Common.{◌∙◌, refl, sym, subst}
use Rattle.gix_ref_store.specs.Listings.{store_listed}
use Rattle.gix_ref_store.specs.declared.file.store.Store.{Store}
use Rattle.gix_ref_queries.specs.Patterns.{texts}
use Rattle.gix_ref_queries.specs.Rows.{FindsAmongNames}
use Rattle.gix_ref_queries.proofs.Listed.{found_among}
use Rattle.gix_ref_queries.proofs.listing.collect_among.Goals as goal

pub returns-in-Ok-clause-finds : goal.returns-in-Ok-clause-finds
returns-in-Ok-clause-finds g c =
    let F = g.F.Files in
    let store = c.args.store.now in
    let names = c.args.names in
    let packed = c.args.packed in
    let patterns = texts c.args.patterns.now in
    let name = sym (c.into_store.ensures.same_reference ∙ (c.collect-found.ensures.same_reference ∙ c.in-Ok.ensures.same_reference)) in
    subst (λ (x : Store g.row.F.Denot). FindsAmongNames F.honest F.means F.faults store x names packed patterns c.collect-found.result) (sym (c.store-1.given.1 name ∙ c.into_store.ensures.same))
    (found_among F.honest F.means F.faults store (store_listed c.collect-found.new.items) names packed patterns c.in-Ok.items c.collect-found.new.items c.collect-found.result c.in-Ok.ensures.lists c.in-Ok.ensures.complete c.collect-found.ensures.rises refl c.collect-found.ensures.collects)
