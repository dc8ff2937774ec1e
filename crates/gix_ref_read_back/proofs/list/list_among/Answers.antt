use Rattle.std.proofs.Common.{◌∙◌, Ok, refl, sym, subst}
use Rattle.gix_ref_store.specs.Listings.{AreHeldFor, store_listed, walked_prefix}
use Rattle.gix_ref_store.specs.declared.file.store.Store.{Store}
use Rattle.gix_ref_read_back.specs.ListedItems.{ListsAmong}
use Rattle.gix_ref_read_back.proofs.EditedListings.{items_in}
use Rattle.gix_ref_read_back.proofs.list.list_among.Goals as goal

pub returns-in-Ok-all-clause-lists : goal.returns-in-Ok-all-clause-lists
returns-in-Ok-all-clause-lists g c =
    let F = g.F.Files in
    let old = c.args.store.now in
    let names = c.args.names in
    let Are = AreHeldFor old (walked_prefix names) c.args.packed in
    let new = store_listed c.collect-all.new.items in
    let all = c.in-Ok-all.all in
    let name = sym (c.into_store.ensures.same_reference ∙ (c.collect-all.ensures.same_reference ∙ c.in-Ok.ensures.same_reference)) in
    let done : ListsAmong F.honest F.means F.faults old new names Are (Ok all) = λ h start records walked are.
    items_in F.honest F.means F.faults start new records (walked_prefix names) c.in-Ok.items c.collect-all.new.items all.items (c.in-Ok.ensures.lists h start records walked are) c.in-Ok-all.ensures.gives refl in
    subst (λ (x : Store g.row.F.Denot). ListsAmong F.honest F.means F.faults old x names Are (Ok all)) (sym (c.store-1.given.1 name ∙ c.into_store.ensures.same)) done
