use Rattle.std.proofs.Common.{[], ◌∙◌, refl, sym, subst}
use Rattle.gix_ref_store.specs.Listings.{prefix_of_all, store_listed}
use Rattle.gix_ref_store.specs.Store.{files_of}
use Rattle.gix_ref_store.specs.declared.file.store.Store.{Store}
use Rattle.gix_ref_read_back.specs.ListedItems.{AreItemsIn}
use Rattle.gix_ref_read_back.proofs.EditedListings.{items_in}
use Rattle.gix_ref_read_back.proofs.list.list_loose.Goals as goal

pub returns-in-Ok-all-clause-lists : goal.returns-in-Ok-all-clause-lists
returns-in-Ok-all-clause-lists g c h =
    let F = g.F.Files in
    let old = c.args.store.now in
    let new = store_listed c.collect-all.new.items in
    let all = c.in-Ok-all.all in
    let name = sym (c.into_store.ensures.same_reference ∙ (c.collect-all.ensures.same_reference ∙ c.in-Ok.ensures.same_reference)) in
    let done = items_in F.honest F.means F.faults old new [] (prefix_of_all old.namespace) c.in-Ok.items c.collect-all.new.items all.items (c.in-Ok.ensures.lists h) c.in-Ok-all.ensures.gives refl in
    subst (λ (x : Store g.row.F.Denot). AreItemsIn F.honest F.means F.faults old (F.faults (files_of old)) (F.faults (files_of x)) [] (prefix_of_all old.namespace) all.items) (sym (c.store-1.given.1 name ∙ c.into_store.ensures.same)) done
