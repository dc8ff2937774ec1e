use Rattle.std.proofs.Common.{◌++◌, ◌∙◌, List, [], ap, sym, subst, rules, append-nil}
use Rattle.gix_ref_listing.specs.declared.error.Error.{Error}
use Rattle.gix_ref_files.specs.Files.{FaultCounts}
use Rattle.gix_ref_pack.specs.LooseObjects.{faults_among, loose_among}
use Rattle.gix_ref_store.specs.Listings.{prefix_of_all}
use Rattle.gix_ref_store.specs.Store.{files_of}
use Rattle.gix_ref_read_back.specs.ListedItems.{AreItemsIn}
use Rattle.gix_ref_read_back.proofs.EditedListings.{looks_on}
use Rattle.gix_ref_pack.specs.Packings.{IsChosen}
use Rattle.gix_ref_pack.specs.declared.pack.Loose.{Loose}
use Rattle.gix_ref_pack.proofs.PackedStores.{chosen_on, lacks_memory, not_chosen}
use Rattle.gix_ref_pack.proofs.pack.planned.Goals as goal

pub returns-in_err-found-clause-plans : goal.returns-in_err-found-clause-plans
returns-in_err-found-clause-plans g c =
    let F = g.F.Files in
    let some = c.in_err-found.ensures.some in
    lacks_memory F.honest F.means F.faults c.args.is_all c.args.objects c.args.store.now c.list_loose.new.store c.list_loose.new.store c.in-Ok.items.items c.list_loose.ensures.unchanged c.in-Ok.ensures.lists c.loose_objects.new.broken.items
    c.from_residual.result some.0 c.from_residual.ensures.1 (some.1 ∙ ap (λ (bs : List Error). bs ++ faults_among c.in-Ok.items.items) c.requires)

pub returns-in_err-chosen-clause-plans : goal.returns-in_err-chosen-clause-plans
returns-in_err-chosen-clause-plans g c =
    let F = g.F.Files in
    not_chosen F.honest F.means F.faults c.args.is_all c.args.objects c.args.store.now c.list_loose.new.store c.choose.new.store c.in-Ok.items.items c.list_loose.ensures.unchanged c.in-Ok.ensures.lists c.loose_objects.new.broken.items
    c.from_residual-in_err-chosen.result c.in_err-chosen.field-0.0 c.in_ok-found.found.items c.from_residual-in_err-chosen.ensures.1
    (c.in_ok-found.ensures.broken ∙ ap (λ (bs : List Error). bs ++ faults_among c.in-Ok.items.items) c.requires) c.in_ok-found.ensures.found c.in_err-chosen.ensures.chooses

pub returns-in_err-add_branches-clause-plans : goal.returns-in_err-add_branches-clause-plans
returns-in_err-add_branches-clause-plans g c =
    let F = g.F.Files in
    lacks_memory F.honest F.means F.faults c.args.is_all c.args.objects c.args.store.now c.list_loose.new.store c.choose.new.store c.in-Ok.items.items c.list_loose.ensures.unchanged c.in-Ok.ensures.lists c.loose_objects.new.broken.items
    c.from_residual-in_err-add_branches.result [] c.from_residual-in_err-add_branches.ensures.1 (append-nil c.loose_objects.new.broken.items ∙ (c.in_ok-found.ensures.broken ∙ ap (λ (bs : List Error). bs ++ faults_among c.in-Ok.items.items) c.requires))

pub returns-in_err-edits-clause-plans : goal.returns-in_err-edits-clause-plans
returns-in_err-edits-clause-plans g c =
    let F = g.F.Files in
    lacks_memory F.honest F.means F.faults c.args.is_all c.args.objects c.args.store.now c.list_loose.new.store c.choose.new.store c.in-Ok.items.items c.list_loose.ensures.unchanged c.in-Ok.ensures.lists c.loose_objects.new.broken.items
    c.from_residual-in_err-edits.result [] c.from_residual-in_err-edits.ensures.1 (append-nil c.loose_objects.new.broken.items ∙ (c.in_ok-found.ensures.broken ∙ ap (λ (bs : List Error). bs ++ faults_among c.in-Ok.items.items) c.requires))

pub returns-clause-plans : goal.returns-clause-plans
returns-clause-plans g c =
    let F = g.F.Files in
    let old = c.args.store.now in
    let mid = c.list_loose.new.store in
    let items = c.in-Ok.items.items in
    let chosen = c.in_ok-chosen.chosen in
    let chooses = c.in_ok-chosen.ensures.chooses in
    record {
      items = items;
      listed = record {
        looked = looks_on F.honest F.means F.faults old mid c.choose.new.store c.list_loose.ensures.unchanged c.choose.ensures.looks;
        items_are = λ h. subst (λ (n : FaultCounts). AreItemsIn F.honest F.means F.faults old (F.faults (files_of old)) n [] (prefix_of_all old.namespace) items) (sym chooses.1) (c.in-Ok.ensures.lists h);
      };
      chosen = chosen.items;
      are_chosen = chosen_on F.honest F.means F.faults old mid c.list_loose.ensures.unchanged c.args.is_all (loose_among items) chosen.items
          (subst (λ (found : List Loose). IsChosen F.honest F.means c.args.is_all mid found chosen.items) c.in_ok-found.ensures.found chooses.0);
      ends = search rules;
      edits = c.in_ok-edits.ensures;
      faults_are = c.in_ok-found.ensures.broken ∙ ap (λ (bs : List Error). bs ++ faults_among items) c.requires;
    }
