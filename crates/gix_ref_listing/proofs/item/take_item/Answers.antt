use Rattle.std.proofs.Common.{List, Some, sym, subst}
use Rattle.gix_ref_listing.specs.Listings.{Listed, merged_listing}
use Rattle.gix_ref_listing.specs.Steps.{GivesItem}
use Rattle.gix_ref_listing.proofs.TakenItems.{counts_none, gives_found, gives_taken}
use Rattle.gix_ref_theory.specs.OnRealTrees.{contents}
use Rattle.gix_ref_listing.proofs.OwedLemmas.{item_pays}
use Rattle.gix_ref_listing.proofs.item.take_item.Goals as goal

pub returns-in-Some-clause-next : goal.returns-in-Some-clause-next
returns-in-Some-clause-next g c =
    let F = g.F.Files in
    let before = c.args.files.now in
    let now = c.item.new.files in
    record {
      gives = λ listed yet.
          subst (λ (l : List Listed). GivesItem F.honest F.means F.faults c.args.settings before now l (Some c.item.result) c.take.new.self) (sym yet.2)
          (gives_taken F.honest F.means F.faults c.args.settings before now (merged_listing c.args.merge.now.found.entries yet.0) c.in-Some.taken c.item.result c.take.new.self (c.in-Some.ensures.takes yet.0 yet.1) c.item.ensures.item);
      pays = λ text given owes.
          item_pays c.args.settings text F.honest (contents F.means before) (F.faults before) (F.faults now) given c.args.merge.now.found.entries c.in-Some.taken c.item.result c.take.new.self c.item.ensures.item c.in-Some.ensures.found (c.in-Some.ensures.pays text given owes);
      found = gives_found F.honest F.means F.faults c.args.settings before now c.args.merge.now.found.entries c.take.new.self.found.entries c.in-Some.taken c.item.result c.in-Some.ensures.found c.item.ensures.item;
      rises = c.item.ensures.looks.no_fewer;
      counts = counts_none (F.faults before) (F.faults now) c.item.result c.item.ensures.no_fault;
      leaves = c.item.ensures.looks.leaves;
      passes = c.item.ensures.looks.passes;
      ends = λ none. absurd (cc);
      stays_ended = λ drained. let none = c.take.ensures.stays_ended drained in absurd (cc);
    }
