use Rattle.gix_ref_listing.proofs.PlainListings.{of_plain, found_of_plain, gives_plain, owes_of_plain, pays_plain}
use Rattle.gix_ref_listing.proofs.item.next_item.Goals as goal

pub returns-clause-next : goal.returns-clause-next
returns-clause-next g c =
    let F = g.F.Files in
    let step = c.take_item.ensures.next in
    record {
      gives = λ listed yet. gives_plain F.honest F.means F.faults c.args.settings c.args.files.now c.take_item.new.files listed c.take_item.result c.take_item.new.merge
          (step.gives listed (of_plain c.args.settings c.args.merge.now listed yet));
      pays = λ text given owes. pays_plain c.args.settings text given c.args.merge.now.found.entries c.take_item.result c.take_item.new.merge (step.pays text given (owes_of_plain c.args.settings text given c.args.merge.now owes));
      found = found_of_plain F.honest F.means F.faults c.args.settings c.args.files.now c.take_item.new.files c.args.merge.now.found.entries c.take_item.new.merge.found.entries c.take_item.result step.found;
      rises = step.rises;
      counts = step.counts;
      leaves = step.leaves;
      passes = step.passes;
      ends = step.ends;
      stays_ended = step.stays_ended;
    }
