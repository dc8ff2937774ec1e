use Rattle.gix_ref_listing.proofs.PlainListings.{lends_plain, none_plain}
use Rattle.gix_ref_listing.proofs.item.next_record.Goals as goal

pub returns-clause-gives : goal.returns-clause-gives
returns-clause-gives c = lends_plain c.args.settings c.args.merge.now c.take_record.new.self c.take_record.result c.take_record.ensures.takes c.take_record.ensures.pays c.take_record.ensures.goes_on c.take_record.ensures.found c.take_record.ensures.allowed

pub returns-clause-none : goal.returns-clause-none
returns-clause-none c = none_plain c.args.settings c.args.merge.now c.take_record.result c.take_record.ensures.none
