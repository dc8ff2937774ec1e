use Rattle.std.proofs.Common.{refl, sym, ◌∙◌}
use Rattle.gix_ref_listing.proofs.MergeLemmas.{first_is_found, less_takes, equal_takes, none_left}
use Rattle.gix_ref_listing.proofs.OwedLemmas.{less_pays, equal_pays}
use Rattle.gix_ref_listing.proofs.merge.Merge.take.Goals as goal

pub returns-in-Less-clause-takes : goal.returns-in-Less-clause-takes
returns-in-Less-clause-takes c owns ahead =
    less_takes c.args.settings c.args.self.now c.take_found.new.self c.take_found.result owns (sym c.order.ensures ∙ c.in-Less.is) c.take_found.ensures.takes c.take_found.ensures.packed ahead

pub returns-in-Equal-clause-takes : goal.returns-in-Equal-clause-takes
returns-in-Equal-clause-takes c owns ahead =
    equal_takes c.args.settings c.args.self.now record { found = c.args.self.now.found; packed = c.take.new.self } c.take_found-in-Equal.new.self c.take.result c.take_found-in-Equal.result owns (sym c.order.ensures ∙ c.in-Equal.is)
    (c.take.ensures.takes owns ahead) refl c.take_found-in-Equal.ensures.takes c.take_found-in-Equal.ensures.packed ahead

pub returns-in-None-clause-ends : goal.returns-in-None-clause-ends
returns-in-None-clause-ends c = (none_left c.args.self.now.found.entries c.args.self.now.packed.first (sym c.order.ensures ∙ c.in-Greater.is) c.in-None.ensures.was, c.in-None.ensures.ends)

pub returns-in-Less-clause-pays : goal.returns-in-Less-clause-pays
returns-in-Less-clause-pays c text given owes =
    less_pays c.args.settings text given c.args.self.now c.take_found.new.self c.take_found.result (sym c.order.ensures ∙ c.in-Less.is) c.take_found.ensures.takes c.take_found.ensures.packed owes

pub returns-in-Equal-clause-pays : goal.returns-in-Equal-clause-pays
returns-in-Equal-clause-pays c text given owes =
    equal_pays c.args.settings text given c.args.self.now c.take_found-in-Equal.new.self c.take.new.self c.take.result c.take_found-in-Equal.result (sym c.order.ensures ∙ c.in-Equal.is)
    c.take.ensures.first (c.take.ensures.pays text given owes.packed) c.take_found-in-Equal.ensures.takes c.take_found-in-Equal.ensures.packed owes

pub returns-in-Less-clause-found : goal.returns-in-Less-clause-found
returns-in-Less-clause-found c = first_is_found c.args.self.now.found.entries c.take_found.new.self.found.entries c.take_found.result c.take_found.ensures.takes

pub returns-in-Equal-clause-found : goal.returns-in-Equal-clause-found
returns-in-Equal-clause-found c = first_is_found c.args.self.now.found.entries c.take_found-in-Equal.new.self.found.entries c.take_found-in-Equal.result c.take_found-in-Equal.ensures.takes
