use Rattle.std.proofs.Common.{sym, ◌∙◌, ap, ◌++◌}
use Rattle.gix_ref_listing.proofs.WalkLemmas.{unlisted_stays, unlisted_holds, unlisted_met, unlisted_there}
use Rattle.gix_ref_listing.proofs.walk.keep_unlisted.Goals as goal

pub returns-clause-stays : goal.returns-clause-stays
returns-clause-stays c = unlisted_stays c.args.found.now.entries c.insert.new.self.entries _ _ c.args.error c.in_ok-insert.ensures.entries

pub returns-clause-holds : goal.returns-clause-holds
returns-clause-holds c name begins = unlisted_holds c.args.found.now.entries c.insert.new.self.entries _ _ c.args.error c.in_ok-insert.ensures.entries name (begins.0, begins.1 ∙ ap (λ f. f ++ begins.0) (sym (c.in_ok-to_vec.ensures.items_if_clones_equal (λ x y e. e))))

pub returns-clause-there : goal.returns-clause-there
returns-clause-there c root view other at others all =
    let copied = c.in_ok-to_vec.ensures.items_if_clones_equal (λ x y e. e) in
    unlisted_there c.args.found.now.entries c.insert.new.self.entries _ _ c.args.error c.in_ok-insert.ensures.entries others root view all other (at ∙ ap (λ f. root.path.now ++ f) (sym copied))

pub returns-clause-files : goal.returns-clause-files
returns-clause-files c before now met all = unlisted_met c.args.found.now.entries c.insert.new.self.entries _ _ c.args.error c.in_ok-insert.ensures.entries before now met all
