use Rattle.std.proofs.Common.{refl, subst, sym, Bool}
use Rattle.gix_ref_queries.specs.Answers.{IsShownAs}
use Rattle.gix_ref_queries.proofs.Ends.{shown_short}
use Rattle.gix_ref_queries.proofs.verify.shown_as.Goals as goal

pub returns-then-short-clause-shown : goal.returns-then-short-clause-shown
returns-then-short-clause-shown g c =
    let F = g.F.Files in
    shown_short F.honest F.means c.args.store.now c.args.short c.args.name.now c.short_name.result c.if-short.true c.short_name.ensures.seen c.short_name.ensures.short

pub returns-else-short-clause-shown : goal.returns-else-short-clause-shown
returns-else-short-clause-shown g c =
    let F = g.F.Files in
    let name = c.args.name.now in
    subst (λ (b : Bool). IsShownAs F.honest F.means c.args.store.now b name name) (sym c.if-short.false) refl
