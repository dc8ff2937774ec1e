use Rattle.std.proofs.Common.{◌≡◌, ◌∙◌, false, rules, true}
use Rattle.gix_ref_pack.specs.KnownObjects.{is_known}
use Rattle.gix_ref_pack.proofs.TableLines.{inserted, stays_known}
use Rattle.gix_ref_pack.proofs.objects.Objects.add_commit.Goals as goal

pub returns-in_ok-insert-clause-added : goal.returns-in_ok-insert-clause-added
returns-in_ok-insert-clause-added c other =
    let unknown : is_known c.args.self.now c.args.id ≡ false = search rules in
    c.in_ok-insert.ensures.updates.0 other ∙ inserted c.args.self.now c.args.id other unknown

pub returns-else-not-has-clause-added : goal.returns-else-not-has-clause-added
returns-else-not-has-clause-added c other =
    let has : is_known c.args.self.now c.args.id ≡ true = search rules in
    stays_known c.args.self.now c.args.id other has
