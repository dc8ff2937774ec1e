use Rattle.std.proofs.Common.{◌∙◌}
use Rattle.std.specs.Cmp.Lexicographic.{bytes_decides}
use Rattle.gix_ref_transaction.proofs.Adds.{clash}
use Rattle.gix_ref_commit.proofs.Walking.{not_on_way}
use Rattle.gix_ref_commit.proofs.folders.is_on_way.Goals as goal

pub returns-in-None-clause-outside : goal.returns-in-None-clause-outside
returns-in-None-clause-outside c none within =
    not_on_way c.args.root.now c.args.folder.now c.in-None.ensures
    (λ same. clash (c.eq.ensures ∙ (bytes_decides c.args.root.now c.args.folder.now).1 same) none) within
