use Rattle.std.proofs.Common.{◌≡◌, ◌∙◌, None, ap, arith, length}
use Rattle.std.proofs.Math.ListN.{replicate}
use Rattle.gix_ref_transaction.proofs.SplitLemmas.{none_alone, none_given}
use Rattle.gix_ref_transaction.proofs.prepare.split.unsplit.Goals as goal

pub returns-in-Ok-clause-parents : goal.returns-in-Ok-clause-parents
returns-in-Ok-clause-parents c =
    let as_many : c.len.result ≡ length c.args.edits.items = omega arith in
    c.in-Ok.ensures.items_if_clones_equal (none_alone _ (λ n wrong. wrong)) ∙ (ap (λ n. replicate n None) as_many ∙ none_given c.args.edits.items)
