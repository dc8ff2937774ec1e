use Rattle.std.proofs.Common.{◌≡◌, [], refl, ap, ◌∙◌}
use Rattle.gix_ref_packed_transaction.specs.Changes.{change_values, edit_values}
use Rattle.gix_ref_packed_transaction.specs.Refusals.{of_rewrite}
use Rattle.gix_ref_packed_text.proofs.OutcomeLemmas.{only_memory}
use Rattle.gix_ref_packed_transaction.proofs.ChangeLemmas.{changes_ascend, rewrite_made}
use Rattle.gix_ref_packed_transaction.proofs.changed.made.Goals as goal

pub returns-in-Ok-clause-rewritten : goal.returns-in-Ok-clause-rewritten
returns-in-Ok-clause-rewritten c sorted =
    let changes = change_values c.args.changes.now in
    let edits = c.deref.result.now in
    let are : edit_values edits ≡ changes = ap edit_values c.deref.ensures.value ∙ c.in_ok-edits.ensures in
    rewrite_made c.args.kind changes edits c.in-Ok.rewritten are (c.in-Ok.ensures.rewritten [] refl tt (changes_ascend changes edits are sorted))

pub returns-clause-memory : goal.returns-clause-memory
returns-clause-memory c = c.stuck.ensures ∙ ap of_rewrite (only_memory c.args.kind 1 [] c.in-Err.error [] c.in-Err.ensures.refused refl)
