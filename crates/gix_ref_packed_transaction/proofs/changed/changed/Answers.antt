use Rattle.std.proofs.Common.{◌≡◌, ℕ, List, sym, ap, ◌∙◌, subst}
use Rattle.gix_ref_packed_text.specs.RecordGrammar.{Records}
use Rattle.gix_ref_packed_transaction.specs.Changes.{change_values, edit_values}
use Rattle.gix_ref_packed_transaction.specs.Refusals.{of_rewrite}
use Rattle.gix_ref_packed_transaction.proofs.ChangeLemmas.{changes_ascend, rewrite_changed}
use Rattle.gix_ref_packed_transaction.proofs.changed.changed.Goals as goal

pub returns-in-Ok-clause-rewritten : goal.returns-in-Ok-clause-rewritten
returns-in-Ok-clause-rewritten c rs holds sorted =
    let changes = change_values c.args.changes.now in
    let edits = c.deref.result.now in
    let are : edit_values edits ≡ changes = ap edit_values c.deref.ensures.value ∙ c.in_ok-edits.ensures in
    let records = subst (λ (t : List ℕ). Records c.args.kind t holds.held) (sym c.as_bytes.ensures) holds.records in
    rewrite_changed c.args.kind rs _ changes edits c.in-Ok.rewritten holds are
    (c.in-Ok.ensures.rewritten holds.held records holds.ascending (changes_ascend changes edits are sorted))

pub returns-clause-rewritten : goal.returns-clause-rewritten
returns-clause-rewritten c rs holds sorted =
    let changes = change_values c.args.changes.now in
    let edits = c.deref.result.now in
    let are : edit_values edits ≡ changes = ap edit_values c.deref.ensures.value ∙ c.in_ok-edits.ensures in
    let records = subst (λ (t : List ℕ). Records c.args.kind t holds.held) (sym c.as_bytes.ensures) holds.records in
    c.stuck.ensures ∙ ap of_rewrite (c.in-Err.ensures.rewritten holds.held records holds.ascending (changes_ascend changes edits are sorted))
