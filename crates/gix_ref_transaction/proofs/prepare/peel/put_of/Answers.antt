use Rattle.std.proofs.Common.{◌≡◌, inr, true, sym, ap, ◌∙◌}
use Rattle.gix_ref_transaction.specs.Causes.{packs_edit}
use Rattle.gix_ref_transaction.specs.Packing.{mode_in, mode_of_packing}
use Rattle.gix_ref_transaction.specs.PrepareSteps.{setting_of}
use Rattle.gix_ref_transaction.proofs.Puts.{put_none, unpeeled_edit}
use Rattle.gix_ref_transaction.proofs.prepare.peel.put_of.Goals as goal

pub returns-then-not-is_packed-clause-put : goal.returns-then-not-is_packed-clause-put
returns-then-not-is_packed-clause-put g c =
    let s = setting_of c.args.settings.now in
    let edit = c.args.edit.now.update in
    put_none s (mode_in c.args.packed_refs.now) edit
    (sym (c.is_packed.ensures ∙ ap (λ p. packs_edit s (mode_of_packing p) edit) c.packing.ensures) ∙ c.if-not-is_packed.true)

pub returns-in-Err-clause-refused : goal.returns-in-Err-clause-refused
returns-in-Err-clause-refused g c claims =
    let s = setting_of c.args.settings.now in
    let edit = c.args.edit.now.update in
    let packed : packs_edit s (mode_in c.args.packed_refs.now) edit ≡ true = sym (c.is_packed.ensures ∙ ap (λ p. packs_edit s (mode_of_packing p) edit) c.packing.ensures) ∙ c.if-not-is_packed.false in
    inr (unpeeled_edit g.T.Find.meaning g.T.Find.claims c.args.packed_refs.now s c.args.settings.now.kind edit c.in-Some-Some.finder.now c.in-Some-Some.target _
    c.in-Some-Some.ensures packed (sym c.object_of.ensures ∙ c.in-Some-Some.is-1) (λ hold. (c.in-Err.error, c.reported.ensures.reported, c.in-Err.ensures.refused hold)) claims)
