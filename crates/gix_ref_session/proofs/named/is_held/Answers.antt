use Rattle.std.proofs.Common.{◌≡◌, refl, subst, rules, sym}
use Rattle.std.proofs.lemmas.Bool.{false≢true}
use denote.Ref.{Bor}
use Rattle.gix_ref_name.specs.Names.{full_bytes}
use Rattle.gix_ref_edits.specs.RefEdits.{name_of}
use Rattle.gix_ref_edits.specs.declared.transaction.RefEdit.{RefEdit}
use Rattle.gix_ref_session.proofs.NamedLemmas.{held_at, none_more, none_all}
use Rattle.gix_ref_session.proofs.named.is_held.Goals as goal

pub returns-then-eq_bytes : goal.returns-then-eq_bytes
returns-then-eq_bytes c =
    let held = c.args.held.now in
    let name = full_bytes c.args.name.now in
    let same : name_of c.edit-item.result.now ≡ name = search rules in (
      λ t. held_at held c.loop-edit.edit-index c.edit-item.result name c.loop-edit-test.true (subst (λ (e : Bor RefEdit). name_of e.now ≡ name) c.edit-item.is same),
      λ h. refl,
    )

pub loop-edit-preserved : goal.loop-edit-preserved
loop-edit-preserved c =
    let held = c.args.held.now in
    let name = full_bytes c.args.name.now in
    let other : name_of c.edit-item.result.now ≡ name → ⊥ = search rules in
    none_more held c.loop-edit.edit-index c.edit-item.result name c.loop-edit-test.true c.loop-edit.invariant
    (λ same. other (subst (λ (e : Bor RefEdit). name_of e.now ≡ name) (sym c.edit-item.is) same))

pub returns : goal.returns
returns c = (
  λ t. absurd (false≢true t),
  λ h. absurd (none_all c.args.held.now c.loop-edit.edit-index (full_bytes c.args.name.now) (search rules) c.loop-edit.invariant h),
)
