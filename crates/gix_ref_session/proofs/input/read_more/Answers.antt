use Rattle.std.proofs.Common.{◌∙◌, ap, List, ℕ, [], ◌∷◌, ◌++◌}
use Rattle.gix_ref_session.proofs.InputLemmas.{one_more}
use Rattle.gix_ref_session.proofs.input.read_more.Goals as goal

pub fields-preserved : goal.fields-preserved
fields-preserved g c =
    let text = c.fields.text.items in
    one_more c.args.count c.fields.left (g.R.Read.remaining c.args.input.now) (g.R.Read.remaining c.fields.input) (g.R.Read.remaining c.read_field.new.input) c.args.text.now.items text c.read_field.new.field.items
    c.fields.invariant c.fields-test.true (rw c.if-not-branch.false at c.in_ok-read_field.ensures) c.extend_from_slice.new.self.items
    (c.in_ok-extend_from_slice.ensures.items ∙ (ap (λ (w : List ℕ). w ++ c.deref.result.now) c.in_ok-push.ensures.items ∙ ap (λ (w : List ℕ). (text ++ 0 ∷ []) ++ w) c.deref.ensures.value))
