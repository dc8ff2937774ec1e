use Rattle.std.proofs.Common.{◌≡◌, ℕ, ◌-◌, ◌++◌, List, length, drop, sym, ◌∙◌, ap, subst}
use Rattle.std.proofs.lemmas.List.{take-append-drop}
use Rattle.gix_ref_log.specs.Signatures.{IsSignature}
use Rattle.gix_ref_log.proofs.Stamps.{stamped_signature}
use Rattle.gix_ref_log.proofs.actor.SignatureRef.decode_fast.Goals as goal

pub returns : goal.returns
returns c =
    let ends = c.in_ok-front.ensures.cases in
    let whole : c.args.text.now ≡ c.in_ok-front.front.now ++ c.in_ok-front.end.now = sym (take-append-drop (length c.args.text.now - 18) c.args.text.now)
    ∙ ap (λ (t : List ℕ). t ++ drop (length c.args.text.now - 18) c.args.text.now) (sym ends.0) ∙ ap (λ (t : List ℕ). c.in_ok-front.front.now ++ t) (sym ends.1) in
    subst (λ (n : List ℕ). IsSignature c.args.text.now (record { name = n; email = c.in_ok-name.email.now; seconds = c.in_ok-time.time.seconds; offset = c.in_ok-time.time.offset })) (sym c.before_space.ensures)
    (stamped_signature c.args.text.now c.in_ok-front.front.now c.in_ok-front.end.now c.in_ok-name.name.now c.in_ok-name.email.now _ _ whole c.in_ok-name.ensures c.in_ok-time.ensures)
