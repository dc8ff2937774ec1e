use Rattle.std.proofs.Common.{ℕ, List, inr, refl, subst}
use Rattle.gix_ref_log.specs.Signatures.{IsSignature}
use Rattle.gix_ref_log.specs.LogIds.{IdFront}
use Rattle.gix_ref_log.proofs.LineLemmas.{same_ids, same_signature, none_in_rest}
use Rattle.gix_ref_log.proofs.log.line.decode.decode_line.Goals as goal

pub returns-in_err-new_oid : goal.returns-in_err-new_oid
returns-in_err-new_oid c = rw c.from_residual-in_err-new_oid.ensures (λ l w.
    let same = same_ids c.args.text.now l w _ _ c.in_ok-previous_oid.ensures in
    c.in_err-new_oid.ensures l.new w.rest (subst (λ (t : List ℕ). IdFront t l.new w.rest) same w.new))

pub returns-in_err-signature : goal.returns-in_err-signature
returns-in_err-signature c = rw c.from_residual-in_err-signature.ensures (λ l w.
    let same = same_signature c.args.text.now l w _ _ c.in_ok-previous_oid.ensures _ _ c.in_ok-new_oid.ensures _ _ _ _ (inr (none_in_rest 10 c.args.text.now _ _ _ _ c.requires c.in_ok-previous_oid.ensures c.in_ok-new_oid.ensures, refl, refl)) c.cut_or_all.ensures in
    c.in_err-signature.ensures l.who (subst (λ (t : List ℕ). IsSignature t l.who) same w.who))

pub returns : goal.returns
returns c =
    let previous = c.in_ok-previous_oid.ensures in
    let new = c.in_ok-new_oid.ensures in
    record {
      ids = _;
      rest = _;
      line = _;
      next_lines = _;
      signature = _;
      previous = previous;
      new = new;
      cut = inr (none_in_rest 10 c.args.text.now _ _ _ _ c.requires previous new, refl, refl);
      message = c.cut_or_all.ensures;
      who = c.in_ok-signature.ensures;
    }
