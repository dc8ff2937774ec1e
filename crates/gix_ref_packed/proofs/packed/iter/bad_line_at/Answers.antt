use Rattle.std.proofs.Common.{ℕ, List, sym, subst, arith}
use Rattle.std.proofs.lemmas.List.{take_rest}
use Rattle.gix_ref_hash.specs.Bytes.{StopsAt}
use Rattle.gix_ref_packed_text.specs.RecordGrammar.{is_caret}
use Rattle.gix_ref_packed.specs.Items.{CutsAtFeed}
use Rattle.gix_ref_packed.proofs.BadLines.{bad_first, bad_plain, bad_second}
use Rattle.gix_ref_packed.proofs.packed.iter.bad_line_at.Goals as goal
use Rattle.gix_ref_packed.proofs.packed.iter.bad_line_at.Goals.{then-place-eq0-via-then-place-eq0, then-place-eq0-via-else-place-eq0+then-not-begins_with_caret}

pub returns-then-place-eq0 : goal.returns-then-place-eq0
returns-then-place-eq0 c = λ k bad.
    elim c.then-place-eq0.branch [
      | then-place-eq0-via-then-place-eq0 w ↦ bad_first k c.args.text.now c.args.place bad w.if-place-eq0.true
      | then-place-eq0-via-else-place-eq0+then-not-begins_with_caret w ↦
          bad_plain k c.args.text.now c.args.place bad (subst (StopsAt is_caret) (take_rest c.args.text.now c.args.place) w.if-not-begins_with_caret.ensures)
    ]

pub returns : goal.returns
returns c = λ k bad.
    let text = c.args.text.now in
    let place = c.args.place in
    let some = c.if-place-eq0.false in
    bad_second k text place bad (omega arith) (λ stops. c.if-not-begins_with_caret.ensures (subst (StopsAt is_caret) (sym (take_rest text place)) stops)) c.cut_line.result.0.now c.cut_line.result.1.now
    (subst (λ (t : List ℕ). CutsAtFeed t c.cut_line.result.0.now c.cut_line.result.1.now) (take_rest text place) c.cut_line.ensures)
