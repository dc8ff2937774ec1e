use Rattle.std.proofs.Common.{◌≡◌, ◌<◌, ⊎_elim, ◌∙◌, sym, arith}
use Rattle.std.proofs.lemmas.Bool.{eq-eqb}
use Rattle.std.proofs.Math.Nat.{eq-or-lt_of_le}
use Rattle.gix_ref_packed.proofs.packed.file_header.file_header.Goals as goal

pub loop-turn-preserved : goal.loop-turn-preserved
loop-turn-preserved g c =
    let was = c.loop-turn.invariant in
    let now = c.in_ok-read_window.ensures in
    let size = c.len.ensures.size ∙ sym now.same.1 ∙ sym c.len-in-loop-turn.ensures.size in
    record {
      same = now.same.0 ∙ was.same;
      size = now.same.1 ∙ was.size;
      no_fault = now.count ∙ was.no_fault;
      before = ⊎_elim (λ (last : c.loop-turn.turn ≡ 53). let bad : ⊥ = c.in_default.ensures.sure (eq-eqb _ _ (let window = c.window_size.ensures (omega (arith, last)) in omega (arith, c.min-len.ensures, size))) in absurd bad)
          (λ (less : c.loop-turn.turn < 53). omega arith) (eq-or-lt_of_le (let before = was.before in omega arith));
    }
