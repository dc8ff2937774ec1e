use Rattle.std.proofs.Common.{ℕ, List, [], length, take, arith, length-append, ap, ◌∙◌, Bor}
use Rattle.std.proofs.lemmas.List.Folds.{length-flat_map-take}
use Rattle.gix_ref_log.specs.internal.Parts.{concat_slices}
use Rattle.gix_ref_log.proofs.writer.push_parts.Goals as goal

pub returns-in-Err-clause-room : goal.returns-in-Err-clause-room
returns-in-Err-clause-room c =
    let parts = c.args.parts.now in
    let i = c.loop-part.part-index in
    let part : Bor (List ℕ) = record { ref_ptr = (0, 0); now = [] } in
    let fits = length-flat_map-take (λ (p : Bor (List ℕ)). p.now) parts i part c.loop-part-test.true in
    let (items, capacity) = c.loop-part.invariant in
    let grown = ap length items ∙ length-append c.args.text.now.items (concat_slices (take i parts)) in
    omega (arith, fits, capacity, grown, c.in-Err.ensures.full, c.loop-part.text.ok.0, c.args.text.now.ok.0)
