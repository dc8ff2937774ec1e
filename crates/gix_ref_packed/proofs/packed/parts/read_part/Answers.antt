use Rattle.std.proofs.Common.{◌≡◌, List, ℕ, length, take, drop, sym, ◌∙◌, ap, subst}
use Rattle.gix_ref_packed.specs.internal.Parts.{IsPart}
use Rattle.gix_ref_packed.proofs.PartLemmas.{cut_is_part}
use Rattle.gix_ref_packed.proofs.packed.parts.read_part.Goals as goal

pub returns-then-end-gt0-clause-part : goal.returns-then-end-gt0-clause-part
returns-then-end-gt0-clause-part g c = λ honest.
    let text = drop c.args.place (g.R.ReadAt.bytes c.args.reader.now) in
    let read = c.read_window.new.window.items in
    let end = c.last_record_line-end.result in
    let shown : c.as_slice.result.now ≡ read = c.as_slice.ensures.value in
    let is : read ≡ take (length read) text = c.in_ok-read_window.ensures.read honest ∙ ap (λ (t : List ℕ). take (length read) (drop c.args.place t)) c.loop-turn.invariant.same in
    let cut = rw c.as_slice.ensures.value at c.last_record_line-end.ensures c.if-end-gt0.true in
    subst (IsPart text) (sym c.truncate.ensures.items) (cut_is_part text read end is c.if-end-gt0.true cut.0 cut.1 cut.2)
