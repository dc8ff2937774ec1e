use Rattle.std.proofs.Common.{List, ℕ, drop, sym, ◌∙◌, ap, subst}
use Rattle.std.proofs.lemmas.List.{take_rest}
use Rattle.gix_ref_packed_text.specs.OpenedText.{SortsText}
use Rattle.gix_ref_packed.proofs.PrefixParts.{drop_zero}
use Rattle.gix_ref_packed.proofs.SortedPieces.{keeps_text}
use Rattle.gix_ref_packed.proofs.packed.buffer.Buffer.sorted.Goals as goal

pub returns-then-rises-clause-keeps : goal.returns-then-rises-clause-keeps
returns-then-rises-clause-keeps c =
    let rest = drop c.args.start c.args.bytes.items in
    let order = c.in_ok-rises.ensures.order in
    subst (SortsText c.args.kind rest) (sym c.from_start.ensures.text)
    (subst (λ (t : List ℕ). SortsText c.args.kind t t) (take_rest c.deref.result.now c.args.start ∙ ap (drop c.args.start) c.deref.ensures.value)
    (keeps_text c.args.kind _ order.0 order.1 (order.2 c.if-rises.true)))

pub returns-clause-keeps : goal.returns-clause-keeps
returns-clause-keeps c =
    let rest = drop c.args.start c.args.bytes.items in
    subst (SortsText c.args.kind rest) (sym (c.from_start-2.ensures.text ∙ drop_zero c.in_ok-sorted.sorted.items))
    (subst (λ (t : List ℕ). SortsText c.args.kind t c.in_ok-sorted.sorted.items) (take_rest c.deref.result.now c.args.start ∙ ap (drop c.args.start) c.deref.ensures.value) c.in_ok-sorted.ensures.sorts)
