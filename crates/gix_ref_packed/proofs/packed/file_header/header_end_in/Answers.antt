use Rattle.std.proofs.Common.{◌≡◌, ◌≢◌, ◌==◌, List, ℕ, [], true, false, length, sym, ap, ◌∙◌, subst, ◌≤◌, take, arith}
use Rattle.std.proofs.lemmas.List.{length-take}
use Rattle.gix_ref_packed_text.specs.OpenedText.{NoHeader}
use Rattle.gix_ref_packed_text.specs.HeaderEnds.{HeadsAt}
use Rattle.gix_ref_packed_text.proofs.HeaderLemmas.{heads_wider}
use Rattle.gix_ref_packed.proofs.packed.file_header.header_end_in.Goals as goal

some_left : (n : List ℕ) → (length n == 0) ≡ false → n ≢ []
some_left n h none = let bad : true ≡ false = sym (ap (λ x. length x == 0) none) ∙ h in absurd (cc)

part_within : (text part : List ℕ) → part ≡ take (length part) text → length part ≤ length text
part_within text part is = let len = length-take (length part) text in let same = ap length is in omega arith

pub returns-then-at_eof-clause-heads : goal.returns-then-at_eof-clause-heads
returns-then-at_eof-clause-heads c = λ text is all. subst NoHeader (all c.if-at_eof.true) c.in_default.ensures

pub returns-then-at_eof-2-clause-heads : goal.returns-then-at_eof-2-clause-heads
returns-then-at_eof-2-clause-heads c = λ text is all.
    subst (λ (u : List ℕ). HeadsAt u c.in-Some.heading) (all c.if-at_eof-2.true) c.in-Some.ensures

pub returns-clause-heads : goal.returns-clause-heads
returns-clause-heads c = λ text is all.
    let fits = part_within text c.args.part.now is in
    let low = c.in-Some.ensures.1 in
    (heads_wider text c.args.part.now c.in-Some.heading.header c.in-Some.heading.start is (some_left c.args.part.now (sym c.if-is_empty.ensures)) c.in-Some.ensures.1 c.in-Some.ensures.0, omega arith)
