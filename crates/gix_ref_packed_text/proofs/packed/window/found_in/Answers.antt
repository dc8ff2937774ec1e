use Rattle.std.proofs.Common.{◌≡◌, ◌≢◌, ◌==◌, List, ℕ, [], true, false, length, sym, subst, ap, ◌∙◌}
use Rattle.gix_ref_packed_text.specs.RecordGrammar.{Takes}
use Rattle.gix_ref_packed_text.specs.Views.{record_of}
use Rattle.gix_ref_packed_text.proofs.WindowLemmas.{record_wider}
use Rattle.gix_ref_packed_text.proofs.packed.window.found_in.Goals as goal

pub returns-then-at_eof-clause-front : goal.returns-then-at_eof-clause-front
returns-then-at_eof-clause-front c = λ text is all r rest takes.
    c.in_default.ensures r rest (subst (λ (u : List ℕ). Takes c.args.kind u r rest) (sym (all c.if-at_eof.true)) takes)

pub returns-then-at_eof-2-clause-front : goal.returns-then-at_eof-2-clause-front
returns-then-at_eof-2-clause-front c = λ text is all.
    (record_of c.in-Some.reference, c.in-Some.rest.now, subst (λ (u : List ℕ). Takes c.args.kind u (record_of c.in-Some.reference) c.in-Some.rest.now) (all c.if-at_eof-2.true) c.in-Some.ensures, c.ids_of.ensures)

some_left : (n : List ℕ) → (length n == 0) ≡ false → n ≢ []
some_left n h none = let bad : true ≡ false = sym (ap (λ x. length x == 0) none) ∙ h in absurd (cc)

pub returns-clause-front : goal.returns-clause-front
returns-clause-front c = λ text is all.
    let wide = record_wider c.args.kind text c.args.part.now (record_of c.in-Some.reference) c.in-Some.rest.now c.in-Some.ensures is (some_left c.in-Some.rest.now (sym c.if-is_empty.ensures)) in
    (record_of c.in-Some.reference, wide.0, wide.1, c.ids_of-2.ensures)
