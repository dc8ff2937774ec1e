use Rattle.std.proofs.Common.{◌≡◌, ◌≢◌, ◌==◌, List, ℕ, [], ◌∷◌, true, false, length, refl, sym, ◌∙◌, ap, subst, eqb-true, arith}
use Rattle.gix_ref_hash.specs.Bytes.{StopsAt}
use Rattle.gix_ref_packed_text.specs.RecordGrammar.{is_caret}
use Rattle.gix_ref_packed_text.proofs.CutRecords.{stops_front}
use Rattle.gix_ref_packed_text.proofs.OneReading.{same_record_line}
use Rattle.gix_ref_packed_text.proofs.WindowLemmas.{name_wider}
use Rattle.gix_ref_packed_text.proofs.packed.window.name_in.Goals as goal
use Rattle.gix_ref_packed_text.proofs.packed.window.name_in.Goals.{then-is_empty-via-then-is_empty, then-is_empty-via-else-is_empty+then-begins_with_caret}

empty : (n : List ℕ) → (length n == 0) ≡ true → n ≡ []
empty [] e = refl
empty (b ∷ n) e = let none : length (b ∷ n) ≡ 0 = eqb-true _ _ e in absurd (omega arith)

some_left : (n : List ℕ) → (length n == 0) ≡ false → n ≢ []
some_left n h none = let bad : true ≡ false = sym (ap (λ x. length x == 0) none) ∙ h in absurd (cc)

pub returns-then-lacks_name-clause-shows : goal.returns-then-lacks_name-clause-shows
returns-then-lacks_name-clause-shows c = λ text is all n some at. c.lacks_name.ensures.lacks c.if-lacks_name.true text is all n at

pub returns-then-is_empty-clause-shows : goal.returns-then-is_empty-clause-shows
returns-then-is_empty-clause-shows c = λ text is all n some at.
    let stops = subst (StopsAt is_caret) (sym is) (stops_front (length c.args.part.now) text at.3) in
    elim c.then-is_empty.branch [
      | then-is_empty-via-then-is_empty w ↦
          let here = name_wider c.args.kind text c.args.part.now _ c.in-Some.name.now _ c.in-Some.ensures stops is in
          let same = (same_record_line c.args.kind text at.0 n at.1 here.0 c.in-Some.name.now here.1 at.2 here.2).1 in
          some (same ∙ empty c.in-Some.name.now (sym w.if-is_empty.ensures))
      | then-is_empty-via-else-is_empty+then-begins_with_caret w ↦ w.if-begins_with_caret.ensures stops
    ]

pub returns-clause-shows : goal.returns-clause-shows
returns-clause-shows c = λ text is all.
    (some_left c.in-Some.name.now (sym c.if-is_empty.ensures), name_wider c.args.kind text c.args.part.now _ c.in-Some.name.now _ c.in-Some.ensures c.if-begins_with_caret.ensures is)
