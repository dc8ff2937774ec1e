use Rattle.std.proofs.Common.{List, ℕ, [], ◌∷◌, ◌≡◌, ◌==◌, ◌∙◌, sym, refl, true, length, arith, eqb-true}
use Rattle.gix_ref_packed_text.proofs.OneReading.{same_record_line}
use Rattle.gix_ref_packed_text.proofs.packed.decode.record_line.name_at_record_start.Goals as goal
use Rattle.gix_ref_packed_text.proofs.packed.decode.record_line.name_at_record_start.Goals.{then-is_empty-via-then-is_empty, then-is_empty-via-else-is_empty+then-begins_with_caret}

pub returns-in_default : goal.returns-in_default
returns-in_default c = λ name some at. c.in_default.ensures at.0 name at.1 at.2

empty : (n : List ℕ) → (length n == 0) ≡ true → n ≡ []
empty [] e = refl
empty (b ∷ n) e = let none : length (b ∷ n) ≡ 0 = eqb-true _ _ e in absurd (omega arith)

pub returns-then-is_empty : goal.returns-then-is_empty
returns-then-is_empty c = λ name some at.
    elim c.then-is_empty.branch [
      | then-is_empty-via-then-is_empty w ↦
          let same = same_record_line c.args.kind c.args.text.now at.0 name at.1 _ _ _ at.2 c.in-Some.ensures in
          some (same.1 ∙ empty c.in-Some.name.now (sym w.if-is_empty.ensures))
      | then-is_empty-via-else-is_empty+then-begins_with_caret w ↦ w.if-begins_with_caret.ensures at.3
    ]
