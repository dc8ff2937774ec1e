-- The first newline byte of a text cuts its first line.
use Rattle.std.proofs.Common.{◌≡◌, ◌==◌, ◌||◌, ℕ, ◌+◌, ◌-◌, ◌<◌, ◌≤◌, Bool, true, false, not, List, length, get_or, take, drop, refl, sym, ◌∙◌, ap, subst, arith, length-take-le, eq-eqb}
use Rattle.std.specs.List.{AllPass}
use Rattle.std.proofs.lemmas.List.{get_or-take, get_or-drop, drop_all}
use Rattle.std.proofs.lemmas.List.Elements.{All-from_get_or}
use Rattle.gix_ref_hash.specs.Bytes.{Spans}
use Rattle.gix_ref_hash.proofs.ByteLemmas.{spans_at, spans_all}
use Rattle.gix_ref_packed_text.specs.RecordGrammar.{Newline, Line, in_record_line}
use Rattle.gix_ref_packed_text.proofs.OneReading.{no_newline, no_line}

-- LF or CR
abbrev pub ends : ℕ → Bool
ends b = (b == 10) || (b == 13)

not_true : (b : Bool) → (b ≡ true → ⊥) → not b ≡ true
not_true true bad = absurd (bad refl)
not_true false bad = refl

-- no byte of the front passes
pub front_of_none : (p : ℕ → Bool) (t : List ℕ) (i : ℕ) → i ≤ length t → ((k : ℕ) → 0 ≤ k → k < i → p (get_or t k 0) ≡ true → ⊥) → AllPass (λ b. not (p b)) (take i t)
front_of_none p t i within none =
    All-from_get_or (λ b. not (p b) ≡ true) (take i t) 0 (λ k h.
    let len : length (take i t) ≡ i = length-take-le i t within in
    let below : k < i = omega arith in
    not_true (p (get_or (take i t) k 0)) (λ is. none k (omega arith) below (ap p (sym (get_or-take i t k 0 below)) ∙ is)))

pub cut_at : (t : List ℕ) (i : ℕ) → i < length t → ((k : ℕ) → 0 ≤ k → k < i → ends (get_or t k 0) ≡ true → ⊥) → ends (get_or t i 0) ≡ true → Spans in_record_line t (take i t) (drop i t)
cut_at t i within none here =
    let low : i ≤ length t = omega arith in
    spans_at in_record_line t i within (front_of_none ends t i low none) (ap not here)

-- a text without them has no line
pub unended : (t : List ℕ) → ((k : ℕ) → 0 ≤ k → k < length t → ends (get_or t k 0) ≡ true → ⊥) → (a r : List ℕ) → Line t a r → ⊥
unended t none =
    let all : length t ≤ length t = omega arith in
    let cut = spans_all in_record_line t (length t) (length t) all all (front_of_none ends t (length t) all none) in
    no_line t _ _ cut (subst (λ (u : List ℕ). (r : List ℕ) → Newline u r → ⊥) (sym (drop_all (length t) t all)) no_newline)

-- no LF in a part says none in the text
pub none_behind : (t hay : List ℕ) (o n i : ℕ) → hay ≡ drop o t → ((k : ℕ) → 0 ≤ k → k < n → (get_or hay k 0 == 10) ≡ true → ⊥) → o ≤ i → i < o + n → get_or t i 0 ≡ 10 → ⊥
none_behind t hay o n i is none low high lf =
    let back : o + (i - o) ≡ i = omega arith in
    none (i - o) (omega arith) (omega arith) (eq-eqb _ 10 (ap (λ h. get_or h (i - o) 0) is ∙ get_or-drop o t (i - o) 0 ∙ ap (λ j. get_or t j 0) back ∙ lf))
