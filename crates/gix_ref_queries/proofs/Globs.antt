-- Steps of a pattern, back from its end.
use Rattle.std.proofs.Common.{◌≡◌, ◌<◌, ◌≤◌, ◌≢◌, ◌+◌, ◌-◌, ℕ, Bool, true, false, List, [], ◌∷◌, length, get_or, drop, ◌++◌, ◌⊎◌, inl, inr, replicate, sym, ◌∙◌, ap, subst, eq-eqb, arith, length-append}
use Rattle.std.specs.Prelude.{◌&&◌, ◌||◌, ◌==◌, not, if◌then◌else◌}
use Rattle.std.proofs.lemmas.List.{at_drop_more, at_drop_all, drop_more, get_or_at, get_or_append_left, get_or-replicate, length-replicate}
use Rattle.std.proofs.lemmas.Bool.Decides.{nat_tests}
use Rattle.gix_ref_queries.specs.Patterns.{IsRow, is_empty, is_glob_of, any_bytes, sign_then, fits, one_sign}

-- a sign at a place in a name
pub sign_at : (sign : ℕ) (rest : List ℕ → Bool) (name : List ℕ) (i : ℕ) → i < length name → one_sign sign rest (drop i name) ≡ (fits sign (get_or name i 0) && rest (drop (i + 1) name))
sign_at sign rest name i lt = at_drop_more (one_sign sign rest) name i 0 lt

pub sign_at_end : (sign : ℕ) (rest : List ℕ → Bool) (name : List ℕ) → one_sign sign rest (drop (length name) name) ≡ false
sign_at_end sign rest name = at_drop_all (one_sign sign rest) name (length name) (omega arith)

-- a star at a place
pub star_at : (rest : List ℕ → Bool) (name : List ℕ) (i : ℕ) → i < length name → any_bytes rest (drop i name) ≡ (rest (drop i name) || (not (get_or name i 0 == 47) && any_bytes rest (drop (i + 1) name)))
star_at rest name i lt = at_drop_more (any_bytes rest) name i 0 lt ∙ ap (λ b. b || (not (get_or name i 0 == 47) && any_bytes rest (drop (i + 1) name))) (sym (at_drop_more rest name i 0 lt))

pub star_at_end : (rest : List ℕ → Bool) (name : List ℕ) → any_bytes rest (drop (length name) name) ≡ rest (drop (length name) name)
star_at_end rest name = at_drop_all (any_bytes rest) name (length name) (omega arith) ∙ sym (at_drop_all rest name (length name) (omega arith))

cases_le : (i n : ℕ) → i ≤ n → (i < n) ⊎ (i ≡ n)
cases_le i n le = grind arith

-- nothing is left of a pattern
pub first_row : (name : List ℕ) → IsRow (is_glob_of []) name (replicate (length name) false ++ true ∷ [])
first_row name = record {
  len = length-append (replicate (length name) false) (true ∷ []) ∙ ap (λ n. n + 1) (length-replicate (length name) false);
  at = λ i le. elim (cases_le i (length name) le) [
    | inl lt ↦ at_front i lt
    | inr same ↦ at_end i same
  ];
}
  where
    at_front : (i : ℕ) → i < length name → get_or (replicate (length name) false ++ true ∷ []) i false ≡ is_empty (drop i name)
    at_front i lt =
        let long : i < length (replicate (length name) false) = omega (arith, length-replicate (length name) false) in
        get_or_append_left (replicate (length name) false) (true ∷ []) false i long ∙ (get_or-replicate (length name) i false false lt ∙ sym (at_drop_more is_empty name i 0 lt))

    at_end : (i : ℕ) → i ≡ length name → get_or (replicate (length name) false ++ true ∷ []) i false ≡ is_empty (drop i name)
    at_end i same = get_or_at (replicate (length name) false) true [] false i (length-replicate (length name) false ∙ sym same) ∙ sym (at_drop_all is_empty name i (omega arith))

-- a `*`, and another sign, before a pattern
pub then_star : (sign : ℕ) (rest : List ℕ → Bool) (name : List ℕ) (row : List Bool) → sign ≡ 42 → IsRow (any_bytes rest) name row → IsRow (sign_then sign rest) name row
then_star sign rest name row is r =
    let test : (sign == 42) ≡ true = eq-eqb sign 42 is in
    record {
      len = r.len;
      at = λ i le. r.at i le ∙ sym (ap (λ (b : Bool). if b then any_bytes rest (drop i name) else one_sign sign rest (drop i name)) test);
    }

pub then_sign : (sign : ℕ) (rest : List ℕ → Bool) (name : List ℕ) (row : List Bool) → sign ≢ 42 → IsRow (one_sign sign rest) name row → IsRow (sign_then sign rest) name row
then_sign sign rest name row other r =
    let test : (sign == 42) ≡ false = grind (arith, nat_tests) in
    record {
      len = r.len;
      at = λ i le. r.at i le ∙ sym (ap (λ (b : Bool). if b then any_bytes rest (drop i name) else one_sign sign rest (drop i name)) test);
    }

-- one sign more of a pattern
pub row_more : (pattern name : List ℕ) (row : List Bool) (i : ℕ) → 0 < i → i ≤ length pattern → IsRow (sign_then (get_or pattern (i - 1) 0) (is_glob_of (drop i pattern))) name row → IsRow (is_glob_of (drop (i - 1) pattern)) name row
row_more pattern name row i above within r =
    let next : i ≡ (i - 1) + 1 = omega arith in
    let same : sign_then (get_or pattern (i - 1) 0) (is_glob_of (drop i pattern)) ≡ is_glob_of (drop (i - 1) pattern) =
    ap (λ n. sign_then (get_or pattern (i - 1) 0) (is_glob_of (drop n pattern))) next ∙ sym (ap is_glob_of (drop_more pattern (i - 1) 0 (omega arith))) in
    subst (λ (f : List ℕ → Bool). IsRow f name row) same r
