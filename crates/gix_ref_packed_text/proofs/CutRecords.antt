-- A text that is cut where a name begins a line: its lines with names are those of the whole text.
use Rattle.std.proofs.Common.{◌≡◌, ◌≢◌, inl, inr, ⊎_elim, ℕ, ◌+◌, ◌-◌, ◌<◌, ◌≤◌, List, [], ◌∷◌, ◌++◌, length, take, drop, get_or, refl, sym, ◌∙◌, ap, subst, arith, append_assoc, length-append, zero, suc}
use Rattle.std.proofs.lemmas.List.{get_or-take, get_or-drop, length-drop, length-take, take-append-drop, take_all, drop-take, drop-append-le}
use Rattle.std.proofs.lemmas.List.Elements.{All-append}
use Rattle.std.proofs.Math.Seq.{drop-append-add}
use Rattle.gix_ref_hash.specs.declared.hash.Kind.{Kind}
use Rattle.gix_ref_hash.specs.Bytes.{StopsAt}
use Rattle.gix_ref_packed_text.specs.RecordGrammar.{RecordLine, is_caret}
use Rattle.gix_ref_packed_text.specs.Positions.{BeginsLine, NameAt}
use Rattle.gix_ref_packed_text.specs.Prefixes.{NameAtLine, NamedLine, NamesAscend, IsNameStart}
use Rattle.gix_ref_packed_text.proofs.RecordBytes.{line_front}
use Rattle.gix_ref_packed_text.proofs.RecordPlaces.{NoLf, one_no_lf}
use Rattle.gix_ref_packed_text.proofs.FrontTexts.{cut_within, line_to_lf}

-- a front of a text begins as the text
pub stops_front : (n : ℕ) (t : List ℕ) → StopsAt is_caret t → StopsAt is_caret (take n t)
stops_front n [] h = subst (StopsAt is_caret) (sym (take_all n [] (omega arith))) tt
stops_front n (b ∷ t) h = go n
  where
    go : (n : ℕ) → StopsAt is_caret (take n (b ∷ t))
    go zero = tt
    go (suc n) = h

-- a name is at a place inside of the text
name_inside : (k : Kind) (t : List ℕ) (p : ℕ) (m : List ℕ) → NameAt k (drop p t) m → p ≤ length t
name_inside k t p m at =
    let len : length (drop p t) ≡ length at.0 + length (32 ∷ at.2.after) = ap length at.2.whole ∙ length-append at.0 (32 ∷ at.2.after) in
    omega (arith, length-drop p t)

-- a text that begins with no `^`, made longer
stops_longer : (t more : List ℕ) → t ≢ [] → StopsAt is_caret t → StopsAt is_caret (t ++ more)
stops_longer [] more some stops = absurd (some refl)
stops_longer (b ∷ t) more some stops = stops

-- an empty text has no line of a record's form
no_line : (k : Kind) (t d m rest : List ℕ) → RecordLine k t d m rest → t ≡ [] → ⊥
no_line k t d m rest line none =
    let len : length t ≡ length d + length (32 ∷ line.after) = ap length line.whole ∙ length-append d (32 ∷ line.after) in
    let zero : length t ≡ 0 = ap length none in omega arith

-- and there in a longer text
name_longer : (k : Kind) (t more m : List ℕ) → NameAt k t m → NameAt k (t ++ more) m
name_longer k t more m at =
    let l = line_front at.2.after m at.1 at.2.line in (
      at.0,
      at.1 ++ more,
      record {
        after = l.0 ++ (at.1 ++ more);
        whole = ap (λ a. a ++ more) (at.2.whole ∙ ap (λ a. at.0 ++ 32 ∷ a) l.1) ∙ append_assoc at.0 (32 ∷ (l.0 ++ at.1)) more ∙ ap (λ a. at.0 ++ 32 ∷ a) (append_assoc l.0 at.1 more);
        len = at.2.len;
        line = l.2 (at.1 ++ more);
      },
      stops_longer t more (λ none. no_line k t at.0 m at.1 at.2 none) at.3,
    )

module _ (k : Kind) (u : List ℕ) (n : ℕ) where
  -- a line of the part begins one of the text
  pub part_line : (p : ℕ) → p ≤ n → BeginsLine u p → BeginsLine (take n u) p
  part_line p inside begins some = get_or-take n u (p - 1) 0 (omega arith) ∙ begins some

  pub text_line : (p : ℕ) → p ≤ n → BeginsLine (take n u) p → BeginsLine u p
  text_line p inside begins some = sym (get_or-take n u (p - 1) 0 (omega arith)) ∙ begins some

  part_drop : (p : ℕ) → p ≤ n → drop p (take n u) ≡ take (n - p) (drop p u)
  part_drop p inside =
      let split : n ≡ p + (n - p) = omega arith in
      ap (λ i. drop p (take i u)) split ∙ drop-take p (n - p) u

  pub rest_start : (p : ℕ) → p ≤ length u → p < n → IsNameStart k u n → IsNameStart k (drop p u) (n - p)
  rest_start p within inside there = ⊎_elim
      (λ (end : n ≡ length u). inl (omega (arith, length-drop p u)))
      (λ (named : (name : List ℕ) × NameAtLine k u n name).
      let split : n ≡ p + (n - p) = omega arith in
      let len : length (take p u) ≡ p = omega (arith, length-take p u) in
      let dropped : drop n u ≡ drop (n - p) (drop p u) =
      ap (λ i. drop i u) (split ∙ ap (λ i. i + (n - p)) (sym len)) ∙ ap (drop (length (take p u) + (n - p))) (sym (take-append-drop p u)) ∙ drop-append-add (take p u) (drop p u) (n - p) in
      inr (
        named.0,
        (
          λ some. get_or-drop p u (n - p - 1) 0 ∙ ap (λ i. get_or u i 0) (let e : p + (n - p - 1) ≡ n - 1 = omega arith in e) ∙ named.1.0 (omega arith),
          subst (λ (t : List ℕ). NameAt k t named.0) dropped named.1.1,
          named.1.2,
        ),
      ))
      there

  -- a line with a name before the cut is one of the part
  pub cut_named : IsNameStart k u n → (p : ℕ) (m : List ℕ) → p < n → NamedLine k u p m → NamedLine k (take n u) p m
  cut_named there p m inside at = ⊎_elim
      (λ (end : n ≡ length u). subst (λ (t : List ℕ). NamedLine k t p m) (sym (take_all n u (omega arith))) at)
      (λ (named : (name : List ℕ) × NameAtLine k u n name). cut_line (name_inside k u n named.0 named.1.1) named.1.0)
      there
    where
      cut_line : n ≤ length u → BeginsLine u n → NamedLine k (take n u) p m
      cut_line within begins =
          let part = drop p (take n u) in
          let tail = drop n u in
          let len : length (take n u) ≡ n = omega (arith, length-take n u) in
          let whole : part ++ tail ≡ drop p u = sym (drop-append-le p (take n u) tail (omega arith)) ∙ ap (drop p) (take-append-drop n u) in
          let part_len : length part ≡ n - p = omega (arith, length-drop p (take n u)) in
          let last : get_or part (n - p - 1) 0 ≡ 10 =
          get_or-drop p (take n u) (n - p - 1) 0 ∙ ap (λ i. get_or (take n u) i 0) (let e : p + (n - p - 1) ≡ n - 1 = omega arith in e) ∙ get_or-take n u (n - 1) 0 (omega arith) ∙ begins (omega arith) in
          let line = line_to_lf at.line.after m at.rest at.line.line in
          let front = at.digits ++ 32 ∷ line.0 in
          let no_lf : NoLf front = All-append (λ b. b ≢ 10) at.digits (32 ∷ line.0) at.one_line (All-append (λ b. b ≢ 10) (32 ∷ []) line.0 (one_no_lf 32 refl) line.1) in
          let is : part ++ tail ≡ front ++ 10 ∷ at.rest = whole ∙ at.line.whole ∙ ap (λ t. at.digits ++ 32 ∷ t) line.2 ∙ sym (append_assoc at.digits (32 ∷ line.0) (10 ∷ at.rest)) in
          let cut = cut_within front part tail at.rest no_lf (n - p - 1, omega arith, last) is in
          record {
            begins = part_line p (omega arith) at.begins;
            digits = at.digits;
            rest = cut.0;
            line = record { after = line.0 ++ 10 ∷ cut.0; whole = cut.1 ∙ append_assoc at.digits (32 ∷ line.0) (10 ∷ cut.0); len = at.line.len; line = line.3 cut.0 };
            one_line = at.one_line;
            no_caret = subst (StopsAt is_caret) (sym (part_drop p (omega arith))) (stops_front (n - p) (drop p u) at.no_caret);
            some_name = at.some_name;
          }

  -- the names of the part ascend, where those of the text do
  pub cut_ascends : NamesAscend k u → NamesAscend k (take n u)
  cut_ascends ascend p q m l before a b = ascend p q m l before (there p m a) (there q l b)
    where
      there : (p : ℕ) (m : List ℕ) → NameAtLine k (take n u) p m → NameAtLine k u p m
      there p m at =
          let short : length (take n u) ≤ n = omega (arith, length-take n u) in
          let inside : p ≤ length (take n u) = name_inside k (take n u) p m at.1 in
          let whole : drop p u ≡ drop p (take n u) ++ drop n u = ap (drop p) (sym (take-append-drop n u)) ∙ drop-append-le p (take n u) (drop n u) inside in
          (text_line p (omega arith) at.0, subst (λ (t : List ℕ). NameAt k t m) (sym whole) (name_longer k (drop p (take n u)) (drop n u) m at.1), at.2)
