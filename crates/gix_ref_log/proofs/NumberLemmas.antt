-- One more digit of a number.
use Rattle.std.proofs.Common.{◌≡◌, ◌≢◌, ℕ, ◌+◌, ◌-◌, ◌*◌, ◌%◌, ◌^◌, ◌<◌, ◌≤◌, false, List, [], ◌∷◌, ◌++◌, length, slice_index, get_or, take, refl, sym, ◌∙◌, ap, subst, arith, ℤ, pos, FitsSigned}
use Rattle.std.specs.Int.{w64}
use Rattle.std.specs.Char.{digit_value}
use Rattle.std.specs.Str.Parse.{AllDigits, IsNumeral, digits_value, digits_value_after, without_leading_sign, starts_with_minus, signed_digits_value}
use Rattle.std.proofs.lemmas.Bool.{ne_eqb, cond-false}
use Rattle.std.proofs.lemmas.List.{take_more}
use Rattle.std.proofs.lemmas.Str.Parse.{digit_at, without_leading_plus_none, digits_value_short, numerals_by_value, tells_digits}
use Rattle.gix_ref_hash.specs.Digits.{IsNumber}
use Rattle.gix_ref_log.specs.Signatures.{IsSeconds}

by : (A : Type 0) → A → A
by A a = a

value_append : (n : ℕ) (ds : List ℕ) (c : ℕ) → digits_value_after 10 n (ds ++ c ∷ []) ≡ digits_value_after 10 n ds * 10 + digit_value c
value_append n [] c = refl
value_append n (d ∷ ds) c = value_append (n * 10 + digit_value d) ds c

digits_append : (ds : List ℕ) (c : ℕ) → AllDigits 10 ds → digit_value c < 10 → AllDigits 10 (ds ++ c ∷ [])
digits_append [] c h d = (d, tt)
digits_append (x ∷ ds) c h d = (h.0, digits_append ds c h.1 d)

-- the value of an ASCII digit
pub digit_is : (c d : ℕ) → c < 256 → d ≡ (c + (256 - 48)) % 256 → d ≤ 9 → (digit_value c ≡ d) × (c ≡ d + 48)
digit_is c d byte is small = grind arith

-- a number of few digits is small
pub few_digits : (text : List ℕ) (k : ℕ) → AllDigits 10 text → length text ≤ k → digits_value 10 text < 10 ^ k
few_digits text k all short = digits_value_short (numerals_by_value (AllDigits 10) tells_digits) text k all short

pub one_digit_more : (text : List ℕ) (i number digit : ℕ) → i < length text → AllDigits 10 (take i text) → number ≡ digits_value 10 (take i text)
    → get_or text i 0 < 256 → digit ≡ (get_or text i 0 + 208) % 256 → digit ≤ 9
    → AllDigits 10 (take (i + 1) text) × (number * 10 + digit ≡ digits_value 10 (take (i + 1) text))
one_digit_more text i number digit within all value byte was low =
    let is = (digit_is (get_or text i 0) digit byte was low).0 in
    let more = take_more text i 0 within in (
      subst (λ (t : List ℕ). AllDigits 10 t) (sym more) (digits_append (take i text) (get_or text i 0) all (omega (arith, is))),
      ap (λ (n : ℕ). n * 10 + digit) value ∙ ap (λ (d : ℕ). digits_value 10 (take i text) * 10 + d) (sym is) ∙ sym (value_append 0 (take i text) (get_or text i 0)) ∙ ap (digits_value 10) (sym more),
    )

small_fits : (n : ℕ) → n < 10 ^ 18 → FitsSigned w64 (pos n)
small_fits n small = omega arith

-- a number is so many seconds
pub number_seconds : (text : List ℕ) (n : ℕ) → IsNumber text n → IsSeconds text (pos n)
number_seconds text n h =
    let first = digit_at text 0 h.digits.1 h.digits.0 in
    let small = h.small in
    let plus : slice_index text 0 ≢ 43 = omega arith in
    let minus : starts_with_minus text ≡ false = ne_eqb _ 45 (omega arith) in
    let all : without_leading_sign text ≡ text = cond-false _ _ _ minus ∙ without_leading_plus_none text plus in
    let value : signed_digits_value 10 text ≡ pos n = cond-false _ _ _ minus ∙ ap (λ (t : List ℕ). pos (digits_value 10 t)) all ∙ ap pos (sym h.value) in
    (plus, (subst (λ (t : List ℕ). IsNumeral 10 t) (sym all) h.digits, subst (λ (v : ℤ). FitsSigned w64 v) (sym value) (small_fits n small)), sym value)
