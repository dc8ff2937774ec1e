-- Hex digits looked at in three runs of 16, of which the last two overlap, and a byte by two ranges.
use Rattle.std.proofs.Common.{◌≡◌, ℕ, ◌+◌, ◌%◌, ◌<◌, Bool, true, false, not, cond, ◌&&◌, ◌||◌, List, ◌++◌, length, get_or, take, drop, refl, sym, ◌∙◌, ap, subst, arith, bit_or, ℤ, pos, to_z, of_z, w8}
use lib.Signed.{lt_z}
use Rattle.std.specs.List.{list_all, range_with_len}
use Rattle.std.proofs.lemmas.List.{take-append-drop, drop-drop, take_all, length-drop, get_or-drop}
use Rattle.std.proofs.lemmas.List.Elements.{All-get_or}
use Rattle.std.proofs.lemmas.List.Folds.{list_all-append, list_all_more}
use Rattle.std.proofs.lemmas.List.FromFn.{get_or-range_with_len}
use Rattle.std.proofs.lemmas.List.Sums.{AllPass-from_list_all}
use Rattle.std.proofs.Math.Seq.{take-add}
use Rattle.hex.specs.Hex.{is_hex_digit}

-- the two tests agree, as each of the 256 bytes shows

all_agree : list_all (λ b. cond (lt_z (pos 117) (to_z w8 (of_z w8 (to_z w8 ((b + 70) % 256)))) || lt_z (pos 121) (to_z w8 (of_z w8 (to_z w8 ((bit_or b 32 + 25) % 256))))) (is_hex_digit b) (not (is_hex_digit b))) (range_with_len 0 256) ≡ true
all_agree = refl

same_bools : (x y : Bool) → cond x y (not y) ≡ true → x ≡ y
same_bools true true h = refl
same_bools true false h = absurd (cc)
same_bools false true h = absurd (cc)
same_bools false false h = refl

pub folded_hex : (b : ℕ) (digit letter : ℤ) → b < 256 → digit ≡ to_z w8 ((b + 70) % 256) → letter ≡ to_z w8 ((bit_or b 32 + 25) % 256)
    → (lt_z (pos 117) (to_z w8 (of_z w8 digit)) || lt_z (pos 121) (to_z w8 (of_z w8 letter))) ≡ is_hex_digit b
folded_hex b digit letter byte digit_is letter_is =
    let test = λ (b : ℕ). cond (lt_z (pos 117) (to_z w8 (of_z w8 (to_z w8 ((b + 70) % 256)))) || lt_z (pos 121) (to_z w8 (of_z w8 (to_z w8 ((bit_or b 32 + 25) % 256))))) (is_hex_digit b) (not (is_hex_digit b)) in
    let here = All-get_or (λ (b : ℕ). test b ≡ true) (range_with_len 0 256) b 0 byte (AllPass-from_list_all test (range_with_len 0 256) all_agree) in
    let plain : 0 + b ≡ b = omega arith in
    let at : get_or (range_with_len 0 256) b 0 ≡ b = get_or-range_with_len 0 256 b 0 byte ∙ plain in
    ap (λ (z : ℤ). lt_z (pos 117) (to_z w8 (of_z w8 z)) || lt_z (pos 121) (to_z w8 (of_z w8 letter))) digit_is
    ∙ ap (λ (z : ℤ). lt_z (pos 117) (to_z w8 (of_z w8 (to_z w8 ((b + 70) % 256)))) || lt_z (pos 121) (to_z w8 (of_z w8 z))) letter_is
    ∙ same_bools _ _ (subst (λ (n : ℕ). test n ≡ true) at here)

regroup : (a b c x y z : Bool) → ((((a && (b && c)) && x) && y) && z) ≡ ((a && x) && ((b && y) && (c && z)))
regroup false b c x y z = refl
regroup true false c false y z = refl
regroup true false c true y z = refl
regroup true true false false y z = refl
regroup true true false true false z = refl
regroup true true false true true z = refl
regroup true true true false y z = refl
regroup true true true true y z = refl

-- three runs, from the places 0, 16 and 24 on
abbrev pub three_runs : ℕ → List ℕ → Bool
three_runs i digits = list_all is_hex_digit (take i digits) && (list_all is_hex_digit (take i (drop 16 digits)) && list_all is_hex_digit (take i (drop 24 digits)))

one_more : (digits : List ℕ) (start i : ℕ) → start + i < length digits → list_all is_hex_digit (take (i + 1) (drop start digits)) ≡ (list_all is_hex_digit (take i (drop start digits)) && is_hex_digit (get_or digits (i + start) 0))
one_more digits start i within =
    let place : start + i ≡ i + start = omega arith in
    list_all_more is_hex_digit (drop start digits) i 0 (omega (arith, length-drop start digits))
    ∙ ap (λ (d : ℕ). list_all is_hex_digit (take i (drop start digits)) && is_hex_digit d) (get_or-drop start digits i 0 ∙ ap (λ (k : ℕ). get_or digits k 0) place)

pub runs_more : (digits : List ℕ) (i : ℕ) (x y z : Bool) → length digits ≡ 40 → i < 16 → x ≡ is_hex_digit (get_or digits i 0) → y ≡ is_hex_digit (get_or digits (i + 16) 0) → z ≡ is_hex_digit (get_or digits (i + 24) 0)
    → (so_far : Bool) → so_far ≡ three_runs i digits → (((so_far && x) && y) && z) ≡ three_runs (i + 1) digits
runs_more digits i x y z len within first second third so_far is =
    let a = list_all is_hex_digit (take i digits) in
    let b = list_all is_hex_digit (take i (drop 16 digits)) in
    let c = list_all is_hex_digit (take i (drop 24 digits)) in
    let front : (a && x) ≡ list_all is_hex_digit (take (i + 1) digits) = ap (λ (w : Bool). a && w) first ∙ sym (list_all_more is_hex_digit digits i 0 (omega arith)) in
    let middle : (b && y) ≡ list_all is_hex_digit (take (i + 1) (drop 16 digits)) = ap (λ (w : Bool). b && w) second ∙ sym (one_more digits 16 i (omega arith)) in
    let back : (c && z) ≡ list_all is_hex_digit (take (i + 1) (drop 24 digits)) = ap (λ (w : Bool). c && w) third ∙ sym (one_more digits 24 i (omega arith)) in
    ap (λ (w : Bool). ((w && x) && y) && z) is ∙ regroup a b c x y z
    ∙ ap (λ (w : Bool). w && ((b && y) && (c && z))) front ∙ ap (λ (w : Bool). list_all is_hex_digit (take (i + 1) digits) && (w && (c && z))) middle
    ∙ ap (λ (w : Bool). list_all is_hex_digit (take (i + 1) digits) && (list_all is_hex_digit (take (i + 1) (drop 16 digits)) && w)) back

overlap : (a f e d : Bool) → (a && ((f && e) && (e && d))) ≡ (a && ((f && e) && d))
overlap false f e d = refl
overlap true false e d = refl
overlap true true false d = refl
overlap true true true d = refl

pub runs_whole : (digits : List ℕ) (i : ℕ) → length digits ≡ 40 → i ≡ 16 → three_runs i digits ≡ list_all is_hex_digit digits
runs_whole digits i len end =
    let p = λ (t : List ℕ). list_all is_hex_digit t in
    let a = p (take 16 digits) in
    let f = p (take 8 (drop 16 digits)) in
    let e = p (take 8 (drop 24 digits)) in
    let d = p (drop 32 digits) in
    let middle : p (take 16 (drop 16 digits)) ≡ (f && e) =
    ap p (take-add 8 8 (drop 16 digits) ∙ ap (λ (t : List ℕ). take 8 (drop 16 digits) ++ take 8 t) (drop-drop 8 16 digits)) ∙ list_all-append is_hex_digit (take 8 (drop 16 digits)) (take 8 (drop 24 digits)) in
    let back : p (take 16 (drop 24 digits)) ≡ (e && d) =
    ap p (take_all 16 (drop 24 digits) (omega (arith, length-drop 24 digits)) ∙ sym (take-append-drop 8 (drop 24 digits)) ∙ ap (λ (t : List ℕ). take 8 (drop 24 digits) ++ t) (drop-drop 8 24 digits))
    ∙ list_all-append is_hex_digit (take 8 (drop 24 digits)) (drop 32 digits) in
    let rest : ((f && e) && d) ≡ p (drop 16 digits) =
    ap (λ (w : Bool). w && d) (sym middle) ∙ sym (list_all-append is_hex_digit (take 16 (drop 16 digits)) (drop 32 digits))
    ∙ ap p (ap (λ (t : List ℕ). take 16 (drop 16 digits) ++ t) (sym (drop-drop 16 16 digits)) ∙ take-append-drop 16 (drop 16 digits)) in
    ap (λ (j : ℕ). three_runs j digits) end
    ∙ ap (λ (w : Bool). a && (w && p (take 16 (drop 24 digits)))) middle ∙ ap (λ (w : Bool). a && ((f && e) && w)) back ∙ overlap a f e d
    ∙ ap (λ (w : Bool). a && w) rest ∙ sym (list_all-append is_hex_digit (take 16 digits) (drop 16 digits)) ∙ ap p (take-append-drop 16 digits)
