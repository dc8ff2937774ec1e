use Rattle.std.proofs.Common.{◌≡◌, ℕ, zero, suc, false, ◌==◌, ◌<◌, ◌≤◌, ◌^◌, List, length, take, ◌∙◌, ap, subst, arith}
use Rattle.std.specs.Str.Parse.{AllDigits, digits_value}
use Rattle.std.proofs.lemmas.List.{length-take-le, take_all}
use Rattle.gix_ref_hash.specs.Digits.{IsNumber}
use Rattle.gix_ref_log.proofs.NumberLemmas.{few_digits, one_digit_more}
use Rattle.gix_ref_log.proofs.actor.number.parse_short_decimal.Goals as goal

-- the number so far is of at most 17 digits
so_far : (text : List ℕ) (i number : ℕ) → i < length text → length text ≤ 18 → AllDigits 10 (take i text) → number ≡ digits_value 10 (take i text) → number < 10 ^ 17
so_far text i number within short all value =
    let len = length-take-le i text (omega arith) in
    let few = few_digits (take i text) 17 all (omega arith) in omega arith

whole : (text : List ℕ) (i number : ℕ) → length text ≤ i → 0 < length text → length text ≤ 18 → AllDigits 10 (take i text) → number ≡ digits_value 10 (take i text) → IsNumber text number
whole text i number end some short all value =
    let same = take_all i text end in
    let digits : AllDigits 10 text = subst (λ (t : List ℕ). AllDigits 10 t) same all in
    let is : number ≡ digits_value 10 text = value ∙ ap (digits_value 10) same in
    let few = few_digits text 18 digits short in
    record { digits = (some, digits); value = is; small = omega arith }

some : (n : ℕ) → false ≡ (n == 0) → 0 < n
some zero h = absurd (cc)
some (suc n) h = omega arith

pub overflow_mul-number : goal.overflow_mul-number
overflow_mul-number c =
    let inv = c.loop-byte.invariant in
    let small = so_far c.args.text.now c.loop-byte.byte-index c.loop-byte.number c.loop-byte-test.true c.if-text-gt18.false inv.0 inv.1 in omega arith

pub overflow_add-number : goal.overflow_add-number
overflow_add-number c =
    let inv = c.loop-byte.invariant in
    let small = so_far c.args.text.now c.loop-byte.byte-index c.loop-byte.number c.loop-byte-test.true c.if-text-gt18.false inv.0 inv.1 in
    let digit = c.from.ensures in
    let low = c.if-digit-gt9.false in omega arith

pub loop-byte-preserved : goal.loop-byte-preserved
loop-byte-preserved c =
    let inv = c.loop-byte.invariant in
    one_digit_more c.args.text.now c.loop-byte.byte-index c.loop-byte.number c.from.result c.loop-byte-test.true inv.0 inv.1 (omega (arith, c.type_inv.text c.loop-byte.byte-index)) c.from.ensures (omega (arith, c.from.ensures, c.if-digit-gt9.false))

pub returns : goal.returns
returns c =
    let inv = c.loop-byte.invariant in
    whole c.args.text.now c.loop-byte.byte-index c.loop-byte.number c.loop-byte-test.false (some (length c.args.text.now) c.if-is_empty.ensures) c.if-text-gt18.false inv.0 inv.1
