-- A signature that was written is read again.
use Rattle.std.proofs.Common.{◌≡◌, ◌≢◌, ℕ, zero, suc, ◌+◌, ◌-◌, ◌*◌, ◌/◌, ◌%◌, ◌<◌, ◌≤◌, inl, inr, ⊎_elim, true, false, Bool, List, [], ◌∷◌, ◌++◌, length, slice_index, refl, sym, ◌∙◌, ap, subst, arith, ℤ, pos, negsuc, neg_ℤ, FitsSigned, nat_lt, ◌==◌, ◌&&◌}
use Rattle.std.specs.Int.{w64}
use Rattle.std.specs.Fmt.{signed_decimal, decimal}
use Rattle.std.specs.Str.Parse.{AllDigits, IsNumeral, digits_value, without_leading_sign, starts_with_minus, signed_digits_value}
use Rattle.std.proofs.lemmas.Bool.{eq-eqb, ne_eqb, cond-true, cond-false, cases_lt, lt-ltb}
use Rattle.std.proofs.lemmas.List.{get_or_append_left, get_or-append_right, length-append, append_assoc, take_at}
use Rattle.std.proofs.lemmas.Str.Parse.{digit_at, without_leading_plus_none}
use Rattle.std.proofs.lemmas.Fmt.{decimal_is_IsNumeral}
use Rattle.gix_ref_hash.specs.Bytes.{NoByte}
use Rattle.gix_ref_log.specs.Signatures.{Who, IsSeconds, IsZone, IsSignature, IsWritableOffset, CanWrite, without_space, zone_seconds, two_digits, offset_text, signature_text}

by : (A : Type 0) → A → A
by A a = a

pub none_append : (b : ℕ) (x y : List ℕ) → NoByte b x → NoByte b y → NoByte b (x ++ y)
none_append b x y f g k l =
    let long = length-append x y in
    ⊎_elim
    (λ (in_x : k < length x). λ is. f k in_x (sym (get_or_append_left x y 0 k in_x) ∙ is))
    (λ (past : length x ≤ k). λ is. g (k - length x) (omega arith) (sym (get_or-append_right x y (length x) k 0 refl past) ∙ is))
    (cases_lt k (length x))

pub none_cons : (b c : ℕ) (x : List ℕ) → c ≢ b → NoByte b x → NoByte b (c ∷ x)
none_cons b c x other none zero l = other
none_cons b c x other none (suc k) l = none k (omega arith)

pub none_nil : (b : ℕ) → NoByte b []
none_nil b k l = absurd (omega arith)

-- a byte that is no sign and no digit
pub record IsApart (b : ℕ) : Type 0 where
  pub plus : 43 ≢ b
  pub minus : 45 ≢ b
  pub digit : (d : ℕ) → 48 ≤ d → d ≤ 57 → d ≢ b

pub below : (b : ℕ) → b < 43 → IsApart b
below b small = record { plus = omega arith; minus = omega arith; digit = λ d l h. omega arith }

pub above : (b : ℕ) → 57 < b → IsApart b
above b large = record { plus = omega arith; minus = omega arith; digit = λ d l h. omega arith }

pub none_digits : (b : ℕ) (ds : List ℕ) → IsApart b → AllDigits 10 ds → NoByte b ds
none_digits b ds apart h k l = let d = digit_at ds k h l in apart.digit (slice_index ds k) (omega arith) (omega arith)

none_signed : (b : ℕ) (z : ℤ) → IsApart b → FitsSigned w64 z → NoByte b (signed_decimal z)
none_signed b (pos n) apart fits = none_digits b (decimal n) apart (decimal_is_IsNumeral n (omega arith)).0.1
none_signed b (negsuc n) apart fits = none_cons b 45 (decimal (suc n)) apart.minus (none_digits b (decimal (suc n)) apart (decimal_is_IsNumeral (suc n) (omega arith)).0.1)

-- the seconds are read again
seconds_again : (z : ℤ) → FitsSigned w64 z → IsSeconds (signed_decimal z) z
seconds_again (pos n) fits =
    let is = decimal_is_IsNumeral n (omega arith) in
    let first = digit_at (decimal n) 0 is.0.1 is.0.0 in
    let plus : slice_index (decimal n) 0 ≢ 43 = omega arith in
    let minus : starts_with_minus (decimal n) ≡ false = ne_eqb _ 45 (omega arith) in
    let all : without_leading_sign (decimal n) ≡ decimal n = cond-false _ _ _ minus ∙ without_leading_plus_none (decimal n) plus in
    let value : signed_digits_value 10 (decimal n) ≡ pos n = cond-false _ _ _ minus ∙ ap (λ (t : List ℕ). pos (digits_value 10 t)) all ∙ ap pos is.1 in
    (plus, (subst (λ (t : List ℕ). IsNumeral 10 t) (sym all) is.0, subst (λ (v : ℤ). FitsSigned w64 v) (sym value) fits), sym value)
seconds_again (negsuc n) fits =
    let is = decimal_is_IsNumeral (suc n) (omega arith) in
    let value : signed_digits_value 10 (45 ∷ decimal (suc n)) ≡ negsuc n = ap (λ (k : ℕ). neg_ℤ (pos k)) is.1 in
    (omega arith, (is.0, subst (λ (v : ℤ). FitsSigned w64 v) (sym value) fits), sym value)

space_gone : (name : List ℕ) → without_space (name ++ 32 ∷ []) ≡ name
space_gone name =
    let long = length-append name (32 ∷ []) in
    let some : nat_lt 0 (length (name ++ 32 ∷ [])) ≡ true = lt-ltb 0 _ (omega arith) in
    let place : length (name ++ 32 ∷ []) - 1 ≡ length name = omega arith in
    let last : slice_index (name ++ 32 ∷ []) (length (name ++ 32 ∷ []) - 1) ≡ 32 =
    ap (slice_index (name ++ 32 ∷ [])) place ∙ get_or-append_right name (32 ∷ []) (length name) (length name) 0 refl (omega arith) ∙ ap (λ (j : ℕ). slice_index (32 ∷ []) j) (by (length name - length name ≡ 0) (omega arith)) in
    let test : (nat_lt 0 (length (name ++ 32 ∷ [])) && slice_index (name ++ 32 ∷ []) (length (name ++ 32 ∷ []) - 1) == 32) ≡ true =
    ap (λ (b : Bool). b && slice_index (name ++ 32 ∷ []) (length (name ++ 32 ∷ []) - 1) == 32) some ∙ eq-eqb _ 32 last in
    cond-true _ _ _ test ∙ take_at name (32 ∷ []) (length (name ++ 32 ∷ []) - 1) (sym place)

-- hours and minutes are read again
clock_again : (h m : ℕ) → h < 100 → m < 60 → h * 3600 + m * 60 ≡ zone_seconds (48 + h / 10) (48 + h % 10) (48 + m / 10) (48 + m % 10)
clock_again h m hs ms = omega arith

minutes : (n : ℕ) → n % 60 ≡ 0 → n < 360000 → (n / 60 / 60 < 100) × (n / 60 % 60 < 60) × (n ≡ n / 60 / 60 * 3600 + n / 60 % 60 * 60)
minutes n whole small = (omega arith, omega arith, omega arith)

digit : (n : ℕ) → n < 100 → (48 ≤ 48 + n / 10) × (48 + n / 10 ≤ 57) × (48 ≤ 48 + n % 10) × (48 + n % 10 ≤ 57)
digit n small = (omega arith, omega arith, omega arith, omega arith)

zone_again : (offset : ℤ) → IsWritableOffset offset → IsZone (offset_text offset) offset
zone_again (pos n) w =
    let parts = minutes n w.0 w.1 in
    let h = n / 60 / 60 in
    let m = n / 60 % 60 in
    let hs = digit h parts.0 in
    let ms = digit m (omega (arith, parts.1)) in
    (inl refl, (hs.0, hs.1), (hs.2, hs.3), (ms.0, ms.1), (ms.2, ms.3), ap pos (parts.2 ∙ clock_again h m parts.0 parts.1))
zone_again (negsuc n) w =
    let parts = minutes (n + 1) w.0 w.1 in
    let h = (n + 1) / 60 / 60 in
    let m = (n + 1) / 60 % 60 in
    let hs = digit h parts.0 in
    let ms = digit m (omega (arith, parts.1)) in
    let same : suc n ≡ h * 3600 + m * 60 = by (suc n ≡ n + 1) (omega arith) ∙ parts.2 in
    (inr refl, (hs.0, hs.1), (hs.2, hs.3), (ms.0, ms.1), (ms.2, ms.3), ap (λ (k : ℕ). neg_ℤ (pos k)) (same ∙ clock_again h m parts.0 parts.1))

none_two : (b n : ℕ) (rest : List ℕ) → IsApart b → n < 100 → NoByte b rest → NoByte b (two_digits n ++ rest)
none_two b n rest apart small none =
    let d = digit n small in
    none_cons b (48 + n / 10) ((48 + n % 10) ∷ rest) (apart.digit (48 + n / 10) d.0 d.1) (none_cons b (48 + n % 10) rest (apart.digit (48 + n % 10) d.2 d.3) none)

none_clock : (b n : ℕ) → IsApart b → n % 60 ≡ 0 → n < 360000 → NoByte b (two_digits (n / 60 / 60) ++ two_digits (n / 60 % 60))
none_clock b n apart whole small =
    let parts = minutes n whole small in
    none_two b (n / 60 / 60) (two_digits (n / 60 % 60)) apart parts.0 (none_two b (n / 60 % 60) [] apart (omega (arith, parts.1)) (none_nil b))

none_zone : (b : ℕ) (offset : ℤ) → IsApart b → IsWritableOffset offset → NoByte b (offset_text offset)
none_zone b (pos n) apart w = none_cons b 43 (two_digits (n / 60 / 60) ++ two_digits (n / 60 % 60)) apart.plus (none_clock b n apart w.0 w.1)
none_zone b (negsuc n) apart w = none_cons b 45 (two_digits ((n + 1) / 60 / 60) ++ two_digits ((n + 1) / 60 % 60)) apart.minus (none_clock b (n + 1) apart w.0 w.1)

abbrev time_of : Who → List ℕ
time_of who = signed_decimal who.seconds ++ 32 ∷ offset_text who.offset

module _ (who : Who) (w : CanWrite who) (fits : FitsSigned w64 who.seconds) where
  none_time : (b : ℕ) → IsApart b → 32 ≢ b → NoByte b (32 ∷ time_of who)
  none_time b apart other =
      none_cons b 32 (time_of who) other
      (none_append b (signed_decimal who.seconds) (32 ∷ offset_text who.offset) (none_signed b who.seconds apart fits) (none_cons b 32 (offset_text who.offset) other (none_zone b who.offset apart w.offset)))

  -- a byte below the space is nowhere but in the name and the email
  pub none_signature : (b : ℕ) → b < 32 → NoByte b who.name → NoByte b who.email → NoByte b (signature_text who)
  none_signature b small name email =
      none_append b who.name (32 ∷ 60 ∷ (who.email ++ 62 ∷ 32 ∷ time_of who)) name
      (none_cons b 32 (60 ∷ (who.email ++ 62 ∷ 32 ∷ time_of who)) (omega arith)
      (none_cons b 60 (who.email ++ 62 ∷ 32 ∷ time_of who) (omega arith)
      (none_append b who.email (62 ∷ 32 ∷ time_of who) email (none_cons b 62 (32 ∷ time_of who) (omega arith) (none_time b (below b (omega arith)) (omega arith))))))

  pub signature_again : IsSignature (signature_text who) who
  signature_again = record {
    front = who.name ++ 32 ∷ [];
    behind_name = who.email ++ 62 ∷ 32 ∷ time_of who;
    time = time_of who;
    digits = signed_decimal who.seconds;
    zone = offset_text who.offset;
    name_cut = record { whole = sym (append_assoc who.name (32 ∷ []) (60 ∷ (who.email ++ 62 ∷ 32 ∷ time_of who))); none = none_append 60 who.name (32 ∷ []) w.name.0 (none_cons 60 32 [] (omega arith) (none_nil 60)) };
    name = sym (space_gone who.name);
    email = record { whole = refl; none = none_time 62 (above 62 (omega arith)) (omega arith) };
    time_cut = record { whole = refl; none = none_signed 32 who.seconds (below 32 (omega arith)) fits };
    seconds = seconds_again who.seconds fits;
    offset = zone_again who.offset w.offset;
  }
