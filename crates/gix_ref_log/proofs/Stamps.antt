-- Signatures that end with `> `, seconds of ten digits, a space and a zone.
use Rattle.std.proofs.Common.{◌≡◌, ◌≢◌, ℕ, ◌+◌, ◌<◌, ⊎_elim, List, [], ◌∷◌, ◌++◌, length, get_or, take, drop, refl, sym, ◌∙◌, ap, subst, arith, ℤ, pos}
use Rattle.std.proofs.lemmas.List.{take-append-drop, drop_more, drop-drop, take_all, length-drop, append_assoc}
use Rattle.gix_ref_hash.specs.Bytes.{NoByte, Cuts}
use Rattle.gix_ref_hash.specs.Digits.{IsNumber}
use Rattle.gix_ref_log.specs.Signatures.{IsSignature, IsSeconds, IsStamp, IsZone, without_space}
use Rattle.gix_ref_log.proofs.NumberLemmas.{number_seconds}
use Rattle.gix_ref_log.proofs.SignaturesAgain.{IsApart, below, above, none_append, none_cons, none_nil, none_digits}

none_zone_text : (b : ℕ) (zone : List ℕ) (n : ℤ) → IsApart b → IsZone zone n → NoByte b zone
none_zone_text b (s ∷ a ∷ c ∷ d ∷ e ∷ []) n apart z =
    let sign : s ≢ b = λ is. ⊎_elim (λ plus. apart.plus (sym plus ∙ is)) (λ minus. apart.minus (sym minus ∙ is)) z.0 in
    none_cons b s (a ∷ c ∷ d ∷ e ∷ []) sign (none_cons b a (c ∷ d ∷ e ∷ []) (apart.digit a z.1.0 z.1.1) (none_cons b c (d ∷ e ∷ []) (apart.digit c z.2.0 z.2.1)
    (none_cons b d (e ∷ []) (apart.digit d z.3.0 z.3.1) (none_cons b e [] (apart.digit e z.4.0 z.4.1) (none_nil b)))))
none_zone_text b [] n apart z = absurd z
none_zone_text b (s ∷ []) n apart z = absurd z
none_zone_text b (s ∷ a ∷ []) n apart z = absurd z
none_zone_text b (s ∷ a ∷ c ∷ []) n apart z = absurd z
none_zone_text b (s ∷ a ∷ c ∷ d ∷ []) n apart z = absurd z
none_zone_text b (s ∷ a ∷ c ∷ d ∷ e ∷ f ∷ rest) n apart z = absurd z

-- a byte, where it is known, and what follows it
step : (text : List ℕ) (i b : ℕ) → i < length text → get_or text i 0 ≡ b → drop i text ≡ b ∷ drop (i + 1) text
step text i b within is = drop_more text i 0 within ∙ ap (λ (c : ℕ). c ∷ drop (i + 1) text) is

parts : (text : List ℕ) → length text ≡ 18 → get_or text 0 0 ≡ 62 → get_or text 1 0 ≡ 32 → get_or text 12 0 ≡ 32 → text ≡ 62 ∷ 32 ∷ (take 10 (drop 2 text) ++ 32 ∷ take 5 (drop 13 text))
parts text len bracket space gap =
    let zone : take 5 (drop 13 text) ≡ drop 13 text = take_all 5 (drop 13 text) (omega (arith, length-drop 13 text)) in
    let end : drop 10 (drop 2 text) ≡ 32 ∷ take 5 (drop 13 text) = drop-drop 10 2 text ∙ step text 12 32 (omega arith) gap ∙ ap (λ (t : List ℕ). 32 ∷ t) (sym zone) in
    let back : drop 2 text ≡ take 10 (drop 2 text) ++ 32 ∷ take 5 (drop 13 text) = sym (take-append-drop 10 (drop 2 text)) ∙ ap (λ (t : List ℕ). take 10 (drop 2 text) ++ t) end in
    step text 0 62 (omega arith) bracket ∙ ap (λ (t : List ℕ). 62 ∷ t) (step text 1 32 (omega arith) space) ∙ ap (λ (t : List ℕ). 62 ∷ 32 ∷ t) back

pub is_stamp : (text : List ℕ) (number : ℕ) (zone seconds offset : ℤ) → seconds ≡ pos number → offset ≡ zone → length text ≡ 18 → get_or text 0 0 ≡ 62 → get_or text 1 0 ≡ 32 → get_or text 12 0 ≡ 32
    → IsNumber (take 10 (drop 2 text)) number → IsZone (take 5 (drop 13 text)) zone → IsStamp text seconds offset
is_stamp text number zone seconds offset seconds_is offset_is len bracket space gap is_number is_zone =
    let space_apart : IsApart 32 = below 32 (omega arith) in
    let bracket_apart : IsApart 62 = above 62 (omega arith) in
    record {
      digits = take 10 (drop 2 text);
      zone = take 5 (drop 13 text);
      whole = parts text len bracket space gap;
      no_space = none_digits 32 (take 10 (drop 2 text)) space_apart is_number.digits.1;
      no_bracket = none_cons 62 32 (take 10 (drop 2 text) ++ 32 ∷ take 5 (drop 13 text)) (omega arith)
          (none_append 62 (take 10 (drop 2 text)) (32 ∷ take 5 (drop 13 text)) (none_digits 62 (take 10 (drop 2 text)) bracket_apart is_number.digits.1) (none_cons 62 32 (take 5 (drop 13 text)) (omega arith) (none_zone_text 62 (take 5 (drop 13 text)) zone bracket_apart is_zone)));
      seconds_are = subst (λ (z : ℤ). IsSeconds (take 10 (drop 2 text)) z) (sym seconds_is) (number_seconds (take 10 (drop 2 text)) number is_number);
      offset_is = subst (λ (z : ℤ). IsZone (take 5 (drop 13 text)) z) (sym offset_is) is_zone;
    }

pub stamped_signature : (text front end name email : List ℕ) (seconds offset : ℤ) → text ≡ front ++ end → Cuts 60 front name email → IsStamp end seconds offset
    → IsSignature text (record { name = without_space name; email = email; seconds = seconds; offset = offset })
stamped_signature text front end name email seconds offset whole cut stamp = record {
  front = name;
  behind_name = email ++ end;
  time = stamp.digits ++ 32 ∷ stamp.zone;
  digits = stamp.digits;
  zone = stamp.zone;
  name_cut = record { whole = whole ∙ ap (λ (t : List ℕ). t ++ end) cut.whole ∙ append_assoc name (60 ∷ email) end; none = cut.none };
  name = refl;
  email = record { whole = ap (λ (t : List ℕ). email ++ t) stamp.whole; none = stamp.no_bracket };
  time_cut = record { whole = refl; none = stamp.no_space };
  seconds = stamp.seconds_are;
  offset = stamp.offset_is;
}
