-- The hex digits of ids: which texts are read, and what is written.
use Rattle.std.proofs.Common.{◌≡◌, ℕ, ◌*◌, ◌≤◌, ◌⊎◌, inl, inr, Bool, true, false, List, [], ◌∷◌, ◌++◌, length, take, drop, refl, sym, ◌∙◌, ap, subst, Result, Ok, Err, Bor, append_assoc, length-append, arith, nat_lt, ◌<◌}
use Rattle.std.specs.List.{AllPass, take_while, prefix_len, list_all}
use Rattle.std.proofs.lemmas.Bool.{cond-true, cond-false, ltb-true}
use Rattle.std.proofs.lemmas.List.{take-append-drop, take_at}
use Rattle.std.proofs.lemmas.List.Sums.{take_while-cons, list_all-from_AllPass, AllPass-from_list_all}
use Rattle.std.specs.Result.{IsOk, MatchResult}
use Rattle.std.specs.Str.{IsUtf8, IsAscii}
use Rattle.std.proofs.lemmas.Str.{IsUtf8-from_ascii}
use Rattle.std.proofs.lemmas.Str.Ascii.{IsAscii-from_all}
use Rattle.std.proofs.lemmas.List.Elements.{All-nil, All-cons, All-weaker}
use Rattle.hex.specs.Hex.{decode_sized, encode_lower, lower_digits, is_hex_digit}
use Rattle.hex.specs.declared.error.FromHexError.{FromHexError}
use Rattle.hex.proofs.HexLemmas.{IsOk-decode_sized, IsAscii-encode_with, length-encode_with, decode_of-same, decode_of-ok, decode_of-encode_lower}
use Rattle.gix_ref_hash.specs.declared.hash.Kind.{Kind}
use Rattle.gix_ref_hash.specs.declared.hash.ObjectId.{ObjectId}
use Rattle.gix_ref_hash.specs.declared.hash.ObjectId.TheVariants as ids
use Rattle.gix_ref_hash.specs.Ids.{kind_len, id_kind, id_bytes, IsWhole, ReadsId, IsHexOf, IsHex, HexRun}

-- hex digits of the right number are read
pub no_digits : (text : List ℕ) (n : ℕ) (r : Result (List ℕ) FromHexError) {e : FromHexError} → length text ≡ 2 * n → AllPass is_hex_digit text → r ≡ decode_sized text n → r ≡ Err e → ⊥
no_digits text n r len digits is refused =
    let read : IsOk (decode_sized text n) = (IsOk-decode_sized text n).1 (len, digits) in
    let unread = subst IsOk (sym is ∙ refused) read in cc unread

-- the lower-case digits are text
pub digits_are_text : {E : Type 0} (V : E → Type 0) (bytes out : List ℕ) (r : Result (Bor (List ℕ)) E) → out ≡ encode_lower bytes → MatchResult r (λ s. (s.now ≡ out) × IsUtf8 out) (λ e. (IsUtf8 out → ⊥) × V e) → IsOk r
digits_are_text V bytes out (Ok s) is h = refl
digits_are_text V bytes out (Err e) is h =
    let plain : IsAscii lower_digits = IsAscii-from_all lower_digits (All-weaker (λ b. nat_lt b 128 ≡ true) (λ b. b < 128) (λ b h. ltb-true b 128 h) lower_digits (AllPass-from_list_all (λ b. nat_lt b 128) lower_digits refl)) in
    absurd (h.0 (subst IsUtf8 (sym is) (IsUtf8-from_ascii (encode_lower bytes) (IsAscii-encode_with lower_digits bytes plain))))

-- what is after a run of bytes at the front, of which at most k are looked at
run_whole : (p : ℕ → Bool) (k : ℕ) (text : List ℕ) → text ≡ take_while p (take k text) ++ (drop (prefix_len p (take k text)) (take k text) ++ drop k text)
run_whole p k text =
    let m = prefix_len p (take k text) in
    sym (take-append-drop k text)
    ∙ ap (λ v. v ++ drop k text) (sym (take-append-drop m (take k text)))
    ∙ append_assoc (take m (take k text)) (drop m (take k text)) (drop k text)

-- the run is a front
pub run_front : (p : ℕ → Bool) (k : ℕ) (text : List ℕ) → take (length (take_while p (take k text))) text ≡ take_while p (take k text)
run_front p k text =
    ap (take (length (take_while p (take k text)))) (run_whole p k text) ∙ take_at (take_while p (take k text)) _ _ refl

pub run_len : (p : ℕ → Bool) (k : ℕ) (text : List ℕ) → length (take_while p (take k text)) ≤ length text
run_len p k text =
    let whole = ap length (run_whole p k text) in
    omega (arith, whole, length-append (take_while p (take k text)) (drop (prefix_len p (take k text)) (take k text) ++ drop k text))

pub run_passes : (p : ℕ → Bool) (text : List ℕ) → AllPass p (take_while p text)
run_passes p [] = All-nil (λ b. p b ≡ true)
run_passes p (x ∷ text) = go (p x) refl (run_passes p text)
  where
    go : (b : Bool) → p x ≡ b → AllPass p (take_while p text) → AllPass p (take_while p (x ∷ text))
    go true passes rest = subst (AllPass p) (sym (take_while-cons p x text ∙ cond-true (p x) _ _ passes)) (All-cons (λ b. p b ≡ true) x _ passes rest)
    go false stops rest = subst (AllPass p) (sym (take_while-cons p x text ∙ cond-false (p x) _ _ stops)) (All-nil (λ b. p b ≡ true))

-- a run of the length of an id is the digits of one
pub run_is_hex : (text : List ℕ) (n : ℕ) → n ≡ length (take_while is_hex_digit (take 64 text)) → (n ≡ 40) ⊎ (n ≡ 64) → HexRun text (take n text) (drop n text) × IsHex (take n text)
run_is_hex text n is some =
    let run : take n text ≡ take_while is_hex_digit (take 64 text) = ap (λ k. take k text) is ∙ run_front is_hex_digit 64 text in
    let passes : AllPass is_hex_digit (take n text) = subst (AllPass is_hex_digit) (sym run) (run_passes is_hex_digit (take 64 text)) in
    let len : length (take n text) ≡ n = ap length run ∙ sym is in
    (record { whole = sym (take-append-drop n text); run = run }, sized some len passes)
  where
    sized : (n ≡ 40) ⊎ (n ≡ 64) → length (take n text) ≡ n → AllPass is_hex_digit (take n text) → IsHex (take n text)
    sized (inl forty) len passes = inl (record { len = len ∙ forty; digits = passes })
    sized (inr sixty_four) len passes = inr (record { len = len ∙ sixty_four; digits = passes })

-- a front that is not all digits is not those of an id
pub front_not_hex : (kind : Kind) (text front : List ℕ) (n : ℕ) → n ≡ 2 * kind_len kind → front ≡ take n text → list_all is_hex_digit front ≡ false → (digits rest : List ℕ) → IsHexOf kind digits → text ≡ digits ++ rest → ⊥
front_not_hex kind text front n sized is bad digits rest h whole =
    let same : front ≡ digits = is ∙ ap (take n) whole ∙ take_at digits rest n (h.len ∙ sym sized) in
    let good : list_all is_hex_digit front ≡ true = ap (list_all is_hex_digit) same ∙ list_all-from_AllPass is_hex_digit digits h.digits in
    absurd (cc)

-- two ids of one kind with the same bytes are one
same_id : (a b : ObjectId) → kind_len (id_kind a) ≡ kind_len (id_kind b) → id_bytes a ≡ id_bytes b → a ≡ b
same_id (ids.Sha1 x) (ids.Sha1 y) len same = ap ids.Sha1 same
same_id (ids.Sha1 x) (ids.Sha256 y) len same = absurd (omega (arith, len))
same_id (ids.Sha256 x) (ids.Sha1 y) len same = absurd (omega (arith, len))
same_id (ids.Sha256 x) (ids.Sha256 y) len same = ap ids.Sha256 same

-- digits are those of one id at most
pub one_id : (text : List ℕ) (a b : ObjectId) → ReadsId text a → ReadsId text b → a ≡ b
one_id text a b f g =
    let twice : 2 * kind_len (id_kind a) ≡ 2 * kind_len (id_kind b) = sym f.len ∙ g.len in
    same_id a b (omega (arith, twice)) (decode_of-same text (id_bytes a) (id_bytes b) f.digits g.digits)

-- the digits in lower case are those of the id
pub written_reads : (id : ObjectId) → IsWhole id → ReadsId (encode_lower (id_bytes id)) id
written_reads id h = record {
  len = length-encode_with lower_digits (id_bytes id) ∙ ap (λ n. 2 * n) h.len;
  digits = decode_of-encode_lower (id_bytes id) h.bytes;
}

-- what is read is digits, and the id is whole
pub reads_whole : (text : List ℕ) (id : ObjectId) → ReadsId text id → IsHexOf (id_kind id) text × IsWhole id
reads_whole text id h =
    let read = decode_of-ok text (id_bytes id) h.digits in
    let twice : length text ≡ 2 * length (id_bytes id) = read.2 in
    let len : length text ≡ 2 * kind_len (id_kind id) = h.len in
    (record { len = len; digits = read.1 }, record { len = omega arith; bytes = read.3 })
