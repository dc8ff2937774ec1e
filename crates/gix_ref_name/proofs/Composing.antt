-- What the composed and the decomposed form of a name are, case by case.
use Rattle.std.proofs.Common.{◌≡◌, ℕ, Bool, true, false, ◌&&◌, List, refl, sym, ◌∙◌, ap, Option, Some, None, encode_utf8_all, if◌then◌else◌}
use Rattle.std.specs.Option.{is_none}
use Rattle.std.specs.Str.{is_utf8, IsUtf8, IsAscii}
use Rattle.std.proofs.lemmas.Str.{chars-IsAscii, IsUtf8-from_is_utf8, is_utf8-from_IsUtf8}
use Rattle.std.proofs.lemmas.Str.Ascii.{encodes-IsAscii, All-from_ascii}
use Rattle.unicode_normalization.specs.Forms.{nfc, nfd, Nfc, Nfd}
use Rattle.unicode_normalization.proofs.FormsLemmas.{normalize-ascii}
use Rattle.gix_ref_name.specs.declared.name.error.Error.{Error}
use Rattle.gix_ref_name.specs.NameGrammar.{partial_error, full_error}
use Rattle.gix_ref_name.specs.ComposedNames.{nfc_bytes, nfd_bytes, composed, decomposed}

-- the choice between a name and its form
abbrev chosen : Bool → Option Error → (form name : List ℕ) → List ℕ
chosen text error form name = if text && is_none error then form else name

same_choice : (text : Bool) (error : Option Error) (form name : List ℕ) → form ≡ name → chosen text error form name ≡ name
same_choice true None form name e = e
same_choice true (Some x) form name e = refl
same_choice false error form name e = refl

no_text : (name : List ℕ) → (IsUtf8 name → ⊥) → is_utf8 name ≡ false
no_text name never = go (is_utf8 name) refl
  where
    go : (b : Bool) → is_utf8 name ≡ b → is_utf8 name ≡ false
    go true text = absurd (never (IsUtf8-from_is_utf8 name text))
    go false other = other

bad_choice : (text : Bool) (error : Option Error) (x : Error) (form name : List ℕ) → error ≡ Some x → chosen text error form name ≡ name
bad_choice text None x form name e = absurd (cc)
bad_choice true (Some y) x form name e = refl
bad_choice false (Some y) x form name e = refl

good_choice : (text : Bool) (error : Option Error) (form name : List ℕ) → text ≡ true → error ≡ None → chosen text error form name ≡ form
good_choice true None form name t e = refl
good_choice true (Some x) form name t e = absurd (cc)
good_choice false error form name t e = absurd (cc)

-- ---- NFC
pub composed_same : (p : List ℕ) → nfc_bytes p ≡ p → composed p ≡ p
unfolding composed
composed_same p e = same_choice (is_utf8 p) (partial_error (nfc_bytes p)) (nfc_bytes p) p e

pub composed_ascii : (p : List ℕ) → IsAscii p → composed p ≡ p
composed_ascii p ascii =
    composed_same p (ap (λ v. encode_utf8_all (nfc v)) (chars-IsAscii p ascii) ∙ ap encode_utf8_all (normalize-ascii Nfc p (All-from_ascii p ascii)) ∙ encodes-IsAscii p ascii)

pub composed_other : (p : List ℕ) → (IsUtf8 p → ⊥) → composed p ≡ p
unfolding composed
composed_other p never =
    ap (λ b. chosen b (partial_error (nfc_bytes p)) (nfc_bytes p) p) (no_text p never)

pub composed_bad : (p form : List ℕ) (x : Error) → form ≡ nfc_bytes p → partial_error form ≡ Some x → composed p ≡ p
unfolding composed
composed_bad p form x is bad =
    bad_choice (is_utf8 p) (partial_error (nfc_bytes p)) x (nfc_bytes p) p (ap partial_error (sym is) ∙ bad)

pub composed_form : (p form : List ℕ) → IsUtf8 p → form ≡ nfc_bytes p → partial_error form ≡ None → composed p ≡ form
unfolding composed
composed_form p form text is valid =
    good_choice (is_utf8 p) (partial_error (nfc_bytes p)) (nfc_bytes p) p (is_utf8-from_IsUtf8 p text) (ap partial_error (sym is) ∙ valid)
    ∙ sym is

-- ---- NFD
pub decomposed_ascii : (n : List ℕ) → IsAscii n → decomposed n ≡ n
unfolding decomposed
decomposed_ascii n ascii =
    same_choice (is_utf8 n) (full_error (nfd_bytes n)) (nfd_bytes n) n
    (ap (λ v. encode_utf8_all (nfd v)) (chars-IsAscii n ascii) ∙ ap encode_utf8_all (normalize-ascii Nfd n (All-from_ascii n ascii)) ∙ encodes-IsAscii n ascii)

pub decomposed_other : (n : List ℕ) → (IsUtf8 n → ⊥) → decomposed n ≡ n
unfolding decomposed
decomposed_other n never =
    ap (λ b. chosen b (full_error (nfd_bytes n)) (nfd_bytes n) n) (no_text n never)

pub decomposed_bad : (n form : List ℕ) (x : Error) → form ≡ nfd_bytes n → full_error form ≡ Some x → decomposed n ≡ n
unfolding decomposed
decomposed_bad n form x is bad =
    bad_choice (is_utf8 n) (full_error (nfd_bytes n)) x (nfd_bytes n) n (ap full_error (sym is) ∙ bad)

pub decomposed_form : (n form : List ℕ) → IsUtf8 n → form ≡ nfd_bytes n → full_error form ≡ None → decomposed n ≡ form
unfolding decomposed
decomposed_form n form text is valid =
    good_choice (is_utf8 n) (full_error (nfd_bytes n)) (nfd_bytes n) n (is_utf8-from_IsUtf8 n text) (ap full_error (sym is) ∙ valid)
    ∙ sym is
