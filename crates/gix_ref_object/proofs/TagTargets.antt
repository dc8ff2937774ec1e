-- The id that the front of a tag names.
use Rattle.std.proofs.Common.{ℕ, ◌≡◌, ◌≢◌, inl, inr, ◌*◌, ◌<◌, ◌≤◌, Bool, true, false, ◌&&◌, List, [], ◌∷◌, ◌++◌, length, get_or, take, drop, Option, Result, Some, None, Ok, Err, refl, sym, ◌∙◌, ap, arith, codes, nat_eq, eqb, eq-eqb, ne_eqb, if◌then◌else◌}
use Rattle.std.specs.List.{starts_with}
use Rattle.std.specs.Option.{MatchOption}
use Rattle.std.proofs.lemmas.Bool.Decides.{Decides-eqb}
use Rattle.std.proofs.lemmas.List.{drop_more, drop_all}
use Rattle.std.proofs.lemmas.Slice.Eq.{starts_is}
use Rattle.hex.specs.Hex.{decode_of}
use Rattle.hex.specs.declared.error.FromHexError.{FromHexError}
use Rattle.gix_ref_hash.specs.declared.hash.Kind.{Kind}
use Rattle.gix_ref_hash.specs.declared.hash.Kind.TheVariants as kinds
use Rattle.gix_ref_hash.specs.declared.hash.ObjectId.{ObjectId}
use Rattle.gix_ref_hash.specs.declared.hash.ObjectId.TheVariants as ids
use Rattle.gix_ref_hash.specs.Ids.{kind_len, id_kind, id_bytes, IsHex, ReadsId}
use Rattle.gix_ref_hash.proofs.IdLemmas.{reads_whole}
use Rattle.gix_ref_object.specs.Peeling.{id_decoded, id_of_hex, target_of_kind}

-- ---- hex digits
read_with : (kind : Kind) (id : ObjectId) → 2 * kind_len kind ≡ 2 * kind_len (id_kind id) → id_decoded kind (Ok (id_bytes id)) ≡ Some id
read_with kinds.Sha1 (ids.Sha1 bytes) e = refl
read_with kinds.Sha1 (ids.Sha256 bytes) e = absurd (omega (arith, e))
read_with kinds.Sha256 (ids.Sha1 bytes) e = absurd (omega (arith, e))
read_with kinds.Sha256 (ids.Sha256 bytes) e = refl

none_with : (kind : Kind) (e : FromHexError) → id_decoded kind (Err e) ≡ None
none_with kinds.Sha1 e = refl
none_with kinds.Sha256 e = refl

-- digits of that number that are read are those of an id
reads_hex : (kind : Kind) (digits bytes : List ℕ) → length digits ≡ 2 * kind_len kind → decode_of digits ≡ Ok bytes → IsHex digits
reads_hex kinds.Sha1 digits bytes len read =
    inl (reads_whole digits (ids.Sha1 bytes) (record { len = len; digits = read })).0
reads_hex kinds.Sha256 digits bytes len read =
    inr (reads_whole digits (ids.Sha256 bytes) (record { len = len; digits = read })).0

of_length : (kind : Kind) (digits : List ℕ) → length digits ≡ 2 * kind_len kind → id_of_hex kind digits ≡ id_decoded kind (decode_of digits)
of_length kind digits len =
    ap (λ (b : Bool). if b then id_decoded kind (decode_of digits) else None) (eq-eqb (length digits) (2 * kind_len kind) len)

pub id_read : (kind : Kind) (digits : List ℕ) (r : Option ObjectId) → length digits ≡ 2 * kind_len kind → MatchOption r (IsHex digits → ⊥) (ReadsId digits) → r ≡ id_of_hex kind digits
id_read kind digits (Some id) len h =
    sym (of_length kind digits len ∙ ap (id_decoded kind) h.digits ∙ read_with kind id (sym len ∙ h.len))
id_read kind digits None len h = sym (of_length kind digits len ∙ go (decode_of digits) refl)
  where
    go : (r : Result (List ℕ) FromHexError) → decode_of digits ≡ r → id_decoded kind r ≡ None
    go (Ok bytes) read = absurd (h (reads_hex kind digits bytes len read))
    go (Err e) read = none_with kind e

-- ---- the front of a tag
front_is : (bytes : List ℕ) (b : Bool) → starts_with nat_eq bytes (codes "object ") ≡ b → ((rest : List ℕ) → bytes ≢ codes "object " ++ rest) → b ≡ false
front_is bytes true begins never =
    absurd (never (drop 7 bytes) ((starts_is Decides-eqb bytes (codes "object ") (starts_with nat_eq bytes (codes "object ")) refl).0 begins))
front_is bytes false begins never = refl

pub no_front : (kind : Kind) (bytes : List ℕ) → ((rest : List ℕ) → bytes ≢ codes "object " ++ rest) → None ≡ target_of_kind kind bytes
unfolding target_of_kind
no_front kind bytes never =
    sym (ap (λ (b : Bool). if b && starts_with nat_eq (drop (2 * kind_len kind) (drop 7 bytes)) (10 ∷ []) then id_of_hex kind (take (2 * kind_len kind) (drop 7 bytes)) else None) (front_is bytes (starts_with nat_eq bytes (codes "object ")) refl never))

-- after `object `
behind_front : (kind : Kind) (bytes rest : List ℕ) (b : Bool) → bytes ≡ codes "object " ++ rest → starts_with nat_eq (drop (2 * kind_len kind) rest) (10 ∷ []) ≡ b → target_of_kind kind bytes ≡ (if b then id_of_hex kind (take (2 * kind_len kind) rest) else None)
unfolding target_of_kind
behind_front kind bytes rest b whole line =
    ap (λ (v : List ℕ). if starts_with nat_eq v (codes "object ") && starts_with nat_eq (drop (2 * kind_len kind) (drop 7 v)) (10 ∷ []) then id_of_hex kind (take (2 * kind_len kind) (drop 7 v)) else None) whole
    ∙ ap (λ (v : Bool). if v then id_of_hex kind (take (2 * kind_len kind) rest) else None) line

and_true : (a : Bool) → (a && true) ≡ a
and_true true = refl
and_true false = refl

first_byte : (rest : List ℕ) (n : ℕ) → n < length rest → starts_with nat_eq (drop n rest) (10 ∷ []) ≡ eqb 10 (get_or rest n 0)
first_byte rest n within =
    ap (λ v. starts_with nat_eq v (10 ∷ [])) (drop_more rest n 0 within) ∙ and_true (eqb 10 (get_or rest n 0))

pub too_short : (kind : Kind) (bytes rest : List ℕ) (n : ℕ) → n ≡ 2 * kind_len kind → bytes ≡ codes "object " ++ rest → length rest ≤ n → None ≡ target_of_kind kind bytes
too_short kind bytes rest n sized whole short =
    sym (behind_front kind bytes rest false whole (ap (λ v. starts_with nat_eq v (10 ∷ [])) (ap (λ k. drop k rest) (sym sized) ∙ drop_all n rest short)))

pub no_line : (kind : Kind) (bytes rest : List ℕ) (n : ℕ) → n ≡ 2 * kind_len kind → bytes ≡ codes "object " ++ rest → n < length rest → get_or rest n 0 ≢ 10 → None ≡ target_of_kind kind bytes
no_line kind bytes rest n sized whole within other =
    sym (behind_front kind bytes rest false whole (ap (λ k. starts_with nat_eq (drop k rest) (10 ∷ [])) (sym sized) ∙ first_byte rest n within ∙ ne_eqb 10 (get_or rest n 0) (λ same. other (sym same))))

pub a_line : (kind : Kind) (bytes rest : List ℕ) (n : ℕ) → n ≡ 2 * kind_len kind → bytes ≡ codes "object " ++ rest → n < length rest → get_or rest n 0 ≡ 10 → id_of_hex kind (take n rest) ≡ target_of_kind kind bytes
a_line kind bytes rest n sized whole within here =
    ap (λ k. id_of_hex kind (take k rest)) sized
    ∙ sym (behind_front kind bytes rest true whole (ap (λ k. starts_with nat_eq (drop k rest) (10 ∷ [])) (sym sized) ∙ first_byte rest n within ∙ eq-eqb 10 (get_or rest n 0) (sym here)))
