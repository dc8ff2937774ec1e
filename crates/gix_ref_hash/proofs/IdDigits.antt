-- Ids as texts: 40 or 64 hex digits, by the test and by the kind.
use Rattle.std.proofs.Common.{◌≡◌, ℕ, ◌⊎◌, inl, inr, ⊎_elim, true, false, Bool, ◌==◌, ◌||◌, ◌&&◌, List, length, slice_index, refl, subst}
use Rattle.std.specs.List.{list_all}
use Rattle.std.proofs.lemmas.Bool.{eqb-true, eq-eqb}
use Rattle.std.proofs.lemmas.List.Elements.{All-get_or}
use Rattle.std.proofs.lemmas.List.Sums.{AllPass-from_list_all, list_all-from_AllPass}
use Rattle.hex.specs.Hex.{is_hex_digit}
use Rattle.gix_ref_hash.specs.declared.hash.Kind.{Kind}
use Rattle.gix_ref_hash.specs.declared.hash.Kind.TheVariants as kinds
use Rattle.gix_ref_hash.specs.Bytes.{NoByte}
use Rattle.gix_ref_hash.specs.Ids.{IsHexOf, IsHex, IsIdText}

and_both : (a b : Bool) → (a && b) ≡ true → (a ≡ true) × (b ≡ true)
and_both true b h = (refl, h)
and_both false b h = absurd (cc)

or_either : (a b : Bool) → (a || b) ≡ true → (a ≡ true) ⊎ (b ≡ true)
or_either true b h = inl refl
or_either false b h = inr h

both_and : (a b : Bool) → a ≡ true → b ≡ true → (a && b) ≡ true
both_and true b h k = k
both_and false b h k = absurd (cc)

either_or_left : (a b : Bool) → a ≡ true → (a || b) ≡ true
either_or_left true b h = refl
either_or_left false b h = absurd (cc)

either_or_right : (a b : Bool) → b ≡ true → (a || b) ≡ true
either_or_right true b h = refl
either_or_right false b h = h

pub id_length : (id : List ℕ) → IsIdText id → (length id ≡ 40) ⊎ (length id ≡ 64)
id_length id h = ⊎_elim (λ (a : (length id == 40) ≡ true). inl (eqb-true _ _ a)) (λ (b : (length id == 64) ≡ true). inr (eqb-true _ _ b)) (or_either _ _ (and_both _ _ h).0)

pub id_digits : (id : List ℕ) → IsIdText id → list_all is_hex_digit id ≡ true
id_digits id h = (and_both ((length id == 40) || (length id == 64)) _ h).1

pub id_text : (id : List ℕ) → (length id ≡ 40) ⊎ (length id ≡ 64) → list_all is_hex_digit id ≡ true → IsIdText id
id_text id (inl len) digits = both_and _ _ (either_or_left (length id == 40) (length id == 64) (eq-eqb _ _ len)) digits
id_text id (inr len) digits = both_and _ _ (either_or_right (length id == 40) (length id == 64) (eq-eqb _ _ len)) digits

pub hex_id : (id : List ℕ) → IsHex id → IsIdText id
hex_id id (inl h) = id_text id (inl h.len) (list_all-from_AllPass is_hex_digit id h.digits)
hex_id id (inr h) = id_text id (inr h.len) (list_all-from_AllPass is_hex_digit id h.digits)

-- a byte that is no hex digit is not in an id
pub no_byte_in_id : (b : ℕ) (id : List ℕ) → is_hex_digit b ≡ false → IsIdText id → NoByte b id
no_byte_in_id b id other h k within = λ is.
    let hex : is_hex_digit (slice_index id k) ≡ true = All-get_or (λ c. is_hex_digit c ≡ true) id k 0 within (AllPass-from_list_all is_hex_digit id (id_digits id h)) in
    let bad : is_hex_digit b ≡ true = subst (λ (c : ℕ). is_hex_digit c ≡ true) is hex in cc

-- the digits of an id of one kind pass the test
pub kind_text : (kind : Kind) (id : List ℕ) → IsHexOf kind id → IsIdText id
kind_text kinds.Sha1 id h = hex_id id (inl h)
kind_text kinds.Sha256 id h = hex_id id (inr h)
