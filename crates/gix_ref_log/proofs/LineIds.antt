-- The id in front of a line is where the decoder looks for it.
use Rattle.std.proofs.Common.{◌≡◌, ◌≢◌, ℕ, ◌+◌, ◌-◌, ◌<◌, ◌≤◌, ◌⊎◌, inl, inr, ⊎_elim, true, false, List, ◌∷◌, ◌++◌, length, slice_index, take, drop, refl, sym, ◌∙◌, ap, subst, arith}
use Rattle.std.specs.List.{list_all}
use Rattle.std.proofs.lemmas.List.{get_or_at, get_or_append_left, length-append, take_at, take-append-drop, drop_more, length-take-le, take_all, length-drop}
use Rattle.hex.specs.Hex.{is_hex_digit}
use Rattle.gix_ref_hash.specs.Bytes.{Cuts}
use Rattle.gix_ref_hash.proofs.ByteLemmas.{same_cut}
use Rattle.gix_ref_hash.proofs.IdDigits.{id_length, id_digits, id_text, no_byte_in_id}
use Rattle.gix_ref_log.specs.LogIds.{IdFront, IsIdPlace}

pub id_cuts : (text id rest : List ℕ) → IdFront text id rest → Cuts 32 text id rest
id_cuts text id rest h = record { whole = h.1; none = no_byte_in_id 32 id refl h.0 }

-- at most one id is in front
pub same_id : (text p i q j : List ℕ) → IdFront text p i → IdFront text q j → (p ≡ q) × (i ≡ j)
same_id text p i q j f g = same_cut 32 text p i q j (id_cuts text p i f) (id_cuts text q j g)

-- the space after the id
space_at : (text id rest : List ℕ) → text ≡ id ++ 32 ∷ rest → (length id < length text) × (slice_index text (length id) ≡ 32)
space_at text id rest whole =
    let long = length-append id (32 ∷ rest) in
    let len : length text ≡ length (id ++ 32 ∷ rest) = ap length whole in
    (omega arith, ap (λ (t : List ℕ). slice_index t (length id)) whole ∙ get_or_at id 32 rest 0 (length id) refl)

-- no earlier byte of the id is a space
pub id_place : (text id rest : List ℕ) (place : ℕ) → IsIdPlace text place → IdFront text id rest → length id ≡ place
id_place text id rest place (inl p) h = ⊎_elim
    (λ (len : length id ≡ 40). len ∙ sym p.0)
    (λ (len : length id ≡ 64).
    let here : slice_index id 40 ≡ 32 = sym (get_or_append_left id (32 ∷ rest) 0 40 (omega arith)) ∙ ap (λ (t : List ℕ). slice_index t 40) (sym h.1) ∙ p.2 in
    absurd (no_byte_in_id 32 id refl h.0 40 (omega arith) here))
    (id_length id h.0)
id_place text id rest place (inr p) h = ⊎_elim
    (λ (len : length id ≡ 40).
    let at = space_at text id rest h.1 in
    let there : slice_index text 40 ≡ 32 = ap (slice_index text) (sym len) ∙ at.1 in
    let within = at.0 in
    absurd (p.1 (omega arith) there))
    (λ (len : length id ≡ 64). len ∙ sym p.0)
    (id_length id h.0)

pub place_is : (text : List ℕ) (place : ℕ) → IsIdPlace text place → (place ≡ 40) ⊎ (place ≡ 64)
place_is text place (inl p) = inl p.0
place_is text place (inr p) = inr p.0

-- the text is too short, or another byte is there
pub no_space : (text : List ℕ) (place : ℕ) → IsIdPlace text place → (length text ≤ place) ⊎ (slice_index text place ≢ 32) → (id rest : List ℕ) → IdFront text id rest → ⊥
no_space text place at (inl short) id rest h =
    let within = (space_at text id rest h.1).0 in
    let len = id_place text id rest place at h in
    absurd (omega arith)
no_space text place at (inr other) id rest h =
    let there = (space_at text id rest h.1).1 in
    let len = id_place text id rest place at h in
    other (ap (slice_index text) (sym len) ∙ there)

-- the digits before the place are no digits
pub no_digits : (text : List ℕ) (place : ℕ) → IsIdPlace text place → list_all is_hex_digit (take place text) ≡ false → (id rest : List ℕ) → IdFront text id rest → ⊥
no_digits text place at bad id rest h =
    let len = id_place text id rest place at h in
    let front : take place text ≡ id = ap (take place) h.1 ∙ take_at id (32 ∷ rest) place len in
    let good = id_digits id h.0 in
    let also : list_all is_hex_digit id ≡ false = subst (λ (t : List ℕ). list_all is_hex_digit t ≡ false) front bad in
    absurd (cc)

-- an id is in front
pub front_is : (text : List ℕ) (place : ℕ) → IsIdPlace text place → place < length text → slice_index text place ≡ 32 → list_all is_hex_digit (take place text) ≡ true
    → IdFront text (take place text) (take (length text - (place + 1)) (drop (place + 1) text))
front_is text place at within space digits =
    let len = length-take-le place text (omega arith) in
    let left = length-drop (place + 1) text in
    let all : take (length text - (place + 1)) (drop (place + 1) text) ≡ drop (place + 1) text = take_all (length text - (place + 1)) (drop (place + 1) text) (omega arith) in
    let sized : (length (take place text) ≡ 40) ⊎ (length (take place text) ≡ 64) = ⊎_elim (λ (a : place ≡ 40). inl (len ∙ a)) (λ (b : place ≡ 64). inr (len ∙ b)) (place_is text place at) in (
      id_text (take place text) sized digits,
      sym (take-append-drop place text)
          ∙ ap (λ (t : List ℕ). take place text ++ t) (drop_more text place 0 within ∙ ap (λ (b : ℕ). b ∷ drop (place + 1) text) space ∙ ap (λ (t : List ℕ). 32 ∷ t) (sym all)),
    )
