-- A text is one signature at most: each part is where the decoder finds it.
use Rattle.std.proofs.Common.{◌≡◌, ◌≢◌, ℕ, ℤ, ⊎_elim, true, false, List, [], ◌∷◌, ◌++◌, slice_index, refl, sym, ap, ◌∙◌, subst, arith}
use Rattle.std.specs.Str.{IsAscii, IsUtf8}
use Rattle.std.specs.Str.Parse.{AllDigits, without_leading_sign, starts_with_minus, signed_digits_value}
use Rattle.std.proofs.lemmas.Bool.{cases_Bool, eqb-true, cond-true, cond-false}
use Rattle.std.proofs.lemmas.Str.{IsUtf8-from_ascii}
use Rattle.std.proofs.lemmas.Str.Ascii.{IsAscii-nil, IsAscii-cons}
use Rattle.std.proofs.lemmas.Str.Parse.{digit_from_value, without_leading_plus_none}
use Rattle.gix_ref_hash.specs.Bytes.{NoByte, Cuts, CutsLast}
use Rattle.gix_ref_log.specs.Signatures.{Who, IsSignature, IsSeconds, IsZone, without_space}
use Rattle.gix_ref_hash.proofs.ByteLemmas.{no_split, same_cut}

-- a text that is cut has the byte
pub no_cut : (b : ℕ) (text x y : List ℕ) → NoByte b text → text ≡ x ++ b ∷ y → ⊥
no_cut b text x y none whole = no_split b x y (subst (λ (t : List ℕ). NoByte b t) whole none)

-- a text is cut at its last such byte in one way
last_once : (b : ℕ) (x y v w : List ℕ) → NoByte b y → NoByte b w → x ++ b ∷ y ≡ v ++ b ∷ w → (x ≡ v) × (y ≡ w)
last_once b [] y [] w f g e = (refl, cc)
last_once b [] y (c ∷ v) w f g e = let rest : y ≡ v ++ b ∷ w = cc in absurd (no_cut b y v w f rest)
last_once b (a ∷ x) y [] w f g e = let rest : w ≡ x ++ b ∷ y = cc in absurd (no_cut b w x y g rest)
last_once b (a ∷ x) y (c ∷ v) w f g e =
    let here : a ≡ c = cc in
    let rest : x ++ b ∷ y ≡ v ++ b ∷ w = cc in
    let same = last_once b x y v w f g rest in
    let front : x ≡ v = same.0 in
    (cc, same.1)

pub same_last_cut : (b : ℕ) (text x y v w : List ℕ) → CutsLast b text x y → CutsLast b text v w → (x ≡ v) × (y ≡ w)
same_last_cut b text x y v w f g = last_once b x y v w f.none g.none (sym f.whole ∙ g.whole)

-- digits are text
digits_ascii : (ds : List ℕ) → AllDigits 10 ds → IsAscii ds
digits_ascii [] h = IsAscii-nil
digits_ascii (c ∷ ds) h = let r = digit_from_value c h.0 in IsAscii-cons c ds (omega arith) (digits_ascii ds h.1)

signed_ascii : (text : List ℕ) → slice_index text 0 ≢ 43 → AllDigits 10 (without_leading_sign text) → IsAscii text
signed_ascii [] plus h = IsAscii-nil
signed_ascii (c ∷ ds) plus h = ⊎_elim
    (λ (minus : starts_with_minus (c ∷ ds) ≡ true).
    let is : c ≡ 45 = eqb-true c 45 minus in
    let rest : AllDigits 10 ds = subst (λ (t : List ℕ). AllDigits 10 t) (cond-true _ _ _ minus) h in
    IsAscii-cons c ds (omega arith) (digits_ascii ds rest))
    (λ (no : starts_with_minus (c ∷ ds) ≡ false).
    let all : without_leading_sign (c ∷ ds) ≡ c ∷ ds = cond-false _ _ _ no ∙ without_leading_plus_none (c ∷ ds) plus in
    digits_ascii (c ∷ ds) (subst (λ (t : List ℕ). AllDigits 10 t) all h))
    (cases_Bool (starts_with_minus (c ∷ ds)))

pub seconds_utf8 : (text : List ℕ) (n : ℤ) → IsSeconds text n → IsUtf8 text
seconds_utf8 text n h = IsUtf8-from_ascii text (signed_ascii text h.0 h.1.0.1)

module _ (text : List ℕ) (who : Who) (w : IsSignature text who) (f b : List ℕ) (name : Cuts 60 text f b) where
  pub same_behind : w.behind_name ≡ b
  same_behind = (same_cut 60 text w.front w.behind_name f b w.name_cut name).1

  module _ (e a : List ℕ) (email : CutsLast 62 b e a) where
    pub same_after : 32 ∷ w.time ≡ a
    same_after = (same_last_cut 62 b who.email (32 ∷ w.time) e a (subst (λ (t : List ℕ). CutsLast 62 t who.email (32 ∷ w.time)) same_behind w.email) email).1

    pub same_time : (s : ℕ) (t : List ℕ) → a ≡ s ∷ t → w.time ≡ t
    same_time s t is = let e = same_after in cc

    pub same_digits : (s : ℕ) (t d z : List ℕ) → a ≡ s ∷ t → Cuts 32 t d z → (w.digits ≡ d) × (w.zone ≡ z)
    same_digits s t d z is cut = same_cut 32 t w.digits w.zone d z (subst (λ (x : List ℕ). Cuts 32 x w.digits w.zone) (same_time s t is) w.time_cut) cut

one_zone : (zone : List ℕ) (n m : ℤ) → IsZone zone n → IsZone zone m → n ≡ m
one_zone (sign ∷ a ∷ b ∷ c ∷ d ∷ []) n m f g = f.5 ∙ sym g.5
one_zone [] n m f g = absurd f
one_zone (sign ∷ []) n m f g = absurd f
one_zone (sign ∷ a ∷ []) n m f g = absurd f
one_zone (sign ∷ a ∷ b ∷ []) n m f g = absurd f
one_zone (sign ∷ a ∷ b ∷ c ∷ []) n m f g = absurd f
one_zone (sign ∷ a ∷ b ∷ c ∷ d ∷ e ∷ rest) n m f g = absurd f

who_is : (a b : Who) → a.name ≡ b.name → a.email ≡ b.email → a.seconds ≡ b.seconds → a.offset ≡ b.offset → a ≡ b
who_is a b n e s o =
    ap (λ (x : List ℕ). let w : Who = record { name = x; email = a.email; seconds = a.seconds; offset = a.offset } in w) n
    ∙ ap (λ (x : List ℕ). let w : Who = record { name = b.name; email = x; seconds = a.seconds; offset = a.offset } in w) e
    ∙ ap (λ (x : ℤ). let w : Who = record { name = b.name; email = b.email; seconds = x; offset = a.offset } in w) s
    ∙ ap (λ (x : ℤ). let w : Who = record { name = b.name; email = b.email; seconds = b.seconds; offset = x } in w) o

-- a signature is of one person at one time
pub one_who : (text : List ℕ) (a b : Who) → IsSignature text a → IsSignature text b → a ≡ b
one_who text a b f g =
    let front = (same_cut 60 text f.front f.behind_name g.front g.behind_name f.name_cut g.name_cut).0 in
    let behind = same_behind text a f g.front g.behind_name g.name_cut in
    let email = (same_last_cut 62 g.behind_name a.email (32 ∷ f.time) b.email (32 ∷ g.time) (subst (λ (t : List ℕ). CutsLast 62 t a.email (32 ∷ f.time)) behind f.email) g.email).0 in
    let parts = same_digits text a f g.front g.behind_name g.name_cut b.email (32 ∷ g.time) g.email 32 g.time g.digits g.zone refl g.time_cut in
    let seconds = f.seconds.2 ∙ ap (λ (t : List ℕ). signed_digits_value 10 t) parts.0 ∙ sym g.seconds.2 in
    who_is a b (f.name ∙ ap without_space front ∙ sym g.name) email seconds (one_zone g.zone a.offset b.offset (subst (λ (t : List ℕ). IsZone t a.offset) parts.1 f.offset) g.offset)
