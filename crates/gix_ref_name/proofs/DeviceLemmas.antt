-- The stem of a component, and texts that are too short or too long for a device.
use Rattle.std.proofs.Common.{◌≡◌, ◌⊎◌, inl, inr, ℕ, suc, ◌<◌, Bool, true, false, ◌||◌, ◌&&◌, List, [], ◌∷◌, ◌++◌, length, map, refl, sym, ◌∙◌, ap, nat_eq, nat_le, arith, if◌then◌else◌}
use Rattle.std.specs.List.{All, list_all, list_any}
use Rattle.std.specs.Char.{to_ascii_lowercase}
use Rattle.std.specs.Str.{str_eq_ignore_ascii_case}
use Rattle.std.specs.Cmp.Lexicographic.{unequal}
use Rattle.std.proofs.lemmas.List.Elements.{All-head, All-tail}
use Rattle.std.proofs.lemmas.Bool.Decides.{nat_tests}
use Rattle.std.proofs.lemmas.List.Splits.{slice_split_none}
use Rattle.gix_ref_hash.specs.Bytes.{NoByte, is_slash, components}
use Rattle.gix_ref_hash.proofs.ByteLemmas.{IsApart, apart}
use Rattle.gix_ref_name.specs.DeviceNames.{devices, stem, is_device, has_device}
use Rattle.gix_ref_name.proofs.PartialNames.{none_or, cut}

stem_before : (before after : List ℕ) → All (IsApart 46) before → stem (before ++ 46 ∷ after) ≡ before
stem_before [] after none = refl
stem_before (b ∷ before) after none =
    ap (λ v. if v then [] else b ∷ stem (before ++ 46 ∷ after)) (All-head (IsApart 46) b before none)
    ∙ ap (λ t. b ∷ t) (stem_before before after (All-tail (IsApart 46) b before none))

stem_all : (text : List ℕ) → All (IsApart 46) text → stem text ≡ text
stem_all [] none = refl
stem_all (b ∷ text) none =
    ap (λ v. if v then [] else b ∷ stem text) (All-head (IsApart 46) b text none)
    ∙ ap (λ t. b ∷ t) (stem_all text (All-tail (IsApart 46) b text none))

pub stem_cut : (text before after : List ℕ) → text ≡ before ++ 46 ∷ after → NoByte 46 before → before ≡ stem text
stem_cut text before after whole none = sym (ap stem whole ∙ stem_before before after (apart 46 before none))

pub stem_whole : (text : List ℕ) → NoByte 46 text → text ≡ stem text
stem_whole text none = sym (stem_all text (apart 46 text none))

-- the length that a device has
abbrev has_length : List ℕ → Bool
has_length d = nat_le 3 (length d) && nat_le (length d) 7

both : (a b : Bool) → (a && b) ≡ true → (a ≡ true) × (b ≡ true)
both true b h = (refl, h)
both false b h = absurd (cc)

length-map_lower : (d : List ℕ) → length (map to_ascii_lowercase d) ≡ length d
length-map_lower [] = refl
length-map_lower (b ∷ d) = ap suc (length-map_lower d)

other_device : (d text : List ℕ) → has_length d ≡ true → (length text < 3) ⊎ (7 < length text) → str_eq_ignore_ascii_case d text ≡ false
other_device d text h out =
    let low : nat_le 3 (length d) ≡ true = (both _ _ h).0 in
    let high : nat_le (length d) 7 ≡ true = (both _ _ h).1 in
    unequal nat_eq (map to_ascii_lowercase d) (map to_ascii_lowercase text)
    (λ e.
    let same : length d ≡ length text = sym (length-map_lower d) ∙ e ∙ length-map_lower text in
    go same low high out)
  where
    go : length d ≡ length text → nat_le 3 (length d) ≡ true → nat_le (length d) 7 ≡ true → (length text < 3) ⊎ (7 < length text) → ⊥
    go same low high (inl short) = grind (arith, nat_tests)
    go same low high (inr long) = grind (arith, nat_tests)

none_among : (ds : List (List ℕ)) (text : List ℕ) → list_all has_length ds ≡ true → (length text < 3) ⊎ (7 < length text) → list_any (λ d. str_eq_ignore_ascii_case d text) ds ≡ false
none_among [] text h out = refl
none_among (d ∷ ds) text h out =
    let parts = both _ _ h in
    none_or _ _ (other_device d text parts.0 out) (none_among ds text parts.1 out)

-- a text of another length is no device
pub no_device : (text : List ℕ) → (length text < 3) ⊎ (7 < length text) → list_any (λ d. str_eq_ignore_ascii_case d text) devices ≡ false
no_device text out = none_among devices text refl out

-- a path by its first component
pub device_cut : (text c n : List ℕ) → text ≡ c ++ 47 ∷ n → NoByte 47 c → has_device text ≡ (is_device c || has_device n)
device_cut text c n whole none = ap (list_any is_device) (ap components whole ∙ cut c n none)

or_false : (a : Bool) → (a || false) ≡ a
or_false true = refl
or_false false = refl

pub device_alone : (c : List ℕ) → NoByte 47 c → has_device c ≡ is_device c
device_alone c none = ap (list_any is_device) (slice_split_none is_slash c (apart 47 c none)) ∙ or_false (is_device c)

pub device_first : (text c n : List ℕ) (r : Bool) → text ≡ c ++ 47 ∷ n → NoByte 47 c → r ≡ is_device c → r ≡ true → true ≡ has_device text
device_first text c n r whole none e here =
    sym (device_cut text c n whole none ∙ ap (λ v. v || has_device n) (sym e ∙ here))

pub device_rest : (text c n : List ℕ) (r : Bool) → text ≡ c ++ 47 ∷ n → NoByte 47 c → r ≡ is_device c → r ≡ false → has_device n ≡ has_device text
device_rest text c n r whole none e other =
    sym (device_cut text c n whole none ∙ ap (λ v. v || has_device n) (sym e ∙ other))
