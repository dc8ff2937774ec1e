-- Names that keep all rules by what each two of their bytes in a row are, read from a table.
use Rattle.std.proofs.Common.{◌≡◌, ℕ, zero, suc, ◌+◌, ◌-◌, ◌*◌, ◌%◌, ◌^◌, ◌<◌, ◌≤◌, ◌==◌, Bool, true, false, not, ◌||◌, ◌&&◌, List, [], ◌∷◌, length, take, drop, get_or, refl, sym, ◌∙◌, ap, Some, None, codes, nat_eq, cond, eqb, eq-eqb, eqb-true, bit_and, bit_or, arith, inl, inr}
use Rattle.std.specs.List.{list_any, find, ends_with, onto_first}
use Rattle.std.specs.Bool.{OnTrue}
use Rattle.std.specs.Cmp.Lexicographic.{pointwise}
use Rattle.std.proofs.lemmas.Bool.{cases_eq}
use Rattle.std.proofs.lemmas.List.{drop_more, drop_all}
use Rattle.std.proofs.lemmas.Nat.{and_le_l}
use lib.Bits.{or_add_and, and_le_r}
use Rattle.gix_ref_name.specs.declared.name.grammar.TheConstants.{LETTERS}
use Rattle.gix_ref_hash.specs.Bytes.{occurs, components}
use Rattle.gix_ref_name.specs.NameGrammar.{is_invalid, is_dotted, is_locked, IsPartialName}
use Rattle.gix_ref_name.proofs.PartialNames.{name_of_rules, last-cons, or_none, none_or}

-- what the table has for a byte
abbrev pub letter : ℕ → ℕ
letter b = get_or LETTERS b 0

-- a byte of this letter may follow one of that letter
abbrev pub fits : ℕ → ℕ → Bool
fits before here = bit_and here (before * 2 ^ 4 % 2 ^ 8) == 0

abbrev pub ends : ℕ → Bool
ends before = bit_and before 7 == 0

-- after a byte of this letter each byte of the text may be where it is, and so may the end
abbrev pub fits_on : ℕ → List ℕ → Bool
fits_on before [] = ends before
fits_on before (b ∷ n) = fits before (letter b) && fits_on (letter b) n

-- ---- the table, by computing
abbrev pub all_below : (ℕ → Bool) → ℕ → Bool
all_below f zero = true
all_below f (suc n) = f n && all_below f n

both : (a b : Bool) → (a && b) ≡ true → (a ≡ true) × (b ≡ true)
both true b h = (refl, h)
both false b h = absurd (cc)

clash : {A : Type 0} (v : Bool) → v ≡ true → v ≡ false → A
clash v on off = let same : true ≡ false = sym on ∙ off in absurd (cc)

not_true : (v : Bool) → not v ≡ true → v ≡ false
not_true true h = absurd (cc)
not_true false h = refl

pub at_below : (f : ℕ → Bool) (n : ℕ) → all_below f n ≡ true → (b : ℕ) → b < n → f b ≡ true
at_below f zero h b lt = absurd (omega arith)
at_below f (suc n) h b lt =
    let parts = both (f n) (all_below f n) h in
    elim (cases_eq b n) [ inl same ↦ rw same parts.0 | inr other ↦ at_below f n parts.1 b (omega arith) ]

-- a byte that no name has, or `@`
abbrev is_never : ℕ → Bool
is_never b = is_invalid b || (b == 64)

never_letter : (b : ℕ) → b < 256 → cond (is_never b) (letter b == 68) true ≡ true
never_letter = at_below (λ b. cond (is_never b) (letter b == 68) true) 256 refl

none_behind_never : (b : ℕ) → b < 256 → not (fits 68 (letter b)) ≡ true
none_behind_never = at_below (λ b. not (fits 68 (letter b))) 256 refl

-- no byte that may come before what follows it is one that no name has, or `@`
allowed : (b : ℕ) (n : List ℕ) → ((k : ℕ) → get_or (b ∷ n) k 0 < 256) → fits_on (letter b) n ≡ true → is_never b ≡ false
allowed b n bytes h = go (is_never b) refl n bytes h
  where
    go : (v : Bool) → is_never b ≡ v → (n : List ℕ) → ((k : ℕ) → get_or (b ∷ n) k 0 < 256) → fits_on (letter b) n ≡ true → v ≡ false
    go false is n bytes h = refl
    go true is [] bytes h =
        let l : letter b ≡ 68 = eqb-true _ _ (ap (λ v. cond v (letter b == 68) true) (sym is) ∙ never_letter b (bytes 0)) in
        clash (ends 68) (ap ends (sym l) ∙ h) refl
    go true is (c ∷ n) bytes h =
        let l : letter b ≡ 68 = eqb-true _ _ (ap (λ v. cond v (letter b == 68) true) (sym is) ∙ never_letter b (bytes 0)) in
        clash (fits 68 (letter c)) (ap (λ p. fits p (letter c)) (sym l) ∙ (both _ _ h).0) (not_true _ (none_behind_never c (bytes 1)))

-- ---- pairs
abbrev pair : ℕ → ℕ → List ℕ
pair a b = a ∷ b ∷ []

-- bytes that may not be side by side are not
no_pair : (a b : ℕ) → fits (letter a) (letter b) ≡ false → (x : ℕ) (n : List ℕ) → fits_on (letter x) n ≡ true → occurs (pair a b) (x ∷ n) ≡ false
no_pair a b clashes x [] h = none_or (eqb a x && false) false (and_false (eqb a x)) refl
  where
    and_false : (v : Bool) → (v && false) ≡ false
    and_false true = refl
    and_false false = refl
no_pair a b clashes x (y ∷ n) h =
    let parts = both (fits (letter x) (letter y)) (fits_on (letter y) n) h in
    none_or (eqb a x && (eqb b y && true)) _ (go (eqb a x) (eqb b y) refl refl parts.0) (no_pair a b clashes y n parts.1)
  where
    go : (u v : Bool) → eqb a x ≡ u → eqb b y ≡ v → fits (letter x) (letter y) ≡ true → (u && (v && true)) ≡ false
    go true true p q fit =
        let same : fits (letter a) (letter b) ≡ fits (letter x) (letter y) = ap (λ v. fits (letter v) (letter b)) (eqb-true a x p) ∙ ap (λ v. fits (letter x) (letter v)) (eqb-true b y q) in
        clash _ (same ∙ fit) clashes
    go true false p q fit = refl
    go false v p q fit = refl

-- ---- components
abbrev front_of : List (List ℕ) → List ℕ
front_of [] = []
front_of (c ∷ more) = c

abbrev behind_front : List (List ℕ) → List (List ℕ)
behind_front [] = []
behind_front (c ∷ more) = more

front_longer : (x : ℕ) (cs : List (List ℕ)) → front_of (onto_first x cs) ≡ x ∷ front_of cs
front_longer x [] = refl
front_longer x (c ∷ more) = refl

behind_longer : (x : ℕ) (cs : List (List ℕ)) → behind_front (onto_first x cs) ≡ behind_front cs
behind_longer x [] = refl
behind_longer x (c ∷ more) = refl

-- the parts of a text after its first byte
components-cons : (x : ℕ) (n : List ℕ) (v : Bool) → eqb x 47 ≡ v → components (x ∷ n) ≡ cond v ([] ∷ components n) (onto_first x (components n))
components-cons x n v is = ap (λ t. cond t ([] ∷ components n) (onto_first x (components n))) is

-- the byte with which the first component begins is that with which the text begins
front_begins : (b : ℕ) (n : List ℕ) → pointwise nat_eq (b ∷ []) (take 1 n) ≡ false → pointwise nat_eq (b ∷ []) (take 1 (front_of (components n))) ≡ false
front_begins b [] h = refl
front_begins b (y ∷ n) h = go (eqb y 47) refl
  where
    go : (v : Bool) → eqb y 47 ≡ v → pointwise nat_eq (b ∷ []) (take 1 (front_of (components (y ∷ n)))) ≡ false
    go true is = ap (λ cs. pointwise nat_eq (b ∷ []) (take 1 (front_of cs))) (components-cons y n true is)
    go false is =
        ap (λ cs. pointwise nat_eq (b ∷ []) (take 1 (front_of cs))) (components-cons y n false is)
        ∙ ap (λ c. pointwise nat_eq (b ∷ []) (take 1 c)) (front_longer y (components n))
        ∙ h

-- of the parts, the front and the others
any_parts : (P : List ℕ → Bool) (cs : List (List ℕ)) → P (front_of cs) ≡ false → list_any P (behind_front cs) ≡ false → list_any P cs ≡ false
any_parts P [] h k = refl
any_parts P (c ∷ more) h k = none_or (P c) (list_any P more) h k

any_behind : (P : List ℕ → Bool) (cs : List (List ℕ)) → list_any P cs ≡ false → list_any P (behind_front cs) ≡ false
any_behind P [] h = refl
any_behind P (c ∷ more) h = (or_none (P c) (list_any P more) h).1

-- where no dot follows a slash, only the first component may begin with one
only_front_dotted : (n : List ℕ) → occurs (pair 47 46) n ≡ false → list_any is_dotted (behind_front (components n)) ≡ false
only_front_dotted [] h = refl
only_front_dotted (x ∷ n) h =
    let parts = or_none (eqb 47 x && pointwise nat_eq (46 ∷ []) (take 1 n)) (occurs (pair 47 46) n) h in
    go (eqb x 47) refl parts.0 (only_front_dotted n parts.1)
  where
    go : (v : Bool) → eqb x 47 ≡ v → (eqb 47 x && pointwise nat_eq (46 ∷ []) (take 1 n)) ≡ false → list_any is_dotted (behind_front (components n)) ≡ false → list_any is_dotted (behind_front (components (x ∷ n))) ≡ false
    go true is here behind =
        let slash : eqb 47 x ≡ true = eq-eqb 47 x (sym (eqb-true x 47 is)) in
        let no_dot : pointwise nat_eq (46 ∷ []) (take 1 n) ≡ false = sym (ap (λ v. v && pointwise nat_eq (46 ∷ []) (take 1 n)) slash) ∙ here in
        ap (λ cs. list_any is_dotted (behind_front cs)) (components-cons x n true is)
        ∙ any_parts is_dotted (components n) (front_begins 46 n no_dot) behind
    go false is here behind =
        ap (λ cs. list_any is_dotted (behind_front cs)) (components-cons x n false is)
        ∙ ap (list_any is_dotted) (behind_longer x (components n))
        ∙ behind

-- a pair that is not in the text is in no component
none_inside : (a b : ℕ) (n : List ℕ) → occurs (pair a b) n ≡ false → list_any (occurs (pair a b)) (components n) ≡ false
none_inside a b [] h = refl
none_inside a b (x ∷ n) h =
    let parts = or_none (eqb a x && pointwise nat_eq (b ∷ []) (take 1 n)) (occurs (pair a b) n) h in
    go (eqb x 47) refl parts.0 (none_inside a b n parts.1)
  where
    front : (cs : List (List ℕ)) → list_any (occurs (pair a b)) cs ≡ false → occurs (pair a b) (front_of cs) ≡ false
    front [] k = refl
    front (c ∷ more) k = (or_none (occurs (pair a b) c) (list_any (occurs (pair a b)) more) k).0

    apart : (u v w : Bool) → (u && v) ≡ false → (v ≡ false → w ≡ false) → (u && w) ≡ false
    apart true v w e f = f e
    apart false v w e f = refl

    go : (v : Bool) → eqb x 47 ≡ v → (eqb a x && pointwise nat_eq (b ∷ []) (take 1 n)) ≡ false → list_any (occurs (pair a b)) (components n) ≡ false → list_any (occurs (pair a b)) (components (x ∷ n)) ≡ false
    go true is here inside = ap (list_any (occurs (pair a b))) (components-cons x n true is) ∙ inside
    go false is here inside =
        ap (list_any (occurs (pair a b))) (components-cons x n false is)
        ∙ any_parts (occurs (pair a b)) (onto_first x (components n))
        (ap (occurs (pair a b)) (front_longer x (components n))
        ∙ none_or (eqb a x && pointwise nat_eq (b ∷ []) (take 1 (front_of (components n)))) _
        (apart (eqb a x) (pointwise nat_eq (b ∷ []) (take 1 n)) _ here (front_begins b n)) (front (components n) inside))
        (ap (list_any (occurs (pair a b))) (behind_longer x (components n)) ∙ any_behind (occurs (pair a b)) (components n) inside)

-- what ends with `.lock` has the pair of a dot and `l`
occurs_behind : (p : List ℕ) (k : ℕ) (c : List ℕ) → occurs p (drop k c) ≡ true → occurs p c ≡ true
occurs_behind p zero c h = h
occurs_behind p (suc k) [] h = h
occurs_behind p (suc k) (x ∷ c) h = or_right _ _ (occurs_behind p k c h)
  where
    or_right : (u v : Bool) → v ≡ true → (u || v) ≡ true
    or_right true v e = refl
    or_right false v e = e

lock_begins : (d : List ℕ) → pointwise nat_eq (codes ".lock") d ≡ true → occurs (pair 46 108) d ≡ true
lock_begins [] h = absurd (cc)
lock_begins (x ∷ []) h = absurd (cc ((both (eqb 46 x) false h).1))
lock_begins (x ∷ y ∷ d) h =
    let one = both (eqb 46 x) _ h in
    let two = both (eqb 108 y) _ one.1 in
    ap (λ v. (v && (eqb 108 y && true)) || occurs (pair 46 108) (y ∷ d)) one.0
    ∙ ap (λ v. (v && true) || occurs (pair 46 108) (y ∷ d)) two.0

none_locked : (cs : List (List ℕ)) → list_any (occurs (pair 46 108)) cs ≡ false → list_any is_locked cs ≡ false
none_locked [] h = refl
none_locked (c ∷ more) h =
    let parts = or_none (occurs (pair 46 108) c) (list_any (occurs (pair 46 108)) more) h in
    none_or (is_locked c) (list_any is_locked more) (go (is_locked c) refl parts.0) (none_locked more parts.1)
  where
    go : (v : Bool) → is_locked c ≡ v → occurs (pair 46 108) c ≡ false → v ≡ false
    go true is none = clash (occurs (pair 46 108) c) (occurs_behind (pair 46 108) (length c - 5) c (lock_begins (drop (length c - 5) c) is)) none
    go false is none = refl

-- ---- the whole name
no_end : (z : ℕ) → ends (letter z) ≡ false → (x : ℕ) (n : List ℕ) → fits_on (letter x) n ≡ true → ends_with nat_eq (x ∷ n) (z ∷ []) ≡ false
no_end z off x [] h = go (eqb z x) refl
  where
    go : (v : Bool) → eqb z x ≡ v → (v && true) ≡ false
    go true is = clash (ends (letter z)) (ap (λ b. ends (letter b)) (eqb-true z x is) ∙ h) off
    go false is = refl
no_end z off x (y ∷ n) h = last-cons x y n z ∙ no_end z off y n (both _ _ h).1

none_invalid : (n : List ℕ) (p : ℕ) → ((k : ℕ) → get_or n k 0 < 256) → fits_on p n ≡ true → find is_invalid n ≡ None
none_invalid [] p bytes h = refl
none_invalid (b ∷ n) p bytes h =
    let rest = (both _ _ h).1 in
    let valid : is_invalid b ≡ false = (or_none _ _ (allowed b n bytes rest)).0 in
    ap (λ v. cond v (Some b) (find is_invalid n)) valid ∙ none_invalid n (letter b) (λ k. bytes (suc k)) rest

not_at : (n : List ℕ) → fits_on (letter 47) n ≡ true → pointwise nat_eq n (codes "@") ≡ false
not_at [] h = absurd (cc)
not_at (x ∷ y ∷ n) h = go (eqb x 64)
  where
    go : (v : Bool) → (v && false) ≡ false
    go true = refl
    go false = refl
not_at (x ∷ []) h = go (eqb x 64) refl
  where
    go : (v : Bool) → eqb x 64 ≡ v → (v && true) ≡ false
    go true is = clash (ends (letter x)) (both _ _ h).1 (ap (λ b. ends (letter b)) (eqb-true x 64 is))
    go false is = refl

-- a text whose bytes may all be where they are, the first as if after a slash, is a partial name
pub plain_name : (n : List ℕ) → ((k : ℕ) → get_or n k 0 < 256) → fits_on (letter 47) n ≡ true → IsPartialName n
plain_name [] bytes h = absurd (cc)
plain_name (x ∷ n) bytes h =
    let rest = (both _ _ h).1 in
    let slashes = or_none _ _ (no_pair 47 47 refl 47 (x ∷ n) h) in
    let inner = no_pair 46 108 refl x n rest in
    name_of_rules (x ∷ n) (record {
      some = refl;
      valid = none_invalid (x ∷ n) (letter 47) bytes h;
      start = slashes.0;
      end = no_end 47 refl x n rest;
      slashes = slashes.1;
      dotted = only_front_dotted (47 ∷ x ∷ n) (no_pair 47 46 refl 47 (x ∷ n) h);
      last_dot = no_end 46 refl x n rest;
      dots = no_pair 46 46 refl x n rest;
      locked = none_locked (components (x ∷ n)) (none_inside 46 108 (x ∷ n) inner);
      portion = no_pair 64 123 refl x n rest;
    }) (not_at (x ∷ n) h)

-- ---- one step of the loop
none_of_two : (a b : ℕ) → bit_or a b ≡ 0 → (a ≡ 0) × (b ≡ 0)
none_of_two a b e = omega (arith, or_add_and a b, and_le_l a b, and_le_r a b)

pub plain_step : (n : List ℕ) (i clashes before b : ℕ) (Whole : Type 0) → i < length n → b ≡ get_or n i 0 →
    (clashes ≡ 0 → fits_on before (drop i n) ≡ true → Whole) →
    bit_or clashes (bit_and (letter b) (before * 2 ^ 4 % 2 ^ 8)) ≡ 0 → fits_on (letter b) (drop (i + 1) n) ≡ true → Whole
plain_step n i clashes before b Whole within is was none on =
    let parts = none_of_two clashes _ none in
    let fit : fits before (letter b) ≡ true = eq-eqb _ 0 parts.1 in
    was parts.0 (ap (fits_on before) (drop_more n i 0 within ∙ ap (λ v. v ∷ drop (i + 1) n) (sym is)) ∙ ap (λ v. v && fits_on (letter b) (drop (i + 1) n)) fit ∙ on)

pub plain_end : (n : List ℕ) (i before : ℕ) → length n ≤ i → ((k : ℕ) → get_or n k 0 < 256) → (fits_on before (drop i n) ≡ true → fits_on (letter 47) n ≡ true) → OnTrue (bit_and before 7 == 0) (IsPartialName n)
plain_end n i before past bytes was = go (ends before) refl
  where
    go : (v : Bool) → ends before ≡ v → OnTrue v (IsPartialName n)
    go true is = plain_name n bytes (was (ap (fits_on before) (drop_all i n past) ∙ is))
    go false is = tt
