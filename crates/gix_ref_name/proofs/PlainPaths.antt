-- Names of bytes that no rule concerns, with single slashes between them.
use Rattle.std.proofs.Common.{◌≡◌, ◌≢◌, ℕ, suc, ◌+◌, ◌-◌, ◌<◌, ◌≤◌, ◌==◌, ◌⊎◌, inl, inr, Bool, true, false, not, ◌||◌, ◌&&◌, cond, List, [], ◌∷◌, length, get_or, take, drop, refl, sym, ◌∙◌, ap, subst, eqb-true, eq-eqb, nat_eq, arith}
use Rattle.std.specs.Bool.{OnTrue}
use Rattle.std.proofs.lemmas.Bool.{cases_lt as order}
use Rattle.std.proofs.lemmas.List.{get_or-take, get_or-drop}
use Rattle.gix_ref_name.specs.NameGrammar.{AllFollow, IsPartialName, is_plain, may_follow}
use Rattle.gix_ref_name.proofs.PlainNames.{all_below, at_below, ends, fits, fits_on, letter, plain_name}

-- the letter of such a byte bears no mark of its own
plain_letters : all_below (λ b. cond (is_plain b) ((letter b == 64) || (letter b == 96)) true) 256 ≡ true
plain_letters = refl

either : (u v : Bool) → (u || v) ≡ true → (u ≡ true) ⊎ (v ≡ true)
either true v h = inl refl
either false v h = inr h

plain_letter : (b : ℕ) → b < 256 → is_plain b ≡ true → (letter b ≡ 64) ⊎ (letter b ≡ 96)
plain_letter b byte plain =
    let here : ((letter b == 64) || (letter b == 96)) ≡ true =
    ap (λ v. cond v ((letter b == 64) || (letter b == 96)) true) (sym plain) ∙ at_below (λ b. cond (is_plain b) ((letter b == 64) || (letter b == 96)) true) 256 plain_letters b byte in
    elim (either _ _ here) [ inl h ↦ inl (eqb-true _ _ h) | inr h ↦ inr (eqb-true _ _ h) ]

-- a letter after which a plain byte or a slash may stand, and at which a name may end
abbrev IsOpen : ℕ → Type 0
IsOpen l = (l ≡ 64) ⊎ (l ≡ 96)

-- after a byte of such a letter, or after a slash
abbrev IsBefore : ℕ → Type 0
IsBefore l = IsOpen l ⊎ (l ≡ 81)

fit : (p l : ℕ) → IsBefore p → IsOpen l → fits p l ≡ true
fit p l (inl (inl is)) (inl here) = rw (is, here) refl
fit p l (inl (inl is)) (inr here) = rw (is, here) refl
fit p l (inl (inr is)) (inl here) = rw (is, here) refl
fit p l (inl (inr is)) (inr here) = rw (is, here) refl
fit p l (inr is) (inl here) = rw (is, here) refl
fit p l (inr is) (inr here) = rw (is, here) refl

fit_slash : (p : ℕ) → IsOpen p → fits p (letter 47) ≡ true
fit_slash p (inl is) = rw is refl
fit_slash p (inr is) = rw is refl

end_open : (p : ℕ) → IsOpen p → ends p ≡ true
end_open p (inl is) = rw is refl
end_open p (inr is) = rw is refl

and_true : (u v : Bool) → u ≡ true → v ≡ true → (u && v) ≡ true
and_true true v h k = k
and_true false v h k = absurd (cc)

and_parts' : (u v : Bool) → (u && v) ≡ true → (u ≡ true) × (v ≡ true)
and_parts' true v h = (refl, h)
and_parts' false v h = absurd (cc)

-- the letter of a byte that stands before another: a plain one, or a slash
letter_before : (x : ℕ) → x < 256 → (is_plain x ≡ true) ⊎ (x ≡ 47) → IsBefore (letter x)
letter_before x byte (inl plain) = inl (plain_letter x byte plain)
letter_before x byte (inr slash) = inr (ap letter slash)

-- a byte that may follow is a plain one, or a slash after another byte
followed : (x b : ℕ) → may_follow x b ≡ true → (is_plain b ≡ true) ⊎ ((b ≡ 47) × ((x == 47) ≡ false))
followed x b h = elim (either (is_plain b) _ h) [
  | inl plain ↦ inl plain
  | inr slash ↦ let parts = and_parts' (b == 47) (not (x == 47)) slash in inr (eqb-true b 47 parts.0, negated (x == 47) parts.1)
]
  where
    negated : (v : Bool) → not v ≡ true → v ≡ false
    negated true h = absurd (cc)
    negated false h = refl

abbrev LastOf : ℕ → List ℕ → ℕ
LastOf x n = get_or (x ∷ n) (length n) 0

on : (x : ℕ) (n : List ℕ) → ((k : ℕ) → get_or (x ∷ n) k 0 < 256) → (is_plain x ≡ true) ⊎ (x ≡ 47)
    → ((k : ℕ) → k < length n → may_follow (get_or (x ∷ n) k 0) (get_or n k 0) ≡ true) → LastOf x n ≢ 47 → fits_on (letter x) n ≡ true
on x [] bytes (inl plain) follow last = end_open (letter x) (plain_letter x (bytes 0) plain)
on x [] bytes (inr slash) follow last = absurd (last slash)
on x (b ∷ n) bytes kind follow last =
    let rest = λ (kind' : (is_plain b ≡ true) ⊎ (b ≡ 47)). on b n (λ k. bytes (suc k)) kind' (λ k lt. follow (suc k) (omega arith)) last in
    elim (followed x b (follow 0 (omega arith))) [
      | inl plain ↦ and_true (fits (letter x) (letter b)) (fits_on (letter b) n) (fit (letter x) (letter b) (letter_before x (bytes 0) kind) (plain_letter b (bytes 1) plain)) (rest (inl plain))
      | inr slash ↦ and_true (fits (letter x) (letter b)) (fits_on (letter b) n)
          (ap (λ (c : ℕ). fits (letter x) (letter c)) slash.0 ∙ fit_slash (letter x) (open_before kind slash.1)) (rest (inr slash.0))
    ]
  where
    open_before : (is_plain x ≡ true) ⊎ (x ≡ 47) → (x == 47) ≡ false → IsOpen (letter x)
    open_before (inl plain) other = plain_letter x (bytes 0) plain
    open_before (inr is) other = absurd (let same = eq-eqb x 47 is in cc)

-- a name that begins with such a byte, does not end with a slash, and in which each byte may follow the one before it
pub plain_path : (n : List ℕ) → ((k : ℕ) → get_or n k 0 < 256) → 1 ≤ length n → is_plain (get_or n 0 0) ≡ true → get_or n (length n - 1) 0 ≢ 47 → AllFollow n 1 (length n) → IsPartialName n
plain_path [] bytes some first last follow = absurd (omega arith)
plain_path (x ∷ n) bytes some first last follow =
    plain_name (x ∷ n) bytes
    (and_true (fits (letter 47) (letter x)) (fits_on (letter x) n) (fit (letter 47) (letter x) (inr refl) (plain_letter x (bytes 0) first))
    (on x n bytes (inl first) (λ k lt. let same : suc k - 1 ≡ k = omega arith in
    subst (λ (j : ℕ). may_follow (get_or (x ∷ n) j 0) (get_or n k 0) ≡ true) same (follow (suc k) (omega arith) (omega arith))) (λ is. last (let top : suc (length n) - 1 ≡ length n = omega arith in ap (λ (j : ℕ). get_or (x ∷ n) j 0) top ∙ is))))

-- ---- runs of bytes
pub more_follow : (n : List ℕ) (a b c d : ℕ) → AllFollow n a b → AllFollow n c d → c ≤ b → AllFollow n a d
more_follow n a b c d first second meet k from to =
    elim (order k b) [ inl early ↦ first k from early | inr late ↦ second k (omega arith) to ]

-- of the bytes of a run and those before them
pub run_follows : (n : List ℕ) (start p q : ℕ) (before bytes : List ℕ) → 1 ≤ start → p ≡ 16 → q ≡ 16 → before ≡ take p (drop (start - 1) n) → bytes ≡ take q (drop start n)
    → ((k : ℕ) → k < 16 → may_follow (get_or before k 0) (get_or bytes k 0) ≡ true) → AllFollow n start (start + 16)
run_follows n start p q before bytes some first second one two follow k from to =
    let j = k - start in
    let within : j < 16 = omega arith in
    let here : get_or bytes j 0 ≡ get_or n k 0 =
    ap (λ (t : List ℕ). get_or t j 0) two ∙ get_or-take q (drop start n) j 0 (omega arith) ∙ get_or-drop start n j 0 ∙ ap (λ (i : ℕ). get_or n i 0) (omega arith) in
    let earlier : get_or before j 0 ≡ get_or n (k - 1) 0 =
    ap (λ (t : List ℕ). get_or t j 0) one ∙ get_or-take p (drop (start - 1) n) j 0 (omega arith) ∙ get_or-drop (start - 1) n j 0 ∙ ap (λ (i : ℕ). get_or n i 0) (omega arith) in
    subst (λ (b : ℕ). may_follow (get_or n (k - 1) 0) b ≡ true) here (subst (λ (a : ℕ). may_follow a (get_or bytes j 0) ≡ true) earlier (follow j within))

pub one_more : (before bytes : List ℕ) (i : ℕ) (so_far next : Bool) → next ≡ may_follow (get_or before i 0) (get_or bytes i 0)
    → (so_far ≡ true → (k : ℕ) → k < i → may_follow (get_or before k 0) (get_or bytes k 0) ≡ true)
    → (so_far && next) ≡ true → (k : ℕ) → k < i + 1 → may_follow (get_or before k 0) (get_or bytes k 0) ≡ true
one_more before bytes i so_far next is was both' k lt =
    let parts = and_parts' so_far next both' in
    elim (order k i) [
      | inl less ↦ was parts.0 k less
      | inr top ↦ let same : i ≡ k = omega arith in subst (λ (j : ℕ). may_follow (get_or before j 0) (get_or bytes j 0) ≡ true) same (sym is ∙ parts.1)
    ]

-- the whole name, by runs up to a place and the last one
pub plain_whole : (n : List ℕ) (start last : ℕ) → ((k : ℕ) → get_or n k 0 < 256) → 1 ≤ last → last + 16 ≡ length n → last ≤ start → AllFollow n 1 start → AllFollow n last (last + 16)
    → is_plain (get_or n 0 0) ≡ true → OnTrue (not (nat_eq (get_or n (length n - 1) 0) 47)) (IsPartialName n)
plain_whole n start last bytes some whole past first later plain = go (nat_eq (get_or n (length n - 1) 0) 47) refl
  where
    go : (v : Bool) → nat_eq (get_or n (length n - 1) 0) 47 ≡ v → OnTrue (not v) (IsPartialName n)
    go true is = tt
    go false is =
        plain_path n bytes (omega arith) plain (λ slash. let same = eq-eqb (get_or n (length n - 1) 0) 47 slash in cc)
        (subst (AllFollow n 1) whole (more_follow n 1 start last (last + 16) first later past))
