-- Lemmas on texts: cuts at a byte, and longest fronts.
use Rattle.std.proofs.Common.{◌≡◌, ℕ, ◌+◌, ◌<◌, ◌≤◌, Bool, true, false, not, List, [], ◌∷◌, ◌++◌, length, get_or, take, drop, refl, sym, ◌∙◌, ap, subst, eqb, ne_eqb, eq-eqb, Some, slice_get}
use Rattle.std.specs.List.{All, AllPass, list_all}
use Rattle.std.proofs.lemmas.List.{take-append-drop, drop_more, take_all, drop_all, append-nil}
use Rattle.std.proofs.lemmas.List.Elements.{All-more, All-head, All-tail, All-from_get_or, All-get_or}
use Rattle.std.proofs.lemmas.List.Sums.{AllPass-from_list_all}
use Rattle.gix_ref_hash.specs.Bytes.{NoByte, Cuts, StopsAt, Spans}

-- a byte is another
abbrev pub IsApart : ℕ → ℕ → Type 0
IsApart b c = eqb c b ≡ false

pub apart : (b : ℕ) (text : List ℕ) → NoByte b text → All (IsApart b) text
apart b text none = All-from_get_or (IsApart b) text 0 (λ i h. ne_eqb _ _ (none i h))

-- a text that is shown to have no such byte, by a test
pub no_byte : (b : ℕ) (text : List ℕ) → list_all (λ c. not (eqb c b)) text ≡ true → NoByte b text
no_byte b text h =
    λ k within here.
    let other : not (eqb (get_or text k 0) b) ≡ true = All-get_or (λ c. not (eqb c b) ≡ true) text k 0 within (AllPass-from_list_all (λ c. not (eqb c b)) text h) in
    let same : eqb (get_or text k 0) b ≡ true = eq-eqb (get_or text k 0) b here in
    absurd (cc)

-- a text with the byte in it has it
pub no_split : (b : ℕ) (w s : List ℕ) → NoByte b (w ++ b ∷ s) → ⊥
no_split b w s none = go w (apart b (w ++ b ∷ s) none)
  where
    go : (w : List ℕ) → All (IsApart b) (w ++ b ∷ s) → ⊥
    go [] h =
        let never : eqb b b ≡ false = All-head (IsApart b) b s h in
        let yes : eqb b b ≡ true = eq-eqb b b refl in absurd cc
    go (x ∷ w) h = go w (All-tail (IsApart b) x (w ++ b ∷ s) h)

-- a text is cut at its first such byte in one way
pub same_split : (b : ℕ) (v w s t : List ℕ) → NoByte b v → NoByte b w → v ++ b ∷ s ≡ w ++ b ∷ t → (v ≡ w) × (s ≡ t)
same_split b v w s t p q e = go v w (apart b v p) (apart b w q) e
  where
    go : (v w : List ℕ) → All (IsApart b) v → All (IsApart b) w → v ++ b ∷ s ≡ w ++ b ∷ t → (v ≡ w) × (s ≡ t)
    go [] [] p q e = (refl, cc)
    go [] (y ∷ w) p q e =
        let here : y ≡ b = cc in
        let never : eqb y b ≡ false = All-head (IsApart b) y w q in
        let yes : eqb y b ≡ true = eq-eqb y b here in absurd cc
    go (x ∷ v) [] p q e =
        let here : x ≡ b = cc in
        let never : eqb x b ≡ false = All-head (IsApart b) x v p in
        let yes : eqb x b ≡ true = eq-eqb x b here in absurd cc
    go (x ∷ v) (y ∷ w) p q e =
        let here : x ≡ y = cc in
        let rest : v ++ b ∷ s ≡ w ++ b ∷ t = cc in
        let same = go v w (All-tail (IsApart b) x v p) (All-tail (IsApart b) y w q) rest in (cc, same.1)

pub same_cut : (b : ℕ) (text v s w t : List ℕ) → Cuts b text v s → Cuts b text w t → (v ≡ w) × (s ≡ t)
same_cut b text v s w t f g = same_split b v w s t f.none g.none (sym f.whole ∙ g.whole)

-- a front that ends where a byte does not pass
pub spans_at : (p : ℕ → Bool) (text : List ℕ) (i : ℕ) → i < length text → AllPass p (take i text) → p (get_or text i 0) ≡ false → Spans p text (take i text) (drop i text)
spans_at p text i within passes stop = record {
  whole = sym (take-append-drop i text);
  front_passes = passes;
  stops = subst (StopsAt p) (sym (drop_more text i 0 within)) stop;
}

-- a front that is the whole text
pub spans_all : (p : ℕ → Bool) (text : List ℕ) (i n : ℕ) → length text ≤ i → length text ≤ n → AllPass p (take i text) → Spans p text text (drop n text)
spans_all p text i n past end passes =
    let none : drop n text ≡ [] = drop_all n text end in
    record {
      whole = sym (ap (λ r. text ++ r) none ∙ append-nil text);
      front_passes = subst (AllPass p) (take_all i text past) passes;
      stops = subst (StopsAt p) (sym none) tt;
    }

pub passes_more : (p : ℕ → Bool) (text : List ℕ) (i : ℕ) → i < length text → AllPass p (take i text) → p (get_or text i 0) ≡ true → AllPass p (take (i + 1) text)
passes_more p text i within passes here = All-more (λ b. p b ≡ true) text i 0 within passes here

-- a text has one longest front of a kind of bytes
pub same_span : (p : ℕ → Bool) (text a b s t : List ℕ) → Spans p text a s → Spans p text b t → (a ≡ b) × (s ≡ t)
same_span p text a b s t f g = go a b f.front_passes g.front_passes f.stops g.stops (sym f.whole ∙ g.whole)
  where
    go : (a b : List ℕ) → AllPass p a → AllPass p b → StopsAt p s → StopsAt p t → a ++ s ≡ b ++ t → (a ≡ b) × (s ≡ t)
    go [] [] x y m n e = (refl, e)
    go [] (c ∷ b) x y m n e =
        let yes : p c ≡ true = All-head (λ x. p x ≡ true) c b y in
        let stop : p c ≡ false = subst (StopsAt p) e m in absurd (cc)
    go (c ∷ a) [] x y m n e =
        let yes : p c ≡ true = All-head (λ x. p x ≡ true) c a x in
        let stop : p c ≡ false = subst (StopsAt p) (sym e) n in absurd (cc)
    go (c ∷ a) (d ∷ b) x y m n e =
        let here : c ≡ d = cc in
        let rest : a ++ s ≡ b ++ t = cc in
        let same = go a b (All-tail (λ x. p x ≡ true) c a x) (All-tail (λ x. p x ≡ true) d b y) m n rest in (cc, same.1)

-- a byte of the kind does not stop it
pub no_stop : (p : ℕ → Bool) (rest : List ℕ) (b : ℕ) → Some b ≡ slice_get rest 0 → p b ≡ true → StopsAt p rest → ⊥
no_stop p [] b first passes stops = absurd (cc)
no_stop p (x ∷ xs) b first passes stops = let same : b ≡ x = cc in let yes : p x ≡ true = ap p (sym same) ∙ passes in absurd (cc (yes, stops))
