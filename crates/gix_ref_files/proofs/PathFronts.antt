-- The fronts of a path, one byte after the other.
use Rattle.std.proofs.Common.{◌≡◌, ◌≢◌, ℕ, ◌+◌, ◌<◌, ◌≤◌, List, [], ◌∷◌, ◌++◌, length, take, get_or, Bool, true, false, refl, sym, ◌∙◌, ap, arith, append_assoc, length-append, Some}
use Rattle.std.specs.Prelude.{if◌then◌else◌, ◌==◌}
use Rattle.std.proofs.lemmas.List.{append-nil, take_more, length-take-le}
use Rattle.gix_ref_files.specs.Tree.{Tree, Path, put, with_folders, fronts, fronts_after}
use Rattle.gix_ref_files.specs.Tree.Content.{Folder}
use Rattle.gix_ref_files.proofs.Puts.{put_other}

-- the fronts of a text with one byte more
after_snoc : (seen : Path) (xs : List ℕ) (c : ℕ) → fronts_after seen (xs ++ c ∷ []) ≡ (if c == 47 then fronts_after seen xs ++ (seen ++ xs) ∷ [] else fronts_after seen xs)
after_snoc seen [] c = ap (λ (l : Path). if c == 47 then l ∷ [] else []) (sym (append-nil seen))
after_snoc seen (x ∷ xs) c = by_byte (x == 47) (c == 47) (after_snoc (seen ++ x ∷ []) xs c)
  where
    at : fronts_after (seen ++ x ∷ []) xs ++ ((seen ++ x ∷ []) ++ xs) ∷ [] ≡ fronts_after (seen ++ x ∷ []) xs ++ (seen ++ x ∷ xs) ∷ []
    at = ap (λ (l : Path). fronts_after (seen ++ x ∷ []) xs ++ l ∷ []) (append_assoc seen (x ∷ []) xs)

    by_byte : (is_slash last : Bool) → fronts_after (seen ++ x ∷ []) (xs ++ c ∷ []) ≡ (if last then fronts_after (seen ++ x ∷ []) xs ++ ((seen ++ x ∷ []) ++ xs) ∷ [] else fronts_after (seen ++ x ∷ []) xs) → (if is_slash then seen ∷ fronts_after (seen ++ x ∷ []) (xs ++ c ∷ []) else fronts_after (seen ++ x ∷ []) (xs ++ c ∷ [])) ≡ (if last then (if is_slash then seen ∷ fronts_after (seen ++ x ∷ []) xs else fronts_after (seen ++ x ∷ []) xs) ++ (seen ++ x ∷ xs) ∷ [] else (if is_slash then seen ∷ fronts_after (seen ++ x ∷ []) xs else fronts_after (seen ++ x ∷ []) xs))
    by_byte true true rest = ap (λ (l : List Path). seen ∷ l) (rest ∙ at)
    by_byte true false rest = ap (λ (l : List Path). seen ∷ l) rest
    by_byte false true rest = rest ∙ at
    by_byte false false rest = rest

pub fronts_snoc : (q : Path) (c : ℕ) → 0 < length q → fronts (q ++ c ∷ []) ≡ (if c == 47 then fronts q ++ q ∷ [] else fronts q)
fronts_snoc [] c some = absurd (omega arith)
fronts_snoc (b ∷ q) c some = after_snoc (b ∷ []) q c

-- there are fewer fronts than bytes
after_short : (seen : Path) (xs : List ℕ) → length (fronts_after seen xs) ≤ length xs
after_short seen [] = omega arith
after_short seen (x ∷ xs) = by_byte (x == 47) (after_short (seen ++ x ∷ []) xs)
  where
    by_byte : (is_slash : Bool) → length (fronts_after (seen ++ x ∷ []) xs) ≤ length xs → length (if is_slash then seen ∷ fronts_after (seen ++ x ∷ []) xs else fronts_after (seen ++ x ∷ []) xs) ≤ length (x ∷ xs)
    by_byte true short = omega arith
    by_byte false short = omega arith

pub fronts_short : (p : Path) → length (fronts p) ≤ length p
fronts_short [] = omega arith
fronts_short (b ∷ p) = omega (arith, after_short (b ∷ []) p)

pub fronts_next : (p : Path) (i : ℕ) (is_slash : Bool) → 1 ≤ i → i < length p → (get_or p i 0 == 47) ≡ is_slash → fronts (take (i + 1) p) ≡ (if is_slash then fronts (take i p) ++ take i p ∷ [] else fronts (take i p))
fronts_next p i is_slash some lt is =
    ap fronts (take_more p i 0 lt) ∙ fronts_snoc (take i p) (get_or p i 0) (let le : i ≤ length p = omega arith in omega (arith, length-take-le i p le))
    ∙ ap (λ (b : Bool). if b then fronts (take i p) ++ take i p ∷ [] else fronts (take i p)) is

-- folders at the fronts of a path change nothing at the path itself
after_untouched : (T : Tree) (seen : Path) (xs : List ℕ) (p : Path) → seen ++ xs ≡ p → with_folders T (fronts_after seen xs) p ≡ T p
after_untouched T seen [] p is = refl
after_untouched T seen (c ∷ rest) p is =
    by_byte (c == 47) (λ (S : Tree). after_untouched S (seen ++ c ∷ []) rest p (append_assoc seen (c ∷ []) rest ∙ is))
  where
    shorter : seen ≢ p
    shorter same = absurd (omega (arith, ap (λ (l : Path). length l) (is ∙ sym same), length-append seen (c ∷ rest)))

    by_byte : (slash : Bool) → ((S : Tree) → with_folders S (fronts_after (seen ++ c ∷ []) rest) p ≡ S p) → with_folders T (if slash then seen ∷ fronts_after (seen ++ c ∷ []) rest else fronts_after (seen ++ c ∷ []) rest) p ≡ T p
    by_byte true later = later (put T seen (Some Folder)) ∙ put_other T seen p (Some Folder) shorter
    by_byte false later = later T

pub own_untouched : (T : Tree) (p : Path) → with_folders T (fronts p) p ≡ T p
own_untouched T [] = refl
own_untouched T (b ∷ p) = after_untouched T (b ∷ []) p (b ∷ p) refl
