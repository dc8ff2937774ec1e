-- The folder of a path: it is its last front, and grows at each slash.
use Rattle.std.proofs.Common.{◌≡◌, ◌≢◌, ◌⊎◌, inl, inr, ℕ, ◌+◌, ◌<◌, ◌≤◌, List, [], ◌∷◌, ◌++◌, length, take, get_or, Bool, true, false, refl, sym, ◌∙◌, ap, append_assoc, append-nil, arith}
use Rattle.std.proofs.lemmas.List.{take_more, length-take-le}
use Rattle.std.specs.Prelude.{if◌then◌else◌, ◌==◌}
use Rattle.gix_ref_files.specs.Tree.{Path, fronts, fronts_after}
use Rattle.gix_ref_files.specs.Disk.{folder_of, folder_after}

-- no slash comes, or the last one ends the folder
abbrev Found : Path → Path → List ℕ → Type 0
Found seen folder xs =
    ((fronts_after seen xs ≡ []) × (folder_after seen folder xs ≡ folder))
    ⊎ ((part : List ℕ) × (folder_after seen folder xs ≡ seen ++ part) × (fronts_after seen xs ≡ fronts_after seen part ++ folder_after seen folder xs ∷ []))

found : (seen folder : Path) (xs : List ℕ) → Found seen folder xs
found seen folder [] = inl (refl, refl)
found seen folder (c ∷ rest) = by (c == 47) refl (found (seen ++ c ∷ []) (if c == 47 then seen else folder) rest)
  where
    by : (b : Bool) → (c == 47) ≡ b → Found (seen ++ c ∷ []) (if c == 47 then seen else folder) rest → Found seen folder (c ∷ rest)
    by true e (inl none) = inr (
      [],
      none.1 ∙ (ap (λ (b : Bool). if b then seen else folder) e ∙ sym (append-nil seen)),
      ap (λ (b : Bool). if b then seen ∷ fronts_after (seen ++ c ∷ []) rest else fronts_after (seen ++ c ∷ []) rest) e
          ∙ (ap (λ (fs : List Path). seen ∷ fs) none.0 ∙ ap (λ (f : Path). f ∷ []) (sym (none.1 ∙ ap (λ (b : Bool). if b then seen else folder) e))),
    )
    by false e (inl none) = inl (
      ap (λ (b : Bool). if b then seen ∷ fronts_after (seen ++ c ∷ []) rest else fronts_after (seen ++ c ∷ []) rest) e ∙ none.0,
      none.1 ∙ ap (λ (b : Bool). if b then seen else folder) e,
    )
    by true e (inr (part, is, all)) = inr (
      c ∷ part,
      is ∙ append_assoc seen (c ∷ []) part,
      ap (λ (b : Bool). if b then seen ∷ fronts_after (seen ++ c ∷ []) rest else fronts_after (seen ++ c ∷ []) rest) e
          ∙ (ap (λ (fs : List Path). seen ∷ fs) all
          ∙ ap (λ (b : Bool). (if b then seen ∷ fronts_after (seen ++ c ∷ []) part else fronts_after (seen ++ c ∷ []) part) ++ folder_after (seen ++ c ∷ []) (if c == 47 then seen else folder) rest ∷ []) (sym e)),
    )
    by false e (inr (part, is, all)) = inr (
      c ∷ part,
      is ∙ append_assoc seen (c ∷ []) part,
      ap (λ (b : Bool). if b then seen ∷ fronts_after (seen ++ c ∷ []) rest else fronts_after (seen ++ c ∷ []) rest) e
          ∙ (all
          ∙ ap (λ (b : Bool). (if b then seen ∷ fronts_after (seen ++ c ∷ []) part else fronts_after (seen ++ c ∷ []) part) ++ folder_after (seen ++ c ∷ []) (if c == 47 then seen else folder) rest ∷ []) (sym e)),
    )

-- the fronts of a path are those of its folder, and the folder
pub fronts_of_folder : (p : Path) → folder_of p ≢ [] → fronts p ≡ fronts (folder_of p) ++ folder_of p ∷ []
fronts_of_folder [] some = absurd (some refl)
fronts_of_folder (c ∷ rest) some = by (found (c ∷ []) [] rest)
  where
    by : Found (c ∷ []) [] rest → fronts (c ∷ rest) ≡ fronts (folder_of (c ∷ rest)) ++ folder_of (c ∷ rest) ∷ []
    by (inl none) = absurd (some none.1)
    by (inr (part, is, all)) = all ∙ ap (λ (f : Path). fronts f ++ folder_of (c ∷ rest) ∷ []) (sym is)

-- the folder of a text with one byte more
after_snoc : (seen folder : Path) (xs : List ℕ) (c : ℕ) → folder_after seen folder (xs ++ c ∷ []) ≡ (if c == 47 then seen ++ xs else folder_after seen folder xs)
after_snoc seen folder [] c = ap (λ (l : Path). if c == 47 then l else folder) (sym (append-nil seen))
after_snoc seen folder (x ∷ xs) c =
    after_snoc (seen ++ x ∷ []) (if x == 47 then seen else folder) xs c
    ∙ ap (λ (l : Path). if c == 47 then l else folder_after seen folder (x ∷ xs)) (append_assoc seen (x ∷ []) xs)

folder_snoc : (q : Path) (c : ℕ) → 0 < length q → folder_of (q ++ c ∷ []) ≡ (if c == 47 then q else folder_of q)
folder_snoc [] c some = absurd (omega arith)
folder_snoc (b ∷ q) c some = after_snoc (b ∷ []) [] q c

pub folder_next : (p : Path) (i : ℕ) (slash : Bool) → 1 ≤ i → i < length p → (get_or p i 0 == 47) ≡ slash → folder_of (take (i + 1) p) ≡ (if slash then take i p else folder_of (take i p))
folder_next p i slash some lt is =
    ap folder_of (take_more p i 0 lt) ∙ folder_snoc (take i p) (get_or p i 0) (let le : i ≤ length p = omega arith in omega (arith, length-take-le i p le))
    ∙ ap (λ (b : Bool). if b then take i p else folder_of (take i p)) is
