-- The climb of a path settles it.
use Rattle.std.proofs.Common.{◌≡◌, ◌≢◌, ◌⊎◌, inl, inr, ℕ, zero, suc, ◌+◌, ◌-◌, ◌<◌, ◌≤◌, List, [], ◌∷◌, ◌++◌, length, take, get_or, Bool, true, false, refl, sym, ◌∙◌, ap, subst, arith, append_assoc, append-nil}
use Rattle.std.specs.Prelude.{if◌then◌else◌, ◌==◌}
use Rattle.std.proofs.lemmas.Bool.{true≢false, eqb-true}
use Rattle.std.proofs.lemmas.List.{length-take-le}
use Rattle.std.proofs.Math.Seq.{take-length}
use Rattle.gix_ref_files.specs.Tree.{Path, fronts}
use Rattle.gix_ref_files.specs.Disk.{folder_of, folder_after}
use Rattle.gix_ref_files.specs.Settled.{AreIn, Settles, SettlesPath, folders_up, climb}
use Rattle.gix_ref_files.specs.Settled.Sync.{OfFolder}
use Rattle.gix_ref_files.specs.Theorems.{EveryClimbSettles}
use Rattle.gix_ref_files.proofs.Settling.{as_settles}

is_47 : (x : ℕ) → x ≡ 47 → (x == 47) ≡ true
is_47 x e = ap (λ (b : ℕ). b == 47) e

not_47 : (x : ℕ) → x ≢ 47 → (x == 47) ≡ false
not_47 x none = by (x == 47) refl
  where
    by : (b : Bool) → (x == 47) ≡ b → b ≡ false
    by true e = absurd (none (eqb-true x 47 e))
    by false e = refl

-- the folder stays where no slash comes
folder_none : (seen f xs : List ℕ) (m : ℕ) → m ≤ length xs → ((k : ℕ) → k < m → get_or xs k 0 ≢ 47) → folder_after seen f (take m xs) ≡ f
folder_none seen f xs zero le none = refl
folder_none seen f [] (suc m) le none = absurd (omega (arith, le))
folder_none seen f (x ∷ xs) (suc m) le none =
    folder_none (seen ++ x ∷ []) (if x == 47 then seen else f) xs m (omega (arith, le)) (λ k lt. none (suc k) (omega (arith, lt)))
    ∙ ap (λ (b : Bool). if b then seen else f) (not_47 x (none 0 (omega arith)))

-- the folder ends at the last slash
folder_here : (seen f xs : List ℕ) (j m : ℕ) → j < m → m ≤ length xs → get_or xs j 0 ≡ 47 → ((k : ℕ) → j < k → k < m → get_or xs k 0 ≢ 47) → folder_after seen f (take m xs) ≡ seen ++ take j xs
folder_here seen f xs j zero lt le slash none = absurd (omega (arith, lt))
folder_here seen f [] j (suc m) lt le slash none = absurd (omega (arith, le))
folder_here seen f (x ∷ xs) zero (suc m) lt le slash none =
    folder_none (seen ++ x ∷ []) (if x == 47 then seen else f) xs m (omega (arith, le)) (λ k below. none (suc k) (omega arith) (omega (arith, below)))
    ∙ (ap (λ (b : Bool). if b then seen else f) (is_47 x slash) ∙ sym (append-nil seen))
folder_here seen f (x ∷ xs) (suc j) (suc m) lt le slash none =
    folder_here (seen ++ x ∷ []) (if x == 47 then seen else f) xs j m (omega (arith, lt)) (omega (arith, le)) slash (λ k above below. none (suc k) (omega (arith, above)) (omega (arith, below)))
    ∙ append_assoc seen (x ∷ []) (take j xs)

folder_at : (p : Path) (j m : ℕ) → 1 ≤ j → j < m → m ≤ length p → get_or p j 0 ≡ 47 → ((k : ℕ) → j < k → k < m → get_or p k 0 ≢ 47) → folder_of (take m p) ≡ take j p
folder_at p zero m some lt le slash none = absurd (omega (arith, some))
folder_at p (suc j) zero some lt le slash none = absurd (omega (arith, lt))
folder_at [] (suc j) (suc m) some lt le slash none = absurd (omega (arith, le))
folder_at (c ∷ rest) (suc j) (suc m) some lt le slash none =
    folder_here (c ∷ []) [] rest j m (omega (arith, lt)) (omega (arith, le)) slash (λ k above below. none (suc k) (omega (arith, above)) (omega (arith, below)))

has_bytes : (p : Path) (j : ℕ) → 1 ≤ j → j ≤ length p → take j p ≢ []
has_bytes p j some le none = absurd (omega (arith, some, le, sym (length-take-le j p le) ∙ ap (λ (l : List ℕ). length l) none))

module _ (staying : List Path) (p : Path) (root : ℕ) (some : 1 ≤ root) (slash : get_or p root 0 ≡ 47) (stay : AreIn (fronts (take root p) ++ take root p ∷ []) staying) where
  -- the folders at the slashes of the first places from the root on settle a front in whose rest there is no slash
  abbrev UpAt : ℕ → Type 0
  UpAt n = (m : ℕ) → root + suc n ≤ m → m ≤ length p → ((k : ℕ) → root + suc n ≤ k → k < m → get_or p k 0 ≢ 47) → SettlesPath staying (take m p) (folders_up p root (suc n))

  -- for one place fewer it is known, or there is none
  abbrev Fewer : ℕ → Type 0
  Fewer n = (n ≡ 0) ⊎ ((l : ℕ) × (n ≡ suc l) × UpAt l)

  -- a front that ends at a slash
  later : (n m : ℕ) → Fewer n → root + n < m → m ≤ length p → Settles staying (take (root + n) p) (folders_up p root n)
  later n m (inl none) lt le =
      subst (λ (k : ℕ). Settles staying (take (root + k) p) (folders_up p root k)) (sym none)
      (subst (λ (k : ℕ). AreIn (fronts (take k p) ++ take k p ∷ []) staying) (omega arith) stay)
  later n m (inr (l, is, fewer)) lt le =
      subst (λ (k : ℕ). Settles staying (take (root + k) p) (folders_up p root k)) (sym is)
      (as_settles staying (take (root + suc l) p) (folders_up p root (suc l))
      (fewer (root + suc l) (omega arith) (omega (arith, lt, le, is)) (λ k low below. absurd (omega (arith, low, below)))))

  -- a place without a slash
  without : (n m : ℕ) → Fewer n → root + suc n ≤ m → m ≤ length p → get_or p (root + n) 0 ≢ 47 → ((k : ℕ) → root + suc n ≤ k → k < m → get_or p k 0 ≢ 47) → SettlesPath staying (take m p) (folders_up p root n)
  without n m (inl none) low le here rest = absurd (here (ap (λ (k : ℕ). get_or p k 0) (omega (arith, none)) ∙ slash))
  without n m (inr (l, is, fewer)) low le here rest =
      subst (λ (k : ℕ). SettlesPath staying (take m p) (folders_up p root k)) (sym is)
      (fewer m (omega (arith, low, is)) le (λ k from below found.
      let differs : k ≡ root + n → ⊥ = λ same. here (ap (λ (i : ℕ). get_or p i 0) (sym same) ∙ found) in
      rest k (omega (arith, from, is, differs)) below found))

  step : (n : ℕ) → Fewer n → UpAt n
  step n fewer m low le none = by (get_or p (root + n) 0 == 47) refl
    where
      by : (b : Bool) → (get_or p (root + n) 0 == 47) ≡ b → SettlesPath staying (take m p) (if b then OfFolder (take (root + n) p) ∷ folders_up p root n else folders_up p root n)
      by true e =
          let here : get_or p (root + n) 0 ≡ 47 = eqb-true (get_or p (root + n) 0) 47 e in (
            folder_at p (root + n) m (omega (arith, some)) (omega (arith, low)) le here (λ k above below. none k (omega (arith, above)) below),
            has_bytes p (root + n) (omega (arith, some)) (omega (arith, low, le)),
            later n m fewer (omega (arith, low)) le,
          )
      by false e = without n m fewer low le (λ found. true≢false (sym (is_47 (get_or p (root + n) 0) found) ∙ e)) none

  up : (n : ℕ) → UpAt n
  up zero = step zero (inl refl)
  up (suc l) = step (suc l) (inr (l, refl, up l))

pub climbs : EveryClimbSettles
climbs staying p zero some lt slash stay = absurd (omega (arith, some))
climbs staying p (suc root) some lt slash stay =
    let count : suc (length p - suc root - 1) ≡ length p - suc root = omega (arith, lt) in
    subst (λ (q : Path). SettlesPath staying q (climb p (suc root))) (take-length p)
    (subst (λ (n : ℕ). SettlesPath staying (take (length p) p) (folders_up p (suc root) n)) count
    (up staying p (suc root) some slash stay (length p - suc root - 1) (length p) (omega (arith, count, lt)) (omega arith) (λ k from below. absurd (omega (arith, from, below, count, lt)))))
