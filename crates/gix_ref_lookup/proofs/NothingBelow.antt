-- Nothing is below a path at which nothing is.
use Rattle.std.proofs.Common.{◌≡◌, ◌≢◌, ◌≤◌, ℕ, suc, List, [], ◌∷◌, ◌++◌, length, take, get_or, Option, Some, None, refl, sym, ◌∙◌, ap, arith}
use Rattle.std.specs.Prelude.{is_some}
use Rattle.std.proofs.lemmas.Bool.{false≢true}
use Rattle.gix_ref_files.specs.Tree.{Tree, Path, Content, is_folder, IsShaped}
use Rattle.gix_ref_files.proofs.Ready.{front_is_folder}

-- the slash after a front, and the front before it
at_end : (p rest : List ℕ) → get_or (p ++ 47 ∷ rest) (length p) 0 ≡ 47
at_end [] rest = refl
at_end (b ∷ p) rest = at_end p rest

front : (p rest : List ℕ) → take (length p) (p ++ 47 ∷ rest) ≡ p
front [] rest = refl
front (b ∷ p) rest = ap (λ q. b ∷ q) (front p rest)

is_longer : (p rest : List ℕ) → suc (length p) ≤ length (p ++ 47 ∷ rest)
is_longer [] rest = omega arith
is_longer (b ∷ p) rest = omega (arith, is_longer p rest)

has_byte : (p : List ℕ) → p ≢ [] → 1 ≤ length p
has_byte [] some = absurd (some refl)
has_byte (b ∷ p) some = omega arith

pub nothing_below : (T : Tree) (p : Path) (rest : List ℕ) → IsShaped T → p ≢ [] → T p ≡ None → T (p ++ 47 ∷ rest) ≡ None
nothing_below T p rest shaped some none = by (T (p ++ 47 ∷ rest)) refl
  where
    by : (content : Option Content) → T (p ++ 47 ∷ rest) ≡ content → T (p ++ 47 ∷ rest) ≡ None
    by None is = is
    by (Some c) is =
        let q = p ++ 47 ∷ rest in
        let folder = front_is_folder T q (length p) (has_byte p some) (is_longer p rest) (at_end p rest) (shaped q (ap is_some is)) in
        absurd (false≢true (sym (ap is_folder none) ∙ (ap (λ f. is_folder (T f)) (sym (front p rest)) ∙ folder)))
