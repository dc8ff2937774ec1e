-- A category and a short name make the name that they were found in.
use Rattle.std.proofs.Common.{◌≡◌, ℕ, false, List, [], ◌∷◌, ◌++◌, refl, sym, ◌∙◌, ap, codes, nat_eq}
use Rattle.std.specs.List.{starts_with}
use Rattle.std.proofs.lemmas.List.{append_assoc}
use Rattle.gix_ref_name.specs.declared.name.category.Category.{Category}
use Rattle.gix_ref_name.specs.declared.name.category.Category.TheVariants.{Tag, LocalBranch, RemoteBranch, Note, PseudoRef, MainPseudoRef, MainRef, LinkedPseudoRef, LinkedRef, Bisect, Rewritten, WorktreePrivate}
use Rattle.gix_ref_hash.specs.Bytes.{without_front, with_front}
use Rattle.gix_ref_name.specs.Categories.{HasCategory, text_of, begins_again}
use Rattle.gix_ref_name.proofs.FrontLemmas.{without-append, with-new}

without_none : (s : List ℕ) → without_front [] s ≡ s
unfolding without_front
without_none [] = refl
without_none (x ∷ s) = refl

with_none : (t : List ℕ) → with_front [] t ≡ t
unfolding with_front
with_none [] = refl
with_none (x ∷ t) = refl

plain : (f s n : List ℕ) → starts_with nat_eq (without_front [] s) f ≡ false → n ≡ f ++ s → with_front f (without_front [] s) ≡ n
plain f s n new e = with-new f (without_front [] s) new ∙ ap (λ t. f ++ t) (without_none s) ∙ sym e

-- a short name that begins with its group's word: `n` is `a` and the short name, `f` is `a` and the word
grouped : (a w f s r n : List ℕ) → f ≡ a ++ w → starts_with nat_eq (without_front w s) f ≡ false → n ≡ a ++ s → s ≡ w ++ r → with_front f (without_front w s) ≡ n
grouped a w f s r n front new e cut =
    with-new f (without_front w s) new ∙ ap (λ t. f ++ t) (without-append w s r cut) ∙ ap (λ g. g ++ r) front
    ∙ append_assoc a w r ∙ ap (λ t. a ++ t) (sym cut) ∙ sym e

linked : (w s n : List ℕ) → starts_with nat_eq (without_front [] s) (codes "worktrees/" ++ w ++ codes "/") ≡ false → n ≡ codes "worktrees/" ++ (w ++ 47 ∷ s) → with_front (codes "worktrees/" ++ w ++ codes "/") (without_front [] s) ≡ n
linked w s n new e =
    plain (codes "worktrees/" ++ w ++ codes "/") s n new (e ∙ ap (λ t. codes "worktrees/" ++ t) (sym (append_assoc w (codes "/") s)))

pub round_trip : (n : List ℕ) (c : Category) (s : List ℕ) → HasCategory n c s → begins_again c s ≡ false → text_of c s ≡ n
unfolding text_of
round_trip n Tag s h new = plain (codes "refs/tags/") s n new h
round_trip n LocalBranch s h new = plain (codes "refs/heads/") s n new h
round_trip n RemoteBranch s h new = plain (codes "refs/remotes/") s n new h
round_trip n Note s h new = grouped (codes "refs/") (codes "notes/") (codes "refs/notes/") s h.1.0 n refl new h.0 h.1.1
round_trip n Bisect s h new = grouped (codes "refs/") (codes "bisect/") (codes "refs/bisect/") s h.1.0 n refl new h.0 h.1.1
round_trip n WorktreePrivate s h new = grouped (codes "refs/") (codes "worktree/") (codes "refs/worktree/") s h.1.0 n refl new h.0 h.1.1
round_trip n Rewritten s h new = grouped (codes "refs/") (codes "rewritten/") (codes "refs/rewritten/") s h.1.0 n refl new h.0 h.1.1
round_trip n PseudoRef s h new = with_none (without_front [] s) ∙ without_none s ∙ sym h.0
round_trip n MainRef s h new = grouped (codes "main-worktree/") (codes "refs/") (codes "main-worktree/refs/") s h.1.0 n refl new h.0 h.1.1
round_trip n MainPseudoRef s h new = plain (codes "main-worktree/") s n new h.0
round_trip n (LinkedRef w) s h new = linked w.now s n new h.0
round_trip n (LinkedPseudoRef w) s h new = linked w.now s n new h.0
