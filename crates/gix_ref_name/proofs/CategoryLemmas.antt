-- Why a name is in no row of the table of categories.
use Rattle.std.proofs.Common.{◌≡◌, ◌≢◌, ℕ, List, ◌∷◌, ◌++◌, sym, ◌∙◌, ap, subst, codes}
use Rattle.std.proofs.lemmas.List.{append_cancel_left}
use Rattle.gix_ref_name.specs.declared.name.category.Category.TheVariants.{Tag, LocalBranch, RemoteBranch, Note, PseudoRef, MainPseudoRef, MainRef, LinkedPseudoRef, LinkedRef, Bisect, Rewritten, WorktreePrivate}
use Rattle.gix_ref_hash.specs.Bytes.{BeginsWith, NoByte}
use Rattle.gix_ref_name.specs.Categories.{IsPseudoName, NoCategory, NoGroup, NoMain, NoLinked}
use Rattle.gix_ref_hash.proofs.ByteLemmas.{no_split, same_split}

pub no_main_front : (n : List ℕ) → ((rest : List ℕ) → n ≢ codes "main-worktree/" ++ rest) → NoMain n
no_main_front n never = record { main = λ s h. never s h.0; pseudo = λ s h. never s h.0 }

pub no_linked_slash : (n rest : List ℕ) → n ≡ codes "worktrees/" ++ rest → NoByte 47 rest → NoLinked n
no_linked_slash n rest e none =
    let at = λ (w s : List ℕ) (f : n ≡ codes "worktrees/" ++ (w ++ 47 ∷ s)).
    no_split 47 w s (subst (NoByte 47) (append_cancel_left (codes "worktrees/") rest (w ++ 47 ∷ s) (sym e ∙ f)) none) in
    record { linked = λ w s h. at w.now s h.0; pseudo = λ w s h. at w.now s h.0 }

pub no_linked_short : (n rest v short : List ℕ) → n ≡ codes "worktrees/" ++ rest → NoByte 47 v → rest ≡ v ++ 47 ∷ short → (BeginsWith short (codes "refs/") → ⊥) → (IsPseudoName short → ⊥) → NoLinked n
no_linked_short n rest v short e none cut no_refs no_pseudo =
    let at = λ (w s : List ℕ) (f : n ≡ codes "worktrees/" ++ (w ++ 47 ∷ s)) (q : NoByte 47 w).
    (same_split 47 w v s short q none (append_cancel_left (codes "worktrees/") (w ++ 47 ∷ s) (v ++ 47 ∷ short) (sym f ∙ e ∙ ap (λ r. codes "worktrees/" ++ r) cut))).1 in
    record {
      linked = λ w s h. no_refs (subst (λ (t : List ℕ). BeginsWith t (codes "refs/")) (at w.now s h.0 h.1) h.2);
      pseudo = λ w s h. no_pseudo (subst IsPseudoName (at w.now s h.0 h.1) h.2);
    }

-- a name in no row has no category
pub no_category : (n : List ℕ) → ((s : List ℕ) → n ≢ codes "refs/tags/" ++ s) → ((s : List ℕ) → n ≢ codes "refs/heads/" ++ s) → ((s : List ℕ) → n ≢ codes "refs/remotes/" ++ s) → NoGroup n → (IsPseudoName n → ⊥) → NoMain n → NoLinked n → NoCategory n
no_category n tag head remote group pseudo main linked Tag s h = tag s h
no_category n tag head remote group pseudo main linked LocalBranch s h = head s h
no_category n tag head remote group pseudo main linked RemoteBranch s h = remote s h
no_category n tag head remote group pseudo main linked Note s h = group.note s h
no_category n tag head remote group pseudo main linked Bisect s h = group.bisect s h
no_category n tag head remote group pseudo main linked WorktreePrivate s h = group.worktree s h
no_category n tag head remote group pseudo main linked Rewritten s h = group.rewritten s h
no_category n tag head remote group pseudo main linked PseudoRef s h = pseudo (subst IsPseudoName (sym h.0) h.1)
no_category n tag head remote group pseudo main linked MainRef s h = main.main s h
no_category n tag head remote group pseudo main linked MainPseudoRef s h = main.pseudo s h
no_category n tag head remote group pseudo main linked (LinkedRef w) s h = linked.linked w s h
no_category n tag head remote group pseudo main linked (LinkedPseudoRef w) s h = linked.pseudo w s h
