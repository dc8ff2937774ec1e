-- No two edits that are accepted have one place, since each takes its lock.
use Rattle.std.proofs.Common.{◌≡◌, ◌≢◌, inl, inr, suc, List, [], ◌∷◌, ◌++◌, true, All, refl, sym, ◌∙◌, ap, subst, arith}
use Rattle.std.specs.Prelude.{bytes_eq}
use Rattle.std.proofs.lemmas.List.{map-append}
use Rattle.gix_ref_hash.specs.declared.hash.Kind.{Kind}
use Rattle.gix_ref_files.specs.Tree.{Tree, Path}
use Rattle.gix_ref_files.specs.Lock.{lock_of}
use Rattle.gix_ref_theory.specs.Between.{AreEdits, IsEdit}
use Rattle.gix_ref_theory.specs.Edits.{Edit}
use Rattle.gix_ref_theory.specs.Readings.{Store}
use Rattle.gix_ref_transaction.specs.OwnLocks.{is_in}
use Rattle.gix_ref_transaction.specs.Causes.{NoCause, locks_of}
use Rattle.gix_ref_transaction.specs.CommittedEdits.{planned}
use Rattle.gix_ref_edits.specs.RefEdits.{name_of}
use Rattle.gix_ref_edits.specs.declared.transaction.RefEdit.{RefEdit}
use Rattle.gix_ref_transaction.proofs.Adds.{clash, any_left, any_right, in_here}

-- equal lists have equal parts
pub heads : {X : Type 0} {x y : X} {xs ys : List X} → x ∷ xs ≡ y ∷ ys → (x ≡ y) × (xs ≡ ys)
heads h = (cc, cc)

module _ (s : Store) (kind : Kind) (before : Tree) where
  -- the place of an edit whose lock is taken is that of none after it
  later_apart : (seen given : List RefEdit) → NoCause s kind before seen given → (e : RefEdit) → is_in (locks_of s seen) (lock_of (s.place (name_of e))) ≡ true →
      (x : Edit) → IsEdit x (planned given) → s.place (name_of e) ≢ s.place x.name
  later_apart seen [] causes e within x none same = absurd none
  later_apart seen (g ∷ given) causes e within x (inl here) same =
      clash (subst (λ (p : Path). is_in (locks_of s seen) (lock_of p) ≡ true) (same ∙ ap (λ (y : Edit). s.place y.name) (sym here)) within) causes.0.0.ours
  later_apart seen (g ∷ given) causes e within x (inr later) same =
      later_apart (seen ++ g ∷ []) given causes.1 e
      (subst (λ locks. is_in locks (lock_of (s.place (name_of e))) ≡ true) (sym (map-append (λ (r : RefEdit). lock_of (s.place (name_of r))) seen (g ∷ [])))
      (any_left (λ l. bytes_eq l (lock_of (s.place (name_of e)))) (locks_of s seen) (locks_of s (g ∷ [])) within)) x later same

  -- so they are edits of as many places
  pub edits_apart : (seen given : List RefEdit) → NoCause s kind before seen given → All (λ (e : RefEdit). s.is_reference (name_of e) ≡ true) given → AreEdits s (planned given)
  edits_apart seen [] causes references = tt
  edits_apart seen (e ∷ given) causes references = (
    references 0 e (omega arith),
    later_apart (seen ++ e ∷ []) given causes.1 e
        (subst (λ locks. is_in locks (lock_of (s.place (name_of e))) ≡ true) (sym (map-append (λ (r : RefEdit). lock_of (s.place (name_of r))) seen (e ∷ [])))
        (any_right (λ l. bytes_eq l (lock_of (s.place (name_of e)))) (locks_of s seen) (locks_of s (e ∷ [])) (in_here (lock_of (s.place (name_of e))) (lock_of (s.place (name_of e))) [] refl))),
    edits_apart (seen ++ e ∷ []) given causes.1 (λ k d lt. references (suc k) d (omega (arith, lt))),
  )
