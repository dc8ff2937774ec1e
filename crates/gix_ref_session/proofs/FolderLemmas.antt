-- The folders of a name, one after the other.
use Rattle.std.proofs.Common.{◌≡◌, ℕ, suc, ◌+◌, ◌-◌, ◌<◌, ◌≤◌, length, get_or, take, arith, Bool, List, [], ◌∷◌, ◌++◌, inl, inr, ap, sym, subst, refl, ◌∙◌}
use Rattle.std.specs.Prelude.{Decides}
use Rattle.std.proofs.lemmas.Bool.{cases_lt}
use Rattle.std.proofs.lemmas.List.{length-append}
use Rattle.gix_ref_edits.specs.declared.transaction.RefEdit.{RefEdit}
use Rattle.gix_ref_queries.specs.Resolving.{TargetsByName}
use Rattle.gix_ref_session.specs.Clashes.{HasFreeFolders, IsFolderAt, IsFolderOf, IsFreeBefore, IsTaken, IsTakenAt}

take_front : (front rest : List ℕ) → take (length front) (front ++ rest) ≡ front
take_front [] rest = refl
take_front (b ∷ front) rest = ap (λ (xs : List ℕ). b ∷ xs) (take_front front rest)

-- a folder is what stands before its place
pub is_front : (at : ℕ) (folder name : List ℕ) → IsFolderAt at folder name → folder ≡ take at name
is_front at folder name (of, long) = sym (ap (λ (n : ℕ). take n name) (sym long) ∙ (ap (take (length folder)) of.is ∙ take_front folder (47 ∷ of.rest)))

pub is_shorter : (folder name : List ℕ) → IsFolderOf folder name → length folder < length name
is_shorter folder name of = omega (arith, ap length of.is, length-append folder (47 ∷ of.rest))

module _ (find : TargetsByName) (edits : List RefEdit) (name : List ℕ) where
  -- the folder that ends here is not taken either
  pub none_here : (at : ℕ) → IsFreeBefore find edits at name → (IsTakenAt find edits at name → ⊥) → IsFreeBefore find edits (at + 1) name
  none_here at before here folder of lt taken = elim (cases_lt (length folder) at) [
    | inl earlier ↦ before folder of earlier taken
    | inr later ↦ here (folder, (of, omega (arith, lt, later)), taken)
  ]

  -- whether the one that ends here is taken
  pub taken_here : (at : ℕ) (f : List ℕ) (b : Bool) → IsFolderAt at f name → Decides b (IsTaken find edits f) → Decides b (IsTakenAt find edits at name)
  taken_here at f b is d = (
    λ yes. (f, is, d.0 yes),
    λ has. d.1 (subst (IsTaken find edits) (is_front at has.0 name has.1 ∙ sym (is_front at f name is)) has.2),
  )

  -- none is taken
  pub none_at_all : (at : ℕ) → length name ≤ at → IsFreeBefore find edits at name → HasFreeFolders find edits name
  none_at_all at past before folder of taken = before folder of (omega (arith, past, is_shorter folder name of)) taken

-- What two names begin with: a folder that ends there is one of both.
shared_rest : (folder rest other : List ℕ) (at : ℕ) → at ≤ length other → length folder < at → ((k : ℕ) → k < at → get_or (folder ++ 47 ∷ rest) k 0 ≡ get_or other k 0) → (more : List ℕ) × (other ≡ folder ++ 47 ∷ more)
shared_rest [] rest [] at within lt same = absurd (none within lt)
  where
    none : at ≤ 0 → 0 < at → ⊥
    none within lt = omega arith
shared_rest [] rest (o ∷ other) at within lt same = (other, ap (λ (x : ℕ). x ∷ other) (sym (same 0 lt)))
shared_rest (b ∷ folder) rest [] at within lt same = absurd (none within lt)
  where
    none : at ≤ 0 → suc (length folder) < at → ⊥
    none within lt = omega arith
shared_rest (b ∷ folder) rest (o ∷ other) at within lt same =
    let next = shared_rest folder rest other (at - 1) (omega (arith, within, lt)) (omega (arith, lt)) (λ k before. same (suc k) (omega (arith, before, lt))) in
    (next.0, ap (λ (x : ℕ). x ∷ other) (sym (same 0 (omega (arith, lt)))) ∙ ap (λ (xs : List ℕ). b ∷ xs) next.1)

-- they begin with the same bytes, before this place
pub record AreSameBefore (at : ℕ) (name other : List ℕ) : Type 0 where
  pub within : at ≤ length other
  pub same : (k : ℕ) → k < at → get_or name k 0 ≡ get_or other k 0

pub shared_folder : (at : ℕ) (name other folder : List ℕ) → AreSameBefore at name other → IsFolderOf folder name → length folder < at → IsFolderOf folder other
shared_folder at name other folder are of lt =
    let more = shared_rest folder of.rest other at are.within lt (λ k before. ap (λ (n : List ℕ). get_or n k 0) (sym of.is) ∙ are.same k before) in
    record { rest = more.0; is = more.1; full = of.full }

-- the byte that is here is one of both too
pub same_here : (at : ℕ) (name other : List ℕ) → AreSameBefore at name other → at < length other → get_or name at 0 ≡ get_or other at 0 → AreSameBefore (at + 1) name other
same_here at name other are lt here = record {
  within = omega (arith, lt);
  same = λ k before. elim (cases_lt k at) [
    | inl earlier ↦ are.same k earlier
    | inr later ↦ subst (λ (n : ℕ). get_or name n 0 ≡ get_or other n 0) (omega (arith, before, later)) here
  ];
}
