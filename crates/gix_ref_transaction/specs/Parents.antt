-- The parents of the edits of a split list: the place in that list of the edit that each was split from, from 0.
use Rattle.std.specs.Prelude.{ℕ, zero, suc, List, [], ◌∷◌, ◌++◌, Option, Some, None, length, map}
use Rattle.gix_ref_edits.specs.EditValues.{EditValue}
use Rattle.gix_ref_edits.specs.SplitLists.{first_levels, level, referent}
use Rattle.gix_ref_transaction.specs.declared.edit.Edit.{Edit}

-- the parents that the edits of a transaction have
abbrev pub parents_in : List Edit → List (Option ℕ)
parents_in edits = map (λ (e : Edit). e.parent) edits

-- an edit that was given has none
abbrev pub parents_given : List EditValue → List (Option ℕ)
parents_given edits = map (λ (edit : EditValue). None) edits

-- the parent of the child of the edit at a place, where that edit leads to a name
abbrev pub parent_list : (place : ℕ) → (referent : Option (List ℕ)) → List (Option ℕ)
parent_list place None = []
parent_list place (Some name) = Some place ∷ []

module _ (find : List ℕ → Option (List ℕ)) where
  -- the parents of the children of edits, the first of which is at this place
  unfoldable pub parents_from : (place : ℕ) → List EditValue → List (Option ℕ)
  parents_from place [] = []
  parents_from place (edit ∷ edits) = parent_list place
      (referent find edit.name edit.deref) ++ parents_from (suc place) edits

  -- Those of a level: its edits are the children of the level before it, which begins where the levels before that one end.
  unfoldable pub level_parents : List EditValue → ℕ → List (Option ℕ)
  level_parents edits zero = parents_given edits
  level_parents edits (suc k) = parents_from (length (first_levels find edits k))
      (level find edits k)

  -- those of the first levels, joined
  unfoldable pub first_parents : List EditValue → ℕ → List (Option ℕ)
  first_parents edits zero = []
  first_parents edits (suc k) = first_parents edits k ++ level_parents edits k

-- those of the split list, which has five levels
abbrev pub split_parents : (List ℕ → Option (List ℕ)) → List EditValue → List (Option ℕ)
split_parents find edits = first_parents find edits 5
