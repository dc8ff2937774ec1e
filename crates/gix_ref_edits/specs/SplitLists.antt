-- The split list: what a list of edits becomes where edits follow symbolic references. An edit of a symbolic reference is
-- split into one of its log alone, and a child, the edit of the reference that it leads to (`git update-ref` without
-- `--no-deref`). `find` says of a name to which name its reference leads, where it is symbolic.
use Rattle.std.specs.Prelude.{◌≡◌, ℕ, zero, suc, List, [], ◌∷◌, ◌++◌, Bool, true, false, Option, Some, None, map}
use Rattle.std.specs.List.{flat_map}
use Rattle.gix_ref_edits.specs.declared.transaction.RefLog.TheVariants.{Only}
use Rattle.gix_ref_edits.specs.EditValues.{ChangeValue, EditValue}
use Rattle.gix_ref_edits.specs.EditValues.ExpectedValue.{anything}
use Rattle.gix_ref_edits.specs.EditValues.ChangeValue.{update, delete}

-- The change that stays with a symbolic reference: of its log alone. An update's expectation goes to the child, and a
-- deletion has its expectation of both.
abbrev pub parent_change : ChangeValue → ChangeValue
parent_change (update mode forced message expected new) = update Only forced message anything new
parent_change (delete expected mode) = delete expected Only

-- an edit once its reference was looked up: it follows no more
abbrev pub looked_up : EditValue → Option (List ℕ) → EditValue
looked_up edit None = record edit { deref = false }
looked_up edit (Some referent) =
    record { name = edit.name; change = parent_change edit.change; deref = false }

-- the same change of the reference that it leads to, which is followed in turn
abbrev pub child_of : EditValue → List ℕ → EditValue
child_of edit referent = record { name = referent; change = edit.change; deref = true }

abbrev pub child_list : EditValue → Option (List ℕ) → List EditValue
child_list edit None = []
child_list edit (Some referent) = child_of edit referent ∷ []

-- where an edit's reference leads, of an edit that follows
abbrev pub referent : (List ℕ → Option (List ℕ)) → List ℕ → Bool → Option (List ℕ)
referent find name true = find name
referent find name false = None

module _ (find : List ℕ → Option (List ℕ)) where
  -- edits after their round, in which each that follows is looked up
  unfoldable pub after_round : List EditValue → List EditValue
  after_round = map (λ edit. looked_up edit (referent find edit.name edit.deref))

  -- the children of edits, in order
  unfoldable pub children : List EditValue → List EditValue
  children = flat_map (λ edit. child_list edit (referent find edit.name edit.deref))

  -- level 0 is the list as given; each level has the children of the one before it
  unfoldable pub level : List EditValue → ℕ → List EditValue
  level edits zero = edits
  level edits (suc k) = children (level edits k)

  -- the first levels, joined
  unfoldable pub first_levels : List EditValue → ℕ → List EditValue
  first_levels edits zero = []
  first_levels edits (suc k) = first_levels edits k ++ level edits k

  -- The split list has levels 0 to 4, each after its round; it exists only where no edit of level 4 has a child.
  pub record IsSplitList (edits split : List EditValue) : Type 0 where
    pub ends : level edits 5 ≡ []
    pub levels : split ≡ after_round (first_levels edits 5)
