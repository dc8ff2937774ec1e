-- Chains of symbolic references under the split list: four are split, and five are too many.
use Rattle.std.specs.Prelude.{◌≡◌, ℕ, List, [], ◌∷◌, Bool, true, false, Option, Some, None}
use Rattle.gix_ref_edits.specs.EditValues.{ChangeValue, EditValue}
use Rattle.gix_ref_edits.specs.SplitLists.{IsSplitList, parent_change}

-- an edit of a name, which follows or does not
abbrev pub edit_at : ChangeValue → List ℕ → Bool → EditValue
edit_at change name deref = record { name = name; change = change; deref = deref }

-- what stays with a symbolic reference of the chain
abbrev pub parent_at : ChangeValue → List ℕ → EditValue
parent_at change name = edit_at (parent_change change) name false

-- a, b, c and d lead on, and e is no symbolic reference: each of the five has an edit, in their order, the first four of
-- their logs alone, and the last one with the change as it was given
abbrev pub ChainOfFourSplits : Type 0
ChainOfFourSplits =
    (find : List ℕ → Option (List ℕ)) (change : ChangeValue) (a b c d e : List ℕ)
    → find a ≡ Some b → find b ≡ Some c → find c ≡ Some d → find d ≡ Some e → find e ≡ None
    → IsSplitList find (edit_at change a true ∷ [])
    (parent_at change a ∷ parent_at change b ∷ parent_at change c ∷ parent_at change d
    ∷ edit_at change e false ∷ [])

-- where e leads on too, to whatever name, there is no split list
abbrev pub ChainOfFiveIsTooLong : Type 0
ChainOfFiveIsTooLong =
    (find : List ℕ → Option (List ℕ)) (change : ChangeValue) (a b c d e f : List ℕ)
    → find a ≡ Some b → find b ≡ Some c → find c ≡ Some d → find d ≡ Some e → find e ≡ Some f
    → (split : List EditValue) → ¬ IsSplitList find (edit_at change a true ∷ []) split

-- an edit that does not follow stays as it is, alone
abbrev pub EditThatStaysIsKept : Type 0
EditThatStaysIsKept =
    (find : List ℕ → Option (List ℕ)) (change : ChangeValue) (name : List ℕ)
    → IsSplitList find (edit_at change name false ∷ []) (edit_at change name false ∷ [])
