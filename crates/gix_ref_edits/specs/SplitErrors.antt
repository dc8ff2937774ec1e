-- The errors of splits, and those of doubled names among them.
use Rattle.std.specs.Prelude.{◌≡◌, ℕ, List, Option, Result}
use Rattle.gix_ref_name.specs.declared.name.PartialNameRef.{PartialNameRef}
use Rattle.gix_ref_target.specs.declared.target.Target.{Target}
use Rattle.gix_ref_edits.specs.LookUps.{HasLookedUp, LookUpFailed}
use Rattle.gix_ref_name.specs.Names.{full_bytes}
use Rattle.gix_ref_edits.specs.declared.transaction.ext.error.EditError.{EditError}
use Rattle.gix_ref_edits.specs.declared.transaction.ext.error.EditError.TheVariants as doubled
use Rattle.gix_ref_edits.specs.declared.transaction.ext.error.SplitError.{SplitError}
use Rattle.gix_ref_edits.specs.declared.transaction.ext.error.SplitError.TheVariants.{Find, TooManySplits, DoubledName, Memory}

abbrev pub as_split_error : {E : Type 0} → EditError → SplitError E
as_split_error (doubled.DoubledName name) = DoubledName name
as_split_error doubled.Memory = Memory

-- When each error of splits comes: the finder failed; a fifth round found children; a name is doubled. Want of memory may
-- come anywhere, after some calls of the finder.
abbrev pub IsSplitFault : {F E : Type 0} → (F → PartialNameRef → Result (Option Target) E → F →
    Type 0) → F → F → Type 0 → (List ℕ → Type 0) → SplitError E → Type 0
IsSplitFault step before later TooMany Doubled (Find error) = LookUpFailed step before later error
IsSplitFault step before later TooMany Doubled (TooManySplits rounds) = (rounds ≡ 5) × TooMany
IsSplitFault step before later TooMany Doubled (DoubledName name) = Doubled (full_bytes name)
IsSplitFault step before later TooMany Doubled Memory = HasLookedUp step before later

-- when the errors of doubled names come
abbrev pub IsNameFault : (List ℕ → Type 0) → EditError → Type 0
IsNameFault Doubled (doubled.DoubledName name) = Doubled (full_bytes name)
IsNameFault Doubled doubled.Memory = Unit {0}
