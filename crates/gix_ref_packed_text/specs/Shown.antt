-- What a window shows.
use Rattle.gix_ref_packed_text.specs.declared.packed.window.InWindow.{InWindow}
use Rattle.gix_ref_packed_text.specs.declared.packed.window.InWindow.TheVariants.{NeedMore, Here}

-- the window shows a value, and this holds of it
abbrev pub IfHere : {T : Type 0} → InWindow T → (T → Type 0) → Type 0
IfHere NeedMore P = Unit {0}
IfHere (Here x) P = P x

-- the window shows a value
abbrev pub IsHere : {T : Type 0} → InWindow T → Type 0
IsHere NeedMore = ⊥
IsHere (Here x) = Unit {0}
