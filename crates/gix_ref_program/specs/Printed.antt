-- Items that are printed one after the other.
use Rattle.std.specs.Prelude.{ℕ, List, ◌++◌, codes, Result, if◌then◌else◌}
use Rattle.std.specs.List.{list_any}
use Rattle.std.specs.Result.{is_err}

-- the variant of a fault
abbrev pub fault_line : List ℕ → List ℕ
fault_line variant = codes "fault: " ++ (variant ++ codes "\n")

-- the status: 1 where there is a fault
abbrev pub items_status : {A E : Type 0} → List (Result A E) → ℕ
items_status items = if list_any is_err items then 1 else 0
