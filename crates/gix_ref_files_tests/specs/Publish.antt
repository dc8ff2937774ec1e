-- Two locks renamed to their places, one after the other.
use Rattle.std.specs.Prelude.{◌≡◌, ◌≢◌, ◌⊎◌}
use Rattle.gix_ref_files.specs.Tree.{Tree, Path}

-- the place has what it had
abbrev pub IsOldPlace : Path → Tree → Tree → Type 0
IsOldPlace place before T = T place ≡ before place

-- the place has what its lock had
abbrev pub IsNew : Path → Path → Tree → Tree → Type 0
IsNew lock place before T = T place ≡ before lock

-- Each place is old or new, and the second is new only where the first is.
pub record ArePublishedInOrder (first_lock first second_lock second : Path)
    (before T : Tree) : Type 0 where
  pub first_place : IsOldPlace first before T ⊎ IsNew first_lock first before T
  pub second_place : IsOldPlace second before T ⊎ IsNew second_lock second before T
  pub order : IsOldPlace second before T ⊎ IsNew first_lock first before T

-- four paths, of which no two meet where the renames would mix them up
pub record ArePathsApart (first_lock first second_lock second : Path) : Type 0 where
  pub places : first ≢ second
  pub first_lock_apart : first_lock ≢ second
  pub second_lock_apart : second_lock ≢ first
  pub locks : first_lock ≢ second_lock
