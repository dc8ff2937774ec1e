-- The lock files of a store: those of its references, and that of `packed-refs` (`gitrepository-layout`).
use Rattle.std.specs.Prelude.{◌≡◌, ◌≢◌, ◌⊎◌, ℕ, List, ◌∷◌, [], ◌++◌, Vec, true}
use Rattle.std.specs.Ordering.{nat_cmp}
use Rattle.std.specs.declared.cmp.Ordering.{Ordering}
use Rattle.std.specs.List.{All}
use Rattle.std.specs.List.Sorted.{IsStrictlySortedBy}
use Rattle.std.specs.Cmp.Lexicographic.{slice_cmp}
use Rattle.std.specs.declared.alloc.Global.{Global}
use Rattle.gix_ref_files.specs.Tree.{Tree, Path, is_file}
use Rattle.gix_ref_files.specs.Lock.{lock_of}
use Rattle.gix_ref_files.specs.Files.{FaultCounts, IsMet}
use Rattle.gix_ref_files.specs.declared.files.FileError.TheVariants as faulty
use Rattle.gix_ref_theory.specs.Readings.{Store}
use Rattle.gix_ref_lookup.specs.Lookups.{meaning_in, Among}
use Rattle.gix_ref_lookup.specs.declared.settings.Settings.{Settings}
use Rattle.gix_ref_listing.specs.LooseListings.{IsFront}
use Rattle.gix_ref_listing.specs.Walks.{AddsOnly}
use Rattle.gix_ref_locks.specs.declared.locks.Error.{Error}
use Rattle.gix_ref_locks.specs.declared.locks.Error.TheVariants.{Memory, Io}

-- the lock of the reference with this name is at this path
abbrev pub IsLockOf : Store → (name : List ℕ) → Path → Type 0
IsLockOf s name path = (s.is_reference name ≡ true) × (path ≡ lock_of (s.place name))

-- the path of the lock of `packed-refs`
abbrev pub packed_lock : Store → Path
packed_lock s = lock_of s.packed_path

-- a lock of the store is at this path, if there is one: that of a reference, or that of `packed-refs`
abbrev pub IsLockPlace : Store → Path → Type 0
IsLockPlace s path = (path ≡ packed_lock s) ⊎ ((name : List ℕ) × IsLockOf s name path)

-- and a file is there
abbrev pub IsLockFile : Store → Tree → Path → Type 0
IsLockFile s T path = IsLockPlace s path × (is_file (T path) ≡ true)

-- only lock files of the store in this tree are added
abbrev pub AddsOnlyLocks : Store → Tree → (old new : List (Vec ℕ Global)) → Type 0
AddsOnlyLocks s T old new = AddsOnly (λ (p : Vec ℕ Global). IsLockFile s T p.items) old new

-- this path is one of these
abbrev pub HasPath : Path → List (Vec ℕ Global) → Type 0
HasPath path paths = Among (λ p. p.items ≡ path) paths

-- the order of paths is that of their bytes
abbrev pub path_cmp : Vec ℕ Global → Vec ℕ Global → Ordering
path_cmp a b = slice_cmp nat_cmp a.items b.items

-- The lock files of a store in this tree: by ascending bytes, so each once; each of them; and nothing else.
pub record AreLockFiles (s : Store) (T : Tree) (paths : List (Vec ℕ Global)) : Type 0 where
  pub ascending : IsStrictlySortedBy path_cmp paths
  pub each : (path : Path) → IsLockFile s T path → HasPath path paths
  pub only : All (λ p. IsLockFile s T p.items) paths

-- the path of the lock of `packed-refs`, or that of a folder of references of the store or of one below it
abbrev pub IsLookedAt : Settings → Path → Type 0
IsLookedAt settings path = (path ≡ packed_lock (meaning_in settings))
    ⊎ ((front folder : List ℕ) × IsFront settings front × (path ++ 47 ∷ [] ≡ front ++ folder))

-- why the lock files were not listed: no memory; or a fault that was counted, of a call for this path
abbrev pub IsLockFailure : Settings → (before now : FaultCounts) → Error → Type 0
IsLockFailure settings before now Memory = Unit {0}
IsLockFailure settings before now (Io path source) = (source ≢ faulty.Memory)
    × IsMet source before now × IsLookedAt settings path.items
