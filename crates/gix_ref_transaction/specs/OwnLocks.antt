-- What the locks of a transaction add to a tree, and what is left of it when they are removed again.
use Rattle.std.specs.Prelude.{◌≡◌, ◌⊎◌, ℕ, ◌+◌, List, [], ◌∷◌, Bool, true, Option, Some, None, bytes_eq, map, Vec, if◌then◌else◌}
use Rattle.std.specs.List.{list_any}
use Rattle.std.specs.declared.alloc.Global.{Global}
use Rattle.gix_ref_files.specs.Tree.{Tree, Path, Content, fronts, is_file}
use Rattle.gix_ref_files.specs.Disk.{Disk}
use Rattle.gix_ref_files.specs.Files.{Meaning, disk_of, Passes}
use Rattle.gix_ref_theory.specs.OnDisks.{IsAmong, IsAsBefore}
use Rattle.gix_ref_theory.specs.Views.{Write, IsOwnLock}
use Rattle.gix_ref_files.specs.Tree.Content.{File, Folder}

-- q is one of these
abbrev pub is_in : List Path → Path → Bool
is_in paths q = list_any (λ p. bytes_eq p q) paths

-- how often q is among these
abbrev pub times : Path → List Path → ℕ
times q [] = 0
times q (p ∷ paths) = (if bytes_eq p q then 1 else 0) + times q paths

-- q is on the way to one of these
abbrev pub leads_to : List Path → Path → Bool
leads_to paths q = list_any (λ p. is_in (fronts p) q) paths

-- the bytes of owned paths
abbrev pub paths_of : List (Vec ℕ Global) → List Path
paths_of paths = map (λ (p : Vec ℕ Global). p.items) paths

-- what a transaction adds: a file at a lock that it took, a folder on the way to one of its locks
abbrev pub IsOurs : (taken all : List Path) → Path → Option Content → Type 0
IsOurs taken all q (Some (File bytes)) = is_in taken q ≡ true
IsOurs taken all q (Some Folder) = leads_to all q ≡ true
IsOurs taken all q None = ⊥

-- All that was there before is as it was, and nothing more is there but what the transaction adds.
abbrev pub AddsLocks : (taken all : List Path) → Tree → Tree → Type 0
AddsLocks taken all before T = (q : Path) → (T q ≡ before q)
    ⊎ ((before q ≡ None) × IsOurs taken all q (T q))

-- Nothing changed but that files at some of these locks are gone.
abbrev pub RemovesLocks : List Path → Tree → Tree → Type 0
RemovesLocks locks before T = (q : Path) → (T q ≡ before q)
    ⊎ ((is_in locks q ≡ true) × (T q ≡ None) × (is_file (before q) ≡ true))

-- All that was done is that some of these locks were removed: where they are the transaction's, a disk that was among its writes
-- stays where it was.
abbrev pub OnlyRemoves : List Path → Meaning → Meaning → Type 0
OnlyRemoves locks old new =
    (locked staying : List Path) (writes : List Write) (first : Disk) →
    ((q : Path) → is_in locks q ≡ true → IsOwnLock locked q) →
    IsAmong locked staying writes first (disk_of old) →
    Passes old new (IsAmong locked staying writes first)

-- All that was done is that some of these locks were taken, and got a text: where they are the transaction's, a disk that was as the one at
-- its beginning stays so.
abbrev pub OnlyLocks : List Path → Meaning → Meaning → Type 0
OnlyLocks locks old new =
    (locked staying : List Path) (first : Disk) →
    ((q : Path) → is_in locks q ≡ true → IsOwnLock locked q) →
    IsAsBefore locked staying first (disk_of old) → Passes old new (IsAsBefore locked staying first)
