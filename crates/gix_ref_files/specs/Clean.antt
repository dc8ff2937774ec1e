-- Folders in which nothing has changed since they were last synced: to sync such a folder once more changes nothing of the disk.
use Rattle.std.specs.Prelude.{◌≡◌, ◌≢◌, ◌≤◌, ◌<◌, ℕ, [], length, take, get_or, true}
use Rattle.gix_ref_files.specs.Tree.{Path, has_folders}
use Rattle.gix_ref_files.specs.Disk.{Disk, folder_of}
use Rattle.gix_ref_files.specs.declared.clean.Clean.{Clean}
use Rattle.gix_ref_files.specs.declared.clean.Known.{Known}

-- each entry of the folder is what it was at the folder's last sync
abbrev pub IsClean : Disk → Path → Type 0
IsClean D f = (q : Path) → folder_of q ≡ f → D.unsynced.past q ≡ []

-- The folders of a path that end at a slash from one place on and before another are clean; and folders lead to the path.
pub record AreClean (D : Disk) (path : Path) (from end : ℕ) : Type 0 where
  pub clean : (k : ℕ) → from ≤ k → k < end → get_or path k 0 ≡ 47 → IsClean D (take k path)
  pub folders : has_folders D.tree path ≡ true

-- what a run knows of one path
abbrev pub Holds : Disk → Clean → Type 0
Holds D c = AreClean D c.path.now c.from c.end

-- what it knows of three
pub record AreKnown (D : Disk) (known : Known) : Type 0 where
  pub line : Holds D known.line
  pub other_line : Holds D known.other_line
  pub place : Holds D known.place

-- the folder leads to the path of these
pub record LeadsTo (f : Path) (c : Clean) : Type 0 where
  pub within : length f < length c.path.now
  pub slash : get_or c.path.now (length f) 0 ≡ 47
  pub front : take (length f) c.path.now ≡ f

-- it is none of these
abbrev pub IsNotAmong : Path → Clean → Type 0
IsNotAmong f c = (k : ℕ) → c.from ≤ k → k < c.end → get_or c.path.now k 0 ≡ 47 →
    take k c.path.now ≢ f

-- two paths are alike up to a slash at this place
pub record ShareFolder (n : ℕ) (p q : Path) : Type 0 where
  pub within : n < length p
  pub other : n < length q
  pub slash : get_or p n 0 ≡ 47
  pub other_slash : get_or q n 0 ≡ 47
  pub same : take n p ≡ take n q

-- From D to E entries change in the folder f alone, and folders stay.
pub record OnlyIn (f : Path) (D E : Disk) : Type 0 where
  pub past : (q : Path) → folder_of q ≢ f → E.unsynced.past q ≡ D.unsynced.past q
  pub folders : (q : Path) → has_folders D.tree q ≡ true → has_folders E.tree q ≡ true

-- From D to E entries change in folders whose path has so many bytes at least, and folders stay.
pub record OnlyFrom (end : ℕ) (D E : Disk) : Type 0 where
  pub past : (q : Path) → length (folder_of q) < end → E.unsynced.past q ≡ D.unsynced.past q
  pub folders : (q : Path) → has_folders D.tree q ≡ true → has_folders E.tree q ≡ true
