-- A disk: what is at each path, and what a loss of power may leave of it. Each entry of a folder is, by itself, what it was at
-- that folder's last sync or what any change since made it; of what was appended to a file since its last sync any number of
-- bytes remains, and they are any bytes; and with a folder's own entry goes all below it.
use Rattle.std.specs.Prelude.{◌≡◌, ◌⊎◌, ℕ, ◌-◌, ◌≤◌, List, [], ◌∷◌, ◌++◌, length, take, Option, Some, None, if◌then◌else◌, ◌==◌, bytes_eq}
use Rattle.gix_ref_files.specs.Tree.{Tree, Path, Content, put, no_tree, more, bytes_of, is_folder, has_folders}
use Rattle.gix_ref_files.specs.Tree.Content.{File, Folder}

-- What an entry of a folder is: a file, of whose bytes so many are synced; a folder; or nothing.
pub record DiskItem : Type 0 where
  pub content : Option Content
  pub synced : ℕ

-- What is not synced.
pub record Unsynced : Type 0 where
  -- so many bytes of the file at a path are synced, and all of them where it has fewer
  pub synced : Path → ℕ
  -- what the entry at a path was at the last sync of its folder and since, the newest first, except for what it is now
  pub past : Path → List DiskItem

-- A disk: what is at each path, and what of it is not synced.
pub record Disk : Type 0 where
  pub tree : Tree
  pub unsynced : Unsynced

-- nothing is anywhere, and all is synced
abbrev pub no_disk : Disk
no_disk = record { tree = no_tree; unsynced = record { synced = λ p. 0; past = λ p. [] } }

-- the same file with other bytes; a folder and nothing as they are
abbrev pub refilled : Option Content → List ℕ → Option Content
refilled (Some (File old)) bytes = Some (File bytes)
refilled (Some Folder) bytes = Some Folder
refilled None bytes = None

-- What a loss of power leaves of an item: of a file the synced bytes, and after them any bytes, no more than there were.
abbrev pub Remains : DiskItem → Option Content → Type 0
Remains item left =
    (any : List ℕ) × (length any ≤ length (bytes_of item.content) - item.synced)
    × (left ≡ refilled item.content (take item.synced (bytes_of item.content) ++ any))

-- one of these remains
abbrev pub OneRemains : List DiskItem → Option Content → Type 0
OneRemains [] left = ⊥
OneRemains (item ∷ items) left = Remains item left ⊎ OneRemains items left

-- what the entry at a path is now
abbrev pub item_at : Disk → Path → DiskItem
item_at D p = record { content = D.tree p; synced = D.unsynced.synced p }

-- What the entry at a path may be after a loss of power: what it is now, what it was at the last sync of its folder, or what
-- any change since made it.
abbrev pub MayBe : Disk → Path → Option Content → Type 0
MayBe D p left = OneRemains (item_at D p ∷ D.unsynced.past p) left

-- what can be reached of these entries: with a folder's own entry goes all below it
abbrev pub reachable : Tree → Tree
reachable entries p = if has_folders entries p then entries p else None

-- A loss of power may leave T: each entry, by itself, is one of those that it may be.
abbrev pub Lost : Disk → Tree → Type 0
Lost D T = (entries : Tree) × ((p : Path) → MayBe D p (entries p))
    × ((p : Path) → T p ≡ reachable entries p)

-- What the calls make of a disk.

-- the entry at p becomes this
abbrev pub with_item : Disk → Path → DiskItem → Disk
with_item D p item = record {
  tree = put D.tree p item.content;
  unsynced = record {
    synced = λ q. if bytes_eq p q then item.synced else D.unsynced.synced q;
    past = λ q. if bytes_eq p q then item_at D p ∷ D.unsynced.past p else D.unsynced.past q;
  };
}

-- nothing
abbrev pub nothing : DiskItem
nothing = record { content = None; synced = 0 }

-- a folder
abbrev pub a_folder : DiskItem
a_folder = record { content = Some Folder; synced = 0 }

-- an empty file
abbrev pub empty_file : DiskItem
empty_file = record { content = Some (File []); synced = 0 }

-- the same disk with another tree
abbrev pub with_tree : Disk → Tree → Disk
with_tree D T = record { tree = T; unsynced = D.unsynced }

-- an empty file is made at p
abbrev pub created_on : Disk → Path → Disk
created_on D p = with_item D p empty_file

-- the file at p has these bytes more
abbrev pub appended_on : Disk → Path → List ℕ → Disk
appended_on D p bytes = with_tree D (put D.tree p (more (D.tree p) bytes))

-- what was at one path is at another
abbrev pub moved_on : Disk → Path → Path → Disk
moved_on D from to = with_item (with_item D from nothing) to (item_at D from)

-- nothing is at p any more
abbrev pub removed_on : Disk → Path → Disk
removed_on D p = with_item D p nothing

-- a folder is at p; where one was, nothing has changed
abbrev pub with_folder_on : Disk → Path → Disk
with_folder_on D p = if is_folder (D.tree p) then D else with_item D p a_folder

-- folders are at all of these
abbrev pub with_folders_on : Disk → List Path → Disk
with_folders_on D [] = D
with_folders_on D (p ∷ ps) = with_folders_on (with_folder_on D p) ps

-- all bytes of the file at p are synced
abbrev pub file_synced : Disk → Path → Disk
file_synced D p = record {
  tree = D.tree;
  unsynced = record {
    synced = λ q. if bytes_eq p q then length (bytes_of (D.tree p)) else D.unsynced.synced q;
    past = D.unsynced.past;
  };
}

-- the folder after the last slash so far, `folder`, where `seen` was passed and the rest is to come
abbrev pub folder_after : (seen folder : Path) → List ℕ → Path
folder_after seen folder [] = folder
folder_after seen folder (c ∷ rest) = folder_after (seen ++ c ∷ [])
    (if c == 47 then seen else folder) rest

-- the folder of a path: what is before its last slash, unless that is its first byte
abbrev pub folder_of : Path → Path
folder_of [] = []
folder_of (c ∷ rest) = folder_after (c ∷ []) [] rest

-- the entries of the folder p are what they are now
abbrev pub folder_synced : Disk → Path → Disk
folder_synced D p = record {
  tree = D.tree;
  unsynced = record {
    synced = D.unsynced.synced;
    past = λ q. if bytes_eq p (folder_of q) then [] else D.unsynced.past q;
  };
}
