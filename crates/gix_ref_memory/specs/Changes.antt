-- What files in memory mean: the disk after all changes, and every disk on the way there.
use Rattle.std.specs.Prelude.{◌≡◌, ◌⊎◌, ℕ, zero, suc, ◌+◌, List, [], ◌∷◌, length, take, Bool, true, false, ◌||◌, Option, Some, None, Vec, if◌then◌else◌, bytes_eq}
use Rattle.std.specs.declared.alloc.Global.{Global}
use Rattle.std.proofs.Common.{inr, refl, sym, ap, ◌∙◌}
use Rattle.gix_ref_files.specs.Tree.{Tree, Path, Content, put, no_tree, bytes_of, is_folder, is_blocked, fronts, with_folders}
use Rattle.gix_ref_files.specs.Tree.Content.{File, Folder}
use Rattle.gix_ref_files.specs.Disk.{Disk, DiskItem, no_disk, with_item, with_tree, nothing, a_folder, item_at, file_synced, folder_synced}
use Rattle.gix_ref_files.specs.Files.{Meaning, disk_of}
use Rattle.gix_ref_memory.specs.declared.memory.changes.Change.{Change}
use Rattle.gix_ref_memory.specs.declared.memory.changes.Change.TheVariants.{Put, Append, Move, SyncFile, SyncFolder}
use Rattle.gix_ref_memory.specs.declared.memory.changes.Stored.{Stored}
use Rattle.gix_ref_memory.specs.declared.memory.changes.Stored.TheVariants.{Bytes, Folder as StoredFolder}
use Rattle.gix_ref_memory.specs.declared.memory.changes.Known.{Known}
use Rattle.gix_ref_memory.specs.declared.memory.changes.Present.{Present}
use Rattle.gix_ref_memory.specs.declared.memory.changes.Present.TheVariants.{FileOf, FolderOf}

-- what a change puts at a path
abbrev pub content_of : Option Stored → Option Content
content_of None = None
content_of (Some (Bytes bytes)) = Some (File bytes.items)
content_of (Some StoredFolder) = Some Folder

-- the same of what was found
abbrev pub found_content : Option Present → Option Content
found_content None = None
found_content (Some (FileOf bytes)) = Some (File bytes.now)
found_content (Some FolderOf) = Some Folder

-- the same with the number of bytes that are synced
abbrev pub found_item : Known → DiskItem
found_item known = record { content = found_content known.content; synced = known.synced }

-- the path at which a change puts something, or that it syncs
abbrev pub place_of : Change → Path
place_of (Put path stored synced) = path.items
place_of (Append path whole had) = path.items
place_of (Move from to bytes synced) = to.items
place_of (SyncFile path) = path.items
place_of (SyncFolder path) = path.items

-- what is at q after a change, if this was there before
abbrev pub content_after : Change → Path → Option Content → Option Content
content_after (Put path stored synced) q content = if bytes_eq path.items q then content_of stored
    else content
content_after (Append path whole had) q content = if bytes_eq path.items q
    then Some (File whole.items) else content
content_after (Move from to bytes synced) q content = if bytes_eq to.items q
    then Some (File bytes.items) else if bytes_eq from.items q then None else content
content_after (SyncFile path) q content = content
content_after (SyncFolder path) q content = content

-- the same of several changes
abbrev pub contents_after : List Change → Path → Option Content → Option Content
contents_after [] q content = content
contents_after (change ∷ changes) q content =
    contents_after changes q (content_after change q content)

-- the tree after a change
abbrev pub changed : Change → Tree → Tree
changed change T q = content_after change q (T q)

-- the tree after all of these
abbrev pub after_changes : List Change → Tree → Tree
after_changes [] T = T
after_changes (change ∷ changes) T = after_changes changes (changed change T)

-- the tree that these changes make
abbrev pub tree_after : Vec Change Global → Tree
tree_after changes = after_changes changes.items no_tree

-- the item of what a change puts at a path
abbrev pub put_item : Option Stored → Bool → DiskItem
put_item stored synced = record {
  content = content_of stored;
  synced = if synced
      then length (bytes_of (content_of stored)) else 0;
}

-- the entry at p becomes this, and counts as synced or not
abbrev pub with_item_as : Bool → Disk → Path → DiskItem → Disk
with_item_as synced D p item = record {
  tree = put D.tree p item.content;
  unsynced = record {
    synced = λ q. if bytes_eq p q then item.synced else D.unsynced.synced q;
    past = λ q. if bytes_eq p q then (if synced then [] else item_at D p ∷ D.unsynced.past p)
        else D.unsynced.past q;
  };
}

-- the disk after a change
abbrev pub changed_on : Change → Disk → Disk
changed_on (Put path stored synced) D = with_item_as synced D path.items (put_item stored synced)
changed_on (Append path whole had) D = with_tree D (put D.tree path.items (Some (File whole.items)))
changed_on (Move from to bytes synced) D = with_item (with_item D from.items nothing) to.items
    (record { content = Some (File bytes.items); synced = synced })
changed_on (SyncFile path) D = file_synced D path.items
changed_on (SyncFolder path) D = folder_synced D path.items

-- the disk after all of these
abbrev pub replayed : List Change → Disk → Disk
replayed [] D = D
replayed (change ∷ changes) D = replayed changes (changed_on change D)

-- what a stop or a loss of power in a change finds, before it is whole
abbrev pub Begun : Change → Disk → Disk → Type 0
Begun (Put path stored synced) D E = E ≡ D
Begun (Append path whole had) D E = (E ≡ D) ⊎ ((n : ℕ)
    × (E ≡ with_tree D (put D.tree path.items (Some (File (take (had + n) whole.items))))))
Begun (Move from to bytes synced) D E = E ≡ D
Begun (SyncFile path) D E = E ≡ D
Begun (SyncFolder path) D E = E ≡ D

-- what is found when so many of the changes were made, or later
abbrev pub Found : List Change → ℕ → Disk → Disk → Type 0
Found [] t D E = E ≡ D
Found (change ∷ changes) zero D E = Begun change D E ⊎ Found changes zero (changed_on change D) E
Found (change ∷ changes) (suc t) D E = Found changes t (changed_on change D) E

-- What these changes mean: the clock is their number.
abbrev pub meaning_after : List Change → Meaning
meaning_after changes = record {
  tree = after_changes changes no_tree;
  unsynced = (replayed changes no_disk).unsynced;
  moment = length changes;
  found_since = λ t D. Found changes t no_disk D;
}

-- the disk that these changes make
abbrev pub disk_after : Vec Change Global → Disk
disk_after changes = disk_of (meaning_after changes.items)

-- the disk after all changes is found at each moment
pub now_is_found : (changes : List Change) (t : ℕ) (D : Disk) →
    Found changes t D (replayed changes D)
now_is_found [] t D = refl
now_is_found (change ∷ changes) zero D = inr (now_is_found changes zero (changed_on change D))
now_is_found (change ∷ changes) (suc t) D = now_is_found changes t (changed_on change D)

-- since the last moment there is no other
pub only_now : (changes : List Change) (D E : Disk) → Found changes (length changes) D E →
    E ≡ replayed changes D
only_now [] D E now = now
only_now (change ∷ changes) D E now = only_now changes (changed_on change D) E now

-- the tree of such a disk is that of the changes
pub replayed_tree : (changes : List Change) (D : Disk) →
    (replayed changes D).tree ≡ after_changes changes D.tree
replayed_tree [] D = refl
replayed_tree (change ∷ changes) D = replayed_tree changes (changed_on change D) ∙ ap
    (after_changes changes) (one change)
  where
    one : (change : Change) → (changed_on change D).tree ≡ changed change D.tree
    one (Put path stored synced) = refl
    one (Append path whole had) = refl
    one (Move from to bytes synced) = refl
    one (SyncFile path) = refl
    one (SyncFolder path) = refl

pub disk_is : (changes : List Change) → disk_of (meaning_after changes) ≡ replayed changes no_disk
disk_is changes = ap (with_tree (replayed changes no_disk)) (sym (replayed_tree changes no_disk))

-- a folder is made, and counts as synced or not; where one was, nothing has changed
abbrev pub with_folder_as : Bool → Disk → Path → Disk
with_folder_as synced D p = if is_folder (D.tree p) then D else with_item_as synced D p a_folder

-- all of these are made
abbrev pub with_folders_as : Bool → Disk → List Path → Disk
with_folders_as synced D [] = D
with_folders_as synced D (p ∷ ps) = with_folders_as synced (with_folder_as synced D p) ps

-- a beginning of these folders is made
abbrev pub MakingFrontsOn : Bool → Disk → List Path → Disk → Type 0
MakingFrontsOn synced before folders D = (n : ℕ)
    × (D ≡ with_folders_as synced before (take n folders))

-- some of these changes puts something at q
abbrev pub IsChangedPath : List Change → Path → Type 0
IsChangedPath [] q = ⊥
IsChangedPath (change ∷ changes) q = (place_of change ≡ q) ⊎ IsChangedPath changes q

-- the results of `put`, and the tree T that each leaves
abbrev pub Puts : Tree → Path → List ℕ → Tree → Bool → Type 0
Puts before p bytes T true = (is_folder (before p) ≡ false) × (is_blocked before p ≡ false)
    × (T ≡ put (with_folders before (fronts p)) p (Some (File bytes)))
Puts before p bytes T false = ((is_folder (before p) || is_blocked before p) ≡ true) × (T ≡ before)

-- the disk after a file was put, with folders that lead to it: all of it counts as synced
abbrev pub placed_on : Disk → Path → List ℕ → Disk
placed_on D p bytes = with_item_as true (with_folders_as true D (fronts p)) p
    (record { content = Some (File bytes); synced = length bytes })

-- the item at a path after a change
abbrev pub item_after : Change → Path → DiskItem → DiskItem
item_after (Put path stored synced) q item = if bytes_eq path.items q
    then put_item stored synced else item
item_after (Append path whole had) q item = if bytes_eq path.items q
    then record { content = Some (File whole.items); synced = item.synced } else item
item_after (Move from to bytes synced) q item =
    if bytes_eq to.items q then record { content = Some (File bytes.items); synced = synced }
    else if bytes_eq from.items q then nothing else item
item_after (SyncFile path) q item = if bytes_eq path.items q
    then record { content = item.content; synced = length (bytes_of item.content) } else item
item_after (SyncFolder path) q item = item

-- the same of several changes
abbrev pub items : List Change → Path → DiskItem → DiskItem
items [] q item = item
items (change ∷ changes) q item = items changes q (item_after change q item)
