-- A loss of power by a choice, and two wrong orders of syncs.
use Rattle.std.specs.Prelude.{◌≡◌, ◌-◌, List, [], ◌∷◌, ◌++◌, length, take, replicate, Bool, true, false, Option, Some, None, if◌then◌else◌, codes}
use Rattle.gix_ref_files.specs.Tree.{Tree, Path, Content, bytes_of}
use Rattle.gix_ref_files.specs.Tree.Content.{File}
use Rattle.gix_ref_files.specs.Disk.{DiskItem, Disk, item_at, refilled, reachable, moved_on, Lost}
use Rattle.gix_ref_files.specs.Calls.{IsMovable}
use Rattle.gix_ref_files.specs.Settled.{IsWholeAt}

-- the entry as it was when its folder was last synced: the oldest one
abbrev pub last_synced : DiskItem → List DiskItem → DiskItem
last_synced item [] = item
last_synced item (older ∷ past) = last_synced older past

-- what is left of an item: its bytes, or in place of those that were not synced as many bytes 0x3F
abbrev pub kept : Bool → DiskItem → Option Content
kept true item = item.content
kept false item =
    refilled item.content (take item.synced (bytes_of item.content)
    ++ replicate (length (bytes_of item.content) - item.synced) 63)

-- The entries after a loss of power where it is chosen for each path whether the entry is as it is now, and else as last
-- synced, and whether the file has its bytes that were not synced.
abbrev pub chosen : (entries ends : Path → Bool) → Disk → Tree
chosen entries ends D p =
    kept (ends p) (if entries p then item_at D p else last_synced (item_at D p) (D.unsynced.past p))

-- the tree after such a loss
abbrev pub lost_by : (entries ends : Path → Bool) → Disk → Tree
lost_by entries ends D = reachable (chosen entries ends D)

-- a disk of which all is synced
abbrev pub all_synced : Tree → Disk
all_synced T =
    record { tree = T; unsynced = record { synced = λ p. length (bytes_of (T p)); past = λ p. [] } }

-- a rename of a file on a disk
abbrev pub RenamesOn : Disk → Path → Path → Disk → Type 0
RenamesOn D from to E = IsMovable D.tree from to × (E ≡ moved_on D from to)

-- A wrong order: the rename of a lock whose bytes are not synced. The place, which held no file, may then hold other bytes.
abbrev pub UnsyncedLockIsWrong : Type 0
UnsyncedLockIsWrong =
    (D E : Disk) × (T : Tree) × (D.tree (codes "a") ≡ None)
    × (D.tree (codes "a.lock") ≡ Some (File (codes "I")))
    × RenamesOn D (codes "a.lock")
    (codes "a") E × Lost E T × (T (codes "a") ≡ Some (File (codes "?")))

-- A wrong order: two renames of whole locks, and all syncs of folders after both. The second may show and the first not.
abbrev pub SyncAtTheEndIsWrong : Type 0
SyncAtTheEndIsWrong =
    (D M E : Disk) × (T : Tree) × IsWholeAt D (codes "a.lock") (codes "I")
    × IsWholeAt D (codes "b.lock") (codes "J") × (D.tree (codes "a") ≡ None)
    × RenamesOn D (codes "a.lock") (codes "a") M × RenamesOn M (codes "b.lock")
    (codes "b") E × Lost E T
    × (T (codes "a") ≡ None) × (T (codes "b") ≡ Some (File (codes "J")))
