-- A loss of power of files in memory.
use Rattle.std.specs.Prelude.{◌≡◌, ◌⊎◌, ℕ, List, [], ◌∷◌, length, Bool, true, false, Option, Some, if◌then◌else◌, bytes_eq}
use Rattle.gix_ref_files.specs.Tree.{Tree, Path, Content, bytes_of, no_tree}
use Rattle.gix_ref_files.specs.Tree.Content.{File}
use Rattle.gix_ref_files.specs.Disk.{DiskItem, nothing, folder_of, reachable}
use Rattle.gix_ref_files.specs.Losing.{kept}
use Rattle.gix_ref_memory.specs.Changes.{put_item, found_item, after_changes}
use Rattle.gix_ref_memory.specs.declared.memory.changes.Change.{Change}
use Rattle.gix_ref_memory.specs.declared.memory.changes.Change.TheVariants.{Put, Append, Move, SyncFile, SyncFolder}
use Rattle.gix_ref_memory.specs.declared.memory.sure.Sure.{Sure}

-- What is known of an entry: what it is now, what it was when its folder was last synced, and whether it is unsynced.
pub record DiskEntry : Type 0 where
  pub now : DiskItem
  pub last : DiskItem
  pub is_new : Bool

-- nothing was ever there
abbrev pub no_entry : DiskEntry
no_entry = record { now = nothing; last = nothing; is_new = false }

-- the entry becomes this, and is unsynced from then on
abbrev pub entered : DiskItem → DiskEntry → DiskEntry
entered item entry =
    record { now = item; last = if entry.is_new then entry.last else entry.now; is_new = true }

-- the entry becomes this, and is synced
abbrev pub settled : DiskItem → DiskEntry
settled item = record { now = item; last = item; is_new = false }

-- the entry is the same with another item
abbrev pub with_now : DiskItem → DiskEntry → DiskEntry
with_now item entry = record { now = item; last = entry.last; is_new = entry.is_new }

-- the entry at q after a change
abbrev pub entry_after : Change → Path → DiskEntry → DiskEntry
entry_after (Put path stored synced) q entry =
    if bytes_eq path.items q then (if synced then settled (put_item stored synced)
    else entered (put_item stored synced) entry) else entry
entry_after (Append path whole had) q entry =
    if bytes_eq path.items q then with_now
    (record { content = Some (File whole.items); synced = entry.now.synced }) entry else entry
entry_after (Move from to bytes synced) q entry =
    let gone = if bytes_eq from.items q then entered nothing entry else entry in
    (if bytes_eq to.items q
    then entered (record { content = Some (File bytes.items); synced = synced }) gone else gone)
entry_after (SyncFile path) q entry =
    if bytes_eq path.items q then with_now
    (record { content = entry.now.content; synced = length (bytes_of entry.now.content) }) entry
    else entry
entry_after (SyncFolder path) q entry = if bytes_eq path.items (folder_of q)
    then settled entry.now else entry

-- the same of several changes
abbrev pub disk_entry : List Change → Path → DiskEntry → DiskEntry
disk_entry [] q entry = entry
disk_entry (change ∷ changes) q entry = disk_entry changes q (entry_after change q entry)

-- the same of what the code knows
abbrev pub sure_entry : Sure → DiskEntry
sure_entry sure =
    record { now = found_item sure.now; last = found_item sure.last; is_new = sure.is_new }

-- what is left of an entry, where it is chosen whether it is as now and whether its file has its unsynced bytes
abbrev pub choice : DiskEntry → (entry end : Bool) → Option Content
choice e entry end = kept end (if entry then e.now else (if e.is_new then e.last else e.now))

-- This is left of the entry at q, by some choice; by pick 0 the entry is as last synced and unsynced bytes are lost.
pub record IsChoice (changes : List Change) (pick : ℕ) (q : Path)
    (content : Option Content) : Type 0 where
  pub entry : Bool
  pub end : Bool
  pub none : pick ≡ 0 → (entry ≡ false) × (end ≡ false)
  pub is : content ≡ choice (disk_entry changes q no_entry) entry end

-- a change names a path
abbrev pub Names : Change → Path → Type 0
Names (Put path stored synced) q = path.items ≡ q
Names (Append path whole had) q = path.items ≡ q
Names (Move from to bytes synced) q = (from.items ≡ q) ⊎ (to.items ≡ q)
Names (SyncFile path) q = path.items ≡ q
Names (SyncFolder path) q = path.items ≡ q

-- one of these changes does
abbrev pub IsNamedByChange : List Change → Path → Type 0
IsNamedByChange [] q = ⊥
IsNamedByChange (change ∷ changes) q = Names change q ⊎ IsNamedByChange changes q

-- all of these put something that counts as synced
abbrev pub AreSynced : List Change → Type 0
AreSynced [] = Unit {0}
AreSynced (Put path stored synced ∷ changes) = (synced ≡ true) × AreSynced changes
AreSynced (change ∷ changes) = ⊥

-- Paths are filled one after the other, each with a content that is good for it; other paths are as they were.
pub record Fills (Good : Path → Option Content → Type 0) (Named : Path → Type 0)
    (old new : List Change) : Type 0 where
  pub choice : (q : Path) → Named q → Good q (after_changes new no_tree q)
  pub other : (q : Path) → (after_changes new no_tree q ≡ after_changes old no_tree q)
      ⊎ Good q (after_changes new no_tree q)
  pub synced : AreSynced old → AreSynced new

-- the content of a tree that can be reached
abbrev pub IsReachable : Tree → Path → Option Content → Type 0
IsReachable disk_entry q content = content ≡ reachable disk_entry q
