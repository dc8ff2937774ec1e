-- What is at a path, and how many bytes of it are synced, change by change.
use Rattle.std.proofs.Common.{◌≡◌, ℕ, List, [], ◌∷◌, length, Bool, true, false, Option, Some, None, refl, sym, ◌∙◌, ap}
use Rattle.std.specs.Prelude.{bytes_eq, if◌then◌else◌}
use Rattle.std.proofs.lemmas.Slice.Eq.{bytes_eq-Decides}
use Rattle.gix_ref_files.specs.Tree.{Path, Content, bytes_of}
use Rattle.gix_ref_files.specs.Tree.Content.{File}
use Rattle.gix_ref_files.specs.Disk.{Disk, DiskItem, no_disk, nothing, item_at}
use Rattle.gix_ref_memory.specs.Changes.{changed_on, replayed, item_after, items, put_item}
use Rattle.gix_ref_memory.specs.declared.memory.changes.Change.{Change}
use Rattle.gix_ref_memory.specs.declared.memory.changes.Change.TheVariants.{Put, Append, Move, SyncFile, SyncFolder}

-- an item, part by part
abbrev item : Option Content → ℕ → DiskItem
item content synced = record { content = content; synced = synced }

-- an item whose two parts are chosen by one test
both : (b : Bool) (x y : DiskItem) → item (if b then x.content else y.content) (if b then x.synced else y.synced) ≡ (if b then x else y)
both true x y = refl
both false x y = refl

first : (b : Bool) (x y : Option Content) (n : ℕ) → item (if b then x else y) n ≡ (if b then item x n else item y n)
first true x y n = refl
first false x y n = refl

second : (b : Bool) (x : Option Content) (n m k : ℕ) → (b ≡ true → n ≡ m) → item x (if b then n else k) ≡ (if b then item x m else item x k)
second true x n m k same = ap (item x) (same refl)
second false x n m k same = refl

-- one change
one : (change : Change) (D : Disk) (q : Path) → item_at (changed_on change D) q ≡ item_after change q (item_at D q)
one (Put path stored synced) D q = both (bytes_eq path.items q) (put_item stored synced) (item_at D q)
one (Append path whole had) D q = first (bytes_eq path.items q) (Some (File whole.items)) (D.tree q) (D.unsynced.synced q)
one (Move from to bytes synced) D q =
    both (bytes_eq to.items q) (item (Some (File bytes.items)) synced)
    (item (if bytes_eq from.items q then None else D.tree q) (if bytes_eq from.items q then 0 else D.unsynced.synced q))
    ∙ ap (λ (x : DiskItem). if bytes_eq to.items q then item (Some (File bytes.items)) synced else x) (both (bytes_eq from.items q) nothing (item_at D q))
one (SyncFile path) D q =
    second (bytes_eq path.items q) (D.tree q) (length (bytes_of (D.tree path.items))) (length (bytes_of (D.tree q))) (D.unsynced.synced q)
    (λ e. ap (λ (x : Path). length (bytes_of (D.tree x))) ((bytes_eq-Decides path.items q).0 e))
one (SyncFolder path) D q = refl

-- and several
pub items_are : (changes : List Change) (D : Disk) (q : Path) → item_at (replayed changes D) q ≡ items changes q (item_at D q)
items_are [] D q = refl
items_are (change ∷ changes) D q = items_are changes (changed_on change D) q ∙ ap (items changes q) (one change D q)

pub items_synced : (changes : List Change) (q : Path) → (items changes q nothing).synced ≡ (replayed changes no_disk).unsynced.synced q
items_synced changes q = ap (λ (i : DiskItem). i.synced) (sym (items_are changes no_disk q))
