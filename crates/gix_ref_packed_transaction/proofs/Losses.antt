-- The steps of a commit of `packed-refs` on a disk: what a loss of power may leave on the way, and what is settled at the end.
use Rattle.std.proofs.Common.{◌≡◌, ◌⊎◌, inl, inr, ℕ, List, length, Bool, true, false, Option, Some, None, refl, sym, ap, ◌∙◌, subst, Vec, Global}
use Rattle.std.specs.Prelude.{bytes_eq, if◌then◌else◌}
use Rattle.std.proofs.lemmas.Bool.{true≢false}
use Rattle.std.proofs.lemmas.Slice.Eq.{bytes_eq-Decides}
use Rattle.gix_ref_files.specs.Calls.{IsMovable, RemovesFile}
use Rattle.gix_ref_files.specs.Disk.{Disk, Lost, Remains, folder_of, DiskItem, item_at, moved_on, nothing, removed_on, appended_on, folder_synced, with_item}
use Rattle.gix_ref_files.specs.DiskCalls.{RemovingFileOn, RenamingOn, SyncingOn, after_removal}
use Rattle.gix_ref_files.specs.Lock.{lock_of}
use Rattle.gix_ref_files.specs.Settled.{IsSettledAt, IsWholeAt, Sync, synced}
use Rattle.gix_ref_files.specs.Settled.Sync.{OfFile, OfFolder}
use Rattle.gix_ref_files.specs.Tree.{Tree, Path, Content, file_of, fronts, is_file, is_folder}
use Rattle.gix_ref_files.specs.Tree.Content.{File, Folder}
use Rattle.gix_ref_files.proofs.Changes.{Changes, Gone, Grown, Moved, appends, holds_changed, moves, removes, stay_changed}
use Rattle.gix_ref_files.proofs.Entries.{entry_synced, nothing_remains, synced_may, synced_remains}
use Rattle.gix_ref_files.proofs.Settling.{folder_now, holds_fewer, holds_weaker, lost_holds, stands_settled, stays_fewer}
use Rattle.gix_ref_hash.specs.declared.hash.Kind.{Kind}
use Rattle.gix_ref_packed.specs.declared.packed.buffer.Buffer.{Buffer}
use Rattle.gix_ref_packed_text.specs.declared.outcome.Rewrite.{Rewrite}
use Rattle.gix_ref_packed_text.specs.declared.outcome.Rewrite.TheVariants.{Unchanged, Removed, Text}
use Rattle.gix_ref_transaction.specs.PrepareSteps.{FillingOn}
use Rattle.gix_ref_packed_transaction.specs.PackedTransactions.{IsMadeOf}
use Rattle.gix_ref_packed_transaction.specs.Changes.{ChangeValue}
use Rattle.gix_ref_packed_transaction.specs.PackedLosses.{BecomesFile, IsLostOf, IsReadyOn, OnlyLockIsLost, SettlesPackedRefs, folders_at}
use Rattle.gix_ref_packed_transaction.specs.internal.Keeping.{IsMoved, KeepsSettled}
use Rattle.gix_ref_packed_transaction.proofs.LockSteps.{lock_elsewhere}

no_file : (c : Option Content) → is_file c ≡ false → file_of c ≡ None
no_file (Some (File bytes)) h = absurd (true≢false h)
no_file (Some Folder) h = refl
no_file None h = refl

-- what remains of an entry that was just made
now_entered : (D : Disk) (p : Path) (item : DiskItem) (c : Option Content) → Remains (item_at (with_item D p item) p) c → Remains item c
now_entered D p item c r =
    let same : bytes_eq p p ≡ true = (bytes_eq-Decides p p).1 refl in
    subst (λ (b : Bool). Remains (record { content = if b then item.content else D.tree p; synced = if b then item.synced else D.unsynced.synced p }) c) same r

-- of a file that is whole, all
whole_remains : (D : Disk) (p : Path) (bytes : List ℕ) (c : Option Content) → IsWholeAt D p bytes → Remains (item_at D p) c → c ≡ Some (File bytes)
whole_remains D p bytes c whole r =
    synced_remains (Some (File bytes)) c
    (subst (λ (x : Option Content). Remains (record { content = x; synced = length bytes }) c) whole.0
    (subst (λ (n : ℕ). Remains (record { content = D.tree p; synced = n }) c) whole.1 r))

module _ (rewrite : Rewrite) (place : Path) (D : Disk) where
  abbrev before : Option (List ℕ)
  before = file_of (D.tree place)

  -- as before, or as the rewrite makes it
  abbrev OldOrNew : Option (List ℕ) → Type 0
  OldOrNew f = (f ≡ before) ⊎ BecomesFile rewrite before f

  pub keeps_first : IsReadyOn place D → KeepsSettled rewrite place D D
  keeps_first ready = record {
    file = holds_weaker D before (λ f. f ≡ before) OldOrNew place (λ f same. inl same) ready.file;
    others = λ q not_place not_lock settled. settled;
    folders = ready.folders;
  }

  -- a change of the lock alone
  keeps_change : (E F : Disk) (Changed : Path → Option Content → Type 0) → Changes E F Changed → ((q : Path) (c : Option Content) → Changed q c → lock_of place ≡ q) → KeepsSettled rewrite place D E → KeepsSettled rewrite place D F
  keeps_change E F Changed changes only keeps = record {
    file = holds_changed E F Changed changes before OldOrNew OldOrNew place (λ f is. is) (λ c new. absurd (lock_elsewhere place (sym (only place c new)))) keeps.file;
    others = λ q not_place not_lock settled.
        holds_changed E F Changed changes (file_of (D.tree q)) (λ f. f ≡ file_of (D.tree q)) (λ f. f ≡ file_of (D.tree q)) q (λ f is. is) (λ c new. absurd (not_lock (sym (only q c new)))) (keeps.others q not_place not_lock settled);
    folders = stay_changed E F Changed changes (folders_at place) keeps.folders;
  }

  -- a sync
  pub keeps_sync : (s : Sync) (E : Disk) → KeepsSettled rewrite place D E → KeepsSettled rewrite place D (synced s E)
  keeps_sync s E keeps = record {
    file = holds_fewer E (synced s E) (synced_may s E) before OldOrNew place keeps.file;
    others = λ q not_place not_lock settled. holds_fewer E (synced s E) (synced_may s E) (file_of (D.tree q)) (λ f. f ≡ file_of (D.tree q)) q (keeps.others q not_place not_lock settled);
    folders = stays_fewer E (synced s E) (synced_may s E) (folders_at place) keeps.folders;
  }

  pub keeps_settling : (E F : Disk) (there : Bool) → SyncingOn there E (folder_synced E (folder_of place)) F → KeepsSettled rewrite place D E → KeepsSettled rewrite place D F
  keeps_settling E F there (inl same) keeps = subst (KeepsSettled rewrite place D) (sym same) keeps
  keeps_settling E F there (inr is) keeps = subst (KeepsSettled rewrite place D) (sym is.1) (keeps_sync (OfFolder (folder_of place)) E keeps)

  -- the removal of the lock
  pub keeps_unlock : (E F : Disk) → RemovingFileOn E (lock_of place) F → KeepsSettled rewrite place D E → KeepsSettled rewrite place D F
  keeps_unlock E F (inl same) keeps = subst (KeepsSettled rewrite place D) (sym same) keeps
  keeps_unlock E F (inr gone) keeps =
      subst (KeepsSettled rewrite place D) (sym gone.1) (keeps_change E (removed_on E (lock_of place)) (Gone (lock_of place)) (removes E (lock_of place) gone.0) (λ q c new. new.0) keeps)

  -- its text
  keeps_append : (E : Disk) (bytes : List ℕ) → is_file (E.tree (lock_of place)) ≡ true → KeepsSettled rewrite place D E → KeepsSettled rewrite place D (appended_on E (lock_of place) bytes)
  keeps_append E bytes file keeps = keeps_change E (appended_on E (lock_of place) bytes) (Grown E (lock_of place) bytes) (appends E (lock_of place) bytes file) (λ q c new. new.0) keeps

  pub keeps_fill : (E F : Disk) → is_file (E.tree (lock_of place)) ≡ true → FillingOn E (lock_of place) F → KeepsSettled rewrite place D E → KeepsSettled rewrite place D F
  keeps_fill E F file (inl same) keeps = subst (KeepsSettled rewrite place D) (sym same) keeps
  keeps_fill E F file (inr (text, inl (inl same))) keeps = subst (KeepsSettled rewrite place D) (sym same) keeps
  keeps_fill E F file (inr (text, inl (inr (there, (n, is))))) keeps = subst (KeepsSettled rewrite place D) (sym is) (keeps_append E _ file keeps)
  keeps_fill E F file (inr (text, inr is)) keeps =
      subst (KeepsSettled rewrite place D) (sym is) (keeps_sync (OfFile (lock_of place)) (appended_on E (lock_of place) text) (keeps_append E text file keeps))

  -- what a loss of power leaves then
  pub lost_of : (kind : Kind) (records : Option Buffer) (changes : List ChangeValue) → IsMadeOf kind records changes rewrite → (E : Disk) (T : Tree) → KeepsSettled rewrite place D E → Lost E T → IsLostOf kind records changes place D T
  lost_of kind records changes made E T keeps lost = (
    λ q not_place not_lock settled. lost_holds E T (file_of (D.tree q)) (λ f. f ≡ file_of (D.tree q)) q (keeps.others q not_place not_lock settled) refl lost,
    elim (lost_holds E T before OldOrNew place keeps.file (inl refl) lost) [ inl same ↦ inl same | inr new ↦ inr (rewrite, made, new) ],
  )

  -- what is settled as this file is settled as what is there
  pub settles_as : (E : Disk) (file : Option (List ℕ)) → KeepsSettled rewrite place D E → IsSettledAt E file place → SettlesPackedRefs place D E
  settles_as E file keeps settled = (keeps.others, subst (λ (f : Option (List ℕ)). IsSettledAt E f place) (sym (stands_settled E file place settled)) settled)

-- and what the removal of the lock leaves settled
settled_unlocked : (place : Path) (E F : Disk) (file : Option (List ℕ)) → RemovingFileOn E (lock_of place) F → IsSettledAt E file place → IsSettledAt F file place
settled_unlocked place E F file (inl same) settled = subst (λ (X : Disk). IsSettledAt X file place) (sym same) settled
settled_unlocked place E F file (inr gone) settled =
    subst (λ (X : Disk). IsSettledAt X file place) (sym gone.1)
    (holds_changed E (removed_on E (lock_of place)) (Gone (lock_of place)) (removes E (lock_of place) gone.0) file (λ f. f ≡ file) (λ f. f ≡ file) place (λ f is. is) (λ c new. absurd (lock_elsewhere place (sym new.0))) settled)

-- a call of `remove_file` that removed nothing found no file
pub none_removed_at : (T U : Tree) (p : Path) (removed : Bool) → RemovesFile T p U removed → removed ≡ false → is_file (T p) ≡ false
none_removed_at T U p true removes is = absurd (true≢false is)
none_removed_at T U p false removes is = removes.0

-- Where the file stays as it is.
pub settles_unchanged : (place : Path) (D E : Disk) → IsReadyOn place D → RemovingFileOn D (lock_of place) E → SettlesPackedRefs place D E
settles_unchanged place D E ready unlocking =
    settles_as Unchanged place D E (file_of (D.tree place)) (keeps_unlock Unchanged place D D E unlocking (keeps_first Unchanged place D ready)) (settled_unlocked place D E (file_of (D.tree place)) unlocking ready.file)

-- Where the file is removed.
module _ (place : Path) (D : Disk) (ready : IsReadyOn place D) where
  pub keeps_removal : (E : Disk) → RemovingFileOn D place E → KeepsSettled Removed place D E
  keeps_removal E (inl same) = subst (KeepsSettled Removed place D) (sym same) (keeps_first Removed place D ready)
  keeps_removal E (inr (file, is)) = subst (KeepsSettled Removed place D) (sym is) (record {
    file = holds_changed D (removed_on D place) (Gone place) changes before' (λ f. f ≡ before') (OldOrNew Removed place D) place (λ f same. inl same) (λ c new. inr (ap file_of new.1)) ready.file;
    others = λ q not_place not_lock settled.
        holds_changed D (removed_on D place) (Gone place) changes (file_of (D.tree q)) (λ f. f ≡ file_of (D.tree q)) (λ f. f ≡ file_of (D.tree q)) q (λ f same. same) (λ c new. absurd (not_place (sym new.0))) settled;
    folders = stay_changed D (removed_on D place) (Gone place) changes (folders_at place) ready.folders;
  })
    where
      before' : Option (List ℕ)
      before' = file_of (D.tree place)

      changes : Changes D (removed_on D place) (Gone place)
      changes = removes D place file

  -- once its folder is synced, no file is there
  none_removed : (removed : Bool) → (removed ≡ false → is_file (D.tree place) ≡ false) → (E : Disk) → E ≡ after_removal D place removed → IsSettledAt (folder_synced E (folder_of place)) None place
  none_removed true none E is = record {
    entry = λ c may. ap file_of (nothing_remains 0 c (now_entered D place nothing c (subst (λ (X : Disk). Remains (item_at X place) c) is (entry_synced E (folder_of place) place c refl may))));
    way = λ bytes some. absurd (differ bytes some);
  }
    where
      differ : (bytes : List ℕ) → None ≡ Some bytes → ⊥
      differ bytes same = cc
  none_removed false none E is =
      holds_fewer E (folder_synced E (folder_of place)) (synced_may (OfFolder (folder_of place)) E) None (λ f. f ≡ None) place
      (subst (λ (X : Disk). IsSettledAt X None place) (sym is) (subst (λ (f : Option (List ℕ)). IsSettledAt D f place) (no_file (D.tree place) (none refl)) ready.file))

  pub settles_removed : (removed : Bool) → (removed ≡ false → is_file (D.tree place) ≡ false) → (E F G : Disk) → E ≡ after_removal D place removed → RemovingFileOn D place E → F ≡ folder_synced E (folder_of place) →
      RemovingFileOn F (lock_of place) G → SettlesPackedRefs place D G
  settles_removed removed none E F G is removing settled unlocking =
      settles_as Removed place D G None
      (keeps_unlock Removed place D F G unlocking (subst (KeepsSettled Removed place D) (sym settled) (keeps_sync Removed place D (OfFolder (folder_of place)) E (keeps_removal E removing))))
      (settled_unlocked place F G None unlocking (subst (λ (X : Disk). IsSettledAt X None place) (sym settled) (none_removed removed none E is)))

-- Where the lock, which has the text, is renamed to the place.
module _ (place : Path) (D E : Disk) (t : Vec ℕ Global) (whole : IsWholeAt E (lock_of place) t.items) (keeps : KeepsSettled (Text t) place D E) where
  moved_changes : IsMovable E.tree (lock_of place) place → Changes E (moved_on E (lock_of place) place) (Moved E (lock_of place) place)
  moved_changes movable = moves E (lock_of place) place movable.0 movable.1

  keeps_moved : IsMovable E.tree (lock_of place) place → KeepsSettled (Text t) place D (moved_on E (lock_of place) place)
  keeps_moved movable = record {
    file = holds_changed E (moved_on E (lock_of place) place) (Moved E (lock_of place) place) (moved_changes movable) (file_of (D.tree place)) (OldOrNew (Text t) place D) (OldOrNew (Text t) place D) place (λ f is. is)
        (λ c new. elim new [
          | inl at ↦ absurd (lock_elsewhere place (sym at.0))
          | inr at ↦ inr (ap file_of (whole_remains E (lock_of place) t.items c whole at.1))
        ])
        keeps.file;
    others = λ q not_place not_lock settled.
        holds_changed E (moved_on E (lock_of place) place) (Moved E (lock_of place) place) (moved_changes movable) (file_of (D.tree q)) (λ f. f ≡ file_of (D.tree q)) (λ f. f ≡ file_of (D.tree q)) q (λ f is. is)
        (λ c new. elim new [ inl at ↦ absurd (not_lock (sym at.0)) | inr at ↦ absurd (not_place (sym at.0)) ])
        (keeps.others q not_place not_lock settled);
    folders = stay_changed E (moved_on E (lock_of place) place) (Moved E (lock_of place) place) (moved_changes movable) (folders_at place) keeps.folders;
  }

  pub keeps_renaming : (F : Disk) → RenamingOn E (lock_of place) place F → KeepsSettled (Text t) place D F
  keeps_renaming F (inl same) = subst (KeepsSettled (Text t) place D) (sym same) keeps
  keeps_renaming F (inr is) = subst (KeepsSettled (Text t) place D) (sym is.1) (keeps_moved is.0)

  text_settled : IsMovable E.tree (lock_of place) place → IsSettledAt (folder_synced (moved_on E (lock_of place) place) (folder_of place)) (Some t.items) place
  text_settled movable =
      let F = moved_on E (lock_of place) place in
      record {
        entry = λ c may. ap file_of (whole_remains E (lock_of place) t.items c whole (now_entered (with_item E (lock_of place) nothing) place (item_at E (lock_of place)) c (entry_synced F (folder_of place) place c refl may)));
        way = λ bytes is. stays_fewer F (folder_synced F (folder_of place)) (synced_may (OfFolder (folder_of place)) F) (fronts place) (keeps_moved movable).folders.1;
      }

  pub settles_renamed : (F G : Disk) → IsMoved place E F → G ≡ folder_synced F (folder_of place) → SettlesPackedRefs place D G
  settles_renamed F G (movable, moved) settled =
      let at : G ≡ folder_synced (moved_on E (lock_of place) place) (folder_of place) = settled ∙ ap (λ (X : Disk). folder_synced X (folder_of place)) moved in
      subst (SettlesPackedRefs place D) (sym at)
      (settles_as (Text t) place D (folder_synced (moved_on E (lock_of place) place) (folder_of place)) (Some t.items)
      (keeps_sync (Text t) place D (OfFolder (folder_of place)) (moved_on E (lock_of place) place) (keeps_moved movable)) (text_settled movable))

-- the folder of the place is there
pub folder_there : (rewrite : Rewrite) (place : Path) (D E : Disk) → KeepsSettled rewrite place D E → is_folder (E.tree (folder_of place)) ≡ true
folder_there rewrite place D E keeps = folder_now E (folder_of place) keeps.folders.0

-- A lock that is removed before anything else was done.
pub lost_unlocking : (place : Path) (D E : Disk) (T : Tree) → RemovingFileOn D (lock_of place) E → Lost E T → OnlyLockIsLost place D T
lost_unlocking place D E T (inl same) lost = λ q not_lock settled. lost_holds D T (file_of (D.tree q)) (λ f. f ≡ file_of (D.tree q)) q settled refl (subst (λ (X : Disk). Lost X T) same lost)
lost_unlocking place D E T (inr gone) lost =
    λ q not_lock settled.
    lost_holds (removed_on D (lock_of place)) T (file_of (D.tree q)) (λ f. f ≡ file_of (D.tree q)) q
    (holds_changed D (removed_on D (lock_of place)) (Gone (lock_of place)) (removes D (lock_of place) gone.0) (file_of (D.tree q)) (λ f. f ≡ file_of (D.tree q)) (λ f. f ≡ file_of (D.tree q)) q (λ f is. is) (λ c new. absurd (not_lock (sym new.0))) settled)
    refl (subst (λ (X : Disk). Lost X T) gone.1 lost)

pub lost_before : (kind : Kind) (records : Option Buffer) (changes : List ChangeValue) (place : Path) (D : Disk) (T : Tree) → IsReadyOn place D → OnlyLockIsLost place D T → IsLostOf kind records changes place D T
lost_before kind records changes place D T ready only = (λ q not_place not_lock settled. only q not_lock settled, inl (only place (lock_elsewhere place) ready.file))

pub lock_file : (place : Path) (D : Disk) → IsReadyOn place D → is_file (D.tree (lock_of place)) ≡ true
lock_file place D ready = ap is_file ready.lock.0
