-- Locks on a disk: what the making, the filling and the removal of a lock leave settled and whole.
use Rattle.std.proofs.Common.{◌≡◌, ◌≢◌, inl, inr, ℕ, List, [], ◌∷◌, length, take, Bool, true, false, Option, Some, None, refl, sym, ◌∙◌, ap, subst}
use Rattle.std.specs.Prelude.{bytes_eq}
use Rattle.std.specs.List.{list_any}
use Rattle.std.proofs.lemmas.Bool.{true≢false, cond-true}
use Rattle.std.proofs.lemmas.Slice.Eq.{bytes_eq-Decides}
use Rattle.std.proofs.Math.Seq.{take-length}
use Rattle.gix_ref_files.specs.Tree.{Path, Content, bytes_of, put, more, is_file, is_blocked, fronts}
use Rattle.gix_ref_files.specs.Tree.Content.{File}
use Rattle.gix_ref_files.specs.Disk.{Disk, empty_file, appended_on, removed_on, with_folders_on, file_synced}
use Rattle.gix_ref_files.specs.Calls.{Appends}
use Rattle.gix_ref_files.specs.DiskCalls.{after_synced_append, RemovingFileOn, WritingOn}
use Rattle.gix_ref_files.specs.Lock.{lock_of, readied_on, ReadyingOn, LockingOn}
use Rattle.gix_ref_files.specs.Settled.{IsWholeAt, AllStay}
use Rattle.gix_ref_files.specs.Settled.Sync.{OfFile}
use Rattle.gix_ref_files.proofs.Folders.{any_take, settled_with_folders, stay_with_folders}
use Rattle.gix_ref_files.proofs.Changes.{Gone, removes, stay_changed}
use Rattle.gix_ref_files.proofs.Puts.{put_at}
use Rattle.gix_ref_files.proofs.Settling.{whole_synced}
use Rattle.gix_ref_theory.specs.OnRealTrees.{view_of}
use Rattle.gix_ref_theory.specs.Views.{View, Write, changed_at, IsOwnLock}
use Rattle.gix_ref_theory.specs.OnDisks.{Rests, IsSpokenOf, IsAmong, IsAsBefore}
use Rattle.gix_ref_theory.proofs.Reached.{within_removal, whole_entered, whole_appended, whole_with_folders, rests_create, rests_append, rests_synced}

module _ (Counts : Path → Type 0) (staying : List Path) where
  -- the folders that lead to a lock
  pub rests_readying : (texts view : View) (D E : Disk) (p : Path) → Rests Counts staying texts view D → ReadyingOn D p E → Rests Counts staying texts view E
  rests_readying texts view D E p rests (inl e) = subst (Rests Counts staying texts view) (sym e) rests
  rests_readying texts view D E p rests (inr (free, (n, e))) =
      let fs = take n (fronts p) in
      let none : list_any (λ f. is_file (D.tree f)) fs ≡ false = any_take (λ f. is_file (D.tree f)) n (fronts p) free in
      subst (Rests Counts staying texts view) (sym e) (record {
        files = λ q counts. settled_with_folders fs D q (view q) none (rests.files q counts);
        stays = stay_with_folders fs D staying rests.stays;
        whole = λ q bytes is. whole_with_folders fs D q bytes none (rests.whole q bytes is);
      })

  all_of : (p : Path) → take (length (fronts p)) (fronts p) ≡ fronts p
  all_of p = take-length (fronts p)

  rests_readied : (texts view : View) (D : Disk) (p : Path) → is_blocked D.tree p ≡ false → Rests Counts staying texts view D → Rests Counts staying texts view (readied_on D p)
  rests_readied texts view D p free rests = rests_readying texts view D (readied_on D p) p rests (inr (free, (length (fronts p), ap (with_folders_on D) (sym (all_of p)))))

  -- the lock too, which is not spoken of
  pub rests_locking : (texts view : View) (D E : Disk) (p : Path) → (Counts (lock_of p) → ⊥) → Rests Counts staying texts view D → LockingOn D p E → Rests Counts staying (changed_at (lock_of p) None texts) view E
  rests_locking texts view D E p none rests (inl readying) = rests_create Counts staying texts view E E (lock_of p) none (rests_readying texts view D E p rests readying) (inl refl)
  rests_locking texts view D E p none rests (inr (free, creating)) = rests_create Counts staying texts view (readied_on D p) E (lock_of p) none (rests_readied texts view D p free rests) creating

  -- its text
  pub rests_writing : (texts view : View) (D E : Disk) (p : Path) (text : List ℕ) → (Counts p → ⊥) → is_file (D.tree p) ≡ true → Rests Counts staying texts view D → WritingOn D p text E → Rests Counts staying (changed_at p None texts) view E
  rests_writing texts view D E p text none file rests (inl appending) = rests_append Counts staying texts view D E p text none rests appending
  rests_writing texts view D E p text none file rests (inr e) =
      subst (Rests Counts staying (changed_at p None texts) view) (sym e)
      (rests_synced Counts staying (changed_at p None texts) view (OfFile p ∷ []) (appended_on D p text)
      (rests_append Counts staying texts view D (appended_on D p text) p text none rests (inr (file, (length text, ap (appended_on D p) (sym (take-length text)))))))

-- and so is one that gets its text
pub written_whole : (D : Disk) (p : Path) (text : List ℕ) → IsWholeAt D p [] → IsWholeAt (file_synced (appended_on D p text) p) p text
written_whole D p text whole = (
  grown,
  cond-true (bytes_eq p p) (length (bytes_of ((appended_on D p text).tree p))) (D.unsynced.synced p) ((bytes_eq-Decides p p).1 refl) ∙ ap (λ (c : Option Content). length (bytes_of c)) grown,
)
  where
    grown : put D.tree p (more (D.tree p) text) p ≡ Some (File text)
    grown = put_at D.tree p (more (D.tree p) text) ∙ ap (λ (c : Option Content). more c text) whole.0

pub filled_whole : (D E : Disk) (p : Path) (text : List ℕ) (there : Bool) → IsWholeAt D p [] → Appends D.tree p text E.tree there → E ≡ after_synced_append D p text there → IsWholeAt E p text
filled_whole D E p text true whole appends is = subst (λ (X : Disk). IsWholeAt X p text) (sym is) (written_whole D p text whole)
filled_whole D E p text false whole appends is = absurd (true≢false (sym (ap is_file whole.0) ∙ appends.0))

-- A lock elsewhere stays whole.
pub whole_readying : (D E : Disk) (p q : Path) (bytes : List ℕ) → IsWholeAt D q bytes → ReadyingOn D p E → IsWholeAt E q bytes
whole_readying D E p q bytes whole (inl e) = subst (λ (X : Disk). IsWholeAt X q bytes) (sym e) whole
whole_readying D E p q bytes whole (inr (free, (n, e))) =
    subst (λ (X : Disk). IsWholeAt X q bytes) (sym e) (whole_with_folders (take n (fronts p)) D q bytes (any_take (λ f. is_file (D.tree f)) n (fronts p) free) whole)

pub whole_locking : (D E : Disk) (p q : Path) (bytes : List ℕ) → lock_of p ≢ q → IsWholeAt D q bytes → LockingOn D p E → IsWholeAt E q bytes
whole_locking D E p q bytes apart whole (inl readying) = whole_readying D E p q bytes whole readying
whole_locking D E p q bytes apart whole (inr (free, inl e)) = subst (λ (X : Disk). IsWholeAt X q bytes) (sym e) (whole_with_folders (fronts p) D q bytes free whole)
whole_locking D E p q bytes apart whole (inr (free, inr (at, e))) =
    subst (λ (X : Disk). IsWholeAt X q bytes) (sym e) (whole_entered (readied_on D p) (lock_of p) q empty_file bytes apart (whole_with_folders (fronts p) D q bytes free whole))

pub whole_writing : (D E : Disk) (p q : Path) (text bytes : List ℕ) → p ≢ q → IsWholeAt D q bytes → WritingOn D p text E → IsWholeAt E q bytes
whole_writing D E p q text bytes apart whole (inl (inl e)) = subst (λ (X : Disk). IsWholeAt X q bytes) (sym e) whole
whole_writing D E p q text bytes apart whole (inl (inr (file, (n, e)))) = subst (λ (X : Disk). IsWholeAt X q bytes) (sym e) (whole_appended D p q (take n text) bytes apart whole)
whole_writing D E p q text bytes apart whole (inr e) =
    subst (λ (X : Disk). IsWholeAt X q bytes) (sym e) (whole_synced (OfFile p ∷ []) (appended_on D p text) q bytes (whole_appended D p q text bytes apart whole))

-- And all but own locks stays as before.
module _ (locked staying : List Path) (first : Disk) where
  no_texts : (bytes : List ℕ) → None ≡ Some bytes → ⊥
  no_texts bytes e = cc

  at_rest : (D : Disk) → IsAsBefore locked staying first D → Rests (IsSpokenOf locked first) staying (λ p. None) (view_of first.tree) D
  at_rest D same = record { files = same.0; stays = same.1; whole = λ p bytes is. absurd (no_texts bytes is) }

  pub as_before : AllStay first staying → IsAsBefore locked staying first first
  as_before stays = (λ q spoken. spoken.1, stays)

  pub locking_as_before : (D E : Disk) (p : Path) → IsOwnLock locked (lock_of p) → IsAsBefore locked staying first D → LockingOn D p E → IsAsBefore locked staying first E
  locking_as_before D E p own same found =
      let after = rests_locking (IsSpokenOf locked first) staying (λ q. None) (view_of first.tree) D E p (λ spoken. spoken.0 own) (at_rest D same) found in (after.files, after.stays)

  pub writing_as_before : (D E : Disk) (p : Path) (text : List ℕ) → IsOwnLock locked p → is_file (D.tree p) ≡ true → IsAsBefore locked staying first D → WritingOn D p text E → IsAsBefore locked staying first E
  writing_as_before D E p text own file same found =
      let after = rests_writing (IsSpokenOf locked first) staying (λ q. None) (view_of first.tree) D E p text (λ spoken. spoken.0 own) file (at_rest D same) found in (after.files, after.stays)

-- The removal of an own lock leaves the disk among the writes where it is.
pub removing_among : (locked staying : List Path) (writes : List Write) (first D E : Disk) (p : Path) → IsOwnLock locked p → IsAmong locked staying writes first D → RemovingFileOn D p E → IsAmong locked staying writes first E
removing_among locked staying writes first D E p own among removing =
    (within_removal (IsSpokenOf locked first) staying writes (view_of first.tree) D E p (λ spoken. spoken.0 own) removing among.0, stays removing)
  where
    stays : RemovingFileOn D p E → AllStay E staying
    stays (inl e) = subst (λ (X : Disk). AllStay X staying) (sym e) among.1
    stays (inr (file, e)) = subst (λ (X : Disk). AllStay X staying) (sym e) (stay_changed D (removed_on D p) (Gone p) (removes D p file) staying among.1)
