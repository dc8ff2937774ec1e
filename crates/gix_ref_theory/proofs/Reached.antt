-- What a loss of power among steps with their syncs leaves.
use Rattle.std.proofs.Common.{◌≡◌, ◌≢◌, ◌⊎◌, inl, inr, ℕ, zero, suc, ◌≤◌, List, [], ◌∷◌, ◌++◌, length, take, Bool, true, false, Option, Some, None, refl, sym, ◌∙◌, ap, subst, arith, append-nil}
use Rattle.std.specs.Prelude.{bytes_eq, if◌then◌else◌}
use Rattle.std.specs.List.{list_any}
use Rattle.std.proofs.lemmas.Bool.{cases_Bool, false≢true, true≢false, cond-true, cond-false, or_parts}
use Rattle.std.proofs.lemmas.Slice.Eq.{bytes_eq-Decides}
use Rattle.std.proofs.Math.Seq.{take-length}
use Rattle.gix_ref_files.specs.Tree.{Tree, Path, Content, put, more, bytes_of, is_file, is_folder, file_of, has_folders, fronts, folders_to}
use Rattle.gix_ref_files.specs.Tree.Content.{File, Folder}
use Rattle.gix_ref_files.specs.Disk.{DiskItem, Disk, Remains, item_at, MayBe, Lost, with_item, created_on, appended_on, moved_on, removed_on, with_folder_on, with_folders_on, nothing, a_folder, empty_file, refilled, file_synced}
use Rattle.gix_ref_files.specs.Calls.{IsMovable}
use Rattle.gix_ref_files.specs.DiskSteps.{Synced, DoesOn, BeginsOn, needed, IsReachedBy, IsSyncedAfter}
use Rattle.gix_ref_files.specs.DiskSteps.Synced.{With}
use Rattle.gix_ref_files.specs.Steps.Step.{Create, Append as AppendStep, Line, Rename, RemoveFile, MakeFolders, RemoveFolder, End}
use Rattle.gix_ref_files.specs.Settled.{Sync, synced_by, AllStay, MayHold, IsSettledAt, IsWholeAt, IsIn, SettlesPath, SettlesRemoval}
use Rattle.gix_ref_files.specs.Settled.Sync.{OfFile, OfFolder}
use Rattle.gix_ref_theory.specs.OnRealTrees.{view_of}
use Rattle.gix_ref_theory.specs.Views.{View, Write, after, after_write, changed_at, file_bytes, LostIn, IsLostBy}
use Rattle.gix_ref_theory.specs.Views.Write.{Append, Put, Remove}
use Rattle.gix_ref_theory.specs.OnDisks.{IsSettled, CarryOutSynced, Rests, IsWithin}
use Rattle.gix_ref_files.proofs.Puts.{put_at, put_other, folders_kept}
use Rattle.gix_ref_files.proofs.Entries.{synced_may, synced_by_may, synced_remains, nothing_remains}
use Rattle.gix_ref_files.proofs.Settling.{lost_holds, holds_fewer, stays_fewer, stands_settled, stay_apart, settled_entry, removal_settled, settled_way, settled_without_folder, whole_synced, holds_weaker, as_settles}
use Rattle.gix_ref_files.proofs.Changes.{Changes, stay_changed, holds_changed, Created, creates, Gone, removes, Moved, moves, Grown, appends, grown_remains, file_no_folder, then_changes}
use Rattle.gix_ref_files.proofs.Folders.{no_file_after, any_take, no_file_to, settled_with_folders, stay_with_folders}

none_is_some : (bytes : List ℕ) → None ≡ Some bytes → ⊥
none_is_some bytes e = cc

-- a list of texts without one
pub without : (texts : View) (p q : Path) (bytes : List ℕ) → changed_at p None texts q ≡ Some bytes → (p ≢ q) × (texts q ≡ Some bytes)
without texts p q bytes = by (bytes_eq p q) refl
  where
    by : (b : Bool) → bytes_eq p q ≡ b → (if b then None else texts q) ≡ Some bytes → (p ≢ q) × (texts q ≡ Some bytes)
    by true e is = absurd (none_is_some bytes is)
    by false e is = (λ same. true≢false (sym ((bytes_eq-Decides p q).1 same) ∙ e), is)

-- a path elsewhere keeps its file
pub view_apart : (p q : Path) (file : Option (List ℕ)) (view : View) → p ≢ q → changed_at p file view q ≡ view q
view_apart p q file view apart = by (bytes_eq p q) refl
  where
    by : (b : Bool) → bytes_eq p q ≡ b → (if b then file else view q) ≡ view q
    by true e = absurd (apart ((bytes_eq-Decides p q).0 e))
    by false e = refl

pub view_here : (p : Path) (file : Option (List ℕ)) (view : View) → changed_at p file view p ≡ file
view_here p file view = cond-true (bytes_eq p p) file (view p) ((bytes_eq-Decides p p).1 refl)

-- what is whole elsewhere stays whole
pub whole_entered : (D : Disk) (p q : Path) (h : DiskItem) (bytes : List ℕ) → p ≢ q → IsWholeAt D q bytes → IsWholeAt (with_item D p h) q bytes
whole_entered D p q h bytes apart whole = by (bytes_eq p q) refl
  where
    by : (b : Bool) → bytes_eq p q ≡ b → ((if b then h.content else D.tree q) ≡ Some (File bytes)) × ((if b then h.synced else D.unsynced.synced q) ≡ length bytes)
    by true e = absurd (apart ((bytes_eq-Decides p q).0 e))
    by false e = whole

pub whole_appended : (D : Disk) (p q : Path) (more_bytes bytes : List ℕ) → p ≢ q → IsWholeAt D q bytes → IsWholeAt (appended_on D p more_bytes) q bytes
whole_appended D p q more_bytes bytes apart whole = (put_other D.tree p q (more (D.tree p) more_bytes) apart ∙ whole.0, whole.1)

file_is_whole : (D : Disk) (p : Path) (bytes : List ℕ) → IsWholeAt D p bytes → is_file (D.tree p) ≡ true
file_is_whole D p bytes whole = ap is_file whole.0

whole_with_folder : (D : Disk) (f q : Path) (bytes : List ℕ) → f ≢ q → IsWholeAt D q bytes → IsWholeAt (with_folder_on D f) q bytes
whole_with_folder D f q bytes apart whole = by (is_folder (D.tree f))
  where
    by : (b : Bool) → IsWholeAt (if b then D else with_item D f a_folder) q bytes
    by true = whole
    by false = whole_entered D f q a_folder bytes apart whole

-- a whole file is no folder that is made
pub whole_with_folders : (fs : List Path) (D : Disk) (q : Path) (bytes : List ℕ) → list_any (λ f. is_file (D.tree f)) fs ≡ false → IsWholeAt D q bytes → IsWholeAt (with_folders_on D fs) q bytes
whole_with_folders [] D q bytes none whole = whole
whole_with_folders (f ∷ fs) D q bytes none whole =
    let parts = or_parts (is_file (D.tree f)) (list_any (λ g. is_file (D.tree g)) fs) none in
    whole_with_folders fs (with_folder_on D f) q bytes (no_file_after D f fs parts.1)
    (whole_with_folder D f q bytes (λ same. true≢false (sym (file_is_whole D q bytes whole) ∙ subst (λ (x : Path). is_file (D.tree x) ≡ false) same parts.0)) whole)

-- The file of a settled path.

file_there : (c : Option Content) → is_file c ≡ true → (bytes : List ℕ) × (c ≡ Some (File bytes))
file_there (Some (File bytes)) h = (bytes, refl)
file_there (Some Folder) h = absurd (false≢true h)
file_there None h = absurd (false≢true h)

some_same : (a b : List ℕ) → Some a ≡ Some b → a ≡ b
some_same a b e = cc

-- of a settled file all bytes are synced
all_synced : (D : Disk) (p : Path) (bytes : List ℕ) → D.tree p ≡ Some (File bytes) → IsSettledAt D (Some bytes) p → length bytes ≤ D.unsynced.synced p
all_synced D p bytes here settled =
    let kept : take (D.unsynced.synced p) bytes ++ [] ≡ bytes =
    some_same (take (D.unsynced.synced p) bytes ++ []) bytes (settled.entry (Some (File (take (D.unsynced.synced p) bytes ++ [])))
    (inl ([], omega arith, ap (λ c. refilled c (take (D.unsynced.synced p) (bytes_of c) ++ [])) (sym here)))) in
    long bytes (D.unsynced.synced p) (sym (append-nil (take (D.unsynced.synced p) bytes)) ∙ kept)
  where
    long : (b : List ℕ) (n : ℕ) → take n b ≡ b → length b ≤ n
    long [] n e = omega arith
    long (x ∷ b) zero e = absurd (nil_cons x b e)
      where
        nil_cons : (x : ℕ) (b : List ℕ) → [] ≡ x ∷ b → ⊥
        nil_cons x b e = cc
    long (x ∷ b) (suc n) e = omega (arith, long b n (tails x (take n b) b e))
      where
        tails : (x : ℕ) (a b : List ℕ) → x ∷ a ≡ x ∷ b → a ≡ b
        tails x a b e = cc

-- a removal that is done is begun
done_remove : (D mid : Disk) (p : Path) → DoesOn (RemoveFile p) D mid → BeginsOn (RemoveFile p) D mid
done_remove D mid p (inl gone) = inr gone
done_remove D mid p (inr none) = inl none.1

done_no_folder : (D mid : Disk) (p : Path) → DoesOn (RemoveFolder p) D mid → BeginsOn (RemoveFolder p) D mid
done_no_folder D mid p (inl gone) = inr gone
done_no_folder D mid p (inr none) = inl none.1

module _ (Counts : Path → Type 0) (staying : List Path) where
  -- at rest before the next write
  quiet_here : (writes : List Write) (view : View) (D : Disk) → IsSettled Counts view D → IsWithin Counts writes view D
  quiet_here [] view D settled = settled
  quiet_here (Append p bytes ∷ writes) view D settled = inl (λ q counts. holds_weaker D (view q) (λ f. f ≡ view q) (LostIn (Append p bytes) view q) q (λ f h. inl h) (settled q counts))
  quiet_here (Put p bytes ∷ writes) view D settled = inl (λ q counts. holds_weaker D (view q) (λ f. f ≡ view q) (LostIn (Put p bytes) view q) q (λ f h. inl h) (settled q counts))
  quiet_here (Remove p ∷ writes) view D settled = inl (λ q counts. holds_weaker D (view q) (λ f. f ≡ view q) (LostIn (Remove p) view q) q (λ f h. inl h) (settled q counts))

  in_writes : (a b : List Write) (view : View) (D : Disk) → b ≡ a → IsWithin Counts a view D → IsWithin Counts b view D
  in_writes a b view D e l = subst (λ x. IsWithin Counts x view D) (sym e) l

  rests_left : (texts view : View) (D : Disk) (writes : List Write) → Rests Counts staying texts view D → IsWithin Counts writes view D
  rests_left texts view D writes rests = quiet_here writes view D rests.files

  -- where less may be
  pub within_fewer : (writes : List Write) (view : View) (D E : Disk) → ((q : Path) (c : Option Content) → MayBe E q c → MayBe D q c) → IsWithin Counts writes view D → IsWithin Counts writes view E
  within_fewer [] view D E fewer settled = λ q counts. holds_fewer D E fewer (view q) (λ f. f ≡ view q) q (settled q counts)
  within_fewer (write ∷ writes) view D E fewer (inl inside) = inl (λ q counts. holds_fewer D E fewer (view q) (LostIn write view q) q (inside q counts))
  within_fewer (write ∷ writes) view D E fewer (inr later) = inr (within_fewer writes (after_write write view) D E fewer later)

  -- what changes at paths that are not spoken of leaves the disk among the writes
  pub within_changed : (writes : List Write) (view : View) (D E : Disk) (Changed : Path → Option Content → Type 0) → Changes D E Changed → ((q : Path) (c : Option Content) → Counts q → Changed q c → ⊥) →
      IsWithin Counts writes view D → IsWithin Counts writes view E
  within_changed [] view D E Changed ch never settled =
      λ q counts. holds_changed D E Changed ch (view q) (λ f. f ≡ view q) (λ f. f ≡ view q) q (λ f h. h) (λ c new. absurd (never q c counts new)) (settled q counts)
  within_changed (write ∷ writes) view D E Changed ch never (inl inside) =
      inl (λ q counts. holds_changed D E Changed ch (view q) (LostIn write view q) (LostIn write view q) q (λ f h. h) (λ c new. absurd (never q c counts new)) (inside q counts))
  within_changed (write ∷ writes) view D E Changed ch never (inr later) = inr (within_changed writes (after_write write view) D E Changed ch never later)

  -- the removal of a lock that is not spoken of
  pub within_removal : (writes : List Write) (view : View) (D E : Disk) (p : Path) → (Counts p → ⊥) → BeginsOn (RemoveFile p) D E → IsWithin Counts writes view D → IsWithin Counts writes view E
  within_removal writes view D E p none (inl e) within = subst (IsWithin Counts writes view) (sym e) within
  within_removal writes view D E p none (inr (file, e)) within =
      subst (IsWithin Counts writes view) (sym e)
      (within_changed writes view D (removed_on D p) (Gone p) (removes D p file) (λ q c counts new. none (subst Counts (sym new.0) counts)) within)

  same_lost : (write : Write) (view : View) (q : Path) (f : Option (List ℕ)) → f ≡ view q → LostIn write view q f
  same_lost (Append p bytes) view q f h = inl h
  same_lost (Put p bytes) view q f h = inl h
  same_lost (Remove p) view q f h = inl h

  -- and what a loss of power then leaves
  pub within_lost : (writes : List Write) (view : View) (D : Disk) (T : Tree) → IsWithin Counts writes view D → Lost D T → IsLostBy Counts writes view (view_of T)
  within_lost [] view D T settled lost = λ q counts. lost_holds D T (view q) (λ f. f ≡ view q) q (settled q counts) refl lost
  within_lost (write ∷ writes) view D T (inl inside) lost = inl (λ q counts. lost_holds D T (view q) (LostIn write view q) q (inside q counts) (same_lost write view q (view q) refl) lost)
  within_lost (write ∷ writes) view D T (inr later) lost = inr (within_lost writes (after_write write view) D T later lost)

  -- syncs leave a disk at rest
  pub rests_synced : (texts view : View) (ss : List Sync) (D : Disk) → Rests Counts staying texts view D → Rests Counts staying texts view (synced_by ss D)
  rests_synced texts view ss D rests = record {
    files = λ q counts. holds_fewer D (synced_by ss D) (λ q c may. synced_by_may ss D q c may) (view q) (λ f. f ≡ view q) q (rests.files q counts);
    stays = stays_fewer D (synced_by ss D) (λ q c may. synced_by_may ss D q c may) staying rests.stays;
    whole = λ p bytes is. whole_synced ss D p bytes (rests.whole p bytes is);
  }

  -- fewer texts
  fewer_texts : (texts view : View) (p : Path) (D : Disk) → Rests Counts staying texts view D → Rests Counts staying (changed_at p None texts) view D
  fewer_texts texts view p D rests = record { files = rests.files; stays = rests.stays; whole = λ q bytes is. rests.whole q bytes (without texts p q bytes is).1 }

  along : (texts view : View) (D E : Disk) → E ≡ D → Rests Counts staying texts view D → Rests Counts staying texts view E
  along texts view D E e rests = subst (Rests Counts staying texts view) (sym e) rests

  -- A change at a path that does not count.
  rests_changed : (texts view : View) (D E : Disk) (p : Path) (Changed : Path → Option Content → Type 0) → Changes D E Changed →
      ((q : Path) (c : Option Content) → Counts q → Changed q c → ⊥) →
      ((q : Path) (bytes : List ℕ) → p ≢ q → IsWholeAt D q bytes → IsWholeAt E q bytes) →
      Rests Counts staying texts view D → Rests Counts staying (changed_at p None texts) view E
  rests_changed texts view D E p Changed ch never whole rests = record {
    files = λ q counts. holds_changed D E Changed ch (view q) (λ f. f ≡ view q) (λ f. f ≡ view q) q (λ f h. h) (λ c new. absurd (never q c counts new)) (rests.files q counts);
    stays = stay_changed D E Changed ch staying rests.stays;
    whole = λ q bytes is. let w = without texts p q bytes is in whole q bytes w.0 (rests.whole q bytes w.1);
  }

  pub rests_create : (texts view : View) (D E : Disk) (p : Path) → (Counts p → ⊥) → Rests Counts staying texts view D → BeginsOn (Create p) D E → Rests Counts staying (changed_at p None texts) view E
  rests_create texts view D E p none rests (inl e) = along (changed_at p None texts) view D E e (fewer_texts texts view p D rests)
  rests_create texts view D E p none rests (inr (free, e)) =
      along (changed_at p None texts) view (created_on D p) E e
      (rests_changed texts view D (created_on D p) p (Created p) (creates D p free.0) (λ q c counts new. none (subst Counts (sym new.0) counts))
      (λ q bytes apart whole. whole_entered D p q empty_file bytes apart whole) rests)

  pub rests_append : (texts view : View) (D E : Disk) (p : Path) (bytes : List ℕ) → (Counts p → ⊥) → Rests Counts staying texts view D → BeginsOn (AppendStep p bytes) D E → Rests Counts staying (changed_at p None texts) view E
  rests_append texts view D E p bytes none rests (inl e) = along (changed_at p None texts) view D E e (fewer_texts texts view p D rests)
  rests_append texts view D E p bytes none rests (inr (file, (n, e))) =
      along (changed_at p None texts) view (appended_on D p (take n bytes)) E e
      (rests_changed texts view D (appended_on D p (take n bytes)) p (Grown D p (take n bytes)) (appends D p (take n bytes) file) (λ q c counts new. none (subst Counts (sym new.0) counts))
      (λ q b apart whole. whole_appended D p q (take n bytes) b apart whole) rests)

  pub rests_remove : (texts view : View) (D E : Disk) (p : Path) → (Counts p → ⊥) → Rests Counts staying texts view D → BeginsOn (RemoveFile p) D E → Rests Counts staying (changed_at p None texts) view E
  rests_remove texts view D E p none rests (inl e) = along (changed_at p None texts) view D E e (fewer_texts texts view p D rests)
  rests_remove texts view D E p none rests (inr (file, e)) =
      along (changed_at p None texts) view (removed_on D p) E e
      (rests_changed texts view D (removed_on D p) p (Gone p) (removes D p file) (λ q c counts new. none (subst Counts (sym new.0) counts))
      (λ q bytes apart whole. whole_entered D p q nothing bytes apart whole) rests)

  pub rests_folders : (texts view : View) (D E : Disk) (p : Path) → Rests Counts staying texts view D → BeginsOn (MakeFolders p) D E → Rests Counts staying texts view E
  rests_folders texts view D E p rests (inl e) = along texts view D E e rests
  rests_folders texts view D E p rests (inr (free, (n, e))) =
      let fs = take n (folders_to p) in
      let none : list_any (λ f. is_file (D.tree f)) fs ≡ false = any_take (λ f. is_file (D.tree f)) n (folders_to p) (no_file_to D.tree p free) in
      along texts view (with_folders_on D fs) E e (record {
        files = λ q counts. settled_with_folders fs D q (view q) none (rests.files q counts);
        stays = stay_with_folders fs D staying rests.stays;
        whole = λ q bytes is. whole_with_folders fs D q bytes none (rests.whole q bytes is);
      })

  pub rests_no_folder : (texts view : View) (D E : Disk) (p : Path) → (IsIn p staying → ⊥) → Rests Counts staying texts view D → BeginsOn (RemoveFolder p) D E → Rests Counts staying texts view E
  rests_no_folder texts view D E p none rests (inl e) = along texts view D E e rests
  rests_no_folder texts view D E p none rests (inr (empty, e)) =
      along texts view (removed_on D p) E e (record {
        files = λ q counts. settled_without_folder D p q nothing (view q) empty (λ c r. nothing_remains 0 c r) (rests.files q counts);
        stays = stay_apart D p nothing staying none rests.stays;
        whole = λ q bytes is. let whole = rests.whole q bytes is in
            whole_entered D p q nothing bytes (λ same. folder_file (D.tree p) empty.0 (ap is_file (ap D.tree same ∙ whole.0))) whole;
      })
    where
      folder_file : (c : Option Content) → is_folder c ≡ true → is_file c ≡ true → ⊥
      folder_file (Some (File bytes)) h k = true≢false (sym h)
      folder_file (Some Folder) h k = true≢false (sym k)
      folder_file None h k = true≢false (sym h)

  -- A write.

  -- inside a write: at its own path also what it makes
  inside : (write : Write) (view : View) (D E : Disk) (Changed : Path → Option Content → Type 0) → Changes D E Changed →
      ((q : Path) (f : Option (List ℕ)) → f ≡ view q → LostIn write view q f) →
      ((q : Path) (c : Option Content) → Counts q → Changed q c → LostIn write view q (file_of c)) →
      IsSettled Counts view D → (q : Path) → Counts q → MayHold E (view q) (LostIn write view q) q
  inside write view D E Changed ch same new settled q counts =
      holds_changed D E Changed ch (view q) (λ f. f ≡ view q) (LostIn write view q) q (same q) (λ c is. new q c counts is) (settled q counts)

  -- elsewhere all stays settled
  elsewhere : (view : View) (D E : Disk) (Changed : Path → Option Content → Type 0) (ss : List Sync) (q : Path) → Changes D E Changed →
      ((c : Option Content) → Changed q c → ⊥) → IsSettledAt D (view q) q → IsSettledAt (synced_by ss E) (view q) q
  elsewhere view D E Changed ss q ch never settled =
      holds_fewer E (synced_by ss E) (λ r c may. synced_by_may ss E r c may) (view q) (λ f. f ≡ view q) q
      (holds_changed D E Changed ch (view q) (λ f. f ≡ view q) (λ f. f ≡ view q) q (λ f h. h) (λ c is. absurd (never c is)) settled)

  -- once its path is settled, the file at it is the new one
  at_rest : (p : Path) (file : Option (List ℕ)) (view texts : View) (D E : Disk) (Changed : Path → Option Content → Type 0) (ss : List Sync) → Changes D E Changed →
      ((q : Path) (c : Option Content) → Counts q → (p ≢ q) → Changed q c → ⊥) →
      (Counts p → IsSettledAt (synced_by ss E) file p) →
      ((q : Path) (bytes : List ℕ) → texts q ≡ Some bytes → IsWholeAt E q bytes) →
      IsSettled Counts view D → AllStay D staying → Rests Counts staying texts (changed_at p file view) (synced_by ss E)
  at_rest p file view texts D E Changed ss ch never here whole settled stays = record {
    files = λ q counts. by q counts (cases_Bool (bytes_eq p q));
    stays = stays_fewer E (synced_by ss E) (λ q c may. synced_by_may ss E q c may) staying (stay_changed D E Changed ch staying stays);
    whole = λ q bytes is. whole_synced ss E q bytes (whole q bytes is);
  }
    where
      by : (q : Path) → Counts q → (bytes_eq p q ≡ true) ⊎ (bytes_eq p q ≡ false) → IsSettledAt (synced_by ss E) (changed_at p file view q) q
      by q counts (inl e) =
          let same : p ≡ q = (bytes_eq-Decides p q).0 e in
          subst (λ (x : Path). IsSettledAt (synced_by ss E) (changed_at p file view x) x) same
          (subst (λ f. IsSettledAt (synced_by ss E) f p) (sym (view_here p file view)) (here (subst Counts (sym same) counts)))
      by q counts (inr e) =
          let apart : p ≢ q = λ same. true≢false (sym ((bytes_eq-Decides p q).1 same) ∙ e) in
          subst (λ f. IsSettledAt (synced_by ss E) f q) (sym (view_apart p q file view apart))
          (elsewhere view D E Changed ss q ch (λ c is. never q c counts apart is) (settled q counts))

  -- Rename of a whole lock.

  now_entered : (D : Disk) (p : Path) (h : DiskItem) (c : Option Content) → Remains (item_at (with_item D p h) p) c → Remains h c
  now_entered D p h c r =
      let same : bytes_eq p p ≡ true = (bytes_eq-Decides p p).1 refl in
      subst (λ (b : Bool). Remains (record { content = if b then h.content else D.tree p; synced = if b then h.synced else D.unsynced.synced p }) c) same r

  whole_remains : (D : Disk) (p : Path) (bytes : List ℕ) (c : Option Content) → IsWholeAt D p bytes → Remains (item_at D p) c → c ≡ Some (File bytes)
  whole_remains D p bytes c whole r =
      synced_remains (Some (File bytes)) c
      (subst (λ (x : Option Content). Remains (record { content = x; synced = length bytes }) c) whole.0
      (subst (λ (n : ℕ). Remains (record { content = D.tree p; synced = n }) c) whole.1 r))

  inside_rename : (texts view : View) (D E : Disk) (from to : Path) (bytes : List ℕ) → (Counts from → ⊥) → texts from ≡ Some bytes → Rests Counts staying texts view D → BeginsOn (Rename from to) D E →
      (q : Path) → Counts q → MayHold E (view q) (LostIn (Put to bytes) view q) q
  inside_rename texts view D E from to bytes none text rests (inl e) q counts =
      subst (λ (X : Disk). MayHold X (view q) (LostIn (Put to bytes) view q) q) (sym e)
      (holds_weaker D (view q) (λ f. f ≡ view q) (LostIn (Put to bytes) view q) q (λ f h. inl h) (rests.files q counts))
  inside_rename texts view D E from to bytes none text rests (inr (movable, e)) q counts =
      subst (λ (X : Disk). MayHold X (view q) (LostIn (Put to bytes) view q) q) (sym e)
      (inside (Put to bytes) view D (moved_on D from to) (Moved D from to) (moves D from to movable.0 movable.1) (λ q f h. inl h)
      (λ q c counts new. elim new [
        | inl at ↦ absurd (none (subst Counts (sym at.0) counts))
        | inr at ↦ inr (at.0, ap file_of (whole_remains D from bytes c (rests.whole from bytes text) at.1))
      ])
      rests.files q counts)

  folders_moved : (D : Disk) (from to : Path) → IsMovable D.tree from to → from ≢ to → has_folders (moved_on D from to).tree to ≡ true
  folders_moved D from to movable apart =
      folders_kept (put D.tree from None) to (D.tree from) (ap is_folder (put_other D.tree from to None apart) ∙ movable.1) to
      (folders_kept D.tree from None (file_no_folder (D.tree from) movable.0) to movable.2)

  after_rename : (texts view : View) (D mid : Disk) (from to : Path) (bytes : List ℕ) (ss : List Sync) → (Counts from → ⊥) → from ≢ to → texts from ≡ Some bytes → SettlesPath staying to ss →
      Rests Counts staying texts view D → DoesOn (Rename from to) D mid →
      Rests Counts staying (changed_at to None (changed_at from None texts)) (after_write (Put to bytes) view) (synced_by ss mid)
  after_rename texts view D mid from to bytes ss none apart text settles rests (movable, e) =
      subst (λ (X : Disk). Rests Counts staying (changed_at to None (changed_at from None texts)) (after_write (Put to bytes) view) (synced_by ss X)) (sym e)
      (at_rest to (Some bytes) view (changed_at to None (changed_at from None texts)) D (moved_on D from to) (Moved D from to) ss ch
      (λ q c counts apart new. elim new [ inl at ↦ none (subst Counts (sym at.0) counts) | inr at ↦ apart at.0 ])
      (λ counts. record {
        entry = λ c may. ap file_of (whole_remains D from bytes c (rests.whole from bytes text)
            (now_entered (with_item D from nothing) to (item_at D from) c (settled_entry staying to ss (moved_on D from to) c settles may)));
        way = λ b is. settled_way staying to ss (moved_on D from to) (as_settles staying to ss settles) (stay_changed D (moved_on D from to) (Moved D from to) ch staying rests.stays) (folders_moved D from to movable apart);
      })
      (λ q b is.
      let w = without (changed_at from None texts) to q b is in
      let v = without texts from q b w.1 in
      whole_entered (with_item D from nothing) to q (item_at D from) b w.0 (whole_entered D from q nothing b v.0 (rests.whole q b v.1)))
      rests.files rests.stays)
    where
      ch : Changes D (moved_on D from to) (Moved D from to)
      ch = moves D from to movable.0 movable.1

  -- Removal.

  inside_remove : (texts view : View) (D E : Disk) (p : Path) → Rests Counts staying texts view D → BeginsOn (RemoveFile p) D E →
      (q : Path) → Counts q → MayHold E (view q) (LostIn (Remove p) view q) q
  inside_remove texts view D E p rests (inl e) q counts =
      subst (λ (X : Disk). MayHold X (view q) (LostIn (Remove p) view q) q) (sym e)
      (holds_weaker D (view q) (λ f. f ≡ view q) (LostIn (Remove p) view q) q (λ f h. inl h) (rests.files q counts))
  inside_remove texts view D E p rests (inr (file, e)) q counts =
      subst (λ (X : Disk). MayHold X (view q) (LostIn (Remove p) view q) q) (sym e)
      (inside (Remove p) view D (removed_on D p) (Gone p) (removes D p file) (λ q f h. inl h)
      (λ q c counts new. inr (new.0, ap file_of new.1)) rests.files q counts)

  no_file : (c : Option Content) → is_file c ≡ false → file_of c ≡ None
  no_file (Some (File bytes)) h = absurd (true≢false h)
  no_file (Some Folder) h = refl
  no_file None h = refl

  after_remove : (texts view : View) (D mid : Disk) (p : Path) (ss : List Sync) → SettlesRemoval p ss →
      Rests Counts staying texts view D → DoesOn (RemoveFile p) D mid →
      Rests Counts staying (changed_at p None texts) (after_write (Remove p) view) (synced_by (needed (RemoveFile p) D ss) mid)
  after_remove texts view D mid p ss settles rests (inl (file, e)) =
      subst (λ (l : List Sync). Rests Counts staying (changed_at p None texts) (after_write (Remove p) view) (synced_by l mid)) (sym (cond-true (is_file (D.tree p)) ss [] file)) (
      subst (λ (X : Disk). Rests Counts staying (changed_at p None texts) (after_write (Remove p) view) (synced_by ss X)) (sym e)
      (at_rest p None view (changed_at p None texts) D (removed_on D p) (Gone p) ss (removes D p file)
      (λ q c counts apart new. apart new.0)
      (λ counts. record {
        entry = λ c may. ap file_of (nothing_remains 0 c (now_entered D p nothing c (removal_settled p ss (removed_on D p) c settles may)));
        way = λ b is. absurd (none_is_some b is);
      })
      (λ q b is. let w = without texts p q b is in whole_entered D p q nothing b w.0 (rests.whole q b w.1))
      rests.files rests.stays))
  after_remove texts view D mid p ss settles rests (inr (none, e)) =
      subst (λ (X : Disk). Rests Counts staying (changed_at p None texts) (after_write (Remove p) view) (synced_by (needed (RemoveFile p) D ss) X)) (sym e)
      (rests_synced (changed_at p None texts) (after_write (Remove p) view) (needed (RemoveFile p) D ss) D (record {
        files = λ q counts. subst (λ f. IsSettledAt D f q) (same q counts (bytes_eq p q) refl) (rests.files q counts);
        stays = rests.stays;
        whole = λ q bytes is. rests.whole q bytes (without texts p q bytes is).1;
      }))
    where
      same : (q : Path) → Counts q → (b : Bool) → bytes_eq p q ≡ b → view q ≡ (if bytes_eq p q then None else view q)
      same q counts true h =
          sym (stands_settled D (view q) q (rests.files q counts))
          ∙ (no_file (D.tree q) (subst (λ (x : Path). is_file (D.tree x) ≡ false) ((bytes_eq-Decides p q).0 h) none) ∙ sym (cond-true (bytes_eq p q) None (view q) h))
      same q counts false h = sym (cond-false (bytes_eq p q) None (view q) h)

  -- A line.

  short_take : (n : ℕ) (b : List ℕ) → length (take n b) ≤ length b
  short_take zero b = omega arith
  short_take (suc n) [] = omega arith
  short_take (suc n) (x ∷ b) = omega (arith, short_take n b)

  -- a file that is there grows
  grown_line : (view : View) (D : Disk) (p q : Path) (x bytes : List ℕ) (c : Option Content) → length x ≤ length bytes → is_file (D.tree p) ≡ true → IsSettled Counts view D → Counts q →
      Grown D p x q c → LostIn (Append p bytes) view q (file_of c)
  grown_line view D p q x bytes c few file settled counts (same, r) =
      let old = file_there (D.tree p) file in
      let here : IsSettledAt D (view p) p = settled p (subst Counts (sym same) counts) in
      let is : view p ≡ Some old.0 = sym (stands_settled D (view p) p here) ∙ ap file_of old.1 in
      let grown = grown_remains old.0 x (D.unsynced.synced p) c (all_synced D p old.0 old.1 (subst (λ f. IsSettledAt D f p) is here))
      (subst (λ (o : Option Content). Remains (record { content = more o x; synced = D.unsynced.synced p }) c) old.1 r) in
      inr (same, (grown.0, omega (arith, grown.1, few), ap file_of grown.2 ∙ ap (λ f. Some (file_bytes f ++ grown.0)) (sym (sym (ap view same) ∙ is))))

  free_view : (view : View) (D : Disk) (p q : Path) → p ≡ q → D.tree p ≡ None → IsSettled Counts view D → Counts q → view q ≡ None
  free_view view D p q same none settled counts =
      sym (stands_settled D (view q) q (settled q counts)) ∙ ap file_of (ap D.tree (sym same) ∙ none)

  -- a file is made, and grows
  made_changes : (D : Disk) (p : Path) (x : List ℕ) → D.tree p ≡ None → Changes D (appended_on (created_on D p) p x) (λ q c. Created p q c ⊎ Grown (created_on D p) p x q c)
  made_changes D p x none =
      then_changes D (created_on D p) (appended_on (created_on D p) p x) (Created p) (Grown (created_on D p) p x) (creates D p none)
      (appends (created_on D p) p x (ap is_file (put_at D.tree p (Some (File [])))))
      (λ q c new. subst (λ (r : Path). is_folder (D.tree r) ≡ false) new.0 (ap is_folder none))

  made_remains : (D : Disk) (p : Path) (x : List ℕ) (c : Option Content) → Remains (record { content = more ((created_on D p).tree p) x; synced = (created_on D p).unsynced.synced p }) c →
      (any : List ℕ) × (length any ≤ length x) × (c ≡ Some (File any))
  made_remains D p x c r =
      let same : bytes_eq p p ≡ true = (bytes_eq-Decides p p).1 refl in
      grown_remains [] x 0 c (omega arith)
      (subst (λ (b : Bool). Remains (record { content = more (if b then Some (File []) else D.tree p) x; synced = if b then 0 else D.unsynced.synced p }) c) same r)

  made_line : (view : View) (D : Disk) (p q : Path) (x bytes : List ℕ) (c : Option Content) → length x ≤ length bytes → D.tree p ≡ None → IsSettled Counts view D → Counts q →
      Created p q c ⊎ Grown (created_on D p) p x q c → LostIn (Append p bytes) view q (file_of c)
  made_line view D p q x bytes c few none settled counts (inl (same, is)) =
      inr (same, ([], omega arith, ap file_of is ∙ ap (λ f. Some (file_bytes f ++ [])) (sym (free_view view D p q same none settled counts))))
  made_line view D p q x bytes c few none settled counts (inr (same, r)) =
      let left = made_remains D p x c r in
      inr (same, (left.0, omega (arith, left.1, few), ap file_of left.2 ∙ ap (λ f. Some (file_bytes f ++ left.0)) (sym (free_view view D p q same none settled counts))))

  inside_line : (texts view : View) (D E : Disk) (p : Path) (bytes : List ℕ) → Rests Counts staying texts view D → BeginsOn (Line p bytes) D E →
      (q : Path) → Counts q → MayHold E (view q) (LostIn (Append p bytes) view q) q
  inside_line texts view D E p bytes rests (inl e) q counts =
      subst (λ (X : Disk). MayHold X (view q) (LostIn (Append p bytes) view q) q) (sym e)
      (holds_weaker D (view q) (λ f. f ≡ view q) (LostIn (Append p bytes) view q) q (λ f h. inl h) (rests.files q counts))
  inside_line texts view D E p bytes rests (inr (inl (file, (n, e)))) q counts =
      subst (λ (X : Disk). MayHold X (view q) (LostIn (Append p bytes) view q) q) (sym e)
      (inside (Append p bytes) view D (appended_on D p (take n bytes)) (Grown D p (take n bytes)) (appends D p (take n bytes) file) (λ q f h. inl h)
      (λ q c counts new. grown_line view D p q (take n bytes) bytes c (short_take n bytes) file rests.files counts new) rests.files q counts)
  inside_line texts view D E p bytes rests (inr (inr (free, inl e))) q counts =
      subst (λ (X : Disk). MayHold X (view q) (LostIn (Append p bytes) view q) q) (sym e)
      (inside (Append p bytes) view D (created_on D p) (Created p) (creates D p free.0) (λ q f h. inl h)
      (λ q c counts new. made_line view D p q [] bytes c (omega arith) free.0 rests.files counts (inl new)) rests.files q counts)
  inside_line texts view D E p bytes rests (inr (inr (free, inr (n, e)))) q counts =
      subst (λ (X : Disk). MayHold X (view q) (LostIn (Append p bytes) view q) q) (sym e)
      (inside (Append p bytes) view D (appended_on (created_on D p) p (take n bytes)) (λ q c. Created p q c ⊎ Grown (created_on D p) p (take n bytes) q c) (made_changes D p (take n bytes) free.0) (λ q f h. inl h)
      (λ q c counts new. made_line view D p q (take n bytes) bytes c (short_take n bytes) free.0 rests.files counts new) rests.files q counts)

  done_begins_line : (D mid : Disk) (p : Path) (bytes : List ℕ) → DoesOn (Line p bytes) D mid → BeginsOn (Line p bytes) D mid
  done_begins_line D mid p bytes (inl (file, e)) = inr (inl (file, (length bytes, e ∙ ap (λ (l : List ℕ). appended_on D p l) (sym (take-length bytes)))))
  done_begins_line D mid p bytes (inr (free, e)) = inr (inr (free, inr (length bytes, e ∙ ap (λ (l : List ℕ). appended_on (created_on D p) p l) (sym (take-length bytes)))))

  -- the entry of a file that was synced, and then its folder
  line_entry : (D : Disk) (p : Path) (ss : List Sync) (c : Option Content) → SettlesPath staying p ss → MayBe (synced_by ss (file_synced D p)) p c → c ≡ D.tree p
  line_entry D p ss c settles may =
      let same : bytes_eq p p ≡ true = (bytes_eq-Decides p p).1 refl in
      synced_remains (D.tree p) c
      (subst (λ (b : Bool). Remains (record { content = D.tree p; synced = if b then length (bytes_of (D.tree p)) else D.unsynced.synced p }) c) same
      (settled_entry staying p ss (file_synced D p) c settles may))

  after_line : (texts view : View) (D mid : Disk) (p : Path) (bytes : List ℕ) (ss : List Sync) → SettlesPath staying p ss →
      Rests Counts staying texts view D → DoesOn (Line p bytes) D mid →
      Rests Counts staying (changed_at p None texts) (after_write (Append p bytes) view) (synced_by (OfFile p ∷ ss) mid)
  after_line texts view D mid p bytes ss settles rests (inl (file, e)) =
      subst (λ (X : Disk). Rests Counts staying (changed_at p None texts) (after_write (Append p bytes) view) (synced_by (OfFile p ∷ ss) X)) (sym e)
      (at_rest p (Some (file_bytes (view p) ++ bytes)) view (changed_at p None texts) D (appended_on D p bytes) (Grown D p bytes) (OfFile p ∷ ss) ch
      (λ q c counts apart new. apart new.0)
      (λ counts.
      let old = file_there (D.tree p) file in
      let is : view p ≡ Some old.0 = sym (stands_settled D (view p) p (rests.files p counts)) ∙ ap file_of old.1 in
      record {
        entry = λ c may. ap file_of (line_entry (appended_on D p bytes) p ss c settles may ∙ (put_at D.tree p (more (D.tree p) bytes) ∙ ap (λ o. more o bytes) old.1)) ∙ ap (λ f. Some (file_bytes f ++ bytes)) (sym is);
        way = λ b unused. stays_fewer (appended_on D p bytes) (synced_by (OfFile p ∷ ss) (appended_on D p bytes)) (λ r c may. synced_by_may (OfFile p ∷ ss) (appended_on D p bytes) r c may) (fronts p)
            (stay_changed D (appended_on D p bytes) (Grown D p bytes) ch (fronts p) ((rests.files p counts).way old.0 is));
      })
      (λ q b is. let w = without texts p q b is in whole_appended D p q bytes b w.0 (rests.whole q b w.1))
      rests.files rests.stays)
    where
      ch : Changes D (appended_on D p bytes) (Grown D p bytes)
      ch = appends D p bytes file
  after_line texts view D mid p bytes ss settles rests (inr (free, e)) =
      subst (λ (X : Disk). Rests Counts staying (changed_at p None texts) (after_write (Append p bytes) view) (synced_by (OfFile p ∷ ss) X)) (sym e)
      (at_rest p (Some (file_bytes (view p) ++ bytes)) view (changed_at p None texts) D (appended_on (created_on D p) p bytes) (λ q c. Created p q c ⊎ Grown (created_on D p) p bytes q c) (OfFile p ∷ ss) (made_changes D p bytes free.0)
      (λ q c counts apart new. elim new [ inl a ↦ apart a.0 | inr b ↦ apart b.0 ])
      (λ counts. record {
        entry = λ c may. ap file_of (line_entry (appended_on (created_on D p) p bytes) p ss c settles may ∙ (put_at (created_on D p).tree p (more ((created_on D p).tree p) bytes) ∙ ap (λ o. more o bytes) (put_at D.tree p (Some (File [])))))
            ∙ ap (λ f. Some (file_bytes f ++ bytes)) (sym (free_view view D p p refl free.0 rests.files counts));
        way = λ b unused. settled_way staying p ss (file_synced (appended_on (created_on D p) p bytes) p) (as_settles staying p ss settles)
            (stays_fewer (appended_on (created_on D p) p bytes) (file_synced (appended_on (created_on D p) p bytes) p) (λ r c may. synced_may (OfFile p) (appended_on (created_on D p) p bytes) r c may) staying (stay_changed D (appended_on (created_on D p) p bytes) (λ q c. Created p q c ⊎ Grown (created_on D p) p bytes q c) (made_changes D p bytes free.0) staying rests.stays))
            (folders_kept (created_on D p).tree p (more ((created_on D p).tree p) bytes) (ap is_folder (put_at D.tree p (Some (File [])))) p
            (folders_kept D.tree p (Some (File [])) (ap is_folder free.0) p free.1));
      })
      (λ q b is. let w = without texts p q b is in whole_appended (created_on D p) p q bytes b w.0 (whole_entered D p q empty_file b w.0 (rests.whole q b w.1)))
      rests.files rests.stays)

  -- The steps in turn.

  more_texts : (texts view : View) (p : Path) (bytes : List ℕ) (D : Disk) → IsWholeAt D p bytes → Rests Counts staying (changed_at p None texts) view D → Rests Counts staying (changed_at p (Some bytes) texts) view D
  more_texts texts view p bytes D whole rests = record {
    files = rests.files;
    stays = rests.stays;
    whole = λ q b is. by q b (bytes_eq p q) refl is (λ e. rests.whole q b e);
  }
    where
      by : (q : Path) (b : List ℕ) (same : Bool) → bytes_eq p q ≡ same → (if same then Some bytes else texts q) ≡ Some b → ((if same then None else texts q) ≡ Some b → IsWholeAt D q b) → IsWholeAt D q b
      by q b true e is go =
          subst (λ (x : Path). IsWholeAt D x b) ((bytes_eq-Decides p q).0 e) (subst (IsWholeAt D p) (some_same bytes b is) whole)
      by q b false e is go = go is

  done_append : (D mid : Disk) (p : Path) (bytes : List ℕ) → DoesOn (AppendStep p bytes) D mid → BeginsOn (AppendStep p bytes) D mid
  done_append D mid p bytes (file, e) = inr (file, (length bytes, e ∙ ap (λ (l : List ℕ). appended_on D p l) (sym (take-length bytes))))

  -- the text of a lock, once it is synced
  lock_text : (texts view : View) (D mid : Disk) (p : Path) (old bytes : List ℕ) → (Counts p → ⊥) → texts p ≡ Some old → Rests Counts staying texts view D → DoesOn (AppendStep p bytes) D mid →
      Rests Counts staying (changed_at p (Some (old ++ bytes)) texts) view (file_synced mid p)
  lock_text texts view D mid p old bytes none text rests does =
      more_texts texts view p (old ++ bytes) (file_synced mid p)
      (here, by)
      (rests_synced (changed_at p None texts) view (OfFile p ∷ []) mid (rests_append texts view D mid p bytes none rests (done_append D mid p bytes does)))
    where
      here : mid.tree p ≡ Some (File (old ++ bytes))
      here = ap (λ (X : Disk). X.tree p) does.1 ∙ (put_at D.tree p (more (D.tree p) bytes) ∙ ap (λ o. more o bytes) (rests.whole p old text).0)

      by : (file_synced mid p).unsynced.synced p ≡ length (old ++ bytes)
      by = cond_true_ℕ (bytes_eq p p) ((bytes_eq-Decides p p).1 refl) ∙ ap (λ o. length (bytes_of o)) here
        where
          cond_true_ℕ : (b : Bool) → b ≡ true → (if b then length (bytes_of (mid.tree p)) else mid.unsynced.synced p) ≡ length (bytes_of (mid.tree p))
          cond_true_ℕ true e = refl
          cond_true_ℕ false e = absurd (false≢true e)

  done_folders : (D mid : Disk) (p : Path) → DoesOn (MakeFolders p) D mid → BeginsOn (MakeFolders p) D mid
  done_folders D mid p (free, e) = inr (free, (length (folders_to p), e ∙ ap (λ (l : List Path). with_folders_on D l) (sym (take-length (folders_to p)))))

  -- inside a write, or between its syncs
  some_synced : (writes : List Write) (view : View) (n : ℕ) (ss : List Sync) (mid E : Disk) → E ≡ synced_by (take n ss) mid → IsWithin Counts writes view mid → IsWithin Counts writes view E
  some_synced writes view n ss mid E e within =
      subst (IsWithin Counts writes view) (sym e) (within_fewer writes view mid (synced_by (take n ss) mid) (λ q c may. synced_by_may (take n ss) mid q c may) within)

  pub reached : (plan : List Synced) (writes : List Write) (texts view : View) (D E : Disk) → Rests Counts staying texts view D → CarryOutSynced Counts staying texts plan writes → IsReachedBy plan D E → IsWithin Counts writes view E
  reached [] writes texts view D E rests carry e = rests_left texts view E writes (along texts view D E e rests)
  reached (With (Create p) ss ∷ plan) writes texts view D E rests carry (inl begun) =
      rests_left (changed_at p None texts) view E writes (rests_create texts view D E p carry.0 rests begun)
  reached (With (Create p) ss ∷ plan) writes texts view D E rests carry (inr (mid, does, inl some)) =
      some_synced writes view some.0 ss mid E some.1 (rests_left (changed_at p None texts) view mid writes (rests_create texts view D mid p carry.0 rests (inr does)))
  reached (With (Create p) ss ∷ plan) writes texts view D E rests carry (inr (mid, does, inr next)) =
      reached plan writes (changed_at p None texts) view (synced_by ss mid) E
      (rests_synced (changed_at p None texts) view ss mid (rests_create texts view D mid p carry.0 rests (inr does))) carry.1 next
  reached (With (AppendStep p bytes) ss ∷ plan) writes texts view D E rests carry (inl begun) =
      rests_left (changed_at p None texts) view E writes (rests_append texts view D E p bytes (own carry) rests begun)
    where
      own : CarryOutSynced Counts staying texts (With (AppendStep p bytes) ss ∷ plan) writes → Counts p → ⊥
      own (inl c) = c.0
      own (inr c) = c.1
  reached (With (AppendStep p bytes) ss ∷ plan) writes texts view D E rests carry (inr (mid, does, inl some)) =
      some_synced writes view some.0 ss mid E some.1 (rests_left (changed_at p None texts) view mid writes (rests_append texts view D mid p bytes (own carry) rests (done_append D mid p bytes does)))
    where
      own : CarryOutSynced Counts staying texts (With (AppendStep p bytes) ss ∷ plan) writes → Counts p → ⊥
      own (inl c) = c.0
      own (inr c) = c.1
  reached (With (AppendStep p bytes) ss ∷ plan) writes texts view D E rests (inl carry) (inr (mid, does, inr next)) =
      reached plan writes (changed_at p None texts) view (synced_by ss mid) E
      (rests_synced (changed_at p None texts) view ss mid (rests_append texts view D mid p bytes carry.0 rests (done_append D mid p bytes does))) carry.1 next
  reached (With (AppendStep p bytes) ss ∷ plan) writes texts view D E rests (inr carry) (inr (mid, does, inr next)) =
      reached plan writes (changed_at p (Some (carry.0 ++ bytes)) texts) view (synced_by ss mid) E
      (subst (λ (s : List Sync). Rests Counts staying (changed_at p (Some (carry.0 ++ bytes)) texts) view (synced_by s mid)) (sym carry.3)
      (lock_text texts view D mid p carry.0 bytes carry.1 carry.2 rests does)) carry.4 next
  reached (With (Line p bytes) [] ∷ plan) writes texts view D E rests carry at = absurd carry.2
  reached (With (Line p bytes) (OfFolder f ∷ ss) ∷ plan) writes texts view D E rests carry at = absurd carry.2
  reached (With (Line p bytes) (OfFile f ∷ ss) ∷ plan) writes texts view D E rests carry (inl begun) =
      in_writes (Append p bytes ∷ carry.0) writes view E carry.1
      (inl (inside_line texts view D E p bytes rests begun))
  reached (With (Line p bytes) (OfFile f ∷ ss) ∷ plan) writes texts view D E rests carry (inr (mid, does, inl some)) =
      in_writes (Append p bytes ∷ carry.0) writes view E carry.1
      (some_synced (Append p bytes ∷ carry.0) view some.0 (OfFile f ∷ ss) mid E some.1 (inl (inside_line texts view D mid p bytes rests (done_begins_line D mid p bytes does))))
  reached (With (Line p bytes) (OfFile f ∷ ss) ∷ plan) writes texts view D E rests carry (inr (mid, does, inr next)) =
      in_writes (Append p bytes ∷ carry.0) writes view E carry.1
      (inr (reached plan carry.0 (changed_at p None texts) (after_write (Append p bytes) view) (synced_by (OfFile f ∷ ss) mid) E
      (subst (λ (g : Path). Rests Counts staying (changed_at p None texts) (after_write (Append p bytes) view) (synced_by (OfFile g ∷ ss) mid)) (sym carry.2.0)
      (after_line texts view D mid p bytes ss carry.2.1 rests does)) carry.3 next))
  reached (With (Rename from to) ss ∷ plan) writes texts view D E rests carry (inl begun) =
      in_writes (Put to carry.0 ∷ carry.1) writes view E carry.5
      (inl (inside_rename texts view D E from to carry.0 carry.2 carry.4 rests begun))
  reached (With (Rename from to) ss ∷ plan) writes texts view D E rests carry (inr (mid, does, inl some)) =
      in_writes (Put to carry.0 ∷ carry.1) writes view E carry.5
      (some_synced (Put to carry.0 ∷ carry.1) view some.0 ss mid E some.1 (inl (inside_rename texts view D mid from to carry.0 carry.2 carry.4 rests (inr does))))
  reached (With (Rename from to) ss ∷ plan) writes texts view D E rests carry (inr (mid, does, inr next)) =
      in_writes (Put to carry.0 ∷ carry.1) writes view E carry.5
      (inr (reached plan carry.1 (changed_at to None (changed_at from None texts)) (after_write (Put to carry.0) view) (synced_by ss mid) E
      (after_rename texts view D mid from to carry.0 ss carry.2 carry.3 carry.4 carry.6 rests does) carry.7 next))
  reached (With (RemoveFile p) ss ∷ plan) writes texts view D E rests (inl own) (inl begun) =
      rests_left (changed_at p None texts) view E writes (rests_remove texts view D E p own.0 rests begun)
  reached (With (RemoveFile p) ss ∷ plan) writes texts view D E rests (inl own) (inr (mid, does, inl some)) =
      some_synced writes view some.0 (needed (RemoveFile p) D ss) mid E some.1 (rests_left (changed_at p None texts) view mid writes (rests_remove texts view D mid p own.0 rests (done_remove D mid p does)))
  reached (With (RemoveFile p) ss ∷ plan) writes texts view D E rests (inl own) (inr (mid, does, inr next)) =
      reached plan writes (changed_at p None texts) view (synced_by (needed (RemoveFile p) D ss) mid) E
      (rests_synced (changed_at p None texts) view (needed (RemoveFile p) D ss) mid (rests_remove texts view D mid p own.0 rests (done_remove D mid p does))) own.1 next
  reached (With (RemoveFile p) ss ∷ plan) writes texts view D E rests (inr carry) (inl begun) =
      in_writes (Remove p ∷ carry.0) writes view E carry.1
      (inl (inside_remove texts view D E p rests begun))
  reached (With (RemoveFile p) ss ∷ plan) writes texts view D E rests (inr carry) (inr (mid, does, inl some)) =
      in_writes (Remove p ∷ carry.0) writes view E carry.1
      (some_synced (Remove p ∷ carry.0) view some.0 (needed (RemoveFile p) D ss) mid E some.1 (inl (inside_remove texts view D mid p rests (done_remove D mid p does))))
  reached (With (RemoveFile p) ss ∷ plan) writes texts view D E rests (inr carry) (inr (mid, does, inr next)) =
      in_writes (Remove p ∷ carry.0) writes view E carry.1
      (inr (reached plan carry.0 (changed_at p None texts) (after_write (Remove p) view) (synced_by (needed (RemoveFile p) D ss) mid) E
      (after_remove texts view D mid p ss carry.2 rests does) carry.3 next))
  reached (With (MakeFolders p) ss ∷ plan) writes texts view D E rests carry (inl begun) =
      rests_left texts view E writes (rests_folders texts view D E p rests begun)
  reached (With (MakeFolders p) ss ∷ plan) writes texts view D E rests carry (inr (mid, does, inl some)) =
      some_synced writes view some.0 ss mid E some.1 (rests_left texts view mid writes (rests_folders texts view D mid p rests (done_folders D mid p does)))
  reached (With (MakeFolders p) ss ∷ plan) writes texts view D E rests carry (inr (mid, does, inr next)) =
      reached plan writes texts view (synced_by ss mid) E
      (rests_synced texts view ss mid (rests_folders texts view D mid p rests (done_folders D mid p does))) carry next
  reached (With (RemoveFolder p) ss ∷ plan) writes texts view D E rests carry (inl begun) =
      rests_left texts view E writes (rests_no_folder texts view D E p carry.0 rests begun)
  reached (With (RemoveFolder p) ss ∷ plan) writes texts view D E rests carry (inr (mid, does, inl some)) =
      some_synced writes view some.0 ss mid E some.1 (rests_left texts view mid writes (rests_no_folder texts view D mid p carry.0 rests (done_no_folder D mid p does)))
  reached (With (RemoveFolder p) ss ∷ plan) writes texts view D E rests carry (inr (mid, does, inr next)) =
      reached plan writes texts view (synced_by ss mid) E
      (rests_synced texts view ss mid (rests_no_folder texts view D mid p carry.0 rests (done_no_folder D mid p does))) carry.1 next
  reached (With End ss ∷ plan) writes texts view D E rests carry (inl e) = rests_left texts view E writes (along texts view D E e rests)
  reached (With End ss ∷ plan) writes texts view D E rests carry (inr (mid, does, next)) = absurd does

  in_after : (a b : List Write) (view : View) (E : Disk) → b ≡ a → ((left : View) × Rests Counts staying left (after a view) E) → (left : View) × Rests Counts staying left (after b view) E
  in_after a b view E e found = (found.0, subst (λ ws. Rests Counts staying found.0 (after ws view) E) (sym e) found.1)

  -- the whole run leaves a disk at rest
  pub at_end : (plan : List Synced) (writes : List Write) (texts view : View) (D E : Disk) → Rests Counts staying texts view D → CarryOutSynced Counts staying texts plan writes → IsSyncedAfter plan D E →
      (left : View) × Rests Counts staying left (after writes view) E
  at_end [] writes texts view D E rests carry e = (texts, subst (λ ws. Rests Counts staying texts (after ws view) E) (sym carry) (along texts view D E e rests))
  at_end (With (Create p) ss ∷ plan) writes texts view D E rests carry (mid, does, next) =
      at_end plan writes (changed_at p None texts) view (synced_by ss mid) E
      (rests_synced (changed_at p None texts) view ss mid (rests_create texts view D mid p carry.0 rests (inr does))) carry.1 next
  at_end (With (AppendStep p bytes) ss ∷ plan) writes texts view D E rests (inl carry) (mid, does, next) =
      at_end plan writes (changed_at p None texts) view (synced_by ss mid) E
      (rests_synced (changed_at p None texts) view ss mid (rests_append texts view D mid p bytes carry.0 rests (done_append D mid p bytes does))) carry.1 next
  at_end (With (AppendStep p bytes) ss ∷ plan) writes texts view D E rests (inr carry) (mid, does, next) =
      at_end plan writes (changed_at p (Some (carry.0 ++ bytes)) texts) view (synced_by ss mid) E
      (subst (λ (s : List Sync). Rests Counts staying (changed_at p (Some (carry.0 ++ bytes)) texts) view (synced_by s mid)) (sym carry.3)
      (lock_text texts view D mid p carry.0 bytes carry.1 carry.2 rests does)) carry.4 next
  at_end (With (Line p bytes) [] ∷ plan) writes texts view D E rests carry next = absurd carry.2
  at_end (With (Line p bytes) (OfFolder f ∷ ss) ∷ plan) writes texts view D E rests carry next = absurd carry.2
  at_end (With (Line p bytes) (OfFile f ∷ ss) ∷ plan) writes texts view D E rests carry (mid, does, next) =
      in_after (Append p bytes ∷ carry.0) writes view E carry.1
      (at_end plan carry.0 (changed_at p None texts) (after_write (Append p bytes) view) (synced_by (OfFile f ∷ ss) mid) E
      (subst (λ (g : Path). Rests Counts staying (changed_at p None texts) (after_write (Append p bytes) view) (synced_by (OfFile g ∷ ss) mid)) (sym carry.2.0)
      (after_line texts view D mid p bytes ss carry.2.1 rests does)) carry.3 next)
  at_end (With (Rename from to) ss ∷ plan) writes texts view D E rests carry (mid, does, next) =
      in_after (Put to carry.0 ∷ carry.1) writes view E carry.5
      (at_end plan carry.1 (changed_at to None (changed_at from None texts)) (after_write (Put to carry.0) view) (synced_by ss mid) E
      (after_rename texts view D mid from to carry.0 ss carry.2 carry.3 carry.4 carry.6 rests does) carry.7 next)
  at_end (With (RemoveFile p) ss ∷ plan) writes texts view D E rests (inl own) (mid, does, next) =
      at_end plan writes (changed_at p None texts) view (synced_by (needed (RemoveFile p) D ss) mid) E
      (rests_synced (changed_at p None texts) view (needed (RemoveFile p) D ss) mid (rests_remove texts view D mid p own.0 rests (done_remove D mid p does))) own.1 next
  at_end (With (RemoveFile p) ss ∷ plan) writes texts view D E rests (inr carry) (mid, does, next) =
      in_after (Remove p ∷ carry.0) writes view E carry.1
      (at_end plan carry.0 (changed_at p None texts) (after_write (Remove p) view) (synced_by (needed (RemoveFile p) D ss) mid) E
      (after_remove texts view D mid p ss carry.2 rests does) carry.3 next)
  at_end (With (MakeFolders p) ss ∷ plan) writes texts view D E rests carry (mid, does, next) =
      at_end plan writes texts view (synced_by ss mid) E
      (rests_synced texts view ss mid (rests_folders texts view D mid p rests (done_folders D mid p does))) carry next
  at_end (With (RemoveFolder p) ss ∷ plan) writes texts view D E rests carry (mid, does, next) =
      at_end plan writes texts view (synced_by ss mid) E
      (rests_synced texts view ss mid (rests_no_folder texts view D mid p carry.0 rests (done_no_folder D mid p does))) carry.1 next
  at_end (With End ss ∷ plan) writes texts view D E rests carry (mid, does, next) = absurd does
