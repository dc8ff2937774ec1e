-- Clean folders: to sync one changes nothing, and which stay clean as steps go on.
use Rattle.std.proofs.Common.{◌≡◌, ◌≢◌, ◌⊎◌, inl, inr, ℕ, zero, suc, ◌+◌, ◌-◌, ◌<◌, ◌≤◌, List, [], ◌∷◌, ◌++◌, length, take, drop, get_or, Bool, true, false, Some, None, refl, sym, ◌∙◌, ap, subst, arith, take-append-drop, length-append, append_assoc, append-nil}
use Rattle.std.specs.Prelude.{bytes_eq, if◌then◌else◌, ◌==◌, ◌&&◌}
use Rattle.std.specs.List.{list_all}
use Rattle.std.proofs.lemmas.Bool.{eqb-true, eqb-false, false≢true}
use Rattle.std.proofs.lemmas.List.{take_more, length-take}
use Rattle.std.proofs.lemmas.Slice.Eq.{bytes_eq-Decides}
use Rattle.std.proofs.Math.Path.{fun_ext}
use Rattle.std.proofs.Math.Seq.{take-nil}
use Rattle.gix_ref_files.specs.Tree.{Tree, Path, more, is_file, is_folder, has_folders, fronts, fronts_after, folders_to}
use Rattle.gix_ref_files.specs.Disk.{DiskItem, Disk, item_at, with_item, nothing, empty_file, created_on, appended_on, with_folder_on, with_folders_on, with_item, a_folder, folder_of, folder_after, folder_synced}
use Rattle.gix_ref_files.specs.Tree.Content.{Folder}
use Rattle.gix_ref_files.specs.Settled.{Sync, synced, synced_by, folders_up, from_one, climb}
use Rattle.gix_ref_files.specs.Settled.Sync.{OfFile, OfFolder}
use Rattle.gix_ref_files.specs.Steps.Step.{Create, Append, Line, Rename, RemoveFile, MakeFolders}
use Rattle.gix_ref_files.specs.DiskSteps.{DoesOn, IsSomeSynced, path_syncs}
use Rattle.gix_ref_files.specs.declared.steps.Settle.TheVariants.{UpTo}
use Rattle.gix_ref_files.specs.Clean.{IsClean, AreClean, OnlyIn, OnlyFrom}
use Rattle.gix_ref_files.proofs.Changes.{file_no_folder}
use Rattle.gix_ref_files.proofs.Entries.{synced_by_tree}
use Rattle.gix_ref_files.proofs.Puts.{folders_kept}
use Rattle.gix_ref_files.proofs.Settling.{both_true}

-- the disk with other entries of the past
abbrev with_past : Disk → (Path → List DiskItem) → Disk
with_past D past = record { tree = D.tree; unsynced = record { synced = D.unsynced.synced; past = past } }

-- The sync of a clean folder changes nothing.
pub clean_same : (D : Disk) (f : Path) → IsClean D f → folder_synced D f ≡ D
clean_same D f clean = ap (with_past D) (fun_ext agree)
  where
    agree : (q : Path) → (if bytes_eq f (folder_of q) then [] else D.unsynced.past q) ≡ D.unsynced.past q
    agree q = by (bytes_eq f (folder_of q)) refl
      where
        by : (b : Bool) → bytes_eq f (folder_of q) ≡ b → (if b then [] else D.unsynced.past q) ≡ D.unsynced.past q
        by true e = sym (clean q (sym ((bytes_eq-Decides f (folder_of q)).0 e)))
        by false e = refl

-- a folder that was just synced is clean
pub synced_clean : (D : Disk) (f : Path) → IsClean (folder_synced D f) f
synced_clean D f q is = by (bytes_eq f (folder_of q)) ((bytes_eq-Decides f (folder_of q)).1 (sym is))
  where
    by : (b : Bool) → b ≡ true → (if b then [] else D.unsynced.past q) ≡ []
    by true e = refl
    by false e = absurd (false≢true e)

-- and syncs leave it so
clean_synced : (s : Sync) (D : Disk) (f : Path) → IsClean D f → IsClean (synced s D) f
clean_synced (OfFile p) D f clean = clean
clean_synced (OfFolder p) D f clean = λ q is. by (bytes_eq p (folder_of q)) q is
  where
    by : (b : Bool) (q : Path) → folder_of q ≡ f → (if b then [] else D.unsynced.past q) ≡ []
    by true q is = refl
    by false q is = clean q is

clean_synced_by : (ss : List Sync) (D : Disk) (f : Path) → IsClean D f → IsClean (synced_by ss D) f
clean_synced_by [] D f clean = clean
clean_synced_by (s ∷ ss) D f clean = clean_synced_by ss (synced s D) f (clean_synced s D f clean)

pub holds_synced_by : (ss : List Sync) (D : Disk) (path : Path) (from end : ℕ) → AreClean D path from end → AreClean (synced_by ss D) path from end
holds_synced_by ss D path from end x = record {
  clean = λ k low below slash. clean_synced_by ss D (take k path) (x.clean k low below slash);
  folders = subst (λ (T : Tree). has_folders T path ≡ true) (sym (synced_by_tree ss D)) x.folders;
}

-- where all folders from a place on are clean, to sync them changes nothing
all_same : (p : Path) (root n : ℕ) (D : Disk) → ((k : ℕ) → root ≤ k → k < root + n → get_or p k 0 ≡ 47 → IsClean D (take k p)) → synced_by (folders_up p root n) D ≡ D
all_same p root zero D clean = refl
all_same p root (suc n) D clean = by (get_or p (root + n) 0 == 47) refl (all_same p root n D (λ k low below slash. clean k low (omega (arith, below)) slash))
  where
    by : (b : Bool) → (get_or p (root + n) 0 == 47) ≡ b → synced_by (folders_up p root n) D ≡ D → synced_by (if b then OfFolder (take (root + n) p) ∷ folders_up p root n else folders_up p root n) D ≡ D
    by true e lower = ap (synced_by (folders_up p root n)) (clean_same D (take (root + n) p) (clean (root + n) (omega arith) (omega arith) (eqb-true (get_or p (root + n) 0) 47 e))) ∙ lower
    by false e lower = lower

-- after the syncs of a climb each of its folders is clean
climbed : (p : Path) (root n : ℕ) (D : Disk) (k : ℕ) → root ≤ k → k < root + n → get_or p k 0 ≡ 47 → IsClean (synced_by (folders_up p root n) D) (take k p)
climbed p root zero D k low below slash = absurd (omega (arith, low, below))
climbed p root (suc n) D k low below slash = by (get_or p (root + n) 0 == 47) refl (k == root + n) refl (λ X lt. climbed p root n X k low lt slash)
  where
    by : (b : Bool) → (get_or p (root + n) 0 == 47) ≡ b → (here : Bool) → (k == root + n) ≡ here → ((X : Disk) → k < root + n → IsClean (synced_by (folders_up p root n) X) (take k p)) →
        IsClean (synced_by (if b then OfFolder (take (root + n) p) ∷ folders_up p root n else folders_up p root n) D) (take k p)
    by true e true is later =
        clean_synced_by (folders_up p root n) (folder_synced D (take (root + n) p)) (take k p)
        (subst (λ (m : ℕ). IsClean (folder_synced D (take (root + n) p)) (take m p)) (sym (eqb-true k (root + n) is)) (synced_clean D (take (root + n) p)))
    by true e false is later = later (folder_synced D (take (root + n) p)) (omega (arith, below, eqb-false k (root + n) is))
    by false e true is later = absurd (false≢true (sym e ∙ ap (λ (m : ℕ). get_or p m 0 == 47) (sym (eqb-true k (root + n) is)) ∙ ap (λ (c : ℕ). c == 47) slash))
    by false e false is later = later D (omega (arith, below, eqb-false k (root + n) is))

one_at_least : (n : ℕ) → 1 ≤ from_one n
one_at_least zero = omega arith
one_at_least (suc n) = omega arith

is_from_one : (n : ℕ) → 1 ≤ n → from_one n ≡ n
is_from_one zero some = absurd (omega (arith, some))
is_from_one (suc n) some = refl

pub holds_climbed : (p : Path) (root : ℕ) (D : Disk) → has_folders D.tree p ≡ true → AreClean (synced_by (climb p root) D) p (from_one root) (length p)
holds_climbed p root D folders = record {
  clean = λ k low below slash. climbed p (from_one root) (length p - from_one root) D k low (omega (arith, below, low)) slash;
  folders = subst (λ (T : Tree). has_folders T p ≡ true) (sym (synced_by_tree (climb p root) D)) folders;
}

-- A climb is one that ends earlier, and the rest of it.
split_up : (p : Path) (root a b n : ℕ) → n ≡ a + b → folders_up p root n ≡ folders_up p (root + a) b ++ folders_up p root a
split_up p root a zero n is = ap (folders_up p root) (omega (arith, is))
split_up p root a (suc b) zero is = absurd (omega (arith, is))
split_up p root a (suc b) (suc n) is =
    ap (λ (m : ℕ). if get_or p m 0 == 47 then OfFolder (take m p) ∷ folders_up p root n else folders_up p root n) place ∙ by (get_or p (root + a + b) 0 == 47) (split_up p root a b n (omega (arith, is)))
  where
    place : root + n ≡ root + a + b
    place = omega (arith, is)

    by : (c : Bool) → folders_up p root n ≡ folders_up p (root + a) b ++ folders_up p root a → (if c then OfFolder (take (root + a + b) p) ∷ folders_up p root n else folders_up p root n)
        ≡ (if c then OfFolder (take (root + a + b) p) ∷ folders_up p (root + a) b else folders_up p (root + a) b) ++ folders_up p root a
    by true rest = ap (λ (l : List Sync). OfFolder (take (root + a + b) p) ∷ l) rest
    by false rest = rest

abbrev Splits : Path → ℕ → ℕ → Type 0
Splits p root low = (a : ℕ) × (from_one root + a ≡ low) × (climb p root ≡ climb p low ++ folders_up p (from_one root) a)

split_climb : (p : Path) (root low : ℕ) → from_one root ≤ low → (low ≡ from_one root) ⊎ (low ≤ length p) → Splits p root low
split_climb p root low le within = (
  low - top,
  omega (arith, le),
  split_up p top (low - top) (length p - low) (length p - top) (by within)
      ∙ ap (λ (l : List Sync). l ++ folders_up p top (low - top))
      (ap (λ (m : ℕ). folders_up p m (length p - low)) place ∙ ap (λ (m : ℕ). folders_up p m (length p - m)) (sym (is_from_one low (omega (arith, one_at_least root, le))))),
)
  where
    top : ℕ
    top = from_one root

    place : from_one root + (low - from_one root) ≡ low
    place = omega (arith, le)

    by : (low ≡ from_one root) ⊎ (low ≤ length p) → length p - from_one root ≡ (low - from_one root) + (length p - low)
    by (inl is) = omega (arith, is)
    by (inr in_path) = omega (arith, in_path, le)

synced_append : (a b : List Sync) (D : Disk) → synced_by (a ++ b) D ≡ synced_by b (synced_by a D)
synced_append [] b D = refl
synced_append (s ∷ a) b D = synced_append a b (synced s D)

front_take : (a b : List Sync) (n : ℕ) → (m : ℕ) × (take m (a ++ b) ≡ take n a)
front_take [] b n = (0, sym (take-nil n))
front_take (s ∷ a) b zero = (0, refl)
front_take (s ∷ a) b (suc n) = let m = front_take a b n in (suc m.0, ap (λ (l : List Sync). s ∷ l) m.1)

some_front : (a b : List Sync) (D E : Disk) → IsSomeSynced a D E → IsSomeSynced (a ++ b) D E
some_front a b D E (n, e) = let m = front_take a b n in (m.0, e ∙ ap (λ (l : List Sync). synced_by l D) (sym m.1))

pub some_more : (grows : Bool) (p : Path) (root low : ℕ) → from_one root ≤ low → (low ≡ from_one root) ⊎ (low ≤ length p) → (D E : Disk) →
    IsSomeSynced (path_syncs grows p (UpTo low)) D E → IsSomeSynced (path_syncs grows p (UpTo root)) D E
some_more grows p root low le within D E some = by grows some
  where
    parts : Splits p root low
    parts = split_climb p root low le within

    by : (grows : Bool) → IsSomeSynced (path_syncs grows p (UpTo low)) D E → IsSomeSynced (path_syncs grows p (UpTo root)) D E
    by true s = subst (λ (l : List Sync). IsSomeSynced (OfFile p ∷ l) D E) (sym parts.2) (some_front (OfFile p ∷ climb p low) (folders_up p (from_one root) parts.0) D E s)
    by false s = subst (λ (l : List Sync). IsSomeSynced l D E) (sym parts.2) (some_front (climb p low) (folders_up p (from_one root) parts.0) D E s)

-- and where the rest is clean, the one that ends earlier does the same
pub same_without : (grows : Bool) (q p : Path) (from end root low : ℕ) → from_one root ≤ low → (low ≡ from_one root) ⊎ (low ≤ length p) →
    ((D : Disk) → AreClean D q from end → (k : ℕ) → from_one root ≤ k → k < low → get_or p k 0 ≡ 47 → IsClean D (take k p)) → (D : Disk) → AreClean D q from end →
    synced_by (path_syncs grows p (UpTo low)) D ≡ synced_by (path_syncs grows p (UpTo root)) D
same_without grows q p from end root low le within clean D x = by grows
  where
    parts : Splits p root low
    parts = split_climb p root low le within

    folders : (D : Disk) → AreClean D q from end → synced_by (climb p low) D ≡ synced_by (climb p root) D
    folders D x =
        sym (ap (λ (l : List Sync). synced_by l D) parts.2 ∙ (synced_append (climb p low) (folders_up p (from_one root) parts.0) D
        ∙ all_same p (from_one root) parts.0 (synced_by (climb p low) D)
        (λ k high below slash. clean (synced_by (climb p low) D) (holds_synced_by (climb p low) D q from end x) k high (omega (arith, below, parts.1)) slash)))

    by : (grows : Bool) → synced_by (path_syncs grows p (UpTo low)) D ≡ synced_by (path_syncs grows p (UpTo root)) D
    by true = folders (synced (OfFile p) D) (holds_synced_by (OfFile p ∷ []) D q from end x)
    by false = folders D x

-- Paths that begin alike.
take_take : (n k : ℕ) (l : List ℕ) → k ≤ n → take k (take n l) ≡ take k l
take_take n zero l le = refl
take_take zero (suc k) l le = absurd (omega (arith, le))
take_take (suc n) (suc k) [] le = refl
take_take (suc n) (suc k) (x ∷ l) le = ap (λ (t : List ℕ). x ∷ t) (take_take n k l (omega (arith, le)))

get_take : (n k : ℕ) (l : List ℕ) → k < n → get_or (take n l) k 0 ≡ get_or l k 0
get_take zero k l lt = absurd (omega (arith, lt))
get_take (suc n) zero [] lt = refl
get_take (suc n) zero (x ∷ l) lt = refl
get_take (suc n) (suc k) [] lt = refl
get_take (suc n) (suc k) (x ∷ l) lt = get_take n k l (omega (arith, lt))

pub clean_alike : (D : Disk) (p q : Path) (from end n k : ℕ) → take n p ≡ take n q → AreClean D q from end → from ≤ k → k < end → k < n → get_or p k 0 ≡ 47 → IsClean D (take k p)
clean_alike D p q from end n k same x low below in_front slash =
    subst (IsClean D) (sym (sym (take_take n k p (omega (arith, in_front))) ∙ ap (take k) same ∙ take_take n k q (omega (arith, in_front))))
    (x.clean k low below (sym (get_take n k q in_front) ∙ ap (λ (l : List ℕ). get_or l k 0) (sym same) ∙ get_take n k p in_front ∙ slash))

-- What a step changes.

only_same : (f : Path) (D E : Disk) → E ≡ D → OnlyIn f D E
only_same f D E e = subst (OnlyIn f D) (sym e) (record { past = λ q differs. refl; folders = λ q led. led })

only_then : (f : Path) (D M E : Disk) → OnlyIn f D M → OnlyIn f M E → OnlyIn f D E
only_then f D M E one two = record {
  past = λ q differs. two.past q differs ∙ one.past q differs;
  folders = λ q led. two.folders q (one.folders q led);
}

only_entered : (D : Disk) (p : Path) (h : DiskItem) → is_folder (D.tree p) ≡ false → OnlyIn (folder_of p) D (with_item D p h)
only_entered D p h none = record {
  past = λ q differs. by q differs (bytes_eq p q) refl;
  folders = λ q led. folders_kept D.tree p h.content none q led;
}
  where
    by : (q : Path) → folder_of q ≢ folder_of p → (b : Bool) → bytes_eq p q ≡ b → (if b then item_at D p ∷ D.unsynced.past p else D.unsynced.past q) ≡ D.unsynced.past q
    by q differs true e = absurd (differs (ap folder_of (sym ((bytes_eq-Decides p q).0 e))))
    by q differs false e = refl

only_appended : (f : Path) (D : Disk) (p : Path) (bytes : List ℕ) → is_file (D.tree p) ≡ true → OnlyIn f D (appended_on D p bytes)
only_appended f D p bytes file = record {
  past = λ q differs. refl;
  folders = λ q led. folders_kept D.tree p (more (D.tree p) bytes) (file_no_folder (D.tree p) file) q led;
}

made_file : (D : Disk) (p : Path) → is_file ((created_on D p).tree p) ≡ true
made_file D p = by (bytes_eq p p) ((bytes_eq-Decides p p).1 refl)
  where
    by : (b : Bool) → b ≡ true → is_file (if b then empty_file.content else D.tree p) ≡ true
    by true e = refl
    by false e = absurd (false≢true e)

pub only_create : (D E : Disk) (p : Path) → DoesOn (Create p) D E → OnlyIn (folder_of p) D E
only_create D E p (free, e) = subst (OnlyIn (folder_of p) D) (sym e) (only_entered D p empty_file (ap is_folder free.0))

pub only_line : (D E : Disk) (p : Path) (bytes : List ℕ) → DoesOn (Line p bytes) D E → OnlyIn (folder_of p) D E
only_line D E p bytes (inl (file, e)) = subst (OnlyIn (folder_of p) D) (sym e) (only_appended (folder_of p) D p bytes file)
only_line D E p bytes (inr (free, e)) =
    subst (OnlyIn (folder_of p) D) (sym e)
    (only_then (folder_of p) D (created_on D p) (appended_on (created_on D p) p bytes) (only_entered D p empty_file (ap is_folder free.0)) (only_appended (folder_of p) (created_on D p) p bytes (made_file D p)))

pub only_remove : (D E : Disk) (p : Path) → DoesOn (RemoveFile p) D E → OnlyIn (folder_of p) D E
only_remove D E p (inl (file, e)) = subst (OnlyIn (folder_of p) D) (sym e) (only_entered D p nothing (file_no_folder (D.tree p) file))
only_remove D E p (inr (none, e)) = only_same (folder_of p) D E e

pub only_rename : (D E : Disk) (from to : Path) → DoesOn (Rename from to) D E → (M : Disk) × OnlyIn (folder_of from) D M × OnlyIn (folder_of to) M E
only_rename D E from to (can, e) = (
  with_item D from nothing,
  only_entered D from nothing (file_no_folder (D.tree from) can.0),
  subst (OnlyIn (folder_of to) (with_item D from nothing)) (sym e) (only_entered (with_item D from nothing) to (item_at D from) (by (bytes_eq from to))),
)
  where
    by : (b : Bool) → is_folder (if b then None else D.tree to) ≡ false
    by true = refl
    by false = can.1

pub holds_append : (D E : Disk) (p : Path) (bytes : List ℕ) (path : Path) (from end : ℕ) → DoesOn (Append p bytes) D E → AreClean D path from end → AreClean E path from end
holds_append D E p bytes path from end (file, e) x = subst (λ (X : Disk). AreClean X path from end) (sym e) (record {
  clean = x.clean;
  folders = folders_kept D.tree p (more (D.tree p) bytes) (file_no_folder (D.tree p) file) path x.folders;
})

-- The folders above one that changes stay clean.
holds_apart : (D E : Disk) (f path : Path) (from end less : ℕ) → OnlyIn f D E → AreClean D path from end → less ≤ end → ((k : ℕ) → from ≤ k → k < less → get_or path k 0 ≡ 47 → take k path ≢ f) → AreClean E path from less
holds_apart D E f path from end less only x le apart = record {
  clean = λ k low below slash q is. only.past q (λ same. apart k low below slash (sym is ∙ same)) ∙ x.clean k low (omega (arith, below, le)) slash q is;
  folders = only.folders path x.folders;
}

pub holds_elsewhere : (D E : Disk) (f path : Path) (from end : ℕ) → ((k : ℕ) → from ≤ k → k < end → get_or path k 0 ≡ 47 → take k path ≢ f) → OnlyIn f D E → AreClean D path from end → AreClean E path from end
holds_elsewhere D E f path from end apart only x = holds_apart D E f path from end end only x (omega arith) apart

pub holds_above : (D E : Disk) (f path : Path) (from end : ℕ) → length f < end → OnlyIn f D E → AreClean D path from end → AreClean E path from (length f)
holds_above D E f path from end lt only x =
    holds_apart D E f path from end (length f) only x (omega (arith, lt))
    (λ k low below slash same. absurd (omega (arith, below, sym (length-take k path) ∙ ap (λ (l : Path). length l) same)))

pub holds_short : (D E : Disk) (f path : Path) (from end : ℕ) → end ≤ length f → OnlyIn f D E → AreClean D path from end → AreClean E path from end
holds_short D E f path from end le only x =
    holds_apart D E f path from end end only x (omega arith)
    (λ k low below slash same. absurd (omega (arith, le, below, sym (length-take k path) ∙ ap (λ (l : Path). length l) same)))

-- Folders that are there are not made.
with_none : (fs : List Path) (D : Disk) → list_all (λ f. is_folder (D.tree f)) fs ≡ true → with_folders_on D fs ≡ D
with_none [] D all = refl
with_none (f ∷ fs) D all =
    let parts = both_true (is_folder (D.tree f)) (list_all (λ g. is_folder (D.tree g)) fs) all in
    ap (λ (b : Bool). with_folders_on (if b then D else with_item D f a_folder) fs) parts.0 ∙ with_none fs D parts.1

after_part : (P : Path → Bool) (seen : Path) (a b : List ℕ) → list_all P (fronts_after seen (a ++ b)) ≡ true → list_all P (fronts_after seen a) ≡ true
after_part P seen [] b all = refl
after_part P seen (c ∷ a) b all = by (c == 47) all (λ rest. after_part P (seen ++ c ∷ []) a b rest)
  where
    by : (slash : Bool) → list_all P (if slash then seen ∷ fronts_after (seen ++ c ∷ []) (a ++ b) else fronts_after (seen ++ c ∷ []) (a ++ b)) ≡ true →
        (list_all P (fronts_after (seen ++ c ∷ []) (a ++ b)) ≡ true → list_all P (fronts_after (seen ++ c ∷ []) a) ≡ true) →
        list_all P (if slash then seen ∷ fronts_after (seen ++ c ∷ []) a else fronts_after (seen ++ c ∷ []) a) ≡ true
    by true h later =
        let parts = both_true (P seen) (list_all P (fronts_after (seen ++ c ∷ []) (a ++ b))) h in
        ap (λ (t : Bool). t && list_all P (fronts_after (seen ++ c ∷ []) a)) parts.0 ∙ later parts.1
    by false h later = later h

front_part : (P : Path → Bool) (a b : List ℕ) → list_all P (fronts (a ++ b)) ≡ true → list_all P (fronts a) ≡ true
front_part P [] b all = refl
front_part P (c ∷ a) b all = after_part P (c ∷ []) a b all

pub no_folder_made : (D E : Disk) (p path : Path) → length p < length path → get_or path (length p) 0 ≡ 47 → take (length p) path ≡ p → has_folders D.tree path ≡ true → DoesOn (MakeFolders p) D E → E ≡ D
no_folder_made D E p path lt slash is folders (free, e) =
    e ∙ with_none (folders_to p) D
    (front_part (λ f. is_folder (D.tree f)) (p ++ 47 ∷ []) (drop (length p + 1) path) (ap (λ (q : Path). has_folders D.tree q) parts ∙ folders))
  where
    parts : (p ++ 47 ∷ []) ++ drop (length p + 1) path ≡ path
    parts =
        ap (λ (l : Path). l ++ drop (length p + 1) path) (ap (λ (l : Path). l ++ 47 ∷ []) (sym is) ∙ ap (λ (c : ℕ). take (length p) path ++ c ∷ []) (sym slash) ∙ sym (take_more path (length p) 0 lt))
        ∙ take-append-drop (length p + 1) path

-- Folders that are made below one that is there.

pub holds_below : (D E : Disk) (path : Path) (from end less : ℕ) → less ≤ end → OnlyFrom less D E → AreClean D path from end → AreClean E path from less
holds_below D E path from end less le only x = record {
  clean = λ k low below slash q is. only.past q (short k q below is) ∙ x.clean k low (omega (arith, below, le)) slash q is;
  folders = only.folders path x.folders;
}
  where
    short : (k : ℕ) (q : Path) → k < less → folder_of q ≡ take k path → length (folder_of q) < less
    short k q below is = omega (arith, below, ap (λ (l : Path). length l) is, length-take k path)

only_fewer : (D E : Disk) (end less : ℕ) → less ≤ end → OnlyFrom end D E → OnlyFrom less D E
only_fewer D E end less le only = record { past = λ q short. only.past q (omega (arith, short, le)); folders = only.folders }

pub holds_all : (D E : Disk) (path : Path) (from end more : ℕ) → end ≤ more → OnlyFrom more D E → AreClean D path from end → AreClean E path from end
holds_all D E path from end more le only x = holds_below D E path from end end (omega arith) (only_fewer D E more end le only) x

folder_grows : (seen folder : Path) (xs : List ℕ) → length folder ≤ length seen → length folder ≤ length (folder_after seen folder xs)
folder_grows seen folder [] le = omega arith
folder_grows seen folder (c ∷ xs) le = by (c == 47) (folder_grows (seen ++ c ∷ []) (if c == 47 then seen else folder) xs)
  where
    more : length (seen ++ c ∷ []) ≡ length seen + 1
    more = length-append seen (c ∷ [])

    by : (b : Bool) → (length (if b then seen else folder) ≤ length (seen ++ c ∷ []) → length (if b then seen else folder) ≤ length (folder_after (seen ++ c ∷ []) (if b then seen else folder) xs)) →
        length folder ≤ length (folder_after (seen ++ c ∷ []) (if b then seen else folder) xs)
    by true go = omega (arith, le, go (omega (arith, more)))
    by false go = go (omega (arith, le, more))

folder_long : (seen folder : Path) (s rest : List ℕ) → length folder ≤ length seen → length (seen ++ s) ≤ length (folder_after seen folder (s ++ 47 ∷ rest))
folder_long seen folder [] rest le =
    omega (arith, length-append seen [], folder_grows (seen ++ 47 ∷ []) seen rest (omega (arith, length-append seen (47 ∷ []))))
folder_long seen folder (x ∷ s) rest le =
    omega (arith, ap (λ (l : Path). length l) (append_assoc seen (x ∷ []) s), folder_long (seen ++ x ∷ []) (if x == 47 then seen else folder) s rest (by (x == 47)))
  where
    by : (b : Bool) → length (if b then seen else folder) ≤ length (seen ++ x ∷ [])
    by true = omega (arith, length-append seen (x ∷ []))
    by false = omega (arith, le, length-append seen (x ∷ []))

folder_after_slash : (a rest : List ℕ) → 1 ≤ length a → length a ≤ length (folder_of (a ++ 47 ∷ rest))
folder_after_slash [] rest some = absurd (omega (arith, some))
folder_after_slash (c ∷ a) rest some = folder_long (c ∷ []) [] a rest (omega arith)

-- each of these folders lies in one with so many bytes
abbrev AllBelow : ℕ → List Path → Type 0
AllBelow end [] = Unit {0}
AllBelow end (f ∷ fs) = (end ≤ length (folder_of f)) × AllBelow end fs

fronts_below : (a seen xs : List ℕ) → 1 ≤ length a → AllBelow (length a) (fronts_after (a ++ 47 ∷ seen) xs)
fronts_below a seen [] some = tt
fronts_below a seen (c ∷ xs) some =
    by (c == 47) (subst (λ (l : Path). AllBelow (length a) (fronts_after l xs)) (sym (append_assoc a (47 ∷ seen) (c ∷ []))) (fronts_below a (seen ++ c ∷ []) xs some))
  where
    by : (b : Bool) → AllBelow (length a) (fronts_after ((a ++ 47 ∷ seen) ++ c ∷ []) xs) →
        AllBelow (length a) (if b then (a ++ 47 ∷ seen) ∷ fronts_after ((a ++ 47 ∷ seen) ++ c ∷ []) xs else fronts_after ((a ++ 47 ∷ seen) ++ c ∷ []) xs)
    by true later = (folder_after_slash a seen some, later)
    by false later = later

from_same : (end : ℕ) (D : Disk) → OnlyFrom end D D
from_same end D = record { past = λ q short. refl; folders = λ q led. led }

from_then : (end : ℕ) (D M E : Disk) → OnlyFrom end D M → OnlyFrom end M E → OnlyFrom end D E
from_then end D M E one two = record { past = λ q short. two.past q short ∙ one.past q short; folders = λ q led. two.folders q (one.folders q led) }

from_folder : (end : ℕ) (D : Disk) (f : Path) → end ≤ length (folder_of f) → OnlyFrom end D (with_folder_on D f)
from_folder end D f below = by (is_folder (D.tree f)) refl
  where
    made : is_folder (D.tree f) ≡ false → OnlyFrom end D (with_item D f a_folder)
    made none = record {
      past = λ q short. (only_entered D f a_folder none).past q (λ same. absurd (omega (arith, short, below, ap (λ (l : Path). length l) same)));
      folders = λ q led. folders_kept D.tree f (Some Folder) none q led;
    }

    by : (b : Bool) → is_folder (D.tree f) ≡ b → OnlyFrom end D (if b then D else with_item D f a_folder)
    by true e = from_same end D
    by false e = made e

from_folders : (end : ℕ) (fs : List Path) (D : Disk) → AllBelow end fs → OnlyFrom end D (with_folders_on D fs)
from_folders end [] D below = from_same end D
from_folders end (f ∷ fs) D below = from_then end D (with_folder_on D f) (with_folders_on (with_folder_on D f) fs) (from_folder end D f below.0) (from_folders end fs (with_folder_on D f) below.1)

fronts_split : (seen a b : List ℕ) → fronts_after seen (a ++ b) ≡ fronts_after seen a ++ fronts_after (seen ++ a) b
fronts_split seen [] b = ap (λ (l : Path). fronts_after l b) (sym (append-nil seen))
fronts_split seen (c ∷ a) b = by (c == 47) (fronts_split (seen ++ c ∷ []) a b ∙ ap (λ (l : Path). fronts_after (seen ++ c ∷ []) a ++ fronts_after l b) (append_assoc seen (c ∷ []) a))
  where
    by : (s : Bool) → fronts_after (seen ++ c ∷ []) (a ++ b) ≡ fronts_after (seen ++ c ∷ []) a ++ fronts_after (seen ++ c ∷ a) b →
        (if s then seen ∷ fronts_after (seen ++ c ∷ []) (a ++ b) else fronts_after (seen ++ c ∷ []) (a ++ b))
        ≡ (if s then seen ∷ fronts_after (seen ++ c ∷ []) a else fronts_after (seen ++ c ∷ []) a) ++ fronts_after (seen ++ c ∷ a) b
    by true rest = ap (λ (l : List Path). seen ∷ l) rest
    by false rest = rest

with_both : (a b : List Path) (D : Disk) → with_folders_on D (a ++ b) ≡ with_folders_on (with_folders_on D a) b
with_both [] b D = refl
with_both (f ∷ a) b D = with_both a b (with_folder_on D f)

-- the folders on the way of another path are there up to this slash, so only folders from there on are made
pub only_below : (D E : Disk) (p other : Path) (k : ℕ) → 1 ≤ k → k < length p → k < length other → get_or p k 0 ≡ 47 → get_or other k 0 ≡ 47 → take k p ≡ take k other → has_folders D.tree other ≡ true →
    DoesOn (MakeFolders p) D E → OnlyFrom k D E
only_below D E p other k some in_p in_other slash other_slash same folders (free, e) =
    subst (OnlyFrom k D) (sym (e ∙ (ap (with_folders_on D) parts ∙ (with_both (fronts a) (fronts_after a b) D ∙ ap (λ (X : Disk). with_folders_on X (fronts_after a b)) none))))
    (from_folders k (fronts_after a b) D (subst (λ (n : ℕ). AllBelow n (fronts_after a b)) long (fronts_below (take k p) [] b (omega (arith, some, long)))))
  where
    a : Path
    a = take k p ++ 47 ∷ []

    b : Path
    b = drop (k + 1) p ++ 47 ∷ []

    long : length (take k p) ≡ k
    long = omega (arith, length-take k p, in_p)

    front_at : (p : Path) → k < length p → get_or p k 0 ≡ 47 → (take k p ++ 47 ∷ []) ++ drop (k + 1) p ≡ p
    front_at p lt slash =
        ap (λ (l : Path). l ++ drop (k + 1) p) (ap (λ (c : ℕ). take k p ++ c ∷ []) (sym slash) ∙ sym (take_more p k 0 lt)) ∙ take-append-drop (k + 1) p

    whole : p ++ 47 ∷ [] ≡ a ++ b
    whole = ap (λ (l : Path). l ++ 47 ∷ []) (sym (front_at p in_p slash)) ∙ append_assoc a (drop (k + 1) p) (47 ∷ [])

    split : (a b : Path) → 1 ≤ length a → fronts (a ++ b) ≡ fronts a ++ fronts_after a b
    split [] b some = absurd (omega (arith, some))
    split (c ∷ a) b some = fronts_split (c ∷ []) a b

    parts : folders_to p ≡ fronts a ++ fronts_after a b
    parts = ap fronts whole ∙ split a b (omega (arith, length-append (take k p) (47 ∷ [])))

    none : with_folders_on D (fronts a) ≡ D
    none = with_none (fronts a) D
        (front_part (λ f. is_folder (D.tree f)) a (drop (k + 1) other)
        (ap (λ (q : Path). has_folders D.tree q) (ap (λ (l : Path). (l ++ 47 ∷ []) ++ drop (k + 1) other) same ∙ front_at other in_other other_slash) ∙ folders))
