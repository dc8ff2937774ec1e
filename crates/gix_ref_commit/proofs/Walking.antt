-- The search for empty folders.
use Rattle.std.proofs.Common.{◌≡◌, ◌≢◌, ◌⊎◌, inl, inr, ⊎_elim, ℕ, zero, suc, ◌<◌, List, [], ◌∷◌, ◌++◌, length, Bool, true, false, Option, Some, None, IsSome, refl, sym, ◌∙◌, ap, subst, arith, append_assoc, reverse, if◌then◌else◌, Vec, get_or, take, drop, ◌+◌}
use Rattle.gix_ref_files.proofs.Meeting.{no_fewer_starts, met_wider}
use Rattle.std.specs.Prelude.{◌==◌}
use Rattle.std.specs.List.{All}
use Rattle.std.specs.declared.alloc.Global.{Global}
use Rattle.std.proofs.lemmas.Bool.{eqb-true}
use Rattle.std.proofs.lemmas.List.{length-map, map-append, reverse-append, take_more}
use Rattle.std.proofs.lemmas.List.Elements.{All-append, All-cons, All-nil, All-push, All-head, All-tail}
use Rattle.gix_ref_hash.specs.Bytes.{Cuts, NoByte}
use Rattle.gix_ref_files.specs.Calls.{IsEntryOf, entry_name}
use Rattle.gix_ref_files.specs.Settled.{IsIn}
use Rattle.gix_ref_files.specs.Tree.{Tree, Path, Content, fronts, is_file, is_folder}
use Rattle.gix_ref_files.specs.Tree.Content.{File, Folder}
use Rattle.gix_ref_files.specs.declared.files.Entry.{Entry as FolderEntry}
use Rattle.gix_ref_files.proofs.Settling.{front_splits}
use Rattle.gix_ref_target.specs.Layout.{LiesIn}
use Rattle.gix_ref_lookup.specs.CleanPaths.{common_of}
use Rattle.gix_ref_lookup.specs.declared.folders.Dirs.{Dirs}
use Rattle.gix_ref_transaction.proofs.Adds.{clash}
use Rattle.gix_ref_transaction.specs.OwnLocks.{paths_of}
use Rattle.gix_ref_files.specs.Files.{FaultCounts, NoFewer}
use Rattle.gix_ref_files.specs.Steps.{step_of}
use Rattle.gix_ref_files.specs.declared.files.FileError.{FileError}
use Rattle.gix_ref_files.specs.declared.files.FileError.TheVariants.{Device, NotUtf8, Memory as no_memory}
use Rattle.gix_ref_files.specs.declared.steps.Cause.TheVariants.{Asked, File as Fault, Sync, Unexpected}
use Rattle.gix_ref_files.specs.declared.steps.Planned.{Planned}
use Rattle.gix_ref_commit.specs.declared.folders.EmptyDirs.{EmptyDirs}
use Rattle.gix_ref_commit.specs.declared.plan.About.{About}
use Rattle.gix_ref_commit.specs.declared.run.Unfinished.{Unfinished}
use Rattle.gix_ref_commit.specs.declared.run.Unfinished.TheVariants.{Memory as Unwanted, Step}
use Rattle.gix_ref_commit.specs.Entries.{Entry, bare, entries, entry}
use Rattle.gix_ref_transaction.specs.declared.edit.Edit.{Edit}
use Rattle.gix_ref_commit.specs.Cleared.{AllInWay, AreAllFolders, AreInWay, AreInWayOf, folder_lists, is_seen, written_at, HoldsMore, IsAtOrBelow, IsOfStore, first_component, roots_of}
use Rattle.gix_ref_commit.specs.internal.Walks.{AreFolders, FailsBefore, FailsToList, IsCountedFault, IsWalked, OnlyMore}

pub in_either : (p : Path) (a b : List Path) → IsIn p (a ++ b) → IsIn p a ⊎ IsIn p b
in_either p [] b h = inr h
in_either p (x ∷ a) b (inl here) = inl (inl here)
in_either p (x ∷ a) b (inr later) = ⊎_elim (λ first. inl (inr first)) (λ second. inr second) (in_either p a b later)

-- a folder that is not above a folder of the store, and not that, is not among those that lead to it
pub not_on_way : (root folder : Path) → (LiesIn root folder → ⊥) → (root ≡ folder → ⊥) → IsIn folder (fronts root ++ root ∷ []) → ⊥
not_on_way root folder lies same within = ⊎_elim (λ front. lies (front_splits root folder front)) (λ own. by own) (in_either folder (fronts root) (root ∷ []) within)
  where
    by : IsIn folder (root ∷ []) → ⊥
    by (inl is) = same is
    by (inr none) = none

pub not_of_store : (dirs : Dirs) (folder : Path) → let git = dirs.git_dir.items in let common = common_of dirs.git_dir dirs.common_dir in
    (IsIn folder (fronts git ++ git ∷ []) → ⊥) → (IsIn folder (fronts common ++ common ∷ []) → ⊥) → IsIn folder (roots_of dirs) → ⊥
not_of_store dirs folder git common within =
    ⊎_elim git common
    (in_either folder (fronts dirs.git_dir.items ++ dirs.git_dir.items ∷ []) (fronts (common_of dirs.git_dir dirs.common_dir) ++ common_of dirs.git_dir dirs.common_dir ∷ []) within)

-- what is in a folder that is in a folder is in that
pub inside_then : (a b c : Path) → IsAtOrBelow a b → IsAtOrBelow b c → IsAtOrBelow a c
inside_then a b c (inl same) h = subst (λ (x : Path). IsAtOrBelow x c) same h
inside_then a b c (inr below) (inl same) = inr (below.0, same ∙ below.1)
inside_then a b c (inr below) (inr further) =
    inr (below.0 ++ 47 ∷ further.0, further.1 ∙ (ap (λ (x : Path). x ++ 47 ∷ further.0) below.1 ∙ append_assoc a (47 ∷ below.0) (47 ∷ further.0)))

pub holds_above : (dirs : Dirs) (T : Tree) (top folder : Path) → IsAtOrBelow top folder → HoldsMore dirs T folder → HoldsMore dirs T top
holds_above dirs T top folder inside (path, at, what) = (path, inside_then top folder path inside at, what)

-- an entry that is a file is more than an empty folder
pub file_holds : (dirs : Dirs) (T : Tree) (folder : Path) (entry : FolderEntry) → IsEntryOf T folder entry → entry.is_folder ≡ false → HoldsMore dirs T folder
file_holds dirs T folder entry is file =
    (folder ++ 47 ∷ entry_name entry, inr (entry_name entry, refl), inl (by (T (folder ++ 47 ∷ entry_name entry)) is.0 (sym is.1 ∙ file)))
  where
    by : (c : Option Content) → IsSome c → is_folder c ≡ false → is_file c ≡ true
    by (Some (File bytes)) there none = refl
    by (Some Folder) there none = clash refl none
    by None there none = clash there refl

-- and so is a folder that leads to the store
pub store_holds : (dirs : Dirs) (T : Tree) (folder path : Path) (name : List ℕ) → path ≡ folder ++ 47 ∷ name → (root : Path) × IsOfStore dirs root × IsAtOrBelow path root → HoldsMore dirs T folder
store_holds dirs T folder path name is (root, store, at) = (root, inside_then folder path root (inr (name, is)) at, inr store)

pub one_more_folder : (dirs : Dirs) (path new : Path) (found all : List Path) → all ≡ found ++ new ∷ [] → IsAtOrBelow path new → (IsIn new (roots_of dirs) → ⊥) → OnlyMore dirs path found all
one_more_folder dirs path new found all is inside outside = (
  new ∷ [],
  is,
  record {
    inside = All-cons (IsAtOrBelow path) new [] inside (All-nil (IsAtOrBelow path));
    outside = All-cons (λ f. IsIn f (roots_of dirs) → ⊥) new [] outside (All-nil (λ f. IsIn f (roots_of dirs) → ⊥));
  },
)

both_folders : (dirs : Dirs) (path : Path) (a b : List Path) → AreFolders dirs path a → AreFolders dirs path b → AreFolders dirs path (a ++ b)
both_folders dirs path a b first second = record {
  inside = All-append (IsAtOrBelow path) a b first.inside second.inside;
  outside = All-append (λ f. IsIn f (roots_of dirs) → ⊥) a b first.outside second.outside;
}

pub more_then : (dirs : Dirs) (path : Path) (a b c : List Path) → OnlyMore dirs path a b → OnlyMore dirs path b c → OnlyMore dirs path a c
more_then dirs path a b c (xs, is, first) (ys, next, second) =
    (xs ++ ys, next ∙ (ap (λ (l : List Path). l ++ ys) is ∙ append_assoc a xs ys), both_folders dirs path xs ys first second)

-- folders of a folder that was found are those of the one that is walked
pub walked_more : (dirs : Dirs) (top folder : Path) (a b : List Path) → IsAtOrBelow top folder → IsWalked dirs top a → OnlyMore dirs folder a b → IsWalked dirs top b
walked_more dirs top folder a b inside (rest, is, are) (ys, next, more) = (
  rest ++ ys,
  next ∙ ap (λ (l : List Path). l ++ ys) is,
  subst (AreFolders dirs top) (sym next) (both_folders dirs top a ys are (record { inside = within ys more.inside; outside = more.outside })),
)
  where
    within : (l : List Path) → All (IsAtOrBelow folder) l → All (IsAtOrBelow top) l
    within [] all = All-nil (IsAtOrBelow top)
    within (x ∷ l) all = All-cons (IsAtOrBelow top) x l (inside_then top folder x inside (All-head (IsAtOrBelow folder) x l all)) (within l (All-tail (IsAtOrBelow folder) x l all))

pub all_reverse : (P : Path → Type 0) (xs : List Path) → All P xs → All P (reverse xs)
all_reverse P [] all = all
all_reverse P (x ∷ xs) all = subst (All P) (sym (reverse-append (x ∷ []) xs)) (All-push P (reverse xs) x (all_reverse P xs (All-tail P x xs all)) (All-head P x xs all))

-- what was walked, backwards
pub in_way_of : (dirs : Dirs) (T : Tree) (top : Path) (found folders : List Path) → IsWalked dirs top found → folders ≡ reverse found → AreAllFolders T top folders → AreInWay dirs T false top folders
in_way_of dirs T top found folders (rest, is, are) backwards all = record {
  inside = subst (All (IsAtOrBelow top)) (sym backwards) (all_reverse (IsAtOrBelow top) found are.inside);
  outside = subst (All (λ f. IsIn f (roots_of dirs) → ⊥)) (sym backwards) (all_reverse (λ f. IsIn f (roots_of dirs) → ⊥) found are.outside);
  none_or_all = inr all;
}

-- the first component of a path
pub component_cut : (text before after : List ℕ) → Cuts 47 text before after → length before ≡ first_component text
component_cut text before after cut = sym (ap first_component cut.whole ∙ by before cut.none)
  where
    no_slash : (c : ℕ) → c ≢ 47 → (c == 47) ≡ false
    no_slash c apart = neither (c == 47) refl
      where
        neither : (b : Bool) → (c == 47) ≡ b → (c == 47) ≡ false
        neither true is = absurd (apart (eqb-true c 47 is))
        neither false is = is

    by : (front : List ℕ) → NoByte 47 front → first_component (front ++ 47 ∷ after) ≡ length front
    by [] none = refl
    by (c ∷ front) none =
        ap (λ b. if b then 0 else suc (first_component (front ++ 47 ∷ after))) (no_slash c (none 0 (omega arith)))
        ∙ ap suc (by front (λ k lt. none (suc k) (omega (arith, lt))))

pub component_whole : (text : List ℕ) → NoByte 47 text → length text ≡ first_component text
component_whole [] none = refl
component_whole (c ∷ text) none =
    ap suc (component_whole text (λ k lt. none (suc k) (omega (arith, lt))))
    ∙ sym (ap (λ b. if b then 0 else suc (first_component text)) (no_slash (none 0 (omega arith))))
  where
    no_slash : c ≢ 47 → (c == 47) ≡ false
    no_slash apart = neither (c == 47) refl
      where
        neither : (b : Bool) → (c == 47) ≡ b → (c == 47) ≡ false
        neither true is = absurd (apart (eqb-true c 47 is))
        neither false is = is

-- paths, backwards
pub backwards : (paths : List (Vec ℕ Global)) → paths_of (reverse paths) ≡ reverse (paths_of paths)
backwards [] = refl
backwards (p ∷ paths) =
    ap paths_of (reverse-append (p ∷ []) paths)
    ∙ (map-append (λ (v : Vec ℕ Global). v.items) (reverse paths) (p ∷ [])
    ∙ (ap (λ (l : List Path). l ++ p.items ∷ []) (backwards paths) ∙ sym (reverse-append (p.items ∷ []) (paths_of paths))))

-- Folders in the way of a plan, one step more.
pub way_added : (edits : List Edit) (dirs : Dirs) (T : Tree) (folders : List (List Path)) (plan : List Entry) (fs : List Path) (e : Entry) → AllInWay edits dirs T folders plan → AreInWayOf dirs T (is_seen edits e.1) (written_at (bare e.0)) fs → AllInWay edits dirs T (folders ++ fs ∷ []) (plan ++ e ∷ [])
way_added edits dirs T [] [] fs e all way = (way, tt)
way_added edits dirs T [] (x ∷ plan) fs e all way = absurd all
way_added edits dirs T (xs ∷ folders) [] fs e all way = absurd all
way_added edits dirs T (xs ∷ folders) (x ∷ plan) fs e all way = (all.0, way_added edits dirs T folders plan fs e all.1 way)

-- A fault that was counted, or memory.
pub unlisted_for : (planned : Planned About) (before now : FaultCounts) (fault : FileError) (u : Unfinished) → written_at (step_of planned.action) ≢ None → IsCountedFault before now fault →
    (fault ≡ no_memory → u ≡ Unwanted) → ((fault ≡ no_memory → ⊥) → u ≡ Step planned.about (Fault fault)) → FailsBefore planned before now u
unlisted_for planned before now fault u writes counted memory other = by fault refl
  where
    as_memory : fault ≡ no_memory → FailsBefore planned before now u
    as_memory is = subst (FailsBefore planned before now) (sym (memory is)) tt

    as_fault : (fault ≡ no_memory → ⊥) → FailsBefore planned before now u
    as_fault some = subst (FailsBefore planned before now) (sym (other some)) (refl, writes, ⊎_elim (λ is. absurd (some is)) (λ risen. risen) counted, some)

    device : (kind : _) → Device kind ≡ no_memory → ⊥
    device kind e = cc

    text : NotUtf8 ≡ no_memory → ⊥
    text e = cc

    by : (f : FileError) → fault ≡ f → FailsBefore planned before now u
    by no_memory is = as_memory is
    by (Device kind) is = as_fault (λ m. device kind (sym is ∙ m))
    by NotUtf8 is = as_fault (λ m. text (sym is ∙ m))

-- the step of a plan before which the search ended
pub fails_at : (plan : List (Planned About)) (i : ℕ) (before mid now : FaultCounts) (d : Planned About) (u : Unfinished) → i < length plan → NoFewer before mid → FailsBefore (get_or plan i d) mid now u → FailsToList (entries plan) before now u
fails_at plan i before mid now d Unwanted lt le fails = tt
fails_at plan i before mid now d (Step about (Sync fault)) lt le fails = absurd fails
fails_at plan i before mid now d (Step about Unexpected) lt le fails = absurd fails
fails_at plan i before mid now d (Step about Asked) lt le fails = absurd fails
fails_at plan i before mid now d (Step about (Fault fault)) lt le (same, writes, counted, some) =
    (entry (get_or plan i d), same, record { seen = entries (take i plan); rest = entries (drop (suc i) plan); cut = by plan i lt; writes = writes; counted = met_wider le (no_fewer_starts now) counted; no_want = some })
  where
    by : (p : List (Planned About)) (k : ℕ) → k < length p → entries p ≡ entries (take k p) ++ entry (get_or p k d) ∷ entries (drop (suc k) p)
    by [] k lt = absurd (omega (arith, lt))
    by (x ∷ p) zero lt = refl
    by (x ∷ p) (suc k) lt = ap (λ (l : List Entry). entry x ∷ l) (by p k (omega (arith, lt)))

-- one step more is looked at
pub way_next : (edits : List Edit) (dirs : Dirs) (T mid : Tree) (ways all : List EmptyDirs) (plan : List (Planned About)) (i : ℕ) (d : Planned About) (way : EmptyDirs) → i < length plan → all ≡ ways ++ way ∷ [] → mid ≡ T →
    AllInWay edits dirs T (folder_lists ways) (entries (take i plan)) → AreInWayOf dirs mid (is_seen edits (get_or plan i d).about) (written_at (step_of (get_or plan i d).action)) (paths_of way.folders.items) → AllInWay edits dirs T (folder_lists all) (entries (take (i + 1) plan))
way_next edits dirs T mid ways all plan i d way lt is same before this =
    subst (λ (l : List (List Path)). AllInWay edits dirs T l (entries (take (i + 1) plan))) (sym (ap folder_lists is ∙ map-append (λ (w : EmptyDirs). paths_of w.folders.items) ways (way ∷ [])))
    (subst (λ (l : List Entry). AllInWay edits dirs T (folder_lists ways ++ paths_of way.folders.items ∷ []) l)
    (sym (ap entries (take_more plan i d lt) ∙ map-append entry (take i plan) (get_or plan i d ∷ [])))
    (way_added edits dirs T (folder_lists ways) (entries (take i plan)) (paths_of way.folders.items) (entry (get_or plan i d)) before
    (subst (λ (U : Tree). AreInWayOf dirs U (is_seen edits (get_or plan i d).about) (written_at (step_of (get_or plan i d).action)) (paths_of way.folders.items)) same this)))

-- a folder that was found is at the path or in it
pub walked_at : (dirs : Dirs) (top : Path) (found : List (Vec ℕ Global)) (i : ℕ) (d : Vec ℕ Global) → i < length found → IsWalked dirs top (paths_of found) → IsAtOrBelow top (get_or found i d).items
walked_at dirs top found i d lt (rest, is, are) =
    subst (IsAtOrBelow top) (item found i lt) (are.inside i d.items (omega (arith, lt, length-map found (λ (v : Vec ℕ Global). v.items))))
  where
    item : (l : List (Vec ℕ Global)) (k : ℕ) → k < length l → get_or (paths_of l) k d.items ≡ (get_or l k d).items
    item [] k lt = absurd (omega (arith, lt))
    item (x ∷ l) zero lt = refl
    item (x ∷ l) (suc k) lt = item l k (omega (arith, lt))
