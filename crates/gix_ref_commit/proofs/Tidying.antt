-- Empty folders above what was removed.
use Rattle.std.proofs.Common.{◌≡◌, ◌⊎◌, inl, inr, ⊎_elim, ℕ, zero, suc, ◌<◌, List, [], ◌∷◌, ◌++◌, length, true, false, Option, Some, None, refl, sym, ◌∙◌, ap, subst, arith, get_or, take, Vec}
use Rattle.std.specs.Prelude.{bytes_eq}
use Rattle.std.specs.declared.alloc.Global.{Global}
use Rattle.std.proofs.lemmas.List.{length-map}
use Rattle.gix_ref_files.specs.Calls.{RemovingFolder}
use Rattle.gix_ref_files.specs.DiskCalls.{RemovingFolderOn}
use Rattle.gix_ref_files.specs.Files.{Meaning, disk_of, Leaves, Passes}
use Rattle.gix_ref_files.specs.Settled.{IsIn}
use Rattle.gix_ref_files.specs.Steps.Step.{RemoveFolder}
use Rattle.gix_ref_files.specs.Tree.{Tree, Path, Content, file_of, is_file, is_folder}
use Rattle.gix_ref_files.specs.Tree.Content.{File, Folder}
use Rattle.gix_ref_files.proofs.Moments.{joins, passes_joins, passes_starts, passes_weaken, starts, weaken}
use Rattle.gix_ref_files.proofs.Puts.{put_at, put_other, same_tree}
use Rattle.gix_ref_lookup.specs.declared.folders.Dirs.{Dirs}
use Rattle.gix_ref_theory.proofs.OnDisks.{own_steps}
use Rattle.gix_ref_theory.specs.OnDisks.{IsAsBefore}
use Rattle.gix_ref_theory.specs.OnRealTrees.{view_of}
use Rattle.gix_ref_transaction.proofs.Adds.{clash, either_way, is_same_path, same_path}
use Rattle.gix_ref_transaction.specs.OwnLocks.{paths_of}
use Rattle.gix_ref_commit.specs.Cleared.{FoldersGo, IsAbove, OnlyFolders, kept_of, roots_of}
use Rattle.gix_ref_commit.specs.Unfinished.{tried_after}
use Rattle.gix_ref_commit.specs.declared.run.Unfinished.{Unfinished}
use Rattle.gix_ref_commit.specs.declared.run.Unfinished.TheVariants.{Memory as no_memory, Step as AtStep}

-- One folder is removed, or not.
pub one_goes : (dirs : Dirs) (path folder : Path) (rest : List ℕ) (S T : Tree) → path ≡ folder ++ 47 ∷ rest → kept_of dirs path < length folder → (IsIn folder (roots_of dirs) → ⊥) → RemovingFolder S folder T → FoldersGo dirs (path ∷ []) S T
one_goes dirs path folder rest S T is deep out (inl same) q = inl (ap (λ (R : Tree). R q) same)
one_goes dirs path folder rest S T is deep out (inr (empty, gone)) q = either_way (bytes_eq folder q)
    (λ same.
    let e = same_path folder q same in
    subst (λ (p : Path). (T p ≡ S p) ⊎ ((S p ≡ Some Folder) × (T p ≡ None) × IsAbove dirs (path ∷ []) p × (IsIn p (roots_of dirs) → ⊥))) e
    (inr (folder_there (S folder) empty.0, ap (λ (R : Tree). R folder) gone ∙ put_at S folder None, inl (rest, is, deep), out)))
    (λ other. inl (ap (λ (R : Tree). R q) gone ∙ put_other S folder q None (λ same. clash (is_same_path folder q same) other)))
  where
    folder_there : (c : Option Content) → is_folder c ≡ true → c ≡ Some Folder
    folder_there (Some Folder) h = refl
    folder_there (Some (File bytes)) h = clash h refl
    folder_there None h = clash h refl

-- One after the other.
pub go_then : (dirs : Dirs) (paths : List Path) (S T U : Tree) → FoldersGo dirs paths S T → FoldersGo dirs paths T U → FoldersGo dirs paths S U
go_then dirs paths S T U first second q = ⊎_elim
    (λ same. ⊎_elim (λ before. inl (same ∙ before)) (λ gone. inr (gone.0, same ∙ gone.1, gone.2, gone.3)) (first q))
    (λ gone. ⊎_elim (λ before. inr (sym before ∙ gone.0, gone.1, gone.2, gone.3)) (λ early. absurd (differ (sym early.1 ∙ gone.0))) (first q))
    (second q)
  where
    differ : None ≡ Some Folder → ⊥
    differ e = cc

pub none_go : (dirs : Dirs) (paths : List Path) (T : Tree) → FoldersGo dirs paths T T
none_go dirs paths T q = inl refl

-- above one of the paths
above_among : (dirs : Dirs) (paths : List Path) (i : ℕ) (d q : Path) → i < length paths → IsAbove dirs (get_or paths i d ∷ []) q → IsAbove dirs paths q
above_among dirs [] i d q lt above = absurd (omega (arith, lt))
above_among dirs (p ∷ paths) zero d q lt (inl here) = inl here
above_among dirs (p ∷ paths) zero d q lt (inr none) = absurd none
above_among dirs (p ∷ paths) (suc i) d q lt above = inr (above_among dirs paths i d q (omega (arith, lt)) above)

pub go_among : (dirs : Dirs) (paths : List (Vec ℕ Global)) (i : ℕ) (d : Vec ℕ Global) (path : Path) (S T : Tree) → i < length paths → path ≡ (get_or paths i d).items → FoldersGo dirs (path ∷ []) S T → FoldersGo dirs (paths_of paths) S T
go_among dirs paths i d path S T lt is goes q = ⊎_elim (λ same. inl same) (λ gone. inr (gone.0, gone.1, above gone.2, gone.3)) (goes q)
  where
    item : (l : List (Vec ℕ Global)) (k : ℕ) → k < length l → get_or (paths_of l) k d.items ≡ (get_or l k d).items
    item [] k lt = absurd (omega (arith, lt))
    item (x ∷ l) zero lt = refl
    item (x ∷ l) (suc k) lt = item l k (omega (arith, lt))

    above : IsAbove dirs (path ∷ []) q → IsAbove dirs (paths_of paths) q
    above here = above_among dirs (paths_of paths) i d.items q (omega (arith, lt, length-map paths (λ (v : Vec ℕ Global). v.items)))
        (subst (λ (p : Path). IsAbove dirs (p ∷ []) q) (is ∙ sym (item paths i lt)) here)

pub leaves_then : (dirs : Dirs) (paths : List Path) (old mid new : Meaning) → Leaves old mid (FoldersGo dirs paths old.tree) → Leaves mid new (FoldersGo dirs paths mid.tree) → Leaves old new (FoldersGo dirs paths old.tree)
leaves_then dirs paths old mid new first second = joins first (weaken second (λ T goes. go_then dirs paths old.tree mid.tree T first.tree goes))

pub leaves_starts : (dirs : Dirs) (paths : List Path) (now : Meaning) → Leaves now now (FoldersGo dirs paths now.tree)
leaves_starts dirs paths now = starts now (FoldersGo dirs paths now.tree) (none_go dirs paths now.tree)

-- On a disk.
pub one_folder : (dirs : Dirs) (folder : Path) (old new : Meaning) → (IsIn folder (roots_of dirs) → ⊥) → Passes old new (RemovingFolderOn (disk_of old) folder) → OnlyFolders dirs old new
one_folder dirs folder old new out passes locked staying first sub among =
    passes_weaken passes (λ E begins. own_steps locked staying first (disk_of old) E (RemoveFolder folder) (λ within. out (sub folder within)) among begins)

pub only_starts : (dirs : Dirs) (now : Meaning) → OnlyFolders dirs now now
only_starts dirs now locked staying first sub among = passes_starts now (IsAsBefore locked staying first) among

pub only_then : (dirs : Dirs) (old mid new : Meaning) → OnlyFolders dirs old mid → OnlyFolders dirs mid new → OnlyFolders dirs old new
only_then dirs old mid new first second locked staying disk sub among =
    let early = first locked staying disk sub among in passes_joins early (second locked staying disk sub early.disk)

-- No file changes.
pub same_files : (dirs : Dirs) (paths : List Path) (S T : Tree) → FoldersGo dirs paths S T → (q : Path) → view_of T q ≡ view_of S q
same_files dirs paths S T goes q = ⊎_elim (λ same. ap file_of same) (λ gone. ap file_of gone.1 ∙ sym (ap file_of gone.0)) (goes q)

pub no_file_still : (dirs : Dirs) (paths : List Path) (S T : Tree) (q : Path) → FoldersGo dirs paths S T → is_file (S q) ≡ false → is_file (T q) ≡ false
no_file_still dirs paths S T q goes none = ⊎_elim (λ same. ap is_file same ∙ none) (λ gone. ap is_file gone.1) (goes q)

-- a path, cut before a slash
pub cut_at_slash : (path : Path) (end : ℕ) → end < length path → get_or path end 0 ≡ 47 → (rest : List ℕ) × (path ≡ take end path ++ 47 ∷ rest) × (length (take end path) ≡ end)
cut_at_slash [] end lt slash = absurd (omega (arith, lt))
cut_at_slash (c ∷ path) zero lt slash = (path, ap (λ (b : ℕ). b ∷ path) slash, refl)
cut_at_slash (c ∷ path) (suc end) lt slash =
    let later = cut_at_slash path end (omega (arith, lt)) slash in (later.0, ap (λ (p : Path). c ∷ p) later.1, ap suc later.2)

-- after a run that ended early folders are gone above no more than what it was to remove
pub tried_go : (dirs : Dirs) (u : Unfinished) (removed : List (Vec ℕ Global)) (S T : Tree) → FoldersGo dirs (paths_of (tried_after u removed)) S T → FoldersGo dirs (paths_of removed) S T
tried_go dirs no_memory removed S T goes = λ q. ⊎_elim (λ same. inl same) (λ gone. absurd gone.2) (goes q)
tried_go dirs (AtStep about cause) removed S T goes = goes

-- and none where no step was begun
pub none_tried : (dirs : Dirs) (u : Unfinished) (removed : List (Vec ℕ Global)) (S T : Tree) → u ≡ no_memory → FoldersGo dirs (paths_of (tried_after u removed)) S T → S ≡ T
none_tried dirs u removed S T none goes = same_tree (λ q. ⊎_elim (λ same. sym same) (λ gone. absurd gone.2)
    (subst (λ (v : Unfinished). FoldersGo dirs (paths_of (tried_after v removed)) S T) none goes q))
