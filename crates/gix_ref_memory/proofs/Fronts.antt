-- A walk over the fronts of a path that makes a folder at each.
use Rattle.std.proofs.Common.{◌≡◌, ℕ, zero, suc, ◌+◌, ◌<◌, ◌≤◌, List, [], ◌∷◌, ◌++◌, length, take, drop, get_or, Bool, true, false, Some, refl, sym, ◌∙◌, ap, subst, arith}
use Rattle.std.specs.Prelude.{if◌then◌else◌, ◌==◌, bytes_eq}
use Rattle.std.specs.List.{list_all}
use Rattle.std.proofs.lemmas.List.{take_more, drop_more, drop_all, length-take}
use Rattle.std.proofs.Math.Seq.{take-length}
use Rattle.gix_ref_files.specs.Tree.{Tree, Path, IsShaped, no_tree, put, is_folder, has_folders, with_folders, fronts, fronts_after}
use Rattle.gix_ref_files.specs.Tree.Content.{Folder}
use Rattle.gix_ref_files.specs.Disk.{Disk}
use Rattle.gix_ref_files.specs.Files.{AddsDisks}
use Rattle.gix_ref_memory.specs.Changes.{after_changes, meaning_after, MakingFrontsOn, with_folder_as, with_folders_as}
use Rattle.gix_ref_memory.specs.Laws.{disk_is_found}
use Rattle.gix_ref_memory.specs.declared.memory.changes.Change.{Change}
use Rattle.gix_ref_files.proofs.Puts.{put_at, all_kept}
use Rattle.gix_ref_memory.proofs.Folders.{Making, OneMore, none_made, one_made, all_made, all_snoc}
use Rattle.gix_ref_memory.proofs.Grows.{disk}
use Rattle.gix_ref_files.proofs.PathFronts.{fronts_next}

-- the fronts that end at a place of a path or after it
abbrev pub from : Path → ℕ → List Path
from p i = fronts_after (take i p) (drop i p)

-- so far the fronts are folders, and as many are left to make
pub record Walk (synced : Bool) (first now : List Change) (p : Path) (most left i : ℕ) : Type 0 where
  pub making : Making synced (meaning_after first) (meaning_after now) (fronts p) (from p i)
  pub rest : with_folders (after_changes now no_tree) (take left (from p i)) ≡ with_folders (after_changes first no_tree) (take most (fronts p))
  pub disks : with_folders_as synced (disk now) (take left (from p i)) ≡ with_folders_as synced (disk first) (take most (fronts p))
  pub count : most + length (from p i) ≡ left + length (fronts p)
  pub folders : has_folders (after_changes now no_tree) (take i p) ≡ true
  pub shape : IsShaped (after_changes first no_tree) → IsShaped (after_changes now no_tree)
  pub kept : take (length first) now ≡ first

first_front : (p : Path) → fronts p ≡ from p 1
first_front [] = refl
first_front (b ∷ p) = refl

first_folders : (T : Tree) (p : Path) → has_folders T (take 1 p) ≡ true
first_folders T [] = refl
first_folders T (b ∷ p) = refl

-- before the first front
pub walk_begins : (synced : Bool) (now : List Change) (p : Path) (most : ℕ) → Walk synced now now p most most 1
walk_begins synced now p most =
    let all = first_front p in
    record {
      making = subst (Making synced (meaning_after now) (meaning_after now) (fronts p)) all (none_made synced (meaning_after now) (fronts p));
      rest = ap (λ (l : List Path). with_folders (after_changes now no_tree) (take most l)) (sym all);
      disks = ap (λ (l : List Path). with_folders_as synced (disk now) (take most l)) (sym all);
      count = ap (λ (l : List Path). most + length l) (sym all);
      folders = first_folders (after_changes now no_tree) p;
      shape = λ shape. shape;
      kept = take-length now;
    }

-- at the next byte
from_next : (p : Path) (i : ℕ) (is_slash : Bool) → i < length p → (get_or p i 0 == 47) ≡ is_slash → from p i ≡ (if is_slash then take i p ∷ from p (i + 1) else from p (i + 1))
from_next p i is_slash lt is =
    ap (fronts_after (take i p)) (drop_more p i 0 lt)
    ∙ ap (λ (l : Path). if get_or p i 0 == 47 then take i p ∷ fronts_after l (drop (i + 1) p) else fronts_after l (drop (i + 1) p)) (sym (take_more p i 0 lt))
    ∙ ap (λ (b : Bool). if b then take i p ∷ from p (i + 1) else from p (i + 1)) is

-- past a byte that is no slash
pub walk_on : (synced : Bool) (first now : List Change) (p : Path) (most left i : ℕ) → 1 ≤ i → i < length p → (get_or p i 0 == 47) ≡ false → Walk synced first now p most left i → Walk synced first now p most left (i + 1)
walk_on synced first now p most left i some lt is walk =
    let all = from_next p i false lt is in
    record {
      making = subst (Making synced (meaning_after first) (meaning_after now) (fronts p)) all walk.making;
      rest = ap (λ (l : List Path). with_folders (after_changes now no_tree) (take left l)) (sym all) ∙ walk.rest;
      disks = ap (λ (l : List Path). with_folders_as synced (disk now) (take left l)) (sym all) ∙ walk.disks;
      count = ap (λ (l : List Path). most + length l) (sym all) ∙ walk.count;
      folders = ap (λ (l : List Path). list_all (λ f. is_folder (after_changes now no_tree f)) l) (fronts_next p i false some lt is) ∙ walk.folders;
      shape = walk.shape;
      kept = walk.kept;
    }

folder_kept : (T : Tree) (p f : Path) → is_folder (T f) ≡ true → is_folder (put T p (Some Folder) f) ≡ true
folder_kept T p f folder = by_path (bytes_eq p f)
  where
    by_path : (same : Bool) → is_folder (if same then Some Folder else T f) ≡ true
    by_path true = refl
    by_path false = folder

-- the folder at the next slash, to be made
pub walk_at : (synced : Bool) (first now : List Change) (p : Path) (most left i : ℕ) → i < length p → (get_or p i 0 == 47) ≡ true → Walk synced first now p most left i → Making synced (meaning_after first) (meaning_after now) (fronts p) (take i p ∷ from p (i + 1))
walk_at synced first now p most left i lt is walk = subst (Making synced (meaning_after first) (meaning_after now) (fronts p)) (from_next p i true lt is) walk.making

-- the front of a front
front_of_front : (n m : ℕ) (xs : List Change) → n ≤ m → take n (take m xs) ≡ take n xs
front_of_front zero m xs le = refl
front_of_front (suc n) zero xs le = absurd (omega arith)
front_of_front (suc n) (suc m) [] le = refl
front_of_front (suc n) (suc m) (x ∷ xs) le = ap (λ (l : List Change). x ∷ l) (front_of_front n m xs (omega arith))

-- what was at the front of a list is still there
kept_through : (first mid now : List Change) → take (length first) mid ≡ first → take (length mid) now ≡ mid → take (length first) now ≡ first
kept_through first mid now kept more =
    let short : length first ≤ length mid = omega (arith, ap (λ (l : List Change). length l) kept, length-take (length first) mid) in
    sym (front_of_front (length first) (length mid) now short) ∙ ap (λ (l : List Change). take (length first) l) more ∙ kept

-- past a slash, where a folder was made
pub walk_made : (synced : Bool) (first mid now : List Change) (p : Path) (most left i : ℕ) → 1 ≤ i → i < length p → (get_or p i 0 == 47) ≡ true → Walk synced first mid p most (left + 1) i
    → after_changes now no_tree ≡ put (after_changes mid no_tree) (take i p) (Some Folder)
    → (IsShaped (after_changes mid no_tree) → IsShaped (after_changes now no_tree))
    → take (length mid) now ≡ mid
    → disk now ≡ with_folder_as synced (disk mid) (take i p)
    → OneMore synced (meaning_after mid) (meaning_after now) (take i p)
    → Walk synced first now p most left (i + 1)
walk_made synced first mid now p most left i some lt is walk made shape kept made_on passes =
    let all = from_next p i true lt is in
    let S = after_changes mid no_tree in
    let T = after_changes now no_tree in
    let here : is_folder (put S (take i p) (Some Folder) (take i p)) ≡ true = ap is_folder (put_at S (take i p) (Some Folder)) in
    let before : list_all (λ f. is_folder (put S (take i p) (Some Folder) f)) (fronts (take i p)) ≡ true =
    all_kept (λ f. is_folder (S f)) (λ f. is_folder (put S (take i p) (Some Folder) f)) (folder_kept S (take i p)) (fronts (take i p)) walk.folders in
    record {
      making = one_made synced (take i p) (walk_at synced first mid p most (left + 1) i lt is walk) passes made_on (λ t. disk_is_found mid t);
      rest = ap (λ (R : Tree). with_folders R (take left (from p (i + 1)))) made
          ∙ ap (λ (n : ℕ). with_folders S (take n (take i p ∷ from p (i + 1)))) (suc_is left)
          ∙ ap (λ (l : List Path). with_folders S (take (left + 1) l)) (sym all)
          ∙ walk.rest;
      disks = ap (λ (R : Disk). with_folders_as synced R (take left (from p (i + 1)))) made_on
          ∙ (ap (λ (n : ℕ). with_folders_as synced (disk mid) (take n (take i p ∷ from p (i + 1)))) (suc_is left)
          ∙ (ap (λ (l : List Path). with_folders_as synced (disk mid) (take (left + 1) l)) (sym all)
          ∙ walk.disks));
      count = omega (arith, ap (λ (l : List Path). length l) all, walk.count);
      folders = ap (λ (l : List Path). list_all (λ f. is_folder (T f)) l) (fronts_next p i true some lt is)
          ∙ ap (λ (R : Tree). list_all (λ f. is_folder (R f)) (fronts (take i p) ++ take i p ∷ [])) made
          ∙ all_snoc (λ f. is_folder (put S (take i p) (Some Folder) f)) (fronts (take i p)) (take i p) before here;
      shape = λ shaped. shape (walk.shape shaped);
      kept = kept_through first mid now walk.kept kept;
    }
  where
    suc_is : (n : ℕ) → suc n ≡ n + 1
    suc_is n = omega arith

-- past the last byte all folders are made
pub adds_all : (synced : Bool) (first now : List Change) (p : Path) (most left i : ℕ) → length p ≤ i → Walk synced first now p most left i → AddsDisks (meaning_after first) (meaning_after now) (MakingFrontsOn synced (disk first) (fronts p))
adds_all synced first now p most left i le walk =
    let none : from p i ≡ [] = ap (fronts_after (take i p)) (drop_all i p le) in
    all_made synced (subst (Making synced (meaning_after first) (meaning_after now) (fronts p)) none walk.making) (λ t. disk_is_found now t)
