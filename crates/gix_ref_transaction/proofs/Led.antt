-- Folders that are there already: to make them changes nothing, and those that lead to one path may lead to another.
use Rattle.std.proofs.Common.{◌≡◌, inr, ℕ, zero, suc, ◌+◌, ◌<◌, List, [], ◌∷◌, ◌++◌, length, take, drop, get_or, Bool, true, false, Option, Some, None, refl, sym, ◌∙◌, ap, subst}
use Rattle.std.specs.Prelude.{if◌then◌else◌, ◌==◌, ◌||◌, ◌&&◌, is_some}
use Rattle.std.specs.List.{list_all, list_any}
use Rattle.std.proofs.lemmas.Bool.{cond-true}
use Rattle.std.proofs.lemmas.List.{take-append-drop, take_more}
use Rattle.gix_ref_files.specs.Tree.{Tree, Path, Content, IsShaped, fronts, fronts_after, has_folders, is_blocked, is_file, is_folder, with_folders}
use Rattle.gix_ref_files.specs.Tree.Content.{File, Folder}
use Rattle.gix_ref_files.specs.Disk.{Disk, a_folder, created_on, with_folders_on, with_item}
use Rattle.gix_ref_files.specs.Calls.{Creates, Creating}
use Rattle.gix_ref_files.specs.DiskCalls.{after_create, CreatingOn}
use Rattle.gix_ref_files.specs.Lock.{Acquiring, LockingOn, MakesLock, after_locking, folders_up_to, lock_of, readied, readied_on}
use Rattle.gix_ref_files.specs.declared.files.Create.{Create}
use Rattle.gix_ref_files.specs.declared.files.Create.TheVariants.{Made, Standing, Blocked}
use Rattle.gix_ref_files.proofs.LockLemmas.{lock_fronts}
use Rattle.gix_ref_files.proofs.Puts.{put_same}
use Rattle.gix_ref_files.proofs.Settling.{both_true}
use Rattle.gix_ref_transaction.proofs.Adds.{clash, false_is_true}

-- a folder is no file
no_file : (n : Option Content) → is_folder n ≡ true → is_file n ≡ false
no_file (Some (File bytes)) h = false_is_true h
no_file (Some Folder) h = refl
no_file None h = refl

folder_there : (n : Option Content) → is_folder n ≡ true → Some Folder ≡ n
folder_there (Some (File bytes)) h = false_is_true h
folder_there (Some Folder) h = refl
folder_there None h = false_is_true h

file_there : (n : Option Content) → is_file n ≡ true → is_some n ≡ true
file_there (Some (File bytes)) h = refl
file_there (Some Folder) h = false_is_true h
file_there None h = false_is_true h

-- where all of these are folders, none is a file
no_files : (T : Tree) (fs : List Path) → list_all (λ f. is_folder (T f)) fs ≡ true → list_any (λ f. is_file (T f)) fs ≡ false
no_files T [] all = refl
no_files T (f ∷ fs) all =
    let parts = both_true (is_folder (T f)) (list_all (λ g. is_folder (T g)) fs) all in
    ap (λ b. b || list_any (λ g. is_file (T g)) fs) (no_file (T f) parts.0) ∙ no_files T fs parts.1

-- to make them again changes no tree
same_folders : (T : Tree) (fs : List Path) → list_all (λ f. is_folder (T f)) fs ≡ true → with_folders T fs ≡ T
same_folders T [] all = refl
same_folders T (f ∷ fs) all =
    let parts = both_true (is_folder (T f)) (list_all (λ g. is_folder (T g)) fs) all in
    ap (λ (S : Tree). with_folders S fs) (put_same T f (Some Folder) (folder_there (T f) parts.0)) ∙ same_folders T fs parts.1

-- and no disk
same_folders_on : (D : Disk) (fs : List Path) → list_all (λ f. is_folder (D.tree f)) fs ≡ true → with_folders_on D fs ≡ D
same_folders_on D [] all = refl
same_folders_on D (f ∷ fs) all =
    let parts = both_true (is_folder (D.tree f)) (list_all (λ g. is_folder (D.tree g)) fs) all in
    ap (λ (E : Disk). with_folders_on E fs) (cond-true (is_folder (D.tree f)) D (with_item D f a_folder) parts.0) ∙ same_folders_on D fs parts.1

-- Where folders lead to a place, its lock is made as it is after the making of these.
module _ (before : Tree) (place : Path) (there : has_folders before place ≡ true) where
  free : is_blocked before place ≡ false
  free = no_files before (fronts place) there

  same : before ≡ readied before place
  same = sym (same_folders before (fronts place) there)

  pub makes : (T : Tree) (create : Create) → Creates before (lock_of place) T create → MakesLock before place T create
  makes T Made creates = (free, subst (λ (S : Tree). Creates S (lock_of place) T Made) same creates)
  makes T Standing creates = (free, subst (λ (S : Tree). Creates S (lock_of place) T Standing) same creates)
  makes T Blocked creates = clash creates.0 (ap (λ (l : List Path). list_any (λ f. is_file (before f)) l) (lock_fronts place) ∙ free)

  pub acquiring : (T : Tree) → Creating before (lock_of place) T → Acquiring before place T
  acquiring T creating = inr (free, subst (λ (S : Tree). Creating S (lock_of place) T) same creating)

-- and so on a disk
module _ (before : Disk) (place : Path) (there : has_folders before.tree place ≡ true) where
  same_on : before ≡ readied_on before place
  same_on = sym (same_folders_on before (fronts place) there)

  pub locked : (D : Disk) (create : Create) → D ≡ after_create before (lock_of place) create → D ≡ after_locking before place create
  locked D Made is = is ∙ ap (λ (E : Disk). created_on E (lock_of place)) same_on
  locked D Standing is = is ∙ same_on
  locked D Blocked is = is

  pub locking : (D : Disk) → CreatingOn before (lock_of place) D → LockingOn before place D
  locking D creating = inr (free before.tree place there, subst (λ (E : Disk). CreatingOn E (lock_of place) D) same_on creating)

-- where the lock of a place is, folders lead to the place
pub led_by_lock : (T : Tree) (place : Path) → IsShaped T → is_file (T (lock_of place)) ≡ true → has_folders T place ≡ true
led_by_lock T place shaped a_file =
    sym (ap (λ (l : List Path). list_all (λ f. is_folder (T f)) l) (lock_fronts place)) ∙ shaped (lock_of place) (file_there (T (lock_of place)) a_file)

-- the fronts of the beginning of a path are fronts of the path
after_begins : (P : Path → Bool) (seen xs ys : List ℕ) → list_all P (fronts_after seen (xs ++ ys)) ≡ true → list_all P (fronts_after seen xs) ≡ true
after_begins P seen [] ys all = refl
after_begins P seen (x ∷ xs) ys all = by_byte (x == 47) all (after_begins P (seen ++ x ∷ []) xs ys)
  where
    by_byte : (slash : Bool) → list_all P (if slash then seen ∷ fronts_after (seen ++ x ∷ []) (xs ++ ys) else fronts_after (seen ++ x ∷ []) (xs ++ ys)) ≡ true →
        (list_all P (fronts_after (seen ++ x ∷ []) (xs ++ ys)) ≡ true → list_all P (fronts_after (seen ++ x ∷ []) xs) ≡ true) →
        list_all P (if slash then seen ∷ fronts_after (seen ++ x ∷ []) xs else fronts_after (seen ++ x ∷ []) xs) ≡ true
    by_byte true every later =
        let parts = both_true (P seen) (list_all P (fronts_after (seen ++ x ∷ []) (xs ++ ys))) every in
        ap (λ b. b && list_all P (fronts_after (seen ++ x ∷ []) xs)) parts.0 ∙ later parts.1
    by_byte false every later = later every

begins : (T : Tree) (p rest : Path) → has_folders T (p ++ rest) ≡ true → has_folders T p ≡ true
begins T [] rest all = refl
begins T (b ∷ p) rest all = after_begins (λ f. is_folder (T f)) (b ∷ []) p rest all

-- where the folder of a path is on the way to another path, all folders that lead to the one lead to the other
pub shares : (T : Tree) (path other : Path) (end : ℕ) → fronts path ≡ folders_up_to path end → end < length other → get_or other end 0 ≡ 47 → take end other ≡ take end path → has_folders T other ≡ true → has_folders T path ≡ true
shares T path other zero is lt slash alike all = ap (list_all (λ f. is_folder (T f))) is
shares T path other (suc e) is lt slash alike all =
    ap (list_all (λ f. is_folder (T f))) is
    ∙ begins T (take (suc e) path ++ 47 ∷ []) (drop (suc e + 1) other) (subst (λ (p : Path). has_folders T p ≡ true) parts all)
  where
    front : take (suc e + 1) other ≡ take (suc e) path ++ 47 ∷ []
    front =
        take_more other (suc e) 0 lt
        ∙ (ap (λ (l : Path). l ++ get_or other (suc e) 0 ∷ []) alike ∙ ap (λ (b : ℕ). take (suc e) path ++ b ∷ []) slash)

    parts : other ≡ (take (suc e) path ++ 47 ∷ []) ++ drop (suc e + 1) other
    parts = sym (take-append-drop (suc e + 1) other) ∙ ap (λ (l : Path). l ++ drop (suc e + 1) other) front
