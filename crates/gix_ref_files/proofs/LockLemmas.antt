-- The folders that lead to a path, and its lock.
use Rattle.std.proofs.Common.{◌≡◌, inl, inr, ⊎_elim, ℕ, zero, suc, ◌+◌, ◌<◌, ◌≤◌, List, [], ◌∷◌, ◌++◌, length, take, get_or, Bool, true, false, refl, sym, ◌∙◌, ap, subst, arith}
use Rattle.std.specs.Prelude.{if◌then◌else◌, ◌==◌, ◌||◌, Result, Ok, Err, IfOk, MatchResult, Some, bytes_eq, codes}
use Rattle.std.specs.List.{list_any}
use Rattle.std.proofs.lemmas.List.{length-take-le}
use Rattle.gix_ref_files.specs.Tree.{Tree, Path, put, is_file, is_blocked, fronts, fronts_after, folders_to, with_folders}
use Rattle.gix_ref_files.specs.Tree.Content.{Folder}
use Rattle.gix_ref_files.specs.Disk.{Disk, created_on, folder_of, with_folders_on}
use Rattle.gix_ref_files.specs.DiskCalls.{MakingFoldersOn, CreatingOn, after_create}
use Rattle.gix_ref_files.specs.Files.{Meaning, disk_of, Passes}
use Rattle.gix_ref_files.specs.Calls.{MakesFolders, MakingFolders, is_in_the_way, Creates}
use Rattle.gix_ref_files.specs.Lock.{Readies, Readying, ReadyingOn, MakesLock, LockingOn, after_locking, readied, readied_on, folders_up_to, lock_of}
use Rattle.gix_ref_files.specs.declared.files.Create.{Create}
use Rattle.gix_ref_files.specs.declared.files.Create.TheVariants.{Made, Standing, Blocked}
use Rattle.gix_ref_files.proofs.Moments.{passes_weaken, passes_joins}
use Rattle.gix_ref_files.proofs.PathFronts.{fronts_snoc, fronts_next}

any_snoc : (P : Path → Bool) (fs : List Path) (f : Path) → list_any P (fs ++ f ∷ []) ≡ (P f || list_any P fs)
any_snoc P [] f = refl
any_snoc P (g ∷ fs) f = ap (λ b. P g || b) (any_snoc P fs f) ∙ swap (P g) (P f) (list_any P fs)
  where
    swap : (a b c : Bool) → (a || (b || c)) ≡ (b || (a || c))
    swap true true c = refl
    swap true false c = refl
    swap false b c = refl

-- a file is in the way of a folder where one is at it or in its path
way_is_blocked : (T : Tree) (q p : Path) → 0 < length q → fronts p ≡ folders_to q → is_in_the_way T q ≡ is_blocked T p
way_is_blocked T q p some is =
    sym (any_snoc (λ f. is_file (T f)) (fronts q) q)
    ∙ ap (λ (l : List Path). list_any (λ f. is_file (T f)) l) (sym (is ∙ fronts_snoc q 47 some))

-- the result of making the folder of a path, stated of the path
pub readies : (before after : Tree) (q p : Path) (made : Bool) → 0 < length q → fronts p ≡ folders_to q → MakesFolders before q after made → Readies before p after made
readies before after q p true some is made =
    (sym (way_is_blocked before q p some is) ∙ made.0, made.1 ∙ ap (λ (l : List Path). with_folders before l) (sym is))
readies before after q p false some is made = (sym (way_is_blocked before q p some is) ∙ made.0, made.1)

pub readying : (before : Tree) (q p : Path) → 0 < length q → fronts p ≡ folders_to q → (T : Tree) → MakingFolders before q T → Readying before p T
readying before q p some is T making =
    ⊎_elim (λ same. inl same)
    (λ made. inr (sym (way_is_blocked before q p some is) ∙ made.0, (made.1.0, made.1.1 ∙ ap (λ (l : List Path). with_folders before (take made.1.0 l)) (sym is))))
    making

-- and the disks that are found meanwhile
pub readying_on : (before : Disk) (q p : Path) → 0 < length q → fronts p ≡ folders_to q → (D : Disk) → MakingFoldersOn before q D → ReadyingOn before p D
readying_on before q p some is D making =
    ⊎_elim (λ same. inl same)
    (λ made. inr (sym (way_is_blocked before.tree q p some is) ∙ made.0, (made.1.0, made.1.1 ∙ ap (λ (l : List Path). with_folders_on before (take made.1.0 l)) (sym is))))
    making

-- at a slash
pub fronts_at_slash : (p : Path) (i : ℕ) → 1 ≤ i → i < length p → (get_or p i 0 == 47) ≡ true → fronts (take (i + 1) p) ≡ folders_up_to p i
fronts_at_slash p zero some lt is = absurd (omega arith)
fronts_at_slash p (suc i) some lt is =
    fronts_next p (suc i) true some lt is
    ∙ sym (fronts_snoc (take (suc i) p) 47 (let le : suc i ≤ length p = omega arith in omega (arith, length-take-le (suc i) p le)))

-- a text of at most one byte has no folder and no front
pub no_fronts : (p : Path) (end : ℕ) → end ≤ 1 → fronts (take end p) ≡ []
no_fronts p zero le = refl
no_fronts [] (suc end) le = refl
no_fronts (b ∷ p) (suc zero) le = refl
no_fronts (b ∷ p) (suc (suc end)) le = absurd (omega arith)

pub no_folder : (p : Path) (end : ℕ) → end ≤ 1 → folder_of (take end p) ≡ []
no_folder p zero le = refl
no_folder [] (suc end) le = refl
no_folder (b ∷ p) (suc zero) le = refl
no_folder (b ∷ p) (suc (suc end)) le = absurd (omega arith)

-- the folders up to a slash that is there
pub up_to_slash : (p : Path) (end : ℕ) → (end ≡ 0 → ⊥) → folders_up_to p end ≡ folders_to (take end p)
up_to_slash p zero some = absurd (some refl)
up_to_slash p (suc end) some = refl

pub if_ok : {X E : Type 0} {P Q : X → Type 0} (r : Result X E) → ((x : X) → P x → Q x) → IfOk r P → IfOk r Q
if_ok (Ok x) wider holds = wider x holds
if_ok (Err e) wider holds = holds

pub if_either : {X E : Type 0} {P Q : X → Type 0} {A B : E → Type 0} (r : Result X E) → ((x : X) → P x → Q x) → ((e : E) → A e → B e) → MatchResult r P A → MatchResult r Q B
if_either (Ok x) wider other holds = wider x holds
if_either (Err e) wider other holds = other e holds

pub if_ok_with : {X E : Type 0} {P Q R : X → Type 0} (A : E → Type 0) (r : Result X E) → ((x : X) → P x → Q x → R x) → MatchResult r P A → IfOk r Q → IfOk r R
if_ok_with A (Ok x) wider one other = wider x one other
if_ok_with A (Err e) wider one other = other

-- folders are no new files
pub no_new_file : (T : Tree) (fs : List Path) (f : Path) → is_file (with_folders T fs f) ≡ true → is_file (T f) ≡ true
no_new_file T [] f file = file
no_new_file T (p ∷ ps) f file = by_path (bytes_eq p f) (no_new_file (put T p (Some Folder)) ps f file)
  where
    by_path : (same : Bool) → is_file (if same then Some Folder else T f) ≡ true → is_file (T f) ≡ true
    by_path true there = cc
    by_path false there = there

any_kept : (P Q : Path → Bool) (fs : List Path) → ((f : Path) → P f ≡ true → Q f ≡ true) → list_any P fs ≡ true → list_any Q fs ≡ true
any_kept P Q [] keeps some = some
any_kept P Q (f ∷ fs) keeps some = by_first (P f) (Q f) (list_any P fs) (list_any Q fs) (keeps f) (any_kept P Q fs keeps) some
  where
    by_first : (a b c d : Bool) → (a ≡ true → b ≡ true) → (c ≡ true → d ≡ true) → (a || c) ≡ true → (b || d) ≡ true
    by_first true b c d first rest either = ap (λ x. x || d) (first refl)
    by_first false true c d first rest either = refl
    by_first false false c d first rest either = rest either

-- a text without slash has no front, and adds none
after_plain : (seen : Path) (xs rest : List ℕ) → list_any (λ b. b == 47) rest ≡ false → fronts_after seen (xs ++ rest) ≡ fronts_after seen xs
after_plain seen [] [] plain = refl
after_plain seen [] (c ∷ rest) plain = by_byte (c == 47) (list_any (λ b. b == 47) rest) plain (after_plain (seen ++ c ∷ []) [] rest)
  where
    by_byte : (slash more : Bool) → (slash || more) ≡ false → (more ≡ false → fronts_after (seen ++ c ∷ []) rest ≡ []) → (if slash then seen ∷ fronts_after (seen ++ c ∷ []) rest else fronts_after (seen ++ c ∷ []) rest) ≡ []
    by_byte true more none later = cc
    by_byte false more none later = later none
after_plain seen (x ∷ xs) rest plain = ap (λ (l : List Path). if x == 47 then seen ∷ l else l) (after_plain (seen ++ x ∷ []) xs rest plain)

pub lock_fronts : (path : Path) → fronts (lock_of path) ≡ fronts path
lock_fronts [] = refl
lock_fronts (b ∷ path) = after_plain (b ∷ []) path (codes ".lock") refl

-- once the folders that lead to a path exist, no file is in the path of its lock
pub lock_free : (before : Tree) (path : Path) → is_blocked before path ≡ false → is_blocked (readied before path) (lock_of path) ≡ true → ⊥
lock_free before path free blocked =
    clash (sym free ∙ any_kept (λ f. is_file (readied before path f)) (λ f. is_file (before f)) (fronts path) (no_new_file before (fronts path))
    (ap (λ (l : List Path). list_any (λ f. is_file (readied before path f)) l) (sym (lock_fronts path)) ∙ blocked))
  where
    clash : false ≡ true → ⊥
    clash e = cc

pub makes_lock : (before mid T : Tree) (path lock : Path) (create : Create) → lock ≡ lock_of path → (is_blocked before path ≡ false) × (mid ≡ readied before path) → Creates mid lock T create → MakesLock before path T create
makes_lock before mid T path lock Made is ready creates = (ready.0, subst (λ (S : Tree). Creates S (lock_of path) T Made) ready.1 (subst (λ (p : Path). Creates mid p T Made) is creates))
makes_lock before mid T path lock Standing is ready creates = (ready.0, subst (λ (S : Tree). Creates S (lock_of path) T Standing) ready.1 (subst (λ (p : Path). Creates mid p T Standing) is creates))
makes_lock before mid T path lock Blocked is ready creates =
    absurd (lock_free before path ready.0 (subst (λ (S : Tree). is_blocked S (lock_of path) ≡ true) ready.1 (subst (λ (p : Path). is_blocked mid p ≡ true) is creates.0)))

-- and the disk after them
pub locked_on : (before mid T : Disk) (path lock : Path) (create : Create) → lock ≡ lock_of path → is_blocked before.tree path ≡ false → mid.tree ≡ readied before.tree path → mid ≡ readied_on before path →
    Creates mid.tree lock T.tree create → T ≡ after_create mid lock create → T ≡ after_locking before path create
locked_on before mid T path lock Made is free tree ready creates after = after ∙ (ap (λ (l : Path). created_on mid l) is ∙ ap (λ (D : Disk). created_on D (lock_of path)) ready)
locked_on before mid T path lock Standing is free tree ready creates after = after ∙ ready
locked_on before mid T path lock Blocked is free tree ready creates after =
    absurd (lock_free before.tree path free (subst (λ (S : Tree). is_blocked S (lock_of path) ≡ true) tree (subst (λ (p : Path). is_blocked mid.tree p ≡ true) is creates.0)))

-- and the disks that are found in them
pub locking_on : (old mid new : Meaning) (path lock : Path) → lock ≡ lock_of path → Passes old mid (ReadyingOn (disk_of old) path) → is_blocked old.tree path ≡ false → disk_of mid ≡ readied_on (disk_of old) path → Passes mid new (CreatingOn (disk_of mid) lock) →
    Passes old new (LockingOn (disk_of old) path)
locking_on old mid new path lock is first free ready second =
    passes_joins (passes_weaken first (λ D found. inl found))
    (passes_weaken second (λ D found. inr (free, subst (λ (S : Disk). CreatingOn S (lock_of path) D) ready (subst (λ (l : Path). CreatingOn (disk_of mid) l D) is found))))
