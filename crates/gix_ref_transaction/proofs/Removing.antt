-- One lock less.
use Rattle.std.proofs.Common.{◌≡◌, ◌⊎◌, inl, inr, ⊎_elim, ℕ, List, [], ◌∷◌, ◌++◌, Bool, true, false, None, refl, sym, ◌∙◌, ap, subst, Vec, take, ◌+◌, ◌≤◌, arith}
use Rattle.std.specs.Prelude.{bytes_eq, if◌then◌else◌, map}
use Rattle.std.specs.declared.alloc.Global.{Global}
use Rattle.std.proofs.lemmas.List.{append-nil, map-append, take-map}
use Rattle.std.proofs.lemmas.Simd.{map-map}
use Rattle.gix_ref_files.specs.Tree.{Tree, Path, is_file}
use Rattle.gix_ref_files.specs.Files.{Meaning, disk_of, Leaves, Passes}
use Rattle.gix_ref_files.specs.DiskCalls.{RemovingFileOn}
use Rattle.gix_ref_files.proofs.Moments.{weaken, joins, passes_weaken, passes_joins}
use Rattle.gix_ref_transaction.specs.OwnLocks.{paths_of, is_in, times, RemovesLocks, OnlyRemoves, AddsLocks}
use Rattle.gix_ref_transaction.specs.PrepareSteps.{Given, lock_paths, place_paths, places_of, updates, given, all_given}
use Rattle.gix_ref_transaction.specs.Causes.{locks_of}
use Rattle.gix_ref_theory.proofs.LockDisks.{removing_among}
use Rattle.gix_ref_theory.specs.Readings.{Store}
use Rattle.gix_ref_edits.specs.RefEdits.{name_of}
use Rattle.gix_ref_files.specs.Lock.{lock_of}
use Rattle.gix_ref_edits.specs.declared.transaction.RefEdit.{RefEdit}
use Rattle.gix_ref_transaction.specs.declared.edit.Edit.{Edit as Own}
use Rattle.gix_ref_transaction.proofs.Adds.{any_left, any_right, any_cases, in_one, in_here, adds_less, adds_left, adds_wider}

-- some paths and one more
pub path_left : (paths : List (Vec ℕ Global)) (path : Vec ℕ Global) (q : Path) → is_in (paths_of paths) q ≡ true → is_in (paths_of (paths ++ path ∷ [])) q ≡ true
path_left paths path q h = rw map-append (any_left (λ p. bytes_eq p q) (paths_of paths) (paths_of (path ∷ [])) h)

pub path_cases : (paths : List (Vec ℕ Global)) (path : Vec ℕ Global) (q : Path) → is_in (paths_of (paths ++ path ∷ [])) q ≡ true → (is_in (paths_of paths) q ≡ true) ⊎ (path.items ≡ q)
path_cases paths path q h =
    let parts = any_cases (λ p. bytes_eq p q) (paths_of paths) (paths_of (path ∷ [])) (rw map-append at h) in
    ⊎_elim (λ left. inl left) (λ right. inr (in_one path.items q right)) parts

-- a lock that is named where it could not be removed
pub named_kept : (names more : List Path) (q : Path) → is_in names q ≡ true → is_in (names ++ more) q ≡ true
named_kept names more q h = any_left (λ p. bytes_eq p q) names more h

pub named_here : (names : List Path) (lock : Path) (removed : Bool) → removed ≡ false → is_in (names ++ (if removed then [] else lock ∷ [])) lock ≡ true
named_here names lock removed kept = subst (λ (b : Bool). is_in (names ++ (if b then [] else lock ∷ [])) lock ≡ true) (sym kept) (any_right (λ p. bytes_eq p lock) names (lock ∷ []) (in_here lock lock [] refl))

pub named_cases : (names : List Path) (lock : Path) (removed : Bool) (q : Path) → is_in (names ++ (if removed then [] else lock ∷ [])) q ≡ true → (is_in names q ≡ true) ⊎ (lock ≡ q)
named_cases names lock true q h = inl (subst (λ (l : List Path). is_in l q ≡ true) (append-nil names) h)
named_cases names lock false q h = ⊎_elim (λ left. inl left) (λ right. inr (in_one lock q right)) (any_cases (λ p. bytes_eq p q) names (lock ∷ []) h)

-- how often a path is among some and others
pub times_append : (q : Path) (some others : List Path) → times q (some ++ others) ≡ times q some + times q others
times_append q [] others = omega arith
times_append q (p ∷ some) others =
    let rest = times_append q some others in
    omega (arith, rest)

-- one lock more that is named
pub one_more_once : (q : Path) (names more : List (Vec ℕ Global)) (path : Vec ℕ Global) (lock : Path) → more ≡ names ++ path ∷ [] → path.items ≡ lock → times q (paths_of more) ≤ times q (paths_of names) + times q (lock ∷ [])
one_more_once q names more path lock is same =
    let all : paths_of more ≡ paths_of names ++ lock ∷ [] = ap paths_of is ∙ (map-append (λ (p : Vec ℕ Global). p.items) names (path ∷ []) ∙ ap (λ (l : Path). paths_of names ++ l ∷ []) same) in
    omega (arith, ap (times q) all, times_append q (paths_of names) (lock ∷ []))

-- a lock that is named, of those that were held
pub named_once : (q : Path) (names before : List Path) (all : ℕ) (rest : List Path) (lock : Path) (removed : Bool) →
    times q names + times q (rest ++ lock ∷ []) ≤ times q before + all →
    times q (names ++ (if removed then [] else lock ∷ [])) + times q rest ≤ times q before + all
named_once q names before all rest lock true held =
    omega (arith, held, times_append q rest (lock ∷ []), times_append q names [])
named_once q names before all rest lock false held =
    omega (arith, held, times_append q rest (lock ∷ []), times_append q names (lock ∷ []))

pub removes_then : (locks : List Path) (lock : Path) (S T U : Tree) → is_in locks lock ≡ true → RemovesLocks locks S T → RemovesLocks (lock ∷ []) T U → RemovesLocks locks S U
removes_then locks lock S T U within first second q =
    ⊎_elim
    (λ same. ⊎_elim (λ old. inl (same ∙ old)) (λ gone. inr (gone.0, same ∙ gone.1, gone.2)) (first q))
    (λ gone. inr (subst (λ (p : Path). is_in locks p ≡ true) (in_one lock q gone.0) within, gone.1, stood gone.2 (first q)))
    (second q)
  where
    stood : is_file (T q) ≡ true → (T q ≡ S q) ⊎ ((is_in locks q ≡ true) × (T q ≡ None) × (is_file (S q) ≡ true)) → is_file (S q) ≡ true
    stood file (inl same) = ap is_file (sym same) ∙ file
    stood file (inr gone) = gone.2

pub no_file_then : (lock : Path) (T U : Tree) (q : Path) → RemovesLocks (lock ∷ []) T U → is_file (T q) ≡ false → is_file (U q) ≡ false
no_file_then lock T U q removes no_file = ⊎_elim (λ same. ap is_file same ∙ no_file) (λ gone. ap is_file gone.1) (removes q)

pub leaves_then : (locks : List Path) (lock : Path) (first mid now : Meaning) → is_in locks lock ≡ true → Leaves first mid (RemovesLocks locks first.tree) → Leaves mid now (RemovesLocks (lock ∷ []) mid.tree) → Leaves first now (RemovesLocks locks first.tree)
leaves_then locks lock first mid now within run next = joins run (weaken next (λ T removes. removes_then locks lock first.tree mid.tree T within run.tree removes))

-- one removal more
pub removes_more : (locks : List Path) (lock : Path) (first mid now : Meaning) → is_in locks lock ≡ true → OnlyRemoves locks first mid → Passes mid now (RemovingFileOn (disk_of mid) lock) → OnlyRemoves locks first now
removes_more locks lock first mid now within run next locked staying writes D own here =
    let before = run locked staying writes D own here in
    passes_joins before (passes_weaken next (λ E found. removing_among locked staying writes D (disk_of mid) E lock (own lock within) before.disk found))

-- the locks that were taken are removed again
module _ (all locks : List Path) (first mid now : Meaning) (free : (q : Path) → is_in locks q ≡ true → first.tree q ≡ None) (adds : AddsLocks locks all first.tree mid.tree) (known : (q : Path) → is_in locks q ≡ true → is_in all q ≡ true) (next : Leaves mid now (RemovesLocks locks mid.tree)) where
  pub cleaned : (left : List Path) → ((q : Path) → is_in locks q ≡ true → is_in left q ≡ false → is_file (now.tree q) ≡ false) → AddsLocks left all first.tree now.tree
  cleaned left gone = adds_left locks left all first.tree mid.tree now.tree free adds next.tree gone

  pub cleaning : Leaves first mid (AddsLocks all all first.tree) → Leaves first now (AddsLocks all all first.tree)
  cleaning run = joins run (weaken next (λ T removes. adds_wider locks all all all first.tree T known (λ q h. h) (adds_less locks all first.tree mid.tree T free adds removes)))

-- the first of the paths are the locks of the first edits
pub locks_front : (s : Store) (edits : List RefEdit) (paths : List Own) (n : ℕ) → lock_paths paths ≡ locks_of s edits → lock_paths (take n paths) ≡ locks_of s (take n edits)
locks_front s edits paths n same =
    sym (take-map (λ (p : Own). (lock_of p.lock)) n paths)
    ∙ (ap (take n) same
    ∙ take-map (λ (e : RefEdit). lock_of (s.place (name_of e))) n edits)

-- the locks of edits are those of their places
pub locks_by_places : (s : Store) (edits : List RefEdit) (paths : List Own) → place_paths paths ≡ places_of s edits → lock_paths paths ≡ locks_of s edits
locks_by_places s edits paths places =
    sym (map-map lock_of (λ (e : Own). e.lock) paths)
    ∙ (ap (map lock_of) places
    ∙ map-map lock_of (λ (u : RefEdit). s.place (name_of u)) edits)

-- and where the edits are those that were given, they have the locks of these
pub locks_given : (s : Store) (old now : List Own) (n : ℕ) → place_paths old ≡ places_of s (updates old) → all_given now ≡ all_given old → lock_paths (take n now) ≡ locks_of s (take n (updates old))
locks_given s old now n places same =
    locks_front s (updates old) now n
    (locks_by_places s (updates old) now
    (sym (map-map (λ (g : Given). g.1) given now)
    ∙ (ap (map (λ (g : Given). g.1)) same
    ∙ (map-map (λ (g : Given). g.1) given old
    ∙ places))))
