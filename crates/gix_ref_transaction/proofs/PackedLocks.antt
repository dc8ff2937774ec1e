-- The lock of `packed-refs`: where it is taken, and what it leaves of the edits.
use Rattle.std.proofs.Common.{◌≡◌, ◌⊎◌, inl, inr, ⊎_elim, ℕ, List, [], ◌∷◌, Bool, true, false, Option, Some, None, Result, Ok, Err, IfOk, OnOk, map, if◌then◌else◌, refl, sym, ◌∙◌, ap, subst}
use Rattle.std.specs.Prelude.{is_some, IsSome, MatchBool, ◌||◌, ◌&&◌}
use Rattle.std.specs.List.{list_all, list_any}
use Rattle.std.specs.Option.{option_map, unwrap_or}
use Rattle.gix_ref_target.specs.Layout.{Layout}
use Rattle.gix_ref_target.specs.Locations.{Location, location, key_outside, no_namespace, paths_at, row_of}
use Rattle.gix_ref_target.specs.Locations.Location.{Common, ThisWorktree, MainWorktree, LinkedWorktree}
use Rattle.gix_ref_files.specs.Tree.{Tree, Path, Content, IsShaped, has_folders, file_of, fronts, is_blocked, is_file, is_folder, node_at, node_of}
use Rattle.gix_ref_files.specs.Tree.Content.{File, Folder}
use Rattle.gix_ref_files.specs.Calls.{IsFree}
use Rattle.gix_ref_files.specs.declared.files.Node.{Node}
use Rattle.gix_ref_files.specs.declared.files.Node.TheVariants as node
use Rattle.gix_ref_files.specs.Files.{Meaning, disk_of}
use Rattle.gix_ref_files.specs.Lock.{lock_of}
use Rattle.gix_ref_theory.specs.OnRealTrees.{view_of}
use Rattle.gix_ref_theory.specs.Readings.{Store}
use Rattle.gix_ref_edits.specs.declared.transaction.RefEdit.{RefEdit}
use Rattle.gix_ref_theory.specs.Edits.{Mode}
use Rattle.gix_ref_transaction.specs.Causes.{ask_packed, is_packable, may_change, packed_taken, packs_edit, packs_some, IsInTheWay, IsPackedCause, IsPackedLocked}
use Rattle.gix_ref_transaction.specs.PackedLock.{IsPackedTakenWhereDue}
use Rattle.gix_ref_transaction.specs.PrepareSteps.{updates, packed_locks, packed_places, AreEmpty, AreWholeLocks, TakesPacked}
use Rattle.gix_ref_transaction.specs.declared.edit.Edit.{Edit}
use Rattle.gix_ref_transaction.specs.declared.prepare.error.Error.{Error}
use Rattle.gix_ref_transaction.specs.declared.prepare.error.Error.TheVariants.{PackedTransactionAcquire}
use Rattle.gix_ref_transaction.specs.OwnLocks.{is_in, AddsLocks}
use Rattle.gix_ref_transaction.proofs.Adds.{clash, in_one}

-- a name has a key in a namespace where it has one outside
keys_alike : (f : Layout) (name : List ℕ) → is_some (paths_at f name).key ≡ is_some (key_outside name)
keys_alike f name = by (unwrap_or (location name) (Common name))
  where
    by : (l : Location) → is_some (row_of f l).key ≡ is_some (row_of no_namespace l).key
    by (Common n) = refl
    by (ThisWorktree n) = refl
    by (MainWorktree n) = refl
    by (LinkedWorktree w n) = refl

is_some_map : {X Y : Type 0} (f : X → Y) (o : Option X) → is_some (option_map f o) ≡ is_some o
is_some_map f None = refl
is_some_map f (Some x) = refl

pub has_outside : {X : Type 0} (f : Layout) (name : List ℕ) (get : X → List ℕ) (found : Option X) → option_map get found ≡ key_outside name → is_some found ≡ is_some (paths_at f name).key
has_outside f name get found is = sym (is_some_map get found) ∙ (ap is_some is ∙ sym (keys_alike f name))

-- a test of the edits that are asked for
any_map : {X Y : Type 0} (P : Y → Bool) (f : X → Y) (xs : List X) → list_any (λ x. P (f x)) xs ≡ list_any P (map f xs)
any_map P f [] = refl
any_map P f (x ∷ xs) = ap (λ b. P (f x) || b) (any_map P f xs)

pub asked : (s : Store) (edits : List Edit) (b : Bool) → b ≡ list_any (λ (e : Edit). is_packable s e.update) edits → ask_packed s (updates edits) ≡ b
asked s edits b is = sym (is ∙ any_map (is_packable s) (λ (e : Edit). e.update) edits)

-- What there is by what `kind` says.
pub file_there : (T : Tree) (p : Path) → node_at T p ≡ node.File → is_file (T p) ≡ true
file_there T p = by (T p) (is_blocked T p)
  where
    by : (content : Option Content) (blocked : Bool) → node_of content blocked ≡ node.File → is_file content ≡ true
    by (Some (File bytes)) blocked is = refl
    by (Some Folder) blocked is = cc
    by None true is = cc
    by None false is = cc

pub no_file_there : (T : Tree) (p : Path) → (node_at T p ≡ node.File → ⊥) → is_file (T p) ≡ false
no_file_there T p = by (T p) (is_blocked T p)
  where
    by : (content : Option Content) (blocked : Bool) → (node_of content blocked ≡ node.File → ⊥) → is_file content ≡ false
    by (Some (File bytes)) blocked is = absurd (is refl)
    by (Some Folder) blocked is = refl
    by None blocked is = refl

-- where an edit may have a record, and the lock was not taken, `packed-refs` is no file
pub absent_by : (s : Store) (mode : Mode) (T : Tree) (edits : List Edit) (packed : Option Path) (asks : Bool) → asks ≡ list_any (λ (e : Edit). is_packable s e.update) edits → is_some packed ≡ false →
    packed_places packed ≡ packed_taken s mode T (updates edits) → asks ≡ true → view_of T s.packed_path ≡ None
absent_by s mode T edits packed asks is none taken may =
    absent_from (T s.packed_path) (packs_some s mode (updates edits)) (no_places packed none ∙ (taken ∙ ap (λ b. if b && may_change s mode T (updates edits) then s.packed_path ∷ [] else []) (asked s edits asks is ∙ may)))
  where
    no_places : (p : Option Path) → is_some p ≡ false → [] ≡ packed_places p
    no_places None is = refl
    no_places (Some path) is = cc

    absent_from : (content : Option Content) (packs : Bool) → [] ≡ (if true && (is_file content || packs) then s.packed_path ∷ [] else []) → file_of content ≡ None
    absent_from (Some (File bytes)) packs e = cc
    absent_from (Some Folder) packs e = refl
    absent_from None packs e = refl

-- any other answer than a file
pub other_there : (T : Tree) (p : Path) (n : Node) → n ≡ node_at T p → (n ≡ node.Folder) ⊎ ((n ≡ node.Nothing) ⊎ (n ≡ node.Blocked)) → is_file (T p) ≡ false
other_there T p n is (inl folder) = no_file_there T p (λ file. folder_is (sym folder ∙ (is ∙ file)))
  where
    folder_is : node.Folder ≡ node.File → ⊥
    folder_is e = cc
other_there T p n is (inr (inl nothing)) = no_file_there T p (λ file. nothing_is (sym nothing ∙ (is ∙ file)))
  where
    nothing_is : node.Nothing ≡ node.File → ⊥
    nothing_is e = cc
other_there T p n is (inr (inr blocked)) = no_file_there T p (λ file. blocked_is (sym blocked ∙ (is ∙ file)))
  where
    blocked_is : node.Blocked ≡ node.File → ⊥
    blocked_is e = cc

pub no_some : {X : Type 0} {o : Option X} → IsSome o → o ≡ None → ⊥
no_some {o = Some x} some none = cc
no_some {o = None} some none = clash some refl

-- a path that is free is not blocked
not_blocked : (T : Tree) (fs : List Path) → list_all (λ f. is_folder (T f)) fs ≡ true → list_any (λ f. is_file (T f)) fs ≡ false
not_blocked T [] folders = refl
not_blocked T (f ∷ fs) folders =
    let both = and_both (is_folder (T f)) (list_all (λ g. is_folder (T g)) fs) folders in
    ap (λ b. b || list_any (λ g. is_file (T g)) fs) (no_file (T f) both.0) ∙ not_blocked T fs both.1
  where
    and_both : (a b : Bool) → (a && b) ≡ true → (a ≡ true) × (b ≡ true)
    and_both true b h = (refl, h)
    and_both false b h = clash refl (sym h)

    no_file : (content : Option Content) → is_folder content ≡ true → is_file content ≡ false
    no_file (Some Folder) h = refl
    no_file (Some (File bytes)) h = clash h refl
    no_file None h = refl

pub free_way : (T : Tree) (lock : Path) → IsFree T lock → IsInTheWay T lock → ⊥
free_way T lock free way = ⊎_elim (λ some. no_some some free.0) (λ blocked. clash blocked (not_blocked T (fronts lock) free.1)) way

-- where the lock is not asked for
module _ (s : Store) (mode : Mode) (T : Tree) (edits : List RefEdit) (unasked : ask_packed s edits ≡ false) where
  pub unasked_taken : [] ≡ packed_taken s mode T edits
  unasked_taken = sym (ap (λ b. if b && may_change s mode T edits then s.packed_path ∷ [] else []) unasked)

  pub unasked_free : IsPackedLocked s mode T edits → ⊥
  unasked_free locked = clash locked.0 unasked

-- where it is
module _ (s : Store) (mode : Mode) (T : Tree) (edits : List RefEdit) (asks : ask_packed s edits ≡ true) where
  pub due_taken : may_change s mode T edits ≡ true → s.packed_path ∷ [] ≡ packed_taken s mode T edits
  due_taken due = sym (ap (λ b. if b && may_change s mode T edits then s.packed_path ∷ [] else []) asks ∙ ap (λ b. if b then s.packed_path ∷ [] else []) due)

  pub none_taken : may_change s mode T edits ≡ false → [] ≡ packed_taken s mode T edits
  none_taken none = sym (ap (λ b. if b && may_change s mode T edits then s.packed_path ∷ [] else []) asks ∙ ap (λ b. if b then s.packed_path ∷ [] else []) none)

  -- `packed-refs` may change
  module _ (due : may_change s mode T edits ≡ true) (lock : Path) (at : lock ≡ s.packed_path) where
    pub in_the_way : (e : Error) → IsInTheWay T (lock_of lock) → e ≡ PackedTransactionAcquire → IsPackedCause s mode T edits e
    in_the_way e way is = subst (IsPackedCause s mode T edits) (sym is) (asks, inr (due, subst (λ (p : Path). IsInTheWay T (lock_of p)) at way))

    -- the lock was free
    pub was_free : (IsInTheWay T (lock_of lock) → ⊥) → IsPackedLocked s mode T edits → ⊥
    was_free free locked = ⊎_elim
        (λ some. free (inl (subst (λ (p : Path). IsSome (T (lock_of p))) (sym at) some)))
        (λ way. free (subst (λ (p : Path). IsInTheWay T (lock_of p)) (sym at) way.1))
        locked.1

  -- it does not
  module _ (none : may_change s mode T edits ≡ false) (lock : Path) (at : lock ≡ s.packed_path) where
    pub pass_free : T (lock_of lock) ≡ None → IsPackedLocked s mode T edits → ⊥
    pass_free free locked = ⊎_elim
        (λ some. no_some (subst (λ (p : Path). IsSome (T (lock_of p))) (sym at) some) free)
        (λ way. clash way.0 none)
        locked.1

    pub something_there : (e : Error) → IsSome (T (lock_of lock)) → e ≡ PackedTransactionAcquire → IsPackedCause s mode T edits e
    something_there e some is = subst (IsPackedCause s mode T edits) (sym is) (asks, inl (subst (λ (p : Path). IsSome (T (lock_of p))) at some))

-- whether an object is put, by the edits that are asked for
pub packs_asked : (s : Store) (mode : Mode) (edits : List Edit) (b : Bool) → b ≡ list_any (λ (e : Edit). packs_edit s mode e.update) edits → packs_some s mode (updates edits) ≡ b
packs_asked s mode edits b is = sym (is ∙ any_map (packs_edit s mode) (λ (e : Edit). e.update) edits)

-- `packed-refs` may change where it is a file, or where an object is put
pub may_by_file : (s : Store) (mode : Mode) (T : Tree) (edits : List RefEdit) → is_file (T s.packed_path) ≡ true → may_change s mode T edits ≡ true
may_by_file s mode T edits file = ap (λ b. b || packs_some s mode edits) file

pub may_by_put : (s : Store) (mode : Mode) (T : Tree) (edits : List RefEdit) → is_file (T s.packed_path) ≡ false → (b : Bool) → packs_some s mode edits ≡ b → may_change s mode T edits ≡ b
may_by_put s mode T edits none b is = ap (λ (c : Bool). c || packs_some s mode edits) none ∙ is

-- by what is seen at its path, and the edits
pub may_by : (s : Store) (mode : Mode) (T : Tree) (edits : List Edit) (n : Node) → n ≡ node_at T s.packed_path → (there : Bool) → MatchBool there (n ≡ node.File) (n ≡ node.File → ⊥) → (b : Bool) →
    b ≡ (there || list_any (λ (e : Edit). packs_edit s mode e.update) edits) → may_change s mode T (updates edits) ≡ b
may_by s mode T edits n is true file b by = ap (λ c. c || packs_some s mode (updates edits)) (file_there T s.packed_path (sym is ∙ file)) ∙ sym by
may_by s mode T edits n is false none b by =
    ap (λ (c : Bool). c || packs_some s mode (updates edits)) (no_file_there T s.packed_path (λ file. none (is ∙ file)))
    ∙ packs_asked s mode edits b by

pub on_true : (P N : Type 0) (b : Bool) → b ≡ true → MatchBool b P N → P
on_true P N true is h = h
on_true P N false is h = clash is refl

-- a lock that is empty stays so while others are taken
pub still_empty : (mid end : Tree) (all locks : List Path) → AddsLocks all all mid end → AreEmpty mid locks → AreEmpty end locks
still_empty mid end all locks adds empty q within = ⊎_elim
    (λ same. same ∙ empty q within)
    (λ new. none_file (sym (empty q within) ∙ new.0))
    (adds q)
  where
    none_file : {Q : Type 0} → ◌≡◌ {A = Option Content} (Some (File [])) None → Q
    none_file e = cc

pub taken_empty : (before T : Tree) (packed : Option Path) → TakesPacked before packed T → AreEmpty T (map lock_of (packed_places packed))
taken_empty before T None takes q within = clash within refl
taken_empty before T (Some place) takes q within = subst (λ (p : Path). T p ≡ Some (File [])) (in_one (lock_of place) q within) takes.1

-- the result of the look at its path, where `packed-refs` may not change
pub passed : (honest : Type 0) (s : Store) (mode : Mode) (edits : List RefEdit) (old mid new : Meaning) → ask_packed s edits ≡ true → (honest → may_change s mode old.tree edits ≡ false) → (lock : Path) → lock ≡ s.packed_path →
    (honest → mid.tree ≡ old.tree) → (honest → new.tree ≡ old.tree) → (r : Result (Option Path) Error) → IfOk r (λ packed. packed ≡ None) → (honest → OnOk r (mid.tree (lock_of lock) ≡ None)) →
    IfOk r (IsPackedTakenWhereDue honest s mode edits old new)
passed honest s mode edits old mid new asks none lock at still same (Err e) is free = tt
passed honest s mode edits old mid new asks none lock at still same (Ok packed) is free = record {
  place = inl is;
  due = λ h. ap packed_places is ∙ none_taken s mode old.tree edits asks (none h);
  free = λ h. pass_free s mode old.tree edits asks (none h) lock at (ap (λ (T : Tree). T (lock_of lock)) (sym (still h)) ∙ free h);
  takes = λ h. subst (λ (p : Option Path). TakesPacked old.tree p new.tree) (sym is) (same h);
  whole = λ h. subst (λ (p : Option Path). AreWholeLocks (disk_of new) (map lock_of (packed_places p))) (sym is) tt;
}

-- a file lies in folders
pub file_led : (T : Tree) (p : Path) → IsShaped T → is_file (T p) ≡ true → has_folders T p ≡ true
file_led T p shaped file = shaped p (there (T p) file)
  where
    there : (content : Option Content) → is_file content ≡ true → is_some content ≡ true
    there (Some (File bytes)) h = refl
    there (Some Folder) h = clash h refl
    there None h = clash h refl

-- it was free, where it is taken
pub taken_was_free : (s : Store) (mode : Mode) (T : Tree) (edits : List RefEdit) → (IsPackedLocked s mode T edits → ⊥) → (q : Path) → is_in (packed_locks s mode T edits) q ≡ true → T q ≡ None
taken_was_free s mode T edits unlocked q = by (ask_packed s edits) (may_change s mode T edits) refl
  where
    nothing : (content : Option Content) → (IsSome content → ⊥) → content ≡ None
    nothing None none = refl
    nothing (Some content) none = absurd (none refl)

    by : (b file : Bool) → ask_packed s edits ≡ b → is_in (map lock_of (if b && file then s.packed_path ∷ [] else [])) q ≡ true → T q ≡ None
    by true true asks within = subst (λ (p : Path). T p ≡ None) (in_one (lock_of s.packed_path) q within) (nothing (T (lock_of s.packed_path)) (λ some. unlocked (asks, inl some)))
    by true false asks within = clash within refl
    by false file asks within = clash within refl
