-- Paths of locks that are kept in a set.
use Rattle.std.proofs.Common.{◌≡◌, inl, inr, ⊎_elim, ℕ, List, [], ◌∷◌, ◌++◌, refl, sym, subst, arith, length, Bool, true, false, Option, Some, None, codes}
use Rattle.std.specs.Prelude.{Vec}
use Rattle.std.specs.List.{All}
use Rattle.std.specs.BTreeSet.{insert_key}
use Rattle.std.specs.Ordering.{match_ordering}
use Rattle.std.specs.declared.alloc.Global.{Global}
use Rattle.std.specs.declared.cmp.Ordering.{Ordering}
use Rattle.std.specs.declared.cmp.Ordering.TheVariants.{Less, Equal, Greater}
use Rattle.std.proofs.lemmas.Map.Views.{All-insert_key}
use Rattle.gix_ref_files.specs.Tree.{Path, Tree, Content, node_of, is_file}
use Rattle.gix_ref_files.specs.Tree.Content.{File, Folder}
use Rattle.gix_ref_files.specs.declared.files.Node.TheVariants.{File as a_file}
use Rattle.gix_ref_files.specs.Lock.{lock_of}
use Rattle.gix_ref_files.specs.declared.files.Entry.{Entry as ListedEntry}
use Rattle.gix_ref_theory.specs.Readings.{Store}
use Rattle.gix_ref_listing.specs.Walks.{IsBelow}
use Rattle.gix_ref_listing.proofs.WalkLemmas.{key_cmp, same_key}
use Rattle.gix_ref_locks.specs.LockFiles.{HasPath, IsLockFile, IsLockPlace}
use Rattle.gix_ref_locks.specs.LockWalks.{StaysFound, IsTaken, IsStemOf}

-- what is kept stays kept
stays_by : (path : Path) (k x : Vec ℕ Global) (xs rest : List (Vec ℕ Global)) (o : Ordering) → (HasPath path xs → HasPath path rest) → HasPath path (x ∷ xs) → HasPath path (match_ordering o (k ∷ x ∷ xs) (x ∷ xs) (x ∷ rest))
stays_by path k x xs rest Less later has = inr has
stays_by path k x xs rest Equal later has = has
stays_by path k x xs rest Greater later has = ⊎_elim (λ here. inl here) (λ there. inr (later there)) has

keeps : (path : Path) (k : Vec ℕ Global) (xs : List (Vec ℕ Global)) → HasPath path xs → HasPath path (insert_key key_cmp xs k)
keeps path k [] has = absurd has
keeps path k (x ∷ xs) has = stays_by path k x xs (insert_key key_cmp xs k) (key_cmp k x) (keeps path k xs) has

new_by : (k x : Vec ℕ Global) (xs rest : List (Vec ℕ Global)) (o : Ordering) → (o ≡ Equal → x.items ≡ k.items) → HasPath k.items rest → HasPath k.items (match_ordering o (k ∷ x ∷ xs) (x ∷ xs) (x ∷ rest))
new_by k x xs rest Less same later = inl refl
new_by k x xs rest Equal same later = inl (same refl)
new_by k x xs rest Greater same later = inr later

is_kept : (k : Vec ℕ Global) (xs : List (Vec ℕ Global)) → HasPath k.items (insert_key key_cmp xs k)
is_kept k [] = inl refl
is_kept k (x ∷ xs) = new_by k x xs (insert_key key_cmp xs k) (key_cmp k x) (λ e. sym (same_key k x e)) (is_kept k xs)

module _ (k : Vec ℕ Global) (old new : List (Vec ℕ Global)) (is : new ≡ insert_key key_cmp old k) where
  pub kept_stays : StaysFound old new
  kept_stays path has = subst (HasPath path) (sym is) (keeps path k old has)

  pub kept_there : HasPath k.items new
  kept_there = subst (HasPath k.items) (sym is) (is_kept k old)

  pub kept_only : (s : Store) (T : Tree) → IsLockFile s T k.items → All (λ p. IsLockFile s T p.items) old → All (λ p. IsLockFile s T p.items) new
  kept_only s T file all = subst (All (λ (p : Vec ℕ Global). IsLockFile s T p.items)) (sym is) (All-insert_key key_cmp k (λ (p : Vec ℕ Global). IsLockFile s T p.items) old all file)

-- what was taken stays taken
pub stays_taken : (s : Store) (front folder : List ℕ) (found more next later : List (Vec ℕ Global)) (entry : ListedEntry) → StaysFound found more → ((name : List ℕ) → IsBelow next name → IsBelow later name) →
    IsTaken s front folder found next entry → IsTaken s front folder more later entry
stays_taken s front folder found more next later entry stays below taken = record {
  file = λ is_file stem is lock. stays (front ++ lock_of stem) (taken.file is_file stem is lock);
  leads = λ is_folder name begins. below name (taken.leads is_folder name begins);
}

-- no name is below none of the folders
pub none_below : (folders : List (Vec ℕ Global)) (name : List ℕ) → length folders ≡ 0 → IsBelow folders name → ⊥
none_below [] name none below = below
none_below (f ∷ folders) name none below = absurd (omega (arith, none))

-- the lock that a stem names is one of the store
pub stem_place : (s : Store) (stem path : List ℕ) → IsStemOf s stem path → IsLockPlace s path
stem_place s stem path (inl lock) = inr (stem, lock)
stem_place s stem path (inr lock) = inr (codes "main-worktree/" ++ stem, lock)

-- what is a file by its kind
pub file_node : (o : Option Content) (blocked : Bool) → node_of o blocked ≡ a_file → is_file o ≡ true
file_node (Some (File bytes)) blocked is = refl
file_node (Some Folder) blocked is = absurd (cc)
file_node None true is = absurd (cc)
file_node None false is = absurd (cc)
