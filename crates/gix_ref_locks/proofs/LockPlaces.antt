-- Each lock of a reference is one of those that are sought in a folder of the store.
use Rattle.std.proofs.Common.{◌≡◌, ◌⊎◌, inl, inr, ⊎_elim, ℕ, Bool, true, false, ◌&&◌, ◌||◌, ◌==◌, List, [], ◌∷◌, ◌++◌, refl, sym, ◌∙◌, ap, subst, append_assoc, Option, Some, codes, if◌then◌else◌, nat_eq}
use Rattle.std.specs.List.{list_all}
use Rattle.std.specs.Option.{unwrap_or, is_none}
use Rattle.std.specs.Cmp.Lexicographic.{pointwise}
use Rattle.std.proofs.lemmas.Bool.{and_parts, cases_Bool, eqb-true, false≢true}
use Rattle.gix_ref_hash.specs.Bytes.{NoByte, BeginsWith}
use Rattle.gix_ref_name.specs.NameGrammar.{IsPartialName, partial_error, is_pseudo_byte}
use Rattle.gix_ref_name.proofs.PartialNames.{IsPath, rules_of, name_of_rules}
use Rattle.gix_ref_target.specs.Layout.{Layout, below, in_common, is_private_ref}
use Rattle.gix_ref_target.specs.Locations.{Location, is_safe, paths_at, row_of, location_by, location_unless}
use Rattle.gix_ref_target.specs.Locations.Location.{ThisWorktree, Common}
use Rattle.gix_ref_target.proofs.LocationLemmas.{has_slash, test_no_slash, HasSpot, has_spot, safe_is_tested}
use Rattle.gix_ref_theory.specs.ConcreteStore.{Options, store_of}
use Rattle.gix_ref_theory.proofs.PlaceLaws.{known, row_by}
use Rattle.std.specs.Prelude.{Vec}
use Rattle.std.specs.declared.alloc.Global.{Global}
use Rattle.gix_ref_files.specs.Tree.{Tree, Path, is_file}
use Rattle.gix_ref_lookup.specs.Lookups.{meaning_in}
use Rattle.gix_ref_lookup.specs.StoreLayout.{folders_of, git_options}
use Rattle.gix_ref_lookup.specs.declared.settings.Settings.{Settings}
use Rattle.gix_ref_files.specs.Lock.{lock_of}
use Rattle.gix_ref_listing.specs.LooseListings.{front_in}
use Rattle.gix_ref_listing.proofs.WalkLemmas.{behind_slash}
use Rattle.gix_ref_locks.specs.LockFiles.{IsLockOf, IsLockFile, HasPath}
use Rattle.gix_ref_locks.specs.LockWalks.{FindsLocks, IsStemOf, IsSought}

no_slash_in : (n : List ℕ) → list_all is_pseudo_byte n ≡ true → has_slash n ≡ false
no_slash_in [] h = refl
no_slash_in (x ∷ n) h =
    let parts = and_parts (is_pseudo_byte x) (list_all is_pseudo_byte n) h in
    elim (cases_Bool (x == 47)) [
      | inl slash ↦ absurd (false≢true (sym (ap is_pseudo_byte (eqb-true x 47 slash)) ∙ parts.0))
      | inr other ↦ ap (λ b. b || has_slash n) other ∙ no_slash_in n parts.1
    ]

-- a pseudo name has no slash
pseudo_apart : (n : List ℕ) → list_all is_pseudo_byte n ≡ true → NoByte 47 n
pseudo_apart n h = test_no_slash n (no_slash_in n h)

-- the place of a name below `refs/` that all worktrees share
shared_place : (f : Layout) (s : List ℕ) → BeginsWith s (codes "refs/") → is_private_ref s ≡ false → (paths_at f s).place ≡ in_common f s
shared_place f s begins shared =
    let by_refs : location_by ThisWorktree s ≡ (if is_private_ref s then Some (ThisWorktree s) else Some (Common s)) = subst (λ t. location_by ThisWorktree t ≡ (if is_private_ref t then Some (ThisWorktree t) else Some (Common t))) (sym begins.1) refl in
    ap (λ (o : Option Location). (row_of f (unwrap_or (location_unless o s) (Common s))).place) by_refs
    ∙ ap (λ (b : Bool). (row_of f (unwrap_or (location_unless (if b then Some (ThisWorktree s) else Some (Common s)) s) (Common s))).place) shared

module _ (f : Layout) (o : Options) where
  -- the place of what is sought in the common folder or in the git folder
  abbrev pub InFolder : (folder : List ℕ) → Path → Type 0
  InFolder folder path = (stem : List ℕ) × IsStemOf (store_of f o) stem path × IsSought stem
      × (path ≡ below folder f.namespace ++ lock_of stem)

  abbrev pub IsInEither : Path → Type 0
  IsInEither path = InFolder f.common path ⊎ InFolder f.git path

  module _ (name path : List ℕ) (lock : IsLockOf (store_of f o) name path) where
    laid : (folder stem : List ℕ) → (paths_at f name).place ≡ below folder (f.namespace ++ stem) → path ≡ below folder f.namespace ++ lock_of stem
    laid folder stem at =
        lock.1 ∙ (ap lock_of (at ∙ sym (append_assoc folder (47 ∷ f.namespace) stem)) ∙ append_assoc (below folder f.namespace) stem (codes ".lock"))

    as_itself : (folder : List ℕ) → IsSought name → (paths_at f name).place ≡ below folder (f.namespace ++ name) → InFolder folder path
    as_itself folder sought at = (name, inl lock, sought, laid folder name at)

    as_main : (s : List ℕ) → name ≡ codes "main-worktree/" ++ s → IsSought s → (paths_at f name).place ≡ in_common f s → InFolder f.common path
    as_main s is sought at = (s, inr (subst (λ n. IsLockOf (store_of f o) n path) is lock), sought, laid f.common s at)

    valid : IsPartialName name
    valid = (known f o name lock.0).valid

    -- a name of a linked worktree that all share
    as_shared : (w s : List ℕ) → name ≡ codes "worktrees/" ++ (w ++ 47 ∷ s) → BeginsWith s (codes "refs/") → is_private_ref s ≡ false → (paths_at f name).place ≡ in_common f s → InFolder f.common path
    as_shared w s is begins shared at =
        let behind : IsPath s = behind_slash (codes "worktrees/" ++ w) s (subst IsPath (is ∙ sym (append_assoc (codes "worktrees/") w (47 ∷ s))) (rules_of name valid).0) in
        let single : pointwise nat_eq s (codes "@") ≡ false = ap (λ t. pointwise nat_eq t (codes "@")) begins.1 in
        let name_of : IsPartialName s = name_of_rules s behind single in
        let ref : (is_none (partial_error s) && is_safe s) ≡ true = ap (λ (e : Option _). is_none e && is_safe s) name_of ∙ safe_is_tested s (inl begins) in
        (s, inl (ref, lock.1 ∙ ap lock_of (at ∙ sym (shared_place f s begins shared))), inr (inl begins), laid f.common s at)

    by_spot : (x : Location) → (paths_at f name).place ≡ (row_of f x).place → HasSpot name x → IsInEither path
    by_spot x row (inl (inl b)) = inr (as_itself f.git (inl (pseudo_apart name b.0)) (row ∙ ap (λ (y : Location). (row_of f y).place) (sym b.1)))
    by_spot x row (inl (inr (inl b))) = inr (as_itself f.git (inr (inl b.0)) (row ∙ ap (λ (y : Location). (row_of f y).place) (sym b.2)))
    by_spot x row (inl (inr (inr b))) = inl (as_itself f.common (inr (inl b.0)) (row ∙ ap (λ (y : Location). (row_of f y).place) (sym b.2)))
    by_spot x row (inr (inl (s, e, inl b))) = inl (as_main s e (inl (pseudo_apart s b.0)) (row ∙ ap (λ (y : Location). (row_of f y).place) (sym b.1)))
    by_spot x row (inr (inl (s, e, inr (inl b)))) = inl (as_main s e (inr (inl b.0)) (row ∙ ap (λ (y : Location). (row_of f y).place) (sym b.2)))
    by_spot x row (inr (inl (s, e, inr (inr b)))) = inl (as_main s e (inr (inl b.0)) (row ∙ ap (λ (y : Location). (row_of f y).place) (sym b.2)))
    by_spot x row (inr (inr (w, s, e, none, inl b))) = inl (as_itself f.common (inr (inr (w ++ 47 ∷ s, e))) (row ∙ (ap (λ (y : Location). (row_of f y).place) (sym b.1) ∙ ap (in_common f) (sym e))))
    by_spot x row (inr (inr (w, s, e, none, inr (inl b)))) = inl (as_itself f.common (inr (inr (w ++ 47 ∷ s, e))) (row ∙ (ap (λ (y : Location). (row_of f y).place) (sym b.2) ∙ ap (in_common f) (sym e))))
    by_spot x row (inr (inr (w, s, e, none, inr (inr b)))) = inl (as_shared w s e b.0 b.1 (row ∙ ap (λ (y : Location). (row_of f y).place) (sym b.2)))

    -- a lock of a reference is sought in one of the two folders
    pub is_sought : IsInEither path
    is_sought =
        let k = known f o name lock.0 in
        by_spot k.spotted.0 (ap (λ r. r.place) (row_by f o name k)) (has_spot name k.spotted.0 k.spotted.1)

-- the locks of references that are sought in a folder are among these paths
abbrev pub FindsIn : Settings → Tree → (keys : List (Vec ℕ Global)) → (folder : List ℕ) → Type 0
FindsIn settings T keys folder = FindsLocks (meaning_in settings) (front_in settings folder) T IsSought keys

-- and so each lock of the store is
pub found_lock : (settings : Settings) (T : Tree) (keys : List (Vec ℕ Global)) → let s = meaning_in settings in let f = folders_of settings.dirs.now settings.namespace.now in
    FindsIn settings T keys f.common → FindsIn settings T keys f.git → (IsLockFile s T (lock_of s.packed_path) → HasPath (lock_of s.packed_path) keys) → (path : Path) → IsLockFile s T path → HasPath path keys
found_lock settings T keys common git packed path (inl is, there) = subst (λ p. HasPath p keys) (sym is) (packed (inl refl, subst (λ p. is_file (T p) ≡ true) is there))
found_lock settings T keys common git packed path (inr (name, lock), there) =
    let f = folders_of settings.dirs.now settings.namespace.now in
    ⊎_elim (in_folder f.common common) (in_folder f.git git) (is_sought f (git_options settings.kind settings.prohibit_windows_device_names) name path lock)
  where
    in_folder : (folder : List ℕ) → FindsIn settings T keys folder → InFolder (folders_of settings.dirs.now settings.namespace.now) (git_options settings.kind settings.prohibit_windows_device_names) folder path → HasPath path keys
    in_folder folder finds (stem, of, sought, at) = subst (λ p. HasPath p keys) (sym at) (finds stem (subst (IsStemOf (meaning_in settings) stem) at of, subst (λ p. is_file (T p) ≡ true) at there) sought)
