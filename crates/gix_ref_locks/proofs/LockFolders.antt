-- What the listing of one folder says of the locks in it.
use Rattle.std.proofs.Common.{◌≡◌, ◌≢◌, ◌⊎◌, inl, inr, ⊎_elim, ℕ, Bool, true, false, ◌||◌, List, [], ◌∷◌, ◌++◌, refl, sym, ◌∙◌, ap, subst, append_assoc, Option, Some, None, is_some, codes, ◌==◌, if◌then◌else◌}
use Rattle.std.specs.Option.{option_map}
use Rattle.std.specs.List.{All}
use Rattle.std.specs.Prelude.{Vec, slice_index_or}
use Rattle.std.specs.declared.alloc.Global.{Global}
use Rattle.std.proofs.lemmas.List.{get_or_default}
use Rattle.std.proofs.lemmas.List.Folds.{list_any-append}
use Rattle.std.proofs.lemmas.List.Elements.{All-head, All-tail}
use Rattle.gix_ref_hash.specs.Bytes.{NoByte, BeginsWith, is_empty, is_slash}
use Rattle.gix_ref_name.proofs.PartialNames.{IsPath, rules_of, first_component, none_or}
use Rattle.gix_ref_target.proofs.LocationLemmas.{has_slash, cut_is, test_no_slash, no_slash_test}
use Rattle.gix_ref_target.specs.Locations.{cut_at_slash}
use Rattle.gix_ref_files.specs.Tree.{Tree, Content, IsShaped, is_folder, is_file}
use Rattle.gix_ref_files.specs.Tree.Content.{File, Folder}
use Rattle.gix_ref_files.specs.Calls.{ListsFolder, IsEntryOf, IsEntryName, entry_name}
use Rattle.gix_ref_files.specs.Lock.{lock_of}
use Rattle.gix_ref_files.specs.declared.files.Entry.{Entry as ListedEntry}
use Rattle.gix_ref_theory.specs.Readings.{Store}
use Rattle.gix_ref_lookup.specs.Lookups.{meaning_in}
use Rattle.gix_ref_lookup.specs.declared.settings.Settings.{Settings}
use Rattle.gix_ref_lookup.specs.StoreLayout.{folders_of, git_options}
use Rattle.gix_ref_theory.proofs.PlaceLaws.{known}
use Rattle.gix_ref_listing.specs.Walks.{IsFolderPath, IsInnerPath, IsBelow}
use Rattle.gix_ref_listing.proofs.WalkLemmas.{behind_slash, not_both}
use Rattle.gix_ref_listing.proofs.FolderWalks.{folder_above, path_below}
use Rattle.gix_ref_locks.specs.LockFiles.{HasPath}
use Rattle.gix_ref_locks.specs.LockWalks.{IsStemOf, IsLockBelow, IsTaken, IsFileIn}

-- a file is there
of_file : (o : Option Content) → is_file o ≡ true → (is_some o ≡ true) × (is_folder o ≡ false)
of_file (Some (File bytes)) is = (refl, refl)
of_file (Some Folder) is = absurd (cc)
of_file None is = absurd (cc)

a_file : (o : Option Content) (b : Bool) → is_some o ≡ true → b ≡ is_folder o → b ≡ false → is_file o ≡ true
a_file (Some (File bytes)) b some is not_folder = refl
a_file (Some Folder) b some is not_folder = let bad : false ≡ true = sym not_folder ∙ is in absurd cc
a_file None b some is not_folder = absurd (cc)

folder_some : (o : Option Content) → is_folder o ≡ true → is_some o ≡ true
folder_some (Some x) h = refl
folder_some None h = absurd (cc)

-- the files of a folder are there
pub entries_there : (front : List ℕ) (T : Tree) (folder path : List ℕ) (entries : List ListedEntry) → front ++ folder ≡ path ++ 47 ∷ [] → ListsFolder T path entries → All (IsFileIn T front folder) entries
entries_there front T folder path entries is listing = λ k d below not_folder.
    let entry = slice_index_or entries k d in
    let tells = listing.there k d below in
    subst (λ p. is_file (T p) ≡ true) (sym (path_below front folder path (entry_name entry) is)) (a_file (T (path ++ 47 ∷ entry_name entry)) entry.is_folder tells.0 tells.1 not_folder)

-- the stem of a lock keeps the rules of names
pub stem_path : (settings : Settings) (stem path : List ℕ) → IsStemOf (meaning_in settings) stem path → IsPath stem
stem_path settings stem path (inl lock) = (rules_of stem (known (folders_of settings.dirs.now settings.namespace.now) (git_options settings.kind settings.prohibit_windows_device_names) stem lock.0).valid).0
stem_path settings stem path (inr lock) =
    behind_slash (codes "main-worktree") stem (rules_of (codes "main-worktree/" ++ stem) (known (folders_of settings.dirs.now settings.namespace.now) (git_options settings.kind settings.prohibit_windows_device_names) (codes "main-worktree/" ++ stem) lock.0).valid).0

behind_folder : (folder rest : List ℕ) → IsFolderPath folder → IsPath (folder ++ rest) → IsPath rest
behind_folder folder rest (inl empty) p = subst (λ f. IsPath (f ++ rest)) empty p
behind_folder folder rest (inr (front, ends)) p = behind_slash front rest (subst IsPath (append_assoc front (47 ∷ []) rest) (subst (λ f. IsPath (f ++ rest)) ends p))

-- a text without a slash is not cut
no_cut_test : (n : List ℕ) → cut_at_slash n ≡ None → has_slash n ≡ false
no_cut_test [] h = refl
no_cut_test (x ∷ n) h = by (no_cut_test n) (x == 47) (cut_at_slash n) refl h
  where
    by : (cut_at_slash n ≡ None → has_slash n ≡ false) → (b : Bool) → (o : Option (List ℕ × List ℕ)) → cut_at_slash n ≡ o → (if◌then◌else◌ {A = Option (List ℕ × List ℕ)} b (Some ([], n)) (option_map (λ parts. (x ∷ parts.0, parts.1)) o)) ≡ None → (b || has_slash n) ≡ false
    by ih true o is h = absurd (cc)
    by ih false None is h = ih is
    by ih false (Some parts) is h = absurd (cc)

no_cut : (n : List ℕ) → cut_at_slash n ≡ None → NoByte 47 n
no_cut n h = test_no_slash n (no_cut_test n h)

no_empty : (c : List ℕ) → is_empty c ≡ false → c ≢ []
no_empty [] some is = absurd (cc)
no_empty (x ∷ c) some is = absurd (cc)

a_name : (c : List ℕ) → c ≢ [] → NoByte 47 c → IsEntryName c
a_name c some none = (some, λ has. none has.0 has.1 (get_or_default c has.0 0 47 has.1 ∙ has.2))

no_slash_lock : (c : List ℕ) → NoByte 47 c → NoByte 47 (lock_of c)
no_slash_lock c none = test_no_slash (lock_of c) (list_any-append is_slash c (codes ".lock") ∙ none_or (has_slash c) (has_slash (codes ".lock")) (no_slash_test c none) refl)

some_lock : (c : List ℕ) → lock_of c ≢ []
some_lock [] h = absurd (cc)
some_lock (x ∷ c) h = absurd (cc)

module _ (s : Store) (front : List ℕ) (T : Tree) (folder path : List ℕ) (shaped : IsShaped T) (is : front ++ folder ≡ path ++ 47 ∷ []) (some : path ≢ []) (at : IsFolderPath folder) (stem : List ℕ) (rules : IsPath stem) (lock : IsLockBelow s front T stem) (rest : List ℕ) (whole : stem ≡ folder ++ rest) where
  spread : lock_of stem ≡ folder ++ lock_of rest
  spread = ap lock_of whole ∙ append_assoc folder rest (codes ".lock")

  place : front ++ lock_of stem ≡ path ++ 47 ∷ lock_of rest
  place = ap (λ n. front ++ n) spread ∙ path_below front folder path (lock_of rest) is

  a_path : IsPath rest
  a_path = behind_folder folder rest at (subst IsPath whole rules)

  file : (is_some (T (path ++ 47 ∷ lock_of rest)) ≡ true) × (is_folder (T (path ++ 47 ∷ lock_of rest)) ≡ false)
  file = of_file (T (path ++ 47 ∷ lock_of rest)) (subst (λ p. is_file (T p) ≡ true) place lock.1)

  -- a folder that has a lock in it is there
  pub folder_is_there : is_folder (T path) ≡ true
  folder_is_there = folder_above T path (lock_of rest) shaped some file.0

  module _ (entries : List ListedEntry) (listing : ListsFolder T path entries) (found next : List (Vec ℕ Global)) (taken : All (IsTaken s front folder found next) entries) where
    -- the entry of a file or folder
    entry_of : (c : List ℕ) → IsEntryName c → is_some (T (path ++ 47 ∷ c)) ≡ true → (entry : ListedEntry) × (entry_name entry ≡ c) × IsTaken s front folder found next entry × (entry.is_folder ≡ is_folder (T (path ++ 47 ∷ c)))
    entry_of c named there =
        let any = listing.each c named there in
        let entry = any.1 in
        let told : IsEntryOf T path entry = subst (IsEntryOf T path) any.3 (listing.there any.0 entry any.2) in
        (entry, any.4, subst (IsTaken s front folder found next) any.3 (taken any.0 entry any.2), told.1 ∙ ap (λ n. is_folder (T (path ++ 47 ∷ n))) any.4)

    in_this : NoByte 47 rest → HasPath (front ++ lock_of stem) found ⊎ IsBelow next stem
    in_this none =
        let e = entry_of (lock_of rest) (a_name (lock_of rest) (some_lock rest) (no_slash_lock rest none)) file.0 in
        inl (e.2.file (e.3 ∙ file.1) stem (ap (λ n. folder ++ n) e.1 ∙ sym spread) lock.0)

    in_folder : (c more : List ℕ) → rest ≡ c ++ 47 ∷ more → NoByte 47 c → HasPath (front ++ lock_of stem) found ⊎ IsBelow next stem
    in_folder c more split none =
        let first = (first_component c more none (subst IsPath split a_path)).0 in
        let deeper : path ++ 47 ∷ lock_of rest ≡ (path ++ 47 ∷ c) ++ 47 ∷ lock_of more = ap (λ r. path ++ 47 ∷ lock_of r) split ∙ (ap (λ r. path ++ 47 ∷ r) (append_assoc c (47 ∷ more) (codes ".lock")) ∙ sym (append_assoc path (47 ∷ c) (47 ∷ lock_of more))) in
        let a_folder = folder_above T (path ++ 47 ∷ c) (lock_of more) shaped (no_nil path c) (subst (λ p. is_some (T p) ≡ true) deeper file.0) in
        let e = entry_of c (a_name c (no_empty c first.some) none) (folder_some (T (path ++ 47 ∷ c)) a_folder) in
        let all : stem ≡ (folder ++ (c ++ 47 ∷ [])) ++ more = whole ∙ (ap (λ r. folder ++ r) (split ∙ sym (append_assoc c (47 ∷ []) more)) ∙ sym (append_assoc folder (c ++ 47 ∷ []) more)) in
        inr (e.2.leads (e.3 ∙ a_folder) stem (more, all ∙ ap (λ n. (folder ++ (n ++ 47 ∷ [])) ++ more) (sym e.1)))
      where
        no_nil : (p c : List ℕ) → p ++ 47 ∷ c ≢ []
        no_nil [] c h = cc
        no_nil (x ∷ p) c h = cc

    -- a lock in the folder is found, or is below a folder that is to be walked
    pub entries_reach : HasPath (front ++ lock_of stem) found ⊎ IsBelow next stem
    entries_reach = by (cut_at_slash rest) refl
      where
        by : (o : Option (List ℕ × List ℕ)) → cut_at_slash rest ≡ o → HasPath (front ++ lock_of stem) found ⊎ IsBelow next stem
        by (Some parts) cut = let c = cut_is rest parts cut in in_folder parts.0 parts.1 c.0 (test_no_slash parts.0 c.1)
        by None cut = in_this (no_cut rest cut)

has_one : (front rest : List ℕ) → has_slash ((front ++ 47 ∷ []) ++ rest) ≡ true
has_one [] rest = refl
has_one (x ∷ front) rest = or_true (is_slash x) _ (has_one front rest)
  where
    or_true : (a b : Bool) → b ≡ true → (a || b) ≡ true
    or_true true b h = refl
    or_true false b h = h

-- a name without a slash is in no inner folder
pub not_inner : (name : List ℕ) → NoByte 47 name → (folders : List (Vec ℕ Global)) → All (λ f. IsInnerPath f.items) folders → IsBelow folders name → ⊥
not_inner name none [] all below = absurd below
not_inner name none (f ∷ folders) all below =
    ⊎_elim (λ (begins : BeginsWith name f.items).
    let inner = All-head (λ (g : Vec ℕ Global). IsInnerPath g.items) f folders all in
    not_both (has_slash name) (ap has_slash (begins.1 ∙ ap (λ t. t ++ begins.0) inner.1) ∙ has_one inner.0 begins.0) (no_slash_test name none))
    (λ later. not_inner name none folders (All-tail (λ (g : Vec ℕ Global). IsInnerPath g.items) f folders all) later) below
