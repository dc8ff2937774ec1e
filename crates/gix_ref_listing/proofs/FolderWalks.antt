-- What the listing of one folder tells of the names in it.
use Rattle.std.proofs.Common.{◌≡◌, ◌≢◌, ◌⊎◌, inl, inr, ⊎_elim, ℕ, ◌<◌, Bool, true, false, ◌&&◌, ◌||◌, ◌==◌, if◌then◌else◌, List, [], ◌∷◌, ◌++◌, length, refl, sym, ◌∙◌, ap, subst, append_assoc, append-nil, Option, Some, None, is_some, IsSome, ◌+◌, drop, take}
use Rattle.gix_ref_files.proofs.Meeting.{no_fewer_starts, more_after, met_wider}
use Rattle.std.specs.Option.{option_map}
use Rattle.std.specs.List.{All, list_all}
use Rattle.std.specs.Prelude.{Vec, slice_index_or, ◌≤◌}
use Rattle.std.specs.declared.alloc.Global.{Global}
use Rattle.std.proofs.Math.Seq.{take-append-add}
use Rattle.std.proofs.lemmas.List.{get_or_default, drop_more, drop_all}
use Rattle.gix_ref_hash.specs.Bytes.{NoByte, is_empty}
use Rattle.gix_ref_listing.proofs.WalkLemmas.{behind_slash}
use Rattle.gix_ref_name.specs.NameGrammar.{IsPartialName}
use Rattle.gix_ref_name.proofs.PartialNames.{IsPath, rules_of, first_component, last_component}
use Rattle.gix_ref_target.proofs.LocationLemmas.{has_slash, cut_is, test_no_slash}
use Rattle.gix_ref_target.specs.Locations.{cut_at_slash}
use Rattle.gix_ref_files.specs.Tree.{Tree, Path, Content, IsShaped, is_folder, fronts, fronts_after}
use Rattle.gix_ref_files.specs.Tree.Content.{File, Folder}
use Rattle.gix_ref_files.specs.Calls.{ListsFolder, IsEntryOf, IsEntryName, entry_name, Unchanged}
use Rattle.gix_ref_files.specs.DiskCalls.{Untouched}
use Rattle.gix_ref_files.specs.Files.{Leaves, Passes, Meaning, disk_of, count_with, FaultCounts, NoFewer}
use Rattle.gix_ref_files.proofs.Moments.{joins, passes_joins}
use Rattle.gix_ref_files.specs.declared.files.Entry.{Entry as ListedEntry}
use Rattle.gix_ref_files.specs.declared.files.FileError.{FileError}
use Rattle.gix_ref_theory.specs.OnRealTrees.{view_of, file_of}
use Rattle.gix_ref_listing.specs.declared.found.Found.TheVariants.{File as FoundFile, Unlisted}
use Rattle.gix_ref_listing.specs.Walks.{FoundEntry, Holds, IsFileOf, IsTaken, IsFolderPath, IsBelow, IsListedName, IsLooseName, IsRootPath, IsFileOrMet, IsAnyMet}
use Rattle.gix_ref_listing.specs.declared.walk.Root.{Root}
use Rattle.gix_ref_lookup.specs.Lookups.{Among}

all_behind : (P : Path → Bool) (front : Path) (b : Bool) (rest : List Path) → list_all P (if b then front ∷ rest else rest) ≡ true → list_all P rest ≡ true
all_behind P front true rest all = both (P front) (list_all P rest) all
  where
    both : (a c : Bool) → (a && c) ≡ true → c ≡ true
    both true c h = h
    both false c h = absurd (cc)
all_behind P front false rest all = all

front_after : (P : Path → Bool) (seen a b : List ℕ) → list_all P (fronts_after seen (a ++ 47 ∷ b)) ≡ true → P (seen ++ a) ≡ true
front_after P seen [] b all = ap P (append-nil seen) ∙ first (P seen) (list_all P (fronts_after (seen ++ 47 ∷ []) b)) all
  where
    first : (a c : Bool) → (a && c) ≡ true → a ≡ true
    first true c h = refl
    first false c h = absurd (cc)
front_after P seen (x ∷ a) b all =
    ap P (sym (append_assoc seen (x ∷ []) a)) ∙ front_after P (seen ++ x ∷ []) a b (all_behind P seen (x == 47) (fronts_after (seen ++ x ∷ []) (a ++ 47 ∷ b)) all)

-- what all fronts of a path have, each of them has
pub front_has : (P : Path → Bool) (a b : Path) → a ≢ [] → list_all P (fronts (a ++ 47 ∷ b)) ≡ true → P a ≡ true
front_has P [] b some all = absurd (some refl)
front_has P (x ∷ a) b some all = front_after P (x ∷ []) a b all

-- what is at a path that has something below it is a folder
pub folder_above : (T : Tree) (a b : Path) → IsShaped T → a ≢ [] → is_some (T (a ++ 47 ∷ b)) ≡ true → is_folder (T a) ≡ true
folder_above T a b shaped some there = front_has (λ f. is_folder (T f)) a b some (shaped (a ++ 47 ∷ b) there)

-- a file is there
file_there : (o : Option Content) → is_some (file_of o) ≡ true → (is_some o ≡ true) × (is_folder o ≡ false)
file_there (Some (File bytes)) some = (refl, refl)
file_there (Some Folder) some = absurd (cc)
file_there None some = absurd (cc)

a_file : (o : Option Content) (b : Bool) → is_some o ≡ true → b ≡ is_folder o → b ≡ false → is_some (file_of o) ≡ true
a_file (Some (File bytes)) b some is not_folder = refl
a_file (Some Folder) b some is not_folder = let bad : false ≡ true = sym not_folder ∙ is in absurd cc
a_file None b some is not_folder = absurd (cc)

folder_some : (o : Option Content) → is_folder o ≡ true → is_some o ≡ true
folder_some (Some x) h = refl
folder_some None h = absurd (cc)

-- the path of a folder that names begin with
pub path_below : (front folder path rest : List ℕ) → front ++ folder ≡ path ++ 47 ∷ [] → front ++ (folder ++ rest) ≡ path ++ 47 ∷ rest
path_below front folder path rest is = sym (append_assoc front folder rest) ∙ (ap (λ p. p ++ rest) is ∙ append_assoc path (47 ∷ []) rest)

-- the files of a folder are there
pub entries_there : (root : Root) (T : Tree) (folder path : List ℕ) (entries : List ListedEntry) → root.path.now ++ folder ≡ path ++ 47 ∷ [] → ListsFolder T path entries → All (IsFileOf root (view_of T) folder) entries
entries_there root T folder path entries is listing = λ k d below not_folder.
    let entry = slice_index_or entries k d in
    let tells = listing.there k d below in
    subst (λ p. IsSome (file_of (T p))) (sym (path_below root.path.now folder path (entry_name entry) is)) (a_file (T (path ++ 47 ∷ entry_name entry)) entry.is_folder tells.0 tells.1 not_folder)

-- a name has a byte after a folder, and what is before a slash there is a component
behind_folder : (folder rest : List ℕ) → IsFolderPath folder → IsPartialName (folder ++ rest) → IsPath rest
behind_folder folder rest path valid =
    let whole = (rules_of (folder ++ rest) valid).0 in
    ⊎_elim (λ (empty : folder ≡ []). subst (λ f. IsPath (f ++ rest)) empty whole)
    (λ (ends : (front : List ℕ) × (folder ≡ front ++ 47 ∷ [])). behind_slash ends.0 rest (subst IsPath (append_assoc ends.0 (47 ∷ []) rest) (subst (λ f. IsPath (f ++ rest)) ends.1 whole))) path

no_empty : (c : List ℕ) → is_empty c ≡ false → c ≢ []
no_empty [] some is = absurd (cc)
no_empty (x ∷ c) some is = absurd (cc)

a_name : (c : List ℕ) → is_empty c ≡ false → NoByte 47 c → IsEntryName c
a_name c some none = (no_empty c some, λ has. none has.0 has.1 (get_or_default c has.0 0 47 has.1 ∙ has.2))

-- a text without a slash is not cut
no_cut_test : (n : List ℕ) → cut_at_slash n ≡ None → has_slash n ≡ false
no_cut_test [] h = refl
no_cut_test (x ∷ n) h = by (no_cut_test n) (x == 47) (cut_at_slash n) refl h
  where
    by : (cut_at_slash n ≡ None → has_slash n ≡ false) → (b : Bool) → (o : Option (List ℕ × List ℕ)) → cut_at_slash n ≡ o → (if◌then◌else◌ {A = Option (List ℕ × List ℕ)} b (Some ([], n)) (option_map (λ parts. (x ∷ parts.0, parts.1)) o)) ≡ None → (b || has_slash n) ≡ false
    by ih true o is h = absurd (cc)
    by ih false None is h = ih is
    by ih false (Some parts) is h = absurd (cc)

no_cut : (n : List ℕ) → cut_at_slash n ≡ None → NoByte 47 n
no_cut n h = test_no_slash n (no_cut_test n h)

module _ (root : Root) (T : Tree) (folder path : List ℕ) (shaped : IsShaped T) (is : root.path.now ++ folder ≡ path ++ 47 ∷ []) (some : path ≢ []) (at : IsFolderPath folder) (name : List ℕ) (loose : IsLooseName root (view_of T) name) (rest : List ℕ) (whole_name : name ≡ folder ++ rest) where
  place : root.path.now ++ name ≡ path ++ 47 ∷ rest
  place = ap (λ n. root.path.now ++ n) whole_name ∙ path_below root.path.now folder path rest is

  a_path : IsPath rest
  a_path = behind_folder folder rest at (subst IsPartialName whole_name loose.0.0.valid)

  file : (is_some (T (path ++ 47 ∷ rest)) ≡ true) × (is_folder (T (path ++ 47 ∷ rest)) ≡ false)
  file = file_there (T (path ++ 47 ∷ rest)) (subst (λ p. is_some (file_of (T p)) ≡ true) place loose.1)

  -- a folder that has a name in it is there
  pub folder_is_there : is_folder (T path) ≡ true
  folder_is_there = folder_above T path rest shaped some file.0

  module _ (entries : List ListedEntry) (listing : ListsFolder T path entries) (found : List FoundEntry) (next : List (Vec ℕ Global)) (taken : All (IsTaken root folder found next) entries) where
    -- the entry of a file or folder
    entry_of : (c : List ℕ) → IsEntryName c → is_some (T (path ++ 47 ∷ c)) ≡ true → (entry : ListedEntry) × (entry_name entry ≡ c) × IsTaken root folder found next entry × (entry.is_folder ≡ is_folder (T (path ++ 47 ∷ c)))
    entry_of c named there =
        let any = listing.each c named there in
        let entry = any.1 in
        let told : IsEntryOf T path entry = subst (IsEntryOf T path) any.3 (listing.there any.0 entry any.2) in
        (entry, any.4, subst (IsTaken root folder found next) any.3 (taken any.0 entry any.2), told.1 ∙ ap (λ n. is_folder (T (path ++ 47 ∷ n))) any.4)

    in_this : NoByte 47 rest → Among (Holds name) found ⊎ IsBelow next name
    in_this none =
        let e = entry_of rest (a_name rest (last_component rest none a_path).some none) file.0 in
        let whole : folder ++ entry_name e.0 ≡ name = ap (λ n. folder ++ n) e.1 ∙ sym whole_name in
        inl (subst (λ n. Among (Holds n) found) whole (e.2.file (e.3 ∙ file.1) (subst (IsListedName root) (sym whole) loose.0)))

    in_folder : (c more : List ℕ) → rest ≡ c ++ 47 ∷ more → NoByte 47 c → Among (Holds name) found ⊎ IsBelow next name
    in_folder c more split none =
        let first = (first_component c more none (subst IsPath split a_path)).0 in
        let deeper : path ++ 47 ∷ rest ≡ (path ++ 47 ∷ c) ++ 47 ∷ more = ap (λ r. path ++ 47 ∷ r) split ∙ sym (append_assoc path (47 ∷ c) (47 ∷ more)) in
        let a_folder = folder_above T (path ++ 47 ∷ c) more shaped (no_nil path c) (subst (λ p. is_some (T p) ≡ true) deeper file.0) in
        let e = entry_of c (a_name c first.some none) (folder_some (T (path ++ 47 ∷ c)) a_folder) in
        let whole : name ≡ (folder ++ (c ++ 47 ∷ [])) ++ more = whole_name ∙ (ap (λ r. folder ++ r) (split ∙ sym (append_assoc c (47 ∷ []) more)) ∙ sym (append_assoc folder (c ++ 47 ∷ []) more)) in
        inr (e.2.leads (e.3 ∙ a_folder) (subst (NoByte 47) (sym e.1) none) at name loose.0 (more, whole ∙ ap (λ n. (folder ++ (n ++ 47 ∷ [])) ++ more) (sym e.1)))
      where
        no_nil : (p c : List ℕ) → p ++ 47 ∷ c ≢ []
        no_nil [] c h = cc
        no_nil (x ∷ p) c h = cc

    -- a name in the folder is found, or is below a folder that is to be walked
    pub entries_reach : Among (Holds name) found ⊎ IsBelow next name
    entries_reach = by (cut_at_slash rest) refl
      where
        by : (o : Option (List ℕ × List ℕ)) → cut_at_slash rest ≡ o → Among (Holds name) found ⊎ IsBelow next name
        by (Some parts) cut = let c = cut_is rest parts cut in in_folder parts.0 parts.1 c.0 (test_no_slash parts.0 c.1)
        by None cut = in_this (no_cut rest cut)

-- the path of a folder, without the last slash
pub path_of_folder : (front folder : List ℕ) → IsRootPath front → IsFolderPath folder → (path : List ℕ) × (path ≢ []) × (front ++ folder ≡ path ++ 47 ∷ [])
path_of_folder front folder (start, some, is) (inl empty) = (start, some, ap (λ f. front ++ f) empty ∙ (append-nil front ∙ is))
path_of_folder front folder (start, some, is) (inr (inner, ends)) = (front ++ inner, some_path, ap (λ f. front ++ f) ends ∙ sym (append_assoc front inner (47 ∷ [])))
  where
    some_path : front ++ inner ≢ []
    some_path none = some_front start some (sym (ap (λ f. f ++ inner) is) ∙ none)
      where
        some_front : (s : List ℕ) → s ≢ [] → (s ++ 47 ∷ []) ++ inner ≡ [] → ⊥
        some_front [] some none = some refl
        some_front (x ∷ s) some none = absurd (cc)

-- no fault is forgotten
pub counts_up : (error : FileError) (before now : FaultCounts) → now ≡ count_with error before → NoFewer before now
counts_up error before now is = subst (NoFewer before) (sym is) (more_after error before)

-- a fault was counted, over more calls
pub any_from : (a b c : FaultCounts) → NoFewer a b → IsAnyMet b c → IsAnyMet a c
any_from a b c before (error, met) = (error, met_wider before (no_fewer_starts c) met)

pub any_on : (a b c : FaultCounts) → IsAnyMet a b → NoFewer b c → IsAnyMet a c
any_on a b c (error, met) later = (error, met_wider (no_fewer_starts a) later met)

-- what was found stays so, over more calls
pub met_on : (a b c : FaultCounts) (es : List FoundEntry) → NoFewer b c → All (IsFileOrMet a b) es → All (IsFileOrMet a c) es
met_on a b c es later all = λ k d below. by (slice_index_or es k d) (all k d below)
  where
    by : (e : FoundEntry) → IsFileOrMet a b e → IsFileOrMet a c e
    by (key, FoundFile name path) is = tt
    by (key, Unlisted path error) met = met_wider (no_fewer_starts a) later met

-- nothing changed, and then nothing more
pub unchanged_on : (old mid new : Meaning) → Leaves old mid (Unchanged old.tree) → Leaves mid new (Unchanged mid.tree) → Leaves old new (Unchanged old.tree)
unchanged_on old mid new first second = joins first (subst (λ T. Leaves mid new (Unchanged T)) first.tree second)

pub untouched_on : (old mid new : Meaning) → Passes old mid (Untouched (disk_of old)) → Passes mid new (Untouched (disk_of mid)) → Passes old new (Untouched (disk_of old))
untouched_on old mid new first second = passes_joins first (subst (λ D. Passes mid new (Untouched D)) first.disk second)

-- one of a list is there, or later
pub among_next : {A : Type 0} (P : A → Type 0) (xs : List A) (i : ℕ) (x : A) → i < length xs → x ≡ slice_index_or xs i x → Among P (drop i xs) → P x ⊎ Among P (drop (i + 1) xs)
among_next P xs i x below is had =
    ⊎_elim (λ here. inl (subst P (sym is) here)) (λ later. inr later) (subst (Among P) (drop_more xs i x below) had)

pub among_none : {A : Type 0} (P : A → Type 0) (xs : List A) (i : ℕ) → length xs ≤ i → Among P (drop i xs) → ⊥
among_none P xs i past had = absurd (subst (Among P) (drop_all i xs past) had)

-- a text that was cut at a byte: its front with that byte, and the rest
pub cut_front : (text before after : List ℕ) → text ≡ before ++ 47 ∷ after → (take (length before + 1) text ≡ before ++ 47 ∷ []) × (text ≡ take (length before + 1) text ++ after)
cut_front text before after whole =
    let front : take (length before + 1) text ≡ before ++ 47 ∷ [] = ap (take (length before + 1)) whole ∙ take-append-add before (47 ∷ after) 1 in
    (front, whole ∙ (sym (append_assoc before (47 ∷ []) after) ∙ ap (λ t. t ++ after) (sym front)))
