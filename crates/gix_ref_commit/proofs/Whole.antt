-- The folders that a search found are all that are below a path: each holds only others of them, and none lies in a later one.
use Rattle.std.proofs.Common.{◌≡◌, ◌⊎◌, inl, inr, ⊎_elim, ℕ, zero, suc, ◌+◌, ◌-◌, ◌<◌, ◌≤◌, List, [], ◌∷◌, ◌++◌, length, length-append, Bool, true, false, Vec, refl, sym, ◌∙◌, ap, subst, arith, append_assoc, reverse, take, if◌then◌else◌, map, get_or, All, AllPairs, Contains}
use Rattle.std.specs.Prelude.{◌==◌}
use Rattle.std.specs.declared.alloc.Global.{Global}
use Rattle.std.proofs.lemmas.Bool.{eqb-true}
use Rattle.std.proofs.lemmas.List.{append-nil, get_or_append_left, get_or-append_right, get_or_default, length-map, map-append, reverse-append, take_all, take_more}
use Rattle.std.proofs.lemmas.List.Elements.{All-cons, All-head, All-nil, All-push, All-tail}
use Rattle.std.proofs.lemmas.List.Quantifiers.{all_pairs_push}
use Rattle.gix_ref_target.specs.Layout.{LiesIn}
use Rattle.gix_ref_files.specs.Calls.{IsEntryName, IsEntryOf, ListsFolder, entry_name}
use Rattle.gix_ref_files.specs.Settled.{IsIn}
use Rattle.gix_ref_files.specs.Tree.{Tree, Path, is_folder}
use Rattle.gix_ref_files.specs.declared.files.Entry.{Entry as FolderEntry}
use Rattle.gix_ref_lookup.specs.declared.folders.Dirs.{Dirs}
use Rattle.gix_ref_transaction.specs.OwnLocks.{paths_of}
use Rattle.gix_ref_commit.specs.Cleared.{AreAllFolders, HoldsOnly}
use Rattle.gix_ref_commit.specs.internal.Walks.{AddsAll, AddsFolder, AddsFolders, AreClosedFolders, IsWalked}
use Rattle.gix_ref_commit.proofs.Walking.{all_reverse}

pub less_or_not : (a b : ℕ) → (a < b) ⊎ (b ≤ a)
less_or_not zero zero = inr (omega arith)
less_or_not zero (suc b) = inl (omega arith)
less_or_not (suc a) zero = inr (omega arith)
less_or_not (suc a) (suc b) = ⊎_elim (λ lt. inl (omega (arith, lt))) (λ le. inr (omega (arith, le))) (less_or_not a b)

-- how many slashes a path has
abbrev pub slashes : List ℕ → ℕ
slashes [] = 0
slashes (c ∷ rest) = if c == 47 then suc (slashes rest) else slashes rest

pub slashes-below : (folder rest : List ℕ) → slashes (folder ++ 47 ∷ rest) ≡ suc (slashes folder + slashes rest)
slashes-below [] rest = omega arith
slashes-below (c ∷ folder) rest = by (c == 47) (slashes-below folder rest)
  where
    by : (b : Bool) → slashes (folder ++ 47 ∷ rest) ≡ suc (slashes folder + slashes rest) →
        (if b then suc (slashes (folder ++ 47 ∷ rest)) else slashes (folder ++ 47 ∷ rest)) ≡ suc ((if b then suc (slashes folder) else slashes folder) + slashes rest)
    by true is = omega (arith, is)
    by false is = is

pub slashes-name : (name : List ℕ) → (Contains name 47 → ⊥) → slashes name ≡ 0
slashes-name [] none = refl
slashes-name (c ∷ rest) none = by (c == 47) refl (slashes-name rest (λ has. none (suc has.0, omega (arith, has.1), has.2)))
  where
    by : (b : Bool) → (c == 47) ≡ b → slashes rest ≡ 0 → (if b then suc (slashes rest) else slashes rest) ≡ 0
    by true is later = absurd (none (0, omega arith, eqb-true c 47 is))
    by false is later = later

-- an entry of a folder has one slash more
deeper : (folder name : List ℕ) → IsEntryName name → slashes (folder ++ 47 ∷ name) ≡ suc (slashes folder)
deeper folder name is = omega (arith, slashes-below folder name, slashes-name name is.1)

all_deeper : (folder : Path) (names : List (List ℕ)) → All IsEntryName names → All (λ p. slashes p ≡ suc (slashes folder)) (map (λ name. folder ++ 47 ∷ name) names)
all_deeper folder [] are = All-nil (λ p. slashes p ≡ suc (slashes folder))
all_deeper folder (n ∷ names) are =
    All-cons (λ p. slashes p ≡ suc (slashes folder)) (folder ++ 47 ∷ n) (map (λ name. folder ++ 47 ∷ name) names)
    (deeper folder n (All-head IsEntryName n names are)) (all_deeper folder names (All-tail IsEntryName n names are))

-- where a path is in a list
pub in_left : (q : Path) (a b : List Path) → IsIn q a → IsIn q (a ++ b)
in_left q [] b none = absurd none
in_left q (p ∷ a) b (inl here) = inl here
in_left q (p ∷ a) b (inr later) = inr (in_left q a b later)

pub in_right : (q : Path) (a b : List Path) → IsIn q b → IsIn q (a ++ b)
in_right q [] b within = within
in_right q (p ∷ a) b within = inr (in_right q a b within)

pub in_reverse : (q : Path) (a : List Path) → IsIn q a → IsIn q (reverse a)
in_reverse q [] none = none
in_reverse q (p ∷ a) (inl here) = subst (IsIn q) (sym (reverse-append (p ∷ []) a)) (in_right q (reverse a) (p ∷ []) (inl here))
in_reverse q (p ∷ a) (inr later) = subst (IsIn q) (sym (reverse-append (p ∷ []) a)) (in_left q (reverse a) (p ∷ []) (in_reverse q a later))

in_mapped : (folder : Path) (names : List (List ℕ)) (name : List ℕ) → Contains names name → IsIn (folder ++ 47 ∷ name) (map (λ n. folder ++ 47 ∷ n) names)
in_mapped folder [] name (k, lt, is) = absurd (omega (arith, lt))
in_mapped folder (n ∷ names) name (zero, lt, is) = inl (ap (λ (x : List ℕ). folder ++ 47 ∷ x) is)
in_mapped folder (n ∷ names) name (suc k, lt, is) = inr (in_mapped folder names name (k, omega (arith, lt), is))

-- A search for folders, which has looked at so many of those that it found.
pub record IsSearched (T : Tree) (found : List Path) (next : ℕ) : Type 0 where
  -- each of these holds only folders that were found
  pub closed : (k : ℕ) (d : Path) → k < next → k < length found → HoldsOnly T found (get_or found k d)
  -- no later one has fewer slashes, and none has two more than the next one
  pub rising : AllPairs (λ a b. slashes a ≤ slashes b) found
  pub near : (j : ℕ) (d : Path) → j < length found → next < length found → slashes (get_or found j d) ≤ suc (slashes (get_or found next d))

pub search_starts : (T : Tree) (top : Path) (found : List Path) → found ≡ top ∷ [] → IsSearched T found 0
search_starts T top found is = subst (λ (l : List Path). IsSearched T l 0) (sym is) (record {
  closed = λ k d lt within. absurd (omega (arith, lt));
  rising = λ i j d lt within. absurd (omega (arith, lt, within));
  near = own;
})
  where
    own : (j : ℕ) (d : Path) → j < length (top ∷ []) → 0 < length (top ∷ []) → slashes (get_or (top ∷ []) j d) ≤ suc (slashes top)
    own zero d lt some = omega arith
    own (suc j) d lt some = absurd (omega (arith, lt))

-- a folder that holds only some of these holds only some of more
pub holds_of_more : (T : Tree) (a b : List Path) (folder : Path) → ((q : Path) → IsIn q a → IsIn q b) → HoldsOnly T a folder → HoldsOnly T b folder
holds_of_more T a b folder into holds there name is some = let h = holds there name is some in (h.0, into (folder ++ 47 ∷ name) h.1)

-- the next folder is looked at, and all that is in it was added
pub search_goes : (T : Tree) (folder : Path) (found all : List Path) (next : ℕ) (d : Path) → next < length found → folder ≡ get_or found next d → IsSearched T found next → AddsFolders T folder found all → IsSearched T all (next + 1)
search_goes T folder found all next e lt here s more = record { closed = closed; rising = rising; near = near }
  where
    news : List Path
    news = map (λ name. folder ++ 47 ∷ name) more.names

    long : length all ≡ length found + length news
    long = ap length more.added ∙ length-append found news

    folder_at : (d : Path) → get_or found next d ≡ folder
    folder_at d = get_or_default found next d e lt ∙ sym here

    at_old : (k : ℕ) (d : Path) → k < length found → get_or all k d ≡ get_or found k d
    at_old k d old = ap (λ (l : List Path). get_or l k d) more.added ∙ get_or_append_left found news d k old

    at_new : (k : ℕ) (d : Path) → length found ≤ k → k < length all → slashes (get_or all k d) ≡ suc (slashes folder)
    at_new k d new within =
        ap slashes (ap (λ (l : List Path). get_or l k d) more.added ∙ get_or-append_right found news (length found) k d refl new)
        ∙ all_deeper folder more.names more.are_names (k - length found) d (omega (arith, long, new, within))

    near_old : (j : ℕ) (d : Path) → j < length found → slashes (get_or all j d) ≤ suc (slashes folder)
    near_old j d old = omega (arith, s.near j d old lt, ap slashes (at_old j d old), ap slashes (folder_at d))

    near_any : (j : ℕ) (d : Path) → j < length all → slashes (get_or all j d) ≤ suc (slashes folder)
    near_any j d within = ⊎_elim (λ old. near_old j d old) (λ new. omega (arith, at_new j d new within)) (less_or_not j (length found))

    rising : AllPairs (λ a b. slashes a ≤ slashes b) all
    rising i j d before within = ⊎_elim
        (λ old. omega (arith, s.rising i j d before old, ap slashes (at_old i d (omega (arith, before, old))), ap slashes (at_old j d old)))
        (λ new. omega (arith, at_new j d new within, near_any i d (omega (arith, before, within))))
        (less_or_not j (length found))

    near : (j : ℕ) (d : Path) → j < length all → next + 1 < length all → slashes (get_or all j d) ≤ suc (slashes (get_or all (next + 1) d))
    near j d within some =
        omega (arith, near_any j d within, rising next (next + 1) d (omega arith) some, ap slashes (at_old next d lt ∙ folder_at d))

    into : (q : Path) → IsIn q found → IsIn q all
    into q within = subst (IsIn q) (sym more.added) (in_left q found news within)

    own : HoldsOnly T all folder
    own there name is some =
        let h = more.each there name is some in
        (h.0, subst (IsIn (folder ++ 47 ∷ name)) (sym more.added) (in_right (folder ++ 47 ∷ name) found news (in_mapped folder more.names name h.1)))

    closed : (k : ℕ) (d : Path) → k < next + 1 → k < length all → HoldsOnly T all (get_or all k d)
    closed k d before within = ⊎_elim
        (λ earlier.
        let old : k < length found = omega (arith, earlier, lt) in
        subst (HoldsOnly T all) (sym (at_old k d old)) (holds_of_more T found all (get_or found k d) into (s.closed k d earlier old)))
        (λ now.
        let same : next ≡ k = omega (arith, now, before) in
        subst (λ (n : ℕ). HoldsOnly T all (get_or all n d)) same (subst (HoldsOnly T all) (sym (at_old next d lt ∙ folder_at d)) own))
        (less_or_not k next)

-- the path at a place of a list
path_at : (l : List (Vec ℕ Global)) (k : ℕ) (d : Vec ℕ Global) → k < length l → get_or (paths_of l) k d.items ≡ (get_or l k d).items
path_at [] k d lt = absurd (omega (arith, lt))
path_at (x ∷ l) zero d lt = refl
path_at (x ∷ l) (suc k) d lt = path_at l k d (omega (arith, lt))

pub walk_goes : (T mid : Tree) (folder : Path) (found now : List (Vec ℕ Global)) (all : List Path) (next : ℕ) (v : Vec ℕ Global) → now ≡ found → next < length now → ((d : Vec ℕ Global) → v ≡ get_or now next d) → folder ≡ v.items → mid ≡ T →
    IsSearched T (paths_of found) next → AddsFolders mid folder (paths_of found) all → IsSearched T all (next + 1)
walk_goes T mid folder found now all next v same lt at is tree s adds =
    let within : next < length found = omega (arith, lt, ap length same) in
    search_goes T folder (paths_of found) all next v.items (omega (arith, within, length-map found (λ (p : Vec ℕ Global). p.items)))
    (is ∙ (ap (λ (p : Vec ℕ Global). p.items) (at v ∙ ap (λ (l : List (Vec ℕ Global)). get_or l next v) same) ∙ sym (path_at found next v within)))
    s (subst (λ (U : Tree). AddsFolders U folder (paths_of found) all) tree adds)

-- each was looked at
pub search_ends : (T : Tree) (found : List Path) (next : ℕ) → length found ≤ next → IsSearched T found next → AreClosedFolders T found
search_ends T found next le s = record {
  all = λ k d lt. s.closed k d (omega (arith, le, lt)) lt;
  outer_first = λ i j d lt within lies. absurd (omega (arith, s.rising i j d lt within, ap slashes lies.1, slashes-below (get_or found j d) lies.0));
}

pub walk_ends : (T : Tree) (found : List (Vec ℕ Global)) (next : ℕ) → length found ≤ next → IsSearched T (paths_of found) next → AreClosedFolders T (paths_of found)
walk_ends T found next le s = search_ends T (paths_of found) next (omega (arith, le, length-map found (λ (p : Vec ℕ Global). p.items))) s

-- What was added of a folder.
pub adds_none : (T : Tree) (folder : Path) (found : List Path) → is_folder (T folder) ≡ false → AddsFolders T folder found found
adds_none T folder found none = record {
  names = [];
  are_names = All-nil IsEntryName;
  added = sym (append-nil found);
  each = λ there name is some. absurd (differ (sym none ∙ there));
}
  where
    differ : false ≡ true → ⊥
    differ e = cc

pub adds_listed : (T : Tree) (folder : Path) (entries : List FolderEntry) (old new : List Path) → ListsFolder T folder entries → AddsAll folder entries old new → AddsFolders T folder old new
adds_listed T folder entries old new lists adds = record {
  names = map entry_name entries;
  are_names = named entries lists.names;
  added = adds.1 ∙ ap (λ (l : List Path). old ++ l) (twice entries);
  each = λ there name is some. by name (lists.each name is some);
}
  where
    named : (es : List FolderEntry) → All (λ entry. IsEntryName (entry_name entry)) es → All IsEntryName (map entry_name es)
    named [] all = All-nil IsEntryName
    named (e ∷ es) all = All-cons IsEntryName (entry_name e) (map entry_name es) (All-head (λ entry. IsEntryName (entry_name entry)) e es all)
        (named es (All-tail (λ entry. IsEntryName (entry_name entry)) e es all))

    twice : (es : List FolderEntry) → map (λ entry. folder ++ 47 ∷ entry_name entry) es ≡ map (λ name. folder ++ 47 ∷ name) (map entry_name es)
    twice [] = refl
    twice (e ∷ es) = ap (λ (l : List Path). (folder ++ 47 ∷ entry_name e) ∷ l) (twice es)

    there_in : (es : List FolderEntry) (k : ℕ) (x : FolderEntry) (name : List ℕ) → k < length es → get_or es k x ≡ x → entry_name x ≡ name → Contains (map entry_name es) name
    there_in [] k x name lt at is = absurd (omega (arith, lt))
    there_in (e ∷ es) zero x name lt at is = (0, omega arith, ap entry_name at ∙ is)
    there_in (e ∷ es) (suc k) x name lt at is = let h = there_in es k x name (omega (arith, lt)) at is in (suc h.0, omega (arith, h.1), h.2)

    by : (name : List ℕ) → (k : ℕ) × (x : FolderEntry) × (k < length entries) × (get_or entries k x ≡ x) × (entry_name x ≡ name) →
        (is_folder (T (folder ++ 47 ∷ name)) ≡ true) × Contains (map entry_name entries) name
    by name (k, x, lt, at, is) =
        let tells : IsEntryOf T folder x = subst (IsEntryOf T folder) at (lists.there k x lt) in
        let folder_is : x.is_folder ≡ true = subst (λ (e : FolderEntry). e.is_folder ≡ true) at (adds.0 k x lt) in
        (ap (λ (n : List ℕ). is_folder (T (folder ++ 47 ∷ n))) (sym is) ∙ (sym tells.1 ∙ folder_is), there_in entries k x name lt at is)

-- Backwards, each is before the one that it lies in.
pairs_reverse : (R : Path → Path → Type 0) (xs : List Path) → AllPairs (λ a b. R b a) xs → AllPairs R (reverse xs)
pairs_reverse R [] all = λ i j d lt within. absurd (omega (arith, within))
pairs_reverse R (x ∷ xs) all =
    subst (AllPairs R) (sym (reverse-append (x ∷ []) xs))
    (all_pairs_push R (reverse xs) x
    (pairs_reverse R xs (λ i j d lt within. all (suc i) (suc j) d (omega (arith, lt)) (omega (arith, within))))
    (all_reverse (λ y. R y x) xs (λ k d lt. all 0 (suc k) d (omega arith) (omega (arith, lt)))))

pub all_folders : (dirs : Dirs) (T : Tree) (top : Path) (found folders : List Path) → IsWalked dirs top found → AreClosedFolders T found → folders ≡ reverse found → AreAllFolders T top folders
all_folders dirs T top found folders (rest, is, are) whole backwards = subst (AreAllFolders T top) (sym backwards) (record {
  last = (reverse rest, ap reverse is ∙ reverse-append (top ∷ []) rest);
  all = λ k d lt. holds_of_more T found (reverse found) (get_or (reverse found) k d) (λ q within. in_reverse q found within) (all_reverse (HoldsOnly T found) found whole.all k d lt);
  inner_first = pairs_reverse (λ earlier later. LiesIn later earlier → ⊥) found whole.outer_first;
})

-- one entry more
pub adds_more : (folder : Path) (entries : List FolderEntry) (i : ℕ) (d : FolderEntry) (old mid new : List Path) → i < length entries → AddsAll folder (take i entries) old mid → AddsFolder folder (get_or entries i d) mid new → AddsAll folder (take (i + 1) entries) old new
adds_more folder entries i d old mid new lt all one =
    subst (λ (l : List FolderEntry). AddsAll folder l old new) (sym (take_more entries i d lt)) (
      All-push (λ entry. entry.is_folder ≡ true) (take i entries) (get_or entries i d) all.0 one.0,
      one.1
          ∙ (ap (λ (l : List Path). l ++ (folder ++ 47 ∷ entry_name (get_or entries i d)) ∷ []) all.1
          ∙ (append_assoc old (map (λ (entry : FolderEntry). folder ++ 47 ∷ entry_name entry) (take i entries)) ((folder ++ 47 ∷ entry_name (get_or entries i d)) ∷ [])
          ∙ ap (λ (l : List Path). old ++ l) (sym (map-append (λ (entry : FolderEntry). folder ++ 47 ∷ entry_name entry) (take i entries) (get_or entries i d ∷ []))))),
    )

pub adds_end : (folder : Path) (entries : List FolderEntry) (i : ℕ) (old new : List Path) → length entries ≤ i → AddsAll folder (take i entries) old new → AddsAll folder entries old new
adds_end folder entries i old new le = subst (λ (l : List FolderEntry). AddsAll folder l old new) (take_all i entries le)
