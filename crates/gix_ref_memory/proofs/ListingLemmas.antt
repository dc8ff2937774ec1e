-- Paths below a folder, and listings that are made entry by entry.
use Rattle.std.proofs.Common.{◌≡◌, ◌≢◌, ◌⊎◌, inl, inr, ⊎_elim, ℕ, zero, suc, ◌+◌, ◌-◌, ◌<◌, ◌≤◌, List, [], ◌∷◌, ◌++◌, length, take, drop, get_or, Some, Bool, true, false, IsSome, refl, sym, ◌∙◌, ap, subst, arith, length-append, length-drop, take-append-drop}
use Rattle.std.specs.Prelude.{◌==◌, ◌||◌, bytes_eq, Contains}
use Rattle.std.specs.List.{list_any}
use Rattle.std.proofs.lemmas.Slice.Eq.{bytes_eq-Decides}
use Rattle.std.proofs.lemmas.Bool.{eqb-true}
use Rattle.std.proofs.lemmas.List.{drop_more, drop_all, take_all, get_or_append_left}
use Rattle.std.proofs.Math.Seq.{drop-append_seam, get_or-append_seam}
use Rattle.std.proofs.lemmas.List.Elements.{All-push}
use Rattle.std.proofs.lemmas.List.Quantifiers.{Any-push, all_pairs_push}
use Rattle.std.proofs.lemmas.List.Folds.{Any-from_list_any}
use Rattle.gix_ref_files.specs.Tree.{Tree, Path, is_folder}
use Rattle.gix_ref_files.specs.Calls.{IsEntryName, ListsFolder, IsEntryOf, entry_name}
use Rattle.gix_ref_memory.specs.Changes.{IsChangedPath, place_of, found_content}
use Rattle.gix_ref_memory.specs.internal.Listing.{IsListed, ListsSome, AddsEntries}
use Rattle.gix_ref_files.specs.declared.files.Entry.{Entry}
use Rattle.gix_ref_memory.specs.declared.memory.changes.Change.{Change}
use Rattle.gix_ref_memory.specs.declared.memory.changes.Present.{Present}
use Rattle.gix_ref_memory.specs.declared.memory.changes.Present.TheVariants.{FileOf, FolderOf}
use Rattle.gix_ref_memory.proofs.Placed.{placed_next}

-- the front of a path below a folder
front_is : (folder : Path) (rest : List ℕ) → take (length folder) (folder ++ rest) ≡ folder
front_is [] rest = refl
front_is (b ∷ folder) rest = ap (λ (l : Path). b ∷ l) (front_is folder rest)

-- what follows a folder in a path below it is one text
pub rest_is : (folder : Path) (a b : List ℕ) → folder ++ 47 ∷ a ≡ folder ++ 47 ∷ b → a ≡ b
rest_is folder a b e =
    ap (λ (l : Path). drop 1 l) (sym (drop-append_seam folder (47 ∷ a)) ∙ ap (λ (l : Path). drop (length folder) l) e ∙ drop-append_seam folder (47 ∷ b))

-- a path that begins with a folder and a slash lies below it
pub below_some : (folder path : Path) → length folder < length path → true ≡ bytes_eq (take (length folder) path) folder → get_or path (length folder) 0 ≡ 47 → path ≡ folder ++ 47 ∷ take (length path - (length folder + 1)) (drop (length folder + 1) path)
below_some folder path lt front slash =
    let n = length folder in
    let m = length path - (n + 1) in
    let rest : take m (drop (n + 1) path) ≡ drop (n + 1) path = take_all m (drop (n + 1) path) (omega (arith, length-drop (n + 1) path)) in
    sym (take-append-drop n path)
    ∙ ap (λ (l : Path). l ++ drop n path) ((bytes_eq-Decides (take n path) folder).0 (sym front))
    ∙ ap (λ (l : Path). folder ++ l) (drop_more path n 0 lt)
    ∙ ap (λ (b : ℕ). folder ++ b ∷ drop (n + 1) path) slash
    ∙ ap (λ (l : Path). folder ++ 47 ∷ l) (sym rest)

-- a path below a folder is longer, begins with it, and has a slash there
pub below_longer : (folder path : Path) (rest : List ℕ) → path ≡ folder ++ 47 ∷ rest → length folder < length path
below_longer folder path rest is = omega (arith, ap (λ (l : Path). length l) is, length-append folder (47 ∷ rest))

pub below_begins : (folder path : Path) (rest : List ℕ) → path ≡ folder ++ 47 ∷ rest → bytes_eq (take (length folder) path) folder ≡ true
below_begins folder path rest is =
    (bytes_eq-Decides (take (length folder) path) folder).1 (ap (λ (l : Path). take (length folder) l) is ∙ front_is folder (47 ∷ rest))

pub below_slash : (folder path : Path) (rest : List ℕ) → path ≡ folder ++ 47 ∷ rest → get_or path (length folder) 0 ≡ 47
below_slash folder path rest is = ap (λ (l : Path). get_or l (length folder) 0) is ∙ get_or-append_seam folder 47 rest 0

-- what is found exists
pub present_some : (present : Present) → IsSome (found_content (Some present))
present_some (FileOf bytes) = refl
present_some FolderOf = refl

-- a slash that a search finds is there
pub slash_found : (name : List ℕ) → list_any (λ y. y == 47) name ≡ true → Contains name 47
slash_found name found =
    let some = Any-from_list_any (λ (y : ℕ). y == 47) name found in
    let is : some.1 ≡ 47 = eqb-true some.1 47 some.4 in
    subst (Contains name) is (some.0, some.2, some.3)

-- a text without length is empty
pub nothing_in : (name : List ℕ) → (length name == 0) ≡ true → name ≡ []
nothing_in [] none = refl
nothing_in (b ∷ name) none = absurd (let e : length (b ∷ name) ≡ 0 = eqb-true (length (b ∷ name)) 0 none in omega arith)

-- a name that a search finds is listed
pub listed : (entries : List Entry) (name : List ℕ) → list_any (λ entry. bytes_eq (entry_name entry) name) entries ≡ true → IsListed entries name
listed entries name found =
    let some = Any-from_list_any (λ (entry : Entry). bytes_eq (entry_name entry) name) entries found in
    (some.0, some.1, some.2, some.3, (bytes_eq-Decides (entry_name some.1) name).0 some.4)

-- one that it does not find is no entry's
unlisted : (entries : List Entry) (name : List ℕ) → list_any (λ entry. bytes_eq (entry_name entry) name) entries ≡ false → (k : ℕ) (d : Entry) → k < length entries → entry_name (get_or entries k d) ≢ name
unlisted [] name none k d lt = absurd (omega arith)
unlisted (entry ∷ entries) name none zero d lt = λ is.
    clash (bytes_eq (entry_name entry) name) (list_any (λ e. bytes_eq (entry_name e) name) entries) ((bytes_eq-Decides (entry_name entry) name).1 is) none
  where
    clash : (a b : Bool) → a ≡ true → (a || b) ≡ false → ⊥
    clash true b holds neither = cc
    clash false b holds neither = cc
unlisted (entry ∷ entries) name none (suc k) d lt = unlisted entries name (rest (bytes_eq (entry_name entry) name) (list_any (λ e. bytes_eq (entry_name e) name) entries) none) k d (omega arith)
  where
    rest : (a b : Bool) → (a || b) ≡ false → b ≡ false
    rest true b neither = cc
    rest false b neither = neither

still_listed : (entries : List Entry) (entry : Entry) (name : List ℕ) → IsListed entries name → IsListed (entries ++ entry ∷ []) name
still_listed entries entry name some =
    (some.0, some.1, omega (arith, some.2, length-append entries (entry ∷ [])), get_or_append_left entries (entry ∷ []) some.1 some.0 some.2 ∙ some.3, some.4)

-- no entry more
pub lists_same : (T : Tree) (p : Path) (name : List ℕ) (entries : List Entry) → (IsSome (T (p ++ 47 ∷ name)) → IsListed entries name) → AddsEntries T p name entries entries
lists_same T p name entries here = record { good = λ good. good; here = here; others = λ other there. there }

-- one entry more
pub lists_more : (T : Tree) (p : Path) (name : List ℕ) (old new : List Entry) (entry : Entry) → new ≡ old ++ entry ∷ [] → entry_name entry ≡ name → IsEntryName name → IsSome (T (p ++ 47 ∷ name)) → entry.is_folder ≡ is_folder (T (p ++ 47 ∷ name)) → list_any (λ e. bytes_eq (entry_name e) name) old ≡ false → AddsEntries T p name old new
lists_more T p name old new entry grown named good there folder none =
    subst (λ (l : List Entry). AddsEntries T p name old l) (sym grown) (record {
      good = λ so_far. record {
        names = All-push (λ e. IsEntryName (entry_name e)) old entry so_far.names (subst IsEntryName (sym named) good);
        there = All-push (IsEntryOf T p) old entry so_far.there (subst (λ (n : List ℕ). IsSome (T (p ++ 47 ∷ n)) × (entry.is_folder ≡ is_folder (T (p ++ 47 ∷ n)))) (sym named) (there, folder));
        once = all_pairs_push (λ e later. entry_name e ≢ entry_name later) old entry so_far.once (λ k d lt is. unlisted old name none k d lt (is ∙ named));
      };
      here = λ some. Any-push (λ e. entry_name e ≡ name) old entry named;
      others = λ other listed_before. still_listed old entry other listed_before;
    })

pub lists_none : (T : Tree) (p : Path) → ListsSome T p []
lists_none T p = record {
  names = λ k d lt. absurd (omega arith);
  there = λ k d lt. absurd (omega arith);
  once = λ i j d lt short. absurd (omega arith);
}

-- what is listed, or put there by the changes from one on
abbrev pub Remains : List Change → ℕ → Tree → Path → List Entry → Type 0
Remains changes i T p entries = (name : List ℕ) → IsEntryName name → IsSome (T (p ++ 47 ∷ name)) → IsListed entries name ⊎ IsChangedPath (drop i changes) (p ++ 47 ∷ name)

-- past a change that puts something into the folder
pub remains_named : (changes : List Change) (i : ℕ) (T : Tree) (p : Path) (old new : List Entry) (change : Change) (name : List ℕ) → i < length changes → change ≡ get_or changes i change → place_of change ≡ p ++ 47 ∷ name → AddsEntries T p name old new → Remains changes i T p old → Remains changes (i + 1) T p new
remains_named changes i T p old new change name lt is at lists so_far other good there =
    ⊎_elim (λ before. inl (lists.others other before))
    (λ later. ⊎_elim
    (λ here. inl (subst (IsListed new) (rest_is p name other (sym at ∙ here)) (lists.here (subst (λ (n : List ℕ). IsSome (T (p ++ 47 ∷ n))) (sym (rest_is p name other (sym at ∙ here))) there))))
    (λ rest. inr rest)
    (placed_next changes i change (p ++ 47 ∷ other) lt is later))
    (so_far other good there)

-- past a change that does not
pub remains_else : (changes : List Change) (i : ℕ) (T : Tree) (p : Path) (entries : List Entry) (change : Change) → i < length changes → change ≡ get_or changes i change → ((name : List ℕ) → IsEntryName name → place_of change ≡ p ++ 47 ∷ name → ⊥) → Remains changes i T p entries → Remains changes (i + 1) T p entries
remains_else changes i T p entries change lt is none so_far other good there =
    ⊎_elim (λ before. inl before)
    (λ later. ⊎_elim (λ here. absurd (none other good here)) (λ rest. inr rest) (placed_next changes i change (p ++ 47 ∷ other) lt is later))
    (so_far other good there)

-- past the last change all is listed
pub all_listed : (changes : List Change) (i : ℕ) (T : Tree) (p : Path) (entries : List Entry) → length changes ≤ i → ListsSome T p entries → Remains changes i T p entries → ListsFolder T p entries
all_listed changes i T p entries le some so_far = record {
  names = some.names;
  there = some.there;
  each = λ name good there. ⊎_elim (λ here. here) (λ later. absurd (subst (λ (l : List Change). IsChangedPath l (p ++ 47 ∷ name)) (drop_all i changes le) later)) (so_far name good there);
  once = some.once;
}
