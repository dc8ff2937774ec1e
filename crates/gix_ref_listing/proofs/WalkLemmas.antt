-- What a walk keeps, and where it goes.
use Rattle.std.proofs.Common.{◌≡◌, ◌⊎◌, inl, inr, ⊎_elim, ℕ, Bool, true, false, cond, List, [], ◌∷◌, ◌++◌, length, refl, sym, ◌∙◌, ap, subst, append_assoc, codes, Some, is_some, ◌||◌, arith, append-nil, ◌<◌, ◌+◌, ◌≢◌, ne_eqb, IsTrue}
use Rattle.gix_ref_files.specs.Files.{FaultCounts, IsMet}
use Rattle.std.specs.List.{All}
use Rattle.std.specs.Map.{lookup}
use Rattle.std.specs.BTreeMap.{insert_entry, is_at}
use Rattle.std.specs.Ordering.{match_ordering, is_eq, nat_cmp}
use Rattle.std.specs.declared.cmp.Ordering.{Ordering}
use Rattle.std.specs.declared.cmp.Ordering.TheVariants.{Less, Equal, Greater}
use Rattle.std.proofs.lemmas.Bool.{cases_eq}
use Rattle.std.proofs.lemmas.List.{get_or_default}
use Rattle.std.proofs.lemmas.List.Elements.{All-cons, All-head, All-tail}
use Rattle.gix_ref_hash.specs.Bytes.{BeginsWith, NoByte, is_slash}
use Rattle.std.proofs.lemmas.List.Folds.{list_any-append}
use Rattle.gix_ref_name.specs.NameGrammar.{IsPartialName, partial_error}
use Rattle.gix_ref_name.specs.Names.{full_bytes}
use Rattle.gix_ref_name.specs.declared.name.FullName.{FullName}
use Rattle.gix_ref_target.proofs.LocationLemmas.{has_slash, no_slash_test, test_no_slash}
use Rattle.gix_ref_name.proofs.PartialNames.{none_or, IsPath, rules_of, first_component, behind_component}
use Rattle.std.specs.Prelude.{Vec, slice_index_or}
use Rattle.std.specs.declared.alloc.Global.{Global}
use Rattle.std.specs.Cmp.Lexicographic.{slice_cmp}
use Rattle.std.proofs.lemmas.Map.Lookups.{exact_bytes}
use Rattle.gix_ref_files.specs.declared.files.Entry.{Entry as ListedEntry}
use Rattle.gix_ref_files.specs.declared.files.FileError.{FileError}
use Rattle.gix_ref_files.specs.declared.files.FileError.TheVariants.{Memory as no_memory}
use Rattle.gix_ref_theory.specs.Views.{View}
use Rattle.gix_ref_listing.specs.Walks.{IsFolderPath, FoundEntry, Holds, IsThereOr, IsFileOrMet, IsFileOfName, StaysFound, IsTaken, IsBelow}
use Rattle.gix_ref_listing.specs.declared.found.Found.{Found}
use Rattle.gix_ref_listing.specs.declared.found.Found.TheVariants.{File, Unlisted}
use Rattle.gix_ref_listing.specs.declared.walk.Root.{Root}
use Rattle.gix_ref_lookup.specs.Lookups.{Among}

module _ {K X : Type 0} (cmp : K → K → Ordering) (P : K × X → Type 0) (k : K) (v : X) where
  stays_by : (e : K × X) (es rest : List (K × X)) (o : Ordering) → (o ≡ Equal → P e → P (e.0, v)) → (Among P es → Among P rest) → Among P (e ∷ es) → Among P (match_ordering o ((k, v) ∷ e ∷ es) ((e.0, v) ∷ es) (e ∷ rest))
  stays_by e es rest Less put later has = inr has
  stays_by e es rest Equal put later has = ⊎_elim (λ here. inl (put refl here)) (λ there. inr there) has
  stays_by e es rest Greater put later has = ⊎_elim (λ here. inl here) (λ there. inr (later there)) has

  -- what has it still has it after an insert, which may put the value at an equal key
  pub among_insert : (es : List (K × X)) → ((e : K × X) → cmp k e.0 ≡ Equal → P e → P (e.0, v)) → Among P es → Among P (insert_entry cmp es k v)
  among_insert [] put has = absurd has
  among_insert (e ∷ es) put has = stays_by e es (insert_entry cmp es k v) (cmp k e.0) (put e) (among_insert es put) has

  new_by : (e : K × X) (es rest : List (K × X)) (o : Ordering) → P (k, v) → (o ≡ Equal → P (e.0, v)) → Among P rest → Among P (match_ordering o ((k, v) ∷ e ∷ es) ((e.0, v) ∷ es) (e ∷ rest))
  new_by e es rest Less new put later = inl new
  new_by e es rest Equal new put later = inl (put refl)
  new_by e es rest Greater new put later = inr later

  -- what is inserted has it
  pub inserted : (es : List (K × X)) → P (k, v) → ((e : K × X) → cmp k e.0 ≡ Equal → P (e.0, v)) → Among P (insert_entry cmp es k v)
  inserted [] new put = inl new
  inserted (e ∷ es) new put = new_by e es (insert_entry cmp es k v) (cmp k e.0) new (put e) (inserted es new put)

  all_by : (e : K × X) (es rest : List (K × X)) (o : Ordering) → P (k, v) → (o ≡ Equal → P (e.0, v)) → All P (e ∷ es) → All P rest → All P (match_ordering o ((k, v) ∷ e ∷ es) ((e.0, v) ∷ es) (e ∷ rest))
  all_by e es rest Less new put all later = All-cons P (k, v) (e ∷ es) new all
  all_by e es rest Equal new put all later = All-cons P (e.0, v) es (put refl) (All-tail P e es all)
  all_by e es rest Greater new put all later = All-cons P e rest (All-head P e es all) later

  -- all have it after an insert
  pub all_insert : (es : List (K × X)) → All P es → P (k, v) → ((e : K × X) → cmp k e.0 ≡ Equal → P (e.0, v)) → All P (insert_entry cmp es k v)
  all_insert [] all new put = All-cons P (k, v) [] new all
  all_insert (e ∷ es) all new put = all_by e es (insert_entry cmp es k v) (cmp k e.0) new (put e) all (all_insert es (All-tail P e es all) new put)

-- a key that is in a map
pub contained : {K X : Type 0} (cmp : K → K → Ordering) (P : K × X → Type 0) (k : K) (es : List (K × X)) → ((e : K × X) → cmp k e.0 ≡ Equal → P e) → is_some (lookup (is_at (cmp k)) es) ≡ true → Among P es
contained cmp P k [] has found = absurd (cc)
contained cmp P k (e ∷ es) has found = by (cmp k e.0) (has e) (contained cmp P k es has) found
  where
    by : (o : Ordering) → (o ≡ Equal → P e) → (is_some (lookup (is_at (cmp k)) es) ≡ true → Among P es) → is_some (cond (is_eq o) (Some e.1) (lookup (is_at (cmp k)) es)) ≡ true → Among P (e ∷ es)
    by Less has later found = inr (later found)
    by Equal has later found = inl (has refl)
    by Greater has later found = inr (later found)

-- among a list and one more
pub among_pushed : {A : Type 0} (P : A → Type 0) (xs : List A) (x : A) → P x → Among P (xs ++ x ∷ [])
among_pushed P [] x has = inl has
among_pushed P (y ∷ xs) x has = inr (among_pushed P xs x has)

pub among_before : {A : Type 0} (P : A → Type 0) (xs ys : List A) → Among P xs → Among P (xs ++ ys)
among_before P [] ys has = absurd has
among_before P (x ∷ xs) ys has = ⊎_elim (λ here. inl here) (λ later. inr (among_before P xs ys later)) has

no_byte_in : (c : List ℕ) (x : ℕ) → NoByte 47 c → (x ≡ 47 → ⊥) → NoByte 47 (c ++ x ∷ [])
no_byte_in c x none other = test_no_slash (c ++ x ∷ []) (list_any-append is_slash c (x ∷ []) ∙ none_or (has_slash c) (is_slash x || false) (no_slash_test c none) (none_or (is_slash x) false (ne_eqb x 47 other) refl))

no_slash_yet : NoByte 47 []
no_slash_yet k below = absurd (omega arith)

slash_free : (c front rest : List ℕ) → NoByte 47 c → IsPath (c ++ (front ++ 47 ∷ rest)) → IsPath rest
slash_free c [] rest none h = (first_component c rest none h).1
slash_free c (x ∷ front) rest none h =
    ⊎_elim (λ slash. slash_free [] front rest no_slash_yet (first_component c (front ++ 47 ∷ rest) none (subst (λ y. IsPath (c ++ y ∷ (front ++ 47 ∷ rest))) slash h)).1)
    (λ other. slash_free (c ++ x ∷ []) front rest (no_byte_in c x none other) (subst IsPath (sym (append_assoc c (x ∷ []) (front ++ 47 ∷ rest))) h))
    (cases_eq x 47)

-- what is after a slash of a path is a path
pub behind_slash : (front rest : List ℕ) → IsPath (front ++ 47 ∷ rest) → IsPath rest
behind_slash front rest h = slash_free [] front rest no_slash_yet h

x_name : IsPartialName (codes "x")
unfolding partial_error
x_name = refl

-- a component of a name, after a folder, may stand before other components
pub leads : (folder c rest : List ℕ) → IsFolderPath folder → NoByte 47 c → IsPartialName (folder ++ (c ++ 47 ∷ rest)) → IsPartialName (c ++ codes "/x")
leads folder c rest path none valid =
    let whole = (rules_of (folder ++ (c ++ 47 ∷ rest)) valid).0 in
    let behind : IsPath (c ++ 47 ∷ rest) =
    ⊎_elim (λ (empty : folder ≡ []). subst (λ f. IsPath (f ++ (c ++ 47 ∷ rest))) empty whole)
    (λ (ends : (front : List ℕ) × (folder ≡ front ++ 47 ∷ [])). behind_slash ends.0 (c ++ 47 ∷ rest)
    (subst IsPath (append_assoc ends.0 (47 ∷ []) (c ++ 47 ∷ rest)) (subst (λ f. IsPath (f ++ (c ++ 47 ∷ rest))) ends.1 whole))) path in
    behind_component c (codes "x") (first_component c rest none behind).0 x_name

-- two fronts of one text: one begins with the other
pub fronts_nest : (a b x y : List ℕ) → a ++ x ≡ b ++ y → BeginsWith a b ⊎ BeginsWith b a
fronts_nest [] b x y e = inr (b, refl)
fronts_nest (u ∷ a) [] x y e = inl (u ∷ a, refl)
fronts_nest (u ∷ a) (w ∷ b) x y e =
    let here : u ≡ w = cc in
    let rest : a ++ x ≡ b ++ y = cc in
    ⊎_elim (λ (l : BeginsWith a b). inl (l.0, ap (λ z. z ∷ a) here ∙ ap (λ t. w ∷ t) l.1)) (λ (r : BeginsWith b a). inr (r.0, ap (λ z. z ∷ b) (sym here) ∙ ap (λ t. u ∷ t) r.1)) (fronts_nest a b x y rest)

-- the order of keys is that of their bytes
abbrev pub key_cmp : Vec ℕ Global → Vec ℕ Global → Ordering
key_cmp a b = slice_cmp nat_cmp a.items b.items

pub same_key : (a b : Vec ℕ Global) → key_cmp a b ≡ Equal → a.items ≡ b.items
same_key a b h = exact_bytes a.items b.items h

-- a folder that could not be listed holds what was found under its key
holds_more : (name : List ℕ) (key : Vec ℕ Global) (found : Found) (path : Vec ℕ Global) (error : FileError) → Holds name (key, found) → Holds name (key, Unlisted path error)
holds_more name key (File n at) path error is = ([], sym is ∙ sym (append-nil key.items))
holds_more name key (Unlisted at other) path error begins = begins

-- and what was found under a key that is the name holds that name
pub holds_key : (name : List ℕ) (key : Vec ℕ Global) (found : Found) → name ≡ key.items → Holds name (key, found)
holds_key name key (File n path) is = sym is
holds_key name key (Unlisted path error) is = ([], is ∙ sym (append-nil key.items))

module _ (es new : List FoundEntry) (key path : Vec ℕ Global) (error : FileError) (is : new ≡ insert_entry key_cmp es key (Unlisted path error)) where
  -- a folder that could not be listed is kept
  pub unlisted_stays : StaysFound es new
  unlisted_stays name had = subst (Among (Holds name)) (sym is) (among_insert key_cmp (Holds name) key (Unlisted path error) es (λ e same held. holds_more name e.0 e.1 path error held) had)

  pub unlisted_holds : (name : List ℕ) → BeginsWith name key.items → Among (Holds name) new
  unlisted_holds name begins = subst (Among (Holds name)) (sym is) (inserted key_cmp (Holds name) key (Unlisted path error) es begins (λ e same. (begins.0, begins.1 ∙ ap (λ k. k ++ begins.0) (same_key key e.0 same))))

  pub unlisted_there : (others : List FoundEntry) (root : Root) (view : View) → All (IsThereOr others root view) es → error ≢ no_memory → path.items ++ 47 ∷ [] ≡ root.path.now ++ key.items → All (IsThereOr others root view) new
  unlisted_there others root view all other at =
      subst (All (IsThereOr others root view)) (sym is)
      (all_insert key_cmp (IsThereOr others root view) key (Unlisted path error) es all (inr (other, at)) (λ e same. inr (other, at ∙ ap (λ k. root.path.now ++ k) (same_key key e.0 same))))

  pub unlisted_met : (before now : FaultCounts) → IsMet error before now → All (IsFileOrMet before now) es → All (IsFileOrMet before now) new
  unlisted_met before now met all = subst (All (IsFileOrMet before now)) (sym is) (all_insert key_cmp (IsFileOrMet before now) key (Unlisted path error) es all met (λ e same. met))

-- a file is found, where nothing was found under its name
module _ (key : Vec ℕ Global) (of : FullName) (path : Vec ℕ Global) where
  absent_step : (name : List ℕ) (e : FoundEntry) (es rest : List FoundEntry) (o : Ordering) → is_some (cond (is_eq o) (Some e.1) (lookup (is_at (key_cmp key)) es)) ≡ false →
      (is_some (lookup (is_at (key_cmp key)) es) ≡ false → Among (Holds name) es → Among (Holds name) rest) → Among (Holds name) (e ∷ es) → Among (Holds name) (match_ordering o ((key, File of path) ∷ e ∷ es) ((e.0, File of path) ∷ es) (e ∷ rest))
  absent_step name e es rest Less absent later had = inr had
  absent_step name e es rest Equal absent later had = absurd (cc)
  absent_step name e es rest Greater absent later had = ⊎_elim (λ here. inl here) (λ there. inr (later absent there)) had

  absent_stays : (name : List ℕ) (es : List FoundEntry) → is_some (lookup (is_at (key_cmp key)) es) ≡ false → Among (Holds name) es → Among (Holds name) (insert_entry key_cmp es key (File of path))
  absent_stays name [] absent had = absurd had
  absent_stays name (e ∷ es) absent had = absent_step name e es (insert_entry key_cmp es key (File of path)) (key_cmp key e.0) absent (absent_stays name es) had

  module _ (es new : List FoundEntry) (is : new ≡ insert_entry key_cmp es key (File of path)) where
    pub file_stays : is_some (lookup (is_at (key_cmp key)) es) ≡ false → StaysFound es new
    file_stays absent name had = subst (Among (Holds name)) (sym is) (absent_stays name es absent had)

    pub file_holds : Among (Holds key.items) new
    file_holds = subst (Among (Holds key.items)) (sym is) (inserted key_cmp (Holds key.items) key (File of path) es refl (λ e same. sym (same_key key e.0 same)))

    pub file_there : (others : List FoundEntry) (root : Root) (view : View) → All (IsThereOr others root view) es → full_bytes of ≡ key.items → IsFileOfName root view key.items path.items → All (IsThereOr others root view) new
    file_there others root view all named there =
        subst (All (IsThereOr others root view)) (sym is)
        (all_insert key_cmp (IsThereOr others root view) key (File of path) es all (inr (named, there)) (λ e same. let k = same_key key e.0 same in inr (named ∙ k, subst (λ n. IsFileOfName root view n path.items) k there)))

    pub file_is_file : (before now : FaultCounts) → All (IsFileOrMet before now) es → All (IsFileOrMet before now) new
    file_is_file before now all = subst (All (IsFileOrMet before now)) (sym is) (all_insert key_cmp (IsFileOrMet before now) key (File of path) es all _ (λ e same. _))

-- and where something was found there, the name is held
pub known_holds : (es : List FoundEntry) (key : Vec ℕ Global) → is_some (lookup (is_at (key_cmp key)) es) ≡ true → Among (Holds key.items) es
known_holds es key found = contained key_cmp (Holds key.items) key es (λ e same. holds_key key.items e.0 e.1 (same_key key e.0 same)) found

pub not_both : (b : Bool) → IsTrue b → b ≡ false → ⊥
not_both b is is_not = let bad : false ≡ true = sym is_not ∙ is in absurd cc

-- what was taken stays taken
pub stays_taken : (root : Root) (folder : List ℕ) (found more : List FoundEntry) (next later : List (Vec ℕ Global)) (entry : ListedEntry) → StaysFound found more → ((name : List ℕ) → IsBelow next name → IsBelow later name) →
    IsTaken root folder found next entry → IsTaken root folder more later entry
stays_taken root folder found more next later entry stays below taken = record {
  file = λ is_file own. stays (folder ++ entry.name.items) (taken.file is_file own);
  leads = λ is_folder none path name own begins. below name (taken.leads is_folder none path name own begins);
}

-- all before a place and the one there
pub one_more : {A : Type 0} (P : A → Type 0) (xs : List A) (i : ℕ) (x : A) → ((k : ℕ) (d : A) → k < i → P (slice_index_or xs k d)) → i < length xs → x ≡ slice_index_or xs i x → P x →
    (k : ℕ) (d : A) → k < i + 1 → P (slice_index_or xs k d)
one_more P xs i x before within at here k d below =
    ⊎_elim (λ (is : k ≡ i). subst (λ j. P (slice_index_or xs j d)) (sym is) (subst P (at ∙ get_or_default xs i x d within) here)) (λ other. before k d (omega arith)) (cases_eq k i)

-- what one of a list is, where all of them are that
pub among_all : {A : Type 0} (P : A → Type 0) (xs : List A) → All P xs → (x : A) → Among (λ y. y ≡ x) xs → P x
among_all P [] all x has = absurd has
among_all P (y ∷ xs) all x has = ⊎_elim (λ here. subst P here (All-head P y xs all)) (λ later. among_all P xs (All-tail P y xs all) x later) has

-- each of a list is among it
pub among_at : {A : Type 0} (xs : List A) (k : ℕ) (d : A) → k < length xs → Among (λ y. y ≡ slice_index_or xs k d) xs
among_at {A} xs k d below = all_among xs (λ x has. has) k d below
  where
    all_among : (ys : List A) → ((x : A) → Among (λ y. y ≡ x) ys → Among (λ y. y ≡ x) xs) → All (λ x. Among (λ y. y ≡ x) xs) ys
    all_among [] keep = λ i e under. absurd (omega arith)
    all_among (y ∷ ys) keep = All-cons (λ x. Among (λ z. z ≡ x) xs) y ys (keep y (inl refl)) (all_among ys (λ x has. keep x (inr has)))
