-- One path changed.
use Rattle.std.proofs.Common.{◌≡◌, ◌≢◌, ℕ, List, [], ◌∷◌, ◌++◌, Bool, true, false, Option, Some, None, refl, sym, ◌∙◌, ap, subst, append_assoc}
use Rattle.std.specs.Prelude.{bytes_eq, if◌then◌else◌, is_some, ◌&&◌, ◌==◌}
use Rattle.std.specs.List.{list_all}
use Rattle.std.proofs.lemmas.Slice.Eq.{bytes_eq-Decides}
use Rattle.std.proofs.lemmas.Bool.{eqb-true}
use Rattle.std.proofs.lemmas.List.{append-nil}
use Rattle.gix_ref_files.specs.Tree.{Tree, Content, Path, put, appended, more, moved, removed, fronts, fronts_after, has_folders, is_file, is_folder, IsShaped, IsEmptyFolder}
use Rattle.gix_ref_files.specs.Tree.Content.{File, Folder}

-- trees that agree at each path are one
pub same_tree : {S T : Tree} → ((q : Path) → S q ≡ T q) → S ≡ T
same_tree agree = λ i q. agree q i

abbrev cases : (p q : Path) (a b : Option Content) (r : Option Content) → Type 0
cases p q a b r = (bytes_eq p q ≡ true → a ≡ r) → (bytes_eq p q ≡ false → b ≡ r) → (if bytes_eq p q then a else b) ≡ r

by_cases : (p q : Path) (a b r : Option Content) → cases p q a b r
by_cases p q a b r there elsewhere =
    elim (bytes_eq p q) as (λ v. (v ≡ true → a ≡ r) → (v ≡ false → b ≡ r) → (if v then a else b) ≡ r) [ true ↦ λ x y. x refl | false ↦ λ x y. y refl ] there elsewhere

-- to put at p what is there already changes nothing
pub put_same : (T : Tree) (p : Path) (node : Option Content) → node ≡ T p → put T p node ≡ T
put_same T p node is = same_tree (λ q. by_cases p q node (T q) (T q) (λ eq. is ∙ ap T ((bytes_eq-Decides p q).0 eq)) (λ ne. refl))

more_none : (node : Option Content) → more node [] ≡ node
more_none (Some (File old)) = ap (λ (b : List ℕ). Some (File b)) (append-nil old)
more_none (Some Folder) = refl
more_none None = refl

pub appended_none : (T : Tree) (p : Path) → appended T p [] ≡ T
appended_none T p = put_same T p (more (T p) []) (more_none (T p))

true_is_false : true ≡ false → ⊥
true_is_false e = cc

pub put_at : (T : Tree) (p : Path) (node : Option Content) → put T p node p ≡ node
put_at T p node = by_cases p p node (T p) node (λ eq. refl) (λ ne. absurd (true_is_false (sym ((bytes_eq-Decides p p).1 refl) ∙ ne)))

pub put_other : (T : Tree) (p q : Path) (node : Option Content) → p ≢ q → put T p node q ≡ T q
put_other T p q node other = by_cases p q node (T q) (T q) (λ eq. absurd (other ((bytes_eq-Decides p q).0 eq))) (λ ne. refl)

pub moved_to : (T : Tree) (from to : Path) → moved T from to to ≡ T from
moved_to T from to = put_at (put T from None) to (T from)

pub moved_other : (T : Tree) (from to q : Path) → from ≢ q → to ≢ q → moved T from to q ≡ T q
moved_other T from to q not_from not_to = put_other (put T from None) to q (T from) not_to ∙ put_other T from q None not_from

pub all_kept : (P Q : Path → Bool) → ((f : Path) → P f ≡ true → Q f ≡ true) → (fs : List Path) → list_all P fs ≡ true → list_all Q fs ≡ true
all_kept P Q keeps [] all = refl
all_kept P Q keeps (f ∷ fs) all =
    let parts = both_true (P f) (list_all P fs) all in
    ap (λ b. b && list_all Q fs) (keeps f parts.0) ∙ all_kept P Q keeps fs parts.1
  where
    both_true : (a b : Bool) → (a && b) ≡ true → (a ≡ true) × (b ≡ true)
    both_true true b h = (refl, h)
    both_true false b h = absurd (cc h)

-- where one path that was no folder changed, what was below folders still is
pub folders_kept : (T : Tree) (p : Path) (node : Option Content) → is_folder (T p) ≡ false → (q : Path) → has_folders T q ≡ true → has_folders (put T p node) q ≡ true
folders_kept T p node no_folder q = all_kept (λ f. is_folder (T f)) (λ f. is_folder (put T p node f)) folder_kept (fronts q)
  where
    folder_kept : (f : Path) → is_folder (T f) ≡ true → is_folder (put T p node f) ≡ true
    folder_kept f folder = ap is_folder (put_other T p f node (λ e. true_is_false (sym folder ∙ ap (λ (x : Path). is_folder (T x)) (sym e) ∙ no_folder))) ∙ folder

pub shaped_put : (T : Tree) (p : Path) (node : Option Content) → IsShaped T → is_folder (T p) ≡ false → (is_some node ≡ true → has_folders T p ≡ true) → IsShaped (put T p node)
shaped_put T p node shape no_folder below q there = folders_kept T p node no_folder q (by_path (bytes_eq p q) refl)
  where
    by_path : (b : Bool) → bytes_eq p q ≡ b → has_folders T q ≡ true
    by_path true eq = let same : p ≡ q = (bytes_eq-Decides p q).0 eq in
        subst (λ (x : Path). has_folders T x ≡ true) same (below (sym (ap is_some (subst (λ (x : Path). put T p node x ≡ node) same (put_at T p node))) ∙ there))
    by_path false ne = shape q (sym (ap is_some (put_other T p q node (λ e. true_is_false (sym ((bytes_eq-Decides p q).1 e) ∙ ne)))) ∙ there)

file_is_no_folder : (n : Option Content) → is_file n ≡ true → is_folder n ≡ false
file_is_no_folder (Some (File bytes)) h = refl
file_is_no_folder (Some Folder) h = sym h
file_is_no_folder None h = refl

-- a file gone or with other bytes
pub shaped_file : (T : Tree) (p : Path) (node : Option Content) → IsShaped T → is_file (T p) ≡ true → IsShaped (put T p node)
shaped_file T p node shape a_file = shaped_put T p node shape (file_is_no_folder (T p) a_file) (λ some. shape p (there (T p) a_file))
  where
    there : (n : Option Content) → is_file n ≡ true → is_some n ≡ true
    there (Some (File bytes)) h = refl
    there (Some Folder) h = refl
    there None h = h

-- a file moved
pub shaped_moved : (T : Tree) (from to : Path) → IsShaped T → is_file (T from) ≡ true → is_folder (T to) ≡ false → has_folders T to ≡ true → IsShaped (moved T from to)
shaped_moved T from to shape a_file no_folder below =
    shaped_put (put T from None) to (T from) (shaped_file T from None shape a_file) (by_path (bytes_eq from to)) (λ some. folders_kept T from None (file_is_no_folder (T from) a_file) to below)
  where
    by_path : (b : Bool) → is_folder (if b then None else T to) ≡ false
    by_path true = refl
    by_path false = no_folder

-- what holds of the fronts of q, each of which q lies below, holds of them in another way
pub fronts_kept : (P Q : Path → Bool) (q : Path) → ((f : Path) (rest : List ℕ) → q ≡ f ++ 47 ∷ rest → P f ≡ true → Q f ≡ true) → list_all P (fronts q) ≡ true → list_all Q (fronts q) ≡ true
fronts_kept P Q [] keeps all = refl
fronts_kept P Q (b ∷ q) keeps all = after_kept (b ∷ []) q keeps all
  where
    both_true : (a b : Bool) → (a && b) ≡ true → (a ≡ true) × (b ≡ true)
    both_true true b h = (refl, h)
    both_true false b h = absurd (cc)

    after_kept : (seen : Path) (xs : List ℕ) → ((f : Path) (rest : List ℕ) → seen ++ xs ≡ f ++ 47 ∷ rest → P f ≡ true → Q f ≡ true) → list_all P (fronts_after seen xs) ≡ true → list_all Q (fronts_after seen xs) ≡ true
    after_kept seen [] on every = refl
    after_kept seen (c ∷ rest) on every = by_byte (c == 47) refl every (after_kept (seen ++ c ∷ []) rest (λ f more is. on f more (sym (append_assoc seen (c ∷ []) rest) ∙ is)))
      where
        by_byte : (slash : Bool) → (c == 47) ≡ slash → list_all P (if slash then seen ∷ fronts_after (seen ++ c ∷ []) rest else fronts_after (seen ++ c ∷ []) rest) ≡ true → (list_all P (fronts_after (seen ++ c ∷ []) rest) ≡ true → list_all Q (fronts_after (seen ++ c ∷ []) rest) ≡ true) → list_all Q (if slash then seen ∷ fronts_after (seen ++ c ∷ []) rest else fronts_after (seen ++ c ∷ []) rest) ≡ true
        by_byte true is each later =
            let parts = both_true (P seen) (list_all P (fronts_after (seen ++ c ∷ []) rest)) each in
            ap (λ b. b && list_all Q (fronts_after (seen ++ c ∷ []) rest)) (on seen rest (ap (λ (b : ℕ). seen ++ b ∷ rest) (eqb-true c 47 is)) parts.0) ∙ later parts.1
        by_byte false is each later = later each

-- an empty folder gone
pub shaped_empty : (T : Tree) (p : Path) → IsShaped T → IsEmptyFolder T p → IsShaped (removed T p)
shaped_empty T p shape empty q there = by_path (bytes_eq p q) refl
  where
    clash : true ≡ false → ⊥
    clash e = cc

    stands : bytes_eq p q ≡ false → is_some (T q) ≡ true
    stands ne = sym (ap is_some (put_other T p q None (λ e. clash (sym ((bytes_eq-Decides p q).1 e) ∙ ne)))) ∙ there

    nothing : is_some (removed T p p) ≡ false
    nothing = ap is_some (put_at T p None)

    by_path : (same : Bool) → bytes_eq p q ≡ same → has_folders (removed T p) q ≡ true
    by_path true eq = let same : p ≡ q = (bytes_eq-Decides p q).0 eq in
        absurd (clash (sym there ∙ ap (λ (x : Path). is_some (removed T p x)) (sym same) ∙ nothing))
    by_path false ne =
        fronts_kept (λ f. is_folder (T f)) (λ f. is_folder (removed T p f)) q
        (λ f rest is folder. ap is_folder (put_other T p f None (λ e. clash (sym (stands ne) ∙ ap is_some (ap T (is ∙ ap (λ (x : Path). x ++ 47 ∷ rest) (sym e)) ∙ empty.1 rest)))) ∙ folder)
        (shape q (stands ne))
