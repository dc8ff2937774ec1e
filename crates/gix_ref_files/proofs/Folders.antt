-- The folders that lead to a path, where no file is.
use Rattle.std.proofs.Common.{◌≡◌, ℕ, zero, suc, List, [], ◌∷◌, ◌++◌, take, Bool, true, false, Option, Some, None, refl, sym, ◌∙◌, ap, subst, arith}
use Rattle.std.specs.Prelude.{bytes_eq, if◌then◌else◌}
use Rattle.std.specs.List.{list_any}
use Rattle.std.proofs.lemmas.Bool.{or_parts, or_from, false≢true}
use Rattle.gix_ref_files.specs.Tree.{Tree, Path, Content, put, is_file, is_folder, is_blocked, fronts, folders_to, with_folders}
use Rattle.gix_ref_files.specs.Tree.Content.{File, Folder}
use Rattle.gix_ref_files.specs.Disk.{Disk, with_item, a_folder, with_folder_on, with_folders_on}
use Rattle.gix_ref_files.specs.Calls.{is_in_the_way}
use Rattle.gix_ref_files.specs.Settled.{AllStay, IsSettledAt}
use Rattle.gix_ref_files.proofs.Settling.{settled_with_folder, stay_with_folder}
use Rattle.gix_ref_files.proofs.PathFronts.{fronts_snoc}
use Rattle.gix_ref_files.proofs.Puts.{put_same}

pub none_later : (T : Tree) (p : Path) (fs : List Path) → list_any (λ f. is_file (T f)) fs ≡ false → list_any (λ f. is_file (put T p (Some Folder) f)) fs ≡ false
none_later T p [] h = refl
none_later T p (f ∷ fs) h =
    let parts = or_parts (is_file (T f)) (list_any (λ f. is_file (T f)) fs) h in
    or_from (is_file (put T p (Some Folder) f)) (list_any (λ f. is_file (put T p (Some Folder) f)) fs) (by (bytes_eq p f) parts.0) (none_later T p fs parts.1)
  where
    by : (b : Bool) → is_file (T f) ≡ false → is_file (if b then Some Folder else T f) ≡ false
    by true h = refl
    by false h = h

any_append : (test : Path → Bool) (a b : List Path) → list_any test a ≡ false → list_any test b ≡ false → list_any test (a ++ b) ≡ false
any_append test [] b h k = k
any_append test (x ∷ a) b h k =
    let parts = or_parts (test x) (list_any test a) h in or_from (test x) (list_any test (a ++ b)) parts.0 (any_append test a b parts.1 k)

pub any_take : (test : Path → Bool) (n : ℕ) (a : List Path) → list_any test a ≡ false → list_any test (take n a) ≡ false
any_take test zero a h = refl
any_take test (suc n) [] h = refl
any_take test (suc n) (x ∷ a) h =
    let parts = or_parts (test x) (list_any test a) h in or_from (test x) (list_any test (take n a)) parts.0 (any_take test n a parts.1)

pub no_file_to : (T : Tree) (p : Path) → is_in_the_way T p ≡ false → list_any (λ f. is_file (T f)) (folders_to p) ≡ false
no_file_to T [] h = refl
no_file_to T (c ∷ p) h =
    let parts = or_parts (is_file (T (c ∷ p))) (is_blocked T (c ∷ p)) h in
    ap (list_any (λ f. is_file (T f))) (fronts_snoc (c ∷ p) 47 (omega arith))
    ∙ any_append (λ f. is_file (T f)) (fronts (c ∷ p)) ((c ∷ p) ∷ []) parts.1 (or_from (is_file (T (c ∷ p))) false parts.0 refl)

-- the tree with a folder
folder_there : (c : Option Content) → is_folder c ≡ true → Some Folder ≡ c
folder_there (Some (File bytes)) h = absurd (false≢true h)
folder_there (Some Folder) h = refl
folder_there None h = absurd (false≢true h)

pub with_folder_tree : (D : Disk) (p : Path) → (with_folder_on D p).tree ≡ put D.tree p (Some Folder)
with_folder_tree D p = by (is_folder (D.tree p)) refl
  where
    by : (b : Bool) → is_folder (D.tree p) ≡ b → (if b then D else with_item D p a_folder).tree ≡ put D.tree p (Some Folder)
    by true e = sym (put_same D.tree p (Some Folder) (folder_there (D.tree p) e))
    by false e = refl

pub with_folders_tree : (D : Disk) (fs : List Path) → (with_folders_on D fs).tree ≡ with_folders D.tree fs
with_folders_tree D [] = refl
with_folders_tree D (f ∷ fs) = with_folders_tree (with_folder_on D f) fs ∙ ap (λ (T : Tree). with_folders T fs) (with_folder_tree D f)

-- where no file is, none is after a folder that is made
pub no_file_after : (D : Disk) (f : Path) (fs : List Path) → list_any (λ g. is_file (D.tree g)) fs ≡ false → list_any (λ g. is_file ((with_folder_on D f).tree g)) fs ≡ false
no_file_after D f fs none = subst (λ (T : Tree). list_any (λ g. is_file (T g)) fs ≡ false) (sym (with_folder_tree D f)) (none_later D.tree f fs none)

-- folders are made
pub settled_with_folders : (fs : List Path) (D : Disk) (q : Path) (file : Option (List ℕ)) → list_any (λ f. is_file (D.tree f)) fs ≡ false → IsSettledAt D file q → IsSettledAt (with_folders_on D fs) file q
settled_with_folders [] D q file none settled = settled
settled_with_folders (f ∷ fs) D q file none settled =
    let parts = or_parts (is_file (D.tree f)) (list_any (λ g. is_file (D.tree g)) fs) none in
    settled_with_folders fs (with_folder_on D f) q file (no_file_after D f fs parts.1) (settled_with_folder D f q file parts.0 settled)

pub stay_with_folders : (fs : List Path) (D : Disk) (ss : List Path) → AllStay D ss → AllStay (with_folders_on D fs) ss
stay_with_folders [] D ss stay = stay
stay_with_folders (f ∷ fs) D ss stay = stay_with_folders fs (with_folder_on D f) ss (stay_with_folder D f ss stay)
