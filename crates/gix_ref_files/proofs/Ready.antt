-- After a step folders lead to its path, and a file is there where its bytes grew: so its syncs find what they name.
use Rattle.std.proofs.Common.{◌≡◌, ◌≢◌, inl, inr, ℕ, zero, suc, ◌<◌, ◌≤◌, List, [], ◌∷◌, ◌++◌, length, take, get_or, Bool, true, false, Option, Some, None, refl, sym, ◌∙◌, ap, subst, arith, append_assoc, append-nil}
use Rattle.std.specs.Prelude.{if◌then◌else◌, ◌==◌, is_some}
use Rattle.std.specs.List.{list_all}
use Rattle.std.proofs.lemmas.Bool.{false≢true, true≢false}
use Rattle.gix_ref_files.specs.Tree.{Tree, Path, Content, appended, more, is_file, is_folder, has_folders, fronts, fronts_after, IsShaped}
use Rattle.gix_ref_files.specs.Tree.Content.{File, Folder}
use Rattle.gix_ref_files.specs.Disk.{folder_of}
use Rattle.gix_ref_files.specs.Calls.{created, Creates, Appends, RemovesFile}
use Rattle.gix_ref_files.specs.Steps.{Does}
use Rattle.gix_ref_files.specs.Steps.Step.{Line}
use Rattle.gix_ref_files.specs.DiskSteps.{CanSync}
use Rattle.gix_ref_files.specs.declared.files.Create.TheVariants.{Made}
use Rattle.gix_ref_files.proofs.Changes.{file_no_folder}
use Rattle.gix_ref_files.proofs.Puts.{put_at, folders_kept}
use Rattle.gix_ref_files.proofs.FolderOf.{fronts_of_folder}
use Rattle.gix_ref_files.proofs.Settling.{both_true, all_snoc}

-- what holds of all fronts holds of the front at a slash
at_slash : (P : Path → Bool) (seen xs : List ℕ) (k : ℕ) → k < length xs → get_or xs k 0 ≡ 47 → list_all P (fronts_after seen xs) ≡ true → P (seen ++ take k xs) ≡ true
at_slash P seen [] k lt slash all = absurd (omega (arith, lt))
at_slash P seen (c ∷ rest) zero lt slash all = by (c == 47) (ap (λ (b : ℕ). b == 47) slash) all
  where
    by : (b : Bool) → b ≡ true → list_all P (if b then seen ∷ fronts_after (seen ++ c ∷ []) rest else fronts_after (seen ++ c ∷ []) rest) ≡ true → P (seen ++ []) ≡ true
    by true e h = ap P (append-nil seen) ∙ (both_true (P seen) (list_all P (fronts_after (seen ++ c ∷ []) rest)) h).0
    by false e h = absurd (false≢true e)
at_slash P seen (c ∷ rest) (suc k) lt slash all =
    ap P (sym (append_assoc seen (c ∷ []) (take k rest))) ∙ at_slash P (seen ++ c ∷ []) rest k (omega (arith, lt)) slash (by (c == 47) all)
  where
    by : (b : Bool) → list_all P (if b then seen ∷ fronts_after (seen ++ c ∷ []) rest else fronts_after (seen ++ c ∷ []) rest) ≡ true → list_all P (fronts_after (seen ++ c ∷ []) rest) ≡ true
    by true h = (both_true (P seen) (list_all P (fronts_after (seen ++ c ∷ []) rest)) h).1
    by false h = h

pub front_is_folder : (T : Tree) (p : Path) (k : ℕ) → 1 ≤ k → k < length p → get_or p k 0 ≡ 47 → has_folders T p ≡ true → is_folder (T (take k p)) ≡ true
front_is_folder T [] k some lt slash all = absurd (omega (arith, lt))
front_is_folder T (b ∷ p) zero some lt slash all = absurd (omega (arith, some))
front_is_folder T (b ∷ p) (suc k) some lt slash all = at_slash (λ f. is_folder (T f)) (b ∷ []) p k (omega (arith, lt)) slash all

-- and so is the path's own folder
pub own_is_folder : (T : Tree) (p : Path) → folder_of p ≢ [] → has_folders T p ≡ true → is_folder (T (folder_of p)) ≡ true
own_is_folder T p some all =
    (all_snoc (λ g. is_folder (T g)) (fronts (folder_of p)) (folder_of p) (ap (list_all (λ g. is_folder (T g))) (sym (fronts_of_folder p some)) ∙ all)).1

no_file : false ≡ true → (T : Tree) (p : Path) → is_file (T p) ≡ true
no_file e T p = absurd (false≢true e)

pub file_grown : (content : Option Content) (bytes : List ℕ) → is_file content ≡ true → is_file (more content bytes) ≡ true
file_grown (Some (File old)) bytes h = refl
file_grown (Some Folder) bytes h = h
file_grown None bytes h = h

there : (content : Option Content) → is_file content ≡ true → is_some content ≡ true
there (Some content) h = refl
there None h = h

grown : (before T : Tree) (p : Path) (bytes : List ℕ) → is_file (before p) ≡ true → has_folders before p ≡ true → T ≡ appended before p bytes → CanSync true T p
grown before T p bytes file folders is = (
  subst (λ (S : Tree). has_folders S p ≡ true) (sym is) (folders_kept before p (more (before p) bytes) (file_no_folder (before p) file) p folders),
  λ e. ap (λ (S : Tree). is_file (S p)) is ∙ (ap is_file (put_at before p (more (before p) bytes)) ∙ file_grown (before p) bytes file),
)

pub ready_appended : (before T : Tree) (p : Path) (bytes : List ℕ) → IsShaped before → Appends before p bytes T true → CanSync true T p
ready_appended before T p bytes shaped done = grown before T p bytes done.0 (shaped p (there (before p) done.0)) done.1

pub ready_line : (before T : Tree) (p : Path) (bytes : List ℕ) → IsShaped before → Does (Line p bytes) before T → CanSync true T p
ready_line before T p bytes shaped (inl done) = ready_appended before T p bytes shaped done
ready_line before T p bytes shaped (inr (free, is)) =
    grown (created before p) T p bytes (ap is_file (put_at before p (Some (File [])))) (folders_kept before p (Some (File [])) (ap is_folder free.0) p free.1) is

pub ready_removed : (before T : Tree) (p : Path) → IsShaped before → RemovesFile before p T true → CanSync false T p
ready_removed before T p shaped done = (
  subst (λ (S : Tree). has_folders S p ≡ true) (sym done.1) (folders_kept before p None (file_no_folder (before p) done.0) p (shaped p (there (before p) done.0))),
  λ e. no_file e T p,
)

-- a file that was just made can be appended to
pub made_appends : (before mid T : Tree) (p : Path) (bytes : List ℕ) (done : Bool) → Creates before p mid Made → Appends mid p bytes T done → done ≡ true
made_appends before mid T p bytes true made done = refl
made_appends before mid T p bytes false made done =
    absurd (true≢false (sym (ap (λ (S : Tree). is_file (S p)) made.1 ∙ ap is_file (put_at before p (Some (File [])))) ∙ done.0))
