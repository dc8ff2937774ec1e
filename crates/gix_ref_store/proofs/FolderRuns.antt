-- Which folders a commit removes, from its steps, the removals before each, and the removals above what it deleted.
use Rattle.std.proofs.Common.{◌≡◌, ◌⊎◌, inl, inr, ⊎_elim, ℕ, suc, ◌+◌, List, [], ◌∷◌, ◌++◌, true, false, Option, Some, None, map, refl, sym, ◌∙◌, ap, subst, arith, take}
use Rattle.std.specs.Prelude.{bytes_eq}
use Rattle.std.specs.List.{All, flat_map}
use Rattle.gix_ref_files.specs.Lock.{lock_of}
use Rattle.gix_ref_files.specs.Settled.{IsIn}
use Rattle.gix_ref_files.specs.Steps.{Step, Begins, Does, IsLeftBy}
use Rattle.gix_ref_files.specs.Steps.Step.{Create, Append as AppendStep, Line, Rename, RemoveFile, MakeFolders, RemoveFolder, End}
use Rattle.gix_ref_files.specs.Tree.{Tree, Path, Content, appended, folders_to, is_file, is_folder, more, put, removed, with_folders}
use Rattle.gix_ref_files.specs.Tree.Content.{File, Folder}
use Rattle.gix_ref_files.proofs.Puts.{put_at, put_other}
use Rattle.gix_ref_lookup.specs.declared.folders.Dirs.{Dirs}
use Rattle.gix_ref_packed_text.specs.declared.outcome.Rewrite.{Rewrite}
use Rattle.gix_ref_packed_text.specs.declared.outcome.Rewrite.TheVariants.{Unchanged, Removed, Text}
use Rattle.gix_ref_theory.specs.Edits as plan
use Rattle.gix_ref_theory.specs.Readings as readings
use Rattle.gix_ref_edits.specs.RefEdits.{name_of}
use Rattle.gix_ref_transaction.specs.CarriedEdits.{change_of}
use Rattle.gix_ref_transaction.specs.OwnLocks.{RemovesLocks}
use Rattle.gix_ref_transaction.specs.PrepareSteps.{AreEmpty, packed_places, updates}
use Rattle.gix_ref_transaction.specs.declared.edit.Edit.{Edit}
use Rattle.gix_ref_transaction.specs.declared.edit.Effect.{Effect}
use Rattle.gix_ref_transaction.specs.declared.edit.Effect.TheVariants as effects
use Rattle.gix_ref_transaction.specs.declared.edit.LogEffect.{LogEffect}
use Rattle.gix_ref_transaction.specs.declared.edit.LogEffect.TheVariants as logs
use Rattle.gix_ref_transaction.proofs.Adds.{clash, either_way, in_here, is_same_path, same_path}
use Rattle.gix_ref_reflog.specs.AskedEdits.{all_but_logs, but_log, outcome_of, outcomes_of}
use Rattle.gix_ref_reflog.specs.DueLines.{LogOutcome}
use Rattle.gix_ref_commit.specs.Cleared.{AllInWay, AreInWayOf, FoldersGo, IsAbove, IsAtOrBelow, all_removed, cleared, is_seen, removals, removed_file, removed_log, roots_of, written_at}
use Rattle.gix_ref_commit.specs.Decided.{FillsPacked}
use Rattle.gix_ref_commit.proofs.LogFolders.{folders_either}
use Rattle.gix_ref_commit.specs.Entries.{Entry, bare, bare_steps, each, folders_entry, folders_for, line_for, log_removal_entry, log_removal_for, packed_entries, planned_entries, removal_entry, removal_for, rename_for, update_entries}
use Rattle.gix_ref_commit.specs.LogEffects.{AreLogsOf, IsLogOf}
use Rattle.gix_ref_commit.specs.declared.plan.About.{About}
use Rattle.gix_ref_transaction.proofs.EditsApart.{heads}
use Rattle.gix_ref_store.specs.CommittedFolders.{FoldersStay, IsInOneOf, deleted_by, lined_by, log_of_deletion, written_by, written_file}

-- A folder is there after a step, unless that removes it.

-- no file is where a folder is
no_file : (S : Tree) (p q : Path) → S q ≡ Some Folder → is_file (S p) ≡ true → p ≡ q → ⊥
no_file S p q folder file same = clash file (ap is_file (ap S same ∙ folder))

no_folder : (S : Tree) (p q : Path) → S q ≡ Some Folder → is_folder (S p) ≡ false → p ≡ q → ⊥
no_folder S p q folder none same = clash (ap is_folder (ap S same ∙ folder)) none

nothing : (S : Tree) (p q : Path) → S q ≡ Some Folder → S p ≡ None → p ≡ q → ⊥
nothing S p q folder none same = differ (sym none ∙ (ap S same ∙ folder))
  where
    differ : None ≡ Some Folder → ⊥
    differ e = cc

put_beside : (S : Tree) (p q : Path) (node : Option Content) → S q ≡ Some Folder → (p ≡ q → ⊥) → put S p node q ≡ Some Folder
put_beside S p q node folder other = put_other S p q node other ∙ folder

with_more : (S : Tree) (folders : List Path) (q : Path) → S q ≡ Some Folder → with_folders S folders q ≡ Some Folder
with_more S [] q folder = folder
with_more S (p ∷ ps) q folder = with_more (put S p (Some Folder)) ps q (either_way (bytes_eq p q)
    (λ same. subst (λ (r : Path). put S p (Some Folder) r ≡ Some Folder) (same_path p q same) (put_at S p (Some Folder)))
    (λ other. put_beside S p q (Some Folder) folder (λ e. clash (is_same_path p q e) other)))

appended_beside : (S : Tree) (p q : Path) (bytes : List ℕ) → S q ≡ Some Folder → is_file (S p) ≡ true → appended S p bytes q ≡ Some Folder
appended_beside S p q bytes folder file = put_beside S p q (more (S p) bytes) folder (λ e. no_file S p q folder file e)

goes : (S T : Tree) (p q : Path) → S q ≡ Some Folder → T ≡ removed S p → (T q ≡ Some Folder) ⊎ (p ≡ q)
goes S T p q folder is = either_way (bytes_eq p q)
    (λ same. inr (same_path p q same))
    (λ other. inl (ap (λ (R : Tree). R q) is ∙ put_beside S p q None folder (λ e. clash (is_same_path p q e) other)))

pub stays : (step : Step) (S T : Tree) (q : Path) → S q ≡ Some Folder → Does step S T → (T q ≡ Some Folder) ⊎ (step ≡ RemoveFolder q)
stays (Create p) S T q folder (free, is) = inl (ap (λ (R : Tree). R q) is ∙ put_beside S p q (Some (File [])) folder (λ e. nothing S p q folder free.0 e))
stays (AppendStep p bytes) S T q folder (file, is) = inl (ap (λ (R : Tree). R q) is ∙ appended_beside S p q bytes folder file)
stays (Line p bytes) S T q folder (inl (file, is)) = inl (ap (λ (R : Tree). R q) is ∙ appended_beside S p q bytes folder file)
stays (Line p bytes) S T q folder (inr (free, is)) =
    let made = put_beside S p q (Some (File [])) folder (λ e. nothing S p q folder free.0 e) in
    inl (ap (λ (R : Tree). R q) is ∙ appended_beside (put S p (Some (File []))) p q bytes made (ap is_file (put_at S p (Some (File [])))))
stays (Rename from to) S T q folder (movable, is) =
    inl (ap (λ (R : Tree). R q) is
    ∙ put_beside (put S from None) to q (S from) (put_beside S from q None folder (λ e. no_file S from q folder movable.0 e)) (λ e. no_folder S to q folder movable.1 e))
stays (RemoveFile p) S T q folder (inl (file, is)) = inl (ap (λ (R : Tree). R q) is ∙ put_beside S p q None folder (λ e. no_file S p q folder file e))
stays (RemoveFile p) S T q folder (inr (none, is)) = inl (ap (λ (R : Tree). R q) is ∙ folder)
stays (MakeFolders p) S T q folder (free, is) = inl (ap (λ (R : Tree). R q) is ∙ with_more S (folders_to p) q folder)
stays (RemoveFolder p) S T q folder (inl (empty, is)) = ⊎_elim (λ still. inl still) (λ same. inr (ap RemoveFolder same)) (goes S T p q folder is)
stays (RemoveFolder p) S T q folder (inr (full, is)) = inl (ap (λ (R : Tree). R q) is ∙ folder)
stays End S T q folder does = absurd does

-- and after one that is begun
appended_still : (S : Tree) (p q : Path) (bytes : List ℕ) → S q ≡ Some Folder → appended S p bytes q ≡ Some Folder
appended_still S p q bytes folder = either_way (bytes_eq p q)
    (λ same.
    let e = same_path p q same in
    subst (λ (r : Path). appended S p bytes r ≡ Some Folder) e (put_at S p (more (S p) bytes) ∙ ap (λ (c : Option Content). more c bytes) (ap S e ∙ folder)))
    (λ other. put_beside S p q (more (S p) bytes) folder (λ e. clash (is_same_path p q e) other))

pub begun_stays : (step : Step) (S T : Tree) (q : Path) → S q ≡ Some Folder → Begins step S T → (T q ≡ Some Folder) ⊎ (step ≡ RemoveFolder q)
begun_stays (Create p) S T q folder (inl is) = inl (ap (λ (R : Tree). R q) is ∙ folder)
begun_stays (Create p) S T q folder (inr does) = stays (Create p) S T q folder does
begun_stays (AppendStep p bytes) S T q folder (n, is) = inl (ap (λ (R : Tree). R q) is ∙ appended_still S p q (take n bytes) folder)
begun_stays (Line p bytes) S T q folder (inl (n, is)) = inl (ap (λ (R : Tree). R q) is ∙ appended_still S p q (take n bytes) folder)
begun_stays (Line p bytes) S T q folder (inr (free, inl is)) = inl (ap (λ (R : Tree). R q) is ∙ put_beside S p q (Some (File [])) folder (λ e. nothing S p q folder free.0 e))
begun_stays (Line p bytes) S T q folder (inr (free, inr (n, is))) =
    inl (ap (λ (R : Tree). R q) is ∙ appended_still (put S p (Some (File []))) p q (take n bytes) (put_beside S p q (Some (File [])) folder (λ e. nothing S p q folder free.0 e)))
begun_stays (Rename from to) S T q folder (inl is) = inl (ap (λ (R : Tree). R q) is ∙ folder)
begun_stays (Rename from to) S T q folder (inr does) = stays (Rename from to) S T q folder does
begun_stays (RemoveFile p) S T q folder (inl is) = inl (ap (λ (R : Tree). R q) is ∙ folder)
begun_stays (RemoveFile p) S T q folder (inr gone) = stays (RemoveFile p) S T q folder (inl gone)
begun_stays (MakeFolders p) S T q folder (inl is) = inl (ap (λ (R : Tree). R q) is ∙ folder)
begun_stays (MakeFolders p) S T q folder (inr (free, (n, is))) = inl (ap (λ (R : Tree). R q) is ∙ with_more S (take n (folders_to p)) q folder)
begun_stays (RemoveFolder p) S T q folder (inl is) = inl (ap (λ (R : Tree). R q) is ∙ folder)
begun_stays (RemoveFolder p) S T q folder (inr gone) = stays (RemoveFolder p) S T q folder (inl gone)
begun_stays End S T q folder is = inl (ap (λ (R : Tree). R q) is ∙ folder)

-- A plan whose steps write at paths of which W holds, and remove no folder.
module _ (W : Path → Type 0) where
  pub record IsPlainStep (step : Step) : Type 0 where
    pub writes : (path : Path) → written_at step ≡ Some path → W path
    pub keeps : (q : Path) → step ≡ RemoveFolder q → ⊥

  abbrev pub ArePlainSteps : List Entry → Type 0
  ArePlainSteps [] = Unit {0}
  ArePlainSteps (e ∷ es) = IsPlainStep (bare e.0) × ArePlainSteps es

  both : (a b : List Entry) → ArePlainSteps a → ArePlainSteps b → ArePlainSteps (a ++ b)
  both [] b first second = second
  both (e ∷ a) b first second = (first.0, both a b first.1 second)

  none_writes : {path : Path} → None ≡ Some path → W path
  none_writes {path} e = absurd (differ e)
    where
      differ : None ≡ Some path → ⊥
      differ h = cc

  one_writes : {p path : Path} → W p → Some p ≡ Some path → W path
  one_writes {p} {path} w e = subst W (inner e) w
    where
      inner : Some p ≡ Some path → p ≡ path
      inner h = cc

  -- a log that gains a line is one of them
  abbrev pub IsLined : LogEffect → Type 0
  IsLined logs.Keep = Unit {0}
  IsLined (logs.Remove log) = Unit {0}
  IsLined (logs.Append log line) = W log.items

  folders_plain : (at : ℕ) (l : LogEffect) → ArePlainSteps (folders_for at l)
  folders_plain at logs.Keep = tt
  folders_plain at (logs.Remove log) = tt
  folders_plain at (logs.Append log line) = (record { writes = λ path e. none_writes e; keeps = λ q e. cc }, tt)

  folders_entry_plain : (at : ℕ) (e : Edit) → ArePlainSteps (folders_entry at e)
  folders_entry_plain at e = folders_either ArePlainSteps at e tt (folders_plain at e.log)

  line_plain : (dirs : Dirs) (at : ℕ) (l : LogEffect) → IsLined l → ArePlainSteps (line_for dirs at l)
  line_plain dirs at logs.Keep w = tt
  line_plain dirs at (logs.Remove log) w = tt
  line_plain dirs at (logs.Append log line) w = (record { writes = λ path e. one_writes w e; keeps = λ q e. cc }, tt)

  -- and so is a place whose loose file is written
  abbrev pub IsPlaced : Path → Effect → Type 0
  IsPlaced place effects.Write = W place
  IsPlaced place effects.Remove = Unit {0}
  IsPlaced place effects.Keep = Unit {0}

  rename_plain : (dirs : Dirs) (at : ℕ) (place : Path) (effect : Effect) → IsPlaced place effect → ArePlainSteps (rename_for dirs at place effect)
  rename_plain dirs at place effects.Write w = (record { writes = λ path e. one_writes w e; keeps = λ q e. cc }, tt)
  rename_plain dirs at place effects.Remove w = tt
  rename_plain dirs at place effects.Keep w = tt

  log_removal_plain : (dirs : Dirs) (at : ℕ) (l : LogEffect) → ArePlainSteps (log_removal_for at l)
  log_removal_plain dirs at (logs.Remove log) = (record { writes = λ path e. none_writes e; keeps = λ q e. cc }, tt)
  log_removal_plain dirs at logs.Keep = tt
  log_removal_plain dirs at (logs.Append log line) = tt

  removal_plain : (dirs : Dirs) (at : ℕ) (place : Path) (effect : Effect) → ArePlainSteps (removal_for at place effect)
  removal_plain dirs at place effects.Remove = (record { writes = λ path e. none_writes e; keeps = λ q e. cc }, tt)
  removal_plain dirs at place effects.Write = tt
  removal_plain dirs at place effects.Keep = tt

  packed_plain : (dirs : Dirs) (packed : Option Path) (rewrite : Rewrite) → ((path : Path) → packed ≡ Some path → W path) → ArePlainSteps (packed_entries dirs packed rewrite)
  packed_plain dirs None rewrite w = tt
  packed_plain dirs (Some path) Unchanged w = tt
  packed_plain dirs (Some path) Removed w = (record { writes = λ path e. none_writes e; keeps = λ q e. cc }, tt)
  packed_plain dirs (Some path) (Text text) w = (record { writes = λ other e. one_writes (w path refl) e; keeps = λ q e. cc }, tt)

  -- of each edit the place that is written is one of them, and so is the log that gains a line
  abbrev pub AreWritten : List Edit → Type 0
  AreWritten [] = Unit {0}
  AreWritten (e ∷ edits) = (IsPlaced e.lock e.effect × IsLined e.log) × AreWritten edits

  each_plain : (f : ℕ → Edit → List Entry) → ((at : ℕ) (e : Edit) → IsPlaced e.lock e.effect × IsLined e.log → ArePlainSteps (f at e)) →
      (at : ℕ) (edits : List Edit) → AreWritten edits → ArePlainSteps (each f at edits)
  each_plain f one at [] w = tt
  each_plain f one at (e ∷ edits) w = both (f at e) (each f (at + 1) edits) (one at e w.0) (each_plain f one (at + 1) edits w.1)

  pub plan_plain : (dirs : Dirs) (edits : List Edit) (packed : Option Path) (rewrite : Rewrite) → AreWritten edits → ((path : Path) → packed ≡ Some path → W path) →
      ArePlainSteps (planned_entries dirs edits packed rewrite)
  plan_plain dirs edits packed rewrite w at_packed = both _ _
      (each_plain (update_entries dirs) (λ at e w. both _ _ (folders_entry_plain at e) (both _ _ (line_plain dirs at e.log w.1) (rename_plain dirs at e.lock e.effect w.0))) 0 edits w)
      (both _ _ (each_plain log_removal_entry (λ at e w. log_removal_plain dirs at e.log) 0 edits w)
      (both _ _ (packed_plain dirs packed rewrite at_packed) (each_plain removal_entry (λ at e w. removal_plain dirs at e.lock e.effect) 0 edits w)))

-- what is at or below this path is at or below one of these
abbrev pub IsOneOf : (written : List Path) → Path → Type 0
IsOneOf written path = (q : Path) → IsAtOrBelow path q → IsInOneOf written q

-- A run of a plan, to its end or not, each of whose steps is after the removals of what is in its way.
module _ (dirs : Dirs) (R : Tree) (written : List Path) where
  abbrev IsCleared : Path → Type 0
  IsCleared q = (IsIn q (roots_of dirs) → ⊥) × IsInOneOf written q

  removals_stay : (about : About) (fs : List Path) (rest : List Entry) (S T : Tree) (path : Path) → IsOneOf written path → All (IsAtOrBelow path) fs → All (λ f. IsIn f (roots_of dirs) → ⊥) fs →
      ((M : Tree) → IsLeftBy (bare_steps rest) M T → (q : Path) → M q ≡ Some Folder → (T q ≡ Some Folder) ⊎ IsCleared q) →
      IsLeftBy (bare_steps (removals about fs ++ rest)) S T → (q : Path) → S q ≡ Some Folder → (T q ≡ Some Folder) ⊎ IsCleared q
  removals_stay about [] rest S T path one inside out next left q folder = next S left q folder
  removals_stay about (f ∷ fs) rest S T path one inside out next left q folder = by left
      (λ mid later still. removals_stay about fs rest mid T path one (λ k d lt. inside (suc k) d (omega (arith, lt))) (λ k d lt. out (suc k) d (omega (arith, lt))) next later q still)
    where
      inner : RemoveFolder f ≡ RemoveFolder q → f ≡ q
      inner h = cc

      taken : RemoveFolder f ≡ RemoveFolder q → IsCleared q
      taken gone =
          let e : f ≡ q = inner gone in
          (subst (λ (r : Path). IsIn r (roots_of dirs) → ⊥) e (out 0 f (omega arith)), one q (subst (IsAtOrBelow path) e (inside 0 f (omega arith))))

      by : IsLeftBy (bare_steps (removals about (f ∷ fs) ++ rest)) S T →
          ((mid : Tree) → IsLeftBy (bare_steps (removals about fs ++ rest)) mid T → mid q ≡ Some Folder → (T q ≡ Some Folder) ⊎ IsCleared q) → (T q ≡ Some Folder) ⊎ IsCleared q
      by (inl begun) go = ⊎_elim (λ still. inl still) (λ gone. inr (taken gone)) (begun_stays (RemoveFolder f) S T q folder begun)
      by (inr (mid, does, later)) go = ⊎_elim (λ still. go mid later still) (λ gone. inr (taken gone)) (stays (RemoveFolder f) S mid q folder does)

  pub run_stays : (ran : List Edit) (folders : List (List Path)) (plan : List Entry) → AllInWay ran dirs R folders plan → ArePlainSteps (IsOneOf written) plan → (S T : Tree) → IsLeftBy (bare_steps (cleared folders plan)) S T →
      (q : Path) → S q ≡ Some Folder → (T q ≡ Some Folder) ⊎ IsCleared q
  run_stays ran [] [] are plain S T after q folder = inl (ap (λ (U : Tree). U q) after ∙ folder)
  run_stays ran [] (e ∷ plan) are plain S T after q folder = absurd are
  run_stays ran (fs ∷ folders) [] are plain S T after q folder = absurd are
  run_stays ran (fs ∷ folders) (e ∷ plan) are plain S T after q folder = by (λ mid later r there. run_stays ran folders plan are.1 plain.1 mid T later r there) (written_at (bare e.0)) refl are.0
    where
      Rest : Type 0
      Rest = (mid : Tree) → IsLeftBy (bare_steps (cleared folders plan)) mid T → (r : Path) → mid r ≡ Some Folder → (T r ≡ Some Folder) ⊎ IsCleared r

      next : Rest → (M : Tree) → IsLeftBy (bare_steps (e ∷ cleared folders plan)) M T → (r : Path) → M r ≡ Some Folder → (T r ≡ Some Folder) ⊎ IsCleared r
      next rest M (inl begun) r there = ⊎_elim
          (λ still. inl still)
          (λ gone. absurd (plain.0.keeps r gone))
          (begun_stays (bare e.0) M T r there begun)
      next rest M (inr (mid, does, later)) r there = ⊎_elim
          (λ still. rest mid later r still)
          (λ gone. absurd (plain.0.keeps r gone))
          (stays (bare e.0) M mid r there does)

      by : Rest → (at : Option Path) → written_at (bare e.0) ≡ at → AreInWayOf dirs R (is_seen ran e.1) at fs → (T q ≡ Some Folder) ⊎ IsCleared q
      by rest None is none = next rest S (subst (λ (l : List Path). IsLeftBy (bare_steps (removals e.1 l ++ e ∷ cleared folders plan)) S T) none after) q folder
      by rest (Some path) is way = removals_stay e.1 fs (e ∷ cleared folders plan) S T path (plain.0.writes path is) way.inside way.outside (next rest) after q folder

-- A folder is there where `packed-refs` was put into its lock, and where locks were removed.
filled_has : (packed : Option Path) (start filled : Tree) (q : Path) → AreEmpty start (map lock_of (packed_places packed)) → FillsPacked packed start filled → start q ≡ Some Folder → filled q ≡ Some Folder
filled_has None start filled q empty same folder = ap (λ (U : Tree). U q) same ∙ folder
filled_has (Some path) start filled q empty (inl same) folder = ap (λ (U : Tree). U q) same ∙ folder
filled_has (Some path) start filled q empty (inr (text, put_there)) folder =
    ap (λ (U : Tree). U q) put_there
    ∙ put_beside start (lock_of path) q (Some (File text)) folder
    (λ e. no_file start (lock_of path) q folder (ap is_file (empty (lock_of path) (in_here (lock_of path) (lock_of path) [] refl))) e)

released_has : (locks : List Path) (mid released : Tree) (q : Path) → RemovesLocks locks mid released → mid q ≡ Some Folder → released q ≡ Some Folder
released_has locks mid released q removes still = ⊎_elim (λ same. same ∙ still) (λ gone. absurd (clash gone.2 (ap is_file still))) (removes q)

-- where no step was begun, no folder is gone
pub no_folder_gone : (dirs : Dirs) (packed : Option Path) (written deleted locks : List Path) (start filled T : Tree) → AreEmpty start (map lock_of (packed_places packed)) → FillsPacked packed start filled →
    RemovesLocks locks filled T → FoldersStay dirs written deleted start T
no_folder_gone dirs packed written deleted locks start filled T empty fills removes q folder = inl (released_has locks filled T q removes (filled_has packed start filled q empty fills folder))

-- The edits that were run are those that are held, except for their logs.
in_left : (a b : List Path) (q : Path) → IsInOneOf a q → IsInOneOf (a ++ b) q
in_left [] b q within = absurd within
in_left (p ∷ a) b q (inl at) = inl at
in_left (p ∷ a) b q (inr within) = inr (in_left a b q within)

in_right : (a b : List Path) (q : Path) → IsInOneOf b q → IsInOneOf (a ++ b) q
in_right [] b q within = within
in_right (p ∷ a) b q within = inr (in_right a b q within)

log_removed : (path : Path) (change : plan.Change) (l : LogEffect) → IsLogOf path change l → removed_log l ≡ log_of_deletion path change
log_removed path plan.Change.Delete logs.Keep of = absurd of
log_removed path plan.Change.Delete (logs.Remove log) of = ap (λ (p : Path). p ∷ []) of
log_removed path plan.Change.Delete (logs.Append log line) of = absurd of
log_removed path (plan.Change.Update target) logs.Keep of = refl
log_removed path (plan.Change.Update target) (logs.Remove log) of = absurd of
log_removed path (plan.Change.Update target) (logs.Append log line) of = refl

-- what is written at the places and the logs of these edits is among these
module _ (written : List Path) where
  placed : (place : Path) (effect : Effect) → ((q : Path) → IsInOneOf (written_file place effect) q → IsInOneOf written q) → IsPlaced (IsOneOf written) place effect
  placed place effects.Write into = λ q at. into q (inl at)
  placed place effects.Remove into = tt
  placed place effects.Keep into = tt

  lined : (l : LogEffect) → ((q : Path) → IsInOneOf (lined_by (outcome_of l)) q → IsInOneOf written q) → IsLined (IsOneOf written) l
  lined logs.Keep into = tt
  lined (logs.Remove log) into = tt
  lined (logs.Append log line) into = λ q at. into q (inl at)

  are_written : (ran : List Edit) → ((q : Path) → IsInOneOf (flat_map written_by ran) q → IsInOneOf written q) → ((q : Path) → IsInOneOf (flat_map lined_by (outcomes_of ran)) q → IsInOneOf written q) → AreWritten (IsOneOf written) ran
  are_written [] places lines = tt
  are_written (p ∷ ran) places lines = (
    (
      placed p.lock p.effect (λ q at. places q (in_left (written_by p) (flat_map written_by ran) q at)),
      lined p.log (λ q at. lines q (in_left (lined_by (outcome_of p.log)) (flat_map lined_by (outcomes_of ran)) q at)),
    ),
    are_written ran (λ q at. places q (in_right (written_by p) (flat_map written_by ran) q at)) (λ q at. lines q (in_right (lined_by (outcome_of p.log)) (flat_map lined_by (outcomes_of ran)) q at)),
  )

written_same : (held ran : List Edit) → all_but_logs ran ≡ all_but_logs held → flat_map written_by ran ≡ flat_map written_by held
written_same [] [] alike = refl
written_same [] (p ∷ ran) alike = absurd (differ alike)
  where
    differ : but_log p ∷ all_but_logs ran ≡ [] → ⊥
    differ e = cc
written_same (e ∷ held) [] alike = absurd (differ alike)
  where
    differ : [] ≡ but_log e ∷ all_but_logs held → ⊥
    differ h = cc
written_same (e ∷ held) (p ∷ ran) alike =
    ap (λ r. written_file r.2 r.5 ++ flat_map written_by ran) (heads alike).0 ∙ ap (λ (l : List Path). written_by e ++ l) (written_same held ran (heads alike).1)

module _ (s : readings.Store) where
  removed_same : (held ran : List Edit) → all_but_logs ran ≡ all_but_logs held → AreLogsOf s (updates held) ran → all_removed ran ≡ flat_map (deleted_by s) held
  removed_same [] [] alike logged = refl
  removed_same [] (p ∷ ran) alike logged = absurd logged
  removed_same (e ∷ held) [] alike logged = absurd logged
  removed_same (e ∷ held) (p ∷ ran) alike logged =
      ap (λ (l : List Path). (l ++ removed_file p.lock p.effect) ++ all_removed ran) (log_removed (s.log (name_of e.update)) (change_of e.update.change) p.log logged.0)
      ∙ (ap (λ r. (log_of_deletion (s.log (name_of e.update)) (change_of e.update.change) ++ removed_file r.2 r.5) ++ all_removed ran) (heads alike).0
      ∙ ap (λ (l : List Path). deleted_by s e ++ l) (removed_same held ran (heads alike).1 logged.1))

  -- a commit from the tree `start` to T, whose run came to its end or not
  pub folders_stay : (dirs : Dirs) (held ran : List Edit) (packed : Option Path) (rewrite : Rewrite) (folders : List (List Path)) (start filled mid released T : Tree) (locks : List Path) (outcomes : List LogOutcome) →
      all_but_logs ran ≡ all_but_logs held → AreLogsOf s (updates held) ran → outcomes_of ran ≡ outcomes → AreEmpty start (map lock_of (packed_places packed)) → FillsPacked packed start filled →
      AllInWay ran dirs filled folders (planned_entries dirs ran packed rewrite) → IsLeftBy (bare_steps (cleared folders (planned_entries dirs ran packed rewrite))) filled mid →
      RemovesLocks locks mid released → FoldersGo dirs (all_removed ran) released T →
      FoldersStay dirs (packed_places packed ++ (flat_map written_by held ++ flat_map lined_by outcomes)) (flat_map (deleted_by s) held) start T
  folders_stay dirs held ran packed rewrite folders start filled mid released T locks outcomes alike logged gained empty fills in_way after removes tidied q folder =
      ⊎_elim
      (λ still. ⊎_elim
      (λ same. inl (same ∙ released_has locks mid released q removes still))
      (λ gone. inr (gone.3, inr (subst (λ (l : List Path). IsAbove dirs l q) (removed_same held ran alike logged) gone.2)))
      (tidied q))
      (λ out. inr (out.0, inl out.1))
      (run_stays dirs filled written ran folders (planned_entries dirs ran packed rewrite) in_way plain filled mid after q (filled_has packed start filled q empty fills folder))
    where
      written : List Path
      written = packed_places packed ++ (flat_map written_by held ++ flat_map lined_by outcomes)

      plain : ArePlainSteps (IsOneOf written) (planned_entries dirs ran packed rewrite)
      plain = plan_plain (IsOneOf written) dirs ran packed rewrite
          (are_written written ran
          (λ p within. in_right (packed_places packed) (flat_map written_by held ++ flat_map lined_by outcomes) p
          (in_left (flat_map written_by held) (flat_map lined_by outcomes) p (subst (λ (l : List Path). IsInOneOf l p) (written_same held ran alike) within)))
          (λ p within. in_right (packed_places packed) (flat_map written_by held ++ flat_map lined_by outcomes) p
          (in_right (flat_map written_by held) (flat_map lined_by outcomes) p (subst (λ (l : List LogOutcome). IsInOneOf (flat_map lined_by l) p) gained within))))
          (λ path some p at. in_left (packed_places packed) (flat_map written_by held ++ flat_map lined_by outcomes) p (subst (λ (o : Option Path). IsInOneOf (packed_places o) p) (sym some) (inl at)))
