-- What ended a run: something in the way of a log or of its folders, or a folder at the end of a rename.
use Rattle.std.proofs.Common.{Bool, ◌≡◌, ◌⊎◌, inl, inr, ℕ, zero, suc, ◌<◌, List, [], ◌∷◌, ◌++◌, Option, Some, None, true, false, length, refl, sym, ◌∙◌, ap, subst, arith, ⊎_elim, append_assoc}
use Rattle.gix_ref_files.specs.Lock.{lock_of}
use Rattle.gix_ref_files.specs.Steps.{Step, Does, EndsBy, IsAfter}
use Rattle.gix_ref_files.specs.DiskSteps.Synced.{With}
use Rattle.gix_ref_files.proofs.Puts.{put_at}
use Rattle.std.proofs.lemmas.List.{map-append}
use Rattle.gix_ref_lookup.specs.declared.folders.Dirs.{Dirs}
use Rattle.gix_ref_files.specs.Steps.Step.{End, Line, MakeFolders, RemoveFolder, Rename, RemoveFile}
use Rattle.gix_ref_files.specs.Tree.{Tree, Path, IsEmptyFolder, is_blocked, is_folder}
use Rattle.gix_ref_files.specs.declared.steps.Cause.TheVariants.{Asked, Unexpected}
use Rattle.gix_ref_transaction.specs.CommitRenames.{lock_at, log_at, path_in, place_at}
use Rattle.gix_ref_transaction.specs.declared.edit.Edit.{Edit}
use Rattle.gix_ref_commit.specs.Cleared.{AreAllFolders, AreInWay, HoldsMore, removals, written_at}
use Rattle.gix_ref_commit.specs.Entries.{Entry, bare_steps}
use Rattle.gix_ref_commit.specs.declared.plan.About.{About}
use Rattle.gix_ref_commit.specs.declared.plan.About.TheVariants as about
use Rattle.gix_ref_commit.proofs.Shapes.{HasLine, HasShape}

-- What ended a run is in the way of a log, or a folder at the place of an edit, or of `packed-refs`.
abbrev pub MeetsAt : List Edit → Option Path → About → Tree → Type 0
MeetsAt edits packed (about.Rename at) T = (at < length edits) × (is_folder (T (place_at edits at)) ≡ true)
MeetsAt edits packed about.Packed T = (p : Path) × (packed ≡ Some p) × (is_folder (T p) ≡ true)
MeetsAt edits packed (about.Folders at) T = (at < length edits) × HasLine (log_at edits at)
MeetsAt edits packed (about.Line at) T =
    (at < length edits) × HasLine (log_at edits at) × ((is_folder (T (path_in (log_at edits at))) ≡ true) ⊎ (is_blocked T (path_in (log_at edits at)) ≡ true))
MeetsAt edits packed (about.LogRemoval at) T = ⊥
MeetsAt edits packed (about.Removal at) T = ⊥

module _ (edits : List Edit) (packed : Option Path) where
  pub meets : (a : About) (step : Step) (S T : Tree) → HasShape edits packed a step → EndsBy step Unexpected S T → MeetsAt edits packed a T
  meets (about.Rename at) step S T (lt, is) ends =
      let e = subst (λ (x : Step). EndsBy x Unexpected S T) is ends in (lt, ap (λ (R : Tree). is_folder (R (place_at edits at))) e.1 ∙ e.0)
  meets about.Packed step S T (p, held, inl is) ends =
      let e = subst (λ (x : Step). EndsBy x Unexpected S T) is ends in (p, held, ap (λ (R : Tree). is_folder (R p)) e.1 ∙ e.0)
  meets about.Packed step S T (p, held, inr is) ends = absurd (subst (λ (x : Step). EndsBy x Unexpected S T) is ends).0
  meets (about.Folders at) step S T (lt, has, is) ends = (lt, has)
  meets (about.Line at) step S T (lt, has, (line, is)) ends =
      let e = subst (λ (x : Step). EndsBy x Unexpected S T) is ends in
      (lt, has, subst (λ (R : Tree). (is_folder (R (path_in (log_at edits at))) ≡ true) ⊎ (is_blocked R (path_in (log_at edits at)) ≡ true)) (sym e.1) e.0)
  meets (about.LogRemoval at) step S T (lt, (p, is)) ends = absurd (subst (λ (x : Step). EndsBy x Unexpected S T) is ends).0
  meets (about.Removal at) step S T (lt, (p, is)) ends = absurd (subst (λ (x : Step). EndsBy x Unexpected S T) is ends).0

  -- and no step asked for the end
  pub never_asked : (a : About) (step : Step) (S T : Tree) → HasShape edits packed a step → EndsBy step Asked S T → ⊥
  never_asked (about.Rename at) step S T (lt, is) ends = rename (sym is ∙ ends.0)
    where
      rename : {from to : Path} → Rename from to ≡ End → ⊥
      rename e = cc
  never_asked about.Packed step S T (p, held, inl is) ends = rename (sym is ∙ ends.0)
    where
      rename : {from to : Path} → Rename from to ≡ End → ⊥
      rename e = cc
  never_asked about.Packed step S T (p, held, inr is) ends = remove (sym is ∙ ends.0)
    where
      remove : {q : Path} → RemoveFile q ≡ End → ⊥
      remove e = cc
  never_asked (about.Folders at) step S T (lt, has, is) ends = folders (sym is ∙ ends.0)
    where
      folders : {q : Path} → MakeFolders q ≡ End → ⊥
      folders e = cc
  never_asked (about.Line at) step S T (lt, has, (line, is)) ends = adds (sym is ∙ ends.0)
    where
      adds : {q : Path} → Line q line ≡ End → ⊥
      adds e = cc
  never_asked (about.LogRemoval at) step S T (lt, (p, is)) ends = remove (sym is ∙ ends.0)
    where
      remove : {q : Path} → RemoveFile q ≡ End → ⊥
      remove e = cc
  never_asked (about.Removal at) step S T (lt, (p, is)) ends = remove (sym is ∙ ends.0)
    where
      remove : {q : Path} → RemoveFile q ≡ End → ⊥
      remove e = cc

-- the lock at a place of the list is that of its place
pub lock_is : (edits : List Edit) (k : ℕ) → k < length edits → lock_at edits k ≡ lock_of (place_at edits k)
lock_is [] k lt = absurd (omega (arith, lt))
lock_is (e ∷ edits) zero lt = refl
lock_is (e ∷ edits) (suc k) lt = lock_is edits k (omega (arith, lt))

-- where such a step writes a file
abbrev pub WritesAt : List Edit → Option Path → About → Step → Type 0
WritesAt edits packed (about.Rename at) step = written_at step ≡ Some (place_at edits at)
WritesAt edits packed (about.Line at) step = written_at step ≡ Some (path_in (log_at edits at))
WritesAt edits packed other step = Unit {0}

pub writes : (edits : List Edit) (packed : Option Path) (a : About) (step : Step) (S T : Tree) → HasShape edits packed a step → EndsBy step Unexpected S T → WritesAt edits packed a step
writes edits packed (about.Rename at) step S T (lt, is) ends = ap written_at is
writes edits packed (about.Line at) step S T (lt, has, (line, is)) ends = ap written_at is
writes edits packed about.Packed step S T shape ends = tt
writes edits packed (about.Folders at) step S T shape ends = tt
writes edits packed (about.LogRemoval at) step S T shape ends = tt
writes edits packed (about.Removal at) step S T shape ends = tt

-- The removal of a folder is never refused, and asks for no end.
pub removal_not_refused : (step : Step) (folder : Path) → step ≡ RemoveFolder folder → (S T : Tree) → EndsBy step Unexpected S T → ⊥
removal_not_refused step folder is S T ends = (subst (λ (x : Step). EndsBy x Unexpected S T) is ends).0

pub removal_not_asked : (step : Step) (folder : Path) → step ≡ RemoveFolder folder → (S T : Tree) → EndsBy step Asked S T → ⊥
removal_not_asked step folder is S T ends = differ (sym is ∙ ends.0)
  where
    differ : RemoveFolder folder ≡ End → ⊥
    differ e = cc

-- Behind the removals of what is in its way a folder holds more than empty folders, or is not empty.
module _ (dirs : Dirs) (first T : Tree) where
  none_or_full : (folder : Path) (S : Tree) → Does (RemoveFolder folder) S T → IsEmptyFolder T folder → ⊥
  none_or_full folder S (inl (empty, gone)) is = differ (sym (ap is_folder (ap (λ (R : Tree). R folder) gone ∙ put_at S folder None)) ∙ is.0)
    where
      differ : false ≡ true → ⊥
      differ e = cc
  none_or_full folder S (inr (full, same)) is = full (subst (λ (R : Tree). IsEmptyFolder R folder) same is)

  last_done : (front : List Entry) (about : About) (folder : Path) (S : Tree) → IsAfter (bare_steps (front ++ removals about (folder ∷ []))) S T → IsEmptyFolder T folder → ⊥
  last_done [] about folder S (mid, does, same) = none_or_full folder S (subst (λ (R : Tree). Does (RemoveFolder folder) S R) (sym same) does)
  last_done (e ∷ front) about folder S (mid, does, after) = last_done front about folder mid after

  -- It held more than empty folders. Or each folder below it was removed in turn, itself the last, and it is not empty.
  pub not_emptied : (mid : Tree) (before front : List Entry) (about : About) (fs : List Path) (path : Path) (seen : Bool) → before ≡ front ++ removals about fs → AreInWay dirs first seen path fs → IsAfter (bare_steps before) first T → mid ≡ T →
      seen ≡ false → is_folder (first path) ≡ true → HoldsMore dirs first path ⊎ (AreAllFolders first path fs × (IsEmptyFolder mid path → ⊥))
  not_emptied mid before front about fs path seen is way after same unseen folder = ⊎_elim
      (λ none. inl (none.1 unseen folder))
      (λ all. let last = all.last in
      inr (
        all,
        λ empty. last_done (front ++ removals about last.0) about path first
            (subst (λ (es : List Entry). IsAfter (bare_steps es) first T)
            (is ∙ (ap (λ (l : List Path). front ++ removals about l) last.1
            ∙ (ap (λ (l : List Entry). front ++ l) (map-append (λ (f : Path). (With (RemoveFolder f) [], about)) last.0 (path ∷ []))
            ∙ sym (append_assoc front (removals about last.0) (removals about (path ∷ [])))))) after)
            (subst (λ (R : Tree). IsEmptyFolder R path) same empty),
      ))
      way.none_or_all
