-- A lock that was renamed is gone, and stays so.
use Rattle.std.proofs.Common.{◌≡◌, ◌≢◌, inl, inr, ℕ, ◌+◌, List, [], ◌∷◌, ◌++◌, false, Option, Some, None, refl, ◌∙◌, ap, subst}
use Rattle.std.specs.Prelude.{bytes_eq}
use Rattle.gix_ref_files.specs.Tree.{Tree, Path, Content, put, file_of, is_file}
use Rattle.gix_ref_files.specs.Tree.Content.{File, Folder}
use Rattle.gix_ref_files.specs.Lock.{lock_of}
use Rattle.gix_ref_files.specs.Steps.{Step, Does, Begins, IsAfter}
use Rattle.gix_ref_files.specs.Steps.Step.{Create, Append, Line, Rename, RemoveFile, MakeFolders, RemoveFolder, End}
use Rattle.gix_ref_files.proofs.Between.{done_is_begun}
use Rattle.gix_ref_files.proofs.Puts.{put_at, put_other}
use Rattle.gix_ref_lookup.specs.declared.folders.Dirs.{Dirs}
use Rattle.gix_ref_packed_text.specs.declared.outcome.Rewrite.{Rewrite}
use Rattle.gix_ref_packed_text.specs.declared.outcome.Rewrite.TheVariants.{Unchanged, Removed, Text}
use Rattle.gix_ref_theory.proofs.Trees as trees
use Rattle.gix_ref_transaction.proofs.Adds.{either_way, same_path, is_same_path, clash}
use Rattle.gix_ref_transaction.specs.declared.edit.Edit.{Edit}
use Rattle.gix_ref_transaction.specs.declared.edit.Effect.{Effect}
use Rattle.gix_ref_transaction.specs.declared.edit.Effect.TheVariants as effects
use Rattle.gix_ref_transaction.specs.declared.edit.LogEffect.{LogEffect}
use Rattle.gix_ref_transaction.specs.declared.edit.LogEffect.TheVariants as logs
use Rattle.gix_ref_commit.proofs.LogFolders.{folders_either}
use Rattle.gix_ref_commit.specs.Entries.{Entry, each, folders_for, folders_entry, line_for, rename_for, log_removal_for, removal_for, line_entry, rename_entry, log_removal_entry, removal_entry, packed_entries, update_entries, planned_entries, bare, bare_steps}
use Rattle.gix_ref_commit.proofs.Carrying.{ArePlaced, IsLogPlain, IsPackedPlaced}
use Rattle.gix_ref_commit.proofs.Renamed.{IsRenameOf, HasRename}

-- the step makes no file at this path
abbrev pub Misses : Path → Step → Type 0
Misses lock (Line p bytes) = p ≢ lock
Misses lock (Rename from to) = to ≢ lock
Misses lock (RemoveFile p) = Unit {0}
Misses lock (MakeFolders p) = Unit {0}
Misses lock (RemoveFolder p) = Unit {0}
Misses lock other = ⊥

abbrev pub AllMiss : Path → List Entry → Type 0
AllMiss lock [] = Unit {0}
AllMiss lock (e ∷ es) = Misses lock (bare e.0) × AllMiss lock es

abbrev pub NoFile : Tree → Path → Type 0
NoFile T lock = file_of (T lock) ≡ None

removed_none : (T : Tree) (p lock : Path) → NoFile T lock → NoFile (put T p None) lock
removed_none T p lock none = either_way (bytes_eq p lock)
    (λ same. subst (λ (q : Path). NoFile (put T p None) q) (same_path p lock same) (ap file_of (put_at T p None)))
    (λ other. ap file_of (put_other T p lock None (λ is. clash (is_same_path p lock is) other)) ∙ none)

-- where there is none, there is none after the step, or meanwhile
pub none_begun : (lock : Path) (step : Step) (S T : Tree) → Misses lock step → Begins step S T → NoFile S lock → NoFile T lock
none_begun lock (Line p bytes) S T misses (inl (n, is)) none = ap (λ (R : Tree). file_of (R lock)) is ∙ (ap file_of (put_other S p lock _ misses) ∙ none)
none_begun lock (Line p bytes) S T misses (inr (free, inl is)) none = ap (λ (R : Tree). file_of (R lock)) is ∙ (ap file_of (put_other S p lock _ misses) ∙ none)
none_begun lock (Line p bytes) S T misses (inr (free, inr (n, is))) none =
    ap (λ (R : Tree). file_of (R lock)) is
    ∙ (ap file_of (put_other (put S p (Some (File []))) p lock _ misses) ∙ (ap file_of (put_other S p lock (Some (File [])) misses) ∙ none))
none_begun lock (Rename from to) S T misses (inl same) none = ap (λ (R : Tree). file_of (R lock)) same ∙ none
none_begun lock (Rename from to) S T misses (inr (can, is)) none =
    ap (λ (R : Tree). file_of (R lock)) is ∙ (ap file_of (put_other (put S from None) to lock (S from) misses) ∙ removed_none S from lock none)
none_begun lock (RemoveFile p) S T misses (inl same) none = ap (λ (R : Tree). file_of (R lock)) same ∙ none
none_begun lock (RemoveFile p) S T misses (inr (there, is)) none = ap (λ (R : Tree). file_of (R lock)) is ∙ removed_none S p lock none
none_begun lock (MakeFolders p) S T misses begins none = trees.folders S T p (inl begins) lock ∙ none
none_begun lock (RemoveFolder p) S T misses begins none = trees.folders S T p (inr begins) lock ∙ none
none_begun lock (Create p) S T misses begins none = absurd misses
none_begun lock (Append p bytes) S T misses begins none = absurd misses
none_begun lock End S T misses begins none = absurd misses

-- a lock that is renamed is gone
pub gone_at : (lock : Path) (step : Step) (S T : Tree) → Misses lock step → IsRenameOf lock step → Does step S T → NoFile T lock
gone_at lock (Rename from to) S T misses is done =
    ap (λ (R : Tree). file_of (R lock)) done.1
    ∙ (ap file_of (put_other (put S from None) to lock (S from) misses)
    ∙ subst (λ (q : Path). NoFile (put S from None) q) is (ap file_of (put_at S from None)))
gone_at lock (Create p) S T misses is done = absurd is
gone_at lock (Append p bytes) S T misses is done = absurd is
gone_at lock (Line p bytes) S T misses is done = absurd is
gone_at lock (RemoveFile p) S T misses is done = absurd is
gone_at lock (MakeFolders p) S T misses is done = absurd is
gone_at lock (RemoveFolder p) S T misses is done = absurd is
gone_at lock End S T misses is done = absurd is

pub still_none : (lock : Path) (es : List Entry) (S T : Tree) → AllMiss lock es → IsAfter (bare_steps es) S T → NoFile S lock → NoFile T lock
still_none lock [] S T miss same none = ap (λ (R : Tree). file_of (R lock)) same ∙ none
still_none lock (e ∷ es) S T miss (M, done, after) none =
    still_none lock es M T miss.1 after (none_begun lock (bare e.0) S M miss.0 (done_is_begun (bare e.0) S M done) none)

pub gone_after : (lock : Path) (es : List Entry) (S T : Tree) → AllMiss lock es → HasRename lock es → IsAfter (bare_steps es) S T → NoFile T lock
gone_after lock [] S T miss renamed same = absurd renamed
gone_after lock (e ∷ es) S T miss (inl here) (M, done, after) = still_none lock es M T miss.1 after (gone_at lock (bare e.0) S M miss.0 here done)
gone_after lock (e ∷ es) S T miss (inr later) (M, done, after) = gone_after lock es M T miss.1 later after

-- no file is there
pub none_is_no_file : (node : Option Content) → file_of node ≡ None → is_file node ≡ false
none_is_no_file None none = refl
none_is_no_file (Some Folder) none = refl
none_is_no_file (Some (File bytes)) none = cc

miss_both : (lock : Path) (a b : List Entry) → AllMiss lock a → AllMiss lock b → AllMiss lock (a ++ b)
miss_both lock [] b ha hb = hb
miss_both lock (e ∷ a) b ha hb = (ha.0, miss_both lock a b ha.1 hb)

pub miss_front : (lock : Path) (a : List Entry) (x : Entry) (b : List Entry) → AllMiss lock (a ++ x ∷ b) → AllMiss lock a × Misses lock (bare x.0)
miss_front lock [] x b all = (tt, all.0)
miss_front lock (e ∷ a) x b all = let rest = miss_front lock a x b all.1 in ((all.0, rest.0), rest.1)

-- The steps of a plan make no lock.
module _ (locked staying : List Path) (dirs : Dirs) (q : Path) where
  abbrev lock : Path
  lock = lock_of q

  folders_miss : (at : ℕ) (l : LogEffect) → AllMiss lock (folders_for at l)
  folders_miss at logs.Keep = tt
  folders_miss at (logs.Append log line) = (tt, tt)
  folders_miss at (logs.Remove log) = tt

  folders_entry_misses : (at : ℕ) (e : Edit) → AllMiss lock (folders_entry at e)
  folders_entry_misses at e = folders_either (AllMiss lock) at e tt (folders_miss at e.log)

  line_misses : (at : ℕ) (l : LogEffect) → IsLogPlain staying dirs l → AllMiss lock (line_for dirs at l)
  line_misses at logs.Keep plain = tt
  line_misses at (logs.Append log line) plain = (plain.0 q, tt)
  line_misses at (logs.Remove log) plain = tt

  rename_misses : (at : ℕ) (place : Path) (f : Effect) → ((r : Path) → place ≢ lock_of r) → AllMiss lock (rename_for dirs at place f)
  rename_misses at place effects.Write plain = (plain q, tt)
  rename_misses at place effects.Remove plain = tt
  rename_misses at place effects.Keep plain = tt

  log_removal_misses : (at : ℕ) (l : LogEffect) → AllMiss lock (log_removal_for at l)
  log_removal_misses at logs.Keep = tt
  log_removal_misses at (logs.Append log line) = tt
  log_removal_misses at (logs.Remove log) = (tt, tt)

  removal_misses : (at : ℕ) (place : Path) (f : Effect) → AllMiss lock (removal_for at place f)
  removal_misses at place effects.Write = tt
  removal_misses at place effects.Remove = (tt, tt)
  removal_misses at place effects.Keep = tt

  updates_miss : (at : ℕ) (edits : List Edit) → ArePlaced locked staying dirs edits → AllMiss lock (each (update_entries dirs) at edits)
  updates_miss at [] placed = tt
  updates_miss at (e ∷ edits) (one, placed) =
      miss_both lock (update_entries dirs at e) (each (update_entries dirs) (at + 1) edits)
      (miss_both lock (folders_entry at e) (line_entry dirs at e ++ rename_entry dirs at e) (folders_entry_misses at e)
      (miss_both lock (line_entry dirs at e) (rename_entry dirs at e) (line_misses at e.log one.log) (rename_misses at e.lock e.effect one.place.0)))
      (updates_miss (at + 1) edits placed)

  log_removals_miss : (at : ℕ) (edits : List Edit) → AllMiss lock (each log_removal_entry at edits)
  log_removals_miss at [] = tt
  log_removals_miss at (e ∷ edits) = miss_both lock (log_removal_entry at e) (each log_removal_entry (at + 1) edits) (log_removal_misses at e.log) (log_removals_miss (at + 1) edits)

  removals_miss : (at : ℕ) (edits : List Edit) → AllMiss lock (each removal_entry at edits)
  removals_miss at [] = tt
  removals_miss at (e ∷ edits) = miss_both lock (removal_entry at e) (each removal_entry (at + 1) edits) (removal_misses at e.lock e.effect) (removals_miss (at + 1) edits)

  packed_misses : (packed : Option Path) (rewrite : Rewrite) (edits : List Edit) → IsPackedPlaced locked staying dirs packed edits → AllMiss lock (packed_entries dirs packed rewrite)
  packed_misses None rewrite edits placed = tt
  packed_misses (Some path) Unchanged edits placed = tt
  packed_misses (Some path) Removed edits placed = (tt, tt)
  packed_misses (Some path) (Text text) edits placed = (placed.1.0 q, tt)

  pub plan_misses : (edits : List Edit) (packed : Option Path) (rewrite : Rewrite) → ArePlaced locked staying dirs edits → IsPackedPlaced locked staying dirs packed edits →
      AllMiss lock (planned_entries dirs edits packed rewrite)
  plan_misses edits packed rewrite placed packed_placed =
      miss_both lock (each (update_entries dirs) 0 edits) (each log_removal_entry 0 edits ++ (packed_entries dirs packed rewrite ++ each removal_entry 0 edits)) (updates_miss 0 edits placed)
      (miss_both lock (each log_removal_entry 0 edits) (packed_entries dirs packed rewrite ++ each removal_entry 0 edits) (log_removals_miss 0 edits)
      (miss_both lock (packed_entries dirs packed rewrite) (each removal_entry 0 edits) (packed_misses packed rewrite edits packed_placed) (removals_miss 0 edits)))
