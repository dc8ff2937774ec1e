-- The step of a plan that is about `packed-refs` renames its lock, where there is a new text.
use Rattle.std.proofs.Common.{◌≡◌, ℕ, ◌+◌, List, [], ◌∷◌, ◌++◌, true, Option, Some, None, refl, ap}
use Rattle.gix_ref_files.specs.Tree.{Path}
use Rattle.gix_ref_files.specs.Lock.{lock_of}
use Rattle.gix_ref_lookup.specs.declared.folders.Dirs.{Dirs}
use Rattle.gix_ref_packed_text.specs.declared.outcome.Rewrite.{Rewrite}
use Rattle.gix_ref_packed_text.specs.declared.outcome.Rewrite.TheVariants.{Unchanged, Removed, Text}
use Rattle.gix_ref_transaction.specs.declared.edit.Edit.{Edit}
use Rattle.gix_ref_transaction.specs.declared.edit.Effect.{Effect}
use Rattle.gix_ref_transaction.specs.declared.edit.Effect.TheVariants as effects
use Rattle.gix_ref_transaction.specs.declared.edit.LogEffect.{LogEffect}
use Rattle.gix_ref_transaction.specs.declared.edit.LogEffect.TheVariants as logs
use Rattle.gix_ref_transaction.proofs.Adds.{clash}
use Rattle.gix_ref_commit.specs.declared.plan.About.TheVariants as about
use Rattle.gix_ref_commit.specs.Entries.{Entry, bare, each, folders_for, folders_entry, line_for, line_entry, rename_for, rename_entry, log_removal_for, log_removal_entry, removal_for, removal_entry, packed_entries, update_entries, planned_entries, renames_packed}
use Rattle.gix_ref_commit.proofs.LogFolders.{folders_either}
use Rattle.gix_ref_commit.proofs.Renamed.{IsRenameOf}

no_folders : (at : ℕ) → about.Folders at ≡ about.Packed → ⊥
no_folders at e = cc

no_line : (at : ℕ) → about.Line at ≡ about.Packed → ⊥
no_line at e = cc

no_rename : (at : ℕ) → about.Rename at ≡ about.Packed → ⊥
no_rename at e = cc

no_log_removal : (at : ℕ) → about.LogRemoval at ≡ about.Packed → ⊥
no_log_removal at e = cc

no_removal : (at : ℕ) → about.Removal at ≡ about.Packed → ⊥
no_removal at e = cc

same_path : (p q : Path) → Some p ≡ Some q → p ≡ q
same_path p q e = cc

no_path : (q : Path) → None ≡ Some q → ⊥
no_path q e = cc

module _ (dirs : Dirs) (path : Path) where
  abbrev pub RenamesPacked : List Entry → Type 0
  RenamesPacked [] = Unit {0}
  RenamesPacked (e ∷ es) = (e.1 ≡ about.Packed → IsRenameOf (lock_of path) (bare e.0)) × RenamesPacked es

  both : (a b : List Entry) → RenamesPacked a → RenamesPacked b → RenamesPacked (a ++ b)
  both [] b ha hb = hb
  both (e ∷ a) b ha hb = (ha.0, both a b ha.1 hb)

  pub at_packed : (before : List Entry) (x : Entry) (rest : List Entry) → RenamesPacked (before ++ x ∷ rest) → x.1 ≡ about.Packed → IsRenameOf (lock_of path) (bare x.0)
  at_packed [] x rest all = all.0
  at_packed (e ∷ before) x rest all = at_packed before x rest all.1

  updates : (at : ℕ) (edits : List Edit) → RenamesPacked (each (update_entries dirs) at edits)
  updates at [] = tt
  updates at (e ∷ edits) =
      both (update_entries dirs at e) (each (update_entries dirs) (at + 1) edits)
      (both (folders_entry at e) (line_entry dirs at e ++ rename_entry dirs at e) (folders_either RenamesPacked at e tt (folders e.log))
      (both (line_entry dirs at e) (rename_entry dirs at e) (line e.log) (rename e.effect)))
      (updates (at + 1) edits)
    where
      folders : (l : LogEffect) → RenamesPacked (folders_for at l)
      folders logs.Keep = tt
      folders (logs.Append log text) = (λ is. absurd (no_folders at is), tt)
      folders (logs.Remove log) = tt

      line : (l : LogEffect) → RenamesPacked (line_for dirs at l)
      line logs.Keep = tt
      line (logs.Append log text) = (λ is. absurd (no_line at is), tt)
      line (logs.Remove log) = tt

      rename : (f : Effect) → RenamesPacked (rename_for dirs at e.lock f)
      rename effects.Write = (λ is. absurd (no_rename at is), tt)
      rename effects.Remove = tt
      rename effects.Keep = tt

  log_removals : (at : ℕ) (edits : List Edit) → RenamesPacked (each log_removal_entry at edits)
  log_removals at [] = tt
  log_removals at (e ∷ edits) = both (log_removal_entry at e) (each log_removal_entry (at + 1) edits) (one e.log) (log_removals (at + 1) edits)
    where
      one : (l : LogEffect) → RenamesPacked (log_removal_for at l)
      one logs.Keep = tt
      one (logs.Append log line) = tt
      one (logs.Remove log) = (λ is. absurd (no_log_removal at is), tt)

  removals : (at : ℕ) (edits : List Edit) → RenamesPacked (each removal_entry at edits)
  removals at [] = tt
  removals at (e ∷ edits) = both (removal_entry at e) (each removal_entry (at + 1) edits) (one e.effect) (removals (at + 1) edits)
    where
      one : (f : Effect) → RenamesPacked (removal_for at e.lock f)
      one effects.Write = tt
      one effects.Remove = (λ is. absurd (no_removal at is), tt)
      one effects.Keep = tt

  itself : (packed : Option Path) (rewrite : Rewrite) → packed ≡ Some path → renames_packed rewrite ≡ true → RenamesPacked (packed_entries dirs packed rewrite)
  itself None rewrite held text = absurd (no_path path held)
  itself (Some q) Unchanged held text = clash text refl
  itself (Some q) Removed held text = clash text refl
  itself (Some q) (Text bytes) held text = (λ is. ap lock_of (same_path q path held), tt)

  pub renames_packed_lock : (edits : List Edit) (packed : Option Path) (rewrite : Rewrite) → packed ≡ Some path → renames_packed rewrite ≡ true → RenamesPacked (planned_entries dirs edits packed rewrite)
  renames_packed_lock edits packed rewrite held text =
      both (each (update_entries dirs) 0 edits) (each log_removal_entry 0 edits ++ (packed_entries dirs packed rewrite ++ each removal_entry 0 edits)) (updates 0 edits)
      (both (each log_removal_entry 0 edits) (packed_entries dirs packed rewrite ++ each removal_entry 0 edits) (log_removals 0 edits)
      (both (packed_entries dirs packed rewrite) (each removal_entry 0 edits) (itself packed rewrite held text) (removals 0 edits)))
