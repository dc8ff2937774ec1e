-- What the steps of a plan are, by what they are about.
use Rattle.std.proofs.Common.{◌≡◌, ◌⊎◌, inl, inr, ℕ, ◌+◌, ◌<◌, List, [], ◌∷◌, ◌++◌, Option, Some, None, length, refl, sym, ◌∙◌, ap, subst, arith, append_assoc}
use Rattle.std.proofs.lemmas.List.{length-append}
use Rattle.gix_ref_files.specs.Tree.{Path}
use Rattle.gix_ref_files.specs.Disk.{folder_of}
use Rattle.gix_ref_files.specs.Lock.{lock_of}
use Rattle.gix_ref_files.specs.Steps.{Step}
use Rattle.gix_ref_files.specs.Steps.Step.{Line, MakeFolders, Rename, RemoveFile}
use Rattle.gix_ref_lookup.specs.declared.folders.Dirs.{Dirs}
use Rattle.gix_ref_packed_text.specs.declared.outcome.Rewrite.{Rewrite}
use Rattle.gix_ref_packed_text.specs.declared.outcome.Rewrite.TheVariants.{Unchanged, Removed, Text}
use Rattle.gix_ref_transaction.specs.CommitRenames.{lock_at, log_at, path_in, place_at}
use Rattle.gix_ref_transaction.specs.declared.edit.Edit.{Edit}
use Rattle.gix_ref_transaction.specs.declared.edit.Effect.{Effect}
use Rattle.gix_ref_transaction.specs.declared.edit.Effect.TheVariants as effects
use Rattle.gix_ref_transaction.specs.declared.edit.LogEffect.{LogEffect}
use Rattle.gix_ref_transaction.specs.declared.edit.LogEffect.TheVariants as logs
use Rattle.gix_ref_transaction.proofs.Renames.{lock_there, log_there, place_there}
use Rattle.gix_ref_commit.specs.declared.plan.About.{About}
use Rattle.gix_ref_commit.specs.declared.plan.About.TheVariants as about
use Rattle.gix_ref_commit.proofs.LogFolders.{folders_either}
use Rattle.gix_ref_commit.specs.Entries.{Entry, each, folders_for, folders_entry, line_for, rename_for, log_removal_for, removal_for, line_entry, rename_entry, log_removal_entry, removal_entry, packed_entries, update_entries, planned_entries, bare, IsOfEdit}

-- a line is added to the log
abbrev pub HasLine : LogEffect → Type 0
HasLine (logs.Append log line) = Unit {0}
HasLine logs.Keep = ⊥
HasLine (logs.Remove log) = ⊥

module _ (edits : List Edit) (packed : Option Path) where
  -- the step of an entry about this
  abbrev pub HasShape : About → Step → Type 0
  HasShape (about.Folders at) step = (at < length edits) × HasLine (log_at edits at) × (step ≡ MakeFolders (folder_of (path_in (log_at edits at))))
  HasShape (about.Line at) step = (at < length edits) × HasLine (log_at edits at) × ((line : List ℕ) × (step ≡ Line (path_in (log_at edits at)) line))
  HasShape (about.Rename at) step = (at < length edits) × (step ≡ Rename (lock_at edits at) (place_at edits at))
  HasShape (about.LogRemoval at) step = (at < length edits) × ((p : Path) × (step ≡ RemoveFile p))
  HasShape about.Packed step = (p : Path) × (packed ≡ Some p) × ((step ≡ Rename (lock_of p) p) ⊎ (step ≡ RemoveFile p))
  HasShape (about.Removal at) step = (at < length edits) × ((p : Path) × (step ≡ RemoveFile p))

  abbrev pub AllShaped : List Entry → Type 0
  AllShaped [] = Unit {0}
  AllShaped (x ∷ es) = HasShape x.1 (bare x.0) × AllShaped es

  both : (a b : List Entry) → AllShaped a → AllShaped b → AllShaped (a ++ b)
  both [] b ha hb = hb
  both (x ∷ a) b ha hb = (ha.0, both a b ha.1 hb)

  pub shape_at : (before : List Entry) (x : Entry) (rest : List Entry) → AllShaped (before ++ x ∷ rest) → HasShape x.1 (bare x.0)
  shape_at [] x rest all = all.0
  shape_at (e ∷ before) x rest all = shape_at before x rest all.1

  -- so it names one of the edits
  pub names_edit : (a : About) (step : Step) → HasShape a step → IsOfEdit (length edits) a
  names_edit (about.Folders at) step h = h.0
  names_edit (about.Line at) step h = h.0
  names_edit (about.Rename at) step h = h.0
  names_edit (about.LogRemoval at) step h = h.0
  names_edit about.Packed step h = tt
  names_edit (about.Removal at) step h = h.0

  -- an edit at its place of the list
  abbrev IsHere : ℕ → Edit → Type 0
  IsHere at e = (at < length edits) × (lock_at edits at ≡ lock_of e.lock) × (place_at edits at ≡ e.lock) × (log_at edits at ≡ e.log)

  here : (seen : List Edit) (e : Edit) (es : List Edit) (at : ℕ) → edits ≡ seen ++ e ∷ es → at ≡ length seen → IsHere at e
  here seen e es at is number = (
    omega (arith, number, ap length is, length-append seen (e ∷ es)),
    ap (λ (l : List Edit). lock_at l at) is ∙ (ap (lock_at (seen ++ e ∷ es)) number ∙ lock_there seen e es),
    ap (λ (l : List Edit). place_at l at) is ∙ (ap (place_at (seen ++ e ∷ es)) number ∙ place_there seen e es),
    ap (λ (l : List Edit). log_at l at) is ∙ (ap (log_at (seen ++ e ∷ es)) number ∙ log_there seen e es),
  )

  each_shaped : (f : ℕ → Edit → List Entry) → ((at : ℕ) (e : Edit) → IsHere at e → AllShaped (f at e)) → (seen es : List Edit) (at : ℕ) → edits ≡ seen ++ es → at ≡ length seen → AllShaped (each f at es)
  each_shaped f shaped seen [] at is number = tt
  each_shaped f shaped seen (e ∷ es) at is number =
      both (f at e) (each f (at + 1) es) (shaped at e (here seen e es at is number))
      (each_shaped f shaped (seen ++ e ∷ []) es (at + 1) (is ∙ sym (append_assoc seen (e ∷ []) es)) (omega (arith, number, length-append seen (e ∷ []))))

  module _ (dirs : Dirs) where
    folders_shaped : (at : ℕ) (l : LogEffect) → (at < length edits) → log_at edits at ≡ l → AllShaped (folders_for at l)
    folders_shaped at logs.Keep lt is = tt
    folders_shaped at (logs.Append log text) lt is = ((lt, subst HasLine (sym is) tt, ap (λ (e : LogEffect). MakeFolders (folder_of (path_in e))) (sym is)), tt)
    folders_shaped at (logs.Remove log) lt is = tt

    folders_entry_shaped : (at : ℕ) (e : Edit) → (at < length edits) → log_at edits at ≡ e.log → AllShaped (folders_entry at e)
    folders_entry_shaped at e lt is = folders_either AllShaped at e tt (folders_shaped at e.log lt is)

    line_shaped : (at : ℕ) (l : LogEffect) → (at < length edits) → log_at edits at ≡ l → AllShaped (line_for dirs at l)
    line_shaped at logs.Keep lt is = tt
    line_shaped at (logs.Append log text) lt is = ((lt, subst HasLine (sym is) tt, (text.items, ap (λ (e : LogEffect). Line (path_in e) text.items) (sym is))), tt)
    line_shaped at (logs.Remove log) lt is = tt

    rename_shaped : (at : ℕ) (e : Edit) (f : Effect) → IsHere at e → AllShaped (rename_for dirs at e.lock f)
    rename_shaped at e effects.Write is = ((is.0, ap (λ (l : Path). Rename l e.lock) (sym is.1) ∙ ap (Rename (lock_at edits at)) (sym is.2)), tt)
    rename_shaped at e effects.Remove is = tt
    rename_shaped at e effects.Keep is = tt

    log_removal_shaped : (at : ℕ) (e : Edit) (l : LogEffect) → IsHere at e → AllShaped (log_removal_for at l)
    log_removal_shaped at e logs.Keep is = tt
    log_removal_shaped at e (logs.Append log text) is = tt
    log_removal_shaped at e (logs.Remove log) is = ((is.0, (log.items, refl)), tt)

    removal_shaped : (at : ℕ) (e : Edit) (f : Effect) → IsHere at e → AllShaped (removal_for at e.lock f)
    removal_shaped at e effects.Write is = tt
    removal_shaped at e effects.Remove is = ((is.0, (e.lock, refl)), tt)
    removal_shaped at e effects.Keep is = tt

    packed_shaped : (rewrite : Rewrite) → AllShaped (packed_entries dirs packed rewrite)
    packed_shaped rewrite = by packed refl rewrite
      where
        by : (held : Option Path) → packed ≡ held → (r : Rewrite) → AllShaped (packed_entries dirs held r)
        by None is r = tt
        by (Some p) is Unchanged = tt
        by (Some p) is Removed = ((p, is, inr refl), tt)
        by (Some p) is (Text text) = ((p, is, inl refl), tt)

    pub all_shaped : (rewrite : Rewrite) → AllShaped (planned_entries dirs edits packed rewrite)
    all_shaped rewrite =
        both (each (update_entries dirs) 0 edits) (each log_removal_entry 0 edits ++ (packed_entries dirs packed rewrite ++ each removal_entry 0 edits))
        (each_shaped (update_entries dirs) (λ at e is. both (folders_entry at e) (line_entry dirs at e ++ rename_entry dirs at e) (folders_entry_shaped at e is.0 is.3)
        (both (line_entry dirs at e) (rename_entry dirs at e) (line_shaped at e.log is.0 is.3) (rename_shaped at e e.effect is))) [] edits 0 refl refl)
        (both (each log_removal_entry 0 edits) (packed_entries dirs packed rewrite ++ each removal_entry 0 edits)
        (each_shaped log_removal_entry (λ at e is. log_removal_shaped at e e.log is) [] edits 0 refl refl)
        (both (packed_entries dirs packed rewrite) (each removal_entry 0 edits) (packed_shaped rewrite)
        (each_shaped removal_entry (λ at e is. removal_shaped at e e.effect is) [] edits 0 refl refl)))
