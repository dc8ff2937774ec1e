-- A commit of updates for which no log line is due, in the mode that packs none: its plan, and the renames that carry it out.
use Rattle.std.proofs.Common.{◌≡◌, ◌≢◌, inl, inr, ℕ, List, [], ◌∷◌, ◌++◌, Option, Some, None, Bool, true, false, ◌||◌, ◌&&◌, if◌then◌else◌, refl, sym, ap, ◌∙◌, codes, bytes_eq}
use Rattle.std.proofs.lemmas.Bool.{true≢false, cond-false}
use Rattle.std.proofs.lemmas.List.{append_cancel_right}
use Rattle.gix_ref_hash.specs.declared.hash.ObjectId.{ObjectId}
use Rattle.gix_ref_target.specs.PackedRecords.{Record, id_read, written_id}
use Rattle.gix_ref_target.specs.Targets.{TargetValue}
use Rattle.gix_ref_target.specs.Targets.TargetValue.{object_id}
use Rattle.gix_ref_files.specs.Lock.{lock_of}
use Rattle.gix_ref_files.specs.Tree.{Path}
use Rattle.gix_ref_files.specs.Settled.{Sync, SettlesPath}
use Rattle.gix_ref_files.specs.Steps.{Step}
use Rattle.gix_ref_files.specs.Steps.Step.{Rename}
use Rattle.gix_ref_files.specs.DiskSteps.{Synced}
use Rattle.gix_ref_files.specs.DiskSteps.Synced.{With}
use Rattle.gix_ref_theory.specs.Between.{AreEdits, IsEdit, IsPrepared}
use Rattle.gix_ref_theory.specs.Edits.{Edit, Effect, effect, effect_of_change, has_already, alters_change, alters_packed}
use Rattle.gix_ref_theory.specs.Edits.Change.{Update}
use Rattle.gix_ref_theory.specs.Edits.Effect.{Writes, Removes, Keeps}
use Rattle.gix_ref_theory.specs.Edits.Mode.{DeletionsOnly}
use Rattle.gix_ref_theory.specs.OnDisks as disk
use Rattle.gix_ref_theory.specs.OnRealTrees as tree
use Rattle.gix_ref_theory.specs.OnRealTrees.{after_step}
use Rattle.gix_ref_theory.specs.Plan.{plan, writes_of_updates, line_writes, place_writes, log_removal, log_removals, place_removal, loose_removals}
use Rattle.gix_ref_theory.specs.Readings.{HasLaws, Store, reading, records_of_file}
use Rattle.gix_ref_theory.specs.Views.{View, Write, changed_at, file_bytes, IsOwnLock}
use Rattle.gix_ref_theory.specs.Views.Write.{Put}
use Rattle.gix_ref_theory.proofs.Writes.{same_false}

-- an update for which no log line is due
abbrev pub IsLone : Edit → Type 0
IsLone e = (t : TargetValue) × (e.change ≡ Update t) × (e.line ≡ None)

abbrev pub AreLone : List Edit → Type 0
AreLone edits = (e : Edit) → IsEdit e edits → IsLone e

-- the rename of its lock, where its file is written
abbrev pub step_for : Path → Effect → List Step
step_for place (Writes bytes) = Rename (lock_of place) place ∷ []
step_for place Removes = []
step_for place Keeps = []

-- with its syncs
abbrev pub synced_step_for : (Path → List Sync) → Path → Effect → List Synced
synced_step_for syncs place (Writes bytes) = With (Rename (lock_of place) place) (syncs place) ∷ []
synced_step_for syncs place Removes = []
synced_step_for syncs place Keeps = []

-- no text is at another path than before
pub elsewhere_same : (p q : Path) (file : Option (List ℕ)) (view : View) → p ≢ q → changed_at p file view q ≡ view q
elsewhere_same p q file view n = cond-false (bytes_eq p q) file (view q) (same_false p q n)

module _ (s : Store) (view : View) where
  abbrev pub does : Edit → Effect
  does e = effect s DeletionsOnly view e

  abbrev pub steps_for : List Edit → List Step
  steps_for [] = []
  steps_for (e ∷ edits) = step_for (s.place e.name) (does e) ++ steps_for edits

  abbrev pub synced_steps_for : (Path → List Sync) → List Edit → List Synced
  synced_steps_for syncs [] = []
  synced_steps_for syncs (e ∷ edits) = synced_step_for syncs (s.place e.name) (does e) ++ synced_steps_for syncs edits

  abbrev pub puts_for : List Edit → List Write
  puts_for [] = []
  puts_for (e ∷ edits) = place_writes (s.place e.name) (does e) ++ puts_for edits

  -- each lock whose file is written has its text
  abbrev pub HaveTexts : List Edit → View → Type 0
  HaveTexts edits texts = (e : Edit) (bytes : List ℕ) → IsEdit e edits → does e ≡ Writes bytes → texts (lock_of (s.place e.name)) ≡ Some bytes

  -- its file is written or kept
  lone_does : (e : Edit) (lone : IsLone e) → does e ≡ (if e.and_reference then (if has_already (reading s view e.name) lone.0 then Keeps else Writes (s.text_of lone.0)) else Keeps)
  lone_does e lone = ap (λ c. if e.and_reference then effect_of_change s DeletionsOnly (s.key e.name) (reading s view e.name) c else Keeps) lone.1

  kept_or_written : (place : Path) (r already : Bool) (text : List ℕ) → place_removal place (if r then (if already then Keeps else Writes text) else Keeps) ≡ []
  kept_or_written place true true text = refl
  kept_or_written place true false text = refl
  kept_or_written place false already text = refl

  -- it alters no record
  alters_none : (key : Option (List ℕ)) (t : TargetValue) (records : List Record) → alters_change DeletionsOnly key (Update t) records ≡ false
  alters_none None t records = refl
  alters_none (Some key) t records = refl

  pub alters_no : (records : List Record) (edits : List Edit) → AreLone edits → alters_packed s DeletionsOnly records edits ≡ false
  alters_no records [] lone = refl
  alters_no records (e ∷ edits) lone =
      let one = lone e (inl refl) in
      ap (λ a. (e.and_reference && a) || alters_packed s DeletionsOnly records edits) (ap (λ c. alters_change DeletionsOnly (s.key e.name) c records) one.1 ∙ alters_none (s.key e.name) one.0 records)
      ∙ (none e.and_reference (alters_packed s DeletionsOnly records edits) ∙ alters_no records edits (λ f h. lone f (inr h)))
    where
      none : (r rest : Bool) → ((r && false) || rest) ≡ rest
      none true rest = refl
      none false rest = refl

  -- the plan
  updates_are : (edits : List Edit) → AreLone edits → writes_of_updates s DeletionsOnly view edits ≡ puts_for edits
  updates_are [] lone = refl
  updates_are (e ∷ edits) lone =
      let one = lone e (inl refl) in
      ap (λ c. line_writes (s.log e.name) c e.line ++ (place_writes (s.place e.name) (does e) ++ writes_of_updates s DeletionsOnly view edits)) one.1
      ∙ (ap (λ l. line_writes (s.log e.name) (Update one.0) l ++ (place_writes (s.place e.name) (does e) ++ writes_of_updates s DeletionsOnly view edits)) one.2
      ∙ ap (λ ws. place_writes (s.place e.name) (does e) ++ ws) (updates_are edits (λ f h. lone f (inr h))))

  no_log_removals : (edits : List Edit) → AreLone edits → log_removals s edits ≡ []
  no_log_removals [] lone = refl
  no_log_removals (e ∷ edits) lone =
      ap (λ c. log_removal (s.log e.name) c ++ log_removals s edits) (lone e (inl refl)).1 ∙ no_log_removals edits (λ f h. lone f (inr h))

  no_loose_removals : (edits : List Edit) → AreLone edits → loose_removals s DeletionsOnly view edits ≡ []
  no_loose_removals [] lone = refl
  no_loose_removals (e ∷ edits) lone =
      let one = lone e (inl refl) in
      ap (λ ws. ws ++ loose_removals s DeletionsOnly view edits)
      (ap (place_removal (s.place e.name)) (lone_does e one) ∙ kept_or_written (s.place e.name) e.and_reference (has_already (reading s view e.name) one.0) (s.text_of one.0))
      ∙ no_loose_removals edits (λ f h. lone f (inr h))

  -- what is prepared, where its texts read back
  pub prepared : (edits : List Edit) → AreLone edits → AreEdits s edits → ((e : Edit) → IsEdit e edits → s.is_prohibited (s.place e.name) ≡ false) →
      ((e : Edit) (target : TargetValue) → IsEdit e edits → e.change ≡ Update target → s.target_of (s.text_of target) ≡ Some target) →
      ((e : Edit) (id : ObjectId) → IsEdit e edits → e.change ≡ Update (object_id id) → id_read (written_id id) ≡ Some id) → IsPrepared s DeletionsOnly view edits []
  prepared edits lone apart allowed back read = record {
    apart = apart;
    allowed = allowed;
    targets_read_back = back;
    ids_read_back = read;
    records_are_merged = λ alters. never alters;
    records_read_back = λ alters. never alters;
  }
    where
      never : {X : Type 0} → alters_packed s DeletionsOnly (records_of_file s (view s.packed_path)) edits ≡ true → X
      never alters = absurd (true≢false (sym alters ∙ alters_no (records_of_file s (view s.packed_path)) edits lone))

  -- The renames carry the plan out, where each lock has its text.
  module _ (laws : HasLaws s) where
    -- the lock of an edit is neither the place nor the lock of another one
    no_place : (e f : Edit) → s.is_reference e.name ≡ true → s.place e.name ≢ lock_of (s.place f.name)
    no_place e f is = laws.place_is_no_lock e.name (s.place f.name) is

    no_lock : (e f : Edit) → s.place e.name ≢ s.place f.name → lock_of (s.place e.name) ≢ lock_of (s.place f.name)
    no_lock e f apart same = apart (append_cancel_right (s.place e.name) (s.place f.name) (codes ".lock") same)

    pub carries : (locked : List Path) (edits : List Edit) (now : View) → AreEdits s edits → ((e : Edit) → IsEdit e edits → IsOwnLock locked (lock_of (s.place e.name))) →
        HaveTexts edits now →
        tree.CarryOut locked now (steps_for edits) (puts_for edits)
    carries locked [] now apart own holds = refl
    carries locked (e ∷ edits) now apart own holds = by (λ later. carries locked edits later apart.2 (λ f h. own f (inr h))) (does e) refl
      where
        place : Path
        place = s.place e.name

        still : (f : Edit) → IsEdit f edits → after_step (Rename (lock_of place) place) now (lock_of (s.place f.name)) ≡ now (lock_of (s.place f.name))
        still f h =
            elsewhere_same place (lock_of (s.place f.name)) (now (lock_of place)) (changed_at (lock_of place) None now) (no_place e f apart.0)
            ∙ elsewhere_same (lock_of place) (lock_of (s.place f.name)) None now (no_lock e f (apart.1 f h))

        by : ((later : View) → HaveTexts edits later → tree.CarryOut locked later (steps_for edits) (puts_for edits)) → (what : Effect) → does e ≡ what → tree.CarryOut locked now (step_for place what ++ steps_for edits) (place_writes place what ++ puts_for edits)
        by rest (Writes bytes) is = (
          puts_for edits,
          own e (inl refl),
          ap (λ (file : Option (List ℕ)). Put place (file_bytes file) ∷ puts_for edits) (sym (holds e bytes (inl refl) is)),
          rest (after_step (Rename (lock_of place) place) now) (λ f text h is. still f h ∙ holds f text (inr h) is),
        )
        by rest Removes is = rest now (λ f text h is. holds f text (inr h) is)
        by rest Keeps is = rest now (λ f text h is. holds f text (inr h) is)

    -- and so with their syncs, on a disk
    pub carries_on : (Counts : Path → Type 0) (staying : List Path) (syncs : Path → List Sync) (edits : List Edit) (texts : View) → AreEdits s edits →
        ((e : Edit) → IsEdit e edits → Counts (lock_of (s.place e.name)) → ⊥) → ((e : Edit) → IsEdit e edits → SettlesPath staying (s.place e.name) (syncs (s.place e.name))) →
        HaveTexts edits texts →
        disk.CarryOutSynced Counts staying texts (synced_steps_for syncs edits) (puts_for edits)
    carries_on Counts staying syncs [] texts apart own settles holds = refl
    carries_on Counts staying syncs (e ∷ edits) texts apart own settles holds =
        by (λ later. carries_on Counts staying syncs edits later apart.2 (λ f h. own f (inr h)) (λ f h. settles f (inr h))) (does e) refl
      where
        place : Path
        place = s.place e.name

        later : View
        later = changed_at place None (changed_at (lock_of place) None texts)

        still : (f : Edit) → IsEdit f edits → later (lock_of (s.place f.name)) ≡ texts (lock_of (s.place f.name))
        still f h =
            elsewhere_same place (lock_of (s.place f.name)) None (changed_at (lock_of place) None texts) (no_place e f apart.0)
            ∙ elsewhere_same (lock_of place) (lock_of (s.place f.name)) None texts (no_lock e f (apart.1 f h))

        by : ((now : View) → HaveTexts edits now → disk.CarryOutSynced Counts staying now (synced_steps_for syncs edits) (puts_for edits)) → (what : Effect) → does e ≡ what → disk.CarryOutSynced Counts staying texts (synced_step_for syncs place what ++ synced_steps_for syncs edits) (place_writes place what ++ puts_for edits)
        by rest (Writes bytes) is = (
          bytes,
          puts_for edits,
          own e (inl refl),
          λ same. no_place e e apart.0 (sym same),
          holds e bytes (inl refl) is,
          refl,
          settles e (inl refl),
          rest later (λ f text h is. still f h ∙ holds f text (inr h) is),
        )
        by rest Removes is = rest texts (λ f text h is. holds f text (inr h) is)
        by rest Keeps is = rest texts (λ f text h is. holds f text (inr h) is)
