-- The view after a whole plan.
use Rattle.std.proofs.Common.{◌≡◌, ℕ, List, [], ◌++◌, Some, None, true, false, cond, refl, sym, ap, ◌∙◌, subst, inl, inr, ◌⊎◌, append-nil}
use Rattle.std.proofs.lemmas.Bool.{cond-true, cases_Bool}
use Rattle.std.specs.Bool.{MatchBool}
use Rattle.gix_ref_theory.proofs.Writes.{IsCut, is_touched, content}
use Rattle.gix_ref_theory.proofs.ReadingLemmas.{reading-alike, left_alone}
use Rattle.gix_ref_theory.proofs.Plans.{Leads, touched_left, touched_right, updates_touch, removals_touch, packed_touches, edited_cases}
use Rattle.gix_ref_theory.proofs.Logs.{behind_makes, behind_touched, updated, after-append}
use Rattle.gix_ref_theory.proofs.Stops as stop
use Rattle.gix_ref_theory.specs.Between.{IsCommitted, IsCommittedFile, IsEdit, MergesRecords, IsPackedFile, IsPrepared, ReadsAsEdited, committed_log}
use Rattle.gix_ref_theory.specs.Edits.{Edit, Effect, Mode, alters_packed, effect, file_of_records, new_reading, removes_log}
use Rattle.gix_ref_theory.specs.Edits.Effect.{Keeps, Removes, Writes}
use Rattle.gix_ref_theory.specs.Plan.{log_removals, loose_removals, packed_writes, plan, writes_of_updates}
use Rattle.gix_ref_target.specs.PackedRecords.{Record}
use Rattle.gix_ref_theory.specs.Readings.{HasLaws, Store, reading, records_of_file}
use Rattle.gix_ref_theory.specs.Views.{IsSameView, View, after}
use Rattle.gix_ref_theory.specs.Views.Ending.{Stop}

abbrev all : (s : Store) (mode : Mode) (view : View) (edits : List Edit) (merged : List Record) (left : View) → IsSameView left (after (plan s mode view edits merged) view) →
    IsCut Stop (plan s mode view edits merged) view left
all s mode view edits merged left whole =
    record { done = plan s mode view edits merged; rest = []; whole = append-nil (plan s mode view edits merged); stopped = whole }

module _ (s : Store) (laws : HasLaws s) (mode : Mode) (view : View) (edits : List Edit) (merged : List Record) (p : IsPrepared s mode view edits merged)
    (left : View) (whole : IsSameView left (after (plan s mode view edits merged) view)) where
  written : (e : Edit) → IsEdit e edits → (text : List ℕ) → effect s mode view e ≡ Writes text → is_touched (s.place e.name) (plan s mode view edits merged) ≡ true
  written e he text w =
      touched_left (s.place e.name) (writes_of_updates s mode view edits) (log_removals s edits ++ (packed_writes s mode view edits merged ++ loose_removals s mode view edits))
      (updates_touch s mode view edits e text he w)

  removed : (e : Edit) → IsEdit e edits → effect s mode view e ≡ Removes → is_touched (s.place e.name) (plan s mode view edits merged) ≡ true
  removed e he w =
      touched_right (s.place e.name) (writes_of_updates s mode view edits) (log_removals s edits ++ (packed_writes s mode view edits merged ++ loose_removals s mode view edits))
      (touched_right (s.place e.name) (log_removals s edits) (packed_writes s mode view edits merged ++ loose_removals s mode view edits)
      (touched_right (s.place e.name) (packed_writes s mode view edits merged) (loose_removals s mode view edits)
      (removals_touch s mode view edits e he w)))

  reads_new : (e : Edit) → IsEdit e edits → e.and_reference ≡ true → (f : Effect) → effect s mode view e ≡ f → reading s left e.name ≡ new_reading s e.change
  reads_new e he a (Writes text) w = stop.reads_written s laws mode view edits merged p Stop left (all s mode view edits merged left whole) e he a text w (written e he text w)
  reads_new e he a Removes w = stop.reads_removed s laws mode view edits merged p Stop left (all s mode view edits merged left whole) e he a w (removed e he w)
  reads_new e he a Keeps w = elim (stop.reads_at s laws mode view edits merged p Stop left (all s mode view edits merged left whole) e he a) [
    | inl h ↦ h ∙ left_alone s mode (s.key e.name) (reading s view e.name) e.change (sym (stop.effect_is s laws mode view edits merged p Stop left (all s mode view edits merged left whole) e a) ∙ w)
    | inr h ↦ h
  ]

  readings : (name : List ℕ) → s.is_reference name ≡ true → ReadsAsEdited s edits view left name
  readings name is = elim (edited_cases s edits name (reading s view name)) [
    | inr x ↦ stop.reads_elsewhere s laws mode view edits merged p Stop left (all s mode view edits merged left whole) name is x.1 ∙ sym x.0
    | inl x ↦
        let key = laws.one_key x.0.name name (stop.is_ref s laws mode view edits merged p Stop left (all s mode view edits merged left whole) x.0 x.1) is x.3 in
        reading-alike s left name x.0.name (sym x.3) (sym key) ∙ (reads_new x.0 x.1 x.2 (effect s mode view x.0) refl ∙ sym x.4)
  ]

  places : (e : Edit) → IsEdit e edits → IsCommittedFile (effect s mode view e) (view (s.place e.name)) (left (s.place e.name))
  places e he = by_effect (effect s mode view e) refl
    where
      by_effect : (f : Effect) → effect s mode view e ≡ f → IsCommittedFile f (view (s.place e.name)) (left (s.place e.name))
      by_effect (Writes text) w =
          stop.at_place s laws mode view edits merged p Stop left (all s mode view edits merged left whole) e he (Some text) (subst (λ x. Leads x (Some text)) (sym w) refl)
          ∙ cond-true (is_touched (s.place e.name) (plan s mode view edits merged)) (Some text) (view (s.place e.name)) (written e he text w)
      by_effect Removes w =
          stop.at_place s laws mode view edits merged p Stop left (all s mode view edits merged left whole) e he None (subst (λ x. Leads x None) (sym w) refl)
          ∙ cond-true (is_touched (s.place e.name) (plan s mode view edits merged)) None (view (s.place e.name)) (removed e he w)
      by_effect Keeps w = stop.kept_if_left s laws mode view edits merged p Stop left (all s mode view edits merged left whole) e he w

  logs : (e : Edit) → IsEdit e edits → left (s.log e.name) ≡ committed_log s edits (s.log e.name) (view (s.log e.name))
  logs e he =
      let behind = log_removals s edits ++ (packed_writes s mode view edits merged ++ loose_removals s mode view edits) in
      whole (s.log e.name)
      ∙ (ap (λ (t : View). t (s.log e.name)) (after-append (writes_of_updates s mode view edits) behind view)
      ∙ (content behind (after (writes_of_updates s mode view edits) view) (s.log e.name) None (behind_makes s laws mode view edits merged p Stop left (all s mode view edits merged left whole) e he)
      ∙ (ap (λ b. cond b None (after (writes_of_updates s mode view edits) view (s.log e.name))) (behind_touched s laws mode view edits merged p Stop left (all s mode view edits merged left whole) e he)
      ∙ ap (cond (removes_log s edits (s.log e.name)) None) (updated s laws mode view edits merged p Stop left (all s mode view edits merged left whole) e he))))

  packed : IsPackedFile s mode edits (view s.packed_path) (left s.packed_path)
  packed = cases (cases_Bool (alters_packed s mode (records_of_file s (view s.packed_path)) edits)) (stop.packed s laws mode view edits merged p Stop left (all s mode view edits merged left whole))
    where
      cases : (alters_packed s mode (records_of_file s (view s.packed_path)) edits ≡ true) ⊎ (alters_packed s mode (records_of_file s (view s.packed_path)) edits ≡ false) →
          (left s.packed_path ≡ view s.packed_path) ⊎ IsPackedFile s mode edits (view s.packed_path) (left s.packed_path) →
          IsPackedFile s mode edits (view s.packed_path) (left s.packed_path)
      cases k (inr h) = h
      cases (inr k) (inl h) =
          subst (λ b. MatchBool b ((new : List Record) × MergesRecords s mode edits (records_of_file s (view s.packed_path)) new × (left s.packed_path ≡ file_of_records s new))
          (left s.packed_path ≡ view s.packed_path)) (sym k) h
      cases (inl k) (inl h) =
          let t = touched_right s.packed_path (writes_of_updates s mode view edits) (log_removals s edits ++ (packed_writes s mode view edits merged ++ loose_removals s mode view edits))
          (touched_right s.packed_path (log_removals s edits) (packed_writes s mode view edits merged ++ loose_removals s mode view edits)
          (touched_left s.packed_path (packed_writes s mode view edits merged) (loose_removals s mode view edits)
          (packed_touches s mode view edits merged k))) in
          subst (λ b. MatchBool b ((new : List Record) × MergesRecords s mode edits (records_of_file s (view s.packed_path)) new × (left s.packed_path ≡ file_of_records s new))
          (left s.packed_path ≡ view s.packed_path)) (sym k)
          (merged, p.records_are_merged k, stop.at_packed s laws mode view edits merged p Stop left (all s mode view edits merged left whole) ∙ cond-true (is_touched s.packed_path (plan s mode view edits merged)) (file_of_records s merged) (view s.packed_path) t)

  pub committed : (locked : List (List ℕ)) → IsCommitted s mode locked edits view left
  committed locked = record {
    readings = readings;
    places = places;
    logs = logs;
    packed = packed;
    others = stop.others s laws mode view edits merged p Stop left (all s mode view edits merged left whole) locked;
  }
