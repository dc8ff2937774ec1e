-- Each view that a stop leaves is between, and in order.
use Rattle.std.proofs.Common.{◌≡◌, ◌≢◌, ℕ, List, ◌∷◌, ◌++◌, Option, Some, None, Bool, true, false, if◌then◌else◌, cond, refl, sym, ap, ◌∙◌, subst, inl, inr, ◌⊎◌, append_assoc}
use Rattle.std.proofs.lemmas.Bool.{cond-true, cond-false, false≢true, true≢false, cases_Bool}
use Rattle.std.specs.Bool.{MatchBool}
use Rattle.gix_ref_theory.proofs.Writes.{IsCut, is_touched, left_content, in_order}
use Rattle.gix_ref_theory.proofs.ReadingLemmas.{reading-allowed, reading-alike, IsRecordAfter, removed, removed_unaltered, written, left_alone, by_new_records, update_removes, update_writes}
use Rattle.gix_ref_theory.proofs.Plans.{place_apart, is_reference_at, Leads, DoesNotWrite, plan_makes, untouched_append, touched_left, touched_right, updates_avoid, log_removals_avoid, packed_avoids, place_removals_avoid, updates_touch, packed_touches, packed_is_kept, alters_at, merged_cases, edited_cases, updates-append, edit_in_front, edit_behind, apart_in_front}
use Rattle.gix_ref_theory.specs.Between.{AreEdits, InOrder, IsEdit, MergesRecords, IsNewFile, IsOther, IsPackedFile, IsPrepared, NoDeletionFirst, ReadsAsBefore, ReadsAsEdited}
use Rattle.gix_ref_theory.specs.Edits.{Change, Edit, Effect, Mode, alters_change, alters_packed, edited_reading, effect, effect_of_change, file_of_records, is_deletion, merged_record, new_reading, edited_record, removes_packed}
use Rattle.gix_ref_theory.specs.Edits.Change.{Delete, Update}
use Rattle.gix_ref_theory.specs.Edits.Effect.{Keeps, Removes, Writes}
use Rattle.gix_ref_theory.specs.Plan.{log_removals, loose_removals, packed_writes, plan, writes_of_updates}
use Rattle.gix_ref_target.specs.PackedRecords.{Record, record_named}
use Rattle.gix_ref_theory.specs.Readings.{HasLaws, Reading, Store, reading, reading_by, reading_of_record, records_of_file}
use Rattle.gix_ref_theory.specs.Readings.Reading.{Fault}
use Rattle.gix_ref_theory.specs.Views.{Ending, View, Write}

pub cond_same : {A : Type 0} (b : Bool) (x : A) → cond b x x ≡ x
cond_same true x = refl
cond_same false x = refl

module _ (s : Store) (laws : HasLaws s) (mode : Mode) (view : View) (edits : List Edit) (merged : List Record) (p : IsPrepared s mode view edits merged)
    (ending : Ending) (left : View) (l : IsCut ending (plan s mode view edits merged) view left) where
  pub is_ref : (e : Edit) → IsEdit e edits → s.is_reference e.name ≡ true
  is_ref e he = is_reference_at s edits p.apart e he

  -- the file at an edit's place
  pub at_place : (e : Edit) → IsEdit e edits → (file : Option (List ℕ)) → Leads (effect s mode view e) file →
      left (s.place e.name) ≡ cond (is_touched (s.place e.name) l.done) file (view (s.place e.name))
  at_place e he file leads =
      left_content ending (plan s mode view edits merged) view left (s.place e.name) file
      (plan_makes s mode view (s.place e.name) file edits merged
      (λ f hf. (
        λ same. laws.place_is_no_log e.name f.name (is_ref e he) (is_ref f hf) (sym same),
        λ same. subst (λ (x : Edit). Leads (effect s mode view x) file) (sym (place_apart s edits p.apart f e hf he same)) leads,
      ))
      (λ same. absurd (laws.place_is_not_packed e.name (is_ref e he) (sym same))))
      l

  pub at_packed : left s.packed_path ≡ cond (is_touched s.packed_path l.done) (file_of_records s merged) (view s.packed_path)
  at_packed =
      left_content ending (plan s mode view edits merged) view left s.packed_path (file_of_records s merged)
      (plan_makes s mode view s.packed_path (file_of_records s merged) edits merged
      (λ f hf. (laws.log_is_not_packed f.name (is_ref f hf), λ same. absurd (laws.place_is_not_packed f.name (is_ref f hf) same)))
      (λ same. refl))
      l

  -- a path of no edit keeps its file
  at_other : (path : List ℕ) → ((f : Edit) → IsEdit f edits → (s.log f.name ≢ path) × (f.and_reference ≡ true → s.place f.name ≢ path)) → s.packed_path ≢ path →
      left path ≡ view path
  at_other path none notpacked =
      left_content ending (plan s mode view edits merged) view left path (view path)
      (plan_makes s mode view path (view path) edits merged
      (λ f hf. ((none f hf).0, λ same. leads f (cases_Bool f.and_reference) (λ a. (none f hf).1 a same)))
      (λ same. absurd (notpacked same)))
      l
      ∙ cond_same (is_touched path l.done) (view path)
    where
      leads : (f : Edit) → (f.and_reference ≡ true) ⊎ (f.and_reference ≡ false) → (f.and_reference ≡ true → ⊥) → Leads (effect s mode view f) (view path)
      leads f (inl a) never = absurd (never a)
      leads f (inr a) never =
          subst (λ x. Leads x (view path)) (sym (cond-false f.and_reference (effect_of_change s mode (s.key f.name) (reading s view f.name) f.change) Keeps a)) tt

  packed_not_in_updates : is_touched s.packed_path (writes_of_updates s mode view edits) ≡ false
  packed_not_in_updates =
      updates_avoid s mode view s.packed_path edits
      (λ f hf. (laws.log_is_not_packed f.name (is_ref f hf), λ same. absurd (laws.place_is_not_packed f.name (is_ref f hf) same)))

  packed_altered : is_touched s.packed_path l.done ≡ true → alters_packed s mode (records_of_file s (view s.packed_path)) edits ≡ true
  packed_altered d = cases (cases_Bool (alters_packed s mode (records_of_file s (view s.packed_path)) edits))
    where
      cases : (alters_packed s mode (records_of_file s (view s.packed_path)) edits ≡ true) ⊎ (alters_packed s mode (records_of_file s (view s.packed_path)) edits ≡ false) →
          alters_packed s mode (records_of_file s (view s.packed_path)) edits ≡ true
      cases (inl h) = h
      cases (inr h) =
          let none : is_touched s.packed_path (plan s mode view edits merged) ≡ false =
          untouched_append s.packed_path (writes_of_updates s mode view edits) (log_removals s edits ++ (packed_writes s mode view edits merged ++ loose_removals s mode view edits))
          packed_not_in_updates
          (untouched_append s.packed_path (log_removals s edits) (packed_writes s mode view edits merged ++ loose_removals s mode view edits)
          (log_removals_avoid s s.packed_path edits (λ f hf. laws.log_is_not_packed f.name (is_ref f hf)))
          (untouched_append s.packed_path (packed_writes s mode view edits merged) (loose_removals s mode view edits)
          (packed_is_kept s mode view edits merged s.packed_path h)
          (place_removals_avoid s mode view s.packed_path edits (λ f hf. laws.place_is_not_packed f.name (is_ref f hf))))) in
          let some : is_touched s.packed_path (plan s mode view edits merged) ≡ true =
          subst (λ x. is_touched s.packed_path x ≡ true) l.whole (touched_left s.packed_path l.done l.rest d) in
          absurd (false≢true (sym none ∙ some))

  records_left : (b : Bool) → is_touched s.packed_path l.done ≡ b → records_of_file s (left s.packed_path) ≡ cond b merged (records_of_file s (view s.packed_path))
  records_left true e =
      ap (records_of_file s) (at_packed ∙ cond-true (is_touched s.packed_path l.done) (file_of_records s merged) (view s.packed_path) e) ∙ p.records_read_back (packed_altered e)
  records_left false e =
      ap (records_of_file s) (at_packed ∙ cond-false (is_touched s.packed_path l.done) (file_of_records s merged) (view s.packed_path) e)

  reading_left : (e : Edit) → IsEdit e edits → (file : Option (List ℕ)) (records : List Record) → left (s.place e.name) ≡ file → records_of_file s (left s.packed_path) ≡ records →
      reading s left e.name ≡ reading_by s (s.key e.name) file records
  reading_left e he file records at_file at_records =
      reading-allowed s left e.name (p.allowed e he)
      ∙ (ap (λ x. reading_by s (s.key e.name) x (records_of_file s (left s.packed_path))) at_file ∙ ap (λ x. reading_by s (s.key e.name) file x) at_records)

  -- the record of an edit's key
  fact : is_touched s.packed_path l.done ≡ true → (e : Edit) → IsEdit e edits → e.and_reference ≡ true → IsRecordAfter mode (s.key e.name) e e.change (records_of_file s (view s.packed_path)) merged
  fact d e he a k key = (p.records_are_merged (packed_altered d)).each k ∙ at_key (merged_cases s mode edits k (record_named k (records_of_file s (view s.packed_path))))
    where
      at_key : ((f : Edit) × IsEdit f edits × (f.and_reference ≡ true) × (s.key f.name ≡ Some k) × (merged_record s mode edits k (record_named k (records_of_file s (view s.packed_path))) ≡ edited_record mode k f f.change (record_named k (records_of_file s (view s.packed_path)))))
          ⊎ ((merged_record s mode edits k (record_named k (records_of_file s (view s.packed_path))) ≡ record_named k (records_of_file s (view s.packed_path))) × ((f : Edit) → IsEdit f edits → f.and_reference ≡ true → s.key f.name ≢ Some k)) →
          merged_record s mode edits k (record_named k (records_of_file s (view s.packed_path))) ≡ edited_record mode k e e.change (record_named k (records_of_file s (view s.packed_path)))
      at_key (inl x) =
          x.4 ∙ ap (λ (y : Edit). edited_record mode k y y.change (record_named k (records_of_file s (view s.packed_path))))
          (place_apart s edits p.apart x.0 e x.1 he (laws.one_place x.0.name e.name k (is_ref x.0 x.1) (is_ref e he) x.3 key))
      at_key (inr x) = absurd (x.1 e he a key)

  pub edited_at : (e : Edit) → IsEdit e edits → e.and_reference ≡ true → (old : Reading) → edited_reading s edits e.name old ≡ new_reading s e.change
  edited_at e he a old = at_edit (edited_cases s edits e.name old)
    where
      at_edit : ((f : Edit) × IsEdit f edits × (f.and_reference ≡ true) × (s.place f.name ≡ s.place e.name) × (edited_reading s edits e.name old ≡ new_reading s f.change))
          ⊎ ((edited_reading s edits e.name old ≡ old) × ((f : Edit) → IsEdit f edits → f.and_reference ≡ true → s.place f.name ≢ s.place e.name)) →
          edited_reading s edits e.name old ≡ new_reading s e.change
      at_edit (inl x) = x.4 ∙ ap (λ (y : Edit). new_reading s y.change) (place_apart s edits p.apart x.0 e x.1 he x.3)
      at_edit (inr x) = absurd (x.1 e he a refl)

  pub effect_is : (e : Edit) → e.and_reference ≡ true → effect s mode view e ≡ effect_of_change s mode (s.key e.name) (reading s view e.name) e.change
  effect_is e a = cond-true e.and_reference (effect_of_change s mode (s.key e.name) (reading s view e.name) e.change) Keeps a

  -- The order of the writes.

  places_in_order : (e : Edit) → IsEdit e edits → DoesNotWrite (effect s mode view e) → is_touched (s.place e.name) (writes_of_updates s mode view edits) ≡ false
  places_in_order e he never =
      updates_avoid s mode view (s.place e.name) edits
      (λ f hf. (
        λ same. laws.place_is_no_log e.name f.name (is_ref e he) (is_ref f hf) (sym same),
        λ same. subst (λ (x : Edit). DoesNotWrite (effect s mode view x)) (sym (place_apart s edits p.apart f e hf he same)) never,
      ))

  -- a loose file is removed after `packed-refs` is replaced
  removed_after_packed : (e : Edit) → IsEdit e edits → effect s mode view e ≡ Removes → is_touched (s.place e.name) l.done ≡ true →
      alters_packed s mode (records_of_file s (view s.packed_path)) edits ≡ true → is_touched s.packed_path l.done ≡ true
  removed_after_packed e he w d alters =
      let front = writes_of_updates s mode view edits ++ (log_removals s edits ++ packed_writes s mode view edits merged) in
      let whole : l.done ++ l.rest ≡ front ++ loose_removals s mode view edits =
      l.whole
      ∙ (ap (λ x. writes_of_updates s mode view edits ++ x) (sym (append_assoc (log_removals s edits) (packed_writes s mode view edits merged) (loose_removals s mode view edits)))
      ∙ sym (append_assoc (writes_of_updates s mode view edits) (log_removals s edits ++ packed_writes s mode view edits merged) (loose_removals s mode view edits))) in
      in_order front (loose_removals s mode view edits) l.done l.rest (s.place e.name) s.packed_path whole d
      (untouched_append (s.place e.name) (writes_of_updates s mode view edits) (log_removals s edits ++ packed_writes s mode view edits merged)
      (places_in_order e he (subst DoesNotWrite (sym w) tt))
      (untouched_append (s.place e.name) (log_removals s edits) (packed_writes s mode view edits merged)
      (log_removals_avoid s (s.place e.name) edits (λ f hf same. laws.place_is_no_log e.name f.name (is_ref e he) (is_ref f hf) (sym same)))
      (packed_avoids s mode view (s.place e.name) edits merged (λ same. laws.place_is_not_packed e.name (is_ref e he) (sym same)))))
      (touched_right s.packed_path (writes_of_updates s mode view edits) (log_removals s edits ++ packed_writes s mode view edits merged)
      (touched_right s.packed_path (log_removals s edits) (packed_writes s mode view edits merged) (packed_touches s mode view edits merged alters)))

  -- after a step after the updates, each update is written
  updates_done : (later path : List ℕ) → is_touched later l.done ≡ true → is_touched later (writes_of_updates s mode view edits) ≡ false →
      is_touched path (writes_of_updates s mode view edits) ≡ true → is_touched path l.done ≡ true
  updates_done later path d n t =
      in_order (writes_of_updates s mode view edits) (log_removals s edits ++ (packed_writes s mode view edits merged ++ loose_removals s mode view edits))
      l.done l.rest later path l.whole d n t

  -- What an edited reference reads.

  pub reads_written : (e : Edit) → IsEdit e edits → e.and_reference ≡ true → (text : List ℕ) → effect s mode view e ≡ Writes text → is_touched (s.place e.name) l.done ≡ true →
      reading s left e.name ≡ new_reading s e.change
  reads_written e he a text w d =
      reading_left e he (Some text) (records_of_file s (left s.packed_path))
      (at_place e he (Some text) (subst (λ x. Leads x (Some text)) (sym w) refl)
      ∙ cond-true (is_touched (s.place e.name) l.done) (Some text) (view (s.place e.name)) d)
      refl
      ∙ written s mode (s.key e.name) (reading s view e.name) e.change text (records_of_file s (left s.packed_path))
      (λ t c. p.targets_read_back e t he c) (sym (effect_is e a) ∙ w)

  pub reads_removed : (e : Edit) → IsEdit e edits → e.and_reference ≡ true → effect s mode view e ≡ Removes → is_touched (s.place e.name) l.done ≡ true →
      reading s left e.name ≡ new_reading s e.change
  reads_removed e he a w d = cases (cases_Bool (is_touched s.packed_path l.done)) (cases_Bool (alters_change mode (s.key e.name) e.change (records_of_file s (view s.packed_path))))
    where
      gone : left (s.place e.name) ≡ None
      gone = at_place e he None (subst (λ x. Leads x None) (sym w) refl)
          ∙ cond-true (is_touched (s.place e.name) l.done) None (view (s.place e.name)) d

      cases : (is_touched s.packed_path l.done ≡ true) ⊎ (is_touched s.packed_path l.done ≡ false) →
          (alters_change mode (s.key e.name) e.change (records_of_file s (view s.packed_path)) ≡ true) ⊎ (alters_change mode (s.key e.name) e.change (records_of_file s (view s.packed_path)) ≡ false) →
          reading s left e.name ≡ new_reading s e.change
      cases (inl k) alters =
          reading_left e he None merged gone (records_left true k)
          ∙ removed s mode (s.key e.name) (reading s view e.name) e e.change (records_of_file s (view s.packed_path)) merged (fact k e he a) (λ id c. p.ids_read_back e id he c) (sym (effect_is e a) ∙ w)
      cases (inr k) (inl alters) =
          absurd (false≢true (sym k ∙ removed_after_packed e he w d (alters_at s mode (records_of_file s (view s.packed_path)) edits e he a alters)))
      cases (inr k) (inr alters) =
          reading_left e he None (records_of_file s (view s.packed_path)) gone (records_left false k)
          ∙ removed_unaltered s mode (s.key e.name) (reading s view e.name) e.change (records_of_file s (view s.packed_path)) alters (sym (effect_is e a) ∙ w)

  -- where its loose file is as before
  reads_kept : (e : Edit) → IsEdit e edits → e.and_reference ≡ true → left (s.place e.name) ≡ view (s.place e.name) →
      ((is_touched s.packed_path l.done ≡ true) × (ReadsAsBefore s view left e.name ⊎ (reading s left e.name ≡ new_reading s e.change))) ⊎ ReadsAsBefore s view left e.name
  reads_kept e he a kept = cases (cases_Bool (is_touched s.packed_path l.done))
    where
      cases : (is_touched s.packed_path l.done ≡ true) ⊎ (is_touched s.packed_path l.done ≡ false) →
          ((is_touched s.packed_path l.done ≡ true) × (ReadsAsBefore s view left e.name ⊎ (reading s left e.name ≡ new_reading s e.change))) ⊎ ReadsAsBefore s view left e.name
      cases (inl k) =
          let now = reading_left e he (view (s.place e.name)) merged kept (records_left true k) in
          inl (
            k,
            elim (by_new_records s mode (s.key e.name) (view (s.place e.name)) e e.change (records_of_file s (view s.packed_path)) merged (fact k e he a) (λ id c. p.ids_read_back e id he c)) [
              | inl x ↦ inl (now ∙ (x ∙ sym (reading-allowed s view e.name (p.allowed e he))))
              | inr x ↦ inr (now ∙ x)
            ],
          )
      cases (inr k) = inr (reading_left e he (view (s.place e.name)) (records_of_file s (view s.packed_path)) kept (records_left false k) ∙ sym (reading-allowed s view e.name (p.allowed e he)))

  -- an untouched place, whatever the effect
  pub kept_if_untouched : (e : Edit) → IsEdit e edits → (f : Effect) → effect s mode view e ≡ f → is_touched (s.place e.name) l.done ≡ false → left (s.place e.name) ≡ view (s.place e.name)
  kept_if_untouched e he (Writes text) w d =
      at_place e he (Some text) (subst (λ x. Leads x (Some text)) (sym w) refl) ∙ cond-false (is_touched (s.place e.name) l.done) (Some text) (view (s.place e.name)) d
  kept_if_untouched e he Removes w d =
      at_place e he None (subst (λ x. Leads x None) (sym w) refl) ∙ cond-false (is_touched (s.place e.name) l.done) None (view (s.place e.name)) d
  kept_if_untouched e he Keeps w d =
      at_place e he (view (s.place e.name)) (subst (λ x. Leads x (view (s.place e.name))) (sym w) tt) ∙ cond-false (is_touched (s.place e.name) l.done) (view (s.place e.name)) (view (s.place e.name)) d

  pub kept_if_left : (e : Edit) → IsEdit e edits → effect s mode view e ≡ Keeps → left (s.place e.name) ≡ view (s.place e.name)
  kept_if_left e he w =
      at_place e he (view (s.place e.name)) (subst (λ x. Leads x (view (s.place e.name))) (sym w) tt) ∙ cond_same (is_touched (s.place e.name) l.done) (view (s.place e.name))

  -- it reads as before or as edited
  pub reads_at : (e : Edit) → IsEdit e edits → e.and_reference ≡ true → ReadsAsBefore s view left e.name ⊎ (reading s left e.name ≡ new_reading s e.change)
  reads_at e he a = by_effect (effect s mode view e) refl (cases_Bool (is_touched (s.place e.name) l.done))
    where
      kept : left (s.place e.name) ≡ view (s.place e.name) → ReadsAsBefore s view left e.name ⊎ (reading s left e.name ≡ new_reading s e.change)
      kept k = elim (reads_kept e he a k) [ inl x ↦ x.1 | inr x ↦ inl x ]

      by_effect : (f : Effect) → effect s mode view e ≡ f → (is_touched (s.place e.name) l.done ≡ true) ⊎ (is_touched (s.place e.name) l.done ≡ false) →
          ReadsAsBefore s view left e.name ⊎ (reading s left e.name ≡ new_reading s e.change)
      by_effect f w (inr d) = kept (kept_if_untouched e he f w d)
      by_effect (Writes text) w (inl d) = inr (reads_written e he a text w d)
      by_effect Removes w (inl d) = inr (reads_removed e he a w d)
      by_effect Keeps w (inl d) = kept (kept_if_left e he w)

  -- a reference at no edited place
  pub reads_elsewhere : (name : List ℕ) → s.is_reference name ≡ true → ((e : Edit) → IsEdit e edits → e.and_reference ≡ true → s.place e.name ≢ s.place name) →
      ReadsAsBefore s view left name
  reads_elsewhere name is none =
      ap (λ r. if s.is_prohibited (s.place name) then Fault else r)
      (ap (λ x. reading_by s (s.key name) x (records_of_file s (left s.packed_path))) kept
      ∙ by_records (view (s.place name)) (s.key name) refl (cases_Bool (is_touched s.packed_path l.done)))
    where
      kept : left (s.place name) ≡ view (s.place name)
      kept = at_other (s.place name)
          (λ f hf. (λ same. laws.place_is_no_log name f.name is (is_ref f hf) (sym same), λ a. none f hf a))
          (λ same. laws.place_is_not_packed name is (sym same))

      at_key : (k : List ℕ) → s.key name ≡ Some k → (old : Option Record) → merged_record s mode edits k old ≡ old
      at_key k key old = elim (merged_cases s mode edits k old) [
        | inl x ↦ absurd (none x.0 x.1 x.2 (laws.one_place x.0.name name k (is_ref x.0 x.1) is x.3 key))
        | inr x ↦ x.0
      ]

      by_records : (file : Option (List ℕ)) (key : Option (List ℕ)) → s.key name ≡ key → (is_touched s.packed_path l.done ≡ true) ⊎ (is_touched s.packed_path l.done ≡ false) →
          reading_by s key file (records_of_file s (left s.packed_path)) ≡ reading_by s key file (records_of_file s (view s.packed_path))
      by_records file key e (inr k) = ap (reading_by s key file) (records_left false k)
      by_records (Some bytes) key e (inl k) = refl
      by_records None None e (inl k) = refl
      by_records None (Some key) e (inl k) =
          ap reading_of_record (ap (record_named key) (records_left true k) ∙ ((p.records_are_merged (packed_altered k)).each key ∙ at_key key e (record_named key (records_of_file s (view s.packed_path)))))

  pub readings : (name : List ℕ) → s.is_reference name ≡ true → ReadsAsBefore s view left name ⊎ ReadsAsEdited s edits view left name
  readings name is = by_edit (edited_cases s edits name (reading s view name))
    where
      by_edit : ((e : Edit) × IsEdit e edits × (e.and_reference ≡ true) × (s.place e.name ≡ s.place name) × (edited_reading s edits name (reading s view name) ≡ new_reading s e.change))
          ⊎ ((edited_reading s edits name (reading s view name) ≡ reading s view name) × ((e : Edit) → IsEdit e edits → e.and_reference ≡ true → s.place e.name ≢ s.place name)) →
          ReadsAsBefore s view left name ⊎ ReadsAsEdited s edits view left name
      by_edit (inr x) = inl (reads_elsewhere name is x.1)
      by_edit (inl x) =
          let key = laws.one_key x.0.name name (is_ref x.0 x.1) is x.3 in
          let moved : (t : View) → reading s t name ≡ reading s t x.0.name =
          λ t. reading-alike s t name x.0.name (sym x.3) (sym key) in
          elim (reads_at x.0 x.1 x.2) [
            | inl h ↦ inl (moved left ∙ (h ∙ sym (moved view)))
            | inr h ↦ inr (moved left ∙ (h ∙ sym x.4))
          ]

  -- The order of the updates.

  -- an update whose write, if there is one, is done reads as edited, where loose files are kept
  update_shows : removes_packed mode ≡ false → (u : Edit) → IsEdit u edits → is_deletion u.change ≡ false →
      ((text : List ℕ) → effect s mode view u ≡ Writes text → is_touched (s.place u.name) l.done ≡ true) → ReadsAsEdited s edits view left u.name
  update_shows keeps u hu up written_so = by_reference (cases_Bool u.and_reference)
    where
      by_change : (c : Change) → is_deletion c ≡ false → effect_of_change s mode (s.key u.name) (reading s view u.name) c ≡ Removes → ⊥
      by_change Delete up h = true≢false up
      by_change (Update t) up h = false≢true (sym keeps ∙ (update_removes s mode (s.key u.name) (reading s view u.name) t h).0)

      by_effect : u.and_reference ≡ true → (f : Effect) → effect s mode view u ≡ f → reading s left u.name ≡ new_reading s u.change
      by_effect a (Writes text) w = reads_written u hu a text w (written_so text w)
      by_effect a Removes w = absurd (by_change u.change up (sym (effect_is u a) ∙ w))
      by_effect a Keeps w = elim (reads_at u hu a) [
        | inl h ↦ h ∙ left_alone s mode (s.key u.name) (reading s view u.name) u.change (sym (effect_is u a) ∙ w)
        | inr h ↦ h
      ]

      by_reference : (u.and_reference ≡ true) ⊎ (u.and_reference ≡ false) → ReadsAsEdited s edits view left u.name
      by_reference (inl a) = by_effect a (effect s mode view u) refl ∙ sym (edited_at u hu a (reading s view u.name))
      by_reference (inr a) = elim (edited_cases s edits u.name (reading s view u.name)) [
        | inl x ↦ absurd (false≢true (sym a ∙ (ap (λ (y : Edit). y.and_reference) (sym (place_apart s edits p.apart x.0 u x.1 hu x.3)) ∙ x.2)))
        | inr x ↦ reads_elsewhere u.name (is_ref u hu) x.1 ∙ sym x.0
      ]

  -- a reference that reads otherwise than before has its place or `packed-refs` changed
  shows : (e : Edit) → IsEdit e edits → e.and_reference ≡ true → (ReadsAsBefore s view left e.name → ⊥) →
      (is_touched (s.place e.name) l.done ≡ true) ⊎ (is_touched s.packed_path l.done ≡ true)
  shows e he a differs = cases (cases_Bool (is_touched (s.place e.name) l.done))
    where
      cases : (is_touched (s.place e.name) l.done ≡ true) ⊎ (is_touched (s.place e.name) l.done ≡ false) →
          (is_touched (s.place e.name) l.done ≡ true) ⊎ (is_touched s.packed_path l.done ≡ true)
      cases (inl d) = inl d
      cases (inr d) = elim (reads_kept e he a (kept_if_untouched e he (effect s mode view e) refl d)) [
        | inl x ↦ inr x.0
        | inr x ↦ absurd (differs x)
      ]

  deletion_removes : (e : Edit) → e.and_reference ≡ true → is_deletion e.change ≡ true → DoesNotWrite (effect s mode view e)
  deletion_removes e a deleted = subst DoesNotWrite (sym (effect_is e a)) (by_change e.change deleted)
    where
      by_change : (c : Change) → is_deletion c ≡ true → DoesNotWrite (effect_of_change s mode (s.key e.name) (reading s view e.name) c)
      by_change Delete deleted = tt
      by_change (Update t) deleted = absurd (false≢true deleted)

  pub no_deletion_first : removes_packed mode ≡ false → NoDeletionFirst s edits view left
  no_deletion_first keeps d hd a deleted differs u hu up =
      update_shows keeps u hu up (λ text w. done text w (shows d hd a differs))
    where
      done : (text : List ℕ) → effect s mode view u ≡ Writes text → (is_touched (s.place d.name) l.done ≡ true) ⊎ (is_touched s.packed_path l.done ≡ true) →
          is_touched (s.place u.name) l.done ≡ true
      done text w (inl t) = updates_done (s.place d.name) (s.place u.name) t (places_in_order d hd (deletion_removes d a deleted)) (updates_touch s mode view edits u text hu w)
      done text w (inr t) = updates_done s.packed_path (s.place u.name) t packed_not_in_updates (updates_touch s mode view edits u text hu w)

  pub in_edit_order : removes_packed mode ≡ false → InOrder s edits view left
  in_edit_order keeps before u later whole up a differs e he eup =
      update_shows keeps e (here e he) eup (λ text w. done text w (shows u hu a differs))
    where
      hu : IsEdit u edits
      hu = subst (IsEdit u) whole (edit_behind before u later)

      here : (f : Edit) → IsEdit f before → IsEdit f edits
      here f h = subst (IsEdit f) whole (edit_in_front f before (u ∷ later) h)

      back : List Write
      back = writes_of_updates s mode view (u ∷ later) ++ (log_removals s edits ++ (packed_writes s mode view edits merged ++ loose_removals s mode view edits))

      cut : l.done ++ l.rest ≡ writes_of_updates s mode view before ++ (writes_of_updates s mode view (u ∷ later) ++ (log_removals s edits ++ (packed_writes s mode view edits merged ++ loose_removals s mode view edits)))
      cut =
          l.whole
          ∙ (ap (λ x. x ++ (log_removals s edits ++ (packed_writes s mode view edits merged ++ loose_removals s mode view edits)))
          (ap (writes_of_updates s mode view) (sym whole) ∙ updates-append s mode view before (u ∷ later))
          ∙ append_assoc (writes_of_updates s mode view before) (writes_of_updates s mode view (u ∷ later)) (log_removals s edits ++ (packed_writes s mode view edits merged ++ loose_removals s mode view edits)))

      apart_before : (f : Edit) → IsEdit f before → s.place f.name ≢ s.place u.name
      apart_before f h = apart_in_front s before u later (subst (AreEdits s) (sym whole) p.apart) f h

      done : (text : List ℕ) → effect s mode view e ≡ Writes text → (is_touched (s.place u.name) l.done ≡ true) ⊎ (is_touched s.packed_path l.done ≡ true) →
          is_touched (s.place e.name) l.done ≡ true
      done text w (inl t) =
          in_order (writes_of_updates s mode view before) (writes_of_updates s mode view (u ∷ later) ++ (log_removals s edits ++ (packed_writes s mode view edits merged ++ loose_removals s mode view edits)))
          l.done l.rest (s.place u.name) (s.place e.name) cut t
          (updates_avoid s mode view (s.place u.name) before
          (λ f hf. (λ same. laws.place_is_no_log u.name f.name (is_ref u hu) (is_ref f (here f hf)) (sym same), λ same. absurd (apart_before f hf same))))
          (updates_touch s mode view before e text he w)
      done text w (inr t) =
          in_order (writes_of_updates s mode view before) (writes_of_updates s mode view (u ∷ later) ++ (log_removals s edits ++ (packed_writes s mode view edits merged ++ loose_removals s mode view edits)))
          l.done l.rest s.packed_path (s.place e.name) cut t
          (updates_avoid s mode view s.packed_path before
          (λ f hf. (laws.log_is_not_packed f.name (is_ref f (here f hf)), λ same. absurd (laws.place_is_not_packed f.name (is_ref f (here f hf)) same))))
          (updates_touch s mode view before e text he w)

  -- The files.

  new_file : (e : Edit) (was : Reading) (c : Change) (f : Effect) (file : Option (List ℕ)) → effect_of_change s mode (s.key e.name) was c ≡ f → Leads f file →
      (f ≡ Keeps → ⊥) → IsNewFile s mode e c file
  new_file e was Delete (Writes text) file w leads moved = cc
  new_file e was Delete Removes file w leads moved = sym leads
  new_file e was Delete Keeps file w leads moved = cc
  new_file e was (Update t) (Writes text) file w leads moved = inl (sym leads ∙ ap Some (update_writes s mode (s.key e.name) was t text w))
  new_file e was (Update t) Removes file w leads moved =
      let h = update_removes s mode (s.key e.name) was t w in inr (h.0, h.1, sym leads)
  new_file e was (Update t) Keeps file w leads moved = absurd (moved refl)

  pub places : (e : Edit) → IsEdit e edits → e.and_reference ≡ true →
      (left (s.place e.name) ≡ view (s.place e.name)) ⊎ IsNewFile s mode e e.change (left (s.place e.name))
  places e he a = by_effect (effect s mode view e) refl (cases_Bool (is_touched (s.place e.name) l.done))
    where
      by_effect : (f : Effect) → effect s mode view e ≡ f → (is_touched (s.place e.name) l.done ≡ true) ⊎ (is_touched (s.place e.name) l.done ≡ false) →
          (left (s.place e.name) ≡ view (s.place e.name)) ⊎ IsNewFile s mode e e.change (left (s.place e.name))
      by_effect f w (inr d) = inl (kept_if_untouched e he f w d)
      by_effect Keeps w (inl d) = inl (kept_if_left e he w)
      by_effect (Writes text) w (inl d) =
          let file = at_place e he (Some text) (subst (λ x. Leads x (Some text)) (sym w) refl) ∙ cond-true (is_touched (s.place e.name) l.done) (Some text) (view (s.place e.name)) d in
          inr (new_file e (reading s view e.name) e.change (Writes text) (left (s.place e.name)) (sym (effect_is e a) ∙ w) (sym file) (λ h. cc))
      by_effect Removes w (inl d) =
          let file = at_place e he None (subst (λ x. Leads x None) (sym w) refl) ∙ cond-true (is_touched (s.place e.name) l.done) None (view (s.place e.name)) d in
          inr (new_file e (reading s view e.name) e.change Removes (left (s.place e.name)) (sym (effect_is e a) ∙ w) (sym file) (λ h. cc))

  pub packed : (left s.packed_path ≡ view s.packed_path) ⊎ IsPackedFile s mode edits (view s.packed_path) (left s.packed_path)
  packed = cases (cases_Bool (is_touched s.packed_path l.done))
    where
      cases : (is_touched s.packed_path l.done ≡ true) ⊎ (is_touched s.packed_path l.done ≡ false) →
          (left s.packed_path ≡ view s.packed_path) ⊎ IsPackedFile s mode edits (view s.packed_path) (left s.packed_path)
      cases (inr d) = inl (at_packed ∙ cond-false (is_touched s.packed_path l.done) (file_of_records s merged) (view s.packed_path) d)
      cases (inl d) =
          inr (subst (λ b. MatchBool b ((new : List Record) × MergesRecords s mode edits (records_of_file s (view s.packed_path)) new × (left s.packed_path ≡ file_of_records s new))
          (left s.packed_path ≡ view s.packed_path)) (sym (packed_altered d))
          (merged, p.records_are_merged (packed_altered d), at_packed ∙ cond-true (is_touched s.packed_path l.done) (file_of_records s merged) (view s.packed_path) d))

  pub others : (locked : List (List ℕ)) (path : List ℕ) → IsOther s locked edits path → left path ≡ view path
  others locked path other = at_other path (λ f hf. (other.no_log f hf, other.no_place f hf)) other.not_packed
