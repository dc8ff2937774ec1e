-- One reference under one edit: what it reads by each file and each list of records.
use Rattle.std.proofs.Common.{◌≡◌, ℕ, List, Option, Some, None, Bool, true, false, ◌&&◌, if◌then◌else◌, cond, refl, sym, ap, ◌∙◌, inl, inr, ◌⊎◌, is_some}
use Rattle.std.proofs.lemmas.Bool.{cond-false, false≢true, true≢false, cases_Bool, and_parts}
use Rattle.gix_ref_hash.specs.declared.hash.ObjectId.{ObjectId}
use Rattle.gix_ref_hash.specs.declared.hash.ObjectId.TheVariants.{Sha1, Sha256}
use Rattle.gix_ref_theory.proofs.Writes.{same}
use Rattle.gix_ref_target.specs.Targets.{TargetValue}
use Rattle.gix_ref_target.specs.Targets.TargetValue.{object_id, symbolic_name}
use Rattle.gix_ref_theory.specs.Edits.{Change, Edit, Effect, Mode, alters_change, effect_of_change, has_already, is_same_id, new_reading, packs, edited_record, removes_packed}
use Rattle.gix_ref_theory.specs.Edits.Change.{Delete, Update}
use Rattle.gix_ref_theory.specs.Edits.Mode.{DeletionsOnly, Packing, PackingAndRemoving}
use Rattle.gix_ref_theory.specs.Edits.Effect.{Keeps, Removes, Writes}
use Rattle.gix_ref_target.specs.PackedRecords.{Record, record_named, id_read, written_id}
use Rattle.gix_ref_theory.specs.Readings.{Reading, Store, as_read, reading, reading_by, reading_of_id, reading_of_loose, reading_of_record, records_of_file}
use Rattle.gix_ref_theory.specs.Readings.Reading.{Absent, Fault, Is}
use Rattle.gix_ref_theory.specs.Views.{View}

-- ids that the test finds the same
same_id : (a b : ObjectId) → is_same_id a b ≡ true → a ≡ b
same_id (Sha1 a) (Sha1 b) h = ap Sha1 (same a b h)
same_id (Sha256 a) (Sha256 b) h = ap Sha256 (same a b h)
same_id (Sha1 a) (Sha256 b) h = absurd (false≢true h)
same_id (Sha256 a) (Sha1 b) h = absurd (false≢true h)

pub already_is : (s : Store) (r : Reading) (t : TargetValue) → has_already r t ≡ true → r ≡ Is (as_read s t)
already_is s (Is (object_id a)) (object_id b) h = ap (λ x. Is (object_id x)) (same_id a b h)
already_is s (Is (object_id a)) (symbolic_name b) h = absurd (false≢true h)
already_is s (Is (symbolic_name a)) t h = absurd (false≢true h)
already_is s Fault t h = absurd (false≢true h)
already_is s Absent t h = absurd (false≢true h)

not_removes : (b : Bool) (x : List ℕ) → cond b Keeps (Writes x) ≡ Removes → ⊥
not_removes true x h = cc
not_removes false x h = cc

abbrev pub effect_of_update : Store → Mode → Option (List ℕ) → Reading → TargetValue → Effect
effect_of_update s mode key old target = effect_of_change s mode key old (Update target)

-- how an effect of an update comes about
pub update_removes : (s : Store) (mode : Mode) (key : Option (List ℕ)) (old : Reading) (t : TargetValue) →
    effect_of_update s mode key old t ≡ Removes → (removes_packed mode ≡ true) × (packs mode key t ≡ true)
update_removes s mode key old t h =
    elim (cases_Bool (removes_packed mode && packs mode key t)) [
      | inl e ↦ and_parts (removes_packed mode) (packs mode key t) e
      | inr e ↦ absurd (not_removes (has_already old t) (s.text_of t) (sym (cond-false (removes_packed mode && packs mode key t) Removes (cond (has_already old t) Keeps (Writes (s.text_of t))) e) ∙ h))
    ]

pub update_leaves : (s : Store) (mode : Mode) (key : Option (List ℕ)) (old : Reading) (t : TargetValue) →
    effect_of_update s mode key old t ≡ Keeps → has_already old t ≡ true
update_leaves s mode key old t h = cases (removes_packed mode && packs mode key t) (has_already old t) (s.text_of t) h
  where
    cases : (a b : Bool) (x : List ℕ) → cond a Removes (cond b Keeps (Writes x)) ≡ Keeps → b ≡ true
    cases true b x h = cc
    cases false true x h = refl
    cases false false x h = cc

pub update_writes : (s : Store) (mode : Mode) (key : Option (List ℕ)) (old : Reading) (t : TargetValue) (text : List ℕ) →
    effect_of_update s mode key old t ≡ Writes text → text ≡ s.text_of t
update_writes s mode key old t text h = cases (removes_packed mode && packs mode key t) (has_already old t) (s.text_of t) h
  where
    cases : (a b : Bool) (x : List ℕ) → cond a Removes (cond b Keeps (Writes x)) ≡ Writes text → text ≡ x
    cases true b x h = cc
    cases false true x h = cc
    cases false false x h = cc

-- what the new records say of the edit's key
abbrev pub IsRecordAfter : Mode → Option (List ℕ) → Edit → Change → List Record → List Record → Type 0
IsRecordAfter mode key e change old new =
    (k : List ℕ) → key ≡ Some k → record_named k new ≡ edited_record mode k e change (record_named k old)

-- the digits of the new id of an update are read as it
abbrev pub ReadsBack : Change → Type 0
ReadsBack change = (id : ObjectId) → change ≡ Update (object_id id) → id_read (written_id id) ≡ Some id

-- a reference whose loose file the edit removes reads by the new records as edited
pub removed : (s : Store) (mode : Mode) (key : Option (List ℕ)) (was : Reading) (e : Edit) (change : Change) (old new : List Record) →
    IsRecordAfter mode key e change old new → ReadsBack change → effect_of_change s mode key was change ≡ Removes →
    reading_by s key None new ≡ new_reading s change
removed s mode None was e Delete old new fact back h = refl
removed s mode (Some k) was e Delete old new fact back h = ap reading_of_record (fact k refl)
removed s DeletionsOnly key was e (Update t) old new fact back h = absurd (false≢true (update_removes s DeletionsOnly key was t h).0)
removed s Packing key was e (Update t) old new fact back h = absurd (false≢true (update_removes s Packing key was t h).0)
removed s PackingAndRemoving None was e (Update t) old new fact back h =
    absurd (false≢true (update_removes s PackingAndRemoving None was t h).1)
removed s PackingAndRemoving (Some k) was e (Update (object_id id)) old new fact back h = ap reading_of_record (fact k refl) ∙ ap reading_of_id (back id refl)
removed s PackingAndRemoving (Some k) was e (Update (symbolic_name n)) old new fact back h =
    absurd (false≢true (update_removes s PackingAndRemoving (Some k) was (symbolic_name n) h).1)

no_record : (o : Option Record) → is_some o ≡ false → reading_of_record o ≡ Absent
no_record None h = refl
no_record (Some r) h = absurd (true≢false h)

-- and by the old ones too, if the edit alters none
pub removed_unaltered : (s : Store) (mode : Mode) (key : Option (List ℕ)) (was : Reading) (change : Change) (old : List Record) →
    alters_change mode key change old ≡ false → effect_of_change s mode key was change ≡ Removes →
    reading_by s key None old ≡ new_reading s change
removed_unaltered s mode None was Delete old a h = refl
removed_unaltered s mode (Some k) was Delete old a h = no_record (record_named k old) a
removed_unaltered s mode None was (Update t) old a h =
    let p = (update_removes s mode None was t h).1 in absurd (no_key mode t p)
  where
    no_key : (mode : Mode) (t : TargetValue) → packs mode None t ≡ true → ⊥
    no_key DeletionsOnly t p = false≢true p
    no_key Packing t p = false≢true p
    no_key PackingAndRemoving t p = false≢true p
removed_unaltered s mode (Some k) was (Update t) old a h =
    absurd (false≢true (sym a ∙ (update_removes s mode (Some k) was t h).1))

-- a reference whose loose file the edit writes
pub written : (s : Store) (mode : Mode) (key : Option (List ℕ)) (was : Reading) (change : Change) (text : List ℕ) (records : List Record) →
    ((t : TargetValue) → change ≡ Update t → s.target_of (s.text_of t) ≡ Some t) →
    effect_of_change s mode key was change ≡ Writes text → reading_by s key (Some text) records ≡ new_reading s change
written s mode key was Delete text records back h = cc
written s mode key was (Update t) text records back h =
    ap (λ x. reading_of_loose s (s.target_of x)) (update_writes s mode key was t text h) ∙ ap (reading_of_loose s) (back t refl)

-- a reference whose loose file the edit leaves read as edited before
pub left_alone : (s : Store) (mode : Mode) (key : Option (List ℕ)) (was : Reading) (change : Change) →
    effect_of_change s mode key was change ≡ Keeps → was ≡ new_reading s change
left_alone s mode key was Delete h = cc
left_alone s mode key was (Update t) h = already_is s was t (update_leaves s mode key was t h)

-- where the loose file is as before, the new records give the old reading or the edited one
pub by_new_records : (s : Store) (mode : Mode) (key : Option (List ℕ)) (file : Option (List ℕ)) (e : Edit) (change : Change) (old new : List Record) →
    IsRecordAfter mode key e change old new → ReadsBack change →
    (reading_by s key file new ≡ reading_by s key file old) ⊎ (reading_by s key file new ≡ new_reading s change)
by_new_records s mode key (Some bytes) e change old new fact back = inl refl
by_new_records s mode None None e change old new fact back = inl refl
by_new_records s mode (Some k) None e Delete old new fact back = inr (ap reading_of_record (fact k refl))
by_new_records s DeletionsOnly (Some k) None e (Update (object_id id)) old new fact back = inl (ap reading_of_record (fact k refl))
by_new_records s DeletionsOnly (Some k) None e (Update (symbolic_name n)) old new fact back = inl (ap reading_of_record (fact k refl))
by_new_records s Packing (Some k) None e (Update (object_id id)) old new fact back = inr (ap reading_of_record (fact k refl) ∙ ap reading_of_id (back id refl))
by_new_records s PackingAndRemoving (Some k) None e (Update (object_id id)) old new fact back = inr (ap reading_of_record (fact k refl) ∙ ap reading_of_id (back id refl))
by_new_records s Packing (Some k) None e (Update (symbolic_name n)) old new fact back = inl (ap reading_of_record (fact k refl))
by_new_records s PackingAndRemoving (Some k) None e (Update (symbolic_name n)) old new fact back = inl (ap reading_of_record (fact k refl))

-- what a reference reads that is not prohibited
pub reading-allowed : (s : Store) (view : View) (name : List ℕ) → s.is_prohibited (s.place name) ≡ false →
    reading s view name ≡ reading_by s (s.key name) (view (s.place name)) (records_of_file s (view s.packed_path))
reading-allowed s view name h =
    cond-false (s.is_prohibited (s.place name)) Fault (reading_by s (s.key name) (view (s.place name)) (records_of_file s (view s.packed_path))) h

-- names with one place and one key read the same
pub reading-alike : (s : Store) (view : View) (m n : List ℕ) → s.place m ≡ s.place n → s.key m ≡ s.key n → reading s view m ≡ reading s view n
reading-alike s view m n e f =
    ap (λ q. if s.is_prohibited q then Fault else reading_by s (s.key m) (view q) (records_of_file s (view s.packed_path))) e
    ∙ ap (λ k. if s.is_prohibited (s.place n) then Fault else reading_by s k (view (s.place n)) (records_of_file s (view s.packed_path))) f

-- views that agree at the place and at `packed-refs` read the same
pub reading-same : (s : Store) (view left : View) (name : List ℕ) → left (s.place name) ≡ view (s.place name) → left s.packed_path ≡ view s.packed_path →
    reading s left name ≡ reading s view name
reading-same s view left name e f =
    ap (λ x. if s.is_prohibited (s.place name) then Fault else reading_by s (s.key name) x (records_of_file s (left s.packed_path))) e
    ∙ ap (λ x. if s.is_prohibited (s.place name) then Fault else reading_by s (s.key name) (view (s.place name)) (records_of_file s x)) f
