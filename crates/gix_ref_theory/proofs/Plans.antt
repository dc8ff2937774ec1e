-- Which writes of a plan change which path.
use Rattle.std.proofs.Common.{◌≡◌, ◌≢◌, ℕ, List, [], ◌∷◌, ◌++◌, Option, Some, None, Bool, true, false, ◌||◌, ◌&&◌, if◌then◌else◌, refl, sym, ap, ◌∙◌, subst, inl, inr, bytes_eq, ◌⊎◌, append_assoc}
use Rattle.std.proofs.lemmas.Bool.{cond-true, cond-false, false≢true, cases_Bool, and_parts, and_from, or_left, or_right, or_from}
use Rattle.gix_ref_theory.proofs.Writes.{is_touched, same, same_true, same_false, AllMake, AllMake-append, touched_append}
use Rattle.gix_ref_theory.specs.Between.{AreEdits, IsEdit}
use Rattle.gix_ref_theory.specs.Edits.{Change, Edit, Effect, Mode, alters_change, alters_packed, edited_reading, effect, file_of_records, is_key, merged_record, new_reading, edited_record}
use Rattle.gix_ref_theory.specs.Edits.Change.{Delete, Update}
use Rattle.gix_ref_theory.specs.Edits.Effect.{Keeps, Removes, Writes}
use Rattle.gix_ref_target.specs.Layout.{below}
use Rattle.gix_ref_theory.specs.Plan.{file_writes, line_writes, log_removal, log_removals, loose_removals, packed_writes, place_removal, place_writes, plan, writes_of_updates}
use Rattle.gix_ref_target.specs.PackedRecords.{Record}
use Rattle.gix_ref_theory.specs.Readings.{Reading, Store, records_of_file}
use Rattle.gix_ref_theory.specs.Views.{View, Write}

pub place_apart : (s : Store) (edits : List Edit) → AreEdits s edits → (e f : Edit) → IsEdit e edits → IsEdit f edits →
    s.place e.name ≡ s.place f.name → e ≡ f
place_apart s [] apart e f he hf same' = absurd he
place_apart s (g ∷ edits) apart e f (inl he) (inl hf) same' = sym he ∙ hf
place_apart s (g ∷ edits) apart e f (inl he) (inr hf) same' =
    absurd (apart.1 f hf (ap (λ (x : Edit). s.place x.name) he ∙ same'))
place_apart s (g ∷ edits) apart e f (inr he) (inl hf) same' =
    absurd (apart.1 e he (ap (λ (x : Edit). s.place x.name) hf ∙ sym same'))
place_apart s (g ∷ edits) apart e f (inr he) (inr hf) same' = place_apart s edits apart.2 e f he hf same'

pub is_reference_at : (s : Store) (edits : List Edit) → AreEdits s edits → (e : Edit) → IsEdit e edits → s.is_reference e.name ≡ true
is_reference_at s [] apart e h = absurd h
is_reference_at s (f ∷ edits) apart e (inl h) = ap (λ (x : Edit). s.is_reference x.name) (sym h) ∙ apart.0
is_reference_at s (f ∷ edits) apart e (inr h) = is_reference_at s edits apart.2 e h

-- this effect leaves this file
abbrev pub Leads : Effect → Option (List ℕ) → Type 0
Leads (Writes bytes) file = Some bytes ≡ file
Leads Removes file = None ≡ file
Leads Keeps file = Unit {0}

abbrev pub DoesNotWrite : Effect → Type 0
DoesNotWrite (Writes bytes) = ⊥
DoesNotWrite Removes = Unit {0}
DoesNotWrite Keeps = Unit {0}

-- no log of these edits is this path, and each edit whose place it is leaves this file there
abbrev pub AllLead : Store → Mode → View → List ℕ → Option (List ℕ) → List Edit → Type 0
AllLead s mode view path file edits =
    (e : Edit) → IsEdit e edits → (s.log e.name ≢ path) × (s.place e.name ≡ path → Leads (effect s mode view e) file)

makes_log_steps : (path : List ℕ) (file : Option (List ℕ)) (log : List ℕ) (c : Change) (line : Option (List ℕ)) → log ≢ path → AllMake path file (line_writes log c line)
makes_log_steps path file log Delete line n = tt
makes_log_steps path file log (Update t) None n = tt
makes_log_steps path file log (Update t) (Some line) n = (n, tt)

makes_place_steps : (path : List ℕ) (file : Option (List ℕ)) (place : List ℕ) (f : Effect) → (place ≡ path → Leads f file) → AllMake path file (place_writes place f)
makes_place_steps path file place (Writes bytes) h = (h, tt)
makes_place_steps path file place Removes h = tt
makes_place_steps path file place Keeps h = tt

makes_updates : (s : Store) (mode : Mode) (view : View) (path : List ℕ) (file : Option (List ℕ)) (edits : List Edit) →
    AllLead s mode view path file edits → AllMake path file (writes_of_updates s mode view edits)
makes_updates s mode view path file [] h = tt
makes_updates s mode view path file (e ∷ edits) h =
    let here = h e (inl refl) in
    AllMake-append path file (line_writes (s.log e.name) e.change e.line) (place_writes (s.place e.name) (effect s mode view e) ++ writes_of_updates s mode view edits)
    (makes_log_steps path file (s.log e.name) e.change e.line here.0)
    (AllMake-append path file (place_writes (s.place e.name) (effect s mode view e)) (writes_of_updates s mode view edits)
    (makes_place_steps path file (s.place e.name) (effect s mode view e) here.1)
    (makes_updates s mode view path file edits (λ f k. h f (inr k))))

makes_log_removal : (path : List ℕ) (file : Option (List ℕ)) (log : List ℕ) (c : Change) → log ≢ path → AllMake path file (log_removal log c)
makes_log_removal path file log Delete n = (λ e. absurd (n e), tt)
makes_log_removal path file log (Update t) n = tt

makes_log_removals : (s : Store) (path : List ℕ) (file : Option (List ℕ)) (edits : List Edit) →
    ((e : Edit) → IsEdit e edits → s.log e.name ≢ path) → AllMake path file (log_removals s edits)
makes_log_removals s path file [] h = tt
makes_log_removals s path file (e ∷ edits) h =
    AllMake-append path file (log_removal (s.log e.name) e.change) (log_removals s edits)
    (makes_log_removal path file (s.log e.name) e.change (h e (inl refl)))
    (makes_log_removals s path file edits (λ f k. h f (inr k)))

makes_steps_to : (path : List ℕ) (file : Option (List ℕ)) (to : List ℕ) (new : Option (List ℕ)) → (to ≡ path → new ≡ file) → AllMake path file (file_writes to new)
makes_steps_to path file to None h = (h, tt)
makes_steps_to path file to (Some bytes) h = (h, tt)

pub makes_packed : (s : Store) (mode : Mode) (view : View) (path : List ℕ) (file : Option (List ℕ)) (edits : List Edit) (merged : List Record) →
    (s.packed_path ≡ path → file_of_records s merged ≡ file) → AllMake path file (packed_writes s mode view edits merged)
makes_packed s mode view path file edits merged h =
    cases (alters_packed s mode (records_of_file s (view s.packed_path)) edits)
  where
    cases : (b : Bool) → AllMake path file (if b then file_writes s.packed_path (file_of_records s merged) else [])
    cases true = makes_steps_to path file s.packed_path (file_of_records s merged) h
    cases false = tt

makes_place_removal : (path : List ℕ) (file : Option (List ℕ)) (place : List ℕ) (f : Effect) → (place ≡ path → Leads f file) → AllMake path file (place_removal place f)
makes_place_removal path file place (Writes bytes) h = tt
makes_place_removal path file place Removes h = (h, tt)
makes_place_removal path file place Keeps h = tt

pub makes_place_removals : (s : Store) (mode : Mode) (view : View) (path : List ℕ) (file : Option (List ℕ)) (edits : List Edit) →
    ((e : Edit) → IsEdit e edits → s.place e.name ≡ path → Leads (effect s mode view e) file) → AllMake path file (loose_removals s mode view edits)
makes_place_removals s mode view path file [] h = tt
makes_place_removals s mode view path file (e ∷ edits) h =
    AllMake-append path file (place_removal (s.place e.name) (effect s mode view e)) (loose_removals s mode view edits)
    (makes_place_removal path file (s.place e.name) (effect s mode view e) (h e (inl refl)))
    (makes_place_removals s mode view path file edits (λ f k. h f (inr k)))

-- every step of a plan that changes this path leaves this file there
pub plan_makes : (s : Store) (mode : Mode) (view : View) (path : List ℕ) (file : Option (List ℕ)) (edits : List Edit) (merged : List Record) →
    AllLead s mode view path file edits → (s.packed_path ≡ path → file_of_records s merged ≡ file) → AllMake path file (plan s mode view edits merged)
plan_makes s mode view path file edits merged h p =
    AllMake-append path file (writes_of_updates s mode view edits) (log_removals s edits ++ (packed_writes s mode view edits merged ++ loose_removals s mode view edits))
    (makes_updates s mode view path file edits h)
    (AllMake-append path file (log_removals s edits) (packed_writes s mode view edits merged ++ loose_removals s mode view edits)
    (makes_log_removals s path file edits (λ e k. (h e k).0))
    (AllMake-append path file (packed_writes s mode view edits merged) (loose_removals s mode view edits)
    (makes_packed s mode view path file edits merged p)
    (makes_place_removals s mode view path file edits (λ e k. (h e k).1))))

-- Which paths a part of the plan leaves alone.

pub untouched_append : (path : List ℕ) (a b : List Write) → is_touched path a ≡ false → is_touched path b ≡ false → is_touched path (a ++ b) ≡ false
untouched_append path a b h k = touched_append path a b ∙ or_from (is_touched path a) (is_touched path b) h k

pub touched_left : (path : List ℕ) (a b : List Write) → is_touched path a ≡ true → is_touched path (a ++ b) ≡ true
touched_left path a b h = touched_append path a b ∙ or_left (is_touched path a) (is_touched path b) h

pub touched_right : (path : List ℕ) (a b : List Write) → is_touched path b ≡ true → is_touched path (a ++ b) ≡ true
touched_right path a b h = touched_append path a b ∙ or_right (is_touched path a) (is_touched path b) h

one_step : (p path : List ℕ) → p ≢ path → (bytes_eq p path || false) ≡ false
one_step p path n = or_from (bytes_eq p path) false (same_false p path n) refl

log_steps_avoid : (path log : List ℕ) (c : Change) (line : Option (List ℕ)) → log ≢ path → is_touched path (line_writes log c line) ≡ false
log_steps_avoid path log Delete line n = refl
log_steps_avoid path log (Update t) None n = refl
log_steps_avoid path log (Update t) (Some line) n = one_step log path n

place_steps_avoid : (path place : List ℕ) (f : Effect) → (place ≡ path → DoesNotWrite f) → is_touched path (place_writes place f) ≡ false
place_steps_avoid path place (Writes bytes) h = one_step place path h
place_steps_avoid path place Removes h = refl
place_steps_avoid path place Keeps h = refl

pub updates_avoid : (s : Store) (mode : Mode) (view : View) (path : List ℕ) (edits : List Edit) →
    ((e : Edit) → IsEdit e edits → (s.log e.name ≢ path) × (s.place e.name ≡ path → DoesNotWrite (effect s mode view e))) →
    is_touched path (writes_of_updates s mode view edits) ≡ false
updates_avoid s mode view path [] h = refl
updates_avoid s mode view path (e ∷ edits) h =
    let here = h e (inl refl) in
    untouched_append path (line_writes (s.log e.name) e.change e.line) (place_writes (s.place e.name) (effect s mode view e) ++ writes_of_updates s mode view edits)
    (log_steps_avoid path (s.log e.name) e.change e.line here.0)
    (untouched_append path (place_writes (s.place e.name) (effect s mode view e)) (writes_of_updates s mode view edits)
    (place_steps_avoid path (s.place e.name) (effect s mode view e) here.1)
    (updates_avoid s mode view path edits (λ f k. h f (inr k))))

log_removal_avoids : (path log : List ℕ) (c : Change) → log ≢ path → is_touched path (log_removal log c) ≡ false
log_removal_avoids path log Delete n = one_step log path n
log_removal_avoids path log (Update t) n = refl

pub log_removals_avoid : (s : Store) (path : List ℕ) (edits : List Edit) → ((e : Edit) → IsEdit e edits → s.log e.name ≢ path) →
    is_touched path (log_removals s edits) ≡ false
log_removals_avoid s path [] h = refl
log_removals_avoid s path (e ∷ edits) h =
    untouched_append path (log_removal (s.log e.name) e.change) (log_removals s edits)
    (log_removal_avoids path (s.log e.name) e.change (h e (inl refl))) (log_removals_avoid s path edits (λ f k. h f (inr k)))

pub packed_avoids : (s : Store) (mode : Mode) (view : View) (path : List ℕ) (edits : List Edit) (merged : List Record) → s.packed_path ≢ path →
    is_touched path (packed_writes s mode view edits merged) ≡ false
packed_avoids s mode view path edits merged n = cases (alters_packed s mode (records_of_file s (view s.packed_path)) edits) (file_of_records s merged)
  where
    cases : (b : Bool) (file : Option (List ℕ)) → is_touched path (if b then file_writes s.packed_path file else []) ≡ false
    cases true None = one_step s.packed_path path n
    cases true (Some bytes) = one_step s.packed_path path n
    cases false file = refl

place_removal_avoids : (path place : List ℕ) (f : Effect) → place ≢ path → is_touched path (place_removal place f) ≡ false
place_removal_avoids path place (Writes bytes) n = refl
place_removal_avoids path place Removes n = one_step place path n
place_removal_avoids path place Keeps n = refl

pub place_removals_avoid : (s : Store) (mode : Mode) (view : View) (path : List ℕ) (edits : List Edit) →
    ((e : Edit) → IsEdit e edits → s.place e.name ≢ path) → is_touched path (loose_removals s mode view edits) ≡ false
place_removals_avoid s mode view path [] h = refl
place_removals_avoid s mode view path (e ∷ edits) h =
    untouched_append path (place_removal (s.place e.name) (effect s mode view e)) (loose_removals s mode view edits)
    (place_removal_avoids path (s.place e.name) (effect s mode view e) (h e (inl refl))) (place_removals_avoid s mode view path edits (λ f k. h f (inr k)))

-- Which paths it does change.

at_itself : (path : List ℕ) (b : Bool) → (bytes_eq path path || b) ≡ true
at_itself path b = or_left (bytes_eq path path) b (same_true path path refl)

pub updates_touch : (s : Store) (mode : Mode) (view : View) (edits : List Edit) (e : Edit) (bytes : List ℕ) → IsEdit e edits →
    effect s mode view e ≡ Writes bytes → is_touched (s.place e.name) (writes_of_updates s mode view edits) ≡ true
updates_touch s mode view [] e bytes h w = absurd h
updates_touch s mode view (f ∷ edits) e bytes (inl h) w =
    touched_right (s.place e.name) (line_writes (s.log f.name) f.change f.line) (place_writes (s.place f.name) (effect s mode view f) ++ writes_of_updates s mode view edits)
    (touched_left (s.place e.name) (place_writes (s.place f.name) (effect s mode view f)) (writes_of_updates s mode view edits)
    (subst (λ (x : Edit). is_touched (s.place e.name) (place_writes (s.place x.name) (effect s mode view x)) ≡ true) (sym h)
    (subst (λ x. is_touched (s.place e.name) (place_writes (s.place e.name) x) ≡ true) (sym w) (at_itself (s.place e.name) false))))
updates_touch s mode view (f ∷ edits) e bytes (inr h) w =
    touched_right (s.place e.name) (line_writes (s.log f.name) f.change f.line) (place_writes (s.place f.name) (effect s mode view f) ++ writes_of_updates s mode view edits)
    (touched_right (s.place e.name) (place_writes (s.place f.name) (effect s mode view f)) (writes_of_updates s mode view edits)
    (updates_touch s mode view edits e bytes h w))

pub removals_touch : (s : Store) (mode : Mode) (view : View) (edits : List Edit) (e : Edit) → IsEdit e edits →
    effect s mode view e ≡ Removes → is_touched (s.place e.name) (loose_removals s mode view edits) ≡ true
removals_touch s mode view [] e h w = absurd h
removals_touch s mode view (f ∷ edits) e (inl h) w =
    touched_left (s.place e.name) (place_removal (s.place f.name) (effect s mode view f)) (loose_removals s mode view edits)
    (subst (λ (x : Edit). is_touched (s.place e.name) (place_removal (s.place x.name) (effect s mode view x)) ≡ true) (sym h)
    (subst (λ x. is_touched (s.place e.name) (place_removal (s.place e.name) x) ≡ true) (sym w) (at_itself (s.place e.name) false)))
removals_touch s mode view (f ∷ edits) e (inr h) w =
    touched_right (s.place e.name) (place_removal (s.place f.name) (effect s mode view f)) (loose_removals s mode view edits)
    (removals_touch s mode view edits e h w)

pub packed_touches : (s : Store) (mode : Mode) (view : View) (edits : List Edit) (merged : List Record) →
    alters_packed s mode (records_of_file s (view s.packed_path)) edits ≡ true → is_touched s.packed_path (packed_writes s mode view edits merged) ≡ true
packed_touches s mode view edits merged h =
    subst (λ b. is_touched s.packed_path (if b then file_writes s.packed_path (file_of_records s merged) else []) ≡ true) (sym h) (to (file_of_records s merged))
  where
    to : (file : Option (List ℕ)) → is_touched s.packed_path (file_writes s.packed_path file) ≡ true
    to None = at_itself s.packed_path false
    to (Some bytes) = at_itself s.packed_path false

pub packed_is_kept : (s : Store) (mode : Mode) (view : View) (edits : List Edit) (merged : List Record) (path : List ℕ) →
    alters_packed s mode (records_of_file s (view s.packed_path)) edits ≡ false → is_touched path (packed_writes s mode view edits merged) ≡ false
packed_is_kept s mode view edits merged path h =
    subst (λ b. is_touched path (if b then file_writes s.packed_path (file_of_records s merged) else []) ≡ false) (sym h) refl

-- What the edits say of a key and of a place.

pub alters_at : (s : Store) (mode : Mode) (records : List Record) (edits : List Edit) (e : Edit) → IsEdit e edits → e.and_reference ≡ true →
    alters_change mode (s.key e.name) e.change records ≡ true → alters_packed s mode records edits ≡ true
alters_at s mode records [] e h a c = absurd h
alters_at s mode records (f ∷ edits) e (inl h) a c =
    or_left (f.and_reference && alters_change mode (s.key f.name) f.change records) (alters_packed s mode records edits)
    (subst (λ (x : Edit). (x.and_reference && alters_change mode (s.key x.name) x.change records) ≡ true) (sym h)
    (and_from e.and_reference (alters_change mode (s.key e.name) e.change records) a c))
alters_at s mode records (f ∷ edits) e (inr h) a c =
    or_right (f.and_reference && alters_change mode (s.key f.name) f.change records) (alters_packed s mode records edits) (alters_at s mode records edits e h a c)

is_key_some : (o : Option (List ℕ)) (k : List ℕ) → is_key o k ≡ true → o ≡ Some k
is_key_some None k h = absurd (false≢true h)
is_key_some (Some j) k h = ap Some (same j k h)

is_key_true : (o : Option (List ℕ)) (k : List ℕ) → o ≡ Some k → is_key o k ≡ true
is_key_true None k h = cc
is_key_true (Some j) k h = let e : j ≡ k = cc in same_true j k e

-- the one edit that has a key, or none has it
pub merged_cases : (s : Store) (mode : Mode) (edits : List Edit) (k : List ℕ) (old : Option Record) →
    ((e : Edit) × IsEdit e edits × (e.and_reference ≡ true) × (s.key e.name ≡ Some k) × (merged_record s mode edits k old ≡ edited_record mode k e e.change old))
    ⊎ ((merged_record s mode edits k old ≡ old) × ((e : Edit) → IsEdit e edits → e.and_reference ≡ true → s.key e.name ≢ Some k))
merged_cases s mode [] k old = inr (refl, λ e h a x. absurd h)
merged_cases s mode (f ∷ edits) k old =
    elim (cases_Bool (f.and_reference && is_key (s.key f.name) k)) [
      | inl h ↦
          let parts = and_parts f.and_reference (is_key (s.key f.name) k) h in
          inl (
            f,
            inl refl,
            parts.0,
            is_key_some (s.key f.name) k parts.1,
            cond-true (f.and_reference && is_key (s.key f.name) k) (edited_record mode k f f.change old) (merged_record s mode edits k old) h,
          )
      | inr h ↦
          let step = cond-false (f.and_reference && is_key (s.key f.name) k) (edited_record mode k f f.change old) (merged_record s mode edits k old) h in
          elim (merged_cases s mode edits k old) [
            | inl x ↦ inl (x.0, inr x.1, x.2, x.3, step ∙ x.4)
            | inr x ↦ inr (
              step ∙ x.0,
              λ e m a key. elim m [
                | inl here ↦ false≢true (sym h ∙ and_from f.and_reference (is_key (s.key f.name) k)
                    (ap (λ (y : Edit). y.and_reference) here ∙ a) (is_key_true (s.key f.name) k (ap (λ (y : Edit). s.key y.name) here ∙ key)))
                | inr below ↦ x.1 e below a key
              ],
            )
          ]
    ]

abbrev edits_place : Store → Edit → List ℕ → Bool
edits_place s e name = e.and_reference && bytes_eq (s.place e.name) (s.place name)

-- the one edit that has a place, or none has it
pub edited_cases : (s : Store) (edits : List Edit) (name : List ℕ) (old : Reading) →
    ((e : Edit) × IsEdit e edits × (e.and_reference ≡ true) × (s.place e.name ≡ s.place name) × (edited_reading s edits name old ≡ new_reading s e.change))
    ⊎ ((edited_reading s edits name old ≡ old) × ((e : Edit) → IsEdit e edits → e.and_reference ≡ true → s.place e.name ≢ s.place name))
edited_cases s [] name old = inr (refl, λ e h a x. absurd h)
edited_cases s (f ∷ edits) name old =
    elim (cases_Bool (edits_place s f name)) [
      | inl h ↦
          let parts = and_parts f.and_reference (bytes_eq (s.place f.name) (s.place name)) h in
          inl (
            f,
            inl refl,
            parts.0,
            same (s.place f.name) (s.place name) parts.1,
            cond-true (edits_place s f name) (new_reading s f.change) (edited_reading s edits name old) h,
          )
      | inr h ↦
          let step = cond-false (edits_place s f name) (new_reading s f.change) (edited_reading s edits name old) h in
          elim (edited_cases s edits name old) [
            | inl x ↦ inl (x.0, inr x.1, x.2, x.3, step ∙ x.4)
            | inr x ↦ inr (
              step ∙ x.0,
              λ e m a place. elim m [
                | inl here ↦ false≢true (sym h ∙ and_from f.and_reference (bytes_eq (s.place f.name) (s.place name))
                    (ap (λ (y : Edit). y.and_reference) here ∙ a) (same_true (s.place f.name) (s.place name) (ap (λ (y : Edit). s.place y.name) here ∙ place)))
                | inr below ↦ x.1 e below a place
              ],
            )
          ]
    ]

pub updates-append : (s : Store) (mode : Mode) (view : View) (a b : List Edit) →
    writes_of_updates s mode view (a ++ b) ≡ writes_of_updates s mode view a ++ writes_of_updates s mode view b
updates-append s mode view [] b = refl
updates-append s mode view (e ∷ a) b =
    let logs = line_writes (s.log e.name) e.change e.line in
    let places = place_writes (s.place e.name) (effect s mode view e) in
    ap (λ x. logs ++ (places ++ x)) (updates-append s mode view a b)
    ∙ (ap (λ x. logs ++ x) (sym (append_assoc places (writes_of_updates s mode view a) (writes_of_updates s mode view b)))
    ∙ sym (append_assoc logs (places ++ writes_of_updates s mode view a) (writes_of_updates s mode view b)))

pub edit_in_front : (e : Edit) (a b : List Edit) → IsEdit e a → IsEdit e (a ++ b)
edit_in_front e [] b h = absurd h
edit_in_front e (x ∷ a) b (inl h) = inl h
edit_in_front e (x ∷ a) b (inr h) = inr (edit_in_front e a b h)

pub edit_behind : (a : List Edit) (e : Edit) (b : List Edit) → IsEdit e (a ++ e ∷ b)
edit_behind [] e b = inl refl
edit_behind (x ∷ a) e b = inr (edit_behind a e b)

pub apart_in_front : (s : Store) (a : List Edit) (e : Edit) (b : List Edit) → AreEdits s (a ++ e ∷ b) → (f : Edit) → IsEdit f a → s.place f.name ≢ s.place e.name
apart_in_front s [] e b apart f h = absurd h
apart_in_front s (x ∷ a) e b apart f (inl h) = λ same. apart.1 e (edit_behind a e b) (ap (λ (y : Edit). s.place y.name) h ∙ same)
apart_in_front s (x ∷ a) e b apart f (inr h) = apart_in_front s a e b apart.2 f h
