-- What a plan does to a log.
use Rattle.std.proofs.Common.{◌≡◌, ◌≢◌, ℕ, List, [], ◌∷◌, ◌++◌, Option, Some, None, Bool, true, false, ◌||◌, ◌&&◌, if◌then◌else◌, cond, refl, sym, ap, ◌∙◌, subst, inl, inr, bytes_eq, ◌⊎◌, append_assoc, append-nil, arith}
use Rattle.std.specs.Prelude.{is_some}
use Rattle.std.proofs.lemmas.Bool.{cond-true, cond-false, cases_Bool, or_left, or_right, or_from, or_parts}
use Rattle.gix_ref_theory.proofs.Writes.{IsPart, IsStoppedAt, IsCut, path_of, is_touched, same, same_false, AllMake, AllMake-append, touched_append, left_content}
use Rattle.gix_ref_theory.proofs.Plans.{is_reference_at, makes_packed, makes_place_removals, untouched_append, packed_avoids, place_removals_avoid, touched_left}
use Rattle.gix_ref_theory.specs.Between.{IsEdit, IsLogLeft, IsPrepared}
use Rattle.gix_ref_theory.specs.Edits.{Change, Edit, Effect, Mode, due, effect, is_deletion, is_due, line_due, removes_log}
use Rattle.gix_ref_theory.specs.Edits.Change.{Delete, Update}
use Rattle.gix_ref_theory.specs.Edits.Effect.{Keeps, Removes, Writes}
use Rattle.gix_ref_theory.specs.Plan.{line_writes, log_removal, log_removals, loose_removals, packed_writes, place_writes, plan, writes_of_updates}
use Rattle.gix_ref_target.specs.PackedRecords.{Record}
use Rattle.gix_ref_theory.specs.Readings.{HasLaws, Store}
use Rattle.gix_ref_theory.specs.Views.{Ending, IsPartOf, View, Write, after, after_write, file_bytes}
use Rattle.gix_ref_theory.specs.Views.Write.{Append, Put, Remove}
use Rattle.gix_ref_theory.specs.Views.Ending.{Stop, Loss}

abbrev due_line : Change → Option (List ℕ) → List ℕ
due_line c line = file_bytes (line_due c line)

abbrev has_line : Change → Option (List ℕ) → Bool
has_line c line = is_some (line_due c line)

-- what these writes append to a path
abbrev pub appended : List ℕ → List Write → List ℕ
appended path [] = []
appended path (Append p bytes ∷ writes) = (if bytes_eq p path then bytes else []) ++ appended path writes
appended path (Put p bytes ∷ writes) = appended path writes
appended path (Remove p ∷ writes) = appended path writes

-- this step changes the path only by an append
abbrev pub OnlyAppends : List ℕ → Write → Type 0
OnlyAppends path (Append p bytes) = Unit {0}
OnlyAppends path (Put p bytes) = p ≢ path
OnlyAppends path (Remove p) = p ≢ path

abbrev pub AllAppend : List ℕ → List Write → Type 0
AllAppend path [] = Unit {0}
AllAppend path (step ∷ writes) = OnlyAppends path step × AllAppend path writes

AllAppend-append : (path : List ℕ) (a b : List Write) → AllAppend path a → AllAppend path b → AllAppend path (a ++ b)
AllAppend-append path [] b h k = k
AllAppend-append path (x ∷ a) b h k = (h.0, AllAppend-append path a b h.1 k)

AllAppend-front : (path : List ℕ) (a b : List Write) → AllAppend path (a ++ b) → AllAppend path a
AllAppend-front path [] b h = tt
AllAppend-front path (x ∷ a) b h = (h.0, AllAppend-front path a b h.1)

appended-append : (path : List ℕ) (a b : List Write) → appended path (a ++ b) ≡ appended path a ++ appended path b
appended-append path [] b = refl
appended-append path (Append p bytes ∷ a) b =
    ap (λ x. (if bytes_eq p path then bytes else []) ++ x) (appended-append path a b)
    ∙ sym (append_assoc (if bytes_eq p path then bytes else []) (appended path a) (appended path b))
appended-append path (Put p bytes ∷ a) b = appended-append path a b
appended-append path (Remove p ∷ a) b = appended-append path a b

-- the text of a log after appends, and whether there is one
abbrev pub grown : Bool → Option (List ℕ) → List ℕ → Option (List ℕ)
grown touched old more = if touched then Some (file_bytes old ++ more) else old

nothing_appended : (path : List ℕ) (writes : List Write) → is_touched path writes ≡ false → appended path writes ≡ []
nothing_appended path [] h = refl
nothing_appended path (Append p bytes ∷ writes) h =
    let parts = or_parts (bytes_eq p path) (is_touched path writes) h in
    ap (λ b. (if b then bytes else []) ++ appended path writes) parts.0 ∙ nothing_appended path writes parts.1
nothing_appended path (Put p bytes ∷ writes) h = nothing_appended path writes (or_parts (bytes_eq p path) (is_touched path writes) h).1
nothing_appended path (Remove p ∷ writes) h = nothing_appended path writes (or_parts (bytes_eq p path) (is_touched path writes) h).1

grown_by : (b t : Bool) (here old : Option (List ℕ)) (bytes more : List ℕ) → (b ≡ true → here ≡ old) → (t ≡ false → more ≡ []) →
    grown t (if b then Some (file_bytes here ++ bytes) else old) more ≡ grown (b || t) old ((if b then bytes else []) ++ more)
grown_by false t here old bytes more same none = refl
grown_by true true here old bytes more same none =
    ap (λ x. Some ((file_bytes x ++ bytes) ++ more)) (same refl) ∙ ap Some (append_assoc (file_bytes old) bytes more)
grown_by true false here old bytes more same none =
    ap (λ x. Some (file_bytes x ++ bytes)) (same refl)
    ∙ ap (λ x. Some (file_bytes old ++ x)) (sym (append-nil bytes) ∙ ap (λ x. bytes ++ x) (sym (none refl)))

-- a log after appends
pub log_content : (writes : List Write) (view : View) (path : List ℕ) → AllAppend path writes →
    after writes view path ≡ grown (is_touched path writes) (view path) (appended path writes)
log_content [] view path h = refl
log_content (Append p bytes ∷ writes) view path h =
    log_content writes (after_write (Append p bytes) view) path h.1
    ∙ grown_by (bytes_eq p path) (is_touched path writes) (view p) (view path) bytes (appended path writes) (λ e. ap view (same p path e)) (nothing_appended path writes)
log_content (Put p bytes ∷ writes) view path h =
    let e = same_false p path h.0 in
    log_content writes (after_write (Put p bytes) view) path h.1
    ∙ (ap (λ x. grown (is_touched path writes) x (appended path writes)) (cond-false (bytes_eq p path) (Some bytes) (view path) e)
    ∙ ap (λ b. grown (b || is_touched path writes) (view path) (appended path writes)) (sym e))
log_content (Remove p ∷ writes) view path h =
    let e = same_false p path h.0 in
    log_content writes (after_write (Remove p) view) path h.1
    ∙ (ap (λ x. grown (is_touched path writes) x (appended path writes)) (cond-false (bytes_eq p path) None (view path) e)
    ∙ ap (λ b. grown (b || is_touched path writes) (view path) (appended path writes)) (sym e))

-- The updates append what is due.

log_steps_append : (path log : List ℕ) (c : Change) (line : Option (List ℕ)) → AllAppend path (line_writes log c line)
log_steps_append path log Delete line = tt
log_steps_append path log (Update t) None = tt
log_steps_append path log (Update t) (Some line) = (tt, tt)

place_steps_append : (path place : List ℕ) (f : Effect) → place ≢ path → AllAppend path (place_writes place f)
place_steps_append path place (Writes bytes) n = (n, tt)
place_steps_append path place Removes n = tt
place_steps_append path place Keeps n = tt

updates_append : (s : Store) (mode : Mode) (view : View) (path : List ℕ) (edits : List Edit) → ((e : Edit) → IsEdit e edits → s.place e.name ≢ path) →
    AllAppend path (writes_of_updates s mode view edits)
updates_append s mode view path [] h = tt
updates_append s mode view path (e ∷ edits) h =
    AllAppend-append path (line_writes (s.log e.name) e.change e.line) (place_writes (s.place e.name) (effect s mode view e) ++ writes_of_updates s mode view edits)
    (log_steps_append path (s.log e.name) e.change e.line)
    (AllAppend-append path (place_writes (s.place e.name) (effect s mode view e)) (writes_of_updates s mode view edits)
    (place_steps_append path (s.place e.name) (effect s mode view e) (h e (inl refl)))
    (updates_append s mode view path edits (λ f k. h f (inr k))))

cond_nil : (b : Bool) (empty : List ℕ) → empty ≡ (if b then empty else empty)
cond_nil true empty = refl
cond_nil false empty = refl

line_appended : (path log : List ℕ) (c : Change) (line : Option (List ℕ)) →
    appended path (line_writes log c line) ≡ (if bytes_eq log path then due_line c line else [])
line_appended path log Delete line = cond_nil (bytes_eq log path) []
line_appended path log (Update t) None = cond_nil (bytes_eq log path) []
line_appended path log (Update t) (Some line) = append-nil (if bytes_eq log path then line else [])

place_appended : (path place : List ℕ) (f : Effect) → appended path (place_writes place f) ≡ []
place_appended path place (Writes bytes) = refl
place_appended path place Removes = refl
place_appended path place Keeps = refl

appended_due : (s : Store) (mode : Mode) (view : View) (path : List ℕ) (edits : List Edit) →
    appended path (writes_of_updates s mode view edits) ≡ due s edits path
appended_due s mode view path [] = refl
appended_due s mode view path (e ∷ edits) =
    let logs = line_writes (s.log e.name) e.change e.line in
    let places = place_writes (s.place e.name) (effect s mode view e) in
    appended-append path logs (places ++ writes_of_updates s mode view edits)
    ∙ (ap (λ x. x ++ appended path (places ++ writes_of_updates s mode view edits)) (line_appended path (s.log e.name) e.change e.line)
    ∙ ap (λ x. (if bytes_eq (s.log e.name) path then due_line e.change e.line else []) ++ x)
    (appended-append path places (writes_of_updates s mode view edits)
    ∙ (ap (λ x. x ++ appended path (writes_of_updates s mode view edits)) (place_appended path (s.place e.name) (effect s mode view e))
    ∙ appended_due s mode view path edits)))

or_false : (b : Bool) → (b || false) ≡ b
or_false true = refl
or_false false = refl

line_touched : (path log : List ℕ) (c : Change) (line : Option (List ℕ)) → is_touched path (line_writes log c line) ≡ (has_line c line && bytes_eq log path)
line_touched path log Delete line = refl
line_touched path log (Update t) None = refl
line_touched path log (Update t) (Some line) = or_false (bytes_eq log path)

place_untouched : (path place : List ℕ) (f : Effect) → place ≢ path → is_touched path (place_writes place f) ≡ false
place_untouched path place (Writes bytes) n = or_from (bytes_eq place path) false (same_false place path n) refl
place_untouched path place Removes n = refl
place_untouched path place Keeps n = refl

touched_due : (s : Store) (mode : Mode) (view : View) (path : List ℕ) (edits : List Edit) → ((e : Edit) → IsEdit e edits → s.place e.name ≢ path) →
    is_touched path (writes_of_updates s mode view edits) ≡ is_due s edits path
touched_due s mode view path [] h = refl
touched_due s mode view path (e ∷ edits) h =
    let logs = line_writes (s.log e.name) e.change e.line in
    let places = place_writes (s.place e.name) (effect s mode view e) in
    touched_append path logs (places ++ writes_of_updates s mode view edits)
    ∙ (ap (λ x. x || is_touched path (places ++ writes_of_updates s mode view edits)) (line_touched path (s.log e.name) e.change e.line)
    ∙ ap (λ x. (has_line e.change e.line && bytes_eq (s.log e.name) path) || x)
    (touched_append path places (writes_of_updates s mode view edits)
    ∙ (ap (λ x. x || is_touched path (writes_of_updates s mode view edits)) (place_untouched path (s.place e.name) (effect s mode view e) (h e (inl refl)))
    ∙ touched_due s mode view path edits (λ f k. h f (inr k)))))

-- and what follows removes it, or leaves it alone

removal_touched : (path log : List ℕ) (c : Change) → is_touched path (log_removal log c) ≡ (is_deletion c && bytes_eq log path)
removal_touched path log Delete = or_false (bytes_eq log path)
removal_touched path log (Update t) = refl

touched_removed : (s : Store) (path : List ℕ) (edits : List Edit) → is_touched path (log_removals s edits) ≡ removes_log s edits path
touched_removed s path [] = refl
touched_removed s path (e ∷ edits) =
    touched_append path (log_removal (s.log e.name) e.change) (log_removals s edits)
    ∙ (ap (λ x. x || is_touched path (log_removals s edits)) (removal_touched path (s.log e.name) e.change)
    ∙ ap (λ x. (is_deletion e.change && bytes_eq (s.log e.name) path) || x) (touched_removed s path edits))

removal_makes : (path log : List ℕ) (c : Change) → AllMake path None (log_removal log c)
removal_makes path log Delete = (λ e. refl, tt)
removal_makes path log (Update t) = tt

removals_make : (s : Store) (path : List ℕ) (edits : List Edit) → AllMake path None (log_removals s edits)
removals_make s path [] = tt
removals_make s path (e ∷ edits) =
    AllMake-append path None (log_removal (s.log e.name) e.change) (log_removals s edits) (removal_makes path (s.log e.name) e.change) (removals_make s path edits)

-- Where a stop lies: after the first writes, or among them.
abbrev pub Cut : (a b done rest : List Write) → Type 0
Cut a b done rest =
    ((more : List Write) × (done ≡ a ++ more) × (more ++ rest ≡ b))
    ⊎ ((next : Write) × (more : List Write) × (done ++ next ∷ more ≡ a) × (rest ≡ next ∷ more ++ b))

pub cut : (a b done rest : List Write) → done ++ rest ≡ a ++ b → Cut a b done rest
cut [] b done rest e = inl (done, refl, e)
cut (x ∷ a) b [] rest e = inr (x, a, refl, e)
cut (x ∷ a) b (y ∷ done) rest e =
    let head : y ≡ x = cc in
    let tail : done ++ rest ≡ a ++ b = cc in
    elim (cut a b done rest tail) [
      | inl c ↦ inl (c.0, ap (λ d. y ∷ d) c.1 ∙ ap (λ z. z ∷ (a ++ c.0)) head, c.2)
      | inr c ↦ inr (c.0, c.1, ap (λ d. y ∷ d) c.2 ∙ ap (λ z. z ∷ a) head, c.3)
    ]

pub after-append : (a b : List Write) (view : View) → after (a ++ b) view ≡ after b (after a view)
after-append [] b view = refl
after-append (x ∷ a) b view = after-append a b (after_write x view)

-- a log that has its old text and a beginning of these bytes, if it is touched
abbrev pub HasGrown : Ending → Bool → Option (List ℕ) → List ℕ → Option (List ℕ) → Type 0
HasGrown ending touched old all new =
    (new ≡ old) ⊎ ((touched ≡ true) × ((front bytes rest part : List ℕ) × (front ++ (bytes ++ rest) ≡ all) × IsPartOf ending part bytes × (new ≡ Some (file_bytes old ++ (front ++ part)))))

part_none : (ending : Ending) → IsPartOf ending [] []
part_none Stop = ([], refl)
part_none Loss = omega arith

bytes_grown : (t : Bool) (old : Option (List ℕ)) (more : List ℕ) → (t ≡ false → more ≡ []) → file_bytes (grown t old more) ≡ file_bytes old ++ more
bytes_grown true old more h = refl
bytes_grown false old more h = sym (append-nil (file_bytes old)) ∙ ap (λ x. file_bytes old ++ x) (sym (h refl))

-- what a stop among appends leaves
module _ (ending : Ending) (path : List ℕ) (done : List Write) (next : Write) (more tail : List Write) (view left : View) (h : AllAppend path (done ++ next ∷ more)) where
  here : after done view path ≡ grown (is_touched path done) (view path) (appended path done)
  here = log_content done view path (AllAppend-front path done (next ∷ more) h)

  at_done : left path ≡ after done view path → HasGrown ending (is_touched path (done ++ next ∷ more)) (view path) (appended path (done ++ next ∷ more)) (left path)
  at_done e = cases (cases_Bool (is_touched path done))
    where
      cases : (is_touched path done ≡ true) ⊎ (is_touched path done ≡ false) →
          HasGrown ending (is_touched path (done ++ next ∷ more)) (view path) (appended path (done ++ next ∷ more)) (left path)
      cases (inl t) =
          inr (
            touched_left path done (next ∷ more) t,
            (
              appended path done,
              [],
              appended path (next ∷ more),
              [],
              sym (appended-append path done (next ∷ more)),
              part_none ending,
              e ∙ (here ∙ cond-true (is_touched path done) (Some (file_bytes (view path) ++ appended path done)) (view path) t) ∙ ap (λ x. Some (file_bytes (view path) ++ x)) (sym (append-nil (appended path done))),
            ),
          )
      cases (inr t) = inl (e ∙ (here ∙ cond-false (is_touched path done) (Some (file_bytes (view path) ++ appended path done)) (view path) t))

  in_next : (step : Write) → next ≡ step → IsPart ending step (after done view) left →
      HasGrown ending (is_touched path (done ++ next ∷ more)) (view path) (appended path (done ++ next ∷ more)) (left path)
  in_next (Put p bytes) is part = at_done (part path)
  in_next (Remove p) is part = at_done (part path)
  in_next (Append p bytes) is part = cases (cases_Bool (bytes_eq p path))
    where
      cases : (bytes_eq p path ≡ true) ⊎ (bytes_eq p path ≡ false) →
          HasGrown ending (is_touched path (done ++ next ∷ more)) (view path) (appended path (done ++ next ∷ more)) (left path)
      cases (inr e) = at_done (part.2 path ∙ cond-false (bytes_eq p path) (Some (file_bytes (after done view p) ++ part.0)) (after done view path) e)
      cases (inl e) =
          inr (
            touched_append path done (next ∷ more) ∙ or_right (is_touched path done) (is_touched path (next ∷ more))
                (or_left (bytes_eq (path_of next) path) (is_touched path more) (ap (λ x. bytes_eq (path_of x) path) is ∙ e)),
            (
              appended path done,
              bytes,
              appended path more,
              part.0,
              ap (λ x. appended path done ++ x)
                  (ap (λ b. (if b then bytes else []) ++ appended path more) (sym e)
                  ∙ ap (λ x. appended path (x ∷ more)) (sym is))
                  ∙ sym (appended-append path done (next ∷ more)),
              part.1,
              part.2 path
                  ∙ (cond-true (bytes_eq p path) (Some (file_bytes (after done view p) ++ part.0)) (after done view path) e
                  ∙ (ap (λ x. Some (file_bytes (after done view x) ++ part.0)) (same p path e)
                  ∙ (ap (λ x. Some (file_bytes x ++ part.0)) here
                  ∙ (ap (λ x. Some (x ++ part.0)) (bytes_grown (is_touched path done) (view path) (appended path done) (nothing_appended path done))
                  ∙ ap Some (append_assoc (file_bytes (view path)) (appended path done) part.0))))),
            ),
          )

  pub stopped_in : IsStoppedAt ending (next ∷ tail) (after done view) left →
      HasGrown ending (is_touched path (done ++ next ∷ more)) (view path) (appended path (done ++ next ∷ more)) (left path)
  stopped_in (inl k) = at_done (k path)
  stopped_in (inr k) = in_next next refl k

module _ (s : Store) (laws : HasLaws s) (mode : Mode) (view : View) (edits : List Edit) (merged : List Record) (p : IsPrepared s mode view edits merged)
    (ending : Ending) (left : View) (l : IsCut ending (plan s mode view edits merged) view left) (e : Edit) (he : IsEdit e edits) where
  no_place : (f : Edit) → IsEdit f edits → s.place f.name ≢ s.log e.name
  no_place f hf = laws.place_is_no_log f.name e.name (is_reference_at s edits p.apart f hf) (is_reference_at s edits p.apart e he)

  not_packed : s.packed_path ≢ s.log e.name
  not_packed same = laws.log_is_not_packed e.name (is_reference_at s edits p.apart e he) (sym same)

  updates_only : AllAppend (s.log e.name) (writes_of_updates s mode view edits)
  updates_only = updates_append s mode view (s.log e.name) edits no_place

  pub behind_makes : AllMake (s.log e.name) None (log_removals s edits ++ (packed_writes s mode view edits merged ++ loose_removals s mode view edits))
  behind_makes =
      AllMake-append (s.log e.name) None (log_removals s edits) (packed_writes s mode view edits merged ++ loose_removals s mode view edits)
      (removals_make s (s.log e.name) edits)
      (AllMake-append (s.log e.name) None (packed_writes s mode view edits merged) (loose_removals s mode view edits)
      (makes_packed s mode view (s.log e.name) None edits merged (λ same. absurd (not_packed same)))
      (makes_place_removals s mode view (s.log e.name) None edits (λ f hf same. absurd (no_place f hf same))))

  pub behind_touched : is_touched (s.log e.name) (log_removals s edits ++ (packed_writes s mode view edits merged ++ loose_removals s mode view edits)) ≡ removes_log s edits (s.log e.name)
  behind_touched =
      touched_append (s.log e.name) (log_removals s edits) (packed_writes s mode view edits merged ++ loose_removals s mode view edits)
      ∙ (ap (λ b. is_touched (s.log e.name) (log_removals s edits) || b)
      (untouched_append (s.log e.name) (packed_writes s mode view edits merged) (loose_removals s mode view edits)
      (packed_avoids s mode view (s.log e.name) edits merged not_packed)
      (place_removals_avoid s mode view (s.log e.name) edits no_place))
      ∙ (or_false (is_touched (s.log e.name) (log_removals s edits)) ∙ touched_removed s (s.log e.name) edits))

  -- the log as all updates leave it
  pub updated : after (writes_of_updates s mode view edits) view (s.log e.name) ≡ grown (is_due s edits (s.log e.name)) (view (s.log e.name)) (due s edits (s.log e.name))
  updated =
      log_content (writes_of_updates s mode view edits) view (s.log e.name) updates_only
      ∙ (ap (λ b. grown b (view (s.log e.name)) (appended (s.log e.name) (writes_of_updates s mode view edits))) (touched_due s mode view (s.log e.name) edits no_place)
      ∙ ap (grown (is_due s edits (s.log e.name)) (view (s.log e.name))) (appended_due s mode view (s.log e.name) edits))

  -- after the updates: the log is removed, or as they leave it
  left_behind : (more : List Write) → l.done ≡ writes_of_updates s mode view edits ++ more →
      more ++ l.rest ≡ log_removals s edits ++ (packed_writes s mode view edits merged ++ loose_removals s mode view edits) →
      left (s.log e.name) ≡ cond (is_touched (s.log e.name) more) None (grown (is_due s edits (s.log e.name)) (view (s.log e.name)) (due s edits (s.log e.name)))
  left_behind more d whole =
      left_content ending (log_removals s edits ++ (packed_writes s mode view edits merged ++ loose_removals s mode view edits)) (after (writes_of_updates s mode view edits) view) left (s.log e.name) None behind_makes
      (record {
        done = more;
        rest = l.rest;
        whole = whole;
        stopped = subst (λ t. IsStoppedAt ending l.rest t left) (ap (λ x. after x view) d ∙ after-append (writes_of_updates s mode view edits) more view) l.stopped;
      })
      ∙ ap (cond (is_touched (s.log e.name) more) None) updated

  by_cut : Cut (writes_of_updates s mode view edits) (log_removals s edits ++ (packed_writes s mode view edits merged ++ loose_removals s mode view edits)) l.done l.rest →
      IsLogLeft ending s edits (s.log e.name) (view (s.log e.name)) (left (s.log e.name))
  by_cut (inl c) = cases (cases_Bool (is_touched (s.log e.name) c.0)) (cases_Bool (is_due s edits (s.log e.name)))
    where
      cases : (is_touched (s.log e.name) c.0 ≡ true) ⊎ (is_touched (s.log e.name) c.0 ≡ false) → (is_due s edits (s.log e.name) ≡ true) ⊎ (is_due s edits (s.log e.name) ≡ false) →
          IsLogLeft ending s edits (s.log e.name) (view (s.log e.name)) (left (s.log e.name))
      cases (inl t) k =
          inr (inr (
            sym behind_touched ∙ subst (λ x. is_touched (s.log e.name) x ≡ true) c.2 (touched_left (s.log e.name) c.0 l.rest t),
            left_behind c.0 c.1 c.2 ∙ cond-true (is_touched (s.log e.name) c.0) None (grown (is_due s edits (s.log e.name)) (view (s.log e.name)) (due s edits (s.log e.name))) t,
          ))
      cases (inr t) (inl k) =
          inr (inl (
            k,
            (
              due s edits (s.log e.name),
              [],
              [],
              [],
              append-nil (due s edits (s.log e.name)),
              part_none ending,
              left_behind c.0 c.1 c.2 ∙ (cond-false (is_touched (s.log e.name) c.0) None (grown (is_due s edits (s.log e.name)) (view (s.log e.name)) (due s edits (s.log e.name))) t
                  ∙ (cond-true (is_due s edits (s.log e.name)) (Some (file_bytes (view (s.log e.name)) ++ due s edits (s.log e.name))) (view (s.log e.name)) k
                  ∙ ap (λ x. Some (file_bytes (view (s.log e.name)) ++ x)) (sym (append-nil (due s edits (s.log e.name)))))),
            ),
          ))
      cases (inr t) (inr k) =
          inl (left_behind c.0 c.1 c.2 ∙ (cond-false (is_touched (s.log e.name) c.0) None (grown (is_due s edits (s.log e.name)) (view (s.log e.name)) (due s edits (s.log e.name))) t
          ∙ cond-false (is_due s edits (s.log e.name)) (Some (file_bytes (view (s.log e.name)) ++ due s edits (s.log e.name))) (view (s.log e.name)) k))
  by_cut (inr c) =
      let grew = stopped_in ending (s.log e.name) l.done c.0 c.1 (c.1 ++ (log_removals s edits ++ (packed_writes s mode view edits merged ++ loose_removals s mode view edits))) view left
      (subst (AllAppend (s.log e.name)) (sym c.2) updates_only)
      (subst (λ x. IsStoppedAt ending x (after l.done view) left) c.3 l.stopped) in
      elim grew [
        | inl same' ↦ inl same'
        | inr g ↦
            inr (inl (
              sym (touched_due s mode view (s.log e.name) edits no_place) ∙ (ap (is_touched (s.log e.name)) (sym c.2) ∙ g.0),
              (g.1.0, g.1.1, g.1.2, g.1.3, g.1.4 ∙ (ap (appended (s.log e.name)) c.2 ∙ appended_due s mode view (s.log e.name) edits), g.1.5, g.1.6),
            ))
      ]

  -- a log is as before, or has grown by a beginning of the due lines, or is removed
  pub logs : IsLogLeft ending s edits (s.log e.name) (view (s.log e.name)) (left (s.log e.name))
  logs = by_cut (cut (writes_of_updates s mode view edits) (log_removals s edits ++ (packed_writes s mode view edits merged ++ loose_removals s mode view edits)) l.done l.rest l.whole)
