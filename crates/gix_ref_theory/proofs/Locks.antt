-- A view that differs in the transaction's locks alone is between and committed where the other is, on both sides.
use Rattle.std.proofs.Common.{◌≡◌, ℕ, List, [], ◌∷◌, ◌++◌, true, sym, ap, ◌∙◌, subst, inl, inr, ◌⊎◌, bytes_eq, refl, if◌then◌else◌}
use Rattle.std.proofs.lemmas.Bool.{cases_Bool, false≢true}
use Rattle.gix_ref_theory.proofs.Writes.{same, same_true}
use Rattle.gix_ref_theory.proofs.ReadingLemmas.{reading-same}
use Rattle.gix_ref_theory.proofs.Plans.{is_reference_at, edit_behind, edit_in_front}
use Rattle.gix_ref_theory.specs.Between.{AreEdits, InOrder, IsBetween, IsCommitted, IsCommittedFile, IsEdit, IsLogBetween, MergesRecords, IsNewFile, IsPackedFile, IsPrepared, NoDeletionFirst, committed_log}
use Rattle.gix_ref_theory.specs.Edits.{Edit, Mode, alters_packed, edited_reading, effect, effect_of_change, file_of_records}
use Rattle.gix_ref_theory.specs.Edits.Effect.{Keeps}
use Rattle.gix_ref_theory.specs.Plan.{file_writes, line_writes, log_removals, loose_removals, packed_writes, place_removal, place_writes, plan, writes_of_updates}
use Rattle.gix_ref_target.specs.PackedRecords.{Record}
use Rattle.gix_ref_theory.specs.Readings.{HasLaws, Store, reading, records_of_file}
use Rattle.gix_ref_theory.specs.Views.{IsOwnLock, IsSameButLocks, View}
use Rattle.gix_ref_files.specs.Lock.{lock_of}

own_is_lock : (locked : List (List ℕ)) (path : List ℕ) → IsOwnLock locked path → (q : List ℕ) × (path ≡ lock_of q)
own_is_lock [] path h = absurd h
own_is_lock (l ∷ ls) path (inl h) = (l, h)
own_is_lock (l ∷ ls) path (inr h) = own_is_lock ls path h

module _ (s : Store) (laws : HasLaws s) (mode : Mode) (locked : List (List ℕ)) (view : View) (edits : List Edit) (apart : AreEdits s edits) (bare left : View) (alike : IsSameButLocks locked left bare) where
  place_alike : (name : List ℕ) → s.is_reference name ≡ true → left (s.place name) ≡ bare (s.place name)
  place_alike name is = alike (s.place name) (λ own. let q = own_is_lock locked (s.place name) own in laws.place_is_no_lock name q.0 is q.1)

  log_alike : (name : List ℕ) → s.is_reference name ≡ true → left (s.log name) ≡ bare (s.log name)
  log_alike name is = alike (s.log name) (λ own. let q = own_is_lock locked (s.log name) own in laws.log_is_no_lock name q.0 is q.1)

  packed_alike : left s.packed_path ≡ bare s.packed_path
  packed_alike = alike s.packed_path (λ own. let q = own_is_lock locked s.packed_path own in laws.packed_is_no_lock q.0 q.1)

  reading_alike : (name : List ℕ) → s.is_reference name ≡ true → reading s left name ≡ reading s bare name
  reading_alike name is =
      reading-same s bare left name (place_alike name is) packed_alike

  is_ref : (e : Edit) → IsEdit e edits → s.is_reference e.name ≡ true
  is_ref e he = is_reference_at s edits apart e he

  pub between : IsBetween s mode locked edits view bare → IsBetween s mode locked edits view left
  between b = record {
    readings = λ name is. elim (b.readings name is) [ inl h ↦ inl (reading_alike name is ∙ h) | inr h ↦ inr (reading_alike name is ∙ h) ];
    places = λ e he a.
        subst (λ x. (x ≡ view (s.place e.name)) ⊎ IsNewFile s mode e e.change x) (sym (place_alike e.name (is_ref e he))) (b.places e he a);
    logs = λ e he. subst (λ x. IsLogBetween s edits (s.log e.name) (view (s.log e.name)) x) (sym (log_alike e.name (is_ref e he))) (b.logs e he);
    packed = subst (λ x. (x ≡ view s.packed_path) ⊎ IsPackedFile s mode edits (view s.packed_path) x) (sym packed_alike) b.packed;
    others = λ path other. alike path other.no_lock ∙ b.others path other;
  }

  pub no_deletion_first : NoDeletionFirst s edits view bare → NoDeletionFirst s edits view left
  no_deletion_first h d hd a deleted differs u hu up =
      reading_alike u.name (is_ref u hu) ∙ h d hd a deleted (λ before. differs (reading_alike d.name (is_ref d hd) ∙ before)) u hu up

  pub in_order : InOrder s edits view bare → ((before : List Edit) (u : Edit) (later : List Edit) → before ++ u ∷ later ≡ edits → IsEdit u edits) →
      ((e u : Edit) (before later : List Edit) → before ++ u ∷ later ≡ edits → IsEdit e before → IsEdit e edits) → InOrder s edits view left
  in_order h here there before u later whole up a differs e he eup =
      reading_alike e.name (is_ref e (there e u before later whole he))
      ∙ h before u later whole up a (λ x. differs (reading_alike u.name (is_ref u (here before u later whole)) ∙ x)) e he eup

  pub committed : IsCommitted s mode locked edits view bare → IsCommitted s mode locked edits view left
  committed b = record {
    readings = λ name is. reading_alike name is ∙ b.readings name is;
    places = λ e he. subst (λ x. IsCommittedFile (effect s mode view e) (view (s.place e.name)) x) (sym (place_alike e.name (is_ref e he))) (b.places e he);
    logs = λ e he. log_alike e.name (is_ref e he) ∙ b.logs e he;
    packed = subst (λ x. IsPackedFile s mode edits (view s.packed_path) x) (sym packed_alike) b.packed;
    others = λ path other. alike path other.no_lock ∙ b.others path other;
  }

-- and on the side of the view before: `left` above is that view
pub before_alike : (s : Store) → HasLaws s → (mode : Mode) (locked : List (List ℕ)) (edits : List Edit) → AreEdits s edits → (view before left : View) →
    IsSameButLocks locked before view → IsBetween s mode locked edits view left → IsBetween s mode locked edits before left
before_alike s laws mode locked edits apart view before left alike b = record {
  readings = λ name is.
      let r = reading_alike s laws mode locked view edits apart view before alike name is in
      elim (b.readings name is) [ inl h ↦ inl (h ∙ sym r) | inr h ↦ inr (h ∙ ap (edited_reading s edits name) (sym r)) ];
  places = λ e he a.
      subst (λ x. (left (s.place e.name) ≡ x) ⊎ IsNewFile s mode e e.change (left (s.place e.name)))
      (sym (place_alike s laws mode locked view edits apart view before alike e.name (is_reference_at s edits apart e he))) (b.places e he a);
  logs = λ e he.
      subst (λ x. IsLogBetween s edits (s.log e.name) x (left (s.log e.name)))
      (sym (log_alike s laws mode locked view edits apart view before alike e.name (is_reference_at s edits apart e he))) (b.logs e he);
  packed =
      subst (λ x. (left s.packed_path ≡ x) ⊎ IsPackedFile s mode edits x (left s.packed_path))
      (sym (packed_alike s laws mode locked view edits apart view before alike)) b.packed;
  others = λ path other. b.others path other ∙ sym (alike path other.no_lock);
}

pub no_deletion_first_before : (s : Store) → HasLaws s → (mode : Mode) (locked : List (List ℕ)) (edits : List Edit) → AreEdits s edits → (view before left : View) →
    IsSameButLocks locked before view → NoDeletionFirst s edits view left → NoDeletionFirst s edits before left
no_deletion_first_before s laws mode locked edits apart view before left alike h d hd a deleted differs u hu up =
    let same = reading_alike s laws mode locked view edits apart view before alike in
    h d hd a deleted (λ as_view. differs (as_view ∙ sym (same d.name (is_reference_at s edits apart d hd)))) u hu up
    ∙ ap (edited_reading s edits u.name) (sym (same u.name (is_reference_at s edits apart u hu)))

pub in_order_before : (s : Store) → HasLaws s → (mode : Mode) (locked : List (List ℕ)) (edits : List Edit) → AreEdits s edits → (view before left : View) →
    IsSameButLocks locked before view → InOrder s edits view left → InOrder s edits before left
in_order_before s laws mode locked edits apart view before left alike h first u later all up a differs e he eup =
    let same = reading_alike s laws mode locked view edits apart view before alike in
    let hu : IsEdit u edits = subst (IsEdit u) all (edit_behind first u later) in
    let hf : IsEdit e edits = subst (IsEdit e) all (edit_in_front e first (u ∷ later) he) in
    h first u later all up a (λ as_view. differs (as_view ∙ sym (same u.name (is_reference_at s edits apart u hu)))) e he eup
    ∙ ap (edited_reading s edits e.name) (sym (same e.name (is_reference_at s edits apart e hf)))

own_or_not : (locked : List (List ℕ)) (path : List ℕ) → IsOwnLock locked path ⊎ (IsOwnLock locked path → ⊥)
own_or_not [] path = inr (λ h. h)
own_or_not (l ∷ ls) path = elim (cases_Bool (bytes_eq path (lock_of l))) [
  | inl e ↦ inl (inl (same path (lock_of l) e))
  | inr e ↦ elim (own_or_not ls path) [
    | inl h ↦ inl (inr h)
    | inr n ↦ inr (λ own. elim own [ inl h ↦ false≢true (sym e ∙ same_true path (lock_of l) h) | inr h ↦ n h ])
  ]
]

-- the locks change no effect
effect_alike : (s : Store) → HasLaws s → (mode : Mode) (locked : List (List ℕ)) (edits : List Edit) → AreEdits s edits → (left view : View) → IsSameButLocks locked left view →
    (e : Edit) → IsEdit e edits → effect s mode left e ≡ effect s mode view e
effect_alike s laws mode locked edits apart left view alike e he =
    ap (λ r. if e.and_reference then effect_of_change s mode (s.key e.name) r e.change else Keeps)
    (reading_alike s laws mode locked view edits apart view left alike e.name (is_reference_at s edits apart e he))

-- the successor, of the view before the locks were taken; `named` are the locks that stay
pub committed_before : (s : Store) → HasLaws s → (mode : Mode) (locked named : List (List ℕ)) (edits : List Edit) → AreEdits s edits → (view before left : View) →
    IsSameButLocks locked before view → ((path : List ℕ) → IsOwnLock locked path → (IsOwnLock named path → ⊥) → left path ≡ before path) →
    IsCommitted s mode locked edits view left → IsCommitted s mode named edits before left
committed_before s laws mode locked named edits apart view before left alike gone b = record {
  readings = λ name is.
      b.readings name is ∙ ap (edited_reading s edits name) (sym (reading_alike s laws mode locked view edits apart view before alike name is));
  places = λ e he.
      subst (λ f. IsCommittedFile f (before (s.place e.name)) (left (s.place e.name)))
      (sym (effect_alike s laws mode locked edits apart before view alike e he))
      (subst (λ x. IsCommittedFile (effect s mode view e) x (left (s.place e.name)))
      (sym (place_alike s laws mode locked view edits apart view before alike e.name (is_reference_at s edits apart e he))) (b.places e he));
  logs = λ e he.
      b.logs e he ∙ ap (committed_log s edits (s.log e.name)) (sym (log_alike s laws mode locked view edits apart view before alike e.name (is_reference_at s edits apart e he)));
  packed =
      subst (λ x. IsPackedFile s mode edits x (left s.packed_path))
      (sym (packed_alike s laws mode locked view edits apart view before alike)) b.packed;
  others = λ path other. elim (own_or_not locked path) [
    | inl own ↦ gone path own other.no_lock
    | inr n ↦ b.others path (record { no_place = other.no_place; no_log = other.no_log; not_packed = other.not_packed; no_lock = n }) ∙ sym (alike path n)
  ];
}

-- The plan sees no locks.

updates_alike : (s : Store) (mode : Mode) (left view : View) (edits : List Edit) → ((e : Edit) → IsEdit e edits → effect s mode left e ≡ effect s mode view e) →
    writes_of_updates s mode left edits ≡ writes_of_updates s mode view edits
updates_alike s mode left view [] alike = refl
updates_alike s mode left view (e ∷ edits) alike =
    ap (λ f. line_writes (s.log e.name) e.change e.line ++ (place_writes (s.place e.name) f ++ writes_of_updates s mode left edits)) (alike e (inl refl))
    ∙ ap (λ rest. line_writes (s.log e.name) e.change e.line ++ (place_writes (s.place e.name) (effect s mode view e) ++ rest)) (updates_alike s mode left view edits (λ f h. alike f (inr h)))

removals_alike : (s : Store) (mode : Mode) (left view : View) (edits : List Edit) → ((e : Edit) → IsEdit e edits → effect s mode left e ≡ effect s mode view e) →
    loose_removals s mode left edits ≡ loose_removals s mode view edits
removals_alike s mode left view [] alike = refl
removals_alike s mode left view (e ∷ edits) alike =
    ap (λ f. place_removal (s.place e.name) f ++ loose_removals s mode left edits) (alike e (inl refl))
    ∙ ap (λ rest. place_removal (s.place e.name) (effect s mode view e) ++ rest) (removals_alike s mode left view edits (λ f h. alike f (inr h)))

pub plan_alike : (s : Store) → HasLaws s → (mode : Mode) (locked : List (List ℕ)) (edits : List Edit) (merged : List Record) → AreEdits s edits → (left view : View) →
    IsSameButLocks locked left view → plan s mode left edits merged ≡ plan s mode view edits merged
plan_alike s laws mode locked edits merged apart left view alike =
    ap (λ x. x ++ (log_removals s edits ++ (packed_writes s mode left edits merged ++ loose_removals s mode left edits))) (updates_alike s mode left view edits effects)
    ∙ (ap (λ x. writes_of_updates s mode view edits ++ (log_removals s edits ++ (x ++ loose_removals s mode left edits))) packed
    ∙ ap (λ x. writes_of_updates s mode view edits ++ (log_removals s edits ++ (packed_writes s mode view edits merged ++ x))) (removals_alike s mode left view edits effects))
  where
    effects : (e : Edit) → IsEdit e edits → effect s mode left e ≡ effect s mode view e
    effects e he = effect_alike s laws mode locked edits apart left view alike e he

    packed : packed_writes s mode left edits merged ≡ packed_writes s mode view edits merged
    packed =
        ap (λ file. if alters_packed s mode (records_of_file s file) edits then file_writes s.packed_path (file_of_records s merged) else [])
        (packed_alike s laws mode locked view edits apart view left alike)

pub prepared_alike : (s : Store) → HasLaws s → (mode : Mode) (locked : List (List ℕ)) (edits : List Edit) (merged : List Record) (left view : View) →
    IsSameButLocks locked left view → IsPrepared s mode left edits merged → IsPrepared s mode view edits merged
prepared_alike s laws mode locked edits merged left view alike p =
    let packed = packed_alike s laws mode locked view edits p.apart view left alike in
    record {
      apart = p.apart;
      allowed = p.allowed;
      targets_read_back = p.targets_read_back;
      ids_read_back = p.ids_read_back;
      records_are_merged = subst (λ file. alters_packed s mode (records_of_file s file) edits ≡ true → MergesRecords s mode edits (records_of_file s file) merged) packed p.records_are_merged;
      records_read_back = subst (λ file. alters_packed s mode (records_of_file s file) edits ≡ true → records_of_file s (file_of_records s merged) ≡ merged) packed p.records_read_back;
    }
