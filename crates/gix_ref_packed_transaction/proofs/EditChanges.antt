-- The changes of records that edits make, and what the plan of a commit says of them.
use Rattle.std.proofs.Common.{◌≡◌, ◌||◌, ◌&&◌, inl, inr, ⊎_elim, ◌<◌, ◌+◌, ℕ, length, get_or, List, [], ◌∷◌, ◌++◌, take, Option, Some, None, Bool, true, false, if◌then◌else◌, bytes_eq, refl, sym, ap, ◌∙◌}
use Rattle.std.specs.Prelude.{is_some}
use Rattle.std.specs.List.{AllByRecursion, IsDistinct, cons_option, list_any}
use Rattle.std.specs.Option.{option_map}
use Rattle.std.proofs.lemmas.Bool.{true≢false, false≢true, cond-true, cond-false, or_left, or_right, or_cases, false_from_ne_true}
use Rattle.std.proofs.lemmas.Cmp.{nat_list_eq_equiv}
use Rattle.std.proofs.lemmas.List.{take_more}
use Rattle.std.proofs.lemmas.List.Elements.{All-nil, All-cons, filter_map-append}
use Rattle.gix_ref_hash.specs.declared.hash.Kind.{Kind}
use Rattle.gix_ref_hash.specs.declared.hash.ObjectId.{ObjectId}
use Rattle.gix_ref_target.specs.PackedRecords.{Record, record_named}
use Rattle.gix_ref_target.specs.Targets.{TargetValue, target_value}
use Rattle.gix_ref_target.specs.Targets.TargetValue.{object_id, symbolic_name}
use Rattle.gix_ref_packed_text.specs.Rewrites.{IsReadableIfAny}
use Rattle.gix_ref_packed_text.proofs.OutcomeLemmas.{new_readable}
use Rattle.gix_ref_theory.specs.Between.{AreEdits, IsEdit}
use Rattle.gix_ref_theory.specs.Edits as plan
use Rattle.gix_ref_theory.specs.Edits.{Mode, alters_change, alters_packed, edited_record, is_key, merged_record, packs}
use Rattle.gix_ref_theory.specs.Edits.Mode.{DeletionsOnly, Packing, PackingAndRemoving}
use Rattle.gix_ref_theory.specs.Readings.{HasLaws, Store}
use Rattle.gix_ref_theory.proofs.Plans.{is_reference_at}
use Rattle.gix_ref_theory.proofs.Writes.{same, same_true}
use Rattle.gix_ref_edits.specs.RefEdits.{name_of, mode_of, is_of_reference}
use Rattle.gix_ref_edits.specs.declared.transaction.Change.{Change}
use Rattle.gix_ref_edits.specs.declared.transaction.Change.TheVariants.{Update, Delete}
use Rattle.gix_ref_edits.specs.declared.transaction.RefLog.TheVariants.{AndReference, Only}
use Rattle.gix_ref_edits.specs.declared.transaction.RefLog.{RefLog}
use Rattle.gix_ref_transaction.specs.CarriedEdits.{change_of}
use Rattle.gix_ref_transaction.specs.Causes.{deletes_reference, packed_id}
use Rattle.gix_ref_transaction.specs.OwnLocks.{is_in}
use Rattle.gix_ref_transaction.specs.PackedCauses.{ids_among}
use Rattle.gix_ref_transaction.specs.Packing.{HaveTheirPuts, edit_peeled, packed_object, peeled_in, plan_edits, put_by}
use Rattle.gix_ref_transaction.specs.PrepareSteps.{ids_in, updates}
use Rattle.gix_ref_transaction.specs.declared.edit.Edit.{Edit}
use Rattle.gix_ref_transaction.specs.declared.edit.PackedObject.{PackedObject}
use Rattle.gix_ref_transaction.proofs.EditsApart.{heads}
use Rattle.gix_ref_packed_transaction.specs.Changes.{AreReadable, ChangeValue, change_some, keys_in, record_by, record_left}
use Rattle.gix_ref_packed_transaction.specs.Repacks.{AllCanBePut, alters_record, new_put}
use Rattle.gix_ref_packed_transaction.specs.internal.ChangedKeys.{key_change, key_changes}
use Rattle.gix_ref_packed_transaction.proofs.KeyLemmas.{HaveIds, or_false}

-- ---- one edit

-- the change of an edit, by its parts
abbrev change_by : Change → (packed : Option ObjectId) → (put : Option PackedObject) → (key : Option (List ℕ)) → Option ChangeValue
change_by c packed put key = if is_some put || (deletes_reference c && is_some packed) then option_map (λ (k : List ℕ). (k, new_put put)) key else None

-- that of an update
abbrev change_of_update : Mode → Option (List ℕ) → TargetValue → (peeled : Option ObjectId) → Option ChangeValue
change_of_update mode key t peeled =
    let put = if packs mode key t then packed_object t peeled else None in
    if is_some put || false then option_map (λ (k : List ℕ). (k, new_put put)) key else None

-- the changes of an edit in front of others
any_in_front : (P : ChangeValue → Bool) (o : Option ChangeValue) (changes : List ChangeValue) → list_any P (cons_option o changes) ≡ (list_any P (cons_option o []) || list_any P changes)
any_in_front P None changes = refl
any_in_front P (Some c) changes = ap (λ b. b || list_any P changes) (sym (or_false (P c)))

-- a change is of the key of its edit, which is of the reference
change_is : (mode : Mode) (c : Change) (packed : Option ObjectId) (key : Option (List ℕ)) (peeled : Option ObjectId) (v : ChangeValue) → change_by c packed (put_by mode key c peeled) key ≡ Some v →
    (is_of_reference (mode_of c) ≡ true) × (key ≡ Some v.0)
change_is mode (Delete expected Only) packed key peeled v is = cc
change_is mode (Delete expected AndReference) None key peeled v is = cc
change_is mode (Delete expected AndReference) (Some id) None peeled v is = cc
change_is mode (Delete expected AndReference) (Some id) (Some k) peeled v is = let same_change : (k, None) ≡ v = cc in (refl, ap (λ (x : ChangeValue). Some x.0) same_change)
change_is mode (Update log expected new) packed key peeled v is = by log.mode refl key refl is
  where
    by : (m : RefLog) → log.mode ≡ m → (o : Option (List ℕ)) → key ≡ o → change_by (Update log expected new) packed (if is_of_reference m && packs mode o (target_value new) then packed_object (target_value new) peeled else None) o ≡ Some v →
        (is_of_reference log.mode ≡ true) × (key ≡ Some v.0)
    by Only at o keyed given = cc
    by AndReference at None keyed given = by_none (if packs mode None (target_value new) then packed_object (target_value new) peeled else None) given
      where
        by_none : (put : Option PackedObject) → change_by (Update log expected new) packed put None ≡ Some v → (is_of_reference log.mode ≡ true) × (key ≡ Some v.0)
        by_none None given = cc
        by_none (Some put) given = cc
    by AndReference at (Some k) keyed given = by_some (if packs mode (Some k) (target_value new) then packed_object (target_value new) peeled else None) given
      where
        by_some : (put : Option PackedObject) → change_by (Update log expected new) packed put (Some k) ≡ Some v → (is_of_reference log.mode ≡ true) × (key ≡ Some v.0)
        by_some None given = cc
        by_some (Some put) given =
            let same_change : (k, new_put (Some put)) ≡ v = cc in
            (ap is_of_reference at, keyed ∙ ap (λ (x : ChangeValue). Some x.0) same_change)

-- a change is of the key of its edit
keyed_is : (b : Bool) (key : Option (List ℕ)) (put : Option PackedObject) (v : ChangeValue) → (if b then option_map (λ (k : List ℕ). (k, new_put put)) key else None) ≡ Some v → key ≡ Some v.0
keyed_is false key put v is = cc
keyed_is true None put v is = cc
keyed_is true (Some k) put v is = let same_change : (k, new_put put) ≡ v = cc in ap (λ (x : ChangeValue). Some x.0) same_change

module _ (mode : Mode) (rs : List Record) (have : HaveIds rs) where
  found_by_key : (k : List ℕ) (b : Bool) → b ≡ is_some (record_named k rs) → change_some (cons_option (if b then Some (k, None) else None) []) rs ≡ is_some (record_named k rs)
  found_by_key k true is = or_false (is_some (record_named k rs))
  found_by_key k false is = is

  -- an update is put where it alters `packed-refs`
  put_alters : (m : Mode) (key : Option (List ℕ)) (t : TargetValue) (peeled : Option ObjectId) → change_some (cons_option (change_of_update m key t peeled) []) rs ≡ alters_change m key (plan.Change.Update t) rs
  put_alters DeletionsOnly None t peeled = refl
  put_alters DeletionsOnly (Some k) t peeled = refl
  put_alters Packing None t peeled = refl
  put_alters Packing (Some k) (object_id id) peeled = refl
  put_alters Packing (Some k) (symbolic_name name) peeled = refl
  put_alters PackingAndRemoving None t peeled = refl
  put_alters PackingAndRemoving (Some k) (object_id id) peeled = refl
  put_alters PackingAndRemoving (Some k) (symbolic_name name) peeled = refl

  -- an edit changes a record where it alters `packed-refs`
  one_found : (c : Change) (packed : Option ObjectId) (key : Option (List ℕ)) (peeled : Option ObjectId) → packed ≡ packed_id key rs →
      change_some (cons_option (change_by c packed (put_by mode key c peeled) key) []) rs ≡ (is_of_reference (mode_of c) && alters_change mode key (change_of c) rs)
  one_found (Update log expected new) packed key peeled is = by log.mode
    where
      by : (m : RefLog) → change_some (cons_option (change_by (Update log expected new) packed (if is_of_reference m && packs mode key (target_value new) then packed_object (target_value new) peeled else None) key) []) rs
          ≡ (is_of_reference m && alters_change mode key (plan.Change.Update (target_value new)) rs)
      by Only = refl
      by AndReference = put_alters mode key (target_value new) peeled
  one_found (Delete expected Only) packed key peeled is = refl
  one_found (Delete expected AndReference) packed None peeled is = ap (λ (p : Option ObjectId). change_some (cons_option (if is_some p then None else None) []) rs) is
  one_found (Delete expected AndReference) packed (Some k) peeled is = found_by_key k (is_some packed) (ap is_some is ∙ have k)

  none_there : (k : List ℕ) (o : Option Record) → record_named k rs ≡ o → is_some (record_named k rs) ≡ false → o ≡ None
  none_there k None is none = refl
  none_there k (Some r) is none = absurd (true≢false (sym (ap is_some is) ∙ none))

  -- what is put in place of the record of a key, or that it goes, or stays where nothing else is of the key
  put_is : (m : Mode) (k : List ℕ) (t : TargetValue) (e : plan.Edit) (rest : List ChangeValue) (old : Option Record) → record_by rest k old ≡ old →
      record_by (cons_option (change_of_update m (Some k) t e.peeled) rest) k old ≡ edited_record m k e (plan.Change.Update t) old
  put_is DeletionsOnly k (object_id id) e rest old stays = stays
  put_is DeletionsOnly k (symbolic_name name) e rest old stays = stays
  put_is Packing k (object_id id) e rest old stays = cond-true (bytes_eq k k) _ _ (same_true k k refl)
  put_is Packing k (symbolic_name name) e rest old stays = stays
  put_is PackingAndRemoving k (object_id id) e rest old stays = cond-true (bytes_eq k k) _ _ (same_true k k refl)
  put_is PackingAndRemoving k (symbolic_name name) e rest old stays = stays

  gone_is : (k : List ℕ) (b : Bool) → b ≡ is_some (record_named k rs) → (rest : List ChangeValue) → record_by rest k (record_named k rs) ≡ record_named k rs →
      record_by (cons_option (if b then Some (k, None) else None) rest) k (record_named k rs) ≡ None
  gone_is k true is rest stays = cond-true (bytes_eq k k) _ _ (same_true k k refl)
  gone_is k false is rest stays = stays ∙ none_there k (record_named k rs) refl (sym is)

  -- at the key of an edit of the reference
  one_is : (c : Change) (packed : Option ObjectId) (k : List ℕ) (e : plan.Edit) (rest : List ChangeValue) → packed ≡ packed_id (Some k) rs → is_of_reference (mode_of c) ≡ true →
      record_by rest k (record_named k rs) ≡ record_named k rs →
      record_by (cons_option (change_by c packed (put_by mode (Some k) c e.peeled) (Some k)) rest) k (record_named k rs) ≡ edited_record mode k e (change_of c) (record_named k rs)
  one_is (Update log expected new) packed k e rest is refers stays = by log.mode refers
    where
      by : (m : RefLog) → is_of_reference m ≡ true → record_by (cons_option (change_by (Update log expected new) packed (if is_of_reference m && packs mode (Some k) (target_value new) then packed_object (target_value new) e.peeled else None) (Some k)) rest) k (record_named k rs)
          ≡ edited_record mode k e (plan.Change.Update (target_value new)) (record_named k rs)
      by Only refers = absurd (false≢true refers)
      by AndReference refers = put_is mode k (target_value new) e rest (record_named k rs) stays
  one_is (Delete expected Only) packed k e rest is refers stays = absurd (false≢true refers)
  one_is (Delete expected AndReference) packed k e rest is refers stays = gone_is k (is_some packed) (ap is_some is ∙ have k) rest stays

-- ---- all edits

module _ (s : Store) (mode : Mode) where
  -- the change of an edit that puts what it is to
  change_at : (e : Edit) → e.put ≡ put_by mode (s.key (name_of e.update)) e.update.change (peeled_in e.put) →
      key_change s e ≡ change_by e.update.change e.packed (put_by mode (s.key (name_of e.update)) e.update.change (peeled_in e.put)) (s.key (name_of e.update))
  change_at e puts = ap (λ p. change_by e.update.change e.packed p (s.key (name_of e.update))) puts

  -- a changed key is that of an edit of the reference
  pub record IsKeyOf (edits : List Edit) (k : List ℕ) : Type 0 where
    pub edit : plan.Edit
    pub within : IsEdit edit (plan_edits edits)
    pub keyed : s.key edit.name ≡ Some k

  one_among : (o : Option ChangeValue) (k : List ℕ) → is_in (keys_in (cons_option o [])) k ≡ true → (v : ChangeValue) × (o ≡ Some v) × (v.0 ≡ k)
  one_among None k is = absurd (false≢true is)
  one_among (Some v) k is = (v, refl, same v.0 k (sym (or_false (bytes_eq v.0 k)) ∙ is))

  in_front : (o : Option ChangeValue) (changes : List ChangeValue) (k : List ℕ) → is_in (keys_in (cons_option o changes)) k ≡ (is_in (keys_in (cons_option o [])) k || is_in (keys_in changes) k)
  in_front None changes k = refl
  in_front (Some v) changes k = ap (λ b. b || is_in (keys_in changes) k) (sym (or_false (bytes_eq v.0 k)))

  key_at : (e : Edit) (v : ChangeValue) → key_change s e ≡ Some v → s.key (name_of e.update) ≡ Some v.0
  key_at e v is = keyed_is (alters_record e) (s.key (name_of e.update)) e.put v is

  pub key_of : (edits : List Edit) (k : List ℕ) → is_in (keys_in (key_changes s edits)) k ≡ true → IsKeyOf edits k
  key_of [] k is = absurd (false≢true is)
  key_of (e ∷ edits) k is =
      ⊎_elim here (λ found. later (key_of edits k found))
      (or_cases (is_in (keys_in (cons_option (key_change s e) [])) k) (is_in (keys_in (key_changes s edits)) k) (sym (in_front (key_change s e) (key_changes s edits) k) ∙ is))
    where
      here : is_in (keys_in (cons_option (key_change s e) [])) k ≡ true → IsKeyOf (e ∷ edits) k
      here found =
          let one = one_among (key_change s e) k found in
          record { edit = edit_peeled e.update (peeled_in e.put); within = inl refl; keyed = key_at e one.0 one.1 ∙ ap Some one.2 }

      later : IsKeyOf edits k → IsKeyOf (e ∷ edits) k
      later of = record { edit = of.edit; within = inr of.within; keyed = of.keyed }

  none_among : (changes : List ChangeValue) (k : List ℕ) (old : Option Record) → (is_in (keys_in changes) k ≡ true → ⊥) → record_by changes k old ≡ old
  none_among [] k old none = refl
  none_among (c ∷ changes) k old none =
      cond-false (bytes_eq c.0 k) (record_left c) (record_by changes k old) (false_from_ne_true (bytes_eq c.0 k) (λ is. none (or_left (bytes_eq c.0 k) (is_in (keys_in changes) k) is)))
      ∙ none_among changes k old (λ is. none (or_right (bytes_eq c.0 k) (is_in (keys_in changes) k) is))

  module _ (rs : List Record) (have : HaveIds rs) where
    -- the edits change a record where they alter `packed-refs`
    pub found_is : (edits : List Edit) → ids_in edits ≡ ids_among s rs (updates edits) → HaveTheirPuts s mode edits → change_some (key_changes s edits) rs ≡ alters_packed s mode rs (plan_edits edits)
    found_is [] are puts = refl
    found_is (e ∷ edits) are puts =
        let parts = heads are in
        any_in_front (λ (c : ChangeValue). is_some c.1 || is_some (record_named c.0 rs)) (key_change s e) (key_changes s edits)
        ∙ (ap (λ o. change_some (cons_option o []) rs || change_some (key_changes s edits) rs) (change_at e puts.0)
        ∙ (ap (λ b. b || change_some (key_changes s edits) rs) (one_found mode rs have e.update.change e.packed (s.key (name_of e.update)) (peeled_in e.put) parts.0)
        ∙ ap (λ b. (is_of_reference (mode_of e.update.change) && alters_change mode (s.key (name_of e.update)) (change_of e.update.change) rs) || b) (found_is edits parts.1 puts.1)))

    module _ (laws : HasLaws s) where
      -- no later edit has the key of an edit
      no_later : (e : Edit) (edits : List Edit) → AreEdits s (plan_edits (e ∷ edits)) → (k : List ℕ) → s.key (name_of e.update) ≡ Some k → is_in (keys_in (key_changes s edits)) k ≡ true → ⊥
      no_later e edits apart k keyed is =
          let of = key_of edits k is in
          apart.1 of.edit of.within (laws.one_place (name_of e.update) of.edit.name k apart.0 (is_reference_at s (plan_edits edits) apart.2 of.edit of.within) keyed of.keyed)

      -- the record of a key after the edits is by their changes
      pub merged_is : (edits : List Edit) → ids_in edits ≡ ids_among s rs (updates edits) → HaveTheirPuts s mode edits → AreEdits s (plan_edits edits) → (k : List ℕ) →
          record_by (key_changes s edits) k (record_named k rs) ≡ merged_record s mode (plan_edits edits) k (record_named k rs)
      merged_is [] are puts apart k = refl
      merged_is (e ∷ edits) are puts apart k = by (merged_is edits (heads are).1 puts.1 apart.2 k) (s.key (name_of e.update)) refl (is_of_reference (mode_of e.update.change)) refl
        where
          old : Option Record
          old = record_named k rs

          more : List ChangeValue
          more = key_changes s edits

          p : plan.Edit
          p = edit_peeled e.update (peeled_in e.put)

          skipped : (o : Option ChangeValue) → ((v : ChangeValue) → o ≡ Some v → bytes_eq v.0 k ≡ false) → record_by (cons_option o more) k old ≡ record_by more k old
          skipped None other = refl
          skipped (Some v) other = cond-false (bytes_eq v.0 k) (record_left v) (record_by more k old) (other v refl)

          -- an edit that is not of the reference, or has another key
          passed : (record_by more k old ≡ merged_record s mode (plan_edits edits) k old) → (is_of_reference (mode_of e.update.change) && is_key (s.key (name_of e.update)) k) ≡ false → ((v : ChangeValue) → key_change s e ≡ Some v → bytes_eq v.0 k ≡ false) →
              record_by (cons_option (key_change s e) more) k old ≡ merged_record s mode (plan_edits (e ∷ edits)) k old
          passed rest other none =
              skipped (key_change s e) none
              ∙ (rest ∙ sym (cond-false (is_of_reference (mode_of e.update.change) && is_key (s.key (name_of e.update)) k) (edited_record mode k p (change_of e.update.change) old) (merged_record s mode (plan_edits edits) k old) other))

          says : (v : ChangeValue) → key_change s e ≡ Some v → (is_of_reference (mode_of e.update.change) ≡ true) × (s.key (name_of e.update) ≡ Some v.0)
          says v is = change_is mode e.update.change e.packed (s.key (name_of e.update)) (peeled_in e.put) v (sym (change_at e puts.0) ∙ is)

          by_same : (record_by more k old ≡ merged_record s mode (plan_edits edits) k old) → (j : List ℕ) → s.key (name_of e.update) ≡ Some j → is_of_reference (mode_of e.update.change) ≡ true → (b : Bool) → bytes_eq j k ≡ b →
              record_by (cons_option (key_change s e) more) k old ≡ merged_record s mode (plan_edits (e ∷ edits)) k old
          by_same rest j keyed refers false other =
              passed rest (ap (λ b. b && is_key (s.key (name_of e.update)) k) refers ∙ (ap (λ o. is_key o k) keyed ∙ other))
              (λ v is. ap (λ (i : List ℕ). bytes_eq i k) (let equal : Some v.0 ≡ Some j = sym (says v is).1 ∙ keyed in cc) ∙ other)
          by_same rest j keyed refers true here =
              let key : s.key (name_of e.update) ≡ Some k = keyed ∙ ap Some (same j k here) in
              let stays = none_among more k old (no_later e edits apart k key) in
              ap (λ o. record_by (cons_option o more) k old) (change_at e puts.0)
              ∙ (ap (λ o. record_by (cons_option (change_by e.update.change e.packed (put_by mode o e.update.change (peeled_in e.put)) o) more) k old) key
              ∙ (one_is mode rs have e.update.change e.packed k p more ((heads are).0 ∙ ap (λ o. packed_id o rs) key) refers stays
              ∙ sym (cond-true (is_of_reference (mode_of e.update.change) && is_key (s.key (name_of e.update)) k) (edited_record mode k p (change_of e.update.change) old) (merged_record s mode (plan_edits edits) k old)
              (ap (λ b. b && is_key (s.key (name_of e.update)) k) refers ∙ (ap (λ o. is_key o k) key ∙ same_true k k refl)))))

          by : (record_by more k old ≡ merged_record s mode (plan_edits edits) k old) → (o : Option (List ℕ)) → s.key (name_of e.update) ≡ o → (b : Bool) → is_of_reference (mode_of e.update.change) ≡ b →
              record_by (cons_option (key_change s e) more) k old ≡ merged_record s mode (plan_edits (e ∷ edits)) k old
          by rest o keyed false log = passed rest (ap (λ b. b && is_key (s.key (name_of e.update)) k) log) (λ v is. absurd (true≢false (sym (says v is).0 ∙ log)))
          by rest None keyed true refers =
              passed rest (ap (λ b. b && is_key (s.key (name_of e.update)) k) refers ∙ ap (λ o. is_key o k) keyed)
              (λ v is. absurd (let bad : None ≡ Some v.0 = sym keyed ∙ (says v is).1 in cc))
          by rest (Some j) keyed true refers = by_same rest j keyed refers (bytes_eq j k) refl

  module _ (laws : HasLaws s) where
    -- no two changes are of one key
    differ : (k : List ℕ) (keys : List (List ℕ)) → (is_in keys k ≡ true → ⊥) → AllByRecursion (λ j. bytes_eq k j ≡ false) keys
    differ k [] none = tt
    differ k (j ∷ keys) none = (
      false_from_ne_true (bytes_eq k j) (λ is. none (or_left (bytes_eq j k) (is_in keys k) (nat_list_eq_equiv.symm j k ∙ is))),
      differ k keys (λ is. none (or_right (bytes_eq j k) (is_in keys k) is)),
    )

    pub distinct : (edits : List Edit) → AreEdits s (plan_edits edits) → IsDistinct bytes_eq (keys_in (key_changes s edits))
    unfolding IsDistinct
    distinct [] apart = tt
    distinct (e ∷ edits) apart = by (key_change s e) refl (distinct edits apart.2)
      where
        by : (o : Option ChangeValue) → key_change s e ≡ o → IsDistinct bytes_eq (keys_in (key_changes s edits)) → IsDistinct bytes_eq (keys_in (cons_option o (key_changes s edits)))
        by None is later = later
        by (Some v) is later = (
          differ v.0 (keys_in (key_changes s edits)) (λ within.
              let of = key_of edits v.0 within in
              apart.1 of.edit of.within (laws.one_place (name_of e.update) of.edit.name v.0 apart.0 (is_reference_at s (plan_edits edits) apart.2 of.edit of.within) (key_at e v is) of.keyed)),
          later,
        )

-- what is put can be read
pub readable_changes : (s : Store) (kind : Kind) (edits : List Edit) → AllCanBePut s kind edits → AreReadable kind (key_changes s edits)
readable_changes s kind [] can = All-nil (λ (c : ChangeValue). IsReadableIfAny kind (record_left c))
readable_changes s kind (e ∷ edits) can = by (alters_record e) (s.key (name_of e.update)) refl e.put refl (readable_changes s kind edits can.1)
  where
    in_front : (k : List ℕ) → s.key (name_of e.update) ≡ Some k → (put : Option PackedObject) → e.put ≡ put → IsReadableIfAny kind (record_left (k, new_put put))
    in_front k keyed None is = tt
    in_front k keyed (Some object) is = let one = can.0 object is in new_readable kind k (record { target = object.target; peeled = object.peeled }) (one.key k keyed) one.target one.peeled

    by : (b : Bool) (o : Option (List ℕ)) → s.key (name_of e.update) ≡ o → (put : Option PackedObject) → e.put ≡ put → AreReadable kind (key_changes s edits) →
        AreReadable kind (cons_option (if b then option_map (λ (k : List ℕ). (k, new_put put)) o else None) (key_changes s edits))
    by false o keyed put is later = later
    by true None keyed put is later = later
    by true (Some k) keyed put is later = All-cons (λ (c : ChangeValue). IsReadableIfAny kind (record_left c)) (k, new_put put) (key_changes s edits) (in_front k keyed put is) later

module _ (s : Store) where
  -- one more edit
  pub changes_more : (edits : List Edit) (i : ℕ) (e : Edit) → i < length edits → e ≡ get_or edits i e → (changes more : List ChangeValue) → changes ≡ key_changes s (take i edits) → more ≡ changes ++ cons_option (key_change s e) [] →
      more ≡ key_changes s (take (i + 1) edits)
  changes_more edits i e lt is changes more before after =
      after
      ∙ (ap (λ l. l ++ cons_option (key_change s e) []) before
      ∙ (sym (filter_map-append (key_change s) (take i edits) (e ∷ []))
      ∙ ap (key_changes s) (sym (take_more edits i e lt ∙ ap (λ x. take i edits ++ x ∷ []) (sym is)))))

  -- no edit makes one
  pub no_changes : (edits : List Edit) → list_any alters_record edits ≡ false → key_changes s edits ≡ []
  no_changes [] none = refl
  no_changes (e ∷ edits) none = by (alters_record e) none (no_changes edits)
    where
      by : (b : Bool) → (b || list_any alters_record edits) ≡ false → (list_any alters_record edits ≡ false → key_changes s edits ≡ []) →
          cons_option (if b then option_map (λ (k : List ℕ). (k, new_put e.put)) (s.key (name_of e.update)) else None) (key_changes s edits) ≡ []
      by true is later = absurd (true≢false is)
      by false is later = later is
