-- The worked example, computed.
use Rattle.std.proofs.Common.{◌≡◌, ◌≢◌, ℕ, List, [], ◌∷◌, Option, Some, None, Bool, true, false, refl, sym, ap, ◌∙◌, subst, inl, inr, bytes_eq, codes, cond, replicate, take, ◌⊎◌, arith}
use Rattle.std.specs.List.{list_any}
use Rattle.std.proofs.lemmas.Bool.{false≢true, cases_Bool, cond-false}
use Rattle.hex.specs.Hex.{encode_with, decode_pairs}
use Rattle.gix_ref_hash.specs.declared.hash.ObjectId.TheVariants.{Sha1, Sha256}
use Rattle.gix_ref_hash.specs.Bytes.{without_front, components}
use Rattle.gix_ref_name.specs.NameGrammar.{partial_error}
use Rattle.gix_ref_theory.proofs.Writes.{same, same_true}
use Rattle.gix_ref_target.specs.Targets.{TargetValue}
use Rattle.gix_ref_target.specs.Targets.TargetValue.{object_id, symbolic_name}
use Rattle.gix_ref_theory.specs.Between.{AreEdits, InOrder, IsEdit, MergesRecords, NoDeletionFirst}
use Rattle.gix_ref_theory.specs.OnRealTrees.{CarryOut}
use Rattle.gix_ref_theory.specs.Edits.{Edit, edited_reading, file_of_records, merged_record}
use Rattle.gix_ref_theory.specs.Edits.Change.{Delete, Update}
use Rattle.gix_ref_theory.specs.Edits.Mode.{DeletionsOnly, PackingAndRemoving}
use Rattle.gix_ref_theory.specs.Example.{ExampleIsPrepared, PackedFirstIsWrong, PackedTextsAreThese, PlacesInLinked, PlanIsFiveWrites, RemovedFirstIsWrong, RemovingModeShowsDeletionFirst, RemovingModeShowsOutOfOrder, ReverseIsWrong, Shows, StepsCarryOutThePlan, a_record, deletion, edits, files, files_after, files_with_locks, kept_records, locked, old_records, ones, packed_records, steps, store, twos, update}
use Rattle.gix_ref_theory.specs.Plan.{plan}
use Rattle.gix_ref_target.specs.PackedRecords.{Record, record_named, written_text, id_read, written_id}
use Rattle.gix_ref_hash.specs.declared.hash.ObjectId.{ObjectId}
use Rattle.gix_ref_theory.specs.Readings.{Reading, reading, records_of_file}
use Rattle.gix_ref_theory.specs.Readings.Reading.{Absent, Fault, Is}
use Rattle.gix_ref_theory.specs.ConcreteStore.{below_folders, loose_text}
use Rattle.gix_ref_theory.specs.Views.{View, Write, after, changed_at}
use Rattle.gix_ref_theory.specs.Views.Write.{Put, Remove}

pub five_writes : PlanIsFiveWrites
unfolding encode_with decode_pairs without_front
five_writes = refl

pub row0 : Shows 0 ones ones (Is (object_id ones))
unfolding encode_with decode_pairs without_front
row0 = refl

pub row1 : Shows 1 twos ones (Is (object_id ones))
unfolding encode_with decode_pairs without_front
row1 = refl

pub row2 : Shows 2 twos twos (Is (object_id ones))
unfolding encode_with decode_pairs without_front
row2 = refl

pub row3 : Shows 3 twos twos (Is (object_id ones))
unfolding encode_with decode_pairs without_front
row3 = refl

pub row4 : Shows 4 twos twos Absent
unfolding encode_with decode_pairs without_front
row4 = refl

pub row5 : Shows 5 twos twos Absent
unfolding encode_with decode_pairs without_front
row5 = refl

pub lengths : PackedTextsAreThese
unfolding encode_with decode_pairs
lengths = (refl, refl)

abbrev a : List ℕ
a = codes "refs/heads/a"

abbrev b : List ℕ
b = codes "refs/heads/b"

abbrev t : List ℕ
t = codes "refs/tags/t"

abbrev is_ones : Reading → Bool
is_ones (Is (object_id (Sha1 bytes))) = bytes_eq bytes (replicate 20 17)
is_ones (Is (object_id (Sha256 bytes))) = false
is_ones (Is (symbolic_name name)) = false
is_ones Fault = false
is_ones Absent = false

differ : (x y : Reading) → is_ones x ≡ true → is_ones y ≡ false → x ≡ y → ⊥
differ x y one other same = false≢true (sym other ∙ (ap is_ones (sym same) ∙ one))

-- what an edit of the example leads to
edited_a : (old : Reading) → edited_reading store edits a old ≡ Is (object_id twos)
edited_a old = refl

edited_t : (old : Reading) → edited_reading store edits t old ≡ Absent
edited_t old = refl

a_before : reading store files a ≡ Is (object_id ones)
unfolding encode_with decode_pairs without_front
a_before = refl

b_before : reading store files b ≡ Is (object_id ones)
unfolding encode_with decode_pairs without_front
b_before = refl

t_before : reading store files t ≡ Is (object_id ones)
unfolding encode_with decode_pairs without_front
t_before = refl

-- a deletion that shows where a is as before
shows_first : (left : View) → reading store left a ≡ Is (object_id ones) → reading store left t ≡ Absent → NoDeletionFirst store edits files left → ⊥
shows_first left old gone h =
    differ (reading store left a) (Is (object_id twos)) (ap is_ones old) refl
    (h (deletion t) (inr (inr (inl refl))) refl refl (λ kept. differ (reading store files t) (reading store left t) (ap is_ones t_before) (ap is_ones gone) (sym kept)) (update a) (inl refl) refl
    ∙ edited_a (reading store files a))

-- an update of b that shows where a is as before
shows_late : (view left : View) → reading store view b ≡ Is (object_id ones) → reading store left a ≡ Is (object_id ones) → reading store left b ≡ Is (object_id twos) → InOrder store edits view left → ⊥
shows_late view left was old new h =
    differ (reading store left a) (Is (object_id twos)) (ap is_ones old) refl
    (h (update a ∷ []) (update b) (deletion t ∷ []) refl refl refl (λ kept. differ (reading store view b) (reading store left b) (ap is_ones was) (ap is_ones new) (sym kept)) (update a) (inl refl) refl
    ∙ edited_a (reading store view a))

packed_first_a : reading store (after (Put (codes "/r/packed-refs") (written_text kept_records) ∷ []) files) a ≡ Is (object_id ones)
unfolding encode_with decode_pairs without_front
packed_first_a = refl

packed_first_t : reading store (after (Put (codes "/r/packed-refs") (written_text kept_records) ∷ []) files) t ≡ Absent
unfolding encode_with decode_pairs without_front
packed_first_t = refl

pub packed_first : PackedFirstIsWrong
packed_first = shows_first (after (Put (codes "/r/packed-refs") (written_text kept_records) ∷ []) files) packed_first_a packed_first_t

reverse_a : reading store (after (Put (codes "/r/refs/heads/b") (loose_text (object_id twos)) ∷ []) files) a ≡ Is (object_id ones)
unfolding encode_with decode_pairs without_front
reverse_a = refl

reverse_b : reading store (after (Put (codes "/r/refs/heads/b") (loose_text (object_id twos)) ∷ []) files) b ≡ Is (object_id twos)
unfolding encode_with decode_pairs without_front
reverse_b = refl

pub reverse : ReverseIsWrong
reverse = shows_late files (after (Put (codes "/r/refs/heads/b") (loose_text (object_id twos)) ∷ []) files) b_before reverse_a reverse_b

abbrev loose : View
loose = changed_at (codes "/r/refs/tags/t") (Some (loose_text (object_id twos))) files

loose_t : reading store loose t ≡ Is (object_id twos)
unfolding encode_with decode_pairs without_front
loose_t = refl

stale_t : reading store (after (Remove (codes "/r/refs/tags/t") ∷ []) loose) t ≡ Is (object_id ones)
unfolding encode_with decode_pairs without_front
stale_t = refl

pub removed_first : RemovedFirstIsWrong
removed_first (inl kept) =
    differ (reading store (after (Remove (codes "/r/refs/tags/t") ∷ []) loose) t) (reading store loose t) (ap is_ones stale_t) (ap is_ones loose_t) kept
removed_first (inr edited) =
    differ (reading store (after (Remove (codes "/r/refs/tags/t") ∷ []) loose) t) Absent (ap is_ones stale_t) refl (edited ∙ edited_t (reading store loose t))

removing_a : reading store (files_after PackingAndRemoving packed_records 2) a ≡ Is (object_id ones)
unfolding encode_with decode_pairs without_front
removing_a = refl

removing_t : reading store (files_after PackingAndRemoving packed_records 2) t ≡ Absent
unfolding encode_with decode_pairs without_front
removing_t = refl

pub removing_mode : RemovingModeShowsDeletionFirst
removing_mode = shows_first (files_after PackingAndRemoving packed_records 2) removing_a removing_t

abbrev bare : View
bare = changed_at (codes "/r/refs/heads/b") None files

abbrev bare_after : View
bare_after = after (take 2 (plan store PackingAndRemoving bare edits packed_records)) bare

bare_b : reading store bare b ≡ Absent
unfolding encode_with decode_pairs without_front
bare_b = refl

bare_after_a : reading store bare_after a ≡ Is (object_id ones)
unfolding encode_with decode_pairs without_front
bare_after_a = refl

bare_after_b : reading store bare_after b ≡ Is (object_id twos)
unfolding encode_with decode_pairs without_front
bare_after_b = refl

pub removing_order : RemovingModeShowsOutOfOrder
removing_order h =
    differ (reading store bare_after a) (Is (object_id twos)) (ap is_ones bare_after_a) refl
    (h (update a ∷ []) (update b) (deletion t ∷ []) refl refl refl (λ kept. absent (sym bare_b ∙ (sym kept ∙ bare_after_b))) (update a) (inl refl) refl
    ∙ edited_a (reading store bare a))
  where
    absent : Absent ≡ Is (object_id twos) → ⊥
    absent e = cc

-- The transaction is prepared.

valid_a : store.is_reference a ≡ true
unfolding partial_error
valid_a = refl

valid_b : store.is_reference b ≡ true
unfolding partial_error
valid_b = refl

valid_t : store.is_reference t ≡ true
unfolding partial_error
valid_t = refl

a_is_not_b : store.place a ≢ store.place b
a_is_not_b e = false≢true (same_true (store.place a) (store.place b) e)

a_is_not_t : store.place a ≢ store.place t
a_is_not_t e = false≢true (same_true (store.place a) (store.place t) e)

b_is_not_t : store.place b ≢ store.place t
b_is_not_t e = false≢true (same_true (store.place b) (store.place t) e)

apart : AreEdits store edits
apart =
    (valid_a, at_a, (valid_b, at_b, (valid_t, λ f h same. h, tt)))
  where
    at_a : (f : Edit) → IsEdit f (update b ∷ deletion t ∷ []) → store.place a ≢ store.place f.name
    at_a f (inl e) same = a_is_not_b (same ∙ ap (λ (x : Edit). store.place x.name) (sym e))
    at_a f (inr (inl e)) same = a_is_not_t (same ∙ ap (λ (x : Edit). store.place x.name) (sym e))
    at_a f (inr (inr h)) same = h

    at_b : (f : Edit) → IsEdit f (deletion t ∷ []) → store.place b ≢ store.place f.name
    at_b f (inl e) same = b_is_not_t (same ∙ ap (λ (x : Edit). store.place x.name) (sym e))
    at_b f (inr h) same = h

none_prohibited : (parts : List (List ℕ)) → list_any (λ (part : List ℕ). false) parts ≡ false
none_prohibited [] = refl
none_prohibited (x ∷ parts) = none_prohibited parts

twos_read_back : store.target_of (store.text_of (object_id twos)) ≡ Some (object_id twos)
unfolding encode_with decode_pairs
twos_read_back = refl

read_back : (e : Edit) (target : TargetValue) → IsEdit e edits → e.change ≡ Update target → store.target_of (store.text_of target) ≡ Some target
read_back e target he is = by he
  where
    twos_is : Update (object_id twos) ≡ Update target → object_id twos ≡ target
    twos_is h = cc

    never : Delete ≡ Update target → ⊥
    never h = cc

    by : IsEdit e edits → store.target_of (store.text_of target) ≡ Some target
    by (inl h) = subst (λ x. store.target_of (store.text_of x) ≡ Some x) (twos_is (ap (λ (x : Edit). x.change) h ∙ is)) twos_read_back
    by (inr (inl h)) = subst (λ x. store.target_of (store.text_of x) ≡ Some x) (twos_is (ap (λ (x : Edit). x.change) h ∙ is)) twos_read_back
    by (inr (inr (inl h))) = absurd (never (ap (λ (x : Edit). x.change) h ∙ is))
    by (inr (inr (inr h))) = absurd h

records_before : records_of_file store (files store.packed_path) ≡ old_records
unfolding encode_with decode_pairs without_front
records_before = refl

records_back : records_of_file store (file_of_records store kept_records) ≡ kept_records
unfolding encode_with decode_pairs
records_back = refl

keeps_old : (x y : Bool) (old : Option Record) → cond x old (cond y old old) ≡ old
keeps_old true y old = refl
keeps_old false true old = refl
keeps_old false false old = refl

merged : MergesRecords store DeletionsOnly edits old_records kept_records
merged = record {
  each = λ key. at_key key (cases_Bool (bytes_eq t key));
  ascending = λ i j d lt le. absurd (omega arith);
}
  where
    at_key : (key : List ℕ) → (bytes_eq t key ≡ true) ⊎ (bytes_eq t key ≡ false) →
        record_named key kept_records ≡ merged_record store DeletionsOnly edits key (record_named key old_records)
    at_key key (inl is) =
        subst (λ k. record_named k kept_records ≡ merged_record store DeletionsOnly edits k (record_named k old_records)) (same t key is) refl
    at_key key (inr other) =
        let old : record_named key old_records ≡ record_named key kept_records =
        cond-false (bytes_eq t key) (Some (a_record t ones)) (record_named key kept_records) other in
        sym (ap (merged_record store DeletionsOnly edits key) old
        ∙ (ap (λ v. cond (bytes_eq a key) (record_named key kept_records) (cond (bytes_eq b key) (record_named key kept_records) (cond v None (record_named key kept_records)))) other
        ∙ keeps_old (bytes_eq a key) (bytes_eq b key) (record_named key kept_records)))

twos_are_read : id_read (written_id twos) ≡ Some twos
unfolding encode_with decode_pairs
twos_are_read = refl

ids_back : (e : Edit) (id : ObjectId) → IsEdit e edits → e.change ≡ Update (object_id id) → id_read (written_id id) ≡ Some id
ids_back e id he is = by he
  where
    twos_is : Update (object_id twos) ≡ Update (object_id id) → twos ≡ id
    twos_is h = cc

    never : Delete ≡ Update (object_id id) → ⊥
    never h = cc

    by : IsEdit e edits → id_read (written_id id) ≡ Some id
    by (inl h) = subst (λ x. id_read (written_id x) ≡ Some x) (twos_is (ap (λ (x : Edit). x.change) h ∙ is)) twos_are_read
    by (inr (inl h)) = subst (λ x. id_read (written_id x) ≡ Some x) (twos_is (ap (λ (x : Edit). x.change) h ∙ is)) twos_are_read
    by (inr (inr (inl h))) = absurd (never (ap (λ (x : Edit). x.change) h ∙ is))
    by (inr (inr (inr h))) = absurd h

pub prepared : ExampleIsPrepared
prepared = record {
  apart = apart;
  allowed = λ e he. none_prohibited (components (below_folders (record { git = codes "/r"; common = codes "/r"; namespace = [] }) (store.place e.name)));
  targets_read_back = read_back;
  ids_read_back = ids_back;
  records_are_merged = λ h. subst (λ old. MergesRecords store DeletionsOnly edits old kept_records) (sym records_before) merged;
  records_read_back = λ h. records_back;
}

pub places : PlacesInLinked
places = (refl, refl, refl, refl, refl, refl)

-- The steps carry out the plan.

abbrev last_write : List Write
last_write = Remove (codes "/r/refs/tags/t") ∷ []

abbrev last_two : List Write
last_two = Put (codes "/r/packed-refs") (written_text kept_records) ∷ last_write

abbrev last_three : List Write
last_three = Remove (codes "/r/logs/refs/tags/t") ∷ last_two

abbrev last_four : List Write
last_four = Put (codes "/r/refs/heads/b") (loose_text (object_id twos)) ∷ last_three

abbrev all_five : List Write
all_five = Put (codes "/r/refs/heads/a") (loose_text (object_id twos)) ∷ last_four

plan_with_locks : plan store DeletionsOnly files_with_locks edits kept_records ≡ all_five
unfolding encode_with decode_pairs without_front
plan_with_locks = refl

five_carried : CarryOut locked files_with_locks steps all_five
five_carried = (
  last_four,
  inl refl,
  refl,
  (
    last_three,
    inr (inl refl),
    refl,
    inr (
      last_two,
      refl,
      inl (
        inr (inr (inr (inl refl))),
        (
          last_write,
          inr (inr (inr (inl refl))),
          refl,
          inr (
            [],
            refl,
            inl (inr (inr (inl refl)), refl),
          ),
        ),
      ),
    ),
  ),
)

pub carried : StepsCarryOutThePlan
carried = subst (CarryOut locked files_with_locks steps) (sym plan_with_locks) five_carried
