-- Merged records are those of their file.
use Rattle.std.proofs.Common.{◌≡◌, ◌⊎◌, ◌&&◌, inl, inr, ⊎_elim, ℕ, suc, Bool, true, false, List, [], ◌∷◌, refl, sym, ◌∙◌, ap, subst, arith, Option, Some, None, cond, bytes_eq}
use Rattle.std.specs.Prelude.{AllPairs}
use Rattle.std.specs.List.{All}
use Rattle.std.specs.Cmp.Lexicographic.{slice_cmp}
use Rattle.std.specs.Ordering.{nat_cmp, is_eq, ordering_reverse}
use Rattle.std.specs.declared.cmp.Ordering.TheVariants.{Less}
use Rattle.std.proofs.lemmas.Bool.{cond-true, cond-false, cases_Bool, true≢false}
use Rattle.std.proofs.lemmas.Cmp.{nat_list_cmp_total}
use Rattle.std.proofs.lemmas.Map.Text.{is_eq-slice_cmp}
use Rattle.std.proofs.lemmas.Slice.Eq.{bytes_eq-Decides}
use Rattle.std.proofs.lemmas.List.Elements.{All-head, All-tail, All-cons, All-nil}
use Rattle.gix_ref_hash.specs.declared.hash.Kind.{Kind}
use Rattle.gix_ref_target.specs.Layout.{Layout}
use Rattle.gix_ref_target.specs.PackedRecords.{Record, record_named}
use Rattle.gix_ref_target.specs.Targets.TargetValue.{object_id, symbolic_name}
use Rattle.gix_ref_packed_text.specs.Positions.{IsReadable}
use Rattle.gix_ref_packed_text.specs.RecordGrammar.{Below, Ascending}
use Rattle.gix_ref_packed_text.specs.WrittenText.{written_header}
use Rattle.gix_ref_packed.proofs.RecordsOfText.{records_computed}
use Rattle.gix_ref_packed_text.proofs.OutcomeLemmas.{well_formed, records_read}
use Rattle.gix_ref_lookup.specs.Lookups.{ArePackedRecords}
use Rattle.gix_ref_lookup.specs.StoreLayout.{git_options}
use Rattle.gix_ref_theory.specs.Between.{IsEdit, MergesRecords}
use Rattle.gix_ref_theory.specs.ConcreteStore.{store_of}
use Rattle.gix_ref_theory.specs.Edits.{Edit, Change, Mode, merged_record, edited_record, file_of_records, is_key}
use Rattle.gix_ref_theory.specs.Edits.Change.{Update, Delete}
use Rattle.gix_ref_theory.specs.Edits.Mode.{DeletionsOnly, Packing, PackingAndRemoving}
use Rattle.gix_ref_theory.specs.Readings.{Store, records_of_file}
use Rattle.gix_ref_read_back.specs.Outside.{AllPutReadable}

-- ---- the records that are left

no_record : (r : Record) → None ≡ Some r → ⊥
no_record r is = cc

-- an edit leaves the record of a key as it was, removes it, or puts the one that it puts where there was none
one_left : (mode : Mode) (key : List ℕ) (e : Edit) (change : Change) (old : Option Record) (r : Record) → edited_record mode key e change old ≡ Some r → (edited_record mode key e change None ≡ Some r) ⊎ (old ≡ Some r)
one_left mode key e Delete old r is = absurd (no_record r is)
one_left mode key e (Update (symbolic_name name)) old r is = inr is
one_left DeletionsOnly key e (Update (object_id id)) old r is = inr is
one_left Packing key e (Update (object_id id)) old r is = inl is
one_left PackingAndRemoving key e (Update (object_id id)) old r is = inl is

key_is : (own : Option (List ℕ)) (key : List ℕ) → is_key own key ≡ true → own ≡ Some key
key_is None key is = absurd (true≢false (sym is))
key_is (Some name) key is = ap Some ((bytes_eq-Decides name key).0 is)

both : (a b : Bool) → (a && b) ≡ true → (a ≡ true) × (b ≡ true)
both true b is = (refl, is)
both false b is = absurd (true≢false (sym is))

-- and so all of them
all_left : (P : Record → Type 0) (s : Store) (mode : Mode) (edits : List Edit) (key : List ℕ) (old : Option Record) (r : Record) →
    ((e : Edit) → IsEdit e edits → e.and_reference ≡ true → s.key e.name ≡ Some key → edited_record mode key e e.change None ≡ Some r → P r) → (old ≡ Some r → P r) →
    merged_record s mode edits key old ≡ Some r → P r
all_left P s mode [] key old r put kept is = kept is
all_left P s mode (e ∷ edits) key old r put kept is =
    by (e.and_reference && is_key (s.key e.name) key) refl is (all_left P s mode edits key old r (λ f within. put f (inr within)) kept)
  where
    by : (b : Bool) → (e.and_reference && is_key (s.key e.name) key) ≡ b → cond b (edited_record mode key e e.change old) (merged_record s mode edits key old) ≡ Some r → (merged_record s mode edits key old ≡ Some r → P r) → P r
    by true here is later =
        let at = both e.and_reference (is_key (s.key e.name) key) here in
        ⊎_elim (put e (inl refl) at.0 (key_is (s.key e.name) key at.1)) kept (one_left mode key e e.change old r is)
    by false other is later = later is

-- ---- records found by their names

picked : (P : Record → Type 0) (b : Bool) (s r : Record) (rest : Option Record) → P s → (rest ≡ Some r → P r) → cond b (Some s) rest ≡ Some r → P r
picked P true s r rest here later is = let same : s ≡ r = cc in subst P same here
picked P false s r rest here later is = later is

-- a record that is found is one of them
found_one : (P : Record → Type 0) (key : List ℕ) (rs : List Record) (r : Record) → All P rs → record_named key rs ≡ Some r → P r
found_one P key [] r all is = absurd (no_record r is)
found_one P key (s ∷ rs) r all is = picked P (bytes_eq s.name key) s r (record_named key rs) (All-head P s rs all) (found_one P key rs r (All-tail P s rs all)) is

above_apart : (a b : List ℕ) → Below b a → bytes_eq a b ≡ false
above_apart a b below = sym (is_eq-slice_cmp a b) ∙ ap is_eq (nat_list_cmp_total.antisymm a b ∙ ap ordering_reverse below)

none_above : (name : List ℕ) (rs : List Record) → All (λ s. Below name s.name) rs → record_named name rs ≡ None
none_above name [] all = refl
none_above name (s ∷ rs) all =
    cond-false (bytes_eq s.name name) (Some s) (record_named name rs) (above_apart s.name name (All-head (λ s. Below name s.name) s rs all))
    ∙ none_above name rs (All-tail (λ s. Below name s.name) s rs all)

first_named : (r : Record) (rs : List Record) → record_named r.name (r ∷ rs) ≡ Some r
first_named r rs = cond-true (bytes_eq r.name r.name) (Some r) (record_named r.name rs) ((bytes_eq-Decides r.name r.name).1 refl)

-- a later record is found after the first
behind : (key : List ℕ) (r q : Record) (rs : List Record) → All (λ s. Below r.name s.name) rs → record_named key rs ≡ Some q → record_named key (r ∷ rs) ≡ Some q
behind key r q rs above is = go (cases_Bool (bytes_eq r.name key))
  where
    go : (bytes_eq r.name key ≡ true) ⊎ (bytes_eq r.name key ≡ false) → record_named key (r ∷ rs) ≡ Some q
    go (inl here) =
        let same = (bytes_eq-Decides r.name key).0 here in
        absurd (no_record q (sym (none_above r.name rs above) ∙ (ap (λ n. record_named n rs) same ∙ is)))
    go (inr other) = cond-false (bytes_eq r.name key) (Some r) (record_named key rs) other ∙ is

-- what each record has that is found by its name, all have
all_found : (P : Record → Type 0) (rs : List Record) → Ascending rs → ((key : List ℕ) (r : Record) → record_named key rs ≡ Some r → P r) → All P rs
all_found P [] up has = All-nil P
all_found P (r ∷ rs) up has = All-cons P r rs (has r.name r (first_named r rs)) (all_found P rs up.1 (λ key q is. has key q (behind key r q rs up.0 is)))

pairs_ascend : (rs : List Record) → AllPairs (λ (r later : Record). slice_cmp nat_cmp r.name later.name ≡ Less) rs → Ascending rs
pairs_ascend [] up = tt
pairs_ascend (r ∷ rs) up = (λ k d lt. up 0 (suc k) d (omega arith) (omega arith), pairs_ascend rs (λ i j d lt le. up (suc i) (suc j) d (omega arith) (omega arith)))

-- ---- the file

module _ (f : Layout) (k : Kind) (prohibits : Bool) where
  abbrev git : Store
  git = store_of f (git_options k prohibits)

  -- they are the records that are computed
  pub computed : (file : Option (List ℕ)) (rs : List Record) → ArePackedRecords k file rs → records_of_file git file ≡ rs
  computed None rs are = sym are
  computed (Some text) rs are = records_computed k text are.0 rs are.1.whole

  readable : (file : Option (List ℕ)) (rs : List Record) → ArePackedRecords k file rs → All (IsReadable k) rs
  readable None rs are = subst (All (IsReadable k)) (sym are) (All-nil (IsReadable k))
  readable (Some text) rs are = let whole = are.1.whole in records_read k whole.0 rs whole.2

  -- merged records can be read, where those that are put can
  merged_read : (mode : Mode) (edits : List Edit) (old new : List Record) → MergesRecords git mode edits old new → AllPutReadable git mode k edits → All (IsReadable k) old → All (IsReadable k) new
  merged_read mode edits old new m puts all =
      all_found (IsReadable k) new (pairs_ascend new m.ascending)
      (λ key r is. all_left (IsReadable k) git mode edits key (record_named key old) r (λ e within. puts e within key r) (found_one (IsReadable k) key old r all) (sym (m.each key) ∙ is))

  merged_has : (merged : List Record) → AllPairs (λ (r later : Record). slice_cmp nat_cmp r.name later.name ≡ Less) merged → All (IsReadable k) merged → ArePackedRecords k (file_of_records git merged) merged
  merged_has [] m all = refl
  merged_has (r ∷ rs) m all = (Some written_header, well_formed k (r ∷ rs) (pairs_ascend (r ∷ rs) m) all)

  -- merged records are those of their file
  pub read_again : (mode : Mode) (edits : List Edit) (old : Option (List ℕ)) (rs merged : List Record) → ArePackedRecords k old rs → AllPutReadable git mode k edits → MergesRecords git mode edits (records_of_file git old) merged →
      records_of_file git (file_of_records git merged) ≡ merged
  read_again mode edits old rs merged are puts m =
      computed (file_of_records git merged) merged
      (merged_has merged m.ascending (merged_read mode edits (records_of_file git old) merged m puts (subst (All (IsReadable k)) (sym (computed old rs are)) (readable old rs are))))
