-- What becomes of `packed-refs` by edits, by the changes of records that they make.
use Rattle.std.proofs.Common.{◌≡◌, ◌≢◌, ℕ, List, [], ◌∷◌, Option, Some, Bool, true, false, refl, sym, ap, ◌∙◌, Result, Ok, Err, IfOk, IfErr}
use Rattle.std.specs.Prelude.{MatchResult}
use Rattle.std.specs.List.{list_any}
use Rattle.std.specs.List.Sorted.{IsPermutation, IsSorted, IsStrictlySortedBy}
use Rattle.std.specs.Ordering.{nat_cmp}
use Rattle.std.specs.Cmp.Lexicographic.{slice_cmp}
use Rattle.std.proofs.lemmas.List.Sorted.{All-permutation, IsPermutation-map}
use Rattle.gix_ref_hash.specs.declared.hash.Kind.{Kind}
use Rattle.gix_ref_target.specs.Layout.{IsLayout, Layout}
use Rattle.gix_ref_target.specs.PackedRecords.{Record, record_named}
use Rattle.gix_ref_packed_text.specs.WrittenText.{written_header}
use Rattle.gix_ref_packed.proofs.RecordsOfText.{records_computed}
use Rattle.gix_ref_packed_text.specs.Rewrites.{IsReadableIfAny}
use Rattle.gix_ref_packed_text.specs.declared.outcome.Rewrite.{Rewrite}
use Rattle.gix_ref_packed_text.specs.declared.outcome.Rewrite.TheVariants.{Unchanged, Removed, Text}
use Rattle.gix_ref_packed_text.proofs.OutcomeLemmas.{ascending_pairs}
use Rattle.gix_ref_theory.specs.Between.{AreEdits, MergesRecords}
use Rattle.gix_ref_theory.specs.ConcreteStore.{store_of}
use Rattle.gix_ref_theory.specs.Edits.{Mode, alters_packed, file_of_records}
use Rattle.gix_ref_theory.specs.Readings.{HasLaws, Store}
use Rattle.gix_ref_theory.proofs.PlaceLaws.{laws_hold}
use Rattle.gix_ref_lookup.specs.Lookups.{ArePackedRecords}
use Rattle.gix_ref_lookup.specs.StoreLayout.{git_options}
use Rattle.gix_ref_transaction.specs.PackedCauses.{ids_among}
use Rattle.gix_ref_transaction.specs.Packing.{HaveTheirPuts, plan_edits}
use Rattle.gix_ref_transaction.specs.PrepareSteps.{ids_in, updates}
use Rattle.gix_ref_transaction.specs.declared.edit.Edit.{Edit}
use Rattle.gix_ref_packed_transaction.specs.Changes.{AreChanged, ChangeValue, IsChanged, change_some, keys_in, record_left}
use Rattle.gix_ref_packed_transaction.specs.Repacks.{AllCanBePut, IsRepack, alters_record}
use Rattle.gix_ref_packed_transaction.specs.internal.ChangedKeys.{key_changes}
use Rattle.gix_ref_packed_transaction.proofs.ChangeLemmas.{moved_by, moved_some}
use Rattle.gix_ref_packed_transaction.proofs.EditChanges.{distinct, found_is, merged_is, no_changes, readable_changes}
use Rattle.gix_ref_packed_transaction.proofs.KeyLemmas.{packed_have_ids, strictly_sorted}

-- the file of some records is their text
file_is : (s : Store) (rs : List Record) (text : List ℕ) → rs ≢ [] → text ≡ s.text_of_records rs → file_of_records s rs ≡ Some text
file_is s [] text some is = absurd (some refl)
file_is s (r ∷ rs) text some is = ap Some (sym is)

module _ (f : Layout) (laid : IsLayout f) (kind : Kind) (prohibits : Bool) where
  abbrev git : Store
  git = store_of f (git_options kind prohibits)

  laws : HasLaws git
  laws = laws_hold f (git_options kind prohibits) laid

  -- the keys in order, as no two edits have one
  pub sorted_keys : (mode : Mode) (edits : List Edit) (sorted : List ChangeValue) → AreEdits git (plan_edits edits) → IsPermutation (key_changes git edits) sorted →
      IsSorted (slice_cmp nat_cmp) (keys_in sorted) → IsStrictlySortedBy (slice_cmp nat_cmp) (keys_in sorted)
  sorted_keys mode edits sorted apart moved in_order =
      strictly_sorted (keys_in (key_changes git edits)) (keys_in sorted) (IsPermutation-map (λ (c : ChangeValue). c.0) (key_changes git edits) sorted moved) in_order (distinct git mode laws edits apart)

  module _ (mode : Mode) (packed : Option (List ℕ)) (rs : List Record) (are : ArePackedRecords kind packed rs) (edits : List Edit) (found : ids_in edits ≡ ids_among git rs (updates edits)) (puts : HaveTheirPuts git mode edits) where
    -- where no edit alters a record, nothing alters `packed-refs`
    pub unaltered : list_any alters_record edits ≡ false → alters_packed git mode rs (plan_edits edits) ≡ false
    unaltered none = sym (found_is git mode rs (packed_have_ids kind packed rs are) edits found puts) ∙ ap (λ cs. change_some cs rs) (no_changes git edits none)

    module _ (apart : AreEdits git (plan_edits edits)) (can : AllCanBePut git kind edits) (sorted : List ChangeValue) (moved : IsPermutation (key_changes git edits) sorted) where
      altered : (b : Bool) → change_some sorted rs ≡ b → alters_packed git mode rs (plan_edits edits) ≡ b
      altered b is = sym (found_is git mode rs (packed_have_ids kind packed rs are) edits found puts) ∙ (moved_some (key_changes git edits) sorted moved rs ∙ is)

      merged : (new : List Record) → AreChanged sorted rs new → MergesRecords git mode (plan_edits edits) rs new
      merged new changed = record {
        each = λ key.
            changed.each key
            ∙ (moved_by (key_changes git edits) sorted moved (distinct git mode laws edits apart) key (record_named key rs)
            ∙ merged_is git mode rs (packed_have_ids kind packed rs are) laws edits found puts apart key);
        ascending = ascending_pairs new changed.ascending;
      }

      -- what it is with the changes is what the edits make of it
      pub repack_is : (w : Rewrite) → IsChanged kind sorted rs w → IsRepack git mode kind rs (plan_edits edits) w
      repack_is Unchanged is = altered false is
      repack_is Removed is = (altered true is.0, merged [] is.1)
      repack_is (Text text) is =
          let well = is.1.well (All-permutation (λ (c : ChangeValue). IsReadableIfAny kind (record_left c)) (key_changes git edits) sorted moved (readable_changes git kind edits can)) in (
            altered true is.0,
            record {
              merged = is.1.new;
              is_merged = merged is.1.new is.1.changed;
              is_file = file_is git is.1.new text.items is.1.some is.1.is_text;
              reads_back = records_computed kind text.items (Some written_header) is.1.new well.whole;
              well = well;
            },
          )

-- the parts of a result
pub ok_part : {X E : Type 0} (P Q : X → Type 0) (F : E → Type 0) (r : Result X E) → MatchResult r P F → ((x : X) → P x → Q x) → IfOk r Q
ok_part P Q F (Ok x) is wider = wider x is
ok_part P Q F (Err e) is wider = tt

pub err_part : {X E : Type 0} (P : X → Type 0) (F : E → Type 0) (r : Result X E) → MatchResult r P F → IfErr r F
err_part P F (Ok x) is = tt
err_part P F (Err e) is = is
