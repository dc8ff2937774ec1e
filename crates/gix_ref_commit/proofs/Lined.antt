-- Edits with the lines that logs gain, and the objects at the end of tags: what does not depend on these is as without them.
use Rattle.std.proofs.Common.{◌≡◌, ◌≢◌, inl, inr, ℕ, List, [], ◌∷◌, Bool, Option, None, refl, sym, ◌∙◌, ap, if◌then◌else◌}
use Rattle.std.specs.Prelude.{◌&&◌, ◌||◌}
use Rattle.gix_ref_hash.specs.declared.hash.Kind.{Kind}
use Rattle.gix_ref_target.specs.PackedRecords.{Record, record_named}
use Rattle.gix_ref_target.specs.Targets.TargetValue.{object_id, symbolic_name}
use Rattle.gix_ref_packed_text.specs.declared.outcome.Rewrite.{Rewrite}
use Rattle.gix_ref_packed_text.specs.declared.outcome.Rewrite.TheVariants.{Unchanged, Removed, Text}
use Rattle.gix_ref_theory.specs.Between.{AreEdits, IsEdit, MergesRecords}
use Rattle.gix_ref_theory.specs.Edits.{Change, Edit, Mode, alters_change, alters_packed, is_key, merged_record, edited_record}
use Rattle.gix_ref_theory.specs.Edits.Change.{Update, Delete}
use Rattle.gix_ref_theory.specs.Readings.{Store}
use Rattle.gix_ref_edits.specs.RefEdits.{name_of, mode_of, is_of_reference}
use Rattle.gix_ref_edits.specs.declared.transaction.RefEdit.{RefEdit}
use Rattle.gix_ref_transaction.specs.CarriedEdits.{change_of, edit_of}
use Rattle.gix_ref_transaction.specs.CommittedEdits.{planned}
use Rattle.gix_ref_packed_transaction.specs.Repacks.{IsRepack}
use Rattle.gix_ref_commit.specs.LogEffects.{Extra, but_line, but_lines, edit_with, with_extras}

-- each is one of the edits without its line
pub unlined : (given : List RefEdit) (extras : List Extra) (x : Edit) → IsEdit x (with_extras given extras) →
    (e : RefEdit) × IsEdit (edit_of e) (planned given) × ((line : Extra) × (edit_with e line ≡ x))
unlined [] extras x within = absurd within
unlined (e ∷ given) [] x (inl here) = (e, inl refl, ((None, None), here))
unlined (e ∷ given) [] x (inr later) = let at = unlined given [] x later in (at.0, inr at.1, at.2)
unlined (e ∷ given) (line ∷ extras) x (inl here) = (e, inl refl, (line, here))
unlined (e ∷ given) (line ∷ extras) x (inr later) = let at = unlined given extras x later in (at.0, inr at.1, at.2)

module _ (s : Store) where
  -- they have the same places
  pub apart_lined : (given : List RefEdit) (extras : List Extra) → AreEdits s (planned given) → AreEdits s (with_extras given extras)
  apart_lined [] extras apart = tt
  apart_lined (e ∷ given) extras (is, other, rest) = by extras (λ ls. apart_lined given ls rest)
    where
      alone : (ls : List Extra) (f : Edit) → IsEdit f (with_extras given ls) → s.place (name_of e) ≢ s.place f.name
      alone ls f within same = let at = unlined given ls f within in other (edit_of at.0) at.1 (same ∙ ap (λ (y : Edit). s.place y.name) (sym at.2.1))

      by : (ls : List Extra) → ((some : List Extra) → AreEdits s (with_extras given some)) → AreEdits s (with_extras (e ∷ given) ls)
      by [] later = (is, alone [], later [])
      by (line ∷ ls) later = (is, alone ls, later ls)

module _ (s : Store) (mode : Mode) where
  -- they alter `packed-refs` where those that were given do
  pub alters_given : (rs : List Record) (given : List RefEdit) (extras : List Extra) → alters_packed s mode rs (with_extras given extras) ≡ alters_packed s mode rs (planned given)
  alters_given rs [] extras = refl
  alters_given rs (e ∷ given) [] =
      ap (λ (b : Bool). (is_of_reference (mode_of e.change) && alters_change mode (s.key (name_of e)) (change_of e.change) rs) || b) (alters_given rs given [])
  alters_given rs (e ∷ given) (extra ∷ extras) =
      ap (λ (b : Bool). (is_of_reference (mode_of e.change) && alters_change mode (s.key (name_of e)) (change_of e.change) rs) || b) (alters_given rs given extras)

  -- and do the same to it as without their lines
  alters_lined : (rs : List Record) (edits : List Edit) → alters_packed s mode rs edits ≡ alters_packed s mode rs (but_lines edits)
  alters_lined rs [] = refl
  alters_lined rs (x ∷ edits) = ap (λ (b : Bool). (x.and_reference && alters_change mode (s.key x.name) x.change rs) || b) (alters_lined rs edits)

  edited_lined : (key : List ℕ) (x : Edit) (change : Change) (old : Option Record) → edited_record mode key x change old ≡ edited_record mode key (but_line x) change old
  edited_lined key x Delete old = refl
  edited_lined key x (Update (symbolic_name name)) old = refl
  edited_lined key x (Update (object_id id)) old = refl

  merged_lined : (key : List ℕ) (old : Option Record) (edits : List Edit) → merged_record s mode edits key old ≡ merged_record s mode (but_lines edits) key old
  merged_lined key old [] = refl
  merged_lined key old (x ∷ edits) =
      ap (λ (r : Option Record). if x.and_reference && is_key (s.key x.name) key then r else merged_record s mode edits key old) (edited_lined key x x.change old)
      ∙ ap (λ (r : Option Record). if x.and_reference && is_key (s.key x.name) key then edited_record mode key (but_line x) x.change old else r) (merged_lined key old edits)

  records_lined : (edits : List Edit) (old new : List Record) → MergesRecords s mode (but_lines edits) old new → MergesRecords s mode edits old new
  records_lined edits old new merged = record {
    each = λ key. merged.each key ∙ sym (merged_lined key (record_named key old) edits);
    ascending = merged.ascending;
  }

  pub repack_lined : (kind : Kind) (rs : List Record) (edits : List Edit) (rewrite : Rewrite) → IsRepack s mode kind rs (but_lines edits) rewrite → IsRepack s mode kind rs edits rewrite
  repack_lined kind rs edits Unchanged is = alters_lined rs edits ∙ is
  repack_lined kind rs edits Removed is = (alters_lined rs edits ∙ is.0, records_lined edits rs [] is.1)
  repack_lined kind rs edits (Text text) is = (
    alters_lined rs edits ∙ is.0,
    record {
      merged = is.1.merged;
      is_merged = records_lined edits rs is.1.merged is.1.is_merged;
      is_file = is.1.is_file;
      reads_back = is.1.reads_back;
      well = is.1.well;
    },
  )
