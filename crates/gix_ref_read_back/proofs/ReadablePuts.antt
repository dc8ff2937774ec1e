-- What prepared edits put into `packed-refs` can be read again.
use Rattle.std.proofs.Common.{◌≡◌, ◌⊎◌, ◌&&◌, inl, inr, ℕ, Bool, true, false, List, [], ◌∷◌, refl, sym, ◌∙◌, ap, subst, Option, Some, None, if◌then◌else◌}
use Rattle.std.specs.Prelude.{is_some}
use Rattle.std.proofs.lemmas.Bool.{true≢false}
use Rattle.std.specs.Option.{option_map}
use Rattle.gix_ref_hash.specs.declared.hash.Kind.{Kind}
use Rattle.gix_ref_hash.specs.declared.hash.ObjectId.{ObjectId}
use Rattle.gix_ref_name.specs.Names.{full_bytes}
use Rattle.gix_ref_name.specs.declared.name.FullName.{FullName}
use Rattle.gix_ref_target.specs.PackedRecords.{Record, written_id}
use Rattle.gix_ref_target.specs.Targets.{TargetValue, target_value}
use Rattle.gix_ref_target.specs.Targets.TargetValue.{object_id, symbolic_name}
use Rattle.gix_ref_packed_text.specs.Positions.{IsReadable}
use Rattle.gix_ref_packed_text.specs.Laws.{IsIdIfAny}
use Rattle.gix_ref_packed_text.proofs.OutcomeLemmas.{new_readable}
use Rattle.gix_ref_theory.specs.Edits as plan
use Rattle.gix_ref_theory.specs.Edits.{Mode, edited_record, is_object, packs_updates}
use Rattle.gix_ref_theory.specs.Readings.{Store}
use Rattle.gix_ref_edits.specs.RefEdits.{name_of, mode_of, is_of_reference}
use Rattle.gix_ref_edits.specs.declared.transaction.Change.{Change}
use Rattle.gix_ref_edits.specs.declared.transaction.Change.TheVariants.{Update, Delete}
use Rattle.gix_ref_edits.specs.declared.transaction.RefEdit.{RefEdit}
use Rattle.gix_ref_transaction.specs.CarriedEdits.{IsCarried, change_of}
use Rattle.gix_ref_transaction.specs.Packing.{HasItsPut, HaveTheirPuts, packed_object, peeled_in, put_by}
use Rattle.gix_ref_transaction.specs.PrepareSteps.{updates}
use Rattle.gix_ref_transaction.specs.declared.edit.Edit.{Edit}
use Rattle.gix_ref_transaction.specs.declared.edit.PackedObject.{PackedObject}
use Rattle.gix_ref_packed_transaction.specs.Repacks.{AllCanBePut, CanBePut}
use Rattle.gix_ref_commit.specs.LogEffects.{Extra, edit_with, with_ends, with_extras}
use Rattle.gix_ref_commit.proofs.Alike.{AreSame}
use Rattle.gix_ref_read_back.specs.Outside.{AllPutReadable, DeletionsPutNothing, PutsReadable}

no_record : (r : Record) → None ≡ Some r → ⊥
no_record r is = cc

one_record : (x r : Record) → Some x ≡ Some r → x ≡ r
one_record x r is = cc

-- where a mode puts no objects, edits put nothing
pub nothing_put : DeletionsPutNothing
nothing_put s kind edits e within key r refers keyed is = by e.change is
  where
    by : (change : plan.Change) → edited_record plan.Mode.DeletionsOnly key e change None ≡ Some r → IsReadable kind r
    by plan.Change.Delete is = absurd (no_record r is)
    by (plan.Change.Update (symbolic_name name)) is = absurd (no_record r is)
    by (plan.Change.Update (object_id id)) is = absurd (no_record r is)

module _ (s : Store) (mode : Mode) (kind : Kind) where
  -- one edit that carries what was found of it, with no object at the end of tags or with the one that is put
  module _ (e : RefEdit) (p : Edit) (extra : Extra) (ends : (extra.1 ≡ None) ⊎ (extra.1 ≡ peeled_in p.put)) (can : (object : PackedObject) → p.put ≡ Some object → CanBePut s kind p object)
      (key : List ℕ) (keyed : s.key (name_of p.update) ≡ Some key) (r : Record) where
    end_of : (peeled : Option ObjectId) → peeled_in p.put ≡ peeled → IsIdIfAny kind peeled → (extra.1 ≡ None) ⊎ (extra.1 ≡ peeled_in p.put) → IsIdIfAny kind extra.1
    end_of peeled is of (inl none) = subst (IsIdIfAny kind) (sym none) tt
    end_of peeled is of (inr same) = subst (IsIdIfAny kind) (sym (same ∙ is)) of

    object_put : (id : ObjectId) (refers packing : Bool) → refers ≡ true →
        p.put ≡ (if refers && (packing && is_some (Some key) && is_object (object_id id)) then packed_object (object_id id) (peeled_in p.put) else None) →
        (if packing then Some (record { name = key; target = written_id id; object = option_map written_id extra.1 }) else None) ≡ Some r → IsReadable kind r
    object_put id refers false of put is = absurd (no_record r is)
    object_put id false true of put is = absurd (true≢false (sym of))
    object_put id true true of put is =
        let one = can (record { target = id; peeled = peeled_in p.put }) put in
        subst (IsReadable kind) (one_record (record { name = key; target = written_id id; object = option_map written_id extra.1 }) r is)
        (new_readable kind key (record { target = id; peeled = extra.1 }) (one.key key keyed) one.target (end_of (peeled_in p.put) refl one.peeled ends))

    by_change : (change : Change) → is_of_reference (mode_of change) ≡ true → p.put ≡ put_by mode (Some key) change (peeled_in p.put) → edited_record mode key (edit_with e extra) (change_of change) None ≡ Some r → IsReadable kind r
    by_change (Delete expected log) refers put is = absurd (no_record r is)
    by_change (Update log expected new) refers put is = by (target_value new) put is
      where
        by : (t : TargetValue) → p.put ≡ (if is_of_reference log.mode && plan.packs mode (Some key) t then packed_object t (peeled_in p.put) else None) →
            edited_record mode key (edit_with e extra) (plan.Change.Update t) None ≡ Some r → IsReadable kind r
        by (symbolic_name name) put is = absurd (no_record r is)
        by (object_id id) put is = object_put id (is_of_reference log.mode) (packs_updates mode) refers put is

  one_readable : (e : RefEdit) (found : Option TargetValue) (p : Edit) → IsCarried e found p.update → HasItsPut s mode p → ((object : PackedObject) → p.put ≡ Some object → CanBePut s kind p object) → (extra : Extra) →
      (extra.1 ≡ None) ⊎ (extra.1 ≡ peeled_in p.put) → PutsReadable s mode kind (edit_with e extra)
  one_readable e found p is put can extra ends key r refers keyed record_is =
      let own : s.key (name_of p.update) ≡ Some key = ap (λ (n : FullName). s.key (full_bytes n)) is.name ∙ keyed in
      by_change e p extra ends can key own r p.update.change
      (ap is_of_reference is.mode ∙ refers)
      (put ∙ ap (λ (k : Option (List ℕ)). put_by mode k p.update.change (peeled_in p.put)) own)
      (ap (λ (c : plan.Change). edited_record mode key (edit_with e extra) c None) is.change ∙ record_is)

  -- each of the edits, with the lines that are due
  pub all_readable : (given : List RefEdit) (held : List Edit) → AreSame given (updates held) → HaveTheirPuts s mode held → AllCanBePut s kind held → (lines : List (Option (List ℕ))) →
      AllPutReadable s mode kind (with_extras given (with_ends lines held))
  all_readable [] held same puts can lines e within = absurd within
  all_readable (g ∷ given) [] same puts can lines e within = absurd same
  all_readable (g ∷ given) (p ∷ held) ((found, is), rest) puts can [] e (inl here) = subst (PutsReadable s mode kind) here (one_readable g found p is puts.0 can.0 (None, None) (inl refl))
  all_readable (g ∷ given) (p ∷ held) ((found, is), rest) puts can [] e (inr later) = all_readable given held rest puts.1 can.1 [] e later
  all_readable (g ∷ given) (p ∷ held) ((found, is), rest) puts can (line ∷ lines) e (inl here) =
      subst (PutsReadable s mode kind) here (one_readable g found p is puts.0 can.0 (line, peeled_in p.put) (inr refl))
  all_readable (g ∷ given) (p ∷ held) ((found, is), rest) puts can (line ∷ lines) e (inr later) = all_readable given held rest puts.1 can.1 lines e later
