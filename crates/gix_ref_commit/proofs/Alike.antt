-- Edits that carry what was found of them are planned as they were given, and so are those whose logs are decided.
use Rattle.std.proofs.Common.{Bool, ◌≡◌, ◌<◌, ℕ, suc, List, [], ◌∷◌, Option, Some, None, length, map, refl, sym, ◌∙◌, ap, subst, arith}
use Rattle.std.specs.Prelude.{◌&&◌, ◌||◌, is_some, slice_index_or}
use Rattle.std.specs.List.{list_any}
use Rattle.gix_ref_hash.specs.declared.hash.ObjectId.{ObjectId}
use Rattle.gix_ref_hash.specs.declared.hash.Kind.{Kind}
use Rattle.gix_ref_name.specs.NameGrammar.{IsFullName}
use Rattle.gix_ref_name.specs.Names.{full_bytes}
use Rattle.gix_ref_name.specs.declared.name.FullName.{FullName}
use Rattle.gix_ref_target.specs.PackedRecords.{Record}
use Rattle.gix_ref_target.specs.Targets.{TargetValue}
use Rattle.gix_ref_files.specs.Tree.{Path}
use Rattle.gix_ref_theory.specs.Edits as plan
use Rattle.gix_ref_theory.specs.Edits.{Mode}
use Rattle.gix_ref_theory.specs.Readings.{Store}
use Rattle.gix_ref_edits.specs.RefEdits.{name_of, mode_of, is_of_reference}
use Rattle.gix_ref_edits.specs.declared.transaction.RefEdit.{RefEdit}
use Rattle.gix_ref_edits.specs.declared.transaction.RefLog.{RefLog}
use Rattle.gix_ref_transaction.specs.CarriedEdits.{IsCarried, AreCarried, change_of, edit_of}
use Rattle.gix_ref_transaction.specs.Causes.{deletes_reference, packed_id}
use Rattle.gix_ref_transaction.specs.CommittedEdits.{planned}
use Rattle.gix_ref_transaction.specs.PackedCauses.{ids_among}
use Rattle.gix_ref_transaction.specs.Packing.{HaveTheirPuts, edit_peeled, peeled_in, plan_edits, put_by}
use Rattle.gix_ref_transaction.specs.PrepareSteps.{effect_value, effects_of, ids_in, lock_paths, place_paths, updates}
use Rattle.gix_ref_files.specs.Lock.{lock_of}
use Rattle.gix_ref_transaction.specs.declared.edit.Edit.{Edit}
use Rattle.gix_ref_transaction.specs.CommitRenames.{written_flags}
use Rattle.gix_ref_transaction.specs.Effects.{is_write}
use Rattle.gix_ref_transaction.proofs.EditsApart.{heads}
use Rattle.gix_ref_packed_transaction.specs.Repacks.{AllCanBePut, alters_record}
use Rattle.gix_ref_reflog.specs.AskedEdits.{ButLog, all_but_logs}
use Rattle.gix_ref_commit.specs.LogEffects.{AreLogsOf, Extra, IsLogOf, but_lines, edit_with, extra_in, extras_in, lines_in, with_ends, with_extras}

-- one edit
planned_one : (e f : RefEdit) (found : Option TargetValue) → IsCarried e found f → edit_of f ≡ edit_of e
planned_one e f found is =
    ap (λ (n : FullName). record { name = full_bytes n; change = change_of f.change; and_reference = is_of_reference (mode_of f.change); line = None; peeled = None }) is.name
    ∙ (ap (λ (c : plan.Change). record { name = name_of e; change = c; and_reference = is_of_reference (mode_of f.change); line = None; peeled = None }) is.change
    ∙ ap (λ (m : RefLog). record { name = name_of e; change = change_of e.change; and_reference = is_of_reference m; line = None; peeled = None }) is.mode)

-- by what was found of each, whatever that is
abbrev pub AreSame : List RefEdit → List RefEdit → Type 0
AreSame [] [] = Unit {0}
AreSame [] (f ∷ after) = ⊥
AreSame (e ∷ before) [] = ⊥
AreSame (e ∷ before) (f ∷ after) = ((found : Option TargetValue) × IsCarried e found f) × AreSame before after

same_by : (before after : List RefEdit) (found : ℕ → Option TargetValue) → length after ≡ length before → ((k : ℕ) (d : RefEdit) → k < length before → IsCarried (slice_index_or before k d) (found k) (slice_index_or after k d)) → AreSame before after
same_by [] [] found len each = tt
same_by [] (f ∷ after) found len each = absurd (omega (arith, len))
same_by (e ∷ before) [] found len each = absurd (omega (arith, len))
same_by (e ∷ before) (f ∷ after) found len each = ((found 0, each 0 e (omega arith)), same_by before after (λ k. found (suc k)) (omega (arith, len)) (λ k d lt. each (suc k) d (omega (arith, lt))))

pub are_same : (before : List RefEdit) (found : List (Option TargetValue)) (after : List RefEdit) → AreCarried before found after → AreSame before after
are_same before found after carried = same_by before after (λ k. slice_index_or found k None) carried.len carried.each

pub planned_same : (before after : List RefEdit) → AreSame before after → planned after ≡ planned before
planned_same [] [] same = refl
planned_same [] (f ∷ after) same = absurd same
planned_same (e ∷ before) [] same = absurd same
planned_same (e ∷ before) (f ∷ after) ((found, is), rest) =
    ap (λ (x : plan.Edit). x ∷ planned after) (planned_one e f found is) ∙ ap (λ (l : List plan.Edit). edit_of e ∷ l) (planned_same before after rest)

-- and with the same lines and objects
pub lined_same : (before after : List RefEdit) (lines : List Extra) → AreSame before after → with_extras after lines ≡ with_extras before lines
lined_same [] [] lines same = refl
lined_same [] (f ∷ after) lines same = absurd same
lined_same (e ∷ before) [] lines same = absurd same
lined_same (e ∷ before) (f ∷ after) [] ((found, is), rest) =
    ap (λ (x : plan.Edit). record { name = x.name; change = x.change; and_reference = x.and_reference; line = None; peeled = None } ∷ with_extras after []) (planned_one e f found is)
    ∙ ap (λ (l : List plan.Edit). edit_with e (None, None) ∷ l) (lined_same before after [] rest)
lined_same (e ∷ before) (f ∷ after) (line ∷ lines) ((found, is), rest) =
    ap (λ (x : plan.Edit). record { name = x.name; change = x.change; and_reference = x.and_reference; line = line.0; peeled = line.1 } ∷ with_extras after lines) (planned_one e f found is)
    ∙ ap (λ (l : List plan.Edit). edit_with e line ∷ l) (lined_same before after lines rest)

pub ids_same : (s : Store) (rs : List Record) (before after : List RefEdit) → AreSame before after → ids_among s rs after ≡ ids_among s rs before
ids_same s rs [] [] same = refl
ids_same s rs [] (f ∷ after) same = absurd same
ids_same s rs (e ∷ before) [] same = absurd same
ids_same s rs (e ∷ before) (f ∷ after) ((found, is), rest) =
    ap (λ (n : FullName). packed_id (s.key (full_bytes n)) rs ∷ ids_among s rs after) is.name ∙ ap (λ (l : List (Option ObjectId)). packed_id (s.key (name_of e)) rs ∷ l) (ids_same s rs before after rest)

pub logs_same : (s : Store) (before after : List RefEdit) (ran : List Edit) → AreSame before after → AreLogsOf s after ran → AreLogsOf s before ran
logs_same s [] [] ran same logs = logs
logs_same s [] (f ∷ after) ran same logs = absurd same
logs_same s (e ∷ before) [] ran same logs = absurd same
logs_same s (e ∷ before) (f ∷ after) [] same logs = absurd logs
logs_same s (e ∷ before) (f ∷ after) (p ∷ ran) ((found, is), rest) logs = (
  subst (λ (c : plan.Change). IsLogOf (s.log (name_of e)) c p.log) is.change (subst (λ (n : FullName). IsLogOf (s.log (full_bytes n)) (change_of f.change) p.log) is.name logs.0),
  logs_same s before after ran rest logs.1,
)

-- What repacking has of edits is what they are without their lines.
pub plan_edits_are : (given : List RefEdit) (ran : List Edit) → AreSame given (updates ran) → plan_edits ran ≡ but_lines (with_extras given (extras_in ran))
plan_edits_are [] [] same = refl
plan_edits_are [] (p ∷ ran) same = absurd same
plan_edits_are (e ∷ given) [] same = absurd same
plan_edits_are (e ∷ given) (p ∷ ran) ((found, is), rest) =
    ap (λ (x : plan.Edit). record { name = x.name; change = x.change; and_reference = x.and_reference; line = None; peeled = peeled_in p.put } ∷ plan_edits ran) (planned_one e p.update found is)
    ∙ ap (λ (l : List plan.Edit). edit_peeled e (peeled_in p.put) ∷ l) (plan_edits_are given ran rest)

-- Of edits that are alike except for their logs.
abbrev Rest : Type 0
Rest = ButLog

updates_of : (edits : List Edit) → updates edits ≡ map (λ (r : Rest). r.0) (all_but_logs edits)
updates_of [] = refl
updates_of (e ∷ edits) = ap (λ (l : List RefEdit). e.update ∷ l) (updates_of edits)

places_by : (edits : List Edit) → place_paths edits ≡ map (λ (r : Rest). r.2) (all_but_logs edits)
places_by [] = refl
places_by (e ∷ edits) = ap (λ (l : List Path). e.lock ∷ l) (places_by edits)

locks_by : (edits : List Edit) → lock_paths edits ≡ map (λ (r : Rest). lock_of r.2) (all_but_logs edits)
locks_by [] = refl
locks_by (e ∷ edits) = ap (λ (l : List Path). lock_of e.lock ∷ l) (locks_by edits)

ids_by : (edits : List Edit) → ids_in edits ≡ map (λ (r : Rest). r.3) (all_but_logs edits)
ids_by [] = refl
ids_by (e ∷ edits) = ap (λ (l : List (Option ObjectId)). e.packed ∷ l) (ids_by edits)

effects_by : (edits : List Edit) → effects_of edits ≡ map (λ (r : Rest). effect_value r.0.change r.5) (all_but_logs edits)
effects_by [] = refl
effects_by (e ∷ edits) = ap (λ l. effect_value e.update.change e.effect ∷ l) (effects_by edits)

flags_by : (edits : List Edit) → written_flags edits ≡ map (λ (r : Rest). is_write r.5) (all_but_logs edits)
flags_by [] = refl
flags_by (e ∷ edits) = ap (λ l. is_write e.effect ∷ l) (flags_by edits)

abbrev alters_rest : Rest → Bool
alters_rest r = is_some r.7 || (deletes_reference r.0.change && is_some r.3)

alters_of : (edits : List Edit) → list_any alters_record edits ≡ list_any alters_rest (all_but_logs edits)
alters_of [] = refl
alters_of (e ∷ edits) = ap (λ b. alters_record e || b) (alters_of edits)

module _ (ran held : List Edit) (alike : all_but_logs ran ≡ all_but_logs held) where
  pub alters_alike : list_any alters_record ran ≡ list_any alters_record held
  alters_alike = alters_of ran ∙ (ap (list_any alters_rest) alike ∙ sym (alters_of held))

  pub updates_alike : updates ran ≡ updates held
  updates_alike = updates_of ran ∙ (ap (map (λ (r : Rest). r.0)) alike ∙ sym (updates_of held))

  pub places_alike : place_paths ran ≡ place_paths held
  places_alike = places_by ran ∙ (ap (map (λ (r : Rest). r.2)) alike ∙ sym (places_by held))

  pub locks_alike : lock_paths ran ≡ lock_paths held
  locks_alike = locks_by ran ∙ (ap (map (λ (r : Rest). lock_of r.2)) alike ∙ sym (locks_by held))

  pub ids_alike : ids_in ran ≡ ids_in held
  ids_alike = ids_by ran ∙ (ap (map (λ (r : Rest). r.3)) alike ∙ sym (ids_by held))

  pub effects_alike : effects_of ran ≡ effects_of held
  effects_alike = effects_by ran ∙ (ap (map (λ (r : Rest). effect_value r.0.change r.5)) alike ∙ sym (effects_by held))

-- and what they put, and that it can be read as records
pub puts_alike : (s : Store) (mode : Mode) (ran held : List Edit) → all_but_logs ran ≡ all_but_logs held → HaveTheirPuts s mode held → HaveTheirPuts s mode ran
puts_alike s mode [] [] alike puts = tt
puts_alike s mode [] (f ∷ held) alike puts = absurd (omega (arith, ap length alike))
puts_alike s mode (e ∷ ran) [] alike puts = absurd (omega (arith, ap length alike))
puts_alike s mode (e ∷ ran) (f ∷ held) alike puts = let h = heads alike in (
  ap (λ (r : Rest). r.7) h.0 ∙ (puts.0 ∙ ap (λ (r : Rest). put_by mode (s.key (name_of r.0)) r.0.change (peeled_in r.7)) (sym h.0)),
  puts_alike s mode ran held h.1 puts.1,
)

pub can_alike : (s : Store) (kind : Kind) (ran held : List Edit) → all_but_logs ran ≡ all_but_logs held → AllCanBePut s kind held → AllCanBePut s kind ran
can_alike s kind [] [] alike can = tt
can_alike s kind [] (f ∷ held) alike can = absurd (omega (arith, ap length alike))
can_alike s kind (e ∷ ran) [] alike can = absurd (omega (arith, ap length alike))
can_alike s kind (e ∷ ran) (f ∷ held) alike can = let h = heads alike in (
  λ object put.
      let c = can.0 object (sym (ap (λ (r : Rest). r.7) h.0) ∙ put) in record {
        key = subst (λ (r : Rest). (k : List ℕ) → s.key (name_of r.0) ≡ Some k → IsFullName k) (sym h.0) c.key;
        target = c.target;
        peeled = c.peeled;
      },
  can_alike s kind ran held h.1 can.1,
)

-- and the objects at the end of tags
pub ends_alike : (lines : List (Option (List ℕ))) (ran held : List Edit) → all_but_logs ran ≡ all_but_logs held → with_ends lines ran ≡ with_ends lines held
ends_alike [] ran held alike = refl
ends_alike (line ∷ lines) [] [] alike = refl
ends_alike (line ∷ lines) [] (f ∷ held) alike = absurd (omega (arith, ap length alike))
ends_alike (line ∷ lines) (e ∷ ran) [] alike = absurd (omega (arith, ap length alike))
ends_alike (line ∷ lines) (e ∷ ran) (f ∷ held) alike =
    let h = heads alike in
    ap (λ (r : Rest). (line, peeled_in r.7) ∷ with_ends lines ran) h.0 ∙ ap (λ (l : List Extra). (line, peeled_in f.put) ∷ l) (ends_alike lines ran held h.1)

pub extras_end : (ran : List Edit) → extras_in ran ≡ with_ends (lines_in ran) ran
extras_end [] = refl
extras_end (e ∷ ran) = ap (λ (l : List Extra). extra_in e ∷ l) (extras_end ran)

plans_by : (edits : List Edit) → plan_edits edits ≡ map (λ (r : Rest). edit_peeled r.0 (peeled_in r.7)) (all_but_logs edits)
plans_by [] = refl
plans_by (e ∷ edits) = ap (λ (l : List plan.Edit). edit_peeled e.update (peeled_in e.put) ∷ l) (plans_by edits)

pub plans_alike : (ran held : List Edit) → all_but_logs ran ≡ all_but_logs held → plan_edits ran ≡ plan_edits held
plans_alike ran held alike = plans_by ran ∙ (ap (map (λ (r : Rest). edit_peeled r.0 (peeled_in r.7))) alike ∙ sym (plans_by held))

-- what repacking has of edits is what they ask for, with the objects at the end of tags
pub plan_with : (edits : List Edit) → with_extras (updates edits) (map (λ (e : Edit). (None, peeled_in e.put)) edits) ≡ plan_edits edits
plan_with [] = refl
plan_with (e ∷ edits) = ap (λ (l : List plan.Edit). edit_peeled e.update (peeled_in e.put) ∷ l) (plan_with edits)
