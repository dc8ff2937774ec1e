-- A transaction whose commit begins to write, edit by edit: what becomes of its logs and of `packed-refs` is decided.
use Rattle.std.proofs.Common.{◌≡◌, inl, inr, List, [], ◌∷◌, ◌++◌, Some, None, ap, length, arith}
use Rattle.gix_ref_hash.specs.declared.hash.Kind.{Kind}
use Rattle.gix_ref_files.specs.Tree.{Tree}
use Rattle.gix_ref_files.specs.Tree.Content.{File}
use Rattle.gix_ref_files.specs.Lock.{lock_of}
use Rattle.gix_ref_theory.specs.Between.{IsEdit}
use Rattle.gix_ref_theory.specs.Edits.{Edit, Mode}
use Rattle.gix_ref_theory.specs.OnRealTrees.{view_of}
use Rattle.gix_ref_theory.specs.Readings.{Store}
use Rattle.gix_ref_transaction.specs.OwnLocks.{AddsLocks}
use Rattle.gix_ref_transaction.specs.Causes.{AllValid, IsAccepted, IsValidEdit, NoCause}
use Rattle.gix_ref_transaction.specs.CarriedEdits.{change_of}
use Rattle.gix_ref_transaction.specs.PrepareSteps.{HoldTexts, effect_on, effect_value, effects_of, effects_on, lock_text, own_locks, place_paths, places_of}
use Rattle.gix_ref_edits.specs.RefEdits.{name_of}
use Rattle.gix_ref_edits.specs.declared.transaction.RefEdit.{RefEdit}
use Rattle.gix_ref_transaction.specs.declared.edit.Edit.{Edit as Own}
use Rattle.gix_ref_transaction.proofs.EditsApart.{heads}
use Rattle.gix_ref_commit.specs.LogEffects.{IsLogOf, AreLogsOf, edit_with, extra_in, extras_in, with_extras}

-- A transaction as `prepare` gives it, from the tree `before` it to the tree T, and its logs.
pub record IsReady (s : Store) (mode : Mode) (kind : Kind) (before T : Tree) (given : List RefEdit) (ran : List Own) : Type 0 where
  pub accepted : IsAccepted s mode kind before given
  pub texts : HoldTexts s mode before T given
  pub adds : AddsLocks (own_locks s mode before given) (own_locks s mode before given) before T
  pub effects : effects_of ran ≡ effects_on s mode (view_of before) given
  pub places : place_paths ran ≡ places_of s given
  pub logs : AreLogsOf s given ran

module _ (s : Store) (mode : Mode) (kind : Kind) (before T : Tree) where
  -- One of its edits, and what is done of it.
  pub record IsHeld (e : RefEdit) (p : Own) : Type 0 where
    pub valid : IsValidEdit s kind e
    pub free : before (lock_of (s.place (name_of e))) ≡ None
    pub text : T (lock_of (s.place (name_of e))) ≡ Some (File (lock_text (effect_on s mode (view_of before) e)))
    pub effect : effect_value p.update.change p.effect ≡ effect_on s mode (view_of before) e
    pub place : p.lock ≡ s.place (name_of e)
    pub log : IsLogOf (s.log (name_of e)) (change_of e.change) p.log

  abbrev pub AreHeld : List RefEdit → List Own → Type 0
  AreHeld [] [] = Unit {0}
  AreHeld [] (p ∷ ran) = ⊥
  AreHeld (e ∷ given) [] = ⊥
  AreHeld (e ∷ given) (p ∷ ran) = IsHeld e p × AreHeld given ran

  held_by : (seen sound given : List RefEdit) (ran : List Own) → AllValid s kind sound given → NoCause s kind before seen given → HoldTexts s mode before T given →
      effects_of ran ≡ effects_on s mode (view_of before) given → place_paths ran ≡ places_of s given → AreLogsOf s given ran → AreHeld given ran
  held_by seen sound [] [] valid causes texts effects places logs = tt
  held_by seen sound [] (p ∷ ran) valid causes texts effects places logs = absurd (omega (arith, ap length places))
  held_by seen sound (e ∷ given) [] valid causes texts effects places logs = absurd (omega (arith, ap length places))
  held_by seen sound (e ∷ given) (p ∷ ran) valid causes texts effects places logs = (
    record {
      valid = valid.0;
      free = causes.0.0.free;
      text = texts.0;
      effect = (heads effects).0;
      place = (heads places).0;
      log = logs.0;
    },
    held_by (seen ++ e ∷ []) (sound ++ e ∷ []) given ran valid.1 causes.1 texts.1 (heads effects).1 (heads places).1 logs.1,
  )

  pub held : (given : List RefEdit) (ran : List Own) → IsReady s mode kind before T given ran → AreHeld given ran
  held given ran ready = held_by [] [] given ran ready.accepted.sound ready.accepted.no_cause ready.texts ready.effects ready.places ready.logs

  -- each edit of its plan is one of these
  pub held_at : (given : List RefEdit) (ran : List Own) → AreHeld given ran → (x : Edit) → IsEdit x (with_extras given (extras_in ran)) →
      (e : RefEdit) × (p : Own) × IsHeld e p × (edit_with e (extra_in p) ≡ x)
  held_at [] ran hold x within = absurd within
  held_at (e ∷ given) [] hold x within = absurd hold
  held_at (e ∷ given) (p ∷ ran) hold x (inl here) = (e, p, hold.0, here)
  held_at (e ∷ given) (p ∷ ran) hold x (inr later) = held_at given ran hold.1 x later
