-- The writes of a commit as its edits have them, and that these are the plan of the theory.
use Rattle.std.proofs.Common.{◌≡◌, List, [], ◌∷◌, ◌++◌, Option, Some, None, refl, ap, ◌∙◌}
use Rattle.std.specs.List.{flat_map}
use Rattle.gix_ref_target.specs.PackedRecords.{Record}
use Rattle.gix_ref_files.specs.Tree.{Path}
use Rattle.gix_ref_files.specs.Lock.{lock_of}
use Rattle.gix_ref_theory.specs.Edits.{Mode, effect}
use Rattle.gix_ref_theory.specs.Edits as plan
use Rattle.gix_ref_theory.specs.Plan.{plan as planned, line_writes, place_writes, writes_of_updates, log_removal, log_removals, place_removal, loose_removals, packed_writes}
use Rattle.gix_ref_theory.specs.Readings.{Store}
use Rattle.gix_ref_theory.specs.Views.{View, Write, Write as writes, file_bytes}
use Rattle.gix_ref_packed_text.specs.declared.outcome.Rewrite.{Rewrite}
use Rattle.gix_ref_packed_text.specs.declared.outcome.Rewrite.TheVariants.{Unchanged, Removed, Text}
use Rattle.gix_ref_transaction.specs.declared.edit.Edit.{Edit}
use Rattle.gix_ref_transaction.specs.declared.edit.Effect.{Effect}
use Rattle.gix_ref_transaction.specs.declared.edit.Effect.TheVariants as effects
use Rattle.gix_ref_transaction.specs.declared.edit.LogEffect.{LogEffect}
use Rattle.gix_ref_transaction.specs.declared.edit.LogEffect.TheVariants as logs

-- the line that is added to a log
abbrev pub line_written : LogEffect → List Write
line_written (logs.Append log line) = writes.Append log.items line.items ∷ []
line_written logs.Keep = []
line_written (logs.Remove log) = []

-- the removal of a log
abbrev pub log_removed : LogEffect → List Write
log_removed (logs.Remove log) = writes.Remove log.items ∷ []
log_removed logs.Keep = []
log_removed (logs.Append log line) = []

-- a loose file that is removed
abbrev pub file_removed : Path → Effect → List Write
file_removed place effects.Remove = writes.Remove place ∷ []
file_removed place effects.Write = []
file_removed place effects.Keep = []

abbrev pub files_removed : List Edit → List Write
files_removed edits = flat_map (λ (e : Edit). file_removed e.lock e.effect) edits

abbrev pub logs_removed : List Edit → List Write
logs_removed edits = flat_map (λ (e : Edit). log_removed e.log) edits

-- The locks hold these texts.
module _ (texts : View) where
  -- a loose file that is written: the text of its lock
  abbrev pub file_put : Path → Effect → List Write
  file_put place effects.Write = writes.Put place (file_bytes (texts (lock_of place))) ∷ []
  file_put place effects.Remove = []
  file_put place effects.Keep = []

  -- what becomes of `packed-refs`, whose lock is held or not
  abbrev pub packed_written : Option Path → Rewrite → List Write
  packed_written None rewrite = []
  packed_written (Some path) Unchanged = []
  packed_written (Some path) Removed = writes.Remove path ∷ []
  packed_written (Some path) (Text text) = writes.Put path (file_bytes (texts (lock_of path))) ∷ []

  -- for each edit its line, and then its file
  abbrev pub own_updates : List Edit → List Write
  own_updates [] = []
  own_updates (e ∷ edits) = line_written e.log ++ (file_put e.lock e.effect ++ own_updates edits)

  -- all of them
  abbrev pub own_plan : List Edit → Option Path → Rewrite → List Write
  own_plan edits packed rewrite = own_updates edits ++ (logs_removed edits ++ (packed_written packed rewrite ++ files_removed edits))

module _ (s : Store) (mode : Mode) (view texts : View) where
  -- the writes of an edit are those that the theory has of it
  pub record IsAsPlanned (x : plan.Edit) (e : Edit) : Type 0 where
    pub line : line_writes (s.log x.name) x.change x.line ≡ line_written e.log
    pub put : place_writes (s.place x.name) (effect s mode view x) ≡ file_put texts e.lock e.effect
    pub log : log_removal (s.log x.name) x.change ≡ log_removed e.log
    pub removal : place_removal (s.place x.name) (effect s mode view x) ≡ file_removed e.lock e.effect

  abbrev pub AreAsPlanned : List plan.Edit → List Edit → Type 0
  AreAsPlanned [] [] = Unit {0}
  AreAsPlanned [] (e ∷ edits) = ⊥
  AreAsPlanned (x ∷ xs) [] = ⊥
  AreAsPlanned (x ∷ xs) (e ∷ edits) = IsAsPlanned x e × AreAsPlanned xs edits

  updates_are : (xs : List plan.Edit) (edits : List Edit) → AreAsPlanned xs edits → writes_of_updates s mode view xs ≡ own_updates texts edits
  updates_are [] [] are = refl
  updates_are [] (e ∷ edits) are = absurd are
  updates_are (x ∷ xs) [] are = absurd are
  updates_are (x ∷ xs) (e ∷ edits) (one, rest) =
      ap (λ ws. ws ++ (place_writes (s.place x.name) (effect s mode view x) ++ writes_of_updates s mode view xs)) one.line
      ∙ (ap (λ ws. line_written e.log ++ (ws ++ writes_of_updates s mode view xs)) one.put
      ∙ ap (λ ws. line_written e.log ++ (file_put texts e.lock e.effect ++ ws)) (updates_are xs edits rest))

  log_removals_are : (xs : List plan.Edit) (edits : List Edit) → AreAsPlanned xs edits → log_removals s xs ≡ logs_removed edits
  log_removals_are [] [] are = refl
  log_removals_are [] (e ∷ edits) are = absurd are
  log_removals_are (x ∷ xs) [] are = absurd are
  log_removals_are (x ∷ xs) (e ∷ edits) (one, rest) =
      ap (λ ws. ws ++ log_removals s xs) one.log ∙ ap (λ ws. log_removed e.log ++ ws) (log_removals_are xs edits rest)

  removals_are : (xs : List plan.Edit) (edits : List Edit) → AreAsPlanned xs edits → loose_removals s mode view xs ≡ files_removed edits
  removals_are [] [] are = refl
  removals_are [] (e ∷ edits) are = absurd are
  removals_are (x ∷ xs) [] are = absurd are
  removals_are (x ∷ xs) (e ∷ edits) (one, rest) =
      ap (λ ws. ws ++ loose_removals s mode view xs) one.removal ∙ ap (λ ws. file_removed e.lock e.effect ++ ws) (removals_are xs edits rest)

  pub plan_is : (xs : List plan.Edit) (merged : List Record) (edits : List Edit) (packed : Option Path) (rewrite : Rewrite) → AreAsPlanned xs edits →
      packed_writes s mode view xs merged ≡ packed_written texts packed rewrite → planned s mode view xs merged ≡ own_plan texts edits packed rewrite
  plan_is xs merged edits packed rewrite are same =
      ap (λ ws. ws ++ (log_removals s xs ++ (packed_writes s mode view xs merged ++ loose_removals s mode view xs))) (updates_are xs edits are)
      ∙ (ap (λ ws. own_updates texts edits ++ (ws ++ (packed_writes s mode view xs merged ++ loose_removals s mode view xs))) (log_removals_are xs edits are)
      ∙ (ap (λ ws. own_updates texts edits ++ (logs_removed edits ++ (ws ++ loose_removals s mode view xs))) same
      ∙ ap (λ ws. own_updates texts edits ++ (logs_removed edits ++ (packed_written texts packed rewrite ++ ws))) (removals_are xs edits are)))
