-- What becomes of the logs of edits.
use Rattle.std.specs.Prelude.{◌≡◌, ℕ, List, [], ◌∷◌, Option, Some, None, map}
use Rattle.gix_ref_hash.specs.declared.hash.ObjectId.{ObjectId}
use Rattle.gix_ref_files.specs.Tree.{Path}
use Rattle.gix_ref_theory.specs.Edits as plan
use Rattle.gix_ref_theory.specs.Readings.{Store}
use Rattle.gix_ref_edits.specs.RefEdits.{name_of}
use Rattle.gix_ref_edits.specs.declared.transaction.RefEdit.{RefEdit}
use Rattle.gix_ref_transaction.specs.CarriedEdits.{change_of, edit_of}
use Rattle.gix_ref_transaction.specs.Packing.{peeled_in}
use Rattle.gix_ref_transaction.specs.declared.edit.Edit.{Edit}
use Rattle.gix_ref_transaction.specs.declared.edit.LogEffect.{LogEffect}
use Rattle.gix_ref_transaction.specs.declared.edit.LogEffect.TheVariants.{Keep, Append, Remove}

-- The log of a deletion is removed, whether that is of the reference or of its log alone; that of an update stays, or gains a line.
abbrev pub IsLogOf : Path → plan.Change → LogEffect → Type 0
IsLogOf path plan.Change.Delete (Remove log) = log.items ≡ path
IsLogOf path plan.Change.Delete Keep = ⊥
IsLogOf path plan.Change.Delete (Append log line) = ⊥
IsLogOf path (plan.Change.Update target) Keep = Unit {0}
IsLogOf path (plan.Change.Update target) (Remove log) = ⊥
IsLogOf path (plan.Change.Update target) (Append log line) = log.items ≡ path

-- and so for each of these edits
abbrev pub AreLogsOf : Store → List RefEdit → List Edit → Type 0
AreLogsOf s [] [] = Unit {0}
AreLogsOf s [] (p ∷ ran) = ⊥
AreLogsOf s (e ∷ edits) [] = ⊥
AreLogsOf s (e ∷ edits) (p ∷ ran) = IsLogOf (s.log (name_of e)) (change_of e.change) p.log
    × AreLogsOf s edits ran

-- the line that a log gains
abbrev pub line_in : LogEffect → Option (List ℕ)
line_in (Append log line) = Some line.items
line_in Keep = None
line_in (Remove log) = None

abbrev pub lines_in : List Edit → List (Option (List ℕ))
lines_in edits = map (λ (e : Edit). line_in e.log) edits

-- What a commit adds to an edit that was given: the line that its log gains, and the object at the end of the tags of what is put
-- into `packed-refs`.
abbrev pub Extra : Type 0
Extra = Option (List ℕ) × Option ObjectId

abbrev pub extra_in : Edit → Extra
extra_in e = (line_in e.log, peeled_in e.put)

abbrev pub extras_in : List Edit → List Extra
extras_in edits = map extra_in edits

-- these lines, each with the object at the end of the tags of what its edit puts
abbrev pub with_ends : List (Option (List ℕ)) → List Edit → List Extra
with_ends [] edits = []
with_ends (line ∷ lines) [] = []
with_ends (line ∷ lines) (e ∷ edits) = (line, peeled_in e.put) ∷ with_ends lines edits

-- an edit as the plan of a commit has it, with these
abbrev pub edit_with : RefEdit → Extra → plan.Edit
edit_with edit extra = record {
  name = (edit_of edit).name;
  change = (edit_of edit).change;
  and_reference = (edit_of edit).and_reference;
  line = extra.0;
  peeled = extra.1;
}

-- and so each of these edits
abbrev pub with_extras : List RefEdit → List Extra → List plan.Edit
with_extras [] extras = []
with_extras (e ∷ edits) [] = edit_with e (None, None) ∷ with_extras edits []
with_extras (e ∷ edits) (extra ∷ extras) = edit_with e extra ∷ with_extras edits extras

-- an edit without its line, and so each of these
abbrev pub but_line : plan.Edit → plan.Edit
but_line x = record {
  name = x.name;
  change = x.change;
  and_reference = x.and_reference;
  line = None;
  peeled = x.peeled;
}

abbrev pub but_lines : List plan.Edit → List plan.Edit
but_lines edits = map but_line edits
