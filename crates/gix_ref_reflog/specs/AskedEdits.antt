-- The edits of a prepared transaction, with the leaf of each: the edit at the end of the chain of those that were split from it,
-- each of which comes after the one that it was split from.
use Rattle.std.specs.Prelude.{ℕ, ◌+◌, ◌==◌, List, [], ◌∷◌, Bool, false, Option, Some, None, map, if◌then◌else◌}
use Rattle.gix_ref_hash.specs.declared.hash.ObjectId.{ObjectId}
use Rattle.gix_ref_target.specs.declared.target.Target.{Target}
use Rattle.gix_ref_edits.specs.RefEdits.{expected_of, matched}
use Rattle.gix_ref_edits.specs.declared.transaction.RefEdit.{RefEdit}
use Rattle.gix_ref_files.specs.Tree.{Path}
use Rattle.gix_ref_transaction.specs.declared.edit.PackedObject.{PackedObject}
use Rattle.gix_ref_transaction.specs.declared.edit.Edit.{Edit}
use Rattle.gix_ref_transaction.specs.declared.edit.Effect.{Effect}
use Rattle.gix_ref_transaction.specs.declared.edit.LogEffect.{LogEffect}
use Rattle.gix_ref_transaction.specs.declared.edit.LogEffect.TheVariants.{Keep, Append, Remove}
use Rattle.gix_ref_reflog.specs.DueLines.{AskedEdit, LogOutcome, expected_id}
use Rattle.gix_ref_reflog.specs.DueLines.LogOutcome.{Stays, Gains, Goes}

-- an edit was split from the one at this place of the list
abbrev pub is_child : (place : ℕ) (parent : Option ℕ) → Bool
is_child place None = false
is_child place (Some parent) = parent == place

-- The object that the leaf of the edit at a place expects, where `leaf` is its own so far, and the other edits begin at the place
-- `next`: the child is the new edit, and its children come after it.
abbrev pub leaf_after : (place next : ℕ) (leaf : Option ObjectId) → List Edit → Option ObjectId
leaf_after place next leaf [] = leaf
leaf_after place next leaf (e ∷ rest) =
    if is_child place e.parent then leaf_after next (next + 1) (expected_id e.update.change) rest
    else leaf_after place (next + 1) leaf rest

-- a prepared edit with what its line depends on: it expects what was found for it
abbrev pub asked_edit : Edit → (leaf : Option ObjectId) → AskedEdit
asked_edit e leaf =
    record { update = e.update; found = matched (expected_of e.update.change); leaf = leaf }

-- the edits from this place on; an edit that was not split is its own leaf, and expects nothing of another
abbrev pub asked_from : ℕ → List Edit → List AskedEdit
asked_from place [] = []
asked_from place (e ∷ rest) = asked_edit e (leaf_after place (place + 1) None rest)
    ∷ asked_from (place + 1) rest

abbrev pub asked : List Edit → List AskedEdit
asked edits = asked_from 0 edits

-- what becomes of the logs, as the edits have it
abbrev pub outcome_of : LogEffect → LogOutcome
outcome_of Keep = Stays
outcome_of (Append log line) = Gains log.items line.items
outcome_of (Remove log) = Goes log.items

abbrev pub outcomes_of : List Edit → List LogOutcome
outcomes_of edits = map (λ (e : Edit). outcome_of e.log) edits

-- an edit except for what becomes of its log
abbrev pub ButLog : Type 0
ButLog = RefEdit × Option ℕ × Path × Option ObjectId × Option Target × Effect × Bool
    × Option PackedObject

abbrev pub but_log : Edit → ButLog
but_log e = (e.update, e.parent, e.lock, e.packed, e.found, e.effect, e.has_file, e.put)

abbrev pub all_but_logs : List Edit → List ButLog
all_but_logs edits = map but_log edits
