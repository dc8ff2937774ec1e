-- Leaves as one pass from the last edit to the first finds them.
use Rattle.std.specs.Prelude.{◌≡◌, ◌<◌, ◌≤◌, ℕ, ◌+◌, List, [], ◌∷◌, Option, None, length, drop, slice_index_or, if◌then◌else◌}
use Rattle.gix_ref_hash.specs.declared.hash.ObjectId.{ObjectId}
use Rattle.gix_ref_transaction.specs.declared.edit.Edit.{Edit}
use Rattle.gix_ref_reflog.specs.AskedEdits.{is_child}
use Rattle.gix_ref_reflog.specs.DueLines.{expected_id}
use Rattle.gix_ref_reflog.specs.declared.leaves.Leaf.{Leaf}
use Rattle.gix_ref_reflog.specs.declared.leaves.Leaf.TheVariants.{Itself, Below}

-- the object that the leaf expects, if it is another edit
abbrev pub leaf_id : Leaf → Option ObjectId
leaf_id Itself = None
leaf_id (Below id) = id

-- the leaf of an edit, as its parent has it
abbrev pub handed : Edit → Leaf → Leaf
handed e Itself = Below (expected_id e.update.change)
handed e (Below id) = Below id

-- the leaf of the edit at a place, where `leaf` is its own so far, and the other edits begin at the place `next`
abbrev pub leaf_from : (place next : ℕ) → Leaf → List Edit → Leaf
leaf_from place next leaf [] = leaf
leaf_from place next leaf (e ∷ rest) =
    if is_child place e.parent then leaf_from next (next + 1)
    (Below (expected_id e.update.change)) rest
    else leaf_from place (next + 1) leaf rest

-- the leaves of the edits up to the place `next`, where the edits from there on are known, and of those
pub record AreLeaves (edits : List Edit) (next : ℕ) (leaves : List Leaf) : Type 0 where
  pub len : length leaves ≡ length edits
  pub within : next ≤ length edits
  pub before : (q : ℕ) → q < next → slice_index_or leaves q Itself ≡ leaf_from q next Itself
      (drop next edits)
  pub done : (q : ℕ) → next ≤ q → q < length edits →
      slice_index_or leaves q Itself ≡ leaf_from q (q + 1) Itself (drop (q + 1) edits)
