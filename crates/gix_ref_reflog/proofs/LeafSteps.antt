-- One pass from the last edit to the first finds the leaf of each.
use Rattle.std.proofs.Common.{◌≡◌, ◌≢◌, ◌<◌, ◌≤◌, ⊎_elim, ℕ, ◌+◌, suc, List, [], ◌∷◌, Bool, true, false, Option, Some, length, drop, get_or, refl, sym, subst, ap, ◌∙◌, arith, eq-eqb}
use Rattle.std.specs.Prelude.{if◌then◌else◌, ◌==◌}
use Rattle.std.proofs.Math.ListN.{set}
use Rattle.std.proofs.Math.Nat.{eq-or-lt_of_le}
use Rattle.std.proofs.Math.Seq.{drop-cons}
use Rattle.std.proofs.lemmas.Bool.Decides.{eqb_tells}
use Rattle.std.proofs.lemmas.List.{get_or-set_same, get_or-set_other, length-set}
use Rattle.gix_ref_hash.specs.declared.hash.ObjectId.{ObjectId}
use Rattle.gix_ref_transaction.specs.declared.edit.Edit.{Edit}
use Rattle.gix_ref_reflog.specs.AskedEdits.{is_child, leaf_after}
use Rattle.gix_ref_reflog.specs.DueLines.{expected_id}
use Rattle.gix_ref_reflog.specs.internal.Leaves.{leaf_id, handed, leaf_from, AreLeaves}
use Rattle.gix_ref_reflog.specs.declared.leaves.Leaf.{Leaf}
use Rattle.gix_ref_reflog.specs.declared.leaves.Leaf.TheVariants.{Itself, Below}

-- a leaf that is another edit is handed on as it is
stays : (e : Edit) (at next : ℕ) (id : Option ObjectId) (rest : List Edit) → handed e (leaf_from at next (Below id) rest) ≡ leaf_from at next (Below id) rest
stays e at next id [] = refl
stays e at next id (d ∷ rest) = by (is_child at d.parent) (stays e next (next + 1) (expected_id d.update.change) rest) (stays e at (next + 1) id rest)
  where
    by : (b : Bool) → handed e (leaf_from next (next + 1) (Below (expected_id d.update.change)) rest) ≡ leaf_from next (next + 1) (Below (expected_id d.update.change)) rest
        → handed e (leaf_from at (next + 1) (Below id) rest) ≡ leaf_from at (next + 1) (Below id) rest
        → handed e (if b then leaf_from next (next + 1) (Below (expected_id d.update.change)) rest else leaf_from at (next + 1) (Below id) rest) ≡ (if b then leaf_from next (next + 1) (Below (expected_id d.update.change)) rest else leaf_from at (next + 1) (Below id) rest)
    by true child other = child
    by false child other = other

-- what an edit hands to its parent is the parent's leaf
pub hands : (e : Edit) (at next : ℕ) (rest : List Edit) → handed e (leaf_from at next Itself rest) ≡ leaf_from at next (Below (expected_id e.update.change)) rest
hands e at next [] = refl
hands e at next (d ∷ rest) = by (is_child at d.parent) (stays e next (next + 1) (expected_id d.update.change) rest) (hands e at (next + 1) rest)
  where
    by : (b : Bool) → handed e (leaf_from next (next + 1) (Below (expected_id d.update.change)) rest) ≡ leaf_from next (next + 1) (Below (expected_id d.update.change)) rest
        → handed e (leaf_from at (next + 1) Itself rest) ≡ leaf_from at (next + 1) (Below (expected_id e.update.change)) rest
        → handed e (if b then leaf_from next (next + 1) (Below (expected_id d.update.change)) rest else leaf_from at (next + 1) Itself rest) ≡ (if b then leaf_from next (next + 1) (Below (expected_id d.update.change)) rest else leaf_from at (next + 1) (Below (expected_id e.update.change)) rest)
    by true child other = child
    by false child other = other

-- the object that it expects
pub id_of_leaf : (at next : ℕ) (leaf : Leaf) (rest : List Edit) → leaf_id (leaf_from at next leaf rest) ≡ leaf_after at next (leaf_id leaf) rest
id_of_leaf at next leaf [] = refl
id_of_leaf at next leaf (d ∷ rest) = by (is_child at d.parent) (id_of_leaf next (next + 1) (Below (expected_id d.update.change)) rest) (id_of_leaf at (next + 1) leaf rest)
  where
    by : (b : Bool) → leaf_id (leaf_from next (next + 1) (Below (expected_id d.update.change)) rest) ≡ leaf_after next (next + 1) (expected_id d.update.change) rest
        → leaf_id (leaf_from at (next + 1) leaf rest) ≡ leaf_after at (next + 1) (leaf_id leaf) rest
        → leaf_id (if b then leaf_from next (next + 1) (Below (expected_id d.update.change)) rest else leaf_from at (next + 1) leaf rest) ≡ (if b then leaf_after next (next + 1) (expected_id d.update.change) rest else leaf_after at (next + 1) (leaf_id leaf) rest)
    by true child other = child
    by false child other = other

-- the edits from a place on
pub from_place : (edits : List Edit) (j : ℕ) (e : Edit) → j < length edits → e ≡ get_or edits j e → drop j edits ≡ e ∷ drop (j + 1) edits
from_place edits j e lt is =
    drop-cons edits j e lt
    ∙ (ap (λ (x : Edit). x ∷ drop (suc j) edits) (sym is)
    ∙ ap (λ (n : ℕ). e ∷ drop n edits) (let same : suc j ≡ j + 1 = omega arith in same))

module _ (edits : List Edit) (leaves : List Leaf) (i j : ℕ) (e : Edit) (one : i ≡ j + 1) (is : e ≡ get_or edits j e) (known : AreLeaves edits i leaves) where
  lt : j < length edits
  lt = omega (arith, one, known.within)

  rest : List Edit
  rest = drop (j + 1) edits

  before : (q : ℕ) → q < j + 1 → get_or leaves q Itself ≡ leaf_from q (j + 1) Itself (drop (j + 1) edits)
  before q less = subst (λ (n : ℕ). get_or leaves q Itself ≡ leaf_from q n Itself (drop n edits)) one (known.before q (omega (arith, less, one)))

  done : (q : ℕ) → j ≤ q → q < length edits → get_or leaves q Itself ≡ leaf_from q (q + 1) Itself (drop (q + 1) edits)
  done q le less = ⊎_elim
      (λ (same : j ≡ q). subst (λ (n : ℕ). get_or leaves n Itself ≡ leaf_from n (n + 1) Itself (drop (n + 1) edits)) same (before j (omega arith)))
      (λ (more : j < q). known.done q (omega (arith, more, one)) less)
      (eq-or-lt_of_le le)

  -- the leaf of an earlier edit, one edit sooner
  sooner : (q : ℕ) (b : Bool) → is_child q e.parent ≡ b → (if b then leaf_from j (j + 1) (Below (expected_id e.update.change)) (drop (j + 1) edits) else leaf_from q (j + 1) Itself (drop (j + 1) edits)) ≡ leaf_from q j Itself (drop j edits)
  sooner q b child =
      ap (λ (b : Bool). if b then leaf_from j (j + 1) (Below (expected_id e.update.change)) (drop (j + 1) edits) else leaf_from q (j + 1) Itself (drop (j + 1) edits)) (sym child)
      ∙ ap (leaf_from q j Itself) (sym (from_place edits j e lt is))

  -- an earlier edit is
  pub leaves_handed : (parent : ℕ) → parent < j → e.parent ≡ Some parent → AreLeaves edits j (set leaves parent (handed e (get_or leaves j Itself)))
  leaves_handed parent less child = record {
    len = length-set leaves parent _ ∙ known.len;
    within = omega (arith, lt);
    before = λ q earlier. ⊎_elim
        (λ (is_it : ((parent == q) ≡ true) × (parent ≡ q)).
        subst (λ (n : ℕ). get_or (set leaves parent (handed e (get_or leaves j Itself))) n Itself ≡ leaf_from n j Itself (drop j edits)) is_it.1
        (get_or-set_same leaves parent _ Itself (omega (arith, less, lt, known.len))
        ∙ (ap (handed e) (before j (omega arith))
        ∙ (hands e j (j + 1) (drop (j + 1) edits)
        ∙ sooner parent true (ap (is_child parent) child ∙ eq-eqb parent parent refl)))))
        (λ (other : ((parent == q) ≡ false) × (parent ≢ q)).
        get_or-set_other leaves parent q _ Itself (λ same. other.1 (sym same))
        ∙ (before q (omega (arith, earlier)) ∙ sooner q false (ap (is_child q) child ∙ other.0)))
        (eqb_tells parent q);
    done = λ q le within. get_or-set_other leaves parent q _ Itself (λ same. absurd (omega (arith, less, le, same))) ∙ done q le within;
  }
