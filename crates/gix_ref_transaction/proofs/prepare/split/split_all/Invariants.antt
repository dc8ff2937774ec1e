use Rattle.std.proofs.Common.{◌≡◌, take, drop, vec_len}
use Rattle.gix_ref_transaction.specs.Splits.{values_of}
use Rattle.gix_ref_transaction.specs.internal.SplitRounds.{led_to, after_by, children_by, parents_by}
use Rattle.gix_ref_transaction.proofs.prepare.split.split_all.Given as goal

-- the edits that were seen are split, and the rest is as it was
abbrev pub invariant-loop-i : goal.invariant-loop-i
invariant-loop-i l =
    let seen = values_of (take l.i l.fn.edits.items) in
    let names = take l.i (led_to l.fn.names.items) in
    record {
      edits_len : vec_len l.edits ≡ vec_len l.fn.edits;
      names_len : vec_len l.names ≡ vec_len l.fn.names;
      after : values_of (take l.i l.edits.items) ≡ after_by seen names;
      children : values_of l.children.items ≡ children_by seen names;
      parents : l.parents.items ≡ parents_by l.fn.first names;
      len : vec_len l.parents ≡ vec_len l.children;
      edits_left : drop l.i l.edits.items ≡ drop l.i l.fn.edits.items;
      names_left : drop l.i l.names.items ≡ drop l.i l.fn.names.items;
    }
