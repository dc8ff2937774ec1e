use Rattle.std.proofs.Common.{◌≡◌, inl, inr, Bool, true, false, not, refl, arith}
use Rattle.gix_ref_packed_text.proofs.ItemStarts.{apart_plain}
use Rattle.gix_ref_packed_text.proofs.TakenLines.{splits_front}
use Rattle.gix_ref_packed.proofs.packed.iter.first_of_prefix.Goals as goal

not_true : (b : Bool) → not b ≡ true → b ≡ false
not_true true is = cc
not_true false is = refl

not_false : (b : Bool) → not b ≡ false → b ≡ true
not_false true is = refl
not_false false is = cc

pub returns-then-not-bound-clause-starts : goal.returns-then-not-bound-clause-starts
returns-then-not-bound-clause-starts c =
    let ends = c.lower_bound_in_memory-bound.ensures.starts in
    record { list_start = ends.starts; apart = apart_plain c.args.kind c.args.text.now c.lower_bound_in_memory-bound.result.place ends.starts (ends.no_caret (not_true _ c.if-not-bound.true)) }

pub returns-then-begins_with_record-clause-starts : goal.returns-then-begins_with_record-clause-starts
returns-then-begins_with_record-clause-starts c = record {
  list_start = record { within = omega arith; begins = inr (λ some. absurd (omega arith)) };
  apart = λ p r at before. absurd (omega arith);
}

pub returns-then-begins_with_record-clause-lines : goal.returns-then-begins_with_record-clause-lines
returns-then-begins_with_record-clause-lines c = λ ascend.
    let first = c.if-begins_with_record.ensures in
    inr (splits_front c.args.kind c.args.text.now first.0 first.1 first.2 c.args.prefix.now first.3 ascend)

pub returns-clause-starts : goal.returns-clause-starts
returns-clause-starts c = (c.bad_line_at.ensures c.args.kind (c.lower_bound_in_memory-bound.ensures.malformed (not_false _ c.if-not-bound.false))).begins

pub returns-clause-lines : goal.returns-clause-lines
returns-clause-lines c = λ ascend. inl (c.bad_line_at.ensures c.args.kind (c.lower_bound_in_memory-bound.ensures.malformed (not_false _ c.if-not-bound.false)))
