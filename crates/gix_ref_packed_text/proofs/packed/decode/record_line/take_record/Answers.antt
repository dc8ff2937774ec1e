use Rattle.gix_ref_name.specs.NameGrammar.{IsFullName}
use Rattle.gix_ref_hash.specs.Ids.{IsHexOf}
use Rattle.gix_ref_packed_text.proofs.OneReading.{no_record}
use Rattle.gix_ref_hash.proofs.IdDigits.{kind_text}
use Rattle.gix_ref_packed_text.proofs.DigitLemmas.{peeled_text}
use Rattle.gix_ref_packed_text.proofs.packed.decode.record_line.take_record.Goals as goal

pub returns-in_default : goal.returns-in_default
returns-in_default c = λ r rest f. c.in_default.ensures r.target r.name f.after f.line

pub returns-then-not-is_id : goal.returns-then-not-is_id
returns-then-not-is_id c =
    no_record c.args.kind c.args.text.now c.in-Some.target.now c.in-Some.name.now c.in-Some.after.now c.in-Some.ensures (λ id valid o rest f. c.if-not-is_id.ensures id)

pub returns-in_default-try_from : goal.returns-in_default-try_from
returns-in_default-try_from c =
    no_record c.args.kind c.args.text.now c.in-Some.target.now c.in-Some.name.now c.in-Some.after.now c.in-Some.ensures (λ (id : IsHexOf _ _) (valid : IsFullName c.in-Some.name.now) o rest f. cc (c.in_default-try_from.ensures, valid))

pub returns-in_default-take_peeled : goal.returns-in_default-take_peeled
returns-in_default-take_peeled c =
    no_record c.args.kind c.args.text.now c.in-Some.target.now c.in-Some.name.now c.in-Some.after.now c.in-Some.ensures (λ id valid. c.in_default-take_peeled.ensures)

pub invariant_of-reference : goal.invariant_of-reference
invariant_of-reference c = record {
  target_reads = kind_text c.args.kind c.in-Some.target.now c.if-not-is_id.ensures;
  object_reads = peeled_text c.args.kind c.in-Some.after.now c.in-Some-take_peeled.object c.in-Some-take_peeled.rest.now c.in-Some-take_peeled.ensures;
}
