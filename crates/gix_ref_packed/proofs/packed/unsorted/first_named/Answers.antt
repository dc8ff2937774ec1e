use Rattle.std.proofs.Common.{◌≡◌, true, false, Some, refl, sym, ◌∙◌, ap}
use Rattle.std.specs.Cmp.Lexicographic.{bytes_decides}
use Rattle.gix_ref_target.specs.PackedRecords.{Record}
use Rattle.gix_ref_packed_text.specs.Views.{record_of}
use Rattle.gix_ref_packed_text.proofs.OneReading.{same_record}
use Rattle.gix_ref_packed.proofs.UnsortedLemmas.{pass, first_is, none_left}
use Rattle.gix_ref_packed.proofs.packed.unsorted.first_named.Goals as goal

pub loop-name-init : goal.loop-name-init
loop-name-init c = λ rs h. (rs, h, refl)

pub loop-name-preserved : goal.loop-name-preserved
loop-name-preserved c =
    pass c.args.kind c.args.text.now c.loop-name.rest.now c.in-Some.field-0-0.now c.in-Some.name.now c.in-Some.after.now c.after_peeled-rest.result.now c.args.wanted.now
    c.loop-name.invariant c.in-Some.ensures
    (λ same. let yes_it_is = (bytes_decides c.in-Some.name.now c.args.wanted.now).1 same in let bad : true ≡ false = sym yes_it_is ∙ sym c.eq.ensures ∙ c.if-eq.false in cc (bad)) c.after_peeled-rest.ensures.after

pub returns-in-Some-take_record : goal.returns-in-Some-take_record
returns-in-Some-take_record c = λ rs h.
    let first = first_is c.args.kind c.args.text.now c.loop-name.rest.now c.in-Some.field-0-0.now c.in-Some.name.now c.in-Some.after.now c.args.wanted.now c.loop-name.invariant c.in-Some.ensures ((bytes_decides c.in-Some.name.now c.args.wanted.now).0 (sym c.eq.ensures ∙ c.if-eq.true)) rs h in
    let same = same_record c.args.kind c.loop-name.rest.now (record_of c.in-Some-take_record.record) c.in-Some-take_record.field-0-1.now first.0 first.1 c.in-Some-take_record.ensures first.2 in
    ap (λ (r : Record). Some r) same.0 ∙ sym first.3

pub returns-in-None : goal.returns-in-None
returns-in-None c = λ rs h.
    let first = first_is c.args.kind c.args.text.now c.loop-name.rest.now c.in-Some.field-0-0.now c.in-Some.name.now c.in-Some.after.now c.args.wanted.now c.loop-name.invariant c.in-Some.ensures ((bytes_decides c.in-Some.name.now c.args.wanted.now).0 (sym c.eq.ensures ∙ c.if-eq.true)) rs h in
    absurd (c.in-None.ensures first.0 first.1 first.2)

pub returns : goal.returns
returns c = λ rs h. sym (none_left c.args.kind c.args.text.now c.loop-name.rest.now c.args.wanted.now c.loop-name.invariant c.in_default.ensures rs h)
