use Rattle.std.proofs.Common.{sym, ◌∙◌}
use Rattle.gix_ref_hash.proofs.IdDigits.{kind_text}
use Rattle.gix_ref_lookup.proofs.LooseLemmas.{goes_on, no_digits_no_id}
use Rattle.gix_ref_lookup.proofs.loose.object_id.Goals as goal

pub returns-in_default : goal.returns-in_default
returns-in_default c = no_digits_no_id c.args.kind c.args.text.now c.in_default.ensures

pub returns-in-Some-first : goal.returns-in-Some-first
returns-in-Some-first c =
    let found = c.in-Some.ensures in
    goes_on c.args.kind c.args.text.now c.in-Some.digits.now c.in-Some.rest.now c.in-Some-first.byte.now found.0 found.1 c.in-Some-first.ensures.value (sym c.is_hex.ensures ∙ c.if-is_hex.true)

pub id_of_digits-requires : goal.id_of_digits-requires
id_of_digits-requires c = kind_text c.args.kind c.in-Some.digits.now c.in-Some.ensures.0
