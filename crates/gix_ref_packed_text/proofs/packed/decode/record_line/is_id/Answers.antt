use Rattle.std.proofs.Common.{[], sym}
use Rattle.std.proofs.lemmas.List.{append-nil}
use Rattle.gix_ref_packed_text.proofs.DigitLemmas.{whole_id}
use Rattle.gix_ref_packed_text.proofs.packed.decode.record_line.is_id.Goals as goal

pub returns-in-Some : goal.returns-in-Some
returns-in-Some c = whole_id c.args.kind c.args.text.now c.in-Some.field-0.0.now c.in-Some.field-0.1.now c.requires c.in-Some.ensures.0 c.in-Some.ensures.1

pub returns-in-None : goal.returns-in-None
returns-in-None c = λ h. c.in-None.ensures c.args.text.now [] h (sym (append-nil c.args.text.now))
