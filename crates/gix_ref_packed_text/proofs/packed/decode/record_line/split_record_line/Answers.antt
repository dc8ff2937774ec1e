use Rattle.std.proofs.Common.{◌<◌, ◌+◌, length-take-le, length, take, drop, sym, ◌∙◌, arith}
use Rattle.gix_ref_packed_text.proofs.OneReading.{no_record_line, spaced}
use Rattle.std.proofs.lemmas.List.{take_rest}
use Rattle.gix_ref_packed_text.proofs.packed.decode.record_line.split_record_line.Goals as goal

pub returns-in_default-take_line : goal.returns-in_default-take_line
returns-in_default-take_line c =
    let here = c.in-Some-eq32.ensures.lookup.3 in
    let t = c.args.text.now in
    let len = c.len_in_hex-len.result in
    let within : len < length t = here.0 in
    no_record_line c.args.kind t (take len t) (drop (len + 1) t) (spaced t len within (sym (here.1 0) ∙ c.in-Some-eq32.field-0-test)) (length-take-le len t (omega arith) ∙ c.len_in_hex-len.ensures) (rw take_rest at c.in_default-take_line.ensures)
