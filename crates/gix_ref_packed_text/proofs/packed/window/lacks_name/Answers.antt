use Rattle.std.proofs.Common.{◌+◌, ◌<◌, List, ℕ, length, drop, sym, subst}
use Rattle.std.proofs.lemmas.List.{take_rest}
use Rattle.std.proofs.lemmas.Bool.{ltb-true}
use Rattle.gix_ref_packed_text.specs.RecordGrammar.{RecordLine}
use Rattle.gix_ref_packed_text.proofs.WindowLemmas.{newline_far, record_line_in_part}
use Rattle.gix_ref_packed_text.proofs.packed.window.lacks_name.Goals as goal

pub returns-then-at_eof-clause-lacks : goal.returns-then-at_eof-clause-lacks
returns-then-at_eof-clause-lacks c = λ yes_it_does text is all n at.
    c.requires at.0 n at.1 (subst (λ (u : List ℕ). RecordLine c.args.kind u at.0 n at.1) (sym (all c.if-at_eof.true)) at.2)

pub returns-in-Some-clause-lacks : goal.returns-in-Some-clause-lacks
returns-in-Some-clause-lacks c = λ more text is all n at.
    let part = c.args.part.now in
    let len = c.len_in_hex-len.result in
    let end = c.in-Some.end in
    let within : end + 1 < length (drop (len + 1) part) = ltb-true (end + 1) (length (drop (len + 1) part)) (rw take_rest at more) in
    let newline = rw take_rest at c.in-Some.ensures.1 in
    let far = newline_far c.args.kind text part at.0 n at.1 len end at.2 is c.len_in_hex-len.ensures within newline in
    let shape = record_line_in_part c.args.kind text part at.0 n at.1 at.2 is far in
    c.requires shape.0 shape.1 shape.2 shape.3
