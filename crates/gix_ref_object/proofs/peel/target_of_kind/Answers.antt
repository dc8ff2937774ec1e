use Rattle.std.proofs.Common.{◌∙◌}
use Rattle.gix_ref_object.proofs.TagTargets.{no_front, too_short, no_line, a_line}
use Rattle.gix_ref_object.proofs.peel.target_of_kind.Goals as goal
use Rattle.gix_ref_object.proofs.peel.target_of_kind.Goals.{then-rest-len-via-then-rest-len, then-rest-len-via-else-rest-len+then-rest-len-ne10}

pub returns-in_default : goal.returns-in_default
returns-in_default c = no_front c.args.kind c.args.bytes.now c.in_default.ensures

pub returns-then-rest-len : goal.returns-then-rest-len
returns-then-rest-len c =
    elim c.then-rest-len.branch [
      | then-rest-len-via-then-rest-len w ↦
          too_short c.args.kind c.args.bytes.now c.in-Some.rest.now c.len_in_hex-len.result c.len_in_hex-len.ensures c.in-Some.ensures w.if-rest-len.true
      | then-rest-len-via-else-rest-len+then-rest-len-ne10 w ↦
          no_line c.args.kind c.args.bytes.now c.in-Some.rest.now c.len_in_hex-len.result c.len_in_hex-len.ensures c.in-Some.ensures w.if-rest-len.false w.if-rest-len-ne10.true
    ]

pub returns : goal.returns
returns c =
    c.id_of_hex.ensures
    ∙ a_line c.args.kind c.args.bytes.now c.in-Some.rest.now c.len_in_hex-len.result c.len_in_hex-len.ensures c.in-Some.ensures c.if-rest-len.false c.if-rest-len-ne10.false
