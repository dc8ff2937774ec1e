use Rattle.std.proofs.Common.{◌+◌, ◌-◌, length, Bool, sym, ◌∙◌, subst, arith}
use Rattle.std.specs.Bool.{OnTrue}
use Rattle.gix_ref_name.specs.NameGrammar.{AllFollow}
use Rattle.gix_ref_name.proofs.PlainPaths.{plain_whole}
use Rattle.gix_ref_name.proofs.name.grammar.is_plain_path.Goals.{then-follow_in_lanes, else-follow_in_lanes}
use Rattle.gix_ref_name.proofs.name.grammar.is_plain_path.Goals as goal

pub returns-then-is_plain_byte : goal.returns-then-is_plain_byte
returns-then-is_plain_byte c =
    let name = c.args.name.now in
    let inv = c.loop-start.invariant in
    elim c.if-follow_in_lanes.branch [
      | then-follow_in_lanes w ↦
          plain_whole name c.loop-start.start (length name - 16) (λ k. let fits = c.type_inv.name k in omega arith) inv.2 inv.3 c.loop-start-test.false inv.4
          (subst (λ (v : Bool). OnTrue v (AllFollow name (length name - 16) (length name - 16 + 16))) w.if-follow_in_lanes.true c.follow_in_lanes-2.ensures)
          (sym w.is_plain_byte.ensures.value ∙ (sym w.value-is ∙ c.if-is_plain_byte.true))
      | else-follow_in_lanes w ↦ absurd (let no = w.value-is in let yes = c.if-is_plain_byte.true in cc)
    ]
