use Rattle.std.proofs.Common.{refl, arith}
use Rattle.gix_ref_name.proofs.PlainNames.{plain_step, plain_end}
use Rattle.gix_ref_name.proofs.name.grammar.is_plainly_partial.Goals as goal

pub loop-byte-preserved : goal.loop-byte-preserved
loop-byte-preserved c = plain_step c.args.name.now c.loop-byte.byte-index c.loop-byte.clashes c.loop-byte.before _ _ c.loop-byte-test.true refl c.loop-byte.invariant

pub returns-then-clashes-eq0 : goal.returns-then-clashes-eq0
returns-then-clashes-eq0 c = plain_end c.args.name.now c.loop-byte.byte-index c.loop-byte.before c.loop-byte-test.false (λ k. let fits = c.type_inv.name k in omega arith) (c.loop-byte.invariant c.if-clashes-eq0.true)
