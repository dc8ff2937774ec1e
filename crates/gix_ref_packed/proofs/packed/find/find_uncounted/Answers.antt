use Rattle.std.proofs.lemmas.Bool.{OnTrue_at}
use Rattle.gix_ref_packed.proofs.MemorySearches.{none_in_memory}
use Rattle.gix_ref_packed.proofs.packed.find.find_uncounted.Goals as goal

pub returns-then-lies_outside : goal.returns-then-lies_outside
returns-then-lies_outside c = none_in_memory c.args.kind c.args.text.now c.args.wanted.now
    (λ some. OnTrue_at c.if-lies_outside.true c.lies_outside.ensures.some)
    (OnTrue_at c.if-lies_outside.true c.lies_outside.ensures.none)
