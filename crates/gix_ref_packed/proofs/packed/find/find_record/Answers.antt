use Rattle.std.proofs.lemmas.List.{take_rest}
use Rattle.gix_ref_packed.proofs.MemorySearches.{found_in_memory, none_in_memory, bad_in_memory, malformed_in_memory}
use Rattle.gix_ref_packed.proofs.packed.find.find_record.Goals as goal

pub returns-in-Ok-None-clause-finds : goal.returns-in-Ok-None-clause-finds
returns-in-Ok-None-clause-finds g c = none_in_memory c.args.kind c.args.text.now c.args.wanted.now (rw c.in-Ok-None.field-0-is at c.in-Ok-None.ensures.none tt) (rw c.in-Ok-None.field-0-is at c.in-Ok-None.ensures.finds tt)

pub returns-in-Err-clause-finds : goal.returns-in-Err-clause-finds
returns-in-Err-clause-finds g c = malformed_in_memory c.args.kind c.args.text.now c.args.wanted.now c.in-Err.field-0 (c.in-Err.ensures.fails tt)

pub returns-in-Some-clause-finds : goal.returns-in-Some-clause-finds
returns-in-Some-clause-finds g c =
    found_in_memory c.args.kind c.args.text.now c.args.wanted.now c.in-Ok-Some.start
    (rw c.in-Ok-Some.field-0-is at c.in-Ok-Some.ensures.hit tt) (rw c.in-Ok-Some.field-0-is at c.in-Ok-Some.ensures.finds tt) c.in-Some.reference c.in-Some.field-0-1.now (rw take_rest at c.in-Some.ensures)

pub returns-in-None-clause-finds : goal.returns-in-None-clause-finds
returns-in-None-clause-finds g c =
    bad_in_memory c.args.kind c.args.text.now c.args.wanted.now c.in-Ok-Some.start
    (rw c.in-Ok-Some.field-0-is at c.in-Ok-Some.ensures.hit tt) (rw c.in-Ok-Some.field-0-is at c.in-Ok-Some.ensures.finds tt) (rw take_rest at c.in-None.ensures)
