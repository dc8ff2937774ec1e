use Rattle.gix_ref_packed_text.proofs.packed.bound.lower_bound_in_memory.Goals as goal

-- src/packed/bound.rt:77:1
pub returns-clause-malformed : goal.returns-clause-malformed
returns-clause-malformed c = c.in-Ok.ensures.malformed tt
