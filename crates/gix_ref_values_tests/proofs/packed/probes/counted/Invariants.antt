use Rattle.gix_ref_values_tests.proofs.packed.probes.counted.Given as goal

abbrev pub ghosts-looks_for : goal.ghosts-looks_for
ghosts-looks_for a = record { name = a.blank.name; parts = a.blank.parts }
