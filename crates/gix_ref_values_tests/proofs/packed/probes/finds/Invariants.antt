use Rattle.gix_ref_values_tests.proofs.packed.probes.finds.Given as goal

abbrev pub ghosts-is_found : goal.ghosts-is_found
ghosts-is_found a = record { name = a.blank.name; parts = a.blank.parts }
