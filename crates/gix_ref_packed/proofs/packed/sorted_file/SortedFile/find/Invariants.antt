use Rattle.gix_ref_packed.proofs.packed.sorted_file.SortedFile.find.Given as goal

abbrev pub ghosts-find_blank : goal.ghosts-find_blank
ghosts-find_blank g a = record { name = a.blank.name; parts = a.blank.parts }
