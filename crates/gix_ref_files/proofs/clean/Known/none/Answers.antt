use Rattle.gix_ref_files.proofs.clean.Known.none.Goals as goal

pub returns : goal.returns
returns c D = record { line = c.none.ensures D; other_line = c.none-2.ensures D; place = c.none-3.ensures D }
