use Rattle.std.proofs.Common.{arith}
use Rattle.std.proofs.lemmas.List.{length-drop}
use Rattle.gix_ref_packed.proofs.packed.sorted_file.SortedFile.read_part.Goals as goal

pub returns-in_default-clause-stays : goal.returns-in_default-clause-stays
returns-in_default-clause-stays g c = λ honest within.
    let s = c.args.self.now in
    let fits = c.records_len.ensures.fits honest in
    omega (arith, length-drop s.base (g.R.ReadAt.bytes s.reader), c.in_default.ensures)
