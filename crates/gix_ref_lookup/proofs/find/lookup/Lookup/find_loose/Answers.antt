use Rattle.std.proofs.Common.{◌∙◌, ap}
use Rattle.std.proofs.lemmas.Bool.{OnTrue_at}
use Rattle.gix_ref_files.specs.Tree.{file_of}
use Rattle.gix_ref_lookup.proofs.find.lookup.Lookup.find_loose.Goals as goal

pub returns-then-has_nothing_at-clause-found : goal.returns-then-has_nothing_at-clause-found
returns-then-has_nothing_at-clause-found g c h =
    let files = c.args.self.now.files.now in
    let T = (g.F.Files.means files).tree in
    let here = c.deref.ensures.value ∙ c.in_ok-place.ensures in
    rw here at (ap file_of (OnTrue_at c.if-has_nothing_at.true c.has_nothing_at.ensures.nothing T (g.met.F.Files.shaped files h) (c.requires.nothing h)))
