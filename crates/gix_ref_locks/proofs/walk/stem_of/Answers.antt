use Rattle.std.proofs.lemmas.Slice.Eq.{strip_suffix_is}
use Rattle.std.proofs.lemmas.Bool.Decides.{Decides-eqb}
use Rattle.std.proofs.Common.{codes}
use Rattle.gix_ref_locks.proofs.walk.stem_of.Goals as goal

pub returns : goal.returns
returns c = strip_suffix_is Decides-eqb c.args.path.now (codes ".lock") _ c.strip_suffix.ensures.cases
