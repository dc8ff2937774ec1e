use Rattle.std.proofs.Common.{sym, codes}
use Rattle.gix_ref_name.proofs.FrontLemmas.{without-append, without-none}
use Rattle.gix_ref_lookup.proofs.folders.relative.Goals as goal

pub returns-in-Some : goal.returns-in-Some
returns-in-Some c = sym (without-append (codes "/") c.args.path.now c.in-Some.rest.now c.in-Some.ensures)

pub returns-in-None : goal.returns-in-None
returns-in-None c = sym (without-none (codes "/") c.args.path.now c.in-None.ensures)
