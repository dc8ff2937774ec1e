use Rattle.std.proofs.Common.{[], sym}
use Rattle.gix_ref_target.specs.Layout.{below}
use Rattle.gix_ref_name.proofs.FrontLemmas.{without-append, without-none}
use Rattle.gix_ref_lookup.proofs.Answering.{below_true, below_false}
use Rattle.gix_ref_lookup.proofs.settings.below.Goals as goal

pub returns-in-Some : goal.returns-in-Some
returns-in-Some c =
    let folder = c.args.folder.now in
    let path = c.args.path.now in
    sym (without-append (below folder []) path c.in-Some.rest.now (below_true folder path c.in-Some.rest.now c.in-Some.ensures))

pub returns-in-None : goal.returns-in-None
returns-in-None c =
    let folder = c.args.folder.now in
    let path = c.args.path.now in
    sym (without-none (below folder []) path (below_false folder path c.in-None.ensures))
