use Rattle.gix_ref_lookup.proofs.FolderLemmas.{rest_in}
use Rattle.gix_ref_lookup.proofs.folders.rest_below.Goals as goal

pub returns : goal.returns
returns c = rest_in c.args.path.now c.args.folder.now c.in-Some.rest.now c.strip_front-2.result c.in-Some.ensures c.strip_front-2.ensures
