use Rattle.gix_ref_commit.proofs.LostFolders.{starts_losing}
use Rattle.gix_ref_commit.proofs.tidy.remove_above_next.Goals as goal

pub returns-else-ne-clause-loses : goal.returns-else-ne-clause-loses
returns-else-ne-clause-loses g c h = starts_losing (g.F.Files.means c.args.files.now)
