use Rattle.gix_ref_commit.proofs.LostFolders.{starts_losing}
use Rattle.gix_ref_commit.proofs.tidy.remove_at.Goals as goal

pub returns-then-path-end-ne47-clause-loses : goal.returns-then-path-end-ne47-clause-loses
returns-then-path-end-ne47-clause-loses g c h = starts_losing (g.F.Files.means c.args.files.now)
