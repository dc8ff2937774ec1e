use Rattle.std.proofs.Common.{◌∙◌, ap}
use Rattle.gix_ref_transaction.specs.OwnLocks.{paths_of}
use Rattle.gix_ref_commit.proofs.Walking.{backwards, in_way_of}
use Rattle.gix_ref_commit.proofs.Whole.{all_folders}
use Rattle.gix_ref_commit.proofs.folders.folders_at.Goals as goal

pub returns-clause-in_way : goal.returns-clause-in_way
returns-clause-in_way g c h =
    let back = ap paths_of c.reverse.ensures.items ∙ backwards c.walk.new.found.items in
    in_way_of c.args.dirs.now (g.F.Files.means c.args.files.now).tree c.args.path.now (paths_of c.walk.new.found.items) (paths_of c.reverse.new.self.items) c.walk.ensures.walked back
    (all_folders c.args.dirs.now (g.F.Files.means c.args.files.now).tree c.args.path.now (paths_of c.walk.new.found.items) (paths_of c.reverse.new.self.items) c.walk.ensures.walked (c.in_ok-walk.ensures.whole h c.if-not-branch.false) back)
