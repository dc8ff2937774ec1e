use Rattle.std.proofs.Common.{◌<◌, arith, take, subst, sym}
use Rattle.gix_ref_commit.specs.Cleared.{kept_of}
use Rattle.gix_ref_commit.proofs.LostFolders.{folder_losing, starts_losing}
use Rattle.gix_ref_commit.proofs.Tidying.{cut_at_slash, one_folder, one_goes}
use Rattle.gix_ref_files.proofs.Moments.{weaken}
use Rattle.gix_ref_commit.proofs.tidy.remove_folder.Goals as goal

pub returns-in-Ok-clause-leaves : goal.returns-in-Ok-clause-leaves
returns-in-Ok-clause-leaves g c h =
    let path = c.args.path.now in
    let end = c.args.end in
    let cut = cut_at_slash path end c.requires.inside c.requires.slash in
    weaken (c.remove_folder.ensures.leaves h) (λ T goes. one_goes c.args.dirs.now path (take end path) cut.0 (g.F.Files.means c.args.files.now).tree T cut.1 (subst (λ n. kept_of c.args.dirs.now path < n) (sym cut.2) c.requires.kept) (c.leads_to_store.ensures.outside c.if-leads_to_store.false) goes)

pub returns-in-Err-clause-leaves : goal.returns-in-Err-clause-leaves
returns-in-Err-clause-leaves g c h =
    let path = c.args.path.now in
    let end = c.args.end in
    let cut = cut_at_slash path end c.requires.inside c.requires.slash in
    weaken (c.remove_folder.ensures.leaves h) (λ T goes. one_goes c.args.dirs.now path (take end path) cut.0 (g.F.Files.means c.args.files.now).tree T cut.1 (subst (λ n. kept_of c.args.dirs.now path < n) (sym cut.2) c.requires.kept) (c.leads_to_store.ensures.outside c.if-leads_to_store.false) goes)

pub returns-in-Ok-clause-passes : goal.returns-in-Ok-clause-passes
returns-in-Ok-clause-passes g c h =
    one_folder c.args.dirs.now (take c.args.end c.args.path.now) (g.F.Files.means c.args.files.now) (g.F.Files.means c.remove_folder.new.self) (c.leads_to_store.ensures.outside c.if-leads_to_store.false) (c.remove_folder.ensures.passes h)

pub returns-in-Err-clause-passes : goal.returns-in-Err-clause-passes
returns-in-Err-clause-passes g c h =
    one_folder c.args.dirs.now (take c.args.end c.args.path.now) (g.F.Files.means c.args.files.now) (g.F.Files.means c.remove_folder.new.self) (c.leads_to_store.ensures.outside c.if-leads_to_store.false) (c.remove_folder.ensures.passes h)

pub returns-then-leads_to_store-clause-loses : goal.returns-then-leads_to_store-clause-loses
returns-then-leads_to_store-clause-loses g c h = starts_losing (g.F.Files.means c.args.files.now)

pub returns-in-Ok-clause-loses : goal.returns-in-Ok-clause-loses
returns-in-Ok-clause-loses g c h =
    let cut = cut_at_slash c.args.path.now c.args.end c.requires.inside c.requires.slash in
    folder_losing (g.F.Files.means c.args.files.now) (g.F.Files.means c.remove_folder.new.self) (take c.args.end c.args.path.now) (omega (arith, cut.2, c.requires.kept)) (c.remove_folder.ensures.passes h)

pub returns-in-Err-clause-loses : goal.returns-in-Err-clause-loses
returns-in-Err-clause-loses g c h =
    let cut = cut_at_slash c.args.path.now c.args.end c.requires.inside c.requires.slash in
    folder_losing (g.F.Files.means c.args.files.now) (g.F.Files.means c.remove_folder.new.self) (take c.args.end c.args.path.now) (omega (arith, cut.2, c.requires.kept)) (c.remove_folder.ensures.passes h)
