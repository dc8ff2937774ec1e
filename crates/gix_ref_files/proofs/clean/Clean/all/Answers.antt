use Rattle.std.proofs.Common.{ℕ, length, sym, subst}
use Rattle.gix_ref_files.specs.Clean.{AreClean}
use Rattle.gix_ref_files.specs.Settled.{synced_by, climb}
use Rattle.gix_ref_files.proofs.CleanFolders.{holds_climbed}
use Rattle.gix_ref_files.proofs.clean.Clean.all.Goals as goal

pub returns : goal.returns
returns c D folders =
    let p = c.args.path.now in
    subst (λ (from : ℕ). AreClean (synced_by (climb p c.args.root) D) p from (length p)) (sym c.root_of.ensures.place) (holds_climbed p c.args.root D folders)
