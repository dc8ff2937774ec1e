use Rattle.std.proofs.Common.{subst, sym}
use Rattle.gix_ref_theory.specs.OnRealTrees.{view_of}
use Rattle.gix_ref_listing.specs.PlainSettings.{plain}
use Rattle.gix_ref_listing.specs.PristineStores.{IsUnreadableFile}
use Rattle.gix_ref_listing.proofs.pristine.is_readable.Goals as goal

pub returns-in-Nothing-clause-says : goal.returns-in-Nothing-clause-says
returns-in-Nothing-clause-says g c = (
  c.if-other.false,
  λ h.
      let reads = rw c.in-Nothing.is at (c.in_ok-reading_at-in-File-2.ensures.reads h) in
      subst (IsUnreadableFile (plain c.args.settings) (view_of (g.F.Files.means c.args.files.now).tree)) (sym c.in-File.is) reads,
)
