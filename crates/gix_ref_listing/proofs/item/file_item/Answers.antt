use Rattle.std.proofs.Common.{ap, inr}
use Rattle.gix_ref_theory.specs.OnRealTrees.{view_of}
use Rattle.gix_ref_listing.proofs.GoneFiles.{asked_from}
use Rattle.gix_ref_listing.proofs.item.file_item.Goals as goal

pub returns-in-Ok-None-clause-item : goal.returns-in-Ok-None-clause-item
returns-in-Ok-None-clause-item g c =
    let F = g.F.Files in
    inr (
      (λ h. rw c.in-Ok-None.field-0-is at (c.in-Ok-None.ensures.found h)),
      asked_from F.honest c.args.settings (view_of (F.means c.args.files.now).tree) (view_of (F.means c.read_at.new.files).tree) (λ h. ap view_of (c.in-Ok-None.ensures.reads.leaves h).tree) (F.faults c.args.files.now) (F.faults c.read_at.new.files)
          (F.faults c.find_again.new.files) c.args.name c.find_again.result c.in-Ok-None.ensures.no_fault c.find_again.ensures.item,
    )
