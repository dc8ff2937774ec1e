use Rattle.gix_ref_theory.specs.OnRealTrees.{view_of}
use Rattle.gix_ref_listing.proofs.PristineLemmas.{undecodable}
use Rattle.gix_ref_listing.proofs.pristine.reading_at.Goals as goal

pub returns-in-Err-ReferenceCreation-clause-reads : goal.returns-in-Err-ReferenceCreation-clause-reads
returns-in-Err-ReferenceCreation-clause-reads g c h =
    let why = rw c.in-Err-ReferenceCreation.field-0-is at c.in-Err-ReferenceCreation.ensures.failed in
    undecodable c.args.settings (view_of (g.F.Files.means c.args.files.now).tree) c.args.path.items c.in-Err-ReferenceCreation.field-0-0 (why.1 h)

pub returns-in-Err-ReadFileContents-clause-fault : goal.returns-in-Err-ReadFileContents-clause-fault
returns-in-Err-ReadFileContents-clause-fault g c same =
    let why = rw c.in-File.is at (rw c.in-Err-ReadFileContents.field-0-is at c.in-Err-ReadFileContents.ensures.failed) in (c.in-File.field-0, why.0)
