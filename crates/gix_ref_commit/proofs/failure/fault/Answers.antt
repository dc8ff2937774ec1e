use Rattle.std.proofs.Common.{refl}
use Rattle.gix_ref_commit.proofs.failure.fault.Goals as goal

pub returns-in-Folders : goal.returns-in-Folders
returns-in-Folders c = rw c.in-Folders.is (c.no_folders.ensures.fault c.args.source refl c.in-Folders.edit)
