use Rattle.std.proofs.Common.{rules}
use Rattle.gix_ref_files.proofs.Counting.{added}
use Rattle.gix_ref_files.proofs.faults.Faults.add.Goals as goal

pub returns : goal.returns
returns c fault at = added c.args.self.now fault c.args.number _ _ (search rules) (search rules) (search rules) at
