use Rattle.std.proofs.Common.{refl}
use Rattle.gix_ref_store.proofs.LentRecords.{lends}
use Rattle.gix_ref_store.proofs.file.iter.LooseThenPacked+F.next_record.Goals as goal

pub returns-clause-lends : goal.returns-clause-lends
returns-clause-lends g c = let F = g.F.Files in lends F.honest F.means F.faults c.args.self.now _ c.lend_listed.result refl c.lend_listed.ensures.gives
