use Rattle.gix_ref_locks.proofs.FoundLocks.{kept_stays, kept_there, kept_only}
use Rattle.gix_ref_locks.proofs.walk.keep.Goals as goal

pub returns-clause-stays : goal.returns-clause-stays
returns-clause-stays c = kept_stays c.args.path c.args.found.now.keys c.insert.new.self.keys c.in_ok-insert.ensures.keys

pub returns-clause-kept : goal.returns-clause-kept
returns-clause-kept c = kept_there c.args.path c.args.found.now.keys c.insert.new.self.keys c.in_ok-insert.ensures.keys

pub returns-clause-only : goal.returns-clause-only
returns-clause-only c = kept_only c.args.path c.args.found.now.keys c.insert.new.self.keys c.in_ok-insert.ensures.keys
