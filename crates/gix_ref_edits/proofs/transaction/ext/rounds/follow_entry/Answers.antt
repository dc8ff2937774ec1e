use Rattle.std.proofs.Common.{refl}
use Rattle.gix_ref_edits.proofs.transaction.ext.rounds.follow_entry.Goals as goal

pub returns-clause-kept : goal.returns-clause-kept
returns-clause-kept g c = (c.follow.new.self, refl)
