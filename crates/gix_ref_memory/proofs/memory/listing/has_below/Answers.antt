use Rattle.gix_ref_memory.proofs.Placed.{placed}
use Rattle.gix_ref_memory.proofs.memory.listing.has_below.Goals as goal

pub loop-change-init : goal.loop-change-init
loop-change-init c rest some = placed c.args.changes.now _ some
