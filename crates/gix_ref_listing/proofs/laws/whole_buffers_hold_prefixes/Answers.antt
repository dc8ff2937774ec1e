use Rattle.gix_ref_listing.proofs.PrefixedRecords.{held_whole}
use Rattle.gix_ref_listing.proofs.laws.whole_buffers_hold_prefixes.Goals as goal

pub returns : goal.returns
returns c = held_whole
