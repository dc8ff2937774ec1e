use Rattle.gix_ref_packed.proofs.PrefixBuffers.{prefixed_hold}
use Rattle.gix_ref_packed.proofs.packed.laws.prefixed_buffers_hold_records.Goals as goal

pub returns : goal.returns
returns c = prefixed_hold
