use Rattle.gix_ref_session.proofs.LeadLemmas.{no_error}
use Rattle.gix_ref_session.proofs.lead.head.Goals as goal

pub unreachable-requires : goal.unreachable-requires
unreachable-requires c = no_error c.as_slice.result.now c.in-Err.field-0 c.as_slice.ensures c.in-Err.ensures
