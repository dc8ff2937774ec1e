use Rattle.std.proofs.Common.{ap, Err}
use Rattle.gix_ref_files.proofs.Meeting.{met_after}
use Rattle.gix_ref_listing.proofs.pristine.has_packed_refs.Goals as goal

pub returns-clause-says : goal.returns-clause-says
returns-clause-says g c =
    (c.in-Err.field-0, met_after c.in-Err.field-0 (g.F.Files.faults c.args.files.now) (g.F.Files.faults c.kind.new.self) (λ is. c.in-Err.ensures.count.1 (ap Err is)) c.in-Err.ensures.count.0)
