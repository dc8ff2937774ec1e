use Rattle.std.specs.Prelude.{unwrap_or}
use Rattle.gix_ref_target.specs.Locations.{location}
use Rattle.gix_ref_target.specs.Locations.Location.{Common}
use Rattle.gix_ref_reflog.proofs.OwnNames.{ends_below}
use Rattle.gix_ref_reflog.proofs.laws.logs_end_below_logs.Goals as goal

pub returns : goal.returns
returns c f name = ends_below f (unwrap_or (location name) (Common name))
