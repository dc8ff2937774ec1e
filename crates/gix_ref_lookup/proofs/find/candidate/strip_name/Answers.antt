use Rattle.gix_ref_name.specs.Names.{full_bytes}
use Rattle.gix_ref_lookup.proofs.Stripping.{no_less}
use Rattle.gix_ref_lookup.proofs.find.candidate.strip_name.Goals as goal

pub returns-in_default : goal.returns-in_default
returns-in_default c = rw c.in_default.is (no_less (full_bytes c.args.name.now))
