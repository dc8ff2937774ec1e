use Rattle.std.proofs.Common.{refl}
use Rattle.gix_ref_store.proofs.file.store.Store.iter.Goals as goal

pub returns-in-Ok : goal.returns-in-Ok
returns-in-Ok g c = (
  (refl, (λ w. refl), _),
  record { rests = _; same_reference = refl; looks_up = c.in-Ok.ensures.unchanged; no_fault = c.in-Ok.ensures.no_fault; opened = c.in-Ok.ensures.opened },
)
