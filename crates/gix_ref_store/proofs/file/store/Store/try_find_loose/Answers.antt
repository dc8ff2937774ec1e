use Rattle.std.proofs.Common.{[], false, refl}
use Rattle.gix_ref_name.specs.Names.{partial_ref_bytes}
use Rattle.gix_ref_store.specs.Lookup.{hit_in}
use Rattle.gix_ref_store.proofs.LooseAnswers.{loose_some, loose_none}
use Rattle.gix_ref_store.proofs.file.store.Store.try_find_loose.Goals as goal

pub returns-in-Ok-Some-clause-found : goal.returns-in-Ok-Some-clause-found
returns-in-Ok-Some-clause-found g c h =
    let found = rw c.in-Ok-Some.field-0-is at (c.in-Ok-Some.ensures.found h [] refl) in
    loose_some (hit_in g.F.Files.means false c.args.self.now [] (partial_ref_bytes c.args.partial)) c.in-Ok-Some.reference c.from.result found c.from.ensures.0 c.from.ensures.1

pub returns-in-Ok-None-clause-found : goal.returns-in-Ok-None-clause-found
returns-in-Ok-None-clause-found g c h =
    let found = rw c.in-Ok-None.field-0-is at (c.in-Ok-None.ensures.found h [] refl) in
    loose_none (hit_in g.F.Files.means false c.args.self.now [] (partial_ref_bytes c.args.partial)) found

pub returns-clause-found : goal.returns-clause-found
returns-clause-found g c h = c.in-Err.ensures.found h [] refl

pub returns-in-Ok-None-clause-missing : goal.returns-in-Ok-None-clause-missing
returns-in-Ok-None-clause-missing g c h = rw c.in-Ok-None.field-0-is at (c.in-Ok-None.ensures.seen h tt)
