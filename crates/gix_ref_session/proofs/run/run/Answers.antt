use Rattle.std.proofs.Common.{rules, ◌≡◌, inl}
use Rattle.gix_ref_store.specs.Store.{files_of}
use Rattle.gix_ref_session.proofs.run.run.Goals as goal

pub returns-in-Ok : goal.returns-in-Ok
returns-in-Ok g c =
    let after : files_of c.serve-result.new.store ≡ c.into_files.result = search rules in
    inl (record { old = c.in-Ok.store; new = c.serve-result.new.store; opened = c.in-Ok.ensures; after_is = after; serves = c.serve-result.ensures })
