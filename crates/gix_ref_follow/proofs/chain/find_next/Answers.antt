use Rattle.std.proofs.Common.{◌≡◌, ◌∙◌, Some, MatchResult, subst}
use Rattle.gix_ref_name.specs.Names.{partial_ref_bytes, full_bytes}
use Rattle.gix_ref_lookup.proofs.Opening.{err_of, on_ok_of}
use Rattle.gix_ref_store.specs.Lookup.{FindsBy, MissesBy, MissesIn, SeesExisting}
use Rattle.gix_ref_follow.proofs.Steps.{err_named, on_step}
use Rattle.gix_ref_store.specs.Store.{files_of}
use Rattle.gix_ref_follow.proofs.chain.find_next.Goals as goal

pub returns-in-Symbolic-clause-found : goal.returns-in-Symbolic-clause-found
returns-in-Symbolic-clause-found g c h records are =
    rw c.in-Symbolic.is
    (subst (λ name. MatchResult c.find_existing_among.result (λ next. FindsBy g.F.Files.means c.args.asks_records c.args.store.now records name (Some next)) (MissesBy g.F.Files.means c.args.asks_records c.args.store.now records name))
    (c.as_partial_name.ensures ∙ c.as_ref.ensures) (c.find_existing_among.ensures.found h records are))

pub returns-in-Symbolic-clause-hit : goal.returns-in-Symbolic-clause-hit
returns-in-Symbolic-clause-hit g c h honest =
    rw c.in-Symbolic.is
    (subst (λ name. SeesExisting {R = g.row.F-Reader.Denot} {G = g.F.Reader.ReadAt} g.F.Files.means c.args.asks_records c.args.store.now c.args.asked.now name c.find_existing_among.result)
    (c.as_partial_name.ensures ∙ c.as_ref.ensures) (c.find_existing_among.ensures.seen h honest))

pub returns-in-Symbolic-clause-failed : goal.returns-in-Symbolic-clause-failed
returns-in-Symbolic-clause-failed g c =
    rw c.in-Symbolic.is
    (err_named (λ name error. MissesIn {R = g.row.F-Reader.Denot} {G = g.F.Reader.ReadAt} g.F.Files.honest g.F.Files.means g.F.Files.faults c.args.asks_records c.args.store.now c.find_existing_among.new.self c.args.asked.now name error)
    (partial_ref_bytes c.as_partial_name.result) (full_bytes c.in-Symbolic.name) c.find_existing_among.result (c.as_partial_name.ensures ∙ c.as_ref.ensures) (err_of _ _ c.find_existing_among.result c.find_existing_among.ensures.failed))

pub returns-in-Symbolic-clause-no_fault : goal.returns-in-Symbolic-clause-no_fault
returns-in-Symbolic-clause-no_fault g c =
    let Same : Type 0 = g.F.Files.faults (files_of c.find_existing_among.new.self) ≡ g.F.Files.faults (files_of c.args.store.now) in
    on_step Same c.find_existing_among.result (on_ok_of Same _ c.find_existing_among.result c.find_existing_among.ensures.failed)
