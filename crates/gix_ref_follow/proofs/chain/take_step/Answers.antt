use Rattle.std.proofs.Common.{◌≡◌, ℕ, List, Some, Ok, Err, sym, subst, refl}
use Rattle.std.specs.Prelude.{IfErr}
use Rattle.gix_ref_name.specs.Names.{full_bytes}
use Rattle.gix_ref_target.specs.Targets.{target_value}
use Rattle.gix_ref_packed_text.specs.declared.raw.Reference.{Reference}
use Rattle.gix_ref_lookup.proofs.Opening.{if_err}
use Rattle.gix_ref_lookup.specs.declared.find.existing.Error.{Error as Missing}
use Rattle.gix_ref_store.specs.Lookup.{IfNotFound, MissesBy, MissesIn, SeesExisting, SeesNothing}
use Rattle.gix_ref_store.specs.Store.{meaning_of}
use Rattle.gix_ref_follow.specs.Following.{at_of, IsStep}
use Rattle.gix_ref_follow.specs.Followed.{bytes_of_names, finds_in, HitsNext}
use Rattle.gix_ref_follow.proofs.Stores.{no_step_back}
use Rattle.gix_ref_follow.proofs.Steps.{is_step, on_ok, refuses_find, refuses_return, step_of}
use Rattle.gix_ref_follow.proofs.chain.take_step.Goals as goal

pub returns-in-Some-Ok-clause-moved : goal.returns-in-Some-Ok-clause-moved
returns-in-Some-Ok-clause-moved g c h records are =
    let old = c.args.reference.now in
    let next = c.in-Some-Ok.next in
    let find = finds_in g.F.Files.means c.args.asks_records c.args.store.now records in
    let step = is_step find (MissesBy g.F.Files.means c.args.asks_records c.args.store.now records) old next (target_value old.target) refl (rw c.in-Some-Ok.field-0-is at (c.in-Some-Ok.ensures.found h records are)) in
    on_ok c.arrive.result (λ same. subst (λ (r : Reference). IsStep find (at_of old) (at_of r)) (sym same) step) c.arrive.ensures.moved

pub returns-in-Some-Ok-clause-refused : goal.returns-in-Some-Ok-clause-refused
returns-in-Some-Ok-clause-refused g c h records are =
    let old = c.args.reference.now in
    let next = c.in-Some-Ok.next in
    let find = finds_in g.F.Files.means c.args.asks_records c.args.store.now records in
    let step = is_step find (MissesBy g.F.Files.means c.args.asks_records c.args.store.now records) old next (target_value old.target) refl (rw c.in-Some-Ok.field-0-is at (c.in-Some-Ok.ensures.found h records are)) in
    if_err c.arrive.result
    (λ error is. refuses_return find (bytes_of_names c.args.reached.now.items) (at_of old) (at_of next) ((meaning_of c.find_next.new.store).place (full_bytes old.name)) error step is) c.arrive.ensures.refused

pub returns-in-Some-Err-clause-refused : goal.returns-in-Some-Err-clause-refused
returns-in-Some-Err-clause-refused g c h records are =
    let old = c.args.reference.now in
    let error = c.in-Some-Err.error in
    let Bound : List ℕ → Missing → Type 0 = λ name e. MissesIn {R = g.row.F-Reader.Denot} {G = g.F.Reader.ReadAt} g.F.Files.honest g.F.Files.means g.F.Files.faults c.args.asks_records c.args.store.now c.find_next.new.store c.args.asked.now name e in
    refuses_find (finds_in g.F.Files.means c.args.asks_records c.args.store.now records) (bytes_of_names c.args.reached.now.items) (at_of old) (target_value old.target)
    (MissesBy g.F.Files.means c.args.asks_records c.args.store.now records) Bound error refl (λ name n is. is) (λ name n is. is) (λ name e is. is)
    (rw c.in-Some-Err.field-0-is at (c.in-Some-Err.ensures.found h records are)) (rw c.in-Some-Err.field-0-is at c.in-Some-Err.ensures.failed)

pub returns-in-Some-Err-clause-failed : goal.returns-in-Some-Err-clause-failed
returns-in-Some-Err-clause-failed g c =
    let F = g.F.Files in
    let target = target_value c.args.reference.now.target in
    let error = c.in-Some-Err.error in
    let fails = step_of target
    (λ name r. IfErr r (λ e. MissesIn {R = g.row.F-Reader.Denot} {G = g.F.Reader.ReadAt} F.honest F.means F.faults c.args.asks_records c.args.store.now c.find_next.new.store c.args.asked.now name e))
    (Err error) (rw c.in-Some-Err.field-0-is at c.in-Some-Err.ensures.failed) in (
      fails.0,
      fails.1,
      fails.2,
      λ h honest.
          let seen = step_of target (λ name r. SeesExisting {R = g.row.F-Reader.Denot} {G = g.F.Reader.ReadAt} F.means c.args.asks_records c.args.store.now c.args.asked.now name r)
          (Err error) (rw c.in-Some-Err.field-0-is at (c.in-Some-Err.ensures.hit h honest)) in
          let same : seen.0 ≡ fails.0 = cc (seen.1, fails.1) in
          subst (λ name. IfNotFound error (SeesNothing {R = g.row.F-Reader.Denot} {G = g.F.Reader.ReadAt} F.means c.args.asks_records c.args.store.now c.args.asked.now name)) same seen.2,
    )

pub returns-in-Some-Ok-clause-hit : goal.returns-in-Some-Ok-clause-hit
returns-in-Some-Ok-clause-hit g c h honest =
    let F = g.F.Files in
    let old = c.args.reference.now in
    let next = c.in-Some-Ok.next in
    let hit = step_of (target_value old.target) (λ name r. SeesExisting {R = g.row.F-Reader.Denot} {G = g.F.Reader.ReadAt} F.means c.args.asks_records c.args.store.now c.args.asked.now name r) (Ok next) (rw c.in-Some-Ok.field-0-is at (c.in-Some-Ok.ensures.hit h honest)) in
    on_ok c.arrive.result (λ same. subst (λ (r : Reference). HitsNext {R = g.row.F-Reader.Denot} {G = g.F.Reader.ReadAt} F.means c.args.asks_records c.args.store.now c.args.asked.now old r) (sym same) hit) c.arrive.ensures.moved

pub returns-in-Some-Ok-clause-failed : goal.returns-in-Some-Ok-clause-failed
returns-in-Some-Ok-clause-failed g c =
    let F = g.F.Files in
    let old = c.args.reference.now in
    let next = c.in-Some-Ok.next in
    let first = c.args.store.now in
    let mid = c.find_next.new.store in
    let reached = bytes_of_names c.args.reached.now.items in
    if_err c.arrive.result
    (λ error is. no_step_back {R = g.row.F-Reader.Denot} {G = g.F.Reader.ReadAt} F.honest F.means F.faults c.args.asks_records first mid mid c.args.asked.now c.find_next.ensures.unchanged.same reached old next error
    (λ h honest.
    step_of (target_value old.target) (λ name r. SeesExisting {R = g.row.F-Reader.Denot} {G = g.F.Reader.ReadAt} F.means c.args.asks_records first c.args.asked.now name r) (Ok next) (rw c.in-Some-Ok.field-0-is at (c.in-Some-Ok.ensures.hit h honest)))
    is) c.arrive.ensures.refused
