use Rattle.std.proofs.Common.{◌≡◌, ◌∙◌, inl, inr, [], ap, refl, sym, Ok, Err, arith, eqb-true, length, vec_len}
use Rattle.gix_ref_packed.specs.OpenFiles.{HasReadFault}
use Rattle.gix_ref_store.specs.Store.{files_of}
use Rattle.gix_ref_transaction.specs.OwnLocks.{paths_of}
use Rattle.gix_ref_pack.proofs.PackedStores.{no_items, packs_are_lost, packs_leave, packs_stop}
use Rattle.gix_ref_pack.proofs.pack.pack_refs.Goals as goal

pub returns-then-is_empty-clause-packs : goal.returns-then-is_empty-clause-packs
returns-then-is_empty-clause-packs g c =
    let F = g.F.Files in
    let plans = c.in-Ok.ensures.plans in
    let long : vec_len c.in-Ok.plan.edits ≡ length c.in-Ok.plan.edits.items = omega arith in
    let none : c.in-Ok.plan.edits.items ≡ [] = no_items c.in-Ok.plan.edits.items (sym long ∙ eqb-true (vec_len c.in-Ok.plan.edits) 0 (sym c.is_empty.ensures ∙ c.if-is_empty.true)) in
    inl (record {
      mid = c.planned.new.store;
      plan = c.in-Ok.plan;
      planned = plans;
      ends = inr (none, refl, refl, ap paths_of c.new.ensures.items);
    })

pub returns-then-is_empty-clause-losses : goal.returns-then-is_empty-clause-losses
returns-then-is_empty-clause-losses g c h good composed rests =
    let F = g.F.Files in
    let old = c.args.store.now in
    packs_are_lost F.honest F.means F.faults (HasReadFault g.F.Reader.ReadAt.faults) c.args.is_all c.args.prune c.args.objects old c.planned.new.store (record { result = Ok 0; broken = c.planned.new.broken; locks_left = c.new.result }) h good composed rests
    (returns-then-is_empty-clause-packs g c) (λ D found. g.met.F.Files.only_disk (files_of old) D h found)

pub returns-else-is_empty-clause-packs : goal.returns-else-is_empty-clause-packs
returns-else-is_empty-clause-packs g c =
    let F = g.F.Files in
    let plans = c.in-Ok.ensures.plans in
    inl (record {
      mid = c.planned.new.store;
      plan = c.in-Ok.plan;
      planned = rw c.put.ensures.broken plans;
      ends = inl c.put.ensures.ends;
    })

pub returns-else-is_empty-clause-stays : goal.returns-else-is_empty-clause-stays
returns-else-is_empty-clause-stays g c h good composed =
    let F = g.F.Files in
    (packs_leave F.honest F.means F.faults (HasReadFault g.F.Reader.ReadAt.faults) c.args.is_all c.args.prune c.args.objects c.args.store.now c.put.new.store c.put.result h good composed (returns-else-is_empty-clause-packs g c)).tree

pub returns-else-is_empty-clause-stops : goal.returns-else-is_empty-clause-stops
returns-else-is_empty-clause-stops g c h good composed =
    let F = g.F.Files in
    let old = c.args.store.now in
    packs_stop F.honest F.means F.faults (HasReadFault g.F.Reader.ReadAt.faults) c.args.is_all c.args.prune c.args.objects old c.put.new.store c.put.result h good composed
    (returns-else-is_empty-clause-packs g c) (λ T left. g.met.F.Files.only_now (files_of old) T h left)

pub returns-else-is_empty-clause-losses : goal.returns-else-is_empty-clause-losses
returns-else-is_empty-clause-losses g c h good composed rests =
    let F = g.F.Files in
    let old = c.args.store.now in
    packs_are_lost F.honest F.means F.faults (HasReadFault g.F.Reader.ReadAt.faults) c.args.is_all c.args.prune c.args.objects old c.put.new.store c.put.result h good composed rests
    (returns-else-is_empty-clause-packs g c) (λ D found. g.met.F.Files.only_disk (files_of old) D h found)

pub returns-in-Err-clause-losses : goal.returns-in-Err-clause-losses
returns-in-Err-clause-losses g c h good composed rests =
    let F = g.F.Files in
    let old = c.args.store.now in
    packs_are_lost F.honest F.means F.faults (HasReadFault g.F.Reader.ReadAt.faults) c.args.is_all c.args.prune c.args.objects old c.planned.new.store
    (record { result = Err c.in-Err.error; broken = c.planned.new.broken; locks_left = c.new-in-Err.result }) h good composed rests
    (inr (record { error = c.in-Err.error; is = refl; why = c.in-Err.ensures.plans; looked = c.planned.ensures.looks; left = ap paths_of c.new-in-Err.ensures.items }))
    (λ D found. g.met.F.Files.only_disk (files_of old) D h found)
