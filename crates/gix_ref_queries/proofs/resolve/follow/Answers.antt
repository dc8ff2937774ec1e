use Rattle.std.proofs.Common.{◌≡◌, ◌+◌, ◌-◌, suc, ◌∙◌, ap, arith, subst, sym, refl, inl, inr, Option, Some, None, List, ℕ}
use Rattle.gix_ref_name.specs.Names.{full_bytes, full_ref_bytes}
use Rattle.gix_ref_target.specs.Targets.TargetValue.{object_id, symbolic_name}
use Rattle.gix_ref_target.specs.Targets.{TargetValue}
use Rattle.gix_ref_queries.specs.Resolving.{targets_in, resolved, IsOnWay, IsUnreadBy, SeesEnd, SeesOnWay, SeesTarget}
use Rattle.gix_ref_queries.specs.Resolving.NameEnd.{Reached, Missing, TooDeep}
use Rattle.gix_ref_queries.proofs.Names.{sees_before, step_end, way_on, same_finds, same_records, looks_up, unread_before}
use Rattle.gix_ref_queries.proofs.resolve.follow.Goals as goal

pub returns-in-Is-Object-clause-ends : goal.returns-in-Is-Object-clause-ends
returns-in-Is-Object-clause-ends g c h records are =
    let F = g.F.Files in
    let find = targets_in F.means c.args.store.now records in
    let mid = targets_in F.means c.loop.store records in
    let last = full_bytes c.loop.last in
    let looked = c.loop.invariant.unchanged in
    let one : 5 - c.loop.counter ≡ suc (4 - c.loop.counter) = omega arith in
    step_end find mid (4 - c.loop.counter) last (full_ref_bytes c.as_ref.result) (resolved find 5 (full_bytes c.args.name)) (Some (object_id c.in-Is-Object.id)) (c.loop.invariant.ends h records are ∙ ap (λ n. resolved find n last) one) (same_finds F.honest F.means c.args.store.now c.loop.store records looked h) c.as_ref.ensures (rw c.in-Is-Object.field-0-is at (c.in-Is-Object.ensures.reads h records (same_records F.honest F.means c.args.store.now c.loop.store records looked h are)))

pub returns-in-Absent-clause-ends : goal.returns-in-Absent-clause-ends
returns-in-Absent-clause-ends g c h records are =
    let F = g.F.Files in
    let find = targets_in F.means c.args.store.now records in
    let mid = targets_in F.means c.loop.store records in
    let last = full_bytes c.loop.last in
    let looked = c.loop.invariant.unchanged in
    let one : 5 - c.loop.counter ≡ suc (4 - c.loop.counter) = omega arith in
    step_end find mid (4 - c.loop.counter) last (full_ref_bytes c.as_ref.result) _ _ (c.loop.invariant.ends h records are ∙ ap (λ n. resolved find n last) one) (same_finds F.honest F.means c.args.store.now c.loop.store records looked h) c.as_ref.ensures (c.in-Absent.ensures.reads h records (same_records F.honest F.means c.args.store.now c.loop.store records looked h are))

pub returns-in-Is-Object-clause-seen : goal.returns-in-Is-Object-clause-seen
returns-in-Is-Object-clause-seen g c h =
    let F = g.F.Files in
    let G = g.F.Reader.ReadAt in
    let old = c.args.store.now in
    let last = full_bytes c.loop.last in
    let target = Some (object_id c.in-Is-Object.id) in
    let one : suc (4 - c.loop.counter) ≡ 5 - c.loop.counter = omega arith in
    c.loop.invariant.sees h (Reached last c.in-Is-Object.id)
    (subst (λ (n : ℕ). SeesEnd F.means old n last (Reached last c.in-Is-Object.id)) one (
      target,
      sees_before F.honest F.means old c.loop.store last target c.loop.invariant.unchanged h
          (subst (λ (n : List ℕ). SeesTarget F.means c.loop.store n target) c.as_ref.ensures (rw c.in-Is-Object.field-0-is at (c.in-Is-Object.ensures.seen h))),
      refl,
    ))

pub returns-in-Absent-clause-seen : goal.returns-in-Absent-clause-seen
returns-in-Absent-clause-seen g c h =
    let F = g.F.Files in
    let G = g.F.Reader.ReadAt in
    let old = c.args.store.now in
    let last = full_bytes c.loop.last in
    let none : Option TargetValue = None in
    let one : suc (4 - c.loop.counter) ≡ 5 - c.loop.counter = omega arith in
    c.loop.invariant.sees h (Missing last)
    (subst (λ (n : ℕ). SeesEnd F.means old n last (Missing last)) one (
      none,
      sees_before F.honest F.means old c.loop.store last none c.loop.invariant.unchanged h
          (subst (λ (n : List ℕ). SeesTarget F.means c.loop.store n none) c.as_ref.ensures (c.in-Absent.ensures.seen h)),
      refl,
    ))

pub returns-in-Unread-clause-seen : goal.returns-in-Unread-clause-seen
returns-in-Unread-clause-seen g c h =
    let last = full_bytes c.loop.last in
    let one : suc (4 - c.loop.counter) ≡ 5 - c.loop.counter = omega arith in
    c.loop.invariant.sees_way h last (subst (λ (n : ℕ). SeesOnWay g.F.Files.means c.args.store.now n last last) one (inl refl))

pub returns-in-Unread-clause-failed : goal.returns-in-Unread-clause-failed
returns-in-Unread-clause-failed g c =
    let F = g.F.Files in
    let G = g.F.Reader.ReadAt in
    let old = c.args.store.now in
    subst (λ (n : List ℕ). IsUnreadBy G F.honest F.means F.faults old n c.in-Unread.error) c.as_ref.ensures (unread_before G F.honest F.means F.faults old c.loop.store (full_ref_bytes c.as_ref.result) c.in-Unread.error c.loop.invariant.unchanged c.in-Unread.ensures.failed)

pub returns-in-Unread-clause-ends : goal.returns-in-Unread-clause-ends
returns-in-Unread-clause-ends g c h records are =
    let find = targets_in g.F.Files.means c.args.store.now records in
    let last = full_bytes c.loop.last in
    let one : suc (4 - c.loop.counter) ≡ 5 - c.loop.counter = omega arith in
    c.loop.invariant.on_way h records are last (subst (λ (n : ℕ). IsOnWay find n last last) one (inl refl))

pub loop-preserved : goal.loop-preserved
loop-preserved g c =
    let F = g.F.Files in
    let looked = c.loop.invariant.unchanged in
    let last = full_bytes c.loop.last in
    let next = full_bytes c.in-Is-Symbolic.next in
    let one : 5 - c.loop.counter ≡ suc (4 - c.loop.counter) = omega arith in
    let less : 4 - c.loop.counter ≡ 5 - (c.loop.counter + 1) = omega arith in
    record {
      ends = λ h records are.
          let find = targets_in F.means c.args.store.now records in
          let mid = targets_in F.means c.loop.store records in
          step_end find mid (4 - c.loop.counter) last (full_ref_bytes c.as_ref.result) (resolved find 5 (full_bytes c.args.name)) (Some (symbolic_name next)) (c.loop.invariant.ends h records are ∙ ap (λ n. resolved find n last) one) (same_finds F.honest F.means c.args.store.now c.loop.store records looked h) c.as_ref.ensures
          (rw c.in-Is-Symbolic.field-0-is at (c.in-Is-Symbolic.ensures.reads h records (same_records F.honest F.means c.args.store.now c.loop.store records looked h are)))
          ∙ ap (λ n. resolved find n next) less;
      on_way = λ h records are name way.
          let find = targets_in F.means c.args.store.now records in
          let mid = targets_in F.means c.loop.store records in
          c.loop.invariant.on_way h records are name
          (subst (λ (n : ℕ). IsOnWay find n last name) (sym one)
          (way_on find mid (4 - c.loop.counter) last (full_ref_bytes c.as_ref.result) next name (same_finds F.honest F.means c.args.store.now c.loop.store records looked h) c.as_ref.ensures
          (rw c.in-Is-Symbolic.field-0-is at (c.in-Is-Symbolic.ensures.reads h records (same_records F.honest F.means c.args.store.now c.loop.store records looked h are)))
          (subst (λ (n : ℕ). IsOnWay find n next name) (sym less) way)));
      sees = λ h end sees.
          c.loop.invariant.sees h end
          (subst (λ (n : ℕ). SeesEnd F.means c.args.store.now n last end) (sym one) (
            Some (symbolic_name next),
            (sees_before F.honest F.means c.args.store.now c.loop.store last (Some (symbolic_name next)) looked h
                (subst (λ (n : List ℕ). SeesTarget F.means c.loop.store n (Some (symbolic_name next))) c.as_ref.ensures (rw c.in-Is-Symbolic.field-0-is at (c.in-Is-Symbolic.ensures.seen h)))),
            subst (λ (n : ℕ). SeesEnd F.means c.args.store.now n next end) (sym less) sees,
          ));
      sees_way = λ h name way.
          c.loop.invariant.sees_way h name
          (subst (λ (n : ℕ). SeesOnWay F.means c.args.store.now n last name) (sym one)
          (inr (
            next,
            (sees_before F.honest F.means c.args.store.now c.loop.store last (Some (symbolic_name next)) looked h
                (subst (λ (n : List ℕ). SeesTarget F.means c.loop.store n (Some (symbolic_name next))) c.as_ref.ensures (rw c.in-Is-Symbolic.field-0-is at (c.in-Is-Symbolic.ensures.seen h)))),
            subst (λ (n : ℕ). SeesOnWay F.means c.args.store.now n next name) (sym less) way,
          )));
      no_fault = rw c.in-Is-Symbolic.is at c.read_name.ensures.no_fault ∙ c.loop.invariant.no_fault;
      unchanged = looks_up F.honest F.means c.args.store.now c.loop.store c.read_name.new.store looked c.read_name.ensures.unchanged;
    }

pub returns-clause-seen : goal.returns-clause-seen
returns-clause-seen g c h =
    let last = full_bytes c.loop.last in
    let none : 0 ≡ 5 - c.loop.counter = omega arith in
    c.loop.invariant.sees h TooDeep (subst (λ (n : ℕ). SeesEnd g.F.Files.means c.args.store.now n last TooDeep) none refl)

pub returns-clause-ends : goal.returns-clause-ends
returns-clause-ends g c h records are =
    let none : 5 - c.loop.counter ≡ 0 = omega arith in
    c.loop.invariant.ends h records are ∙ ap (λ n. resolved (targets_in g.F.Files.means c.args.store.now records) n (full_bytes c.loop.last)) none
