use Rattle.std.proofs.Common.{inl, inr, refl, sym, subst, ap, map, IfSome}
use Rattle.gix_ref_files.proofs.Moments.{loses_weaken, weaken}
use Rattle.gix_ref_packed.specs.OpenFiles.{HasReadFault}
use Rattle.gix_ref_store.specs.Store.{files_of}
use Rattle.gix_ref_transaction.specs.OwnLocks.{paths_of}
use Rattle.gix_ref_program.specs.Updates.{IsUpdateError}
use Rattle.gix_ref_program.specs.Words.{command_asked}
use Rattle.gix_ref_program.specs.Writes.{IsWriteLoss, WriteComes, terms_in}
use Rattle.gix_ref_program.specs.declared.outcome.Outcome.{Outcome}
use Rattle.gix_ref_program.proofs.Writing.{keeps_all}
use Rattle.gix_ref_program.proofs.transact.transact.Goals as goal
use Rattle.gix_ref_program.proofs.transact.transact.Goals.{in-None, in-Some}

pub returns-in-Err-clause-outcome : goal.returns-in-Err-clause-outcome
returns-in-Err-clause-outcome g c =
    let F = g.F.Files in
    let terms = terms_in c.args.terms.now c.args.packed_refs in
    let asked = map command_asked c.args.commands.now in
    let old = c.args.store.now in
    let refused = c.refused.ensures in
    subst (λ (o : Outcome). WriteComes F.honest (HasReadFault g.F.Reader.ReadAt.faults) F.means F.faults terms asked old old o) (sym refused.1) (inl (c.in-Err.ensures, refl, ap paths_of refused.2))

pub returns-in-Err-clause-loses : goal.returns-in-Err-clause-loses
returns-in-Err-clause-loses g c h good rests =
    let F = g.F.Files in
    keeps_all F.means (files_of c.args.store.now) (IsWriteLoss F.honest F.means F.faults (terms_in c.args.terms.now c.args.packed_refs) (map command_asked c.args.commands.now) c.args.store.now) (λ T is. inl is)

pub returns-clause-outcome : goal.returns-clause-outcome
returns-clause-outcome g c =
    let F = g.F.Files in
    let read = HasReadFault g.F.Reader.ReadAt.faults in
    let terms = terms_in c.args.terms.now c.args.packed_refs in
    let asked = map command_asked c.args.commands.now in
    let old = c.args.store.now in
    let new = c.update-error.new.store in
    let made = c.update-error.ensures in
    let left = c.update-error.result.locks_left in
    elim c.match-error.branch [
      | in-None w ↦
          subst (λ (o : Outcome). WriteComes F.honest read F.means F.faults terms asked old new o) (sym w.outcome-is)
          (record {
            edits = c.in-Ok.edits.items;
            are = c.in-Ok.ensures;
            made = made.done w.in-None.is;
            good = λ h. made.good h w.in-None.is;
            rests = λ h. made.settled h w.in-None.is;
            same = made.same;
          })
      | in-Some w ↦
          subst (λ (o : Outcome). WriteComes F.honest read F.means F.faults terms asked old new o) (sym w.outcome-is)
          (inr (
            c.in-Ok.edits.items,
            c.in-Ok.ensures,
            w.in-Some.error,
            refl,
            (subst (λ r. IfSome r (λ error. IsUpdateError F.honest F.means F.faults c.args.packed_refs read old new c.args.terms.now.committer c.in-Ok.edits.items error (paths_of left.items))) w.in-Some.is made.error),
          ))
    ]

pub returns-clause-leaves : goal.returns-clause-leaves
returns-clause-leaves g c h = weaken (c.update-error.ensures.leaves h) (λ T stop. inr (c.in-Ok.edits.items, c.in-Ok.ensures, stop))

pub returns-clause-loses : goal.returns-clause-loses
returns-clause-loses g c h good rests = loses_weaken (c.update-error.ensures.lost h good rests) (λ T loss. inr (c.in-Ok.edits.items, c.in-Ok.ensures, loss))
