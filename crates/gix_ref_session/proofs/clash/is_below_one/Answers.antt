use Rattle.std.proofs.Common.{true, false, subst}
use Rattle.gix_ref_queries.specs.Resolving.{targets_in}
use Rattle.gix_ref_queries.proofs.Names.{same_records}
use Rattle.gix_ref_session.specs.Clashes.{IsFindFailure, IsFolderUnread, IsTakenAt, SeesTakenAt}
use Rattle.gix_ref_session.proofs.ClashLemmas.{find_map, folder_still, not_when, taken_after, taken_before, told}
use Rattle.gix_ref_session.proofs.FolderLemmas.{none_at_all, none_here}
use Rattle.gix_ref_session.proofs.Looking.{looks_on}
use Rattle.gix_ref_session.proofs.SeenClashes.{free_at_all, free_here, taken_before as sees_taken_before}
use Rattle.gix_ref_session.proofs.clash.is_below_one.Goals as goal

pub loop-at-preserved : goal.loop-at-preserved
loop-at-preserved g c =
    let F = g.F.Files in
    let first = c.args.store.now in
    let mid = c.loop-at.store in
    let name = c.args.name.now in
    let at = c.loop-at.at in
    let looked = c.loop-at.invariant.looked in
    record {
      looked = looks_on F.honest F.means first mid c.is_folder_taken.new.store looked c.is_folder_taken.ensures.unchanged;
      none = λ h records are edits names free.
          none_here (targets_in F.means first records) edits name at (c.loop-at.invariant.none h records are edits names free)
          (λ has. not_when c.in_ok-is_folder_taken.field-0 (IsTakenAt (targets_in F.means mid records) edits at name) (c.in_ok-is_folder_taken.ensures.taken h records (same_records F.honest F.means first mid records looked h are) edits names) c.if-branch.false
          (has.0, has.1, taken_after F.honest F.means first mid looked records edits has.0 h has.2));
      seen = λ h edits names free.
          let none = subst (SeesTakenAt F.means mid edits at name) c.if-branch.false (c.in_ok-is_folder_taken.ensures.seen h edits names) in
          free_here F.means first edits name at (c.loop-at.invariant.seen h edits names free) (λ folder here. sees_taken_before F.honest F.means F.faults first mid looked h edits folder false (none folder here));
    }

pub returns-then-branch-clause-below : goal.returns-then-branch-clause-below
returns-then-branch-clause-below g c h records are edits names is =
    let F = g.F.Files in
    let first = c.args.store.now in
    let mid = c.loop-at.store in
    let looked = c.loop-at.invariant.looked in
    let has = (c.in_ok-is_folder_taken.ensures.taken h records (same_records F.honest F.means first mid records looked h are) edits names).0 c.if-branch.true in
    (has.0, has.1.0, taken_before F.honest F.means first mid looked records edits has.0 h has.2)

pub returns-clause-free : goal.returns-clause-free
returns-clause-free g c h records are edits names free is =
    none_at_all (targets_in g.F.Files.means c.args.store.now records) edits c.args.name.now c.loop-at.at c.loop-at-test.false (c.loop-at.invariant.none h records are edits names free)

pub returns-in_err-is_folder_taken-clause-fails : goal.returns-in_err-is_folder_taken-clause-fails
returns-in_err-is_folder_taken-clause-fails g c =
    let F = g.F.Files in
    let G = g.F.Reader.ReadAt in
    let first = c.args.store.now in
    let fatal = c.in_err-is_folder_taken.field-0.0 in
    told c.from_residual.result fatal (IsFindFailure (IsFolderUnread F.honest F.means F.faults G first c.args.name.now)) c.from_residual.ensures.1
    (find_map (folder_still F.honest F.means first c.loop-at.store c.loop-at.invariant.looked F.faults G c.args.name.now) fatal c.in_err-is_folder_taken.ensures.fails)

pub returns-then-branch-clause-seen : goal.returns-then-branch-clause-seen
returns-then-branch-clause-seen g c h edits names =
    let F = g.F.Files in
    let mid = c.loop-at.store in
    let has = subst (SeesTakenAt F.means mid edits c.loop-at.at c.args.name.now) c.if-branch.true (c.in_ok-is_folder_taken.ensures.seen h edits names) in
    (has.0, has.1.0, sees_taken_before F.honest F.means F.faults c.args.store.now mid c.loop-at.invariant.looked h edits has.0 true has.2)

pub returns-clause-seen : goal.returns-clause-seen
returns-clause-seen g c h edits names free =
    free_at_all g.F.Files.means c.args.store.now edits c.args.name.now c.loop-at.at c.loop-at-test.false (c.loop-at.invariant.seen h edits names free)
