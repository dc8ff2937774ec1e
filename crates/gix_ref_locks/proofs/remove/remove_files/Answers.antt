use Rattle.std.proofs.Common.{refl, subst}
use Rattle.gix_ref_files.proofs.Meeting.{no_fewer_starts, no_fewer_joins, fewer_same}
use Rattle.gix_ref_files.proofs.Moments.{starts}
use Rattle.gix_ref_files.specs.Files.{Leaves}
use Rattle.gix_ref_files.specs.Calls.{RemovesFile, RemovingFile}
use Rattle.gix_ref_locks.proofs.Removing.{one_more_gone, one_more_going, run_on}
use Rattle.gix_ref_locks.proofs.remove.remove_files.Goals as goal

pub loop-at-init : goal.loop-at-init
loop-at-init g c =
    let first = g.F.Files.means c.args.files.now in
    record {
      tree = λ h. refl;
      leaves = λ h. starts first _ (0, refl);
      no_fewer = no_fewer_starts _;
    }

pub loop-at-preserved : goal.loop-at-preserved
loop-at-preserved g c =
    let F = g.F.Files in
    let first = F.means c.args.files.now in
    let mid = F.means c.loop-at.files in
    let now = F.means c.remove_file.new.self in
    let paths = c.args.paths.now in
    let i = c.loop-at.at in
    let p = c.index-paths-at.result in
    let before = c.loop-at.invariant in
    record {
      tree = λ h. one_more_gone first.tree paths i p c.loop-at-test.true c.index-paths-at.is mid.tree (before.tree h) now.tree c.in_default.field-0 (subst (λ q. RemovesFile mid.tree q now.tree c.in_default.field-0) c.deref.ensures.value (c.in_default.ensures.answer h));
      leaves = λ h. run_on first mid now paths i p c.loop-at-test.true c.index-paths-at.is (before.tree h) (before.leaves h) (subst (λ q. Leaves mid now (RemovingFile mid.tree q)) c.deref.ensures.value (c.remove_file.ensures.leaves h));
      no_fewer = no_fewer_joins before.no_fewer (fewer_same _ _ c.in_default.ensures.count.0);
    }

pub returns-in-Err-clause-ended : goal.returns-in-Err-clause-ended
returns-in-Err-clause-ended g c h =
    let F = g.F.Files in
    let first = F.means c.args.files.now in
    let mid = F.means c.loop-at.files in
    let now = F.means c.remove_file.new.self in
    let p = c.index-paths-at.result in
    one_more_going first.tree c.args.paths.now c.loop-at.at p c.loop-at-test.true c.index-paths-at.is mid.tree (c.loop-at.invariant.tree h) now.tree
    (subst (λ q. RemovingFile mid.tree q now.tree) c.deref.ensures.value (c.remove_file.ensures.leaves h).tree)

pub returns-in-Err-clause-leaves : goal.returns-in-Err-clause-leaves
returns-in-Err-clause-leaves g c h =
    let F = g.F.Files in
    let first = F.means c.args.files.now in
    let mid = F.means c.loop-at.files in
    let now = F.means c.remove_file.new.self in
    let p = c.index-paths-at.result in
    run_on first mid now c.args.paths.now c.loop-at.at p c.loop-at-test.true c.index-paths-at.is (c.loop-at.invariant.tree h) (c.loop-at.invariant.leaves h) (subst (λ q. Leaves mid now (RemovingFile mid.tree q)) c.deref.ensures.value (c.remove_file.ensures.leaves h))
