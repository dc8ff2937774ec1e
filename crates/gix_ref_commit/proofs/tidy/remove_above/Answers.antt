use Rattle.std.proofs.Common.{arith, ◌∷◌, []}
use Rattle.gix_ref_files.proofs.Meeting.{no_fewer_starts, no_fewer_joins}
use Rattle.gix_ref_commit.proofs.LostFolders.{passes_losing, starts_losing}
use Rattle.gix_ref_commit.proofs.Tidying.{leaves_starts, leaves_then, only_starts, only_then}
use Rattle.gix_ref_commit.proofs.tidy.remove_above.Goals as goal

pub loop-end-init : goal.loop-end-init
loop-end-init g c =
    let now = g.F.Files.means c.args.files.now in
    record {
      leaves = λ h. leaves_starts c.args.dirs.now (c.args.path.now ∷ []) now;
      passes = λ h. only_starts c.args.dirs.now now;
      loses = λ h. starts_losing now;
      no_fewer = no_fewer_starts _;
      end = omega arith;
    }

pub returns-then-not-remove_at-clause-passes : goal.returns-then-not-remove_at-clause-passes
returns-then-not-remove_at-clause-passes g c h =
    only_then c.args.dirs.now (g.F.Files.means c.args.files.now) (g.F.Files.means c.loop-end.files) (g.F.Files.means c.remove_at.new.files) (c.loop-end.invariant.passes h) (c.remove_at.ensures.passes h)

pub returns-then-not-remove_at-clause-leaves : goal.returns-then-not-remove_at-clause-leaves
returns-then-not-remove_at-clause-leaves g c h =
    leaves_then c.args.dirs.now (c.args.path.now ∷ []) (g.F.Files.means c.args.files.now) (g.F.Files.means c.loop-end.files) (g.F.Files.means c.remove_at.new.files) (c.loop-end.invariant.leaves h) (c.remove_at.ensures.leaves h)

pub returns-then-not-remove_at-clause-loses : goal.returns-then-not-remove_at-clause-loses
returns-then-not-remove_at-clause-loses g c h =
    passes_losing (g.F.Files.means c.args.files.now) (g.F.Files.means c.loop-end.files) (g.F.Files.means c.remove_at.new.files) (c.loop-end.invariant.loses h) (c.remove_at.ensures.loses h)

pub loop-end-preserved : goal.loop-end-preserved
loop-end-preserved g c =
    let x = c.loop-end.invariant in
    let e = c.remove_at.ensures in
    let old = g.F.Files.means c.args.files.now in
    let mid = g.F.Files.means c.loop-end.files in
    let new = g.F.Files.means c.remove_at.new.files in
    record {
      leaves = λ h. leaves_then c.args.dirs.now (c.args.path.now ∷ []) old mid new (x.leaves h) (e.leaves h);
      passes = λ h. only_then c.args.dirs.now old mid new (x.passes h) (e.passes h);
      loses = λ h. passes_losing old mid new (x.loses h) (e.loses h);
      no_fewer = no_fewer_joins x.no_fewer e.no_fewer;
      end = omega (arith, x.end, c.loop-end-test.true);
    }
