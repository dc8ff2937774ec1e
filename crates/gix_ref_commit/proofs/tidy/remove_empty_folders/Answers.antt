use Rattle.std.proofs.Common.{◌∙◌, ℕ, Vec, ap}
use Rattle.gix_ref_files.proofs.Meeting.{no_fewer_starts, no_fewer_joins}
use Rattle.std.specs.declared.alloc.Global.{Global}
use Rattle.gix_ref_files.proofs.Moments.{weaken}
use Rattle.gix_ref_transaction.specs.OwnLocks.{paths_of}
use Rattle.gix_ref_commit.proofs.LostFolders.{passes_losing, starts_losing}
use Rattle.gix_ref_commit.proofs.Tidying.{go_among, leaves_starts, leaves_then, only_starts, only_then}
use Rattle.gix_ref_commit.proofs.tidy.remove_empty_folders.Goals as goal

pub loop-path-init : goal.loop-path-init
loop-path-init g c =
    let now = g.F.Files.means c.args.files.now in
    record {
      leaves = λ h. leaves_starts c.args.dirs.now (paths_of c.args.paths.now) now;
      passes = λ h. only_starts c.args.dirs.now now;
      loses = λ h. starts_losing now;
      no_fewer = no_fewer_starts _;
    }

pub loop-path-preserved : goal.loop-path-preserved
loop-path-preserved g c =
    let x = c.loop-path.invariant in
    let e = c.remove_above_next.ensures in
    let old = g.F.Files.means c.args.files.now in
    let mid = g.F.Files.means c.loop-path.files in
    let new = g.F.Files.means c.remove_above_next.new.files in
    record {
      leaves = λ h. leaves_then c.args.dirs.now (paths_of c.args.paths.now) old mid new (x.leaves h)
          (weaken (e.leaves h) (λ T goes. go_among c.args.dirs.now c.args.paths.now c.loop-path.path-index c.path-item.result c.deref.result.now mid.tree T c.loop-path-test.true (c.deref.ensures.value ∙ ap (λ (v : Vec ℕ Global). v.items) c.path-item.is) goes));
      passes = λ h. only_then c.args.dirs.now old mid new (x.passes h) (e.passes h);
      loses = λ h. passes_losing old mid new (x.loses h) (e.loses h);
      no_fewer = no_fewer_joins x.no_fewer e.no_fewer;
    }
