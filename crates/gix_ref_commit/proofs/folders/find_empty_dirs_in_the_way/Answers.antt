use Rattle.gix_ref_files.proofs.ReadOnly.{reads_more}
use Rattle.gix_ref_commit.proofs.Walking.{fails_at, way_next}
use Rattle.gix_ref_commit.proofs.folders.find_empty_dirs_in_the_way.Goals as goal

pub returns-in-Err-clause-failed : goal.returns-in-Err-clause-failed
returns-in-Err-clause-failed g c =
    fails_at c.args.plan.now c.loop-planned.planned-index (g.F.Files.faults c.args.files.now) (g.F.Files.faults c.loop-planned.files) (g.F.Files.faults c.empty_dirs_before.new.files) _ c.in-Err.unfinished
    c.loop-planned-test.true c.loop-planned.invariant.reads.no_fewer c.in-Err.ensures.failed

pub loop-planned-preserved : goal.loop-planned-preserved
loop-planned-preserved g c =
    let x = c.loop-planned.invariant in
    let e = c.empty_dirs_before.ensures in
    record {
      in_way = λ h. way_next c.args.edits.now c.args.dirs.now (g.F.Files.means c.args.files.now).tree (g.F.Files.means c.loop-planned.files).tree c.loop-planned.ways.items c.push.new.self.items c.args.plan.now c.loop-planned.planned-index _ c.in-Ok-empty_dirs_before.way c.loop-planned-test.true
          c.in-Ok-push.ensures.items (x.reads.leaves h).tree (x.in_way h) (c.in-Ok-empty_dirs_before.ensures.in_way h);
      reads = reads_more _ _ _ _ _ _ x.reads e.reads;
    }
