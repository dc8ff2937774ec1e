use Rattle.std.proofs.Common.{subst}
use Rattle.gix_ref_files.specs.declared.files.Entry.{Entry}
use Rattle.gix_ref_commit.specs.internal.Walks.{AddsFolder}
use Rattle.gix_ref_transaction.specs.OwnLocks.{paths_of}
use Rattle.gix_ref_commit.proofs.Walking.{more_then}
use Rattle.gix_ref_commit.proofs.Whole.{adds_end, adds_more}
use Rattle.gix_ref_commit.proofs.folders.add_entries.Goals as goal

pub returns-in_err-add_entry-clause-more : goal.returns-in_err-add_entry-clause-more
returns-in_err-add_entry-clause-more c =
    more_then c.args.dirs.now c.args.folder.now (paths_of c.args.found.now.items) (paths_of c.loop-entry.found.items) (paths_of c.add_entry.new.found.items) c.loop-entry.invariant.more c.add_entry.ensures.more

pub returns-then-not-branch-clause-more : goal.returns-then-not-branch-clause-more
returns-then-not-branch-clause-more c =
    more_then c.args.dirs.now c.args.folder.now (paths_of c.args.found.now.items) (paths_of c.loop-entry.found.items) (paths_of c.add_entry.new.found.items) c.loop-entry.invariant.more c.add_entry.ensures.more

pub loop-entry-preserved : goal.loop-entry-preserved
loop-entry-preserved c = record {
  more = more_then c.args.dirs.now c.args.folder.now (paths_of c.args.found.now.items) (paths_of c.loop-entry.found.items) (paths_of c.add_entry.new.found.items) c.loop-entry.invariant.more c.add_entry.ensures.more;
  adds = adds_more c.args.folder.now c.args.entries.now c.loop-entry.entry-index c.entry-item.result (paths_of c.args.found.now.items) (paths_of c.loop-entry.found.items) (paths_of c.add_entry.new.found.items) c.loop-entry-test.true c.loop-entry.invariant.adds
      (subst (λ (e : Entry). AddsFolder c.args.folder.now e (paths_of c.loop-entry.found.items) (paths_of c.add_entry.new.found.items)) c.entry-item.is (c.in_ok-add_entry.ensures.adds c.if-not-branch.false));
}

pub returns-clause-adds : goal.returns-clause-adds
returns-clause-adds c all = adds_end c.args.folder.now c.args.entries.now c.loop-entry.entry-index (paths_of c.args.found.now.items) (paths_of c.loop-entry.found.items) c.loop-entry-test.false c.loop-entry.invariant.adds
