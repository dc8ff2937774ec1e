use Rattle.std.proofs.Common.{List, subst}
use Rattle.gix_ref_commit.specs.Entries.{Entry}
use Rattle.gix_ref_commit.specs.internal.Walks.{FailsToList}
use Rattle.gix_ref_commit.proofs.Unlisted.{all_write, of_listing}
use Rattle.gix_ref_commit.proofs.decide.decide_folders.Goals as goal

pub unlisted-requires : goal.unlisted-requires
unlisted-requires g c =
    let (packed, rewrite, is) = c.requires in
    all_write c.args.dirs.now c.args.edits.now packed rewrite _ _ c.in-Err.unfinished
    (subst (λ (l : List Entry). FailsToList l (g.F.Files.faults c.args.files.now) (g.F.Files.faults c.find_empty_dirs_in_the_way.new.files) c.in-Err.unfinished) is c.in-Err.ensures.failed)

pub returns-in-Err-clause-failed : goal.returns-in-Err-clause-failed
returns-in-Err-clause-failed g c =
    let (packed, rewrite, is) = c.requires in
    of_listing c.args.dirs.now c.args.edits.now packed rewrite _ _ c.in-Err.unfinished c.unlisted.result
    (subst (λ (l : List Entry). FailsToList l (g.F.Files.faults c.args.files.now) (g.F.Files.faults c.find_empty_dirs_in_the_way.new.files) c.in-Err.unfinished) is c.in-Err.ensures.failed)
    c.unlisted.ensures
