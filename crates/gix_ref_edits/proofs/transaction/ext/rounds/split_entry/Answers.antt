use Rattle.gix_ref_edits.proofs.OneEntry.{level_without_child, level_with_child}
use Rattle.gix_ref_edits.proofs.transaction.ext.rounds.split_entry.Goals as goal

pub returns-in-Some-clause-round : goal.returns-in-Some-clause-round
returns-in-Some-clause-round g c =
    level_with_child _ _ _ _ _ _ _ _ _ _ _ c.in-Some.child _ (rw c.in-Some.is at c.in_ok-child.ensures.round) c.make_entry.ensures
    (c.requires.keeps _ _ _ _ _ c.make_entry.ensures) c.follow_entry.ensures.kept

pub returns-in-None-clause-round : goal.returns-in-None-clause-round
returns-in-None-clause-round g c =
    level_without_child _ _ _ _ _ _ _ _ _ _ (rw c.in-None.is at c.in_ok-child.ensures.round) c.follow_entry.ensures.kept
