use Rattle.std.proofs.Common.{drop}
use Rattle.gix_ref_commit.specs.Cleared.{folder_lists, ClearsNothing}
use Rattle.gix_ref_commit.proofs.folders.none_in_way.Given as goal

-- if nothing is cleared for what is left, nothing is cleared at all
abbrev pub invariant-loop-way : goal.invariant-loop-way
invariant-loop-way l = ClearsNothing (folder_lists (drop l.way-index l.ways)) → ClearsNothing (folder_lists l.ways)
