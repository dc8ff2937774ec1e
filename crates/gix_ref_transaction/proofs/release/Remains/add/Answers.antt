use Rattle.std.proofs.Common.{rules, arith}
use Rattle.std.proofs.lemmas.Grind.{common_steps}
use Rattle.gix_ref_transaction.proofs.release.Remains.add.Goals as goal

pub returns-clause-adds : goal.returns-clause-adds
returns-clause-adds c = record {
  edits = search rules;
  left = grind (arith, common_steps);
  same = search rules;
  room = search rules;
  room_for_edits = search rules;
  len = search rules;
  len_of_edits = search rules;
}
