use Rattle.std.proofs.Common.{◌≡◌, ◌-◌, ◌++◌, rules, arith, drop, take, length}
use Rattle.std.proofs.lemmas.List.{same_lists, places}
use Rattle.gix_ref_edits.proofs.transaction.ext.rounds.split_from.Goals as goal

pub returns-clause-round : goal.returns-clause-round
returns-clause-round g c =
    let first = c.args.first in
    let old = c.deref_mut.result.now in
    let level = c.split_level.new.level in
    let written = take first old ++ (level ++ drop (length old - first) (drop first old)) in
    let given : drop first c.args.edits.now.items ≡ take (length old - first) (drop first old) =
    same_lists _ _ (search (rules, places)) (λ k d h. grind (arith, places)) in
    let changed : drop first (take c.args.edits.now.len (written ++ drop (length written) c.args.edits.now.items)) ≡ level =
    same_lists _ _ (search (rules, places)) (λ k d h. grind (arith, places)) in
    rw (given, changed) c.split_level.ensures.round
