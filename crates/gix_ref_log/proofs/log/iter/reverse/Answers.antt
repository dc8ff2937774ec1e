use Rattle.std.proofs.Common.{◌<◌, ◌^◌, length, refl, arith}
use Rattle.gix_ref_log.specs.LogItems.{ReadsOwned}
use Rattle.gix_ref_log.proofs.LogRuns.{each_run, each_ends, faults_law, each_lent_run, each_lent_ends, lent_faults_law}
use Rattle.gix_ref_log.proofs.log.iter.reverse.Goals as goal

pub returns-clause-items : goal.returns-clause-items
returns-clause-items g c = λ honest.
    let len = c.len-pos.ensures.bytes honest in
    let small : length (g.F.ReadAt.bytes c.args.log) < 2 ^ 64 = omega arith in
    each_run ReadsOwned g.F.ReadAt.honest g.F.ReadAt.bytes g.F.ReadAt.faults honest _ _ (small, (len, refl, refl)) refl

pub returns-clause-lent_items : goal.returns-clause-lent_items
returns-clause-lent_items g c = λ honest.
    let len = c.len-pos.ensures.bytes honest in
    let small : length (g.F.ReadAt.bytes c.args.log) < 2 ^ 64 = omega arith in
    each_lent_run g.F.ReadAt.honest g.F.ReadAt.bytes g.F.ReadAt.faults honest _ _ (small, (len, refl, refl)) refl

pub returns-clause-left : goal.returns-clause-left
returns-clause-left g c = λ honest.
    let len = c.len-pos.ensures.bytes honest in
    let small : length (g.F.ReadAt.bytes c.args.log) < 2 ^ 64 = omega arith in
    ((small, (len, refl, refl)), refl)

pub returns-clause-faults : goal.returns-clause-faults
returns-clause-faults g c = λ items s gave. faults_law ReadsOwned g.F.ReadAt.honest g.F.ReadAt.bytes g.F.ReadAt.faults items _ s _ refl gave

pub returns-clause-ends : goal.returns-clause-ends
returns-clause-ends g c = each_ends ReadsOwned g.F.ReadAt.honest g.F.ReadAt.bytes g.F.ReadAt.faults _

pub returns-clause-lent_faults : goal.returns-clause-lent_faults
returns-clause-lent_faults g c = λ items s gave. lent_faults_law g.F.ReadAt.honest g.F.ReadAt.bytes g.F.ReadAt.faults items _ s _ refl gave

pub returns-clause-lent_ends : goal.returns-clause-lent_ends
returns-clause-lent_ends g c = each_lent_ends g.F.ReadAt.honest g.F.ReadAt.bytes g.F.ReadAt.faults _
