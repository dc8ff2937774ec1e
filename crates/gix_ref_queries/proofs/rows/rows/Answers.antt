use Rattle.std.proofs.Common.{◌+◌, take, sym, subst, ◌∙◌}
use Rattle.gix_ref_queries.specs.Resolving.{targets_in}
use Rattle.gix_ref_queries.specs.Rows.{SeesRows, row_texts}
use Rattle.gix_ref_queries.proofs.Names.{looks_up, same_finds, same_records}
use Rattle.gix_ref_queries.proofs.RowLemmas.{row_before, rows_more, seen_more, unfollowed_at}
use Rattle.gix_ref_queries.proofs.rows.rows.Goals as goal

pub returns-in-Err-clause-failed : goal.returns-in-Err-clause-failed
returns-in-Err-clause-failed g c =
    let F = g.F.Files in
    unfollowed_at g.F.Reader.ReadAt F.honest F.means F.faults c.args.store.now c.loop-reference.store c.args.parts.now c.args.references.now c.loop-reference.reference-index c.reference-item.result c.in-Err.error c.loop-reference.invariant.unchanged c.loop-reference-test.true c.reference-item.is c.in-Err.ensures.failed

pub loop-reference-preserved : goal.loop-reference-preserved
loop-reference-preserved g c =
    let F = g.F.Files in
    let old = c.args.store.now in
    let mid = c.loop-reference.store in
    let looked = c.loop-reference.invariant.unchanged in
    record {
      rows = λ h records are.
          c.in_ok-keep.ensures ∙ rows_more (targets_in F.means old records) (targets_in F.means mid records) c.args.parts.now c.args.references.now c.loop-reference.reference-index c.reference-item.result (row_texts c.loop-reference.rows.items) _ c.loop-reference-test.true c.reference-item.is (c.loop-reference.invariant.rows h records are)
          (same_finds F.honest F.means old mid records looked h) (c.in-Ok.ensures.rows h records (same_records F.honest F.means old mid records looked h are));
      sees = λ h.
          subst (SeesRows F.means old c.args.parts.now (take (c.loop-reference.reference-index + 1) c.args.references.now)) (sym c.in_ok-keep.ensures)
          (seen_more F.means old c.args.parts.now c.args.references.now c.loop-reference.reference-index c.reference-item.result (row_texts c.loop-reference.rows.items) _ c.loop-reference-test.true c.reference-item.is (c.loop-reference.invariant.sees h)
          (row_before F.honest F.means old mid looked h c.args.parts.now c.reference-item.result _ (c.in-Ok.ensures.seen h)));
      unchanged = looks_up F.honest F.means old mid c.row_of.new.store looked c.row_of.ensures.unchanged;
    }
