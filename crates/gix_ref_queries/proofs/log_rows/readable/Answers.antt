use Rattle.std.proofs.Common.{◌∙◌, ap, sym}
use Rattle.std.specs.List.{filter_map}
use Rattle.std.specs.Result.{result_ok}
use Rattle.gix_ref_log.specs.LogForward.{ForwardStep}
use Rattle.gix_ref_queries.proofs.LogEntries.{one_item_more, whole_run}
use Rattle.gix_ref_queries.proofs.log_rows.readable.Goals as goal

pub loop-line-preserved : goal.loop-line-preserved
loop-line-preserved c = one_item_more c.loop-line.yielded c.in-Some.line c.loop-line.entries.items c.keep.new.entries.items c.loop-line.invariant c.in_ok-keep.ensures

pub returns : goal.returns
returns c =
    let run = whole_run ForwardStep c.into_iter-line-iterator.result c.loop-line.line-iterator c.next.new.self c.loop-line.yielded c.loop-line.yielded_by c.in-None.ensures.steps in
    (run.0, run.1 ∙ c.into_iter-line-iterator.ensures.into_iter_gives, run.2, c.loop-line.invariant ∙ ap (filter_map result_ok) (sym run.3))
