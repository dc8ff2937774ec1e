use Rattle.std.proofs.Common.{◌+◌, sym, ap}
use Rattle.gix_ref_packed_text.specs.Views.{record_of}
use Rattle.gix_ref_packed.proofs.OrderLemmas.{no_bytes, reads_none, reads_more, reads_all}
use Rattle.gix_ref_packed.proofs.packed.order.read_records.Goals as goal

pub loop-rest-init : goal.loop-rest-init
loop-rest-init c = reads_none c.args.kind c.args.text.now c.args.before

pub loop-rest-preserved : goal.loop-rest-preserved
loop-rest-preserved c =
    reads_more c.args.kind c.args.text.now c.loop-rest.rest.now c.in-Some.after.now c.args.before c.loop-rest.read _ (record_of c.in-Some.reference) c.loop-rest.invariant c.in-Some.ensures
    (ap (λ n. c.loop-rest.read.line + n) c.line_count.ensures) c.to_path-name.ensures.bytes c.still_rises.ensures

pub returns-clause-reads : goal.returns-clause-reads
returns-clause-reads c =
    reads_all c.args.kind c.args.text.now c.loop-rest.rest.now c.args.before c.loop-rest.read c.loop-rest.invariant (no_bytes c.loop-rest.rest.now (sym c.loop-rest-test.ensures))
