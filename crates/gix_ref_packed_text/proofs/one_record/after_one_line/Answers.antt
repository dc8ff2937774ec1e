use Rattle.gix_ref_packed_text.proofs.RewriteLineLemmas.{one_line}
use Rattle.gix_ref_packed_text.proofs.one_record.after_one_line.Goals as goal

pub returns : goal.returns
returns c =
    one_line c.args.kind c.args.text.now c.in-Some.field-0-0.now _ c.in-Some-strip_front.line.now c.in-Some-cut.name.now c.in-Some-cut.after.now c.in-Some.ensures.0 c.in-Some.ensures.1
    c.in-Some-strip_front.ensures c.in-Some-cut.ensures c.if-not-is_full_name.ensures c.if-begins_with_caret.ensures
