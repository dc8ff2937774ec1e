use Rattle.gix_ref_log.proofs.FastLines.{usual_lines, usual_is_line}
use Rattle.gix_ref_log.proofs.log.iter.fast.fast_first_line.Goals as goal

pub returns-clause-line : goal.returns-clause-line
returns-clause-line c =
    let front = c.in_ok-line.ensures.front in
    let feed = c.in_ok-message.ensures in
    let text = c.strip_cr.ensures.text in (
      _,
      usual_lines c.args.log.now _ _ _ _ _ _ _ _ front.previous front.new front.tab front.one_line feed,
      usual_is_line c.args.log.now _ _ _ _ _ _ _ _ front.previous front.new front.tab front.one_line feed _ c.strip_cr.result.now text (c.strip_cr.ensures.one_line feed.none) front.who,
    )
