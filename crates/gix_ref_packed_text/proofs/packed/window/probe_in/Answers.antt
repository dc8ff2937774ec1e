use Rattle.std.proofs.Common.{◌+◌, ◌≤◌, length, drop, eqb-true, arith}
use Rattle.std.proofs.lemmas.List.{take_rest}
use Rattle.gix_ref_packed_text.proofs.WindowLemmas.{part_is, whole_part, same_line_in}
use Rattle.gix_ref_packed_text.proofs.packed.window.probe_in.Goals as goal

pub returns-clause-probed : goal.returns-clause-probed
returns-clause-probed c = λ text is last.
    let w = c.args.window.now in
    let from = c.args.from in
    let start = c.in-Some.start in
    let below = c.in-Some.ensures.below in
    let inside = c.requires.inside in
    let low : start ≤ length w = omega arith in
    let shows = rw take_rest at c.in-Here.ensures.shows in
    record {
      record_of = c.in-Some.ensures.shows text from is (eqb-true from 0);
      order = shows (drop (from + start) text) (part_is text w from start is low) (λ e. whole_part text w from start is low (last e));
      line = same_line_in text w from c.args.at c.next_place.result is c.next_place.ensures.within c.next_place.ensures.line;
    }
