use Rattle.std.proofs.Common.{◌++◌, ◌∙◌, sym, ap}
use Rattle.gix_ref_packed_text.proofs.RunLemmas.{cut_run, none_left_out}
use Rattle.gix_ref_packed_text.proofs.written.push_lines.Goals as goal

pub loop-front-preserved : goal.loop-front-preserved
loop-front-preserved c =
    cut_run c.loop-front.text.items c.in-Some.front.now c.in-Some.after.now _ c.extend_from_slice.new.self.items c.loop-front.rest.now c.in-Some.ensures c.in_ok-extend_from_slice.ensures.items c.loop-front.invariant

pub returns : goal.returns
returns c =
    c.in_ok-extend_from_slice-2.ensures.items
    ∙ (ap (λ r. c.loop-front.text.items ++ r) (sym (none_left_out c.loop-front.rest.now c.in_default.ensures)) ∙ c.loop-front.invariant)
