use Rattle.std.proofs.Common.{◌++◌, ◌∙◌, sym, ap}
use Rattle.gix_ref_packed_text.proofs.RunLemmas.{none_left_out}
use Rattle.gix_ref_packed_text.proofs.written.push_run.Goals as goal

pub returns : goal.returns
returns c = c.in_ok-extend_from_slice.ensures.items ∙ ap (λ r. c.args.text.now.items ++ r) (sym (none_left_out c.args.run.now c.if-has_cr.ensures))
