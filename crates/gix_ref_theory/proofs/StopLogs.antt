-- For stops the log is as the definition for stops says it.
use Rattle.std.proofs.Common.{◌++◌, sym, ap, ◌∙◌, inl, inr, append_assoc}
use Rattle.gix_ref_theory.specs.Losses.{StopLogsAreBetween}

pub stop_logs : StopLogsAreBetween
stop_logs s edits log old new (inl same) = inl same
stop_logs s edits log old new (inr (inr gone)) = inr (inr gone)
stop_logs s edits log old new (inr (inl (due, (front, bytes, rest, part, whole, (more, is), new_is)))) =
    inr (inl (
      due,
      (
        front ++ part,
        more ++ rest,
        append_assoc front part (more ++ rest) ∙ (ap (λ x. front ++ x) (sym (append_assoc part more rest) ∙ ap (λ x. x ++ rest) is) ∙ whole),
        new_is,
      ),
    ))
