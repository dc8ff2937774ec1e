use Rattle.std.proofs.Common.{inr, ◌++◌, codes, ◌∙◌, ap}
use Rattle.gix_ref_queries.specs.Answers.{path_lines}
use Rattle.gix_ref_queries.proofs.locks.remove_locks.Goals as goal

pub returns-in_ok-answer-in-Err-RemoveFile-clause-answers : goal.returns-in_ok-answer-in-Err-RemoveFile-clause-answers
returns-in_ok-answer-in-Err-RemoveFile-clause-answers g c =
    let said = c.in_ok-answer-in-Err-RemoveFile.ensures in
    let lines = c.in_ok-text-in-Err-RemoveFile.ensures ∙ ap path_lines c.deref-in-Err-RemoveFile.ensures.value in
    let met = rw c.in-Err-RemoveFile.field-0-is at c.in-Err-RemoveFile.ensures.failed in
    inr (inr (c.in-Err-RemoveFile.removed.items, c.in-Err-RemoveFile.path, λ h. rw c.in-Err-RemoveFile.field-0-is at (c.in-Err-RemoveFile.ensures.stopped h), (_, met.0, met.1), (said.0 ∙ lines, said.1 ∙ ap (λ p. codes "fatal: " ++ ((codes "cannot remove '" ++ (p ++ codes "'")) ++ codes "\n")) c.deref-in-Err-RemoveFile-2.ensures.value, said.2)))
