use Rattle.std.proofs.Common.{◌≡◌, ℕ, true, ◌==◌, List, [], ◌∷◌, length, sym, arith}
use Rattle.std.proofs.lemmas.Bool.{eqb-true}
use Rattle.gix_ref_log.specs.LogCuts.{log_lines}
use Rattle.gix_ref_log.proofs.FirstLines.{no_lines}
use Rattle.gix_ref_log.proofs.log.iter.forwards.ForwardIterator.next.Goals as goal

empty : (log : List ℕ) → true ≡ (length log == 0) → log_lines log ≡ []
empty [] h = no_lines
empty (b ∷ log) h = absurd (omega (arith, eqb-true (length (b ∷ log)) 0 (sym h)))

pub returns-then-is_empty-clause-steps : goal.returns-then-is_empty-clause-steps
returns-then-is_empty-clause-steps c =
    let none = empty c.args.self.now.rest.now c.if-is_empty.ensures in (none, none)
