use Rattle.std.proofs.Common.{◌∙◌, ap, List, ℕ}
use Rattle.std.specs.Prelude.{filter, not}
use Rattle.gix_ref_hash.specs.Bytes.{is_empty}
use Rattle.gix_ref_log.proofs.FirstLines.{no_lines}
use Rattle.gix_ref_program.specs.ScriptLines.{script_lines}
use Rattle.gix_ref_program.proofs.WordLemmas.{empty}
use Rattle.gix_ref_program.proofs.script_lines.next_line.Goals as goal

pub returns : goal.returns
returns c =
    c.loop-rest.invariant.0
    ∙ (ap script_lines (empty c.loop-rest.rest.now c.loop-rest-test.ensures) ∙ ap (filter (λ (line : List ℕ). not (is_empty line))) no_lines)
