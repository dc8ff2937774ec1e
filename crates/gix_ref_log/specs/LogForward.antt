-- One call of `next`, forward.
use Rattle.std.specs.Prelude.{ℕ, ◌+◌, ◌≡◌, List, [], ◌∷◌, Option, Some, None, Result}
use Rattle.gix_ref_log.specs.LogCuts.{log_lines}
use Rattle.gix_ref_log.specs.LogItems.{IsAnswer}
use Rattle.gix_ref_log.specs.declared.log.line.LineRef.{LineRef}
use Rattle.gix_ref_log.specs.declared.log.iter.decode.Error as decode
use Rattle.gix_ref_log.specs.declared.log.iter.forwards.Forward.{Forward}

abbrev pub ForwardStep : Forward → Option (Result LineRef decode.Error) → Forward → Type 0
ForwardStep s None t = (log_lines s.rest.now ≡ []) × (log_lines t.rest.now ≡ [])
ForwardStep s (Some r) t = (text : List ℕ) × (log_lines s.rest.now ≡ text ∷ log_lines t.rest.now)
    × IsAnswer (s.count + 1) text r × (t.count ≡ s.count + 1)
