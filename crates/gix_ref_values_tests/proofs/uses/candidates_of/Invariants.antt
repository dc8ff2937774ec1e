use Rattle.std.proofs.Common.{◌≡◌, ◌++◌, ℕ, List, map, take, Bor}
use Rattle.gix_ref_name.specs.Names.{full_bytes, partial_ref_bytes}
use Rattle.gix_ref_values_tests.proofs.uses.candidates_of.Given as goal

abbrev pub invariant-loop-front : goal.invariant-loop-front
invariant-loop-front l =
    map full_bytes l.found.items ≡ map (λ (front : Bor (List ℕ)). front.now ++ partial_ref_bytes l.name) (take l.front-index l.front-items)
