use Rattle.std.proofs.Common.{◌≡◌, ◌<◌, ◌≤◌, ◌+◌, ℕ, List, Bool, length, drop, get_or, false}
use Rattle.gix_ref_queries.specs.Patterns.{IsRow, any_bytes}
use Rattle.gix_ref_queries.proofs.pattern.put_star.Given as goal

-- the places from `i` on are those of the star; the others are as they were
abbrev pub invariant-loop-i : goal.invariant-loop-i
invariant-loop-i l = record {
  len : length l.row ≡ length l.name + 1;
  done : (rest : List ℕ → Bool) → IsRow rest l.name l.initial.row → (k : ℕ) → l.i ≤ k → k ≤ length l.name → get_or l.row k false ≡ any_bytes rest (drop k l.name);
  kept : (k : ℕ) → k < l.i → get_or l.row k false ≡ get_or l.initial.row k false;
}
