use Rattle.std.proofs.Common.{◌≡◌, ◌<◌, ◌≤◌, ◌+◌, ℕ, List, Bool, length, drop, get_or, false}
use Rattle.gix_ref_queries.specs.Patterns.{IsRow, one_sign}
use Rattle.gix_ref_queries.proofs.pattern.put_sign.Given as goal

-- the places before `i` are those of the sign; the others are as they were
abbrev pub invariant-loop-i : goal.invariant-loop-i
invariant-loop-i l = record {
  len : length l.row ≡ length l.name + 1;
  done : (rest : List ℕ → Bool) → IsRow rest l.name l.initial.row → (k : ℕ) → k < l.i → get_or l.row k false ≡ one_sign l.sign rest (drop k l.name);
  kept : (k : ℕ) → l.i ≤ k → get_or l.row k false ≡ get_or l.initial.row k false;
}
