use Rattle.std.proofs.Common.{length, List, ℕ, ◌++◌}
use Rattle.gix_ref_session.specs.Quotes.{Unquotes}
use Rattle.gix_ref_session.proofs.quote.unquote.Given as goal

abbrev pub decreases-loop-byte : goal.decreases-loop-byte
decreases-loop-byte l = length l.rest

abbrev pub invariant-loop-byte : goal.invariant-loop-byte
invariant-loop-byte l = record {
  -- what the rest is for comes after what is there
  so_far : (plain : List ℕ) → Unquotes l.rest plain → Unquotes l.quoted (l.plain.items ++ plain);
  -- where the whole is for something, so is the rest
  rest_too : (plain : List ℕ) → Unquotes l.quoted plain → (more : List ℕ) × Unquotes l.rest more;
}
