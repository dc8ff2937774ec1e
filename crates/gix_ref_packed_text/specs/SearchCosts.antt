-- What a search for one full name costs, and why it fails.
use Rattle.std.specs.Prelude.{ℕ, ◌+◌, ◌-◌, ◌*◌, ◌^◌, ◌<◌, ◌≤◌}
use Rattle.gix_ref_packed_text.specs.declared.packed.search.SearchError.{SearchError}
use Rattle.gix_ref_packed_text.specs.declared.packed.search.SearchError.TheVariants.{Read, Parse}

-- the probes of a search among so many bytes: at least one unless there is no byte, and at most as many as that number
-- has binary digits
pub record CountsProbes (len old new : ℕ) : Type 0 where
  pub some : 0 < len → old < new
  pub few : 2 ^ (new - old) ≤ 2 * len + 1

-- a probe failed by one of these errors, or nothing was found and a line is malformed
abbrev pub FailsBy : {E : Type 0} → (E → Type 0) → Type 0 → SearchError E → Type 0
FailsBy fails malformed (Read error) = fails error
FailsBy fails malformed Parse = malformed

-- the count of faults after a search that failed, where a probe that failed counts so
abbrev pub count_search : {E C : Type 0} → (E → C → C) → SearchError E → C → C
count_search count (Read error) n = count error n
count_search count Parse n = n
