-- A target in the empty namespace.
use Rattle.std.proofs.Common.{◌≡◌, ℕ, List, [], Bool, true, false, refl, sym, ap, ◌∙◌, is_none, if◌then◌else◌}
use Rattle.gix_ref_hash.specs.Bytes.{without_front}
use Rattle.gix_ref_name.specs.NameGrammar.{partial_error}
use Rattle.gix_ref_name.specs.Namespaces.{stripped}
use Rattle.gix_ref_target.specs.Targets.{TargetValue, stripped_target}
use Rattle.gix_ref_target.specs.Targets.TargetValue.{object_id, symbolic_name}
use Rattle.gix_ref_name.proofs.FrontLemmas.{without-append}

same : (n : List ℕ) → without_front [] n ≡ n
same n = without-append [] n n refl

choice : (b : Bool) (n : List ℕ) → (if b then n else n) ≡ n
choice true n = refl
choice false n = refl

-- the empty namespace takes nothing off
pub no_less : (n : List ℕ) → n ≡ stripped [] n
unfolding stripped
no_less n = sym (ap (λ m. if is_none (partial_error m) then m else n) (same n) ∙ choice (is_none (partial_error n)) n)

-- and nothing off a target
pub nothing_less : (target : TargetValue) → target ≡ stripped_target [] target
nothing_less (object_id id) = refl
nothing_less (symbolic_name name) = ap symbolic_name (no_less name)
