use Rattle.std.proofs.Common.{List, ℕ, sym, ap, ◌∙◌}
use Rattle.gix_ref_name.specs.Names.{full_ref_bytes}
use Rattle.gix_ref_target.specs.Locations.{paths_at, row_of}
use Rattle.gix_ref_target.specs.Locations.Location.{Common}
use Rattle.gix_ref_target.proofs.LocationLemmas.{unsafe_paths}
use Rattle.gix_ref_target.proofs.layout.location_or_common.Goals as goal

pub returns-then-is_shared : goal.returns-then-is_shared
returns-then-is_shared c = λ f.
    ap (paths_at f) (sym c.to_path.ensures.bytes) ∙ c.if-is_shared.ensures f
    ∙ ap (λ (n : List ℕ). row_of f (Common n)) (c.to_path.ensures.bytes ∙ sym c.to_path-then-is_shared.ensures.bytes)

pub returns-in-None : goal.returns-in-None
returns-in-None c = unsafe_paths (full_ref_bytes c.args.name) c.to_path-in-None.result.now c.to_path-in-None.ensures.bytes c.in-None.ensures
