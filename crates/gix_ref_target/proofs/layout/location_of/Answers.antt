use Rattle.std.proofs.Common.{sym, ◌∙◌}
use Rattle.gix_ref_name.specs.Names.{full_ref_bytes}
use Rattle.gix_ref_target.specs.RefLayout.{location_value}
use Rattle.gix_ref_target.proofs.LocationLemmas.{found_category, found_refs, not_found}
use Rattle.gix_ref_target.proofs.layout.location_of.Goals as goal

pub returns-in-Some : goal.returns-in-Some
returns-in-Some c =
    found_category (full_ref_bytes c.args.name) c.to_path.result.now c.in-Some.category c.in-Some.short.now (location_value c.location_in.result) c.to_path.ensures.bytes c.in-Some.ensures.found c.location_in.ensures

pub returns-then-starts_with : goal.returns-then-starts_with
returns-then-starts_with c =
    found_refs (full_ref_bytes c.args.name) c.to_path-2.result.now c.to_path-then-starts_with.result.now c.to_path-2.ensures.bytes c.to_path-then-starts_with.ensures.bytes c.in_default.ensures.none (sym c.starts_with.ensures.value ∙ c.if-starts_with.true)

pub returns : goal.returns
returns c =
    not_found (full_ref_bytes c.args.name) c.to_path-2.result.now c.to_path-2.ensures.bytes c.in_default.ensures.none (sym c.starts_with.ensures.value ∙ c.if-starts_with.false)
