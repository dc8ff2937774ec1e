use Rattle.std.proofs.Common.{◌≡◌, ◌++◌, List, ℕ, sym, ap, ◌∙◌}
use Rattle.std.specs.Prelude.{unwrap_or}
use Rattle.gix_ref_target.specs.Locations.{location}
use Rattle.gix_ref_target.specs.Locations.Location.{Common}
use Rattle.gix_ref_name.specs.Names.{full_ref_bytes}
use Rattle.gix_ref_reflog.specs.MadeLogs.{location_name}
use Rattle.gix_ref_reflog.proofs.OwnNames.{own_name_is}
use Rattle.gix_ref_reflog.proofs.names.below_logs.Goals as goal

pub returns : goal.returns
returns c =
    let name = full_ref_bytes c.args.name in
    let own : c.location_name-own.result.now ≡ location_name (unwrap_or (location name) (Common name)) = c.location_name-own.ensures ∙ sym (own_name_is _ _ c.location_or_common.ensures) in
    c.in_ok-extend_from_slice-2.ensures.items ∙ (ap (λ (l : List ℕ). l ++ c.location_name-own.result.now) (c.in_ok-extend_from_slice.ensures.items ∙ ap (λ (l : List ℕ). l ++ c.args.namespace.now) c.in_ok-path.ensures.items) ∙ ap (λ (l : List ℕ). c.args.namespace.now ++ l) own)
