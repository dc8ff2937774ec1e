use Rattle.std.proofs.Common.{◌≡◌, ◌++◌, List, [], ℕ, length, sym, ap, ◌∙◌}
use Rattle.std.proofs.lemmas.Bool.{eqb-true}
use Rattle.std.proofs.lemmas.List.{nil_from_length}
use Rattle.std.specs.Prelude.{unwrap_or}
use Rattle.gix_ref_target.specs.Locations.{location}
use Rattle.gix_ref_target.specs.Locations.Location.{Common}
use Rattle.gix_ref_name.specs.Names.{full_ref_bytes}
use Rattle.gix_ref_reflog.specs.MadeLogs.{is_logged_by_default, location_name}
use Rattle.gix_ref_reflog.proofs.OwnNames.{own_name_is}
use Rattle.gix_ref_reflog.proofs.names.makes_log_by_default.Goals as goal

pub returns-then-is_empty : goal.returns-then-is_empty
returns-then-is_empty c =
    let name = full_ref_bytes c.args.name in
    let own : c.location_name.result.now ≡ location_name (unwrap_or (location name) (Common name)) = c.location_name.ensures ∙ sym (own_name_is _ _ c.location_or_common.ensures) in
    let none : c.args.namespace.now ≡ [] = nil_from_length c.args.namespace.now (eqb-true (length c.args.namespace.now) 0 (sym c.if-is_empty.ensures)) in
    c.is_logged_by_default.ensures ∙ ap is_logged_by_default (own ∙ ap (λ (l : List ℕ). l ++ location_name (unwrap_or (location name) (Common name))) (sym none))
