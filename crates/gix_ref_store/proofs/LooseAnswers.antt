-- A loose reference of a result.
use Rattle.std.proofs.Common.{◌≡◌, Option, Some, None, ◌∙◌, ap, sym}
use Rattle.gix_ref_name.specs.Names.{full_bytes}
use Rattle.gix_ref_target.specs.Targets.{target_value}
use Rattle.gix_ref_theory.specs.Lookups.{Hit}
use Rattle.gix_ref_theory.specs.Readings.Reading.{Is}
use Rattle.gix_ref_packed_text.specs.declared.raw.Reference.{Reference}
use Rattle.gix_ref_lookup.specs.Lookups.{ReturnsHit}
use Rattle.gix_ref_lookup.specs.declared.loose.Reference.{Reference as Loose}
use Rattle.gix_ref_lookup.specs.declared.find.existing.Error.{Error as Missing}
use Rattle.gix_ref_lookup.specs.declared.find.existing.Error.TheVariants.{Find, NotFound}
use Rattle.gix_ref_store.specs.Lookup.{AnswersLoose, IfNotFound}

pub loose_some : (found : Option Hit) (raw : Reference) (r : Loose) → ReturnsHit found (Some raw) → r.name ≡ raw.name → r.target ≡ raw.target → AnswersLoose found (Some r)
loose_some None raw r is name target = absurd is
loose_some (Some hit) raw r is name target = (ap full_bytes name ∙ is.0, is.1 ∙ ap (λ t. Is (target_value t)) (sym target))

pub loose_none : (found : Option Hit) → ReturnsHit found None → AnswersLoose found None
loose_none None is = tt
loose_none (Some hit) is = absurd is

-- what holds of nothing holds where that is the error
pub if_not_found : {P : Type 0} (error : Missing) → P → IfNotFound error P
if_not_found (NotFound name) holds = holds
if_not_found (Find error) holds = tt
