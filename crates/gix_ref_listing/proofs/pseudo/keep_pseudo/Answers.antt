use Rattle.std.proofs.Common.{rules}
use Rattle.std.proofs.lemmas.Map.Made.{filter_same_pairs}
use Rattle.gix_ref_listing.specs.PseudoListings.{is_kept}
use Rattle.gix_ref_listing.proofs.pseudo.keep_pseudo.Goals as goal

pub returns : goal.returns
returns c = filter_same_pairs _ is_kept _ (λ k v b w f t. search rules) _ _ c.retain.ensures.filtered
