use Rattle.std.proofs.lemmas.Option.{IfSome_then}
use Rattle.gix_ref_name.proofs.OneCategory.{one_category}
use Rattle.gix_ref_name.proofs.RoundTrip.{round_trip}
use Rattle.gix_ref_name.proofs.name.FullNameRef.category_and_short_name.Goals as goal

pub returns-clause-back : goal.returns-clause-back
returns-clause-back c = IfSome_then c.category_of_bytes.result c.category_of_bytes.ensures.found (λ p h. round_trip _ p.0 p.1.now h)

pub returns-clause-only : goal.returns-clause-only
returns-clause-only c =
    IfSome_then c.category_of_bytes.result c.category_of_bytes.ensures.found (λ p h d s k. one_category _ p.0 d p.1.now s h k)
