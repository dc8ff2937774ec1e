-- What `==` of ids returns.
use Rattle.std.proofs.Common.{◌≡◌, Bool, ap}
use Rattle.std.specs.Bool.{Decides}
use Rattle.std.specs.Cmp.Lexicographic.{bytes_decides}
use Rattle.gix_ref_hash.specs.declared.hash.ObjectId.{ObjectId}
use Rattle.gix_ref_hash.specs.declared.hash.ObjectId.TheVariants.{Sha1, Sha256}
use Rattle.gix_ref_hash.specs.contracts.hash.ObjectIdPartialEq.TheImpl.{eq-value}
use Rattle.gix_ref_hash.specs.Ids.{id_bytes}

-- what the derived `==` returns
unfoldable pub id_eq : ObjectId → ObjectId → Bool
id_eq = eq-value.it

pub id_eq-decides : (a b : ObjectId) → Decides (id_eq a b) (a ≡ b)
unfolding id_eq
id_eq-decides (Sha1 a) (Sha1 b) = (λ h. ap Sha1 ((bytes_decides a b).0 h), λ e. (bytes_decides a b).1 (ap id_bytes e))
id_eq-decides (Sha1 a) (Sha256 b) = (λ h. absurd (cc), λ e. absurd (cc))
id_eq-decides (Sha256 a) (Sha1 b) = (λ h. absurd (cc), λ e. absurd (cc))
id_eq-decides (Sha256 a) (Sha256 b) = (λ h. ap Sha256 ((bytes_decides a b).0 h), λ e. (bytes_decides a b).1 (ap id_bytes e))
