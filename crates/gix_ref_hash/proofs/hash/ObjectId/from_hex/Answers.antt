use Rattle.std.proofs.Common.{arith}
use Rattle.std.proofs.Common.{inl, inr}
use Rattle.gix_ref_hash.proofs.IdLemmas.{no_digits}
use Rattle.gix_ref_hash.proofs.hash.ObjectId.from_hex.Goals as goal

pub returns-in-Err : goal.returns-in-Err
returns-in-Err c =
    λ h. elim h as (λ _. ⊥) [
      | inl f ↦ no_digits c.args.text.now 20 _ f.len f.digits c.from_hex.ensures c.in-Err.is
      | inr g ↦ absurd (omega (arith, g.len))
    ]

pub returns-in-Err-from_hex : goal.returns-in-Err-from_hex
returns-in-Err-from_hex c =
    λ h. elim h as (λ _. ⊥) [
      | inl f ↦ absurd (omega (arith, f.len))
      | inr g ↦ no_digits c.args.text.now 32 _ g.len g.digits c.from_hex-in-64.ensures c.in-Err-from_hex.is
    ]
