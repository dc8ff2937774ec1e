use Rattle.std.proofs.Common.{OnOk, ◌≡◌, ◌++◌, List, ℕ, subst, sym}
use Rattle.gix_ref_hash.proofs.LowerDigits.{lower_is_written}
use Rattle.gix_ref_hash.proofs.hash.push_lower_hex.Goals as goal

pub returns-in-Err-clause-added : goal.returns-in-Err-clause-added
returns-in-Err-clause-added c =
    subst (λ (t : List ℕ). OnOk c.push_hex.result (c.push_hex.new.text.items ≡ c.args.text.now.items ++ t)) (sym (lower_is_written c.args.digits.now c.id_of_digits.result c.id_of_digits.ensures)) c.push_hex.ensures.added
