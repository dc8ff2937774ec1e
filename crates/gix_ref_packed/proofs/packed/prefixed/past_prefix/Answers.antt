use Rattle.std.proofs.Common.{◌+◌, ◌-◌, ◌∙◌, ◌++◌, ◌∷◌, List, ℕ, [], get_or, length, ap, arith}
use Rattle.gix_ref_packed.proofs.PrefixParts.{past_of}
use Rattle.gix_ref_packed.proofs.packed.prefixed.past_prefix.Goals as goal

pub returns-clause-past : goal.returns-clause-past
returns-clause-past c =
    let prefix = c.args.prefix.now in
    let n = length prefix - 1 in
    past_of prefix c.push.new.self.items n (let some = c.in-len1-up.len_at_least in omega arith)
    (c.in_ok-push.ensures.items ∙ ap (λ (xs : List ℕ). xs ++ (get_or prefix n 0 + 1) ∷ []) (c.in_ok-past.ensures.items_if_clones_equal (λ x y e. e)))
