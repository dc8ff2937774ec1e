use Rattle.std.proofs.Common.{◌≢◌, List, ℕ, [], refl, sym, subst, Option, Some, None}
use denote.Ref.{Bor}
use Rattle.std.specs.Option.{option_map}
use Rattle.std.specs.Prelude.{MatchOption}
use Rattle.std.specs.Cmp.Lexicographic.{slice_cmp}
use Rattle.std.specs.Ordering.{nat_cmp}
use Rattle.gix_ref_hash.specs.declared.hash.Kind.{Kind}
use Rattle.gix_ref_packed_text.specs.Positions.{NameAt, Compares}
use Rattle.gix_ref_packed_text.proofs.QuickOrders.{orders_named}
use Rattle.gix_ref_packed_text.proofs.packed.window.order_in.Goals as goal

-- the order of the name there, if there is one
ordered : (kind : Kind) (text wanted : List ℕ) (name : Option (Bor (List ℕ))) → MatchOption name ((n : List ℕ) → n ≢ [] → NameAt kind text n → ⊥) (λ n. (n.now ≢ []) × NameAt kind text n.now) → Compares kind text wanted (option_map (λ n. slice_cmp nat_cmp n.now wanted) name)
ordered kind text wanted None none = none
ordered kind text wanted (Some n) at = (n.now, at.1, refl, at.0)

pub returns-in-Here-clause-shows : goal.returns-in-Here-clause-shows
returns-in-Here-clause-shows c = λ text is all.
    orders_named c.args.kind text c.args.wanted.now c.args.sure c.order_of.result
    (subst (Compares c.args.kind text c.args.wanted.now) (sym c.order_of.ensures) (ordered c.args.kind text c.args.wanted.now c.in-Here.name (c.in-Here.ensures.shows text is all)))
