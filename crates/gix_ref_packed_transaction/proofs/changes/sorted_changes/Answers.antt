use Rattle.std.proofs.Common.{rules, nat_cmp, is_lt, ℕ, List, subst, sym}
use Rattle.std.specs.Cmp.Lexicographic.{slice_cmp}
use Rattle.std.specs.List.Sorted.{IsPermutation, IsSorted}
use Rattle.std.proofs.lemmas.Cmp.{nat_list_cmp_total}
use Rattle.std.proofs.lemmas.List.Sorted.{answers_always, IsPermutation-map}
use Rattle.std.proofs.lemmas.Simd.{map-map}
use Rattle.std.proofs.slice.Orders.{ranks_by}
use Rattle.gix_ref_packed_transaction.specs.Changes.{ChangeValue, change_value, change_values}
use Rattle.gix_ref_packed_transaction.specs.declared.changes.KeyChange.{KeyChange}
use Rattle.gix_ref_packed_transaction.proofs.KeyLemmas.{keys_in_order}
use Rattle.gix_ref_packed_transaction.proofs.changes.sorted_changes.Goals as goal

pub returns-clause-moved : goal.returns-clause-moved
returns-clause-moved c =
    subst (λ (cs : List ChangeValue). IsPermutation cs (change_values c.sort_unstable_by.new.self.items)) c.in_ok-changes.ensures (IsPermutation-map change_value _ _ c.sort_unstable_by.ensures.permutation)

pub returns-clause-sorted : goal.returns-clause-sorted
returns-clause-sorted c =
    let key : KeyChange → List ℕ = λ x. x.key.items in
    let items = c.sort_unstable_by.new.self.items in
    subst (λ (ks : List (List ℕ)). IsSorted (slice_cmp nat_cmp) ks) (sym (map-map (λ (v : ChangeValue). v.0) change_value items))
    (keys_in_order key items
    (c.sort_unstable_by.ensures.sorted (λ a b. is_lt (slice_cmp nat_cmp (key a) (key b))) (ranks_by nat_list_cmp_total key) (answers_always _ _ _ (λ f a r g h. search rules))))
