use Rattle.std.proofs.Common.{rules, nat_cmp, is_lt, ℕ, List, subst, sym}
use Rattle.std.specs.Cmp.Lexicographic.{slice_cmp}
use Rattle.std.specs.List.Sorted.{IsSorted}
use Rattle.std.proofs.lemmas.Cmp.{nat_list_cmp_total}
use Rattle.std.proofs.lemmas.List.Sorted.{answers_always, All-permutation, IsPermutation-map}
use Rattle.std.proofs.lemmas.Simd.{map-map}
use Rattle.std.proofs.slice.Orders.{ranks_by}
use Rattle.gix_ref_packed_text.specs.Rewrites.{IsReadableIfAny}
use Rattle.gix_ref_packed_transaction.specs.Changes.{ChangeValue, change_value, change_values, record_left}
use Rattle.gix_ref_packed_transaction.specs.declared.changes.KeyChange.{KeyChange}
use Rattle.gix_ref_packed_transaction.proofs.KeyLemmas.{keys_in_order}
use Rattle.gix_ref_packed_transaction.proofs.transaction.changes.sorted_changes.Goals as goal

pub returns-clause-changes : goal.returns-clause-changes
returns-clause-changes g c =
    let key : KeyChange → List ℕ = λ x. x.key.items in
    let items = c.sort_unstable_by.new.self.items in (
      (change_values c.in_ok-changes.changes.items, c.in_ok-changes.ensures.changes, IsPermutation-map change_value _ _ c.sort_unstable_by.ensures.permutation),
      subst (λ (ks : List (List ℕ)). IsSorted (slice_cmp nat_cmp) ks) (sym (map-map (λ (v : ChangeValue). v.0) change_value items))
          (keys_in_order key items
          (c.sort_unstable_by.ensures.sorted (λ a b. is_lt (slice_cmp nat_cmp (key a) (key b))) (ranks_by nat_list_cmp_total key) (answers_always _ _ _ (λ f a r g h. search rules)))),
    )

pub returns-clause-readable : goal.returns-clause-readable
returns-clause-readable g c full =
    All-permutation (λ (v : ChangeValue). IsReadableIfAny c.args.kind (record_left v)) _ _ (IsPermutation-map change_value _ _ c.sort_unstable_by.ensures.permutation) (c.in_ok-changes.ensures.readable full)
