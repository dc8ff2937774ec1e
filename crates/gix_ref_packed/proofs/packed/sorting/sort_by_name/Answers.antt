use Rattle.std.proofs.Common.{rules, nat_cmp, is_lt}
use Rattle.std.specs.Cmp.Lexicographic.{slice_cmp}
use Rattle.std.proofs.lemmas.Cmp.{nat_list_cmp_total}
use Rattle.std.proofs.lemmas.List.Sorted.{answers_always}
use Rattle.std.proofs.slice.Orders.{ranks_by}
use Rattle.gix_ref_packed.specs.internal.Entries.{entry_ref_name}
use Rattle.gix_ref_packed.proofs.packed.sorting.sort_by_name.Goals as goal

pub returns-clause-sorted : goal.returns-clause-sorted
returns-clause-sorted c = c.in_ok-sort_by.ensures.sorted (λ a b. is_lt (slice_cmp nat_cmp (entry_ref_name a) (entry_ref_name b))) (ranks_by nat_list_cmp_total entry_ref_name) (answers_always _ _ _ (λ f a r g h. search rules))

pub returns-clause-stable : goal.returns-clause-stable
returns-clause-stable c = c.in_ok-sort_by.ensures.stable (λ a b. is_lt (slice_cmp nat_cmp (entry_ref_name a) (entry_ref_name b))) (ranks_by nat_list_cmp_total entry_ref_name) (answers_always _ _ _ (λ f a r g h. search rules))
