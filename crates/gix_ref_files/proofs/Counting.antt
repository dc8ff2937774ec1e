-- One more in a count of faults.
use Rattle.std.proofs.Common.{◌≡◌, ℕ, ◌<◌, Bool, true, false, if◌then◌else◌, ◌==◌, List, length, slice_index_or, slice_set, get_or-set_same, get_or-set_other, refl, sym, ◌∙◌, ap, subst}
use Rattle.std.proofs.lemmas.Bool.{eqb-true, eqb-false}
use Rattle.gix_ref_files.specs.Files.{one_more, number_of, counted}
use Rattle.gix_ref_files.specs.FaultCounts.{counts_of}
use Rattle.gix_ref_files.specs.declared.faults.Faults.{Faults}
use Rattle.gix_ref_files.specs.declared.files.FileError.{FileError}

-- the number at a place after a write
at_place : (xs : List ℕ) (n m v : ℕ) → n < length xs → v ≡ one_more (slice_index_or xs n 0) → (b : Bool) → (m == n) ≡ b → slice_index_or (slice_set xs n v) m 0 ≡ (if b then one_more (slice_index_or xs m 0) else slice_index_or xs m 0)
at_place xs n m v lt is true at =
    let e : m ≡ n = eqb-true m n at in
    subst (λ (k : ℕ). slice_index_or (slice_set xs n v) k 0 ≡ one_more (slice_index_or xs k 0)) (sym e) (get_or-set_same xs n v 0 lt ∙ is)
at_place xs n m v lt is false at = get_or-set_other xs n m v 0 (eqb-false m n at)

-- a count with one more at the number of a fault
pub added : (f : Faults) (error : FileError) (n total one : ℕ) → n < length f.each → total ≡ one_more f.total → one ≡ one_more (slice_index_or f.each n 0) → number_of error ≡ n →
    counts_of (record { total = total; each = slice_set f.each n one }) ≡ counted error (counts_of f)
added f error n total one lt is one_is at = λ i. record {
  total = is i;
  each = λ fault. (at_place f.each n (number_of fault) one lt one_is (number_of fault == n) refl ∙ ap (λ (k : ℕ). if number_of fault == k then one_more (slice_index_or f.each (number_of fault) 0) else slice_index_or f.each (number_of fault) 0) (sym at)) i;
}
