-- What is opened of a well-formed text holds its records.
use Rattle.std.proofs.Common.{◌≡◌, ◌≢◌, ◌⊎◌, inl, inr, ⊎_elim, ℕ, suc, zero, ◌+◌, ◌<◌, ◌≤◌, Bool, true, false, cond, List, [], ◌∷◌, length, get_or, nat_eq, refl, sym, ◌∙◌, ap, subst, arith, Option, Some, None, count_by}
use Rattle.std.specs.List.{All, AllPairs}
use Rattle.std.specs.List.Sorted.{IsPermutation}
use Rattle.std.specs.Cmp.Lexicographic.{pointwise, slice_cmp, bytes_decides}
use Rattle.std.specs.Ordering.{nat_cmp}
use Rattle.std.specs.declared.cmp.Ordering.{Ordering}
use Rattle.std.specs.declared.cmp.Ordering.TheVariants.{Less, Equal, Greater}
use Rattle.std.proofs.lemmas.Map.Lookups.{exact_bytes}
use Rattle.std.proofs.lemmas.List.{get_or_default}
use Rattle.std.proofs.lemmas.List.Sums.{sum_by-cons}
use Rattle.std.proofs.lemmas.List.Sorted.{IsPermutation-map, IsPermutation-refl, Contains-permutation, sum_by-IsPermutation}
use Rattle.gix_ref_hash.specs.declared.hash.Kind.{Kind}
use Rattle.gix_ref_files.specs.declared.files.ReadAt.{Ghosts}
use Rattle.gix_ref_packed.specs.declared.packed.file.PackedFile.{PackedFile}
use Rattle.gix_ref_packed_text.specs.declared.packed.decode.options.Header.{Header}
use Rattle.gix_ref_target.specs.PackedRecords.{Record, record_named}
use Rattle.gix_ref_packed_text.specs.RecordGrammar.{Records, Below, Ascending, Rising}
use Rattle.gix_ref_packed_text.specs.OpenedText.{Piece, Keeps, OpensTo, IsWellFormed, says_sorted, records_in}
use Rattle.gix_ref_packed.specs.Buffers.{HoldsRecords, OpenedHoldsRecords, buffer_text, buffer_line}
use Rattle.gix_ref_packed.specs.OpenFiles.{OpenedFileHoldsRecords, packed_file_text}
use Rattle.gix_ref_packed_text.proofs.ReadBack.{same_records, same_heading}
use Rattle.gix_ref_packed_text.proofs.Halves.{greater_is_below}

-- the record has the name
abbrev named : List ℕ → Record → Bool
named n r = pointwise nat_eq r.name n

-- how many records have the name
abbrev count : List ℕ → List Record → ℕ
count n rs = count_by (named n) rs

one : Bool → ℕ
one b = cond b 1 0

count_cons : (n : List ℕ) (r : Record) (rs : List Record) → count n (r ∷ rs) ≡ one (named n r) + count n rs
unfolding one
count_cons n r rs = sum_by-cons (λ x. cond (named n x) 1 0) r rs

some_count : (n : List ℕ) (rs : List Record) (k : ℕ) (d : Record) → k < length rs → (get_or rs k d).name ≡ n → 1 ≤ count n rs
unfolding one
some_count n [] k d within is = absurd (omega arith)
some_count n (r ∷ rs) zero d within is =
    let yes_it_has : named n r ≡ true = (bytes_decides r.name n).1 is in
    let sum = count_cons n r rs in
    let first : one (named n r) ≡ 1 = ap one yes_it_has in omega arith
some_count n (r ∷ rs) (suc k) d within is =
    let more = some_count n rs k d (omega arith) is in
    let sum = count_cons n r rs in omega arith

no_count : (n : List ℕ) (rs : List Record) → ((k : ℕ) (d : Record) → k < length rs → (get_or rs k d).name ≢ n) → count n rs ≡ 0
unfolding one
no_count n [] none = refl
no_count n (r ∷ rs) none =
    let first : named n r ≡ false = by (named n r) (λ t. none 0 r (omega arith) ((bytes_decides r.name n).0 t)) in
    let sum = count_cons n r rs in
    let zero_first : one (named n r) ≡ 0 = ap one first in
    let more = no_count n rs (λ k d within. none (suc k) d (omega arith)) in omega arith
  where
    by : (b : Bool) → (b ≡ true → ⊥) → b ≡ false
    by true bad = absurd (bad refl)
    by false bad = refl

pub distinct_counts : (n : List ℕ) (rs : List Record) → AllPairs (λ r s. r.name ≢ s.name) rs → count n rs ≤ 1
unfolding one
distinct_counts n [] pairs = omega arith
distinct_counts n (r ∷ rs) pairs = go (named n r) refl (distinct_counts n rs (λ i j d low high. pairs (suc i) (suc j) d (omega arith) (omega arith)))
  where
    go : (b : Bool) → named n r ≡ b → count n rs ≤ 1 → count n (r ∷ rs) ≤ 1
    go true is more =
        let same : r.name ≡ n = (bytes_decides r.name n).0 is in
        let none : count n rs ≡ 0 = no_count n rs (λ k d within e. pairs 0 (suc k) d (omega arith) (omega arith) (same ∙ sym e)) in
        let sum = count_cons n r rs in
        let first : one (named n r) ≡ 1 = ap one is in omega arith
    go false is more =
        let sum = count_cons n r rs in
        let first : one (named n r) ≡ 0 = ap one is in omega arith

-- names that do not descend ascend where no two are equal
ascends : (rs : List Record) → Rising rs → ((n : List ℕ) → count n rs ≤ 1) → Ascending rs
unfolding one
ascends [] up few = tt
ascends (r ∷ rs) up few = (first, ascends rs up.1 (λ n. let sum = count_cons n r rs in let all = few n in omega arith))
  where
    first : All (λ s. Below r.name s.name) rs
    first k d within = go (slice_cmp nat_cmp r.name (get_or rs k d).name) refl
      where
        go : (o : Ordering) → slice_cmp nat_cmp r.name (get_or rs k d).name ≡ o → Below r.name (get_or rs k d).name
        go Less is = is
        go Equal is =
            let same = exact_bytes r.name (get_or rs k d).name is in
            let later = some_count r.name rs k d within (sym same) in
            let here : one (named r.name r) ≡ 1 = ap one ((bytes_decides r.name r.name).1 refl) in
            let sum = count_cons r.name r rs in let all = few r.name in absurd (omega arith)
        go Greater is = absurd (up.0 k d within (greater_is_below r.name (get_or rs k d).name is))

-- the record of a name is the only one
named_there : (n : List ℕ) (rs : List Record) → count n rs ≤ 1 → (k : ℕ) (d : Record) → k < length rs → (get_or rs k d).name ≡ n → record_named n rs ≡ Some (get_or rs k d)
unfolding one
named_there n [] few k d within is = absurd (omega arith)
named_there n (r ∷ rs) few zero d within is = ap (λ b. cond b (Some r) (record_named n rs)) ((bytes_decides r.name n).1 is)
named_there n (r ∷ rs) few (suc k) d within is = go (named n r) refl (λ few. named_there n rs few k d (omega arith) is)
  where
    go : (b : Bool) → named n r ≡ b → (count n rs ≤ 1 → record_named n rs ≡ Some (get_or rs k d)) → record_named n (r ∷ rs) ≡ Some (get_or rs k d)
    go true has more =
        let later = some_count n rs k d (omega arith) is in
        let first : one (named n r) ≡ 1 = ap one has in
        let sum = count_cons n r rs in absurd (omega arith)
    go false has more =
        let sum = count_cons n r rs in
        ap (λ b. cond b (Some r) (record_named n rs)) has ∙ more (omega arith)

named_none : (n : List ℕ) (rs : List Record) → count n rs ≡ 0 → record_named n rs ≡ None
unfolding one
named_none n [] none = refl
named_none n (r ∷ rs) none = go (named n r) refl (named_none n rs)
  where
    go : (b : Bool) → named n r ≡ b → (count n rs ≡ 0 → record_named n rs ≡ None) → record_named n (r ∷ rs) ≡ None
    go true has more = let first : one (named n r) ≡ 1 = ap one has in let sum = count_cons n r rs in absurd (omega arith)
    go false has more = let sum = count_cons n r rs in ap (λ b. cond b (Some r) (record_named n rs)) has ∙ more (omega arith)

-- a record has the name, or none has
seek : (n : List ℕ) (rs : List Record) → ((k : ℕ) × (k < length rs) × ((d : Record) → (get_or rs k d).name ≡ n)) ⊎ (count n rs ≡ 0)
unfolding one
seek n [] = inr refl
seek n (r ∷ rs) = go (named n r) refl (seek n rs)
  where
    go : (b : Bool) → named n r ≡ b → ((k : ℕ) × (k < length rs) × ((d : Record) → (get_or rs k d).name ≡ n)) ⊎ (count n rs ≡ 0) → ((k : ℕ) × (k < length (r ∷ rs)) × ((d : Record) → (get_or (r ∷ rs) k d).name ≡ n)) ⊎ (count n (r ∷ rs) ≡ 0)
    go true has more = inl (0, omega arith, λ d. (bytes_decides r.name n).0 has)
    go false has (inl there) = let within = there.1 in inl (suc there.0, omega arith, there.2)
    go false has (inr none) = let sum = count_cons n r rs in let first : one (named n r) ≡ 0 = ap one has in inr (omega arith)

some_record : (rs : List Record) (k : ℕ) → k < length rs → Record
some_record [] k within = absurd (omega arith)
some_record (r ∷ rs) k within = r

pub same_named : (n : List ℕ) (rs ss : List Record) → IsPermutation rs ss → count n rs ≤ 1 → record_named n ss ≡ record_named n rs
same_named n rs ss moved few =
    let equal : count n ss ≡ count n rs = sum_by-IsPermutation (λ x. cond (named n x) 1 0) rs ss moved in
    ⊎_elim
    (λ (there : (k : ℕ) × (k < length rs) × ((d : Record) → (get_or rs k d).name ≡ n)).
    let r0 = some_record rs there.0 there.1 in
    let r = get_or rs there.0 r0 in
    let name : r.name ≡ n = there.2 r0 in
    let held = Contains-permutation rs ss r moved (there.0, there.1, get_or_default rs there.0 r r0 there.1) in
    named_there n ss (omega arith) held.0 r held.1 (ap (λ (x : Record). x.name) held.2 ∙ name) ∙ ap (λ x. Some x) held.2 ∙ sym (named_there n rs few there.0 r0 there.1 name))
    (λ (none : count n rs ≡ 0). named_none n ss (omega arith) ∙ sym (named_none n rs none))
    (seek n rs)

module _ (kind : Kind) (rs : List Record) (distinct : AllPairs (λ r s. r.name ≢ s.name) rs) (text to : List ℕ) (h : Records kind text rs) where
  -- what is kept of a text of records holds them
  pub kept_holds : (sorted : Bool) → (sorted ≡ true → Ascending rs) → Keeps kind sorted text to → HoldsRecords kind rs to
  kept_holds true up kept = record {
    held = rs;
    moved = IsPermutation-refl rs;
    records = subst (λ (t : List ℕ). Records kind t rs) (sym kept) h;
    ascending = up refl;
    named = λ n. refl;
  }
  kept_holds false up kept =
      let same : records_in kept.old ≡ rs = same_records kind text (records_in kept.old) rs kept.before h in
      let moved : IsPermutation rs (records_in kept.new) = subst (λ (xs : List Record). IsPermutation xs (records_in kept.new)) same (IsPermutation-map (λ (p : Piece). p.said) kept.old kept.new kept.sorts.moved) in
      record {
        held = records_in kept.new;
        moved = moved;
        records = kept.after;
        ascending = ascends (records_in kept.new) kept.sorts.rises (λ n.
            let equal : count n (records_in kept.new) ≡ count n rs = sum_by-IsPermutation (λ x. cond (named n x) 1 0) rs (records_in kept.new) moved in
            let few = distinct_counts n rs distinct in omega arith);
        named = λ n. same_named n rs (records_in kept.new) moved (distinct_counts n rs distinct);
      }

-- what a well-formed text is opened to holds its records
pub opens_holds : (kind : Kind) (text : List ℕ) (h : Option Header) (rs : List Record) (kept : List ℕ) (line : ℕ) → IsWellFormed kind text h rs → OpensTo kind text kept line → HoldsRecords kind rs kept
opens_holds kind text h rs kept line formed o =
    let same = same_heading text o.header h o.rest formed.whole.0 o.heads formed.whole.1 in
    let records : Records kind o.rest rs = subst (λ (t : List ℕ). Records kind t rs) (sym same.1) formed.whole.2 in
    kept_holds kind rs formed.distinct o.rest kept records (says_sorted o.header) (λ sorted. formed.ascends (ap says_sorted (sym same.0) ∙ sorted)) o.keeps

pub opened_holds : OpenedHoldsRecords
opened_holds kind text h rs b formed opened = opens_holds kind text h rs (buffer_text b) (buffer_line b) formed opened.opens

pub opened_file_holds : {R : Type 0} {G : Ghosts R} (p : PackedFile R G) → OpenedFileHoldsRecords p
opened_file_holds p kind text h rs formed opened = opens_holds kind text h rs (packed_file_text p) opened.line formed opened.opens
