-- The ids of records, and the order of keys.
use Rattle.std.proofs.Common.{◌≡◌, ◌==◌, ◌*◌, ◌%◌, ◌||◌, ◌<◌, ◌+◌, ℕ, length, get_or, arith, List, [], ◌∷◌, map, Option, Some, None, Bool, true, false, if◌then◌else◌, bytes_eq, refl, sym, ap, ◌∙◌, subst}
use Rattle.std.specs.Prelude.{is_some}
use Rattle.std.specs.List.{IsDistinct}
use Rattle.std.specs.List.Sorted.{IsPermutation, IsSorted, IsSortedByKey, IsStrictlySortedBy}
use Rattle.std.specs.Ordering.{nat_cmp, is_eq, is_lt, ordering_reverse}
use Rattle.std.specs.Cmp.Lexicographic.{slice_cmp}
use Rattle.std.specs.declared.cmp.Ordering.{Ordering}
use Rattle.std.specs.declared.cmp.Ordering.TheVariants.{Less, Equal, Greater}
use Rattle.std.proofs.lemmas.Bool.{true≢false}
use Rattle.std.proofs.lemmas.Cmp.{nat_list_cmp_total, nat_list_eq_equiv}
use Rattle.std.proofs.lemmas.List.{get_or-map, length-map}
use Rattle.std.proofs.lemmas.Map.Keys.{IsDistinct-IsPermutation, apart_from_distinct, sorted_from_all_adjacent}
use Rattle.std.proofs.lemmas.Map.Text.{is_eq-slice_cmp}
use Rattle.hex.proofs.HexLemmas.{decode_of-digits, decode_of-ok}
use Rattle.gix_ref_hash.specs.Ids.{IsHexOf, kind_len}
use Rattle.gix_ref_hash.specs.declared.hash.Kind.{Kind}
use Rattle.gix_ref_hash.specs.declared.hash.Kind.TheVariants as kinds
use Rattle.gix_ref_hash.specs.declared.hash.ObjectId.TheVariants as ids
use Rattle.gix_ref_target.specs.PackedRecords.{Record, record_named, id_in, id_read, id_with}
use Rattle.gix_ref_packed_text.specs.RecordGrammar.{Records}
use Rattle.gix_ref_lookup.specs.Lookups.{ArePackedRecords}
use Rattle.gix_ref_transaction.specs.Causes.{id_of_record}

-- ---- the ids of records

-- the digits of an id are read
digits_read : (kind : Kind) (digits : List ℕ) → IsHexOf kind digits → is_some (id_read digits) ≡ true
digits_read kind digits hex =
    let even : (length digits) % 2 ≡ 0 = by_kind kind hex.len in
    let bytes = decode_of-digits digits even hex.digits in
    let parts = decode_of-ok digits bytes.0 bytes.1 in
    ap (λ r. is_some (id_in r)) bytes.1 ∙ of_len kind bytes.0 (omega (arith, parts.2, hex.len))
  where
    by_kind : (k : Kind) → length digits ≡ 2 * kind_len k → (length digits) % 2 ≡ 0
    by_kind kinds.Sha1 len = omega (arith, len)
    by_kind kinds.Sha256 len = omega (arith, len)

    of_len : (k : Kind) (bytes : List ℕ) → length bytes ≡ kind_len k → is_some (id_with bytes) ≡ true
    of_len kinds.Sha1 bytes len = ap (λ n. is_some (if n == 20 then Some (ids.Sha1 bytes) else if n == 32 then Some (ids.Sha256 bytes) else None)) len
    of_len kinds.Sha256 bytes len = ap (λ n. is_some (if n == 20 then Some (ids.Sha1 bytes) else if n == 32 then Some (ids.Sha256 bytes) else None)) len

-- each record has an id
abbrev pub HaveIds : List Record → Type 0
HaveIds rs = (key : List ℕ) → is_some (id_of_record (record_named key rs)) ≡ is_some (record_named key rs)

records_have_ids : (kind : Kind) (text : List ℕ) (rs : List Record) → Records kind text rs → HaveIds rs
records_have_ids kind text [] are key = refl
records_have_ids kind text (r ∷ rs) are key = by (bytes_eq r.name key) (records_have_ids kind are.0 rs are.2 key)
  where
    by : (b : Bool) → is_some (id_of_record (record_named key rs)) ≡ is_some (record_named key rs) →
        is_some (id_of_record (if b then Some r else record_named key rs)) ≡ is_some (if b then Some r else record_named key rs)
    by true later = digits_read kind r.target are.1.id
    by false later = later

pub packed_have_ids : (kind : Kind) (packed : Option (List ℕ)) (rs : List Record) → ArePackedRecords kind packed rs → HaveIds rs
packed_have_ids kind None rs are = subst HaveIds (sym are) (λ key. refl)
packed_have_ids kind (Some text) rs are = records_have_ids kind are.1.whole.0 rs are.1.whole.2

-- ---- tests

pub or_false : (b : Bool) → (b || false) ≡ b
or_false true = refl
or_false false = refl

-- ---- the order of the keys

-- what is not above another, and is not it, is below it
below : (x y : List ℕ) → is_lt (slice_cmp nat_cmp y x) ≡ false → bytes_eq x y ≡ false → slice_cmp nat_cmp x y ≡ Less
below x y not_above other = by (slice_cmp nat_cmp x y) refl
  where
    by : (o : Ordering) → slice_cmp nat_cmp x y ≡ o → slice_cmp nat_cmp x y ≡ Less
    by Less is = is
    by Equal is = absurd (true≢false (sym (ap is_eq is) ∙ (is_eq-slice_cmp x y ∙ other)))
    by Greater is = absurd (true≢false (sym (ap is_lt (nat_list_cmp_total.antisymm y x ∙ ap ordering_reverse is)) ∙ not_above))

-- keys of which no two are one, in order
pub strictly_sorted : (keys sorted : List (List ℕ)) → IsPermutation keys sorted → IsSorted (slice_cmp nat_cmp) sorted → IsDistinct bytes_eq keys → IsStrictlySortedBy (slice_cmp nat_cmp) sorted
strictly_sorted keys sorted moved in_order distinct =
    let apart = IsDistinct-IsPermutation bytes_eq nat_list_eq_equiv.symm keys sorted moved distinct in
    sorted_from_all_adjacent nat_list_cmp_total sorted [] (λ k lt.
    below (get_or sorted k []) (get_or sorted (k + 1) []) (in_order k [] (omega arith) lt) (apart_from_distinct bytes_eq sorted k (k + 1) [] apart (omega arith) lt))

-- values in the order of their keys have keys in order
pub keys_in_order : {X : Type 0} (key : X → List ℕ) (xs : List X) → IsSortedByKey key (slice_cmp nat_cmp) xs → IsSorted (slice_cmp nat_cmp) (map key xs)
keys_in_order key [] up k d low lt = absurd (omega arith)
keys_in_order key (x ∷ xs) up k d low lt =
    let len = length-map (x ∷ xs) key in
    let within : k + 1 < length (x ∷ xs) = omega (arith, len, lt) in
    let at = get_or-map key (x ∷ xs) k x d (omega (arith, within)) in
    let next = get_or-map key (x ∷ xs) (k + 1) x d within in
    ap (λ (a : List ℕ). is_lt (slice_cmp nat_cmp a (get_or (map key (x ∷ xs)) k d))) next
    ∙ (ap (λ (b : List ℕ). is_lt (slice_cmp nat_cmp (key (get_or (x ∷ xs) (k + 1) x)) b)) at ∙ up k x low within)
