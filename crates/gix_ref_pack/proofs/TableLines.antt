-- The lines of a table of objects, and what it has after each.
use Rattle.std.proofs.Common.{◌≡◌, ◌≢◌, inl, inr, ℕ, ◌+◌, ◌≤◌, arith, Bool, true, false, List, [], ◌∷◌, ◌++◌, ◌==◌, length, refl, sym, ap, subst, Option, Some, None, if◌then◌else◌, cond}
use Rattle.std.specs.Prelude.{is_some}
use Rattle.std.proofs.lemmas.List.{length-append}
use Rattle.gix_ref_hash.specs.Bytes.{Cuts, NoByte}
use Rattle.gix_ref_hash.specs.Ids.{IsHex, IsHexOf, ReadsId, id_kind}
use Rattle.gix_ref_hash.specs.declared.hash.Kind.{Kind}
use Rattle.gix_ref_hash.specs.declared.hash.Kind.TheVariants as kinds
use Rattle.gix_ref_hash.specs.declared.hash.ObjectId.{ObjectId}
use Rattle.gix_ref_hash.specs.declared.hash.ObjectId.TheVariants.{Sha1, Sha256}
use Rattle.std.specs.Ordering.{is_eq}
use Rattle.std.specs.declared.cmp.Ordering.{Ordering}
use Rattle.std.specs.declared.cmp.Ordering.TheVariants.{Less, Equal, Greater}
use Rattle.std.proofs.lemmas.Map.Lookups.{exact_bytes}
use Rattle.gix_ref_hash.proofs.ByteLemmas.{no_split, same_cut}
use Rattle.gix_ref_hash.proofs.IdDigits.{kind_text, no_byte_in_id}
use Rattle.gix_ref_hash.proofs.IdLemmas.{reads_whole}
use Rattle.gix_ref_pack.specs.KnownObjects.{End, end_after, end_in, ends_after, id_order, is_id, is_known, known, known_after}
use Rattle.gix_ref_pack.specs.TableRows.{BeginsWithRows, IsFirstLine, IsRow, IsRowTo}
use Rattle.gix_ref_pack.specs.declared.objects.Objects.{Objects}
use Rattle.gix_ref_pack.specs.declared.objects.Row.{Row}

-- ---- a line

of_kind : (kind : Kind) (text : List ℕ) → IsHexOf kind text → IsHex text
of_kind kinds.Sha1 text is = inl is
of_kind kinds.Sha256 text is = inr is

reads_hex : (text : List ℕ) (id : ObjectId) → ReadsId text id → IsHex text
reads_hex text id reads = of_kind (id_kind id) text (reads_whole text id reads).0

no_blank : (text : List ℕ) (id : ObjectId) → ReadsId text id → NoByte 32 text
no_blank text id reads = no_byte_in_id 32 text refl (kind_text (id_kind id) text (reads_whole text id reads).0)

-- a line without a blank that is no id
pub no_row_whole : (line : List ℕ) → NoByte 32 line → (IsHex line → ⊥) → (row : Row) → IsRow line row → ⊥
no_row_whole line none bad row is = to row.id row.end is
  where
    to : (id : ObjectId) (end : Option ObjectId) → IsRowTo line id end → ⊥
    to id None (inl reads) = bad (reads_hex line id reads)
    to id None (inr (digits, whole, reads)) = no_split 32 digits [] (subst (NoByte 32) whole none)
    to id (Some end) (digits, peeled, whole, reads, ends) = no_split 32 digits peeled (subst (NoByte 32) whole none)

module _ (line first second : List ℕ) (cuts : Cuts 32 line first second) where
  -- the same two parts
  parts : (digits peeled : List ℕ) (id : ObjectId) → line ≡ digits ++ 32 ∷ peeled → ReadsId digits id → (first ≡ digits) × (second ≡ peeled)
  parts digits peeled id whole reads = same_cut 32 line first second digits peeled cuts (record { whole = whole; none = no_blank digits id reads })

  not_whole : (id : ObjectId) → ReadsId line id → ⊥
  not_whole id reads = no_split 32 first second (subst (NoByte 32) cuts.whole (no_blank line id reads))

  -- one whose first part is no id
  pub no_row_first : (IsHex first → ⊥) → (row : Row) → IsRow line row → ⊥
  no_row_first bad row is = to row.id row.end is
    where
      to : (id : ObjectId) (end : Option ObjectId) → IsRowTo line id end → ⊥
      to id None (inl reads) = not_whole id reads
      to id None (inr (digits, whole, reads)) = bad (subst IsHex (sym (parts digits [] id whole reads).0) (reads_hex digits id reads))
      to id (Some end) (digits, peeled, whole, reads, ends) = bad (subst IsHex (sym (parts digits peeled id whole reads).0) (reads_hex digits id reads))

  -- and one whose second part is neither empty nor an id
  pub no_row_second : (second ≡ [] → ⊥) → (IsHex second → ⊥) → (row : Row) → IsRow line row → ⊥
  no_row_second more bad row is = to row.id row.end is
    where
      to : (id : ObjectId) (end : Option ObjectId) → IsRowTo line id end → ⊥
      to id None (inl reads) = not_whole id reads
      to id None (inr (digits, whole, reads)) = more (parts digits [] id whole reads).1
      to id (Some end) (digits, peeled, whole, reads, ends) = bad (subst IsHex (sym (parts digits peeled id whole reads).1) (reads_hex peeled end ends))

-- ---- the lines so far

-- one line more
pub rows_more : (text : List ℕ) (rows : List Row) (rest line after : List ℕ) (row : Row) → BeginsWithRows text rows rest → rest ≢ [] → IsFirstLine rest line after → IsRow line row → BeginsWithRows text (rows ++ row ∷ []) after
rows_more text [] rest line after row begins more first is =
    (line, after, subst (λ (t : List ℕ). t ≢ []) begins more, subst (λ (t : List ℕ). IsFirstLine t line after) begins first, is, refl)
rows_more text (r ∷ rows) rest line after row (l, a, there, cut, was, begins) more first is = (l, a, there, cut, was, rows_more a rows rest line after row begins more first is)

-- each has a byte at least
line_length : (text line after : List ℕ) → text ≢ [] → IsFirstLine text line after → length after + 1 ≤ length text
line_length text line after there (inl cuts) = omega (arith, ap length cuts.whole, length-append line (10 ∷ after))
line_length [] line after there (inr (none, is, ends)) = absurd (there refl)
line_length (b ∷ text) line after there (inr (none, is, ends)) = omega (arith, ap length ends)

pub rows_length : (text : List ℕ) (rows : List Row) (rest : List ℕ) → BeginsWithRows text rows rest → length rows + length rest ≤ length text
rows_length text [] rest begins = omega (arith, ap length begins)
rows_length text (row ∷ rows) rest (line, after, there, cut, is, begins) = omega (arith, rows_length after rows rest begins, line_length text line after there cut)

-- ---- what a table has

-- the lines and one more
pub ends_more : (rows : List Row) (row : Row) (before : End) (id : ObjectId) → ends_after (rows ++ row ∷ []) before id ≡ end_after row (ends_after rows before id) id
ends_more [] row before id = refl
ends_more (r ∷ rows) row before id = ends_more rows row (end_after r before id) id

-- ids that compare equal are the same
pub same_id : (a b : ObjectId) → is_eq (id_order a b) ≡ true → a ≡ b
same_id (Sha1 a) (Sha1 b) is = ap Sha1 (exact_bytes a b (equal _ is))
  where
    equal : (o : Ordering) → is_eq o ≡ true → o ≡ Equal
    equal Less other = cc
    equal Equal same = refl
    equal Greater other = cc
same_id (Sha1 a) (Sha256 b) is = cc
same_id (Sha256 a) (Sha1 b) is = cc
same_id (Sha256 a) (Sha256 b) is = ap Sha256 (exact_bytes a b (equal _ is))
  where
    equal : (o : Ordering) → is_eq o ≡ true → o ≡ Equal
    equal Less other = cc
    equal Equal same = refl
    equal Greater other = cc

-- an object that was not known is known once it is inserted, as one that is no tag
pub inserted : (objects : Objects) (id other : ObjectId) → is_known objects id ≡ false → cond (is_id id other) (Some None) (end_in objects other) ≡ known_after id (end_in objects other) other
inserted objects id other unknown = by (is_id id other) refl
  where
    none : (end : End) → is_some end ≡ false → Some None ≡ known end
    none None new = refl
    none (Some end) new = cc

    by : (b : Bool) → is_id id other ≡ b → cond b (Some None) (end_in objects other) ≡ (if b then known (end_in objects other) else end_in objects other)
    by true same = none (end_in objects other) (subst (λ (o : ObjectId). is_known objects o ≡ false) (same_id id other same) unknown)
    by false differ = refl

-- and one that was known stays as it is
pub stays_known : (objects : Objects) (id other : ObjectId) → is_known objects id ≡ true → end_in objects other ≡ known_after id (end_in objects other) other
stays_known objects id other has = by (is_id id other) refl
  where
    there : (end : End) → is_some end ≡ true → end ≡ known end
    there None old = cc
    there (Some end) old = refl

    by : (b : Bool) → is_id id other ≡ b → end_in objects other ≡ (if b then known (end_in objects other) else end_in objects other)
    by true same = there (end_in objects other) (subst (λ (o : ObjectId). is_known objects o ≡ true) (same_id id other same) has)
    by false differ = refl

-- a rest that is not empty
pub some_left : (rest : List ℕ) (empty : Bool) → empty ≡ (length rest == 0) → empty ≡ false → rest ≢ []
some_left [] empty is filled = cc
some_left (b ∷ rest) empty is filled = λ none. cc
