-- The result of a rewrite.
use Rattle.std.proofs.Common.{◌≡◌, ◌≢◌, ℕ, ◌+◌, Bool, List, [], ◌∷◌, ◌++◌, length, refl, sym, ◌∙◌, ap, subst, arith, Option, Some, None, append-nil, length-append}
use Rattle.std.specs.Prelude.{AllPairs}
use Rattle.std.specs.List.{All, flat_map}
use Rattle.std.specs.declared.cmp.Ordering.TheVariants.{Less, Equal}
use Rattle.std.proofs.lemmas.List.Kept.{AllPairs-cons}
use Rattle.std.proofs.lemmas.List.Elements.{All-cons, All-nil, All-weaker}
use Rattle.gix_ref_hash.specs.declared.hash.Kind.{Kind}
use Rattle.gix_ref_target.specs.PackedRecords.{Record, object_line, record_text, header_text, written_text, written_id}
use Rattle.gix_ref_packed_text.specs.RecordGrammar.{OptionalPeeledLine, Records, Below, Ascending}
use Rattle.gix_ref_packed_text.specs.OpenedText.{IsWellFormed}
use Rattle.gix_ref_packed_text.specs.Positions.{IsObject, IsReadable}
use Rattle.gix_ref_packed_text.specs.WrittenText.{written_header}
use Rattle.gix_ref_packed_text.proofs.ReadBack.{reads_back, same_records}
use Rattle.gix_ref_packed_text.proofs.RecordBytes.{not_stuck}
use Rattle.gix_ref_packed_text.specs.declared.error.Error.{Error}
use Rattle.gix_ref_packed_text.specs.declared.error.Error.TheVariants.{Iteration, Memory}
use Rattle.std.specs.Option.{option_map}
use Rattle.gix_ref_hash.specs.declared.hash.ObjectId.{ObjectId}
use Rattle.gix_ref_hash.specs.Ids.{IsHexOf}
use Rattle.gix_ref_hash.proofs.IdLemmas.{reads_whole, written_reads}
use Rattle.gix_ref_packed_text.specs.declared.edit.RecordEdit.{RecordEdit}
use Rattle.gix_ref_packed_text.specs.Laws.{IsIdOf, IsIdIfAny, NewRecordsAreReadable}
use Rattle.gix_ref_packed_text.specs.declared.outcome.Rewrite.{Rewrite}
use Rattle.gix_ref_packed_text.specs.declared.outcome.Rewrite.TheVariants.{Unchanged, Removed, Text}
use Rattle.gix_ref_packed_text.specs.MergedRecords.{IsMerged}
use Rattle.gix_ref_packed_text.specs.RecordEdits.{record_put, KeysAscend}
use Rattle.gix_ref_packed_text.specs.Rewrites.{IsReadableIfAny, IsRewrite, IsStuckAt, are_altered}
use Rattle.gix_ref_packed_text.specs.internal.Applying.{IsOutcome, Merges}
use Rattle.gix_ref_packed_text.specs.internal.Merging.{merged}
use Rattle.gix_ref_packed_text.proofs.MergeLemmas.{PutsOnly, merged_all, is_merged, equal_cmp}
use Rattle.gix_ref_packed_text.proofs.AlterLemmas.{alters_is}

-- each name is below all that follow
pub ascending_pairs : (rs : List Record) → Ascending rs → AllPairs (λ r s. Below r.name s.name) rs
ascending_pairs [] up = λ i j d lt le. absurd (omega arith)
ascending_pairs (r ∷ rs) up = AllPairs-cons (λ x y. Below x.name y.name) r rs up.0 (ascending_pairs rs up.1)

apart : (a b : List ℕ) → Below a b → a ≢ b
apart a b below same = let equal = equal_cmp a b same in let bad : Less ≡ Equal = sym below ∙ equal in absurd (cc)

distinct_names : (rs : List Record) → Ascending rs → AllPairs (λ r s. r.name ≢ s.name) rs
distinct_names rs up = λ i j d lt le. apart _ _ (ascending_pairs rs up i j d lt le)

-- ---- records that can be read

object_read : (k : Kind) (t : List ℕ) (o : Option (List ℕ)) (rest : List ℕ) → OptionalPeeledLine k t o rest → IsObject k o
object_read k t None rest f = tt
object_read k t (Some object) rest f = f.id

pub records_read : (k : Kind) (t : List ℕ) (rs : List Record) → Records k t rs → All (IsReadable k) rs
records_read k t [] h = All-nil (IsReadable k)
records_read k t (r ∷ rs) h =
    All-cons (IsReadable k) r rs (record { name = h.1.valid; target = h.1.id; object = object_read k h.1.after r.object h.0 h.1.peeled }) (records_read k h.0 rs h.2)

put_read : (k : Kind) (o : Option Record) → IsReadableIfAny k o → (r : Record) → o ≡ Some r → IsReadable k r
put_read k None readable r is = cc
put_read k (Some s) readable r is = let same : s ≡ r = cc in subst (IsReadable k) same readable

puts_read : (k : Kind) (es : List RecordEdit) → All (λ e. IsReadableIfAny k (record_put e)) es → All (PutsOnly (IsReadable k)) es
puts_read k es = All-weaker (λ (e : RecordEdit). IsReadableIfAny k (record_put e)) (PutsOnly (IsReadable k)) (λ e. put_read k (record_put e)) es

-- the text of ascending records that can be read is well formed
pub well_formed : (k : Kind) (rs : List Record) → Ascending rs → All (IsReadable k) rs → IsWellFormed k (written_text rs) (Some written_header) rs
well_formed k rs up all = record { whole = reads_back k rs all; distinct = distinct_names rs up; ascends = λ sorted. up }

-- ---- the outcome

no_bytes : (rs : List Record) → length (flat_map record_text rs) ≡ 0 → rs ≡ []
no_bytes [] none = refl
no_bytes (r ∷ rs) none =
    let whole = length-append (record_text r) (flat_map record_text rs) in
    let line = length-append r.target (32 ∷ (r.name ++ 10 ∷ object_line r.object)) in absurd (omega arith)

pub rewritten : (k : Kind) (es : List RecordEdit) (text old new : List ℕ) (header : ℕ) (altered : Bool) (w : Rewrite) → old ≡ header_text → header ≡ length old → Merges k es text old new altered → IsOutcome new header altered w →
    (rs : List Record) → Records k text rs → Ascending rs → KeysAscend es → IsRewrite k es rs w
rewritten k es text old new header altered w head len m out rs h up keys =
    let same = same_records k text m.read rs m.records h in
    subst (λ (xs : List Record). IsRewrite k es xs w) same (go w out (subst Ascending (sym same) up) keys)
  where
    as_read : Ascending m.read → KeysAscend es → are_altered es m.read ≡ altered
    as_read up keys = sym (alters_is es keys m.read up) ∙ sym (m.alters_is up)

    sum : Ascending m.read → length new ≡ length old + length (flat_map record_text (merged es m.read))
    sum up = ap length (m.adds up) ∙ length-append old (flat_map record_text (merged es m.read))

    go : (w : Rewrite) → IsOutcome new header altered w → Ascending m.read → KeysAscend es → IsRewrite k es m.read w
    go Unchanged out up keys = as_read up keys ∙ out
    go Removed out up keys =
        let total = sum up in
        let size = out.1 in
        let none = no_bytes (merged es m.read) (omega arith) in
        (as_read up keys ∙ out.0, subst (IsMerged es m.read) none (is_merged es keys m.read up))
    go (Text t) out up keys =
        let is_text : t.items ≡ written_text (merged es m.read) = out.2 ∙ (m.adds up ∙ ap (λ h. h ++ flat_map record_text (merged es m.read)) head) in (
          as_read up keys ∙ out.0,
          record {
            new = merged es m.read;
            merged = is_merged es keys m.read up;
            some = λ none. out.1 (ap length (m.adds up ∙ (ap (λ rs. old ++ flat_map record_text rs) none ∙ append-nil old)) ∙ sym len);
            is_text = is_text;
            reads_back = λ readable.
                subst (λ (u : List ℕ). IsWellFormed k u (Some written_header) (merged es m.read)) (sym is_text)
                (well_formed k (merged es m.read) (is_merged es keys m.read up).ascending (merged_all (IsReadable k) es (puts_read k es readable) m.read (records_read k text m.read m.records)));
          },
        )

-- of records it fails for want of memory alone
pub only_memory : (k : Kind) (first : ℕ) (text : List ℕ) (e : Error) (rs : List Record) → IsStuckAt k first text e → Records k text rs → e ≡ Memory
only_memory k first text Memory rs s h = refl
only_memory k first text (Iteration line) rs s h = absurd (not_stuck k text s.before s.rest rs s.fronts s.some s.bad h)

-- ---- laws for callers

id_digits : (k : Kind) (id : ObjectId) → IsIdOf k id → IsHexOf k (written_id id)
id_digits k id of = subst (λ (x : Kind). IsHexOf x (written_id id)) of.0 (reads_whole (written_id id) id (written_reads id of.1)).0

peeled_digits : (k : Kind) (peeled : Option ObjectId) → IsIdIfAny k peeled → IsObject k (option_map written_id peeled)
peeled_digits k None of = tt
peeled_digits k (Some id) of = id_digits k id of

pub new_readable : NewRecordsAreReadable
new_readable kind key new valid target peeled = record { name = valid; target = id_digits kind new.target target; object = peeled_digits kind new.peeled peeled }
