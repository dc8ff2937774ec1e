-- What an edit copies and puts, and what all edits do in turn.
use Rattle.std.proofs.Common.{◌≡◌, ◌≢◌, ℕ, ◌+◌, ◌||◌, Bool, true, false, List, [], ◌∷◌, ◌++◌, drop, refl, sym, ◌∙◌, ap, subst, arith, append_assoc, append-nil}
use Rattle.std.specs.Prelude.{is_some}
use Rattle.std.specs.List.{All, flat_map}
use Rattle.std.proofs.lemmas.List.{nil_from_length}
use Rattle.std.proofs.lemmas.Grind.{flat_map-append}
use Rattle.gix_ref_hash.specs.declared.hash.Kind.{Kind}
use Rattle.gix_ref_target.specs.PackedRecords.{Record, record_text}
use Rattle.gix_ref_packed_text.specs.RecordGrammar.{Takes, Records, Below, Ascending}
use Rattle.gix_ref_packed_text.proofs.RecordBytes.{fronts_all}
use Rattle.gix_ref_packed_text.specs.declared.ahead.Ahead.{Ahead}
use Rattle.gix_ref_packed_text.specs.declared.applied.Applied.{Applied}
use Rattle.gix_ref_packed_text.specs.declared.edit.RecordEdit.{RecordEdit}
use Rattle.gix_ref_packed_text.specs.internal.Passing.{PassesRecords}
use Rattle.gix_ref_packed_text.specs.internal.Merging.{put_by, merged_one, merged, alters_one, alters_some}
use Rattle.gix_ref_packed_text.specs.internal.Applying.{AddsRecords, CopiesUntil, Copies, Applies, Merges}
use Rattle.gix_ref_packed_text.proofs.PassLemmas.{passes_none, passes_join, records_behind, later_ascends}
use Rattle.gix_ref_packed_text.proofs.MergeLemmas.{IsOther, merged_below, merged_behind, merged_named, alters_below, alters_behind, alters_named}

pub adds_join : (rs ss : List Record) (a b c : List ℕ) → AddsRecords rs a b → AddsRecords ss b c → AddsRecords (rs ++ ss) a c
adds_join rs ss a b c first second =
    second ∙ (ap (λ t. t ++ flat_map record_text ss) first
    ∙ (append_assoc a (flat_map record_text rs) (flat_map record_text ss) ∙ ap (λ t. a ++ t) (sym (flat_map-append record_text rs ss))))

-- the record of the key follows the records below it
pub applies_named : (k : Kind) (e : RecordEdit) (a b next : Ahead) (old mid new : List ℕ) → Copies k e.key.now a old mid b → AddsRecords (put_by e) mid new → (r : Record) → r.name ≡ e.key.now → PassesRecords k b (r ∷ []) next → Applies k e a old new (record { ahead = next; alters = true })
applies_named k e a b next old mid new copies puts r named passes =
    let p = copies.0 in
    record {
      passed = p.passed ++ r ∷ [];
      passes = passes_join k a b next p.passed (r ∷ []) p.passes passes;
      written = p.passed ++ put_by e;
      adds = adds_join p.passed (put_by e) old mid new copies.1 puts;
      merges = λ more rs h up.
          ap (merged_one e more) (append_assoc p.passed (r ∷ []) rs)
          ∙ (merged_below e more p.passed (r ∷ rs) (low rs h up)
          ∙ (ap (λ xs. p.passed ++ xs) (merged_named e more r rs named) ∙ sym (append_assoc p.passed (put_by e) (more rs))));
      alters = λ more rs h up.
          ap (alters_one e more) (append_assoc p.passed (r ∷ []) rs)
          ∙ (alters_below e more p.passed (r ∷ rs) (low rs h up) ∙ alters_named e more r rs named);
    }
  where
    low : (rs : List Record) → Records k next.rest.now rs → Ascending ((copies.0.passed ++ r ∷ []) ++ rs) → All (λ x. Below x.name e.key.now) copies.0.passed
    low rs h up = (copies.0.splits (r ∷ rs) (records_behind k b.rest.now (r ∷ []) rs next.rest.now passes.fronts h) (subst Ascending (append_assoc copies.0.passed (r ∷ []) rs) up)).0

-- no record of the key follows them
pub applies_other : (k : Kind) (e : RecordEdit) (a b : Ahead) (old mid new : List ℕ) (alters : Bool) → Copies k e.key.now a old mid b → AddsRecords (put_by e) mid new → ((r : Record) (rest : List ℕ) → Takes k b.rest.now r rest → r.name ≢ e.key.now) → alters ≡ is_some e.put → Applies k e a old new (record { ahead = b; alters = alters })
applies_other k e a b old mid new alters copies puts other is =
    let p = copies.0 in
    record {
      passed = p.passed;
      passes = p.passes;
      written = p.passed ++ put_by e;
      adds = adds_join p.passed (put_by e) old mid new copies.1 puts;
      merges = λ more rs h up.
          merged_below e more p.passed rs (p.splits rs h up).0
          ∙ (ap (λ xs. p.passed ++ xs) (merged_behind e more rs (p.splits rs h up).1 (others rs h)) ∙ sym (append_assoc p.passed (put_by e) (more rs)));
      alters = λ more rs h up.
          alters_below e more p.passed rs (p.splits rs h up).0
          ∙ (alters_behind e more rs (p.splits rs h up).1 (others rs h) ∙ ap (λ x. x || more rs) (sym is));
    }
  where
    others : (rs : List Record) → Records k b.rest.now rs → IsOther e.key.now rs
    others [] h = tt
    others (r ∷ rs) h = other r h.0 h.1

-- ---- edits in turn

-- The edits before a place were applied: what is left, and what the merge has of it. `old` is the text before them.
pub record InTurn (k : Kind) (edits : List RecordEdit) (a : Ahead) (old : List ℕ) (place : ℕ) (b : Ahead) (new : List ℕ) (alters : Bool) : Type 0 where
  pub passed : List Record
  pub passes : PassesRecords k a passed b
  pub written : List Record
  pub adds : AddsRecords written old new
  pub merges : (rs : List Record) → Records k b.rest.now rs → Ascending (passed ++ rs) → merged edits (passed ++ rs) ≡ written ++ merged (drop place edits) rs
  pub alters_is : (rs : List Record) → Records k b.rest.now rs → Ascending (passed ++ rs) → alters_some edits (passed ++ rs) ≡ (alters || alters_some (drop place edits) rs)

pub none_applied : (k : Kind) (edits : List RecordEdit) (a : Ahead) (old : List ℕ) → InTurn k edits a old 0 a old false
none_applied k edits a old = record {
  passed = [];
  passes = passes_none k a;
  written = [];
  adds = sym (append-nil old);
  merges = λ rs h up. refl;
  alters_is = λ rs h up. refl;
}

or_together : (x y z : Bool) → (x || (y || z)) ≡ ((x || y) || z)
or_together true y z = refl
or_together false y z = refl

-- one edit more
pub one_applied : (k : Kind) (edits : List RecordEdit) (a : Ahead) (old : List ℕ) (place : ℕ) (b : Ahead) (mid : List ℕ) (alters : Bool) (e : RecordEdit) (new : List ℕ) (applied : Applied) (both : Bool) → drop place edits ≡ e ∷ drop (place + 1) edits →
    InTurn k edits a old place b mid alters → Applies k e b mid new applied → both ≡ (alters || applied.alters) → InTurn k edits a old (place + 1) applied.ahead new both
one_applied k edits a old place b mid alters e new applied both next was step is = record {
  passed = was.passed ++ step.passed;
  passes = passes_join k a b applied.ahead was.passed step.passed was.passes step.passes;
  written = was.written ++ step.written;
  adds = adds_join was.written step.written old mid new was.adds step.adds;
  merges = λ rs h up.
      ap (merged edits) (append_assoc was.passed step.passed rs)
      ∙ (was.merges (step.passed ++ rs) (records_behind k b.rest.now step.passed rs applied.ahead.rest.now step.passes.fronts h) (subst Ascending (append_assoc was.passed step.passed rs) up)
      ∙ (ap (λ es. was.written ++ merged es (step.passed ++ rs)) next
      ∙ (ap (λ xs. was.written ++ xs) (step.merges (merged (drop (place + 1) edits)) rs h (later rs up)) ∙ sym (append_assoc was.written step.written (merged (drop (place + 1) edits) rs)))));
  alters_is = λ rs h up.
      ap (alters_some edits) (append_assoc was.passed step.passed rs)
      ∙ (was.alters_is (step.passed ++ rs) (records_behind k b.rest.now step.passed rs applied.ahead.rest.now step.passes.fronts h) (subst Ascending (append_assoc was.passed step.passed rs) up)
      ∙ (ap (λ es. alters || alters_some es (step.passed ++ rs)) next
      ∙ (ap (λ x. alters || x) (step.alters (alters_some (drop (place + 1) edits)) rs h (later rs up))
      ∙ (or_together alters applied.alters (alters_some (drop (place + 1) edits) rs) ∙ ap (λ x. x || alters_some (drop (place + 1) edits) rs) (sym is)))));
}
  where
    later : (rs : List Record) → Ascending ((was.passed ++ step.passed) ++ rs) → Ascending (step.passed ++ rs)
    later rs up = later_ascends was.passed (step.passed ++ rs) (subst Ascending (append_assoc was.passed step.passed rs) up)

or_false : (x : Bool) → (x || false) ≡ x
or_false true = refl
or_false false = refl

-- after all edits the records after them are copied
pub all_applied : (k : Kind) (edits : List RecordEdit) (a : Ahead) (old : List ℕ) (place : ℕ) (b : Ahead) (mid : List ℕ) (alters : Bool) (c : Ahead) (new : List ℕ) → drop place edits ≡ [] →
    InTurn k edits a old place b mid alters → CopiesUntil k 0 b mid new c → Merges k edits a.rest.now old new alters
all_applied k edits a old place b mid alters c new none was copies =
    let p = copies.0 in
    let within = p.within in
    let end : c.rest.now ≡ [] = nil_from_length c.rest.now (omega arith) in
    let left : Records k b.rest.now p.passed = fronts_all k b.rest.now p.passed c.rest.now end p.passes.fronts in
    record {
      read = was.passed ++ p.passed;
      records = records_behind k a.rest.now was.passed p.passed b.rest.now was.passes.fronts left;
      adds = λ up. adds_join was.written p.passed old mid new was.adds copies.1 ∙ ap (λ rs. old ++ flat_map record_text rs) (sym (was.merges p.passed left up ∙ ap (λ es. was.written ++ merged es p.passed) none));
      alters_is = λ up. sym (was.alters_is p.passed left up ∙ (ap (λ es. alters || alters_some es p.passed) none ∙ or_false alters));
    }
