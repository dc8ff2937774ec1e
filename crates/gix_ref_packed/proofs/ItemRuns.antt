-- InMemory runs of the iterator over packed references.
use Rattle.std.proofs.Common.{◌≡◌, ⊎_elim, ℕ, true, false, List, [], ◌∷◌, length, refl, sym, ◌∙◌, ap, subst, arith, None, Option, Result, Ok, Err}
use Rattle.std.specs.Iterator.{Yields}
use Rattle.std.specs.Iterator.Runs.{YieldsRun, EachRunFrom}
use Rattle.std.proofs.lemmas.List.Sums.{take_while-cons}
use Rattle.std.proofs.lemmas.Bool.{cond-true, cond-false}
use Rattle.gix_ref_hash.specs.declared.hash.Kind.{Kind}
use Rattle.gix_ref_packed_text.specs.declared.packed.reference.Reference.{Reference}
use Rattle.gix_ref_packed.specs.declared.packed.iter.Iter.{Iter}
use Rattle.gix_ref_packed.specs.declared.packed.iter.error.Error.{Error}
use Rattle.gix_ref_packed.specs.declared.packed.iter.error.Error.TheVariants.{Header as bad_header, Reference as bad_line}
use Rattle.gix_ref_target.specs.PackedRecords.{Record}
use Rattle.gix_ref_packed_text.specs.RecordGrammar.{Takes, Records}
use Rattle.gix_ref_packed_text.specs.Views.{record_of}
use Rattle.gix_ref_packed.specs.Items.{Unread, AreItems, AreRecords, ItemStep, unread, has_prefix}
use Rattle.gix_ref_packed.specs.YetToGive.{asked_records}
use Rattle.gix_ref_packed_text.proofs.OneReading.{same_record}
use Rattle.gix_ref_packed_text.proofs.RecordPlaces.{shorter_record as shorter}

items_law : (Ended : Type 0) (xs : List (Result Reference Error)) (s t : Iter) → Yields ItemStep s xs t → (Ended → (u : Iter) × ItemStep t None u) → AreItems Ended (unread s) xs
items_law Ended [] s t y e = λ end.
    let last = e end in
    (subst (λ (x : Iter). ItemStep x None last.0) (sym y) last.1).0
items_law Ended (x ∷ xs) s t y e = (unread y.0, y.1, items_law Ended xs y.0 t y.2 e)

-- each run from an iterator
pub each_run : (s : Iter) (from : Unread) → unread s ≡ from → EachRunFrom ItemStep s (λ p. AreItems (p.whole ≡ true) from p.items)
unfolding YieldsRun
each_run s from is p seen begins =
    let gave = p.gave.0 in
    let start : Yields ItemStep s p.items gave.0 = subst (λ (x : Iter). Yields ItemStep x p.items gave.0) begins gave.1 in
    subst (λ (u : Unread). AreItems (p.whole ≡ true) u p.items) is (items_law (p.whole ≡ true) p.items s gave.0 start gave.2)

pub none_taken : (k : Kind) (t : List ℕ) (r : Record) (rest : List ℕ) → t ≡ [] → Takes k t r rest → ⊥
none_taken k t r rest none takes =
    let less = shorter k t r rest takes in
    let len : length t ≡ 0 = ap length none in omega arith

pub asked_more : (prefix : Option (List ℕ)) (r : Record) (rs : List Record) → has_prefix prefix r.name ≡ true → asked_records prefix (r ∷ rs) ≡ r ∷ asked_records prefix rs
asked_more prefix r rs has = take_while-cons (λ x. has_prefix prefix x.name) r rs ∙ cond-true (has_prefix prefix r.name) _ _ has

pub asked_end : (prefix : Option (List ℕ)) (r : Record) (rs : List Record) → has_prefix prefix r.name ≡ false → asked_records prefix (r ∷ rs) ≡ []
asked_end prefix r rs no_prefix = take_while-cons (λ x. has_prefix prefix x.name) r rs ∙ cond-false (has_prefix prefix r.name) _ _ no_prefix

-- where the text is records, the items are those that are asked for
pub records_law : (Ended : Type 0) (xs : List (Result Reference Error)) (s : Unread) (rs : List Record) → AreItems Ended s xs → Records s.kind s.text rs → AreRecords Ended (asked_records s.prefix rs) xs
records_law Ended [] s [] items h = λ end. refl
records_law Ended [] s (r ∷ rs) items h = λ end.
    ⊎_elim (λ (none : s.text ≡ []). absurd (none_taken s.kind s.text r h.0 none h.1))
    (λ (other : (x : Record) × (rest : List ℕ) × Takes s.kind s.text x rest × (has_prefix s.prefix x.name ≡ false)).
    let same = same_record s.kind s.text other.0 other.1 r h.0 other.2 h.1 in
    asked_end s.prefix r rs (ap (λ (y : Record). has_prefix s.prefix y.name) (sym same.0) ∙ other.3))
    (items end)
records_law Ended (Ok x ∷ xs) s [] items h = absurd (none_taken s.kind s.text (record_of x) items.0.text h items.1.0)
records_law Ended (Ok x ∷ xs) s (r ∷ rs) items h =
    let t = items.0 in
    let step = items.1 in
    let same = same_record s.kind s.text (record_of x) t.text r h.0 step.0 h.1 in
    let has : has_prefix s.prefix r.name ≡ true = ap (λ (y : Record). has_prefix s.prefix y.name) (sym same.0) ∙ step.1 in
    let rest : Records t.kind t.text rs = subst (λ (k : Kind). Records k t.text rs) (sym step.3.0) (subst (λ (u : List ℕ). Records s.kind u rs) (sym same.1) h.2) in
    let more = records_law Ended xs t rs items.2 rest in (
      asked_records s.prefix rs,
      asked_more s.prefix r rs has ∙ ap (λ y. y ∷ asked_records s.prefix rs) (sym same.0),
      subst (λ (p : Option (List ℕ)). AreRecords Ended (asked_records p rs) xs) step.3.1 more,
    )
records_law Ended (Err (bad_line line number) ∷ xs) s [] items h = items.1.0 h
records_law Ended (Err (bad_line line number) ∷ xs) s (r ∷ rs) items h = items.1.1 r h.0 h.1
records_law Ended (Err (bad_header line) ∷ xs) s rs items h = items.1

pub all_asked : (rs : List Record) → asked_records None rs ≡ rs
all_asked [] = refl
all_asked (r ∷ rs) = asked_more None r rs refl ∙ ap (λ xs. r ∷ xs) (all_asked rs)

pub each_records : (s : Iter) (from : Unread) (rs : List Record) → unread s ≡ from → Records from.kind from.text rs → EachRunFrom ItemStep s (λ p. AreRecords (p.whole ≡ true) (asked_records from.prefix rs) p.items)
each_records s from rs is h p seen begins = records_law (p.whole ≡ true) p.items from rs (each_run s from is p seen begins) h
