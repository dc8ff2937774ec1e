-- What an iterator over any text owes: each name that is asked for, or a line that is no record.
use Rattle.std.proofs.Common.{◌≡◌, ◌⊎◌, inl, inr, ⊎_elim, ℕ, ◌+◌, ◌-◌, ◌<◌, ◌≤◌, suc, true, false, nat_eq, List, [], ◌∷◌, ◌++◌, length, take, drop, sym, ◌∙◌, ap, subst, arith, length-append, None, Some, Option, Ok, Err}
use Rattle.std.specs.List.{Contains, starts_with}
use Rattle.std.proofs.lemmas.Bool.{cases_lt}
use Rattle.std.proofs.lemmas.List.{length-take, length-drop, take-append-drop, drop_all}
use Rattle.gix_ref_hash.specs.declared.hash.Kind.{Kind}
use Rattle.gix_ref_name.proofs.FrontLemmas.{begins_true}
use Rattle.gix_ref_packed_text.specs.declared.packed.reference.Reference.{Reference}
use Rattle.gix_ref_packed.specs.declared.packed.iter.Iter.{Iter}
use Rattle.gix_ref_target.specs.PackedRecords.{Record}
use Rattle.gix_ref_packed_text.specs.RecordGrammar.{Takes, Below}
use Rattle.gix_ref_packed_text.specs.Positions.{BeginsLine}
use Rattle.gix_ref_packed_text.specs.Prefixes.{IsBadLineAt, IsListStart, RecordAt, NameAtLine, NamedLine, NamesAscend, SplitsLines}
use Rattle.gix_ref_packed_text.specs.Views.{record_of}
use Rattle.gix_ref_packed.specs.Items.{Unread, GivesPackedItem, unread, has_prefix}
use Rattle.gix_ref_packed.specs.YetToGive.{IsOwed, NoneIsBefore, IsInOrder, IsAtBadLine, IsAsked, Owes, NextPaysOne}
use Rattle.gix_ref_packed_text.proofs.LineBounds.{name_of, named_inside, named_of, place_of}
use Rattle.gix_ref_packed_text.proofs.LowerBounds.{begins, between, prefix_not_below}
use Rattle.gix_ref_packed_text.proofs.TakenLines.{behind_ascends, behind_named, first_or_later, first_there, rest_ascends, named_in_text, named_in_rest}

-- ---- one item

-- where the first record has another name, no later one is asked for
other_ends : (it : Iter) (y : Record) (rest : List ℕ) → Takes (unread it).kind (unread it).text y rest → has_prefix (unread it).prefix y.name ≡ false → IsInOrder it → (name : List ℕ) → IsOwed it name → ⊥
other_ends it y rest takes other order name owed =
    ⊎_elim
    (λ (same : name ≡ y.name). let both : true ≡ false = sym owed.1 ∙ ap (has_prefix s.prefix) same ∙ other in cc)
    (λ (later : (0 < owed.0.0) × ((q : ℕ) × NamedLine s.kind rest q name)).
    go s.prefix order.from owed.1 other (order.ascend 0 owed.0.0 y.name name later.0 (name_of s.kind s.text 0 y first) (place_of s.kind s.text owed.0.0 name owed.0.1)))
    (first_or_later s.kind s.text y rest takes owed.0.0 name owed.0.1)
  where
    s : Unread
    s = unread it

    first : RecordAt (unread it).kind (unread it).text 0 y
    first = first_there (unread it).kind (unread it).text y rest takes

    go : (prefix : Option (List ℕ)) → NoneIsBefore prefix it → has_prefix prefix name ≡ true → has_prefix prefix y.name ≡ false → Below y.name name → ⊥
    go None before has other below = let both : true ≡ false = other in cc
    go (Some prefix) before has other below =
        let mid = between prefix y.name (drop (length prefix) name) (before 0 y.name (named_of s.kind s.text 0 y first)) (subst (Below y.name) (begins name prefix has) below) in
        let both : true ≡ false = sym (begins_true prefix y.name mid.0 mid.1) ∙ other in cc

-- at its end nothing is owed
none_owed : (s t : Iter) → GivesPackedItem (unread s) None (unread t) → IsInOrder s → (name : List ℕ) → IsOwed s name → ⊥
none_owed s t step order name owed =
    ⊎_elim
    (λ (empty : (unread s).text ≡ []).
    let inside = named_inside (unread s).kind (unread s).text owed.0.0 name owed.0.1 in
    let none : length (unread s).text ≡ 0 = ap length empty in omega arith)
    (λ (other : (y : Record) × (rest : List ℕ) × Takes (unread s).kind (unread s).text y rest × (has_prefix (unread s).prefix y.name ≡ false)).
    other_ends s other.0 other.1 other.2 other.3 order name owed)
    step.0

-- after its first record names ascend as before
later_order : (s t : Iter) (x : Reference) → GivesPackedItem (unread s) (Some (Ok x)) (unread t) → IsInOrder s → IsInOrder t
later_order s t x step order = record {
  ascend = subst (λ (k : Kind). NamesAscend k (unread t).text) (sym step.3.0) (behind_ascends (unread s).kind (unread s).text (record_of x) (unread t).text step.0 order.ascend);
  from = subst (λ (o : Option (List ℕ)). NoneIsBefore o t) (sym step.3.1) (go (unread s).prefix order.from);
}
  where
    go : (o : Option (List ℕ)) → NoneIsBefore o s → NoneIsBefore o t
    go None before = tt
    go (Some prefix) before = λ q name at.
        let there = subst (λ (k : Kind). NamedLine k (unread t).text q name) step.3.0 at in
        before _ name (behind_named (unread s).kind (unread s).text (record_of x) (unread t).text step.0 q name there)

-- what is owed is the name of the record that is given, or is owed still
owed_after : (s t : Iter) (x : Reference) → GivesPackedItem (unread s) (Some (Ok x)) (unread t) → (name : List ℕ) → IsOwed s name → (name ≡ (record_of x).name) ⊎ IsOwed t name
owed_after s t x step name owed =
    ⊎_elim
    (λ (same : name ≡ (record_of x).name). inl same)
    (λ (later : (0 < owed.0.0) × ((q : ℕ) × NamedLine (unread s).kind (unread t).text q name)).
    inr (
      (later.1.0, subst (λ (k : Kind). NamedLine k (unread t).text later.1.0 name) (sym step.3.0) later.1.1),
      ap (λ (o : Option (List ℕ)). has_prefix o name) step.3.1 ∙ owed.1,
    ))
    (first_or_later (unread s).kind (unread s).text (record_of x) (unread t).text step.0 owed.0.0 name owed.0.1)

-- nothing ends at a line that is no record, and no record is there
bad_goes_on : (s t : Iter) → IsAtBadLine s → GivesPackedItem (unread s) None (unread t) → ⊥
bad_goes_on s t bad step = ⊎_elim bad.some (λ (other : (y : Record) × (rest : List ℕ) × Takes (unread s).kind (unread s).text y rest × (has_prefix (unread s).prefix y.name ≡ false)). bad.bad other.0 other.1 other.2) step.0

first_contained : (x name : List ℕ) (xs : List (List ℕ)) → name ≡ x → Contains (x ∷ xs) name
first_contained x name xs same = (0, omega arith, sym same)

later_contained : (x name : List ℕ) (xs : List (List ℕ)) → Contains xs name → Contains (x ∷ xs) name
later_contained x name xs has = let within = has.1 in (suc has.0, omega arith, has.2)

pub next_pays : NextPaysOne
next_pays kind text prefix given s t None owes step = λ name asked.
    ⊎_elim
    (λ (bad : IsAtBadLine s). absurd (bad_goes_on s t bad step))
    (λ (order : IsInOrder s × ((name : List ℕ) → IsAsked kind text prefix name → Contains given name ⊎ IsOwed s name)).
    ⊎_elim (λ (has : Contains given name). has) (λ (owed : IsOwed s name). absurd (none_owed s t step order.0 name owed)) (order.1 name asked))
    owes
next_pays kind text prefix given s t (Some (Ok x)) owes step =
    ⊎_elim
    (λ (bad : IsAtBadLine s). absurd (bad.bad (record_of x) (unread t).text step.0))
    (λ (order : IsInOrder s × ((name : List ℕ) → IsAsked kind text prefix name → Contains given name ⊎ IsOwed s name)).
    inr (
      later_order s t x step order.0,
      λ name asked. ⊎_elim
          (λ (has : Contains given name). inl (later_contained (record_of x).name name given has))
          (λ (owed : IsOwed s name). ⊎_elim
          (λ (same : name ≡ (record_of x).name). inl (first_contained (record_of x).name name given same))
          (λ (later : IsOwed t name). inr later)
          (owed_after s t x step name owed))
          (order.1 name asked),
    ))
    owes
next_pays kind text prefix given s t (Some (Err e)) owes step = tt

-- ---- the iterator of a prefix

-- no name is in an empty text
pub no_name : (k : Kind) (t : List ℕ) → t ≡ [] → (p : ℕ) (m : List ℕ) → NameAtLine k t p m → ⊥
no_name k t empty p m at =
    let line = at.1.2 in
    let none : length t ≡ 0 = ap length empty in
    let len : length (drop p t) ≡ length at.1.0 + length (32 ∷ line.after) = ap length line.whole ∙ length-append at.1.0 (32 ∷ line.after) in
    omega (arith, length-drop p t)

-- the names of the prefix come from there on
pub not_before : (k : Kind) (text prefix : List ℕ) (start : ℕ) → SplitsLines k text prefix start → (name : List ℕ) (asked : IsAsked k text prefix name) → start ≤ asked.0.0
not_before k text prefix start split name asked =
    ⊎_elim
    (λ (early : asked.0.0 < start).
    absurd (prefix_not_below prefix (drop (length prefix) name) (subst (λ (m : List ℕ). Below m prefix) (begins name prefix asked.1) (split.low asked.0.0 name early asked.0.1))))
    (λ (late : start ≤ asked.0.0). late)
    (cases_lt asked.0.0 start)

module _ (it : Iter) (k : Kind) (text prefix : List ℕ) (number start : ℕ) (is : unread it ≡ record { kind = k; prefix = Some prefix; number = number; text = drop start text }) where
  in_unread : (name : List ℕ) → ((p : ℕ) × NamedLine k (drop start text) p name) → starts_with nat_eq name prefix ≡ true → IsOwed it name
  in_unread name there has =
      (subst (λ (u : Unread). (p : ℕ) × NamedLine u.kind u.text p name) (sym is) there, ap (λ (u : Unread). has_prefix u.prefix name) is ∙ has)

  in_order : NamesAscend k (drop start text) → ((p : ℕ) (name : List ℕ) → NamedLine k (drop start text) p name → Below name prefix → ⊥) → IsInOrder it
  in_order ascend from = record {
    ascend = subst (λ (u : Unread). NamesAscend u.kind u.text) (sym is) ascend;
    from = subst (λ (o : Option (List ℕ)). NoneIsBefore o it) (sym (ap (λ (u : Unread). u.prefix) is)) (λ p name at. from p name (subst (λ (u : Unread). NamedLine u.kind u.text p name) is at));
  }

  at_bad_line : IsBadLineAt k text start → IsAtBadLine it
  at_bad_line bad = record {
    some = λ none.
        let empty : drop start text ≡ [] = sym (ap (λ (u : Unread). u.text) is) ∙ none in
        let zero : length (drop start text) ≡ 0 = ap length empty in
        let some = bad.some in omega (arith, length-drop start text);
    bad = λ r rest takes. bad.bad r rest (subst (λ (u : Unread). Takes u.kind u.text r rest) is takes);
  }

  -- at the end of the text none is left
  owes_none : start ≡ length text → SplitsLines k text prefix start → Owes k text prefix [] it
  owes_none end split =
      let empty : drop start text ≡ [] = drop_all start text (omega arith) in
      inr (
        in_order (λ p q m n before a b. absurd (no_name k (drop start text) empty p m a)) (λ p name at below. no_name k (drop start text) empty p name (place_of k (drop start text) p name at)),
        λ name asked. absurd (let late = not_before k text prefix start split name asked in let inside = named_inside k text asked.0.0 name asked.0.1 in omega arith),
      )

  -- where a line begins, the rest of the text has them
  owes_rest : start ≤ length text → BeginsLine text start → NamesAscend k text → SplitsLines k text prefix start → Owes k text prefix [] it
  owes_rest within line ascend split =
      let front = take start text in
      let whole : text ≡ front ++ drop start text = sym (take-append-drop start text) in
      let len : length front ≡ start = omega (arith, length-take start text) in
      let begins_there : BeginsLine text (length front) = subst (BeginsLine text) (sym len) line in
      inr (
        in_order (rest_ascends text front (drop start text) whole begins_there k ascend) (λ p name at. split.high (length front + p) name (omega arith) (named_in_text text front (drop start text) whole begins_there k p name at)),
        λ name asked. inr (in_unread name (
          asked.0.0 - length front,
          named_in_rest text front (drop start text) whole begins_there k asked.0.0 name (let late = not_before k text prefix start split name asked in omega arith) asked.0.1,
        ) asked.1),
      )

  -- from the place on at which the records of a prefix begin it owes all of them
  pub owes_prefixed : IsListStart text start → NamesAscend k text → IsBadLineAt k text start ⊎ SplitsLines k text prefix start → Owes k text prefix [] it
  owes_prefixed starts ascend bound =
      ⊎_elim
      (λ (bad : IsBadLineAt k text start). inl (at_bad_line bad))
      (λ (split : SplitsLines k text prefix start). ⊎_elim
      (λ (end : start ≡ length text). owes_none end split)
      (λ (line : BeginsLine text start). owes_rest starts.within line ascend split)
      starts.begins)
      bound

abbrev pub FirstOf : Kind → List ℕ → List ℕ → ℕ → Type 0
FirstOf k text prefix start = NamesAscend k text → IsBadLineAt k text start ⊎ SplitsLines k text prefix start

-- the same place begins the same records
pub same_first : (k kind : Kind) (text t prefix wanted : List ℕ) (start : ℕ) → kind ≡ k → t ≡ text → wanted ≡ prefix → FirstOf kind t wanted start → FirstOf k text prefix start
same_first k kind text t prefix wanted start same_kind same_text same_name first =
    subst (λ (x : Kind). FirstOf x text prefix start) same_kind (subst (λ (u : List ℕ). FirstOf kind u prefix start) same_text (subst (λ (n : List ℕ). FirstOf kind t n start) same_name first))
