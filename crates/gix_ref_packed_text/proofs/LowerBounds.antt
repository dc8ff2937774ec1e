-- Where the first record begins whose name is not below the one that is wanted.
use Rattle.std.proofs.Common.{◌≡◌, ◌⊎◌, inl, inr, ⊎_elim, ℕ, ◌+◌, ◌-◌, ◌<◌, ◌≤◌, Bool, true, false, cond, List, [], ◌∷◌, ◌++◌, length, drop, refl, sym, ◌∙◌, ap, subst, arith, length-append, nat_eq, Some, None}
use Rattle.std.specs.List.{All, starts_with, take_while}
use Rattle.std.specs.Cmp.Lexicographic.{slice_cmp}
use Rattle.std.specs.Ordering.{nat_cmp, ordering_then}
use Rattle.std.specs.declared.cmp.Ordering.{Ordering}
use Rattle.std.proofs.lemmas.Map.Lookups.{exact_bytes}
use Rattle.std.specs.declared.cmp.Ordering.TheVariants.{Less, Equal, Greater}
use Rattle.std.specs.Cmp.{nat_cmp_is}
use Rattle.std.proofs.Math.Seq.{drop-append-add}
use Rattle.std.proofs.lemmas.Bool.{cases_lt, cases_eq, cond-true, cond-false}
use Rattle.std.proofs.lemmas.Cmp.{nat_list_cmp_total}
use Rattle.std.proofs.lemmas.List.{drop_all}
use Rattle.std.proofs.lemmas.List.Elements.{All-head, All-tail, All-cons, All-nil}
use Rattle.std.proofs.lemmas.List.Sums.{take_while-cons}
use Rattle.std.proofs.lemmas.Slice.Eq.{starts_is}
use Rattle.std.proofs.lemmas.Bool.Decides.{Decides-eqb}
use Rattle.gix_ref_hash.specs.declared.hash.Kind.{Kind}
use Rattle.gix_ref_name.proofs.FrontLemmas.{begins_true}
use Rattle.gix_ref_target.specs.PackedRecords.{Record}
use Rattle.gix_ref_packed_text.specs.RecordGrammar.{Records, Forms, Below, Rising}
use Rattle.gix_ref_packed_text.specs.OpenedText.{Fronts}
use Rattle.gix_ref_packed_text.specs.Positions.{LineOf, RecordOf, SameLine, NameAt, Orders, OrdersIfNamed}
use Rattle.gix_ref_packed_text.specs.Probed.{IsProbeAt}
use Rattle.gix_ref_packed_text.specs.declared.packed.searchable.Probe.{Probe}
use Rattle.gix_ref_packed_text.specs.Prefixes.{SplitsAt, IsListStart, records_prefixed}
use Rattle.gix_ref_packed_text.proofs.RecordPlaces.{Begins, owned, shorter, shorter_record, begins_a_line, forms_of}
use Rattle.gix_ref_packed_text.proofs.RecordBytes.{lines_taken}
use Rattle.gix_ref_packed_text.proofs.Halves.{belongs, greater_is_below, same_place, owner_compares, saw_malformed_line, start_below, begins_line, in_text}

-- the end of the text, or the place of a record
abbrev pub Edge : (k : Kind) (text : List ℕ) (rs : List Record) → Forms k text rs → ℕ → Type 0
Edge k text rs h p = (p ≡ length text) ⊎ ((r : Record) × Begins k text rs h p r)

-- the names before `low` are below the wanted one, those from `high` on are not
pub record Bounded (k : Kind) (text n : List ℕ) (low high : ℕ) (rs : List Record) (h : Forms k text rs) : Type 0 where
  pub under : (q : ℕ) (y : Record) → Begins k text rs h q y → q < low → Below y.name n
  pub over : (q : ℕ) (y : Record) → Begins k text rs h q y → high ≤ q → Below y.name n → ⊥
  pub edge : Edge k text rs h high

abbrev pub Bound : Kind → List ℕ → List ℕ → ℕ → ℕ → Type 0
Bound k text n low high = (rs : List Record) (h : Forms k text rs) → Rising rs → Bounded k text n low high rs h

below_low : (a b n : List ℕ) → (Below b a → ⊥) → Below b n → Below a n
below_low a b n low below = go (slice_cmp nat_cmp a b) refl
  where
    go : (o : Ordering) → slice_cmp nat_cmp a b ≡ o → Below a n
    go Less is = nat_list_cmp_total.trans a b n is below
    go Equal is = subst (λ (x : List ℕ). Below x n) (sym (exact_bytes a b is)) below
    go Greater is = absurd (low (greater_is_below a b is))

pub below_or : (s x y : List ℕ) → Below s x → (Below y x → ⊥) → Below s y
below_or s x y below low = go (slice_cmp nat_cmp x y) refl
  where
    go : (o : Ordering) → slice_cmp nat_cmp x y ≡ o → Below s y
    go Less is = nat_list_cmp_total.trans s x y below is
    go Equal is = subst (Below s) (exact_bytes x y is) below
    go Greater is = absurd (low (greater_is_below x y is))

-- a later record has no lower name
not_later : (k : Kind) (text : List ℕ) (rs : List Record) (h : Forms k text rs) → Rising rs → (p : ℕ) (r : Record) (q : ℕ) (s : Record) → Begins k text rs h p r → Begins k text rs h q s → p < q → Below s.name r.name → ⊥
not_later k text [] h up p r q s a b before = absurd a
not_later k text (x ∷ xs) h up p r q s a b before = ⊎_elim
    (λ (first : (p ≡ 0) × (r ≡ x)). ⊎_elim
    (λ (again : (q ≡ 0) × (s ≡ x)). let e = again.0 in absurd (omega arith))
    (λ (second : (j : ℕ) × (q + length h.0 ≡ length text + j) × Begins k h.0 xs h.2 j s).
    subst (λ (y : Record). Below s.name y.name → ⊥) (sym first.1) (belongs (λ y. Below y.name x.name → ⊥) k h.0 xs h.2 second.0 s up.0 second.2)) b)
    (λ (first : (i : ℕ) × (p + length h.0 ≡ length text + i) × Begins k h.0 xs h.2 i r). ⊎_elim
    (λ (again : (q ≡ 0) × (s ≡ x)). let e = again.0 in absurd (omega arith))
    (λ (second : (j : ℕ) × (q + length h.0 ≡ length text + j) × Begins k h.0 xs h.2 j s).
    let e = first.1 in let d = second.1 in
    not_later k h.0 xs h.2 up.1 first.0 r second.0 s first.2 second.2 (omega arith)) b) a

pub bound_first : (k : Kind) (text n : List ℕ) → Bound k text n 0 (length text)
bound_first k text n rs h up = record {
  under = λ q y b early. absurd (omega arith);
  over = λ q y b late below. let inside = in_text k text rs h q y b in omega arith;
  edge = inl refl;
}

module _ (k : Kind) (text n : List ℕ) (s o : ℕ) (within : o < length text) (at : RecordOf text s o) (x : Ordering)
    (compares : (m : List ℕ) → NameAt k (drop s text) m → x ≡ slice_cmp nat_cmp m n) where
  pub bound_less : (low high next : ℕ) → o < next → SameLine text o next → x ≡ Less → Bound k text n low high → Bound k text n next high
  bound_less low high next beyond line below bound rs h up =
      let own = owned k text rs h s o within at in
      let was = bound rs h up in
      let under : Below own.owner.name n = sym (owner_compares k text n s o within at x compares rs h) ∙ below in
      record {
        under = λ q y b early.
            let near : q ≤ s = ⊎_elim
            (λ (low : q ≤ s). low)
            (λ (far : o < q). absurd (line (q - 1) (omega arith) (omega arith) (begins_a_line k text rs h q y b (omega arith))))
            (own.others q y b) in
            ⊎_elim
            (λ (before : q < s). below_low y.name own.owner.name n (not_later k text rs h up q y s own.owner b own.begins before) under)
            (λ (late : s ≤ q). subst (λ (x : Record). Below x.name n) (sym (same_place k text rs h q y s own.owner b own.begins (omega arith))) under)
            (cases_lt q s);
        over = was.over;
        edge = was.edge;
      }

  pub bound_greater : (low high : ℕ) → (x ≡ Less → ⊥) → Bound k text n low high → Bound k text n low s
  bound_greater low high above bound rs h up =
      let own = owned k text rs h s o within at in
      let was = bound rs h up in
      let over : Below own.owner.name n → ⊥ = λ below. above (owner_compares k text n s o within at x compares rs h ∙ below) in
      record {
        under = was.under;
        over = λ q y b late below. ⊎_elim
            (λ (after : s < q). over (below_low own.owner.name y.name n (not_later k text rs h up s own.owner q y own.begins b after) below))
            (λ (same : q ≤ s). over (subst (λ (x : Record). Below x.name n) (same_place k text rs h q y s own.owner b own.begins (omega arith)) below))
            (cases_lt s q);
        edge = inr (own.owner, own.begins);
      }

-- one record that is met at a byte `o` between `low` and `high`
module _ (k : Kind) (text n : List ℕ) (low high o : ℕ) (sure : Bool) (probe : Probe) (within : o < length text) (probed : IsProbeAt k text n sure o probe) (beyond : o < probe.next)
    (bound : Bound k text n low high) where
  orders : (x : Ordering) → probe.order ≡ Some x → Orders k (drop probe.start text) n sure x
  orders x is = let order = probed.order in subst (OrdersIfNamed k (drop probe.start text) n sure) is order

  -- a text of records has no line without the form of one
  pub no_malformed : probe.order ≡ None → (rs : List Record) → Records k text rs → ⊥
  no_malformed is rs h =
      let order = probed.order in
      saw_malformed_line k text probe.start o within probed.record_of (subst (OrdersIfNamed k (drop probe.start text) n sure) is order) rs (forms_of k text rs h)

  pub passes_low : probe.order ≡ Some Less → Bound k text n probe.next high
  passes_low is =
      bound_less k text n probe.start o within probed.record_of Less (orders Less is).compares low high probe.next beyond probed.line refl bound

  pub stops_high : (x : Ordering) → probe.order ≡ Some x → (x ≡ Less → ⊥) → Bound k text n low probe.start
  stops_high x is not_less =
      bound_greater k text n probe.start o within probed.record_of x (orders x is).compares low high not_less bound

  pub starts_there : IsListStart text probe.start
  starts_there = record {
    within = let below = start_below text probe.start o probed.record_of in omega arith;
    begins = inr (begins_line text probe.start o probed.record_of);
  }

-- ---- the list at a place

all_of : (k : Kind) (text : List ℕ) (rs : List Record) (h : Forms k text rs) (Q : Record → Type 0) → ((q : ℕ) (y : Record) → Begins k text rs h q y → Q y) → All Q rs
all_of k text [] h Q f = All-nil Q
all_of k text (x ∷ xs) h Q f =
    let less = shorter k text x h.0 h.1 in
    All-cons Q x xs (f 0 x (inl (refl, refl))) (all_of k h.0 xs h.2 Q (λ q y b. f (length text - length h.0 + q) y (inr (q, omega arith, b))))

split_at : (k : Kind) (text n : List ℕ) (rs : List Record) (h : Records k text rs) (p : ℕ) → Bounded k text n p p rs (forms_of k text rs h) → SplitsAt k text rs n p
split_at k text n [] h p bound =
    let len : length text ≡ 0 = ap length h in
    record { before = []; after = []; is = refl; front = h ∙ sym (drop_all p text (omega arith)); rest = drop_all p text (omega arith); low = All-nil (λ r. Below r.name n); high = All-nil (λ r. Below r.name n → ⊥) }
split_at k text n (x ∷ xs) h p bound =
    let less = shorter_record k text x h.0 h.1 in
    ⊎_elim
    (λ (first : p ≡ 0).
    record {
      before = [];
      after = x ∷ xs;
      is = refl;
      front = ap (λ i. drop i text) (sym first);
      rest = subst (λ (i : ℕ). Records k (drop i text) (x ∷ xs)) (sym first) h;
      low = All-nil (λ r. Below r.name n);
      high = all_of k text (x ∷ xs) (forms_of k text (x ∷ xs) h) (λ r. Below r.name n → ⊥) (λ q y b. bound.over q y b (omega arith));
    })
    (λ (later : p ≡ 0 → ⊥).
    let edge : (m : ℕ) × (p + length h.0 ≡ length text + m) × Edge k h.0 xs (forms_of k h.0 xs h.2) m = ⊎_elim
    (λ (end : p ≡ length text). (length h.0, omega arith, inl refl))
    (λ (at : (r : Record) × Begins k text (x ∷ xs) (forms_of k text (x ∷ xs) h) p r). ⊎_elim
    (λ (here : (p ≡ 0) × (at.0 ≡ x)). absurd (later here.0))
    (λ (there : (q : ℕ) × (p + length h.0 ≡ length text + q) × Begins k h.0 xs (forms_of k h.0 xs h.2) q at.0). (there.0, there.1, inr (at.0, there.2))) at.1)
    bound.edge in
    let m = edge.0 in
    let place = edge.1 in
    let more = split_at k h.0 n xs h.2 m (record {
      under = λ q y b early. bound.under (length text - length h.0 + q) y (inr (q, omega arith, b)) (omega arith);
      over = λ q y b late. bound.over (length text - length h.0 + q) y (inr (q, omega arith, b)) (omega arith);
      edge = edge.2;
    }) in
    let l = lines_taken k text x h.0 h.1 in
    let len : length text ≡ length l.front + length h.0 = ap length l.whole ∙ length-append l.front h.0 in
    let split : p ≡ length l.front + m = omega arith in
    let dropped : drop m h.0 ≡ drop p text = sym (drop-append-add l.front h.0 m) ∙ ap (drop (length l.front + m)) (sym l.whole) ∙ ap (λ i. drop i text) (sym split) in
    record {
      before = x ∷ more.before;
      after = more.after;
      is = ap (λ rs. x ∷ rs) more.is;
      front = (h.0, h.1, subst (λ (t : List ℕ). Fronts k h.0 more.before t) dropped more.front);
      rest = subst (λ (t : List ℕ). Records k t more.after) dropped more.rest;
      low = All-cons (λ r. Below r.name n) x more.before (bound.under 0 x (inl (refl, refl)) (omega arith)) more.low;
      high = more.high;
    })
    (cases_eq p 0)

-- where the two bounds met
pub splits : (k : Kind) (text n : List ℕ) (low high : ℕ) → high ≤ low → Bound k text n low high → (rs : List Record) → Records k text rs → Rising rs → SplitsAt k text rs n high
splits k text n low high met bound rs h up =
    let was = bound rs (forms_of k text rs h) up in
    split_at k text n rs h high (record { under = λ q y b early. was.under q y b (omega arith); over = was.over; edge = was.edge })

-- ---- names of a prefix

pub same_byte : (a : ℕ) → Equal ≡ nat_cmp a a
same_byte a = nat_cmp_is a a Equal refl

pub prefix_not_below : (p r : List ℕ) → Below (p ++ r) p → ⊥
prefix_not_below [] [] h = absurd (cc)
prefix_not_below [] (x ∷ r) h = absurd (cc)
prefix_not_below (a ∷ p) r h = prefix_not_below p r (ap (λ o. ordering_then o (slice_cmp nat_cmp (p ++ r) p)) (same_byte a) ∙ h)

pub between : (p y r : List ℕ) → (Below y p → ⊥) → Below y (p ++ r) → (s : List ℕ) × (y ≡ p ++ s)
between [] y r above below = (y, refl)
between (a ∷ p) [] r above below = absurd (above refl)
between (a ∷ p) (b ∷ y) r above below = ⊎_elim
    (λ (less : b < a). absurd (above (ap (λ o. ordering_then o (slice_cmp nat_cmp y p)) (sym (nat_cmp_is b a Less less)))))
    (λ (not_less : a ≤ b). ⊎_elim
    (λ (same : b ≡ a).
    let tie : Equal ≡ nat_cmp b a = nat_cmp_is b a Equal same in
    let more = between p y r (λ h. above (ap (λ o. ordering_then o (slice_cmp nat_cmp y p)) (sym tie) ∙ h)) (ap (λ o. ordering_then o (slice_cmp nat_cmp y (p ++ r))) tie ∙ below) in
    (more.0, ap (λ c. c ∷ y) same ∙ ap (λ u. a ∷ u) more.1))
    (λ (other : b ≡ a → ⊥).
    let great : Greater ≡ nat_cmp b a = nat_cmp_is b a Greater (omega arith) in
    let bad : Greater ≡ Less = ap (λ o. ordering_then o (slice_cmp nat_cmp y (p ++ r))) great ∙ below in absurd (cc))
    (cases_eq b a))
    (cases_lt b a)

pub between_or_same : (p y z r : List ℕ) → (Below y p → ⊥) → z ≡ p ++ r → (Below z y → ⊥) → (s : List ℕ) × (y ≡ p ++ s)
between_or_same p y z r above is low = go (slice_cmp nat_cmp y z) refl
  where
    go : (o : Ordering) → slice_cmp nat_cmp y z ≡ o → (s : List ℕ) × (y ≡ p ++ s)
    go Less below = between p y r above (subst (Below y) is below)
    go Equal same = (r, exact_bytes y z same ∙ is)
    go Greater great = absurd (low (greater_is_below y z great))

pub begins : (n front : List ℕ) → starts_with nat_eq n front ≡ true → n ≡ front ++ drop (length front) n
begins n front h = (starts_is Decides-eqb n front (starts_with nat_eq n front) refl).0 h

module _ (prefix : List ℕ) where
  pub none_kept : (xs : List Record) → All (λ r. starts_with nat_eq r.name prefix ≡ false) xs → records_prefixed prefix xs ≡ []
  none_kept [] all = refl
  none_kept (x ∷ xs) all =
      cond-false (starts_with nat_eq x.name prefix) _ _ (All-head (λ r. starts_with nat_eq r.name prefix ≡ false) x xs all)
      ∙ none_kept xs (All-tail (λ r. starts_with nat_eq r.name prefix ≡ false) x xs all)

  pub by_false : (b : Bool) → (b ≡ true → ⊥) → b ≡ false
  by_false true bad = absurd (bad refl)
  by_false false bad = refl

  pub low_are_not : (xs : List Record) → All (λ r. Below r.name prefix) xs → All (λ r. starts_with nat_eq r.name prefix ≡ false) xs
  low_are_not [] all = All-nil (λ r. starts_with nat_eq r.name prefix ≡ false)
  low_are_not (x ∷ xs) all =
      All-cons (λ r. starts_with nat_eq r.name prefix ≡ false) x xs
      (by_false (starts_with nat_eq x.name prefix) (λ t. prefix_not_below prefix (drop (length prefix) x.name) (subst (λ (m : List ℕ). Below m prefix) (begins x.name prefix t) (All-head (λ r. Below r.name prefix) x xs all))))
      (low_are_not xs (All-tail (λ r. Below r.name prefix) x xs all))

  past_are_not : (y : Record) (ys : List Record) → (Below y.name prefix → ⊥) → starts_with nat_eq y.name prefix ≡ false → All (λ s. Below s.name y.name → ⊥) ys → All (λ r. starts_with nat_eq r.name prefix ≡ false) ys
  past_are_not y [] above other all = All-nil (λ r. starts_with nat_eq r.name prefix ≡ false)
  past_are_not y (z ∷ ys) above other all =
      All-cons (λ r. starts_with nat_eq r.name prefix ≡ false) z ys
      (by_false (starts_with nat_eq z.name prefix) (λ t.
      let mid = between_or_same prefix y.name z.name (drop (length prefix) z.name) above (begins z.name prefix t) (All-head (λ s. Below s.name y.name → ⊥) z ys all) in
      let yes_it_has : starts_with nat_eq y.name prefix ≡ true = begins_true prefix y.name mid.0 mid.1 in
      let bad : true ≡ false = sym yes_it_has ∙ other in cc))
      (past_are_not y ys above other (All-tail (λ s. Below s.name y.name → ⊥) z ys all))

  high_are_first : (ys : List Record) → Rising ys → All (λ r. Below r.name prefix → ⊥) ys → records_prefixed prefix ys ≡ take_while (λ r. starts_with nat_eq r.name prefix) ys
  high_are_first [] up all = refl
  high_are_first (y ∷ ys) up all =
      go (starts_with nat_eq y.name prefix) refl (high_are_first ys up.1 (All-tail (λ r. Below r.name prefix → ⊥) y ys all))
    where
      go : (b : Bool) → starts_with nat_eq y.name prefix ≡ b → records_prefixed prefix ys ≡ take_while (λ r. starts_with nat_eq r.name prefix) ys → records_prefixed prefix (y ∷ ys) ≡ take_while (λ r. starts_with nat_eq r.name prefix) (y ∷ ys)
      go true is more =
          cond-true (starts_with nat_eq y.name prefix) _ _ is ∙ ap (λ xs. y ∷ xs) more
          ∙ sym (take_while-cons (λ r. starts_with nat_eq r.name prefix) y ys ∙ cond-true (starts_with nat_eq y.name prefix) _ _ is)
      go false is more =
          cond-false (starts_with nat_eq y.name prefix) _ _ is ∙ none_kept ys (past_are_not y ys (All-head (λ r. Below r.name prefix → ⊥) y ys all) is up.0)
          ∙ sym (take_while-cons (λ r. starts_with nat_eq r.name prefix) y ys ∙ cond-false (starts_with nat_eq y.name prefix) _ _ is)

  pub kept_append : (xs ys : List Record) → records_prefixed prefix (xs ++ ys) ≡ records_prefixed prefix xs ++ records_prefixed prefix ys
  kept_append [] ys = refl
  kept_append (x ∷ xs) ys = go (starts_with nat_eq x.name prefix) (kept_append xs ys)
    where
      go : (b : Bool) → records_prefixed prefix (xs ++ ys) ≡ records_prefixed prefix xs ++ records_prefixed prefix ys → cond b (x ∷ records_prefixed prefix (xs ++ ys)) (records_prefixed prefix (xs ++ ys)) ≡ cond b (x ∷ records_prefixed prefix xs) (records_prefixed prefix xs) ++ records_prefixed prefix ys
      go true more = ap (λ rs. x ∷ rs) more
      go false more = more

  pub later_ascend : (xs ys : List Record) → Rising (xs ++ ys) → Rising ys
  later_ascend [] ys up = up
  later_ascend (x ∷ xs) ys up = later_ascend xs ys up.1

  -- the records of the prefix are those from its place on, up to the first other name
  pub prefixed_are : (k : Kind) (text : List ℕ) (rs : List Record) (start : ℕ) → Rising rs → (split : SplitsAt k text rs prefix start) → take_while (λ r. starts_with nat_eq r.name prefix) split.after ≡ records_prefixed prefix rs
  prefixed_are k text rs start up split =
      let after : Rising split.after = later_ascend split.before split.after (subst Rising split.is up) in
      sym (ap (records_prefixed prefix) split.is ∙ kept_append split.before split.after
      ∙ ap (λ xs. xs ++ records_prefixed prefix split.after) (none_kept split.before (low_are_not split.before split.low))
      ∙ high_are_first split.after after split.high)

-- a byte of the text is not at its end
pub inside_end : (text : List ℕ) (o : ℕ) → o < length text → LineOf text (length text) o → ⊥
inside_end text o within end = let below = end.below in omega arith
