-- Each probe leaves the record inside.
use Rattle.std.proofs.Common.{◌≡◌, ◌≢◌, ◌⊎◌, inl, inr, ⊎_elim, ℕ, ◌*◌, ◌+◌, ◌-◌, ◌/◌, ◌^◌, ◌<◌, ◌≤◌, Bool, true, false, cond, List, [], ◌∷◌, length, drop, get_or, refl, sym, ◌∙◌, ap, subst, arith, add-one, Some, None, nat_eq}
use Rattle.std.specs.List.{All}
use Rattle.std.specs.Cmp.Lexicographic.{pointwise, slice_cmp, bytes_decides}
use Rattle.std.specs.Ordering.{nat_cmp, ordering_reverse}
use Rattle.std.specs.declared.cmp.Ordering.TheVariants.{Less, Equal, Greater}
use Rattle.std.proofs.Math.Nat.{pow-suc, mul_assoc, mul-le-mul_left}
use Rattle.std.proofs.lemmas.Bool.{cases_lt}
use Rattle.std.proofs.lemmas.Cmp.{nat_list_cmp_total, tied_itself}
use Rattle.std.proofs.lemmas.Map.Lookups.{exact_bytes}
use Rattle.std.proofs.lemmas.List.Elements.{All-head, All-tail}
use Rattle.gix_ref_hash.specs.declared.hash.Kind.{Kind}
use Rattle.gix_ref_target.specs.PackedRecords.{Record, record_named}
use Rattle.gix_ref_packed_text.specs.RecordGrammar.{RecordLine, Takes, Forms, Below, Ascending}
use Rattle.gix_ref_packed_text.specs.Positions.{LineOf, SameLine, RecordOf, NameAt, Orders, OrdersIfNamed, FindsAt, HitsAt, BeginsLine, IsMalformed, HasRecordLine, IsNotMalformed}
use Rattle.gix_ref_packed_text.specs.Probed.{IsProbeAt}
use Rattle.gix_ref_packed_text.specs.SearchCosts.{CountsProbes}
use Rattle.gix_ref_packed_text.specs.declared.packed.searchable.Probe.{Probe}
use Rattle.std.specs.declared.cmp.Ordering.{Ordering}
use Rattle.gix_ref_packed_text.proofs.OneReading.{same_record_line, same_form}
use Rattle.gix_ref_packed_text.proofs.RecordPlaces.{Begins, owned, shorter, begins_a_line, form_of}

-- a name is not below itself, nor two names below each other
pub not_itself : (n : List ℕ) → Below n n → ⊥
not_itself n below = let same : slice_cmp nat_cmp n n ≡ Equal = tied_itself nat_list_cmp_total n in cc

pub not_both : (m n : List ℕ) → Below m n → Below n m → ⊥
not_both m n a b = not_itself m (nat_list_cmp_total.trans m n m a b)

pub greater_is_below : (m n : List ℕ) → slice_cmp nat_cmp m n ≡ Greater → Below n m
greater_is_below m n g = nat_list_cmp_total.antisymm n m ∙ ap ordering_reverse g

pub belongs : (P : Record → Type 0) (k : Kind) (text : List ℕ) (rs : List Record) (h : Forms k text rs) (p : ℕ) (r : Record) → All P rs → Begins k text rs h p r → P r
belongs P k text [] h p r all b = absurd b
belongs P k text (x ∷ xs) h p r all b = ⊎_elim
    (λ (here : (p ≡ 0) × (r ≡ x)). subst P (sym here.1) (All-head P x xs all))
    (λ (there : (q : ℕ) × (p + length h.0 ≡ length text + q) × Begins k h.0 xs h.2 q r). belongs P k h.0 xs h.2 there.0 r (All-tail P x xs all) there.2) b

-- an earlier record has the lower name
pub ordered : (k : Kind) (text : List ℕ) (rs : List Record) (h : Forms k text rs) → Ascending rs → (p : ℕ) (r : Record) (q : ℕ) (s : Record) → Begins k text rs h p r → Begins k text rs h q s → p < q → Below r.name s.name
ordered k text [] h up p r q s a b before = absurd a
ordered k text (x ∷ xs) h up p r q s a b before = ⊎_elim
    (λ (first : (p ≡ 0) × (r ≡ x)). ⊎_elim
    (λ (again : (q ≡ 0) × (s ≡ x)). let e = again.0 in absurd (omega arith))
    (λ (second : (j : ℕ) × (q + length h.0 ≡ length text + j) × Begins k h.0 xs h.2 j s).
    subst (λ (y : Record). Below y.name s.name) (sym first.1) (belongs (λ y. Below x.name y.name) k h.0 xs h.2 second.0 s up.0 second.2)) b)
    (λ (first : (i : ℕ) × (p + length h.0 ≡ length text + i) × Begins k h.0 xs h.2 i r). ⊎_elim
    (λ (again : (q ≡ 0) × (s ≡ x)). let e = again.0 in absurd (omega arith))
    (λ (second : (j : ℕ) × (q + length h.0 ≡ length text + j) × Begins k h.0 xs h.2 j s).
    let e = first.1 in let d = second.1 in
    ordered k h.0 xs h.2 up.1 first.0 r second.0 s first.2 second.2 (omega arith)) b) a

-- one record begins at a byte
pub same_place : (k : Kind) (text : List ℕ) (rs : List Record) (h : Forms k text rs) (p : ℕ) (r : Record) (q : ℕ) (s : Record) → Begins k text rs h p r → Begins k text rs h q s → p ≡ q → r ≡ s
same_place k text [] h p r q s a b same = absurd a
same_place k text (x ∷ xs) h p r q s a b same =
    let less = shorter k text x h.0 h.1 in
    ⊎_elim
    (λ (first : (p ≡ 0) × (r ≡ x)). ⊎_elim
    (λ (again : (q ≡ 0) × (s ≡ x)). first.1 ∙ sym again.1)
    (λ (second : (j : ℕ) × (q + length h.0 ≡ length text + j) × Begins k h.0 xs h.2 j s). let e = first.0 in let d = second.1 in absurd (omega arith)) b)
    (λ (first : (i : ℕ) × (p + length h.0 ≡ length text + i) × Begins k h.0 xs h.2 i r). ⊎_elim
    (λ (again : (q ≡ 0) × (s ≡ x)). let e = again.0 in let d = first.1 in absurd (omega arith))
    (λ (second : (j : ℕ) × (q + length h.0 ≡ length text + j) × Begins k h.0 xs h.2 j s).
    let e = first.1 in let d = second.1 in
    same_place k h.0 xs h.2 first.0 r second.0 s first.2 second.2 (omega arith)) b) a

-- a record of the list is the one of its name
pub is_named : (k : Kind) (text : List ℕ) (rs : List Record) (h : Forms k text rs) → Ascending rs → (p : ℕ) (r : Record) → Begins k text rs h p r → (n : List ℕ) → r.name ≡ n → record_named n rs ≡ Some r
is_named k text [] h up p r b n named = absurd b
is_named k text (x ∷ xs) h up p r b n named = ⊎_elim
    (λ (here : (p ≡ 0) × (r ≡ x)).
    let test : pointwise nat_eq x.name n ≡ true = (bytes_decides x.name n).1 (ap (λ (y : Record). y.name) (sym here.1) ∙ named) in
    ap (λ t. cond t (Some x) (record_named n xs)) test ∙ ap (λ y. Some y) (sym here.1))
    (λ (there : (q : ℕ) × (p + length h.0 ≡ length text + q) × Begins k h.0 xs h.2 q r).
    let below : Below x.name r.name = belongs (λ y. Below x.name y.name) k h.0 xs h.2 there.0 r up.0 there.2 in
    let test : pointwise nat_eq x.name n ≡ false = by (pointwise nat_eq x.name n) (λ t. not_itself x.name (subst (Below x.name) (named ∙ sym ((bytes_decides x.name n).0 t)) below)) in
    ap (λ t. cond t (Some x) (record_named n xs)) test ∙ is_named k h.0 xs h.2 up.1 there.0 r there.2 n named) b
  where
    by : (b : Bool) → (b ≡ true → ⊥) → b ≡ false
    by true bad = absurd (bad refl)
    by false bad = refl

pub none_named : (k : Kind) (text : List ℕ) (rs : List Record) (h : Forms k text rs) (n : List ℕ) → ((p : ℕ) (r : Record) → Begins k text rs h p r → r.name ≢ n) → record_named n rs ≡ None
none_named k text [] h n none = refl
none_named k text (x ∷ xs) h n none =
    let less = shorter k text x h.0 h.1 in
    let test : pointwise nat_eq x.name n ≡ false = by (pointwise nat_eq x.name n) (λ t. none 0 x (inl (refl, refl)) ((bytes_decides x.name n).0 t)) in
    ap (λ t. cond t (Some x) (record_named n xs)) test
    ∙ none_named k h.0 xs h.2 n (λ q r b. none (length text - length h.0 + q) r (inr (q, omega arith, b)))
  where
    by : (b : Bool) → (b ≡ true → ⊥) → b ≡ false
    by true bad = absurd (bad refl)
    by false bad = refl

-- the record of the name, if it is there, begins in [low, high)
abbrev pub Inside : Kind → List ℕ → List ℕ → ℕ → ℕ → Type 0
Inside k text n low high =
    (rs : List Record) (h : Forms k text rs) → Ascending rs → (p : ℕ) (r : Record) → Begins k text rs h p r → r.name ≡ n → (low ≤ p) × (p < high)

pub start_below : (text : List ℕ) (s o : ℕ) → RecordOf text s o → s ≤ o
start_below text s o at =
    let line = at.in_line.below in
    ⊎_elim (λ (goes : (get_or text at.line 0 ≡ 94) × (0 < at.line) × LineOf text s (at.line - 1)). let start = goes.2.below in omega arith)
    (λ (stays : (get_or text at.line 0 ≡ 94 → at.line ≡ 0) × (s ≡ at.line)). let e = stays.1 in omega arith) at.goes

pub begins_line : (text : List ℕ) (s o : ℕ) → RecordOf text s o → BeginsLine text s
begins_line text s o at =
    ⊎_elim (λ (goes : (get_or text at.line 0 ≡ 94) × (0 < at.line) × LineOf text s (at.line - 1)). goes.2.begins)
    (λ (stays : (get_or text at.line 0 ≡ 94 → at.line ≡ 0) × (s ≡ at.line)). subst (BeginsLine text) (sym stays.1) at.in_line.begins) at.goes

-- the record that a byte is in, whose name, if it has one, compares so
module _ (k : Kind) (text n : List ℕ) (s o : ℕ) (within : o < length text) (at : RecordOf text s o) (x : Ordering)
    (compares : (m : List ℕ) → NameAt k (drop s text) m → x ≡ slice_cmp nat_cmp m n) where
  pub owner_compares : (rs : List Record) (h : Forms k text rs) → x ≡ slice_cmp nat_cmp (owned k text rs h s o within at).owner.name n
  owner_compares rs h =
      let own = owned k text rs h s o within at in
      compares own.owner.name (own.owner.target, own.takes.after, own.takes.line, own.takes.no_caret)

  pub less : (low high next : ℕ) → o < next → SameLine text o next → x ≡ Less → Inside k text n low high → Inside k text n next high
  less low high next beyond line below inside rs h up p r b named =
      let own = owned k text rs h s o within at in
      let under : Below own.owner.name r.name = subst (Below own.owner.name) (sym named) (sym (owner_compares rs h) ∙ below) in
      let far : o < p = ⊎_elim
      (λ (early : p ≤ s). absurd (⊎_elim
      (λ (before : p < s). not_both r.name own.owner.name (ordered k text rs h up p r s own.owner b own.begins before) under)
      (λ (late : s ≤ p). not_itself r.name (subst (λ (x : Record). Below x.name r.name) (sym (same_place k text rs h p r s own.owner b own.begins (omega arith))) under))
      (cases_lt p s)))
      (λ (late : o < p). late)
      (own.others p r b) in
      let past : next ≤ p = ⊎_elim
      (λ (early : p < next).
      let lf : get_or text (p - 1) 0 ≡ 10 = begins_a_line k text rs h p r b (omega arith) in
      absurd (line (p - 1) (omega arith) (omega arith) lf))
      (λ (late : next ≤ p). late)
      (cases_lt p next) in
      (past, (inside rs h up p r b named).1)

  pub greater : (low high : ℕ) → x ≡ Greater → Inside k text n low high → Inside k text n low s
  greater low high above inside rs h up p r b named =
      let own = owned k text rs h s o within at in
      let over : Below r.name own.owner.name = subst (λ (y : List ℕ). Below y own.owner.name) (sym named) (greater_is_below own.owner.name n (sym (owner_compares rs h) ∙ above)) in
      let near : p < s = ⊎_elim
      (λ (before : p < s). before)
      (λ (late : s ≤ p). absurd (⊎_elim
      (λ (after : s < p). not_both own.owner.name r.name (ordered k text rs h up s own.owner p r own.begins b after) over)
      (λ (early : p ≤ s). not_itself r.name (subst (λ (x : Record). Below r.name x.name) (sym (same_place k text rs h p r s own.owner b own.begins (omega arith))) over))
      (cases_lt s p)))
      (cases_lt p s) in
      ((inside rs h up p r b named).0, near)

  pub equal : x ≡ Equal → (rs : List Record) → Forms k text rs → Ascending rs → FindsAt k text rs n s
  equal same rs h up =
      let own = owned k text rs h s o within at in
      let named : own.owner.name ≡ n = exact_bytes own.owner.name n (sym (owner_compares rs h) ∙ same) in
      record { found = own.owner; is = is_named k text rs h up s own.owner own.begins n named; rest = own.rest; takes = own.takes }

  pub hits : x ≡ Equal → (m : List ℕ) → NameAt k (drop s text) m → HitsAt k text n s
  hits same m name = record {
    within = let below = start_below text s o at in omega arith;
    line = begins_line text s o at;
    named = (name.0, name.1, subst (λ (y : List ℕ). RecordLine k (drop s text) name.0 y name.1) (exact_bytes m n (sym (compares m name) ∙ same)) name.2, name.3);
  }

-- a text of records has no malformed line
pub not_malformed : (k : Kind) (text : List ℕ) (rs : List Record) → IsMalformed k text → Forms k text rs → ⊥
not_malformed k text rs bad h =
    let own = owned k text rs h bad.start bad.offset bad.within bad.begins in
    bad.no_name own.owner.name own.takes.some_name (own.owner.target, own.takes.after, own.takes.line, own.takes.no_caret)

pub saw_malformed_line : (k : Kind) (text : List ℕ) (s o : ℕ) → o < length text → RecordOf text s o → ((name : List ℕ) → name ≢ [] → NameAt k (drop s text) name → ⊥) → (rs : List Record) → Forms k text rs → ⊥
saw_malformed_line k text s o within at none rs h =
    let own = owned k text rs h s o within at in
    none own.owner.name own.takes.some_name (own.owner.target, own.takes.after, own.takes.line, own.takes.no_caret)

pub nowhere : (k : Kind) (text n : List ℕ) (low high : ℕ) → high ≤ low → Inside k text n low high → (rs : List Record) → Forms k text rs → Ascending rs → record_named n rs ≡ None
nowhere k text n low high none inside rs h up =
    none_named k text rs h n (λ p r b named. let both = inside rs h up p r b named in let one = both.0 in let two = both.1 in omega arith)

-- a record begins inside the text
pub in_text : (k : Kind) (text : List ℕ) (rs : List Record) (h : Forms k text rs) (p : ℕ) (r : Record) → Begins k text rs h p r → p < length text
in_text k text [] h p r b = absurd b
in_text k text (x ∷ xs) h p r b =
    let less = shorter k text x h.0 h.1 in
    ⊎_elim
    (λ (here : (p ≡ 0) × (r ≡ x)). let e = here.0 in omega arith)
    (λ (there : (q : ℕ) × (p + length h.0 ≡ length text + q) × Begins k h.0 xs h.2 q r).
    let e = there.1 in let more = in_text k h.0 xs h.2 there.0 r there.2 in omega arith) b

-- all are inside at first
pub at_first : (k : Kind) (text n : List ℕ) → Inside k text n 0 (length text)
at_first k text n rs h up p r b named = (omega arith, in_text k text rs h p r b)

-- what is read where the search ended
pub hit_named : (k : Kind) (text wanted : List ℕ) (s : ℕ) (r : Record) (rest : List ℕ) → HitsAt k text wanted s → Takes k (drop s text) r rest → r.name ≡ wanted
hit_named k text wanted s r rest hit takes =
    let at = hit.named in (same_record_line k (drop s text) r.target r.name takes.after at.0 wanted at.1 takes.line at.2).1

pub found_read : (k : Kind) (text : List ℕ) (rs : List Record) (wanted : List ℕ) (s : ℕ) (r : Record) (rest : List ℕ) → FindsAt k text rs wanted s → Takes k (drop s text) r rest → Some r ≡ record_named wanted rs
found_read k text rs wanted s r rest found takes =
    ap (λ x. Some x) (same_form k (drop s text) r rest found.found found.rest (form_of k (drop s text) r rest takes) found.takes).0 ∙ sym found.is

-- ---- the count

double : (k : ℕ) → 2 ^ (k + 1) ≡ 2 ^ k * 2
double k = rw add-one (pow-suc 2 k)

halves : (k w v n : ℕ) → 2 ^ k * w ≤ n → 2 * v ≤ w → 2 ^ (k + 1) * v ≤ n
halves k w v n all half =
    let grown : 2 ^ (k + 1) * v ≡ 2 ^ k * (2 * v) = ap (λ x. x * v) (double k) ∙ mul_assoc (2 ^ k) 2 v in
    let less : 2 ^ k * (2 * v) ≤ 2 ^ k * w = mul-le-mul_left (2 ^ k) half in omega arith

counted : (k w n : ℕ) → 2 ^ k * w ≤ n → 1 ≤ w → 2 ^ (k + 1) ≤ 2 * n + 1
counted k w n all some =
    let grown = double k in
    let less : 2 ^ k * 1 ≤ 2 ^ k * w = mul-le-mul_left (2 ^ k) some in omega arith

-- one probe more, and half the width
pub width_halves : (first p q low high lo hi n : ℕ) → first ≤ p → q ≡ p + 1 → 2 ^ (p - first) * (high - low) ≤ n → 2 * (hi - lo) ≤ high - low → 2 ^ (q - first) * (hi - lo) ≤ n
width_halves first p q low high lo hi n begun next all half =
    let one : p - first + 1 ≡ q - first = omega arith in
    subst (λ (i : ℕ). 2 ^ i * (hi - lo) ≤ n) one (halves (p - first) (high - low) (hi - lo) n all half)

pub cost_counted : (first p q low high n : ℕ) → first ≤ p → q ≡ p + 1 → 2 ^ (p - first) * (high - low) ≤ n → low < high → 2 ^ (q - first) ≤ 2 * n + 1
cost_counted first p q low high n begun next all some =
    let one : p - first + 1 ≡ q - first = omega arith in
    subst (λ (i : ℕ). 2 ^ i ≤ 2 * n + 1) one (counted (p - first) (high - low) n all (omega arith))

-- ---- the turns of the search

-- what is probe_in_window at the beginning of a turn: `first` probes before the search, and now `now`
pub record Halving (k : Kind) (text n : List ℕ) (first now low high : ℕ) : Type 0 where
  pub within : high ≤ length text
  pub counts : first ≤ now
  pub width : 2 ^ (now - first) * (high - low) ≤ length text
  pub few : 2 ^ (now - first) ≤ 2 * length text + 1
  pub begun : now ≤ first → (low ≡ 0) × (high ≡ length text)
  pub inside : Inside k text n low high

pub none_yet : (k : Kind) (text n : List ℕ) (p high : ℕ) → high ≡ length text → Halving k text n p p 0 high
none_yet k text n p high whole =
    let zero : 2 ^ (p - p) ≡ 1 = ap (λ i. 2 ^ i) none in
    let all : 2 ^ (p - p) * (high - 0) ≡ 1 * (high - 0) = ap (λ x. x * (high - 0)) zero in
    record {
      within = omega arith;
      counts = omega arith;
      width = omega arith;
      few = omega arith;
      begun = λ same. (refl, whole);
      inside = subst (λ (i : ℕ). Inside k text n 0 i) (sym whole) (at_first k text n);
    }
  where
    none : p - p ≡ 0
    none = omega arith

-- one record that is met at a byte `at` between `low` and `high`
module _ (k : Kind) (text n : List ℕ) (first p q low high at : ℕ) (was : Halving k text n first p low high) (some : low < high)
    (middle : at ≡ low + (high - low) / 2) (next_probe : q ≡ p + 1) (sure : Bool) (probe : Probe) (probed : IsProbeAt k text n sure at probe) (beyond : at < probe.next) where
  inside_text : at < length text
  inside_text = let within = was.within in omega arith

  orders : (o : Ordering) → probe.order ≡ Some o → Orders k (drop probe.start text) n sure o
  orders o is = let order = probed.order in subst (OrdersIfNamed k (drop probe.start text) n sure) is order

  pub counted_now : CountsProbes (length text) first q
  counted_now = let counts = was.counts in record { some = λ more. omega arith; few = cost_counted first p q low high (length text) was.counts next_probe was.width some }

  pub step_low : probe.order ≡ Some Less → Halving k text n first q probe.next high
  step_low is =
      let counts = was.counts in
      record {
        within = was.within;
        counts = omega arith;
        width = width_halves first p q low high probe.next high (length text) counts next_probe was.width (omega arith);
        few = cost_counted first p q low high (length text) counts next_probe was.width some;
        begun = λ same. absurd (omega arith);
        inside = less k text n probe.start at inside_text probed.record_of Less (orders Less is).compares low high probe.next beyond probed.line refl was.inside;
      }

  pub step_high : probe.order ≡ Some Greater → Halving k text n first q low probe.start
  step_high is =
      let counts = was.counts in let within = was.within in
      let below = start_below text probe.start at probed.record_of in
      record {
        within = omega arith;
        counts = omega arith;
        width = width_halves first p q low high low probe.start (length text) counts next_probe was.width (omega arith);
        few = cost_counted first p q low high (length text) counts next_probe was.width some;
        begun = λ same. absurd (omega arith);
        inside = greater k text n probe.start at inside_text probed.record_of Greater (orders Greater is).compares low high refl was.inside;
      }

  pub malformed : probe.order ≡ None → IsMalformed k text
  malformed is = record {
    start = probe.start;
    offset = at;
    within = inside_text;
    begins = probed.record_of;
    no_name = let order = probed.order in subst (OrdersIfNamed k (drop probe.start text) n sure) is order;
  }

  -- a line of this form was seen, now where the look was sure
  pub line_there : (o : Ordering) → probe.order ≡ Some o → (before : Bool) → (before ≡ true → sure ≡ true) → ((before ≡ true) × (p ≤ first)) ⊎ HasRecordLine k text → HasRecordLine k text
  line_there o is before looks (inl none) =
      let name = (orders o is).named (inl (looks none.0)) in
      record { start = probe.start; offset = at; within = inside_text; begins = probed.record_of; name = name.0; some = name.2; named = name.1 }
  line_there o is before looks (inr there) = there

  pub step_malformed : probe.order ≡ None → Halving k text n first q probe.next high
  step_malformed is =
      let counts = was.counts in
      record {
        within = was.within;
        counts = omega arith;
        width = width_halves first p q low high probe.next high (length text) counts next_probe was.width (omega arith);
        few = cost_counted first p q low high (length text) counts next_probe was.width some;
        begun = λ same. absurd (omega arith);
        inside = λ rs h up y r b named. absurd (not_malformed k text rs (malformed is) h);
      }

  pub found_hit : probe.order ≡ Some Equal → HitsAt k text n probe.start
  found_hit is =
      let name = (orders Equal is).named (inr refl) in
      hits k text n probe.start at inside_text probed.record_of Equal (orders Equal is).compares refl name.0 name.1

  pub found_there : probe.order ≡ Some Equal → (rs : List Record) → Forms k text rs → Ascending rs → FindsAt k text rs n probe.start
  found_there is =
      equal k text n probe.start at inside_text probed.record_of Equal (orders Equal is).compares refl

pub counted_end : (k : Kind) (text n : List ℕ) (first p low high : ℕ) → Halving k text n first p low high → high ≤ low → CountsProbes (length text) first p
counted_end k text n first p low high was met = record {
  some = λ more. ⊎_elim (λ (less : first < p). less)
      (λ (same : p ≤ first). let begun = was.begun same in let zero = begun.0 in let all = begun.1 in absurd (omega arith)) (cases_lt first p);
  few = was.few;
}

-- the search ended and no line was malformed
pub not_malformed_end : (k : Kind) (text n : List ℕ) (first p low high : ℕ) (before : Bool) → Halving k text n first p low high → high ≤ low → ((before ≡ true) × (p ≤ first)) ⊎ HasRecordLine k text → IsNotMalformed k text
not_malformed_end k text n first p low high before was met (inl early) some = let begun = was.begun early.1 in let zero = begun.0 in let all = begun.1 in absurd (omega arith)
not_malformed_end k text n first p low high before was met (inr there) some = there
