-- Where the first record begins whose name is not below the one that is wanted, in a text whose other lines are anything.
use Rattle.std.proofs.Common.{◌≡◌, ◌≢◌, inl, inr, ⊎_elim, ℕ, ◌+◌, ◌-◌, ◌<◌, ◌≤◌, true, List, ◌∷◌, length, length-append, drop, get_or, refl, sym, ◌∙◌, ap, subst, arith, Some, None}
use Rattle.std.specs.Cmp.Lexicographic.{slice_cmp}
use Rattle.std.specs.Ordering.{nat_cmp}
use Rattle.std.specs.declared.cmp.Ordering.{Ordering}
use Rattle.std.specs.declared.cmp.Ordering.TheVariants.{Less}
use Rattle.std.proofs.lemmas.Bool.{cases_lt, cases_eq}
use Rattle.std.proofs.lemmas.Cmp.{nat_list_cmp_total}
use Rattle.std.proofs.lemmas.List.{length-drop, get_or-drop}
use Rattle.gix_ref_hash.specs.declared.hash.Kind.{Kind}
use Rattle.gix_ref_hash.specs.Bytes.{StopsAt}
use Rattle.gix_ref_target.specs.PackedRecords.{Record}
use Rattle.gix_ref_packed_text.specs.RecordGrammar.{Below, is_caret}
use Rattle.gix_ref_packed_text.specs.Positions.{LineOf, RecordOf, NameAt, OrdersIfNamed, BeginsLine}
use Rattle.gix_ref_packed_text.specs.Probed.{IsProbeAt}
use Rattle.gix_ref_packed_text.specs.declared.packed.searchable.Probe.{Probe}
use Rattle.gix_ref_packed_text.specs.Prefixes.{RecordAt, NameAtLine, NamedLine, NamesAscend, IsNameStart, SplitsLines, IsBadStart}
use Rattle.gix_ref_packed_text.proofs.OneReading.{same_record_line}
use Rattle.gix_ref_packed_text.proofs.RecordPlaces.{form_of, no_caret_first}
use Rattle.gix_ref_packed_text.proofs.Halves.{start_below, begins_line}

-- the lines with a name before `low` are below the wanted name, those from `high` on are not
pub record Between (k : Kind) (text n : List ℕ) (low high : ℕ) : Type 0 where
  pub there : IsNameStart k text high
  pub under : (p : ℕ) (m : List ℕ) → p < low → NamedLine k text p m → Below m n
  pub over : (p : ℕ) (m : List ℕ) → high ≤ p → NamedLine k text p m → Below m n → ⊥

abbrev pub LinesBound : Kind → List ℕ → List ℕ → ℕ → ℕ → Type 0
LinesBound k text n low high = NamesAscend k text → Between k text n low high

-- a line with a name has it in a record's place
pub place_of : (k : Kind) (text : List ℕ) (p : ℕ) (m : List ℕ) → NamedLine k text p m → NameAtLine k text p m
place_of k text p m at = (at.begins, (at.digits, at.rest, at.line, at.no_caret), at.some_name)

-- a record has its name in a line
pub named_of : (k : Kind) (text : List ℕ) (p : ℕ) (r : Record) → RecordAt k text p r → NamedLine k text p r.name
named_of k text p r at =
    let form = form_of k (drop p text) r at.1.0 at.1.1 in
    record { begins = at.0; digits = r.target; rest = at.1.1.after; line = at.1.1.line; one_line = form.one_line; no_caret = form.no_caret; some_name = form.some_name }

pub name_of : (k : Kind) (text : List ℕ) (p : ℕ) (r : Record) → RecordAt k text p r → NameAtLine k text p r.name
name_of k text p r at = place_of k text p r.name (named_of k text p r at)

-- it begins inside of the text
pub named_inside : (k : Kind) (text : List ℕ) (p : ℕ) (m : List ℕ) → NamedLine k text p m → p < length text
named_inside k text p m at =
    let len : length (drop p text) ≡ length at.digits + length (32 ∷ at.line.after) = ap length at.line.whole ∙ length-append at.digits (32 ∷ at.line.after) in
    omega (arith, length-drop p text)

pub lines_first : (k : Kind) (text n : List ℕ) → LinesBound k text n 0 (length text)
lines_first k text n ascend = record {
  there = inl refl;
  under = λ p m early at. absurd (omega arith);
  over = λ p m late at below. let inside = named_inside k text p m at in absurd (omega arith);
}

-- where the bounds met
pub lines_met : (k : Kind) (text n : List ℕ) (low high : ℕ) → high ≤ low → LinesBound k text n low high → NamesAscend k text → SplitsLines k text n high
lines_met k text n low high met bound ascend =
    let was = bound ascend in
    record { there = was.there; low = λ p m early at. was.under p m (omega arith) at; high = was.over }

-- no such line begins with `^`
pub no_caret : (k : Kind) (text : List ℕ) (p : ℕ) (m : List ℕ) → NamedLine k text p m → get_or text p 0 ≢ 94
no_caret k text p m at caret =
    let same : p + 0 ≡ p = omega arith in
    no_caret_first (drop p text) at.no_caret (get_or-drop p text 0 0 ∙ ap (λ i. get_or text i 0) same ∙ caret)

-- a line that begins in the line of a byte, and not after that byte, is that line
in_line : (text : List ℕ) (line o p : ℕ) → LineOf text line o → BeginsLine text p → p ≤ o → p ≤ line
in_line text line o p at begins near = ⊎_elim
    (λ (late : line < p). absurd (at.within (p - 1) (omega arith) (omega arith) (begins (omega arith))))
    (λ (early : p ≤ line). early)
    (cases_lt line p)

-- a line with a name that begins up to a byte begins up to the record of that byte
not_behind : (k : Kind) (text : List ℕ) (s o p : ℕ) (m : List ℕ) → RecordOf text s o → NamedLine k text p m → p ≤ o → p ≤ s
not_behind k text s o p m of at near =
    let up = in_line text of.line o p of.in_line at.begins near in
    ⊎_elim
    (λ (goes : (get_or text of.line 0 ≡ 94) × (0 < of.line) × LineOf text s (of.line - 1)).
    ⊎_elim
    (λ (same : p ≡ of.line). absurd (no_caret k text p m at (ap (λ i. get_or text i 0) same ∙ goes.0)))
    (λ (other : p ≡ of.line → ⊥). in_line text s (of.line - 1) p goes.2 at.begins (let some = goes.1 in omega arith))
    (cases_eq p of.line))
    (λ (stays : (get_or text of.line 0 ≡ 94 → of.line ≡ 0) × (s ≡ of.line)). let same = stays.1 in omega arith)
    of.goes

-- one name is in a place
pub same_name : (k : Kind) (text : List ℕ) (p q : ℕ) (m n : List ℕ) → p ≡ q → NameAtLine k text p m → NameAtLine k text q n → m ≡ n
same_name k text p q m n same a b =
    let there = subst (λ (i : ℕ). NameAt k (drop i text) m) same a.1 in
    (same_record_line k (drop q text) there.0 m there.1 b.1.0 n b.1.1 there.2 b.1.2).1

-- one record with a name, which is met at a byte `o`
module _ (k : Kind) (text n : List ℕ) (low high o : ℕ) (probe : Probe) (within : o < length text) (probed : IsProbeAt k text n true o probe) (bound : LinesBound k text n low high) where
  -- the name there, and how it compares
  named : (x : Ordering) → probe.order ≡ Some x → (name : List ℕ) × NameAtLine k text probe.start name × (x ≡ slice_cmp nat_cmp name n)
  named x is =
      let order = probed.order in
      let orders = subst (OrdersIfNamed k (drop probe.start text) n true) is order in
      let name = orders.named (inl refl) in
      (name.0, (begins_line text probe.start o probed.record_of, name.1, name.2), orders.compares name.0 name.1)

  -- it begins with no `^`
  pub stops_there : (x : Ordering) → probe.order ≡ Some x → StopsAt is_caret (drop probe.start text)
  stops_there x is = (named x is).1.1.3

  pub line_low : probe.order ≡ Some Less → o < probe.next → LinesBound k text n probe.next high
  line_low is beyond ascend =
      let was = bound ascend in
      let name = named Less is in
      record {
        there = was.there;
        under = λ p m early at.
            let near : p ≤ o = ⊎_elim
            (λ (far : o < p). absurd (probed.line (p - 1) (omega arith) (omega arith) (at.begins (omega arith))))
            (λ (near : p ≤ o). near)
            (cases_lt o p) in
            let up = not_behind k text probe.start o p m probed.record_of at near in
            ⊎_elim
            (λ (same : p ≡ probe.start). subst (λ (x : List ℕ). Below x n) (sym (same_name k text p probe.start m name.0 same (place_of k text p m at) name.1)) (sym name.2))
            (λ (other : p ≡ probe.start → ⊥). nat_list_cmp_total.trans m name.0 n (ascend p probe.start m name.0 (omega arith) (place_of k text p m at) name.1) (sym name.2))
            (cases_eq p probe.start);
        over = was.over;
      }

  pub line_high : (x : Ordering) → probe.order ≡ Some x → (x ≡ Less → ⊥) → LinesBound k text n low probe.start
  line_high x is not_less ascend =
      let was = bound ascend in
      let name = named x is in
      record {
        there = inr (name.0, name.1);
        under = was.under;
        over = λ p m late at below.
            ⊎_elim
            (λ (same : p ≡ probe.start). not_less (name.2 ∙ subst (λ (x : List ℕ). Below x n) (same_name k text p probe.start m name.0 same (place_of k text p m at) name.1) below))
            (λ (other : p ≡ probe.start → ⊥). not_less (name.2 ∙ nat_list_cmp_total.trans name.0 m n (ascend probe.start p name.0 m (omega arith) name.1 (place_of k text p m at)) below))
            (cases_eq p probe.start);
      }

  -- without a name no record is there
  pub bad_start : probe.order ≡ None → IsBadStart k text probe.start
  bad_start is =
      let order = probed.order in
      let none = subst (OrdersIfNamed k (drop probe.start text) n true) is order in
      record {
        offset = o;
        within = within;
        begins = probed.record_of;
        some = let below = start_below text probe.start o probed.record_of in omega arith;
        bad = λ r rest takes.
            let form = form_of k (drop probe.start text) r rest takes in
            none r.name form.some_name (r.target, takes.after, takes.line, form.no_caret);
      }
