-- How a plain name compares with the bytes of a line.
use Rattle.std.proofs.lemmas.Cmp.{nat_list_cmp_total, tied_itself}
use Rattle.std.proofs.lemmas.Map.Lookups.{exact_bytes}
use Rattle.std.proofs.Math.Seq.{drop-cons}
use Rattle.std.specs.List.{AllPass}
use Rattle.std.proofs.Common.{◌≡◌, ◌≢◌, ◌⊎◌, inl, inr, ℕ, suc, zero, ◌*◌, ◌+◌, ◌-◌, ◌<◌, ◌≤◌, Bool, true, false, nat_lt, get_or, List, [], ◌∷◌, ◌++◌, length, take, drop, refl, sym, ◌∙◌, ap, arith, append_assoc, length-append, length-take-le, ne_eqb, not, ◌||◌, Option, Some, None, subst}
use Rattle.std.specs.Cmp.Lexicographic.{slice_cmp}
use Rattle.std.specs.Ordering.{nat_cmp, ordering_then}
use Rattle.std.specs.declared.cmp.Ordering.{Ordering}
use Rattle.std.specs.declared.cmp.Ordering.TheVariants.{Less, Equal, Greater}
use Rattle.std.specs.Cmp.{nat_cmp_is}
use Rattle.std.specs.Prelude.{MatchBool}
use Rattle.std.proofs.lemmas.Bool.{ltb-true, lt-ltb}
use Rattle.std.proofs.lemmas.List.{get_or_default, take_all, drop_at, drop-take, take-append-le, take-append-drop}
use Rattle.std.proofs.lemmas.List.Elements.{All-head, All-tail, All-cons, All-nil}
use Rattle.gix_ref_hash.specs.declared.hash.Kind.{Kind}
use Rattle.gix_ref_hash.specs.Bytes.{StopsAt}
use Rattle.gix_ref_hash.specs.Ids.{kind_len}
use Rattle.gix_ref_packed_text.specs.RecordGrammar.{Newline, in_record_line, is_caret}
use Rattle.gix_ref_packed_text.specs.Positions.{NameAt, Compares, IsPlain, Orders, OrdersIfNamed}
use Rattle.gix_ref_packed_text.proofs.OneReading.{same_record_line, spaced}
use Rattle.gix_ref_packed_text.proofs.RecordBytes.{stops_wider}

-- a name that a byte up to CR ends, by the bytes that it and that byte have
ended : (l : ℕ) (name wanted : List ℕ) (c : ℕ) (rest : List ℕ) → c ≤ 13 → IsPlain wanted → l ≤ length wanted → (o : Ordering) → o ≢ Equal
    → slice_cmp nat_cmp (take l (name ++ c ∷ rest)) (take l wanted) ≡ o → slice_cmp nat_cmp name wanted ≡ o
ended zero name wanted c rest low plain short o other is = absurd (other (sym is))
ended (suc l) name [] c rest low plain short o other is = absurd (omega arith)
ended (suc l) [] (w ∷ wanted) c rest low plain short o other is =
    let high : 13 < w = All-head (λ b. 13 < b) w wanted plain in
    ap (λ x. ordering_then x (slice_cmp nat_cmp (take l rest) (take l wanted))) (nat_cmp_is c w Less (omega arith)) ∙ is
ended (suc l) (b ∷ name) (w ∷ wanted) c rest low plain short o other is =
    go (nat_cmp b w) (ended l name wanted c rest low (All-tail (λ b. 13 < b) w wanted plain) (omega arith) o other) is
  where
    go : (x : Ordering) → (slice_cmp nat_cmp (take l (name ++ c ∷ rest)) (take l wanted) ≡ o → slice_cmp nat_cmp name wanted ≡ o)
        → ordering_then x (slice_cmp nat_cmp (take l (name ++ c ∷ rest)) (take l wanted)) ≡ o → ordering_then x (slice_cmp nat_cmp name wanted) ≡ o
    go Less more same = same
    go Equal more same = more same
    go Greater more same = same

newline_byte : (t rest : List ℕ) → Newline t rest → (c : ℕ) × (c ≤ 13) × (u : List ℕ) × (t ≡ c ∷ u)
newline_byte t rest (inl lf) = (10, omega arith, rest, lf)
newline_byte t rest (inr crlf) = (13, omega arith, 10 ∷ rest, crlf)

-- the bytes in a name's place decide how any name there compares
pub quick : (k : Kind) (text part wanted : List ℕ) (n l : ℕ) (o : Ordering) → IsPlain wanted → n ≡ 2 * kind_len k → n < length part → part ≡ take (length part) text
    → l ≤ length (drop (n + 1) part) → l ≤ length wanted → o ≢ Equal → slice_cmp nat_cmp (take l (drop (n + 1) part)) (take l wanted) ≡ o
    → (name : List ℕ) → NameAt k text name → o ≡ slice_cmp nat_cmp name wanted
quick k text part wanted n l o plain len some is inside short other cmp name at =
    let line = at.2 in
    let digits = at.0 in
    let front : text ≡ (digits ++ 32 ∷ []) ++ line.after = line.whole ∙ sym (append_assoc digits (32 ∷ []) line.after) in
    let size : length (digits ++ 32 ∷ []) ≡ n + 1 = let both = length-append digits (32 ∷ []) in let has = line.len in omega arith in
    let dropped : drop (n + 1) text ≡ line.after = ap (drop (n + 1)) front ∙ drop_at (digits ++ 32 ∷ []) line.after (n + 1) size in
    let m = length part - (n + 1) in
    let split : length part ≡ n + 1 + m = omega arith in
    let cut : drop (n + 1) part ≡ take m line.after = ap (drop (n + 1)) (is ∙ ap (λ i. take i text) split) ∙ drop-take (n + 1) m text ∙ ap (take m) dropped in
    let end = newline_byte line.line.after at.1 line.line.newline in
    let named : line.after ≡ name ++ end.0 ∷ end.2 = line.line.cut.whole ∙ ap (λ t. name ++ t) end.3 in
    let same : take l (drop (n + 1) part) ≡ take l (name ++ end.0 ∷ end.2) = ap (take l) cut ∙ sym (take-append-le l (take m line.after) (drop m line.after) (let same = ap length cut in omega arith)) ∙ ap (take l) (take-append-drop m line.after) ∙ ap (take l) named in
    sym (ended l name wanted end.0 end.2 end.1 plain short o other (ap (λ t. slice_cmp nat_cmp t (take l wanted)) (sym same) ∙ cmp))

plain_in_line : (name : List ℕ) → IsPlain name → AllPass in_record_line name
plain_in_line [] plain = All-nil (λ b. in_record_line b ≡ true)
plain_in_line (b ∷ name) plain =
    let high : 13 < b = All-head (λ x. 13 < x) b name plain in
    All-cons (λ x. in_record_line x ≡ true) b name (λ i. not (ne_eqb b 10 (λ e. absurd (omega arith)) i || ne_eqb b 13 (λ e. absurd (omega arith)) i)) (plain_in_line name (All-tail (λ x. 13 < x) b name plain))

-- the wanted name and LF are in a name's place
pub whole_name : (k : Kind) (text part wanted : List ℕ) (n l : ℕ) → IsPlain wanted → n ≡ 2 * kind_len k → n < length part → get_or part n 0 ≡ 32 → part ≡ take (length part) text
    → length wanted < length (drop (n + 1) part) → get_or (drop (n + 1) part) (length wanted) 0 ≡ 10
    → l ≡ length wanted → slice_cmp nat_cmp (take l (drop (n + 1) part)) (take l wanted) ≡ Equal → StopsAt is_caret part → NameAt k text wanted
whole_name k text part wanted n l plain len some space is inside end all cmp stops =
    let after = drop (n + 1) part in
    let rest = drop (suc l) after ++ drop (length part) text in
    let named : take l after ≡ wanted = exact_bytes (take l after) (take l wanted) cmp ∙ take_all l wanted (omega arith) in
    let line : after ≡ wanted ++ 10 ∷ drop (suc l) after = sym (take-append-drop l after)
    ∙ (λ i. named i ++ drop l after)
    ∙ ap (λ t. wanted ++ t) (drop-cons after l 0 (omega arith) ∙ ap (λ b. b ∷ drop (suc l) after) (ap (λ i. get_or after i 0) all ∙ end)) in
    let whole : text ≡ take n part ++ 32 ∷ (wanted ++ 10 ∷ rest) = sym (take-append-drop (length part) text)
    ∙ ap (λ t. t ++ drop (length part) text) (sym is ∙ spaced part n some space ∙ ap (λ t. take n part ++ 32 ∷ t) line)
    ∙ simp append_assoc in (
      take n part,
      rest,
      record {
        after = wanted ++ 10 ∷ rest;
        whole = whole;
        len = length-take-le n part (omega arith) ∙ len;
        line = record { after = 10 ∷ rest; cut = record { whole = refl; front_passes = plain_in_line wanted plain; stops = refl }; newline = inl refl };
      },
      stops_wider text part is (omega arith) stops,
    )

-- so any name that is there is the wanted one
pub whole_compares : (k : Kind) (text wanted : List ℕ) → NameAt k text wanted → (name : List ℕ) → NameAt k text name → Equal ≡ slice_cmp nat_cmp name wanted
whole_compares k text wanted there name at =
    subst (λ (m : List ℕ). Equal ≡ slice_cmp nat_cmp m wanted) (same_record_line k text there.0 wanted there.1 at.0 name at.1 there.2 at.2).1 (sym (tied_itself nat_list_cmp_total wanted))

-- a name that is there is the only one
pub orders_named : (k : Kind) (text wanted : List ℕ) (sure : Bool) (order : Option Ordering) → Compares k text wanted order → OrdersIfNamed k text wanted sure order
orders_named k text wanted sure None none = none
orders_named k text wanted sure (Some o) h = record {
  compares = λ name at. h.2 ∙ ap (λ n. slice_cmp nat_cmp n wanted) (same_record_line k text h.1.0 h.0 h.1.1 at.0 name at.1 h.1.2 at.2).1;
  named = λ _. (h.0, h.1, h.3);
}

-- where bytes decide, the line of another name was not looked at
pub orders_quick : (k : Kind) (text wanted : List ℕ) (sure : Bool) (o : Ordering) → (sure ≡ true → ⊥) → (o ≡ Equal → (name : List ℕ) × NameAt k text name × (name ≢ []))
    → ((name : List ℕ) → NameAt k text name → o ≡ slice_cmp nat_cmp name wanted) → Orders k text wanted sure o
orders_quick k text wanted sure o unsure there compares = record {
  compares = compares;
  named = some;
}
  where
    some : (sure ≡ true) ⊎ (o ≡ Equal) → (name : List ℕ) × NameAt k text name × (name ≢ [])
    some (inl yes_it_is) = absurd (unsure yes_it_is)
    some (inr same) = there same

-- a name is plain where its least byte is
pub plain_by : (least n : ℕ) (name : List ℕ) → length name ≤ n → ((k : ℕ) → k < n → least ≤ get_or name k 0) → (13 < least) ⊎ ((k : ℕ) × (k < n) × (get_or name k 0 ≤ least))
    → n ≤ length name → MatchBool (nat_lt 13 least) (IsPlain name) (IsPlain name → ⊥)
plain_by least n name all low met inside = go (nat_lt 13 least) refl
  where
    go : (b : Bool) → nat_lt 13 least ≡ b → MatchBool b (IsPlain name) (IsPlain name → ⊥)
    go true is = λ k d within.
        let high : 13 < least = ltb-true 13 least is in
        let here = low k (omega arith) in
        let same : get_or name k d ≡ get_or name k 0 = get_or_default name k d 0 within in omega arith
    go false is = λ plain. by met plain
      where
        by : (13 < least) ⊎ ((k : ℕ) × (k < n) × (get_or name k 0 ≤ least)) → IsPlain name → ⊥
        by (inl high) plain = let bad : nat_lt 13 least ≡ true = lt-ltb 13 least high in cc
        by (inr there) plain =
            let within = there.1 in
            let has : 13 < get_or name there.0 0 = plain there.0 0 (omega arith) in
            let few = there.2 in
            let bad : nat_lt 13 least ≡ true = lt-ltb 13 least (omega arith) in cc
