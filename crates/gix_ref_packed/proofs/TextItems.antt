-- The items of a text: what an iterator over its rest gives, and those of a part of it.
use Rattle.std.proofs.Common.{◌≡◌, ◌≢◌, ◌==◌, ◌⊎◌, inl, inr, ⊎_elim, ℕ, ◌+◌, ◌-◌, ◌<◌, ◌≤◌, List, [], ◌∷◌, ◌++◌, length, take, drop, get_or, cond, Bool, refl, sym, ◌∙◌, ap, subst, arith, Option, Some, None, Result, Ok, Err, append_assoc, length-append, ne_eqb}
use Rattle.std.proofs.Math.Seq.{drop-append-add}
use Rattle.std.proofs.lemmas.Bool.{cases_lt, cases_eq}
use Rattle.std.proofs.lemmas.List.{drop-append-le, drop-drop, drop_all, drop_at, get_or-drop, get_or-take, get_or_append_left, get_or_default, length-drop, length-take, take-append-drop, take-append-le, take_all, take_at}
use Rattle.std.proofs.lemmas.List.Elements.{All-append, All-head, All-tail}
use Rattle.std.proofs.lemmas.List.Sums.{sum_by-append}
use Rattle.gix_ref_hash.specs.declared.hash.Kind.{Kind}
use Rattle.gix_ref_hash.specs.Bytes.{Cuts, NoByte, StopsAt}
use Rattle.gix_ref_target.specs.PackedRecords.{Record}
use Rattle.gix_ref_packed_text.specs.OpenedText.{lines_of, lines_with}
use Rattle.gix_ref_packed_text.specs.Positions.{BeginsLine, RecordBeginsLine}
use Rattle.gix_ref_packed_text.specs.Prefixes.{CutsNoRecord, IsItemStart, IsListStart, RecordAt}
use Rattle.gix_ref_packed_text.specs.RecordGrammar.{NoRecord, OptionalPeeledLine, Records, Takes, is_caret}
use Rattle.gix_ref_packed_text.specs.Views.{record_of}
use Rattle.gix_ref_packed_text.specs.declared.packed.reference.Reference.{Reference}
use Rattle.gix_ref_packed_text.proofs.CutRecords.{part_line, text_line}
use Rattle.gix_ref_packed_text.proofs.FrontTexts.{line_to_lf, no_record_longer, peeled_to_lf, record_longer, record_shorter}
use Rattle.gix_ref_packed_text.proofs.ItemStarts.{apart_after, apart_next}
use Rattle.gix_ref_packed_text.proofs.RecordPlaces.{EndsLf, NoLf, ends_lf, hex_no_lf, one_no_lf, shorter_record}
use Rattle.gix_ref_packed_text.proofs.TakenLines.{dropped, line_in_text, record_in_text}
use Rattle.gix_ref_packed.specs.Items.{GivesPackedItem, Unread, line_feeds, unread, unread_at}
use Rattle.gix_ref_packed.specs.YetToGive.{IsBadLine, IsItemOf, NextIsOf}
use Rattle.gix_ref_packed.specs.declared.packed.iter.error.Error.{Error}
use Rattle.gix_ref_packed.specs.declared.packed.iter.error.Error.TheVariants.{Header as bad_header, Reference as bad_line}
use Rattle.gix_ref_packed.proofs.ItemRuns.{none_taken}
use Rattle.gix_ref_packed.proofs.PrefixParts.{drop_zero}

-- ---- how many lines end in a text

feeds_more : (s t : List ℕ) → line_feeds (s ++ t) ≡ line_feeds s + line_feeds t
feeds_more s t = sum_by-append (λ b. cond (b == 10) 1 0) s t

no_feeds : (l : List ℕ) → NoLf l → line_feeds l ≡ 0
no_feeds [] none = refl
no_feeds (b ∷ l) none =
    let first : line_feeds (b ∷ []) ≡ 0 = ap {A = Bool} {B = ℕ} (λ c. 0 + cond {A = ℕ} c 1 0) (ne_eqb b 10 (All-head (λ b. b ≢ 10) b l none)) in
    let rest = no_feeds l (All-tail (λ b. b ≢ 10) b l none) in
    let both = feeds_more (b ∷ []) l in
    omega arith

one_feed : (l : List ℕ) → NoLf l → line_feeds (l ++ 10 ∷ []) ≡ 1
one_feed l none = feeds_more l (10 ∷ []) ∙ ap (λ n. n + 1) (no_feeds l none)

no_lf : (l : List ℕ) → NoByte 10 l → NoLf l
no_lf l none i x lt same = none i lt (get_or_default l i 0 x lt ∙ same)

-- a front of so many lines
record Counted (text rest : List ℕ) (n : ℕ) : Type 0 where
  front : List ℕ
  whole : text ≡ front ++ rest
  ends : EndsLf front
  feeds : line_feeds front ≡ n

-- the lines of a record
counted_record : (k : Kind) (t : List ℕ) (r : Record) (rest : List ℕ) → Takes k t r rest → Counted t rest (lines_of r)
counted_record k t r rest takes = by r.object takes.peeled
  where
    by : (o : Option (List ℕ)) → OptionalPeeledLine k takes.after o rest → Counted t rest (lines_with o)
    by o peeled =
        let first = line_to_lf takes.line.after r.name takes.after takes.line.line in
        let l = r.target ++ 32 ∷ first.0 in
        let none : NoLf l = All-append (λ b. b ≢ 10) r.target (32 ∷ first.0) (hex_no_lf r.target k takes.id) (All-append (λ b. b ≢ 10) (32 ∷ []) first.0 (one_no_lf 32 refl) first.1) in
        let whole : t ≡ (l ++ 10 ∷ []) ++ takes.after =
        takes.line.whole ∙ ap (λ t. r.target ++ 32 ∷ t) first.2 ∙ sym (append_assoc r.target (32 ∷ first.0) (10 ∷ takes.after)) ∙ sym (append_assoc l (10 ∷ []) takes.after) in
        with_object l none whole o peeled
      where
        with_object : (l : List ℕ) → NoLf l → t ≡ (l ++ 10 ∷ []) ++ takes.after → (o : Option (List ℕ)) → OptionalPeeledLine k takes.after o rest → Counted t rest (lines_with o)
        with_object l none whole None peeled = record { front = l ++ 10 ∷ []; whole = whole ∙ ap (λ a. (l ++ 10 ∷ []) ++ a) peeled.0; ends = ends_lf l; feeds = one_feed l none }
        with_object l none whole (Some object) peeled =
            let second = peeled_to_lf k takes.after object rest peeled in
            let a = l ++ 10 ∷ [] in
            record {
              front = (a ++ second.0) ++ 10 ∷ [];
              whole = whole ∙ ap (λ x. a ++ x) second.2 ∙ sym (append_assoc a second.0 (10 ∷ rest)) ∙ sym (append_assoc (a ++ second.0) (10 ∷ []) rest);
              ends = ends_lf (a ++ second.0);
              feeds = ap line_feeds (append_assoc a second.0 (10 ∷ [])) ∙ feeds_more a (second.0 ++ 10 ∷ []) ∙ (λ i. one_feed l none i + one_feed second.0 second.1 i);
            }

-- ---- one item after the other

module _ (k : Kind) (text : List ℕ) (first : ℕ) (prefix : Option (List ℕ)) (start : ℕ) (begins : IsItemStart k text start) where
  abbrev IsLater : Unread → Type 0
  IsLater u = (u.text ≡ []) ⊎ ((s : ℕ) × IsItemStart k text s × (u ≡ unread_at k text first prefix s))

  -- what follows such a front of the rest
  module _ (rest : List ℕ) (n : ℕ) (c : Counted (drop start text) rest n) where
    abbrev next : ℕ
    next = start + length c.front

    whole : text ≡ (take start text ++ c.front) ++ rest
    whole = sym (take-append-drop start text) ∙ ap (λ t. take start text ++ t) c.whole ∙ sym (append_assoc (take start text) c.front rest)

    len_front : length (take start text ++ c.front) ≡ next
    len_front = let within = begins.list_start.within in omega (arith, length-append (take start text) c.front, length-take start text)

    len : next + length rest ≡ length text
    len = let all = ap length whole in let front = len_front in omega (arith, length-append (take start text ++ c.front) rest)

    left : drop next text ≡ rest
    left = ap (drop next) whole ∙ drop_at (take start text ++ c.front) rest next len_front

    feeds : line_feeds (take next text) ≡ line_feeds (take start text) + n
    feeds = ap line_feeds (ap (take next) whole ∙ take_at (take start text ++ c.front) rest next len_front) ∙ feeds_more (take start text) c.front ∙ ap (λ m. line_feeds (take start text) + m) c.feeds

    line_next : BeginsLine text next
    line_next some =
        let has = c.ends.some in
        let place : start + (length c.front - 1) ≡ next - 1 = omega arith in
        sym (get_or-drop start text (length c.front - 1) 0 ∙ ap (λ i. get_or text i 0) place) ∙ ap (λ t. get_or t (length c.front - 1) 0) c.whole
        ∙ get_or_append_left c.front rest 0 (length c.front - 1) (omega arith) ∙ c.ends.last

    later : (u : Unread) → CutsNoRecord k text next → u.kind ≡ k → u.prefix ≡ prefix → u.number ≡ first + line_feeds (take start text) + n → u.text ≡ rest → IsLater u
    later u apart of_kind of_prefix number is =
        let all = feeds in
        let fits = len in
        let same : u.number ≡ first + line_feeds (take next text) = omega arith in
        inr (
          next,
          record { list_start = record { within = omega arith; begins = inr line_next }; apart = apart },
          λ i. record { kind = of_kind i; prefix = of_prefix i; number = same i; text = (is ∙ sym left) i },
        )

  next_of : (u : Unread) (item : Result Reference Error) → GivesPackedItem (unread_at k text first prefix start) (Some item) u → IsItemOf k text first prefix item × IsLater u
  next_of u (Ok r) gave =
      let c = counted_record k (drop start text) (record_of r) u.text gave.0 in
      let line_there : BeginsLine text start = ⊎_elim
      (λ (end : start ≡ length text). absurd (none_taken k (drop start text) (record_of r) u.text (drop_all start text (omega arith)) gave.0))
      (λ (line : BeginsLine text start). line)
      begins.list_start.begins in
      let at : RecordAt k text start (record_of r) = (line_there, (u.text, gave.0)) in (
        (record { start = start; line = line_there; rest = u.text; takes = gave.0 }, gave.1),
        later u.text (lines_of (record_of r)) c u (apart_after k text start (next u.text (lines_of (record_of r)) c) (record_of r) at (len u.text (lines_of (record_of r)) c) begins.apart) gave.3.0 gave.3.1 gave.2 refl,
      )
  next_of u (Err (bad_header line)) gave = absurd gave
  next_of u (Err (bad_line line number)) gave =
      let some : start < length text = ⊎_elim (λ (some : start < length text). some) (λ (none : length text ≤ start). absurd (gave.0 (drop_all start text none))) (cases_lt start (length text)) in (
        record { start = start; at = record { begins = begins; some = some; bad = gave.1 }; rest = u.text; cut = gave.2; numbered = gave.3 },
        ⊎_elim
            (λ (cut : Cuts 10 (drop start text) line.now u.text).
            let c : Counted (drop start text) u.text 1 = record {
              front = line.now ++ 10 ∷ [];
              whole = cut.whole ∙ sym (append_assoc line.now (10 ∷ []) u.text);
              ends = ends_lf line.now;
              feeds = one_feed line.now (no_lf line.now cut.none);
            } in
            let none : (i : ℕ) → start < i → i < next u.text 1 c → BeginsLine text i → ⊥ = λ i low high at.
            let size = length-append line.now (10 ∷ []) in
            let place : start + (i - 1 - start) ≡ i - 1 = omega arith in
            let short : i - 1 - start < length line.now = omega arith in
            cut.none (i - 1 - start) short
            (sym (get_or_append_left line.now (10 ∷ u.text) 0 (i - 1 - start) short) ∙ ap (λ t. get_or t (i - 1 - start) 0) (sym cut.whole)
            ∙ get_or-drop start text (i - 1 - start) 0 ∙ ap (λ j. get_or text j 0) place ∙ at (omega arith)) in
            later u.text 1 c u (apart_next k text start (next u.text 1 c) (omega arith) gave.1 none begins.apart) gave.5.0 gave.5.1 gave.4 refl)
            (λ (none : NoByte 10 (drop start text) × (line.now ≡ drop start text) × (u.text ≡ [])). inl none.2)
            gave.2,
      )

-- nothing is given of an empty text
none_given : (s u : Unread) (item : Result Reference Error) → s.text ≡ [] → GivesPackedItem s (Some item) u → ⊥
none_given s u (Ok r) none gave = none_taken s.kind s.text (record_of r) u.text none gave.0
none_given s u (Err (bad_line line number)) none gave = gave.0 none
none_given s u (Err (bad_header line)) none gave = gave

pub next_is_of : NextIsOf
next_is_of k text first prefix s t item rest step = ⊎_elim
    (λ (none : (unread s).text ≡ []). absurd (none_given (unread s) (unread t) item none step))
    (λ (at : (start : ℕ) × IsItemStart k text start × (unread s ≡ unread_at k text first prefix start)).
    next_of k text first prefix at.0 at.1 (unread t) item (subst (λ (u : Unread). GivesPackedItem u (Some item) (unread t)) at.2 step))
    rest

-- ---- a front of a text that ends before a line with no `^`

module _ (k : Kind) (u : List ℕ) (n : ℕ) (starts : IsListStart u n) (stops : StopsAt is_caret (drop n u)) where
  short : length (take n u) ≡ n
  short = let within = starts.within in omega (arith, length-take n u)

  joined : (s : ℕ) → s ≤ n → drop s (take n u) ++ drop n u ≡ drop s u
  joined s inside =
      let len = short in
      sym (drop-append-le s (take n u) (drop n u) (omega arith)) ∙ ap (drop s) (take-append-drop n u)

  at_longer : (s : ℕ) (r : Record) → RecordAt k (take n u) s r → RecordAt k u s r
  at_longer s r at =
      let len = short in
      let less = shorter_record k (drop s (take n u)) r at.1.0 at.1.1 in
      let inside : s ≤ n = omega (arith, length-drop s (take n u)) in
      (text_line k u n s inside at.0, (at.1.0 ++ drop n u, subst (λ (t : List ℕ). Takes k t r (at.1.0 ++ drop n u)) (joined s inside) (record_longer k (drop s (take n u)) (drop n u) stops r at.1.0 at.1.1)))

  pub begins_longer : (r : Record) → RecordBeginsLine k (take n u) r → RecordBeginsLine k u r
  begins_longer r at =
      let there = at_longer at.start r (at.line, (at.rest, at.takes)) in
      record { start = at.start; line = there.0; rest = there.1.0; takes = there.1.1 }

  module _ (line : BeginsLine u n) where
    front_ends : (s : ℕ) → s < n → EndsLf (drop s (take n u))
    front_ends s inside =
        let len = short in
        let size : length (drop s (take n u)) ≡ n - s = omega (arith, length-drop s (take n u)) in
        let place : s + (length (drop s (take n u)) - 1) ≡ n - 1 = omega arith in
        record {
          some = omega arith;
          last = get_or-drop s (take n u) (length (drop s (take n u)) - 1) 0 ∙ ap (λ i. get_or (take n u) i 0) place ∙ get_or-take n u (n - 1) 0 (omega arith) ∙ line (omega arith);
        }

    start_longer : (s : ℕ) → s < n → IsItemStart k (take n u) s → IsItemStart k u s
    start_longer s inside at =
        let len = short in
        let within = starts.within in
        record {
          list_start = record {
            within = omega arith;
            begins = ⊎_elim (λ (end : s ≡ length (take n u)). absurd (omega arith)) (λ (line : BeginsLine (take n u) s). inr (text_line k u n s (omega arith) line)) at.list_start.begins;
          };
          apart = λ p r there before.
              let shorter = record_shorter k (drop p (take n u)) (drop n u) stops (front_ends p (omega arith)) r there.1.0 (subst (λ (t : List ℕ). Takes k t r there.1.0) (sym (joined p (omega arith))) there.1.1) in
              let inner = at.apart p r (part_line k u n p (omega arith) there.0, (shorter.0, shorter.1)) before in
              let more : length there.1.0 ≡ length shorter.0 + length (drop n u) = ap length shorter.2 ∙ length-append shorter.0 (drop n u) in
              omega (arith, length-drop n u);
        }

    bad_longer : (first : ℕ) (bytes : List ℕ) (number : ℕ) → IsBadLine k (take n u) first bytes number → IsBadLine k u first bytes number
    bad_longer first bytes number bad =
        let len = short in
        let within = starts.within in
        let some = bad.at.some in
        let s = bad.start in
        let part = drop s (take n u) in
        let whole = joined s (omega arith) in
        record {
          start = s;
          at = record {
            begins = start_longer s (omega arith) bad.at.begins;
            some = omega arith;
            bad = subst (NoRecord k) whole (no_record_longer k part (drop n u) stops bad.at.bad (front_ends s (omega arith)));
          };
          rest = bad.rest ++ drop n u;
          cut = ⊎_elim
              (λ (cut : Cuts 10 part bytes bad.rest).
              inl (record { whole = sym whole ∙ ap (λ t. t ++ drop n u) cut.whole ∙ append_assoc bytes (10 ∷ bad.rest) (drop n u); none = cut.none }))
              (λ (none : NoByte 10 part × (bytes ≡ part) × (bad.rest ≡ [])).
              let last = front_ends s (omega arith) in let has = last.some in absurd (none.0 (length part - 1) (omega arith) last.last))
              bad.cut;
          numbered = bad.numbered ∙ ap (λ t. first + line_feeds t) (sym (take-append-le s (take n u) (drop n u) (omega arith)) ∙ ap (take s) (take-append-drop n u));
        }

  pub bad_of_front : (first : ℕ) (bytes : List ℕ) (number : ℕ) → IsBadLine k (take n u) first bytes number → IsBadLine k u first bytes number
  bad_of_front first bytes number bad = ⊎_elim
      (λ (end : n ≡ length u). subst (λ (t : List ℕ). IsBadLine k t first bytes number) (take_all n u (omega arith)) bad)
      (λ (line : BeginsLine u n). bad_longer line first bytes number bad)
      starts.begins

-- ---- a part of a text that is records

-- a record of the part begins a line of the text
pub begins_whole : (k : Kind) (u : List ℕ) (start end : ℕ) → IsListStart u start → IsListStart u end → StopsAt is_caret (drop end u) → start ≤ end → (r : Record) → RecordBeginsLine k (take (end - start) (drop start u)) r → RecordBeginsLine k u r
begins_whole k u start end begins ends stops ordered r at =
    let v = drop start u in
    let m = end - start in
    let within = ends.within in
    let sum : start + m ≡ end = omega arith in
    let part_ends : IsListStart v m = record {
      within = omega (arith, length-drop start u);
      begins = ⊎_elim
          (λ (end_of : end ≡ length u). inl (omega (arith, length-drop start u)))
          (λ (line : BeginsLine u end). inr (λ some. let place : start + (m - 1) ≡ end - 1 = omega arith in get_or-drop start u (m - 1) 0 ∙ ap (λ i. get_or u i 0) place ∙ line (omega arith)))
          ends.begins;
    } in
    let inner = begins_longer k v m part_ends (subst (StopsAt is_caret) (ap (λ i. drop i u) (sym sum) ∙ sym (drop-drop m start u)) stops) r at in
    let len : length (take start u) ≡ start = omega (arith, length-take start u) in
    ⊎_elim
    (λ (end_of : start ≡ length u).
    let less = shorter_record k (drop inner.start v) r inner.rest inner.takes in absurd (omega (arith, length-drop start u, length-drop inner.start v)))
    (λ (line : BeginsLine u start).
    let there = record_in_text u (take start u) v (sym (take-append-drop start u)) (subst (BeginsLine u) (sym len) line) k inner.start r (inner.line, (inner.rest, inner.takes)) in
    record { start = length (take start u) + inner.start; line = there.0; rest = there.1.0; takes = there.1.1 })
    begins.begins

-- no line of records is a bad one
pub none_bad : (k : Kind) (text : List ℕ) (rs : List Record) → Records k text rs → (start : ℕ) → CutsNoRecord k text start → start < length text → NoRecord k (drop start text) → ⊥
none_bad k text [] h start apart some bad = let none : length text ≡ 0 = ap length h in omega arith
none_bad k text (r ∷ rs) h start apart some bad = ⊎_elim
    (λ (zero : start ≡ 0). bad r h.0 (subst (λ (t : List ℕ). Takes k t r h.0) (sym (ap (λ i. drop i text) zero ∙ drop_zero text)) h.1))
    (λ (other : start ≡ 0 → ⊥).
    let c = counted_record k text r h.0 h.1 in
    let at : RecordAt k text 0 r = (λ some. absurd (omega arith), (h.0, subst (λ (t : List ℕ). Takes k t r h.0) (sym (drop_zero text)) h.1)) in
    let far = apart 0 r at (omega arith) in
    let len : length text ≡ length c.front + length h.0 = ap length c.whole ∙ length-append c.front h.0 in
    let has = c.ends.some in
    let line : BeginsLine text (length c.front) = λ some. ap (λ t. get_or t (length c.front - 1) 0) c.whole ∙ get_or_append_left c.front h.0 0 (length c.front - 1) (omega arith) ∙ c.ends.last in
    let s = start - length c.front in
    let sum : length c.front + s ≡ start = omega arith in
    none_bad k h.0 rs h.2 s
    (λ p x there before. let of_text : RecordAt k text (length c.front + p) x =
    (line_in_text text c.front h.0 c.whole line p there.0, (there.1.0, subst (λ (t : List ℕ). Takes k t x there.1.0) (sym (dropped text c.front h.0 c.whole line p)) there.1.1)) in
    let old : length text ≤ start + length there.1.0 = apart (length c.front + p) x of_text (omega arith) in omega arith)
    (omega arith)
    (subst (NoRecord k) (ap (λ i. drop i text) (sym sum) ∙ ap (drop (length c.front + s)) c.whole ∙ drop-append-add c.front h.0 s) bad))
    (cases_eq start 0)
