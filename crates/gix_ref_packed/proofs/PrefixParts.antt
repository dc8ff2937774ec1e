-- The lines of a text that have all records of a prefix.
use Rattle.std.proofs.Common.{◌≡◌, inl, inr, ℕ, suc, zero, get_or, ◌+◌, ◌-◌, ◌≤◌, false, List, [], ◌∷◌, ◌++◌, length, take, drop, refl, sym, ◌∙◌, ap, subst, arith, append_assoc, length-append, nat_eq, Option, None}
use Rattle.std.specs.List.{All, starts_with}
use Rattle.std.specs.Cmp.Lexicographic.{slice_cmp}
use Rattle.std.specs.Ordering.{nat_cmp, ordering_then}
use Rattle.std.specs.declared.cmp.Ordering.TheVariants.{Less}
use Rattle.std.specs.Cmp.{nat_cmp_is}
use Rattle.std.proofs.Math.Seq.{take-append-add, drop-cons}
use Rattle.std.proofs.lemmas.List.{length-drop, take_all, drop_all, take-append-drop, append-nil}
use Rattle.std.proofs.lemmas.List.Elements.{All-head, All-tail, All-cons, All-nil}
use Rattle.gix_ref_hash.specs.declared.hash.Kind.{Kind}
use Rattle.gix_ref_hash.specs.Bytes.{StopsAt}
use Rattle.gix_ref_target.specs.PackedRecords.{Record}
use Rattle.gix_ref_packed_text.specs.RecordGrammar.{Takes, OptionalPeeledLine, Records, Below, Rising, is_caret}
use Rattle.gix_ref_packed_text.specs.OpenedText.{Fronts}
use Rattle.gix_ref_packed_text.specs.Prefixes.{IsListStart, SplitsAt, records_prefixed}
use Rattle.gix_ref_packed.specs.FilePrefixes.{IsPast, Encloses}
use Rattle.gix_ref_packed_text.proofs.OneReading.{same_record}
use Rattle.gix_ref_packed_text.proofs.RecordPlaces.{shorter_record}
use Rattle.gix_ref_packed_text.proofs.RecordBytes.{lines_taken}
use Rattle.gix_ref_packed_text.proofs.LowerBounds.{same_byte, begins, none_kept, low_are_not, kept_append, later_ascend, by_false}

-- ---- names past a prefix

pub past_last : (front : List ℕ) (b : ℕ) → IsPast (front ++ b ∷ []) (front ++ (b + 1) ∷ [])
past_last [] b rest = ap (λ o. ordering_then o (slice_cmp nat_cmp rest [])) (sym (nat_cmp_is b (b + 1) Less (omega arith)))
past_last (a ∷ front) b rest =
    ap (λ o. ordering_then o (slice_cmp nat_cmp ((front ++ b ∷ []) ++ rest) (front ++ (b + 1) ∷ []))) (sym (same_byte a)) ∙ past_last front b rest

-- the prefix with a last byte that is one higher
pub past_of : (prefix past : List ℕ) (n : ℕ) → n + 1 ≡ length prefix → past ≡ take n prefix ++ (get_or prefix n 0 + 1) ∷ [] → IsPast prefix past
past_of prefix past n last is =
    let parts : prefix ≡ take n prefix ++ get_or prefix n 0 ∷ [] = sym (take-append-drop n prefix)
    ∙ ap (λ xs. take n prefix ++ xs) (drop-cons prefix n 0 (omega arith) ∙ ap (λ xs. get_or prefix n 0 ∷ xs) (drop_all (suc n) prefix (omega arith))) in
    subst (IsPast prefix) (sym is) (subst (λ (p : List ℕ). IsPast p (take n prefix ++ (get_or prefix n 0 + 1) ∷ [])) (sym parts) (past_last (take n prefix) (get_or prefix n 0)))

past_are_not : (prefix past : List ℕ) → IsPast prefix past → (rs : List Record) → All (λ r. Below r.name past → ⊥) rs → All (λ r. starts_with nat_eq r.name prefix ≡ false) rs
past_are_not prefix past is [] all = All-nil (λ r. starts_with nat_eq r.name prefix ≡ false)
past_are_not prefix past is (r ∷ rs) all =
    All-cons (λ r. starts_with nat_eq r.name prefix ≡ false) r rs
    (by_false prefix (starts_with nat_eq r.name prefix)
    (λ t. All-head (λ r. Below r.name past → ⊥) r rs all (subst (λ (n : List ℕ). Below n past) (sym (begins r.name prefix t)) (is (drop (length prefix) r.name)))))
    (past_are_not prefix past is rs (All-tail (λ r. Below r.name past → ⊥) r rs all))

-- ---- records at the front of a text

fronts_length : (k : Kind) (t : List ℕ) (rs : List Record) (u : List ℕ) → Fronts k t rs u → length u ≤ length t
fronts_length k t [] u h = let same : length t ≡ length u = ap length h in omega arith
fronts_length k t (r ∷ rs) u h =
    let less = shorter_record k t r h.0 h.1 in
    let more = fronts_length k h.0 rs u h.2 in omega arith

-- more records at the front of the same text are the first ones and others
others : (k : Kind) (t : List ℕ) (xs : List Record) (u : List ℕ) (ys : List Record) (v : List ℕ) → Fronts k t xs u → Fronts k t ys v → length v ≤ length u
    → (mid : List Record) × (ys ≡ xs ++ mid) × Fronts k u mid v
others k t [] u ys v f h less = (ys, refl, subst (λ (w : List ℕ). Fronts k w ys v) f h)
others k t (x ∷ xs) u [] v f h less =
    let first = shorter_record k t x f.0 f.1 in
    let later = fronts_length k f.0 xs u f.2 in
    let same : length t ≡ length v = ap length h in absurd (omega arith)
others k t (x ∷ xs) u (y ∷ ys) v f h less =
    let same = same_record k t y h.0 x f.0 h.1 f.1 in
    let more = others k f.0 xs u ys v f.2 (subst (λ (w : List ℕ). Fronts k w ys v) same.1 h.2) less in
    (more.0, (λ i. same.0 i ∷ more.1 i), more.2)

-- a record without a peeled line is followed by no line with `^`
no_peeled : (k : Kind) (t : List ℕ) (r : Record) (rest : List ℕ) → Takes k t r rest → r.object ≡ None → StopsAt is_caret rest
no_peeled k t r rest f none = (subst (λ (o : Option (List ℕ)). OptionalPeeledLine k f.after o rest) none f.peeled).1

stops_front : (n : ℕ) (t : List ℕ) → StopsAt is_caret t → StopsAt is_caret (take n t)
stops_front n [] h = subst (StopsAt is_caret) (sym (take_all n [] (omega arith))) tt
stops_front n (b ∷ t) h = go n
  where
    go : (n : ℕ) → StopsAt is_caret (take n (b ∷ t))
    go zero = tt
    go (suc n) = h

-- they are the records of what is before the rest
cut_fronts : (k : Kind) (u : List ℕ) (mid : List Record) (v : List ℕ) (n : ℕ) → Fronts k u mid v → n + length v ≡ length u → Records k (take n u) mid
cut_fronts k u [] v n h len =
    let same : length u ≡ length v = ap length h in
    let zero : n ≡ 0 = omega arith in ap (λ m. take m u) zero
cut_fronts k u (r ∷ rs) v n h len =
    let l = lines_taken k u r h.0 h.1 in
    let whole : length u ≡ length l.front + length h.0 = ap length l.whole ∙ length-append l.front h.0 in
    let few = fronts_length k h.0 rs v h.2 in
    let m = n - length l.front in
    let split : length l.front + m ≡ n = omega arith in
    let cut : take n u ≡ l.front ++ take m h.0 = ap (λ i. take i u) (sym split) ∙ ap (take (length l.front + m)) l.whole ∙ take-append-add l.front h.0 m in (
      take m h.0,
      subst (λ (t : List ℕ). Takes k t r (take m h.0)) (sym cut) (l.again (take m h.0) (λ none. stops_front m h.0 (no_peeled k u r h.0 h.1 none))),
      cut_fronts k h.0 rs v m h.2 (omega arith),
    )

all_front : (P : Record → Type 0) (xs ys : List Record) → All P (xs ++ ys) → All P xs
all_front P [] ys all = All-nil P
all_front P (x ∷ xs) ys all = All-cons P x xs (All-head P x (xs ++ ys) all) (all_front P xs ys (All-tail P x (xs ++ ys) all))

front_rises : (xs ys : List Record) → Rising (xs ++ ys) → Rising xs
front_rises [] ys up = tt
front_rises (x ∷ xs) ys up = (all_front (λ s. Below s.name x.name → ⊥) xs ys up.0, front_rises xs ys up.1)

-- ---- the three ways to enclose a prefix

pub drop_zero : (t : List ℕ) → drop 0 t ≡ t
drop_zero [] = refl
drop_zero (b ∷ t) = refl

pub whole_part : (text : List ℕ) (end : ℕ) → end ≡ length text → take (end - 0) (drop 0 text) ≡ text
whole_part text end whole = take_all (end - 0) (drop 0 text) (omega (arith, length-drop 0 text)) ∙ drop_zero text

module _ (k : Kind) (text prefix : List ℕ) where
  none_at_end : (end : ℕ) → end ≡ length text → StopsAt is_caret (drop end text)
  none_at_end end whole = subst (StopsAt is_caret) (sym (drop_all end text (omega arith))) tt

  -- all records
  pub encloses_all : (end : ℕ) → end ≡ length text → Encloses k text prefix 0 end
  encloses_all end whole = record {
    begins = record { within = omega arith; begins = inr (λ some. absurd (omega arith)) };
    ends = record { within = omega arith; begins = inl whole };
    no_caret = none_at_end end whole;
    ordered = omega arith;
    records = λ rs h up. record {
      held = rs;
      records = subst (λ (t : List ℕ). Records k t rs) (sym (whole_part text end whole)) h;
      rises = up;
      kept = refl;
    };
  }

  -- those of names that are not below the prefix
  pub encloses_rest : (start end : ℕ) → IsListStart text start → end ≡ length text
      → ((rs : List Record) → Records k text rs → Rising rs → SplitsAt k text rs prefix start) → Encloses k text prefix start end
  encloses_rest start end begins whole splits = record {
    begins = begins;
    ends = record { within = omega arith; begins = inl whole };
    no_caret = none_at_end end whole;
    ordered = let within = begins.within in omega arith;
    records = λ rs h up.
        let split = splits rs h up in
        let all : take (end - start) (drop start text) ≡ drop start text = take_all (end - start) (drop start text) (omega (arith, length-drop start text)) in
        record {
          held = split.after;
          records = subst (λ (t : List ℕ). Records k t split.after) (sym all) split.rest;
          rises = later_ascend prefix split.before split.after (subst Rising split.is up);
          kept = sym (ap (records_prefixed prefix) split.is ∙ kept_append prefix split.before split.after
              ∙ ap (λ xs. xs ++ records_prefixed prefix split.after) (none_kept prefix split.before (low_are_not prefix split.before split.low)));
        };
  }

  -- those of names between the prefix and one past it
  pub encloses_between : (past : List ℕ) (start end : ℕ) → IsListStart text start → IsListStart text end → StopsAt is_caret (drop end text) → start ≤ end → IsPast prefix past
      → ((rs : List Record) → Records k text rs → Rising rs → SplitsAt k text rs prefix start)
      → ((rs : List Record) → Records k text rs → Rising rs → SplitsAt k text rs past end) → Encloses k text prefix start end
  encloses_between past start end begins ends no_caret ordered is first last = record {
    begins = begins;
    ends = ends;
    no_caret = no_caret;
    ordered = ordered;
    records = λ rs h up.
        let a = first rs h up in
        let b = last rs h up in
        let within = ends.within in
        let short : length (drop end text) ≤ length (drop start text) = omega (arith, length-drop end text, length-drop start text) in
        let mid = others k text a.before (drop start text) b.before (drop end text) a.front b.front short in
        let parts : rs ≡ a.before ++ (mid.0 ++ b.after) = b.is ∙ ap (λ xs. xs ++ b.after) mid.1 ∙ append_assoc a.before mid.0 b.after in
        record {
          held = mid.0;
          records = cut_fronts k (drop start text) mid.0 (drop end text) (end - start) mid.2 (omega (arith, length-drop end text, length-drop start text));
          rises = front_rises mid.0 b.after (later_ascend prefix a.before (mid.0 ++ b.after) (subst Rising parts up));
          kept = sym (ap (records_prefixed prefix) parts ∙ kept_append prefix a.before (mid.0 ++ b.after)
              ∙ ap (λ xs. xs ++ records_prefixed prefix (mid.0 ++ b.after)) (none_kept prefix a.before (low_are_not prefix a.before a.low))
              ∙ kept_append prefix mid.0 b.after
              ∙ ap (λ xs. records_prefixed prefix mid.0 ++ xs) (none_kept prefix b.after (past_are_not prefix past is b.after b.high))
              ∙ append-nil (records_prefixed prefix mid.0));
        };
  }
