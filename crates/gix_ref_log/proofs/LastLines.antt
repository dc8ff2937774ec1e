-- What is to come, where the last line feed is known.
use Rattle.std.proofs.Common.{◌≡◌, ◌≢◌, ℕ, zero, suc, ◌+◌, ◌-◌, ◌<◌, ◌≤◌, ◌⊎◌, inl, inr, ⊎_elim, Bool, true, false, cond, nat_lt, nat_le, ◌==◌, ◌&&◌, List, [], ◌∷◌, ◌++◌, length, take, drop, slice_index, reverse, refl, sym, ◌∙◌, ap, arith}
use Rattle.std.proofs.lemmas.Bool.{eq-eqb, ne_eqb, cases_eq, cond-true, cond-false, lt-ltb, lt-leb, cases_lt}
use Rattle.std.proofs.lemmas.List.{append_assoc, length-append, length-reverse, reverse-append, get_or_append_left, get_or-append_right, take_at, append-nil}
use Rattle.bstr.specs.Text.{lines_of, line_len, without_terminator, no_cr}
use Rattle.bstr.proofs.lemmas.LineLemmas.{lines-append, lines-one, lines-step}
use Rattle.gix_ref_log.specs.LogItems.{Text, TooSmall, len_without_feed, backward, items_from}
use Rattle.gix_ref_log.specs.LogStages.{NoFeed, tail_of, text_of_line}

by : (A : Type 0) → A → A
by A a = a

-- two lists of which the second has one more line after
older_stand : (room n : ℕ) (p : List ℕ) (ps : List (List ℕ)) → 0 < length ps
    → backward room n (p ∷ ps) ≡ cond (nat_le (len_without_feed p + 1) room) (Text n (without_terminator p) ∷ backward room (n + 1) ps) (TooSmall ∷ [])
older_stand room n p [] some = absurd (omega arith)
older_stand room n p (q ∷ ps) some = refl

pub some_lines : (t : List ℕ) → 0 < length t → 0 < length (reverse (lines_of t))
some_lines t some =
    let step = lines-step t some in
    let e : length (reverse (lines_of t)) ≡ suc (length (lines_of (drop (line_len t) t))) = length-reverse (lines_of t) ∙ ap length step in
    omega (arith, e)

-- the last byte after more
pub last_at : (v : List ℕ) (b : ℕ) → slice_index (v ++ b ∷ []) (length (v ++ b ∷ []) - 1) ≡ b
last_at v b =
    let long = length-append v (b ∷ []) in
    let place : length (v ++ b ∷ []) - 1 ≡ length v = omega arith in
    ap (slice_index (v ++ b ∷ [])) place ∙ get_or-append_right v (b ∷ []) (length v) (length v) 0 refl (omega arith) ∙ ap (λ (j : ℕ). slice_index (b ∷ []) j) (by (length v - length v ≡ 0) (omega arith))

-- whether bytes end with a line feed
feed_yes : (v : List ℕ) → (nat_lt 0 (length (v ++ 10 ∷ [])) && slice_index (v ++ 10 ∷ []) (length (v ++ 10 ∷ []) - 1) == 10) ≡ true
feed_yes v =
    let long = length-append v (10 ∷ []) in
    let some : nat_lt 0 (length (v ++ 10 ∷ [])) ≡ true = lt-ltb 0 _ (omega arith) in
    ap (λ (b : Bool). b && slice_index (v ++ 10 ∷ []) (length (v ++ 10 ∷ []) - 1) == 10) some ∙ eq-eqb _ 10 (last_at v 10)

feed_no : (v : List ℕ) → NoFeed v → (nat_lt 0 (length v) && slice_index v (length v - 1) == 10) ≡ false
feed_no [] none = refl
feed_no (x ∷ v) none =
    let some : nat_lt 0 (length (x ∷ v)) ≡ true = lt-ltb 0 _ (omega arith) in
    ap (λ (b : Bool). b && slice_index (x ∷ v) (length (x ∷ v) - 1) == 10) some ∙ ne_eqb _ 10 (none (length (x ∷ v) - 1) (omega arith))

bytes_is : (v : List ℕ) (ends : Bool) → NoFeed v → len_without_feed (v ++ tail_of ends) ≡ length v
bytes_is v true none = let long = length-append v (10 ∷ []) in cond-true _ _ _ (feed_yes v) ∙ omega arith
bytes_is v false none = ap len_without_feed (append-nil v) ∙ cond-false _ _ _ (feed_no v none)

pub text_is : (v : List ℕ) (ends : Bool) → NoFeed v → without_terminator (v ++ tail_of ends) ≡ text_of_line ends v
text_is v true none =
    let long = length-append v (10 ∷ []) in
    let front : take (length (v ++ 10 ∷ []) - 1) (v ++ 10 ∷ []) ≡ v = take_at v (10 ∷ []) _ (omega arith) in
    cond-true _ _ _ (feed_yes v) ∙ ap no_cr front
text_is v false none = ap without_terminator (append-nil v) ∙ cond-false _ _ _ (feed_no v none)

-- one line at the end of others
lines_last : (a w : List ℕ) → 0 < length w → ((k : ℕ) → k + 1 < length w → slice_index w k ≢ 10)
    → reverse (lines_of ((a ++ 10 ∷ []) ++ w)) ≡ w ∷ reverse (lines_of (a ++ 10 ∷ []))
lines_last a w some none =
    let xs = a ++ 10 ∷ [] in
    ap reverse (lines-append (length xs) xs w (omega arith) (inr (last_at a 10)) ∙ ap (λ (z : List (List ℕ)). lines_of xs ++ z) (lines-one w some none))
    ∙ reverse-append (lines_of xs) (w ∷ [])

-- no line feed but perhaps the last byte
pub feeds_none : (v : List ℕ) (ends : Bool) → NoFeed v → (k : ℕ) → k + 1 < length (v ++ tail_of ends) → slice_index (v ++ tail_of ends) k ≢ 10
feeds_none v true none k l = let long = length-append v (10 ∷ []) in λ is. none k (omega arith) (sym (get_or_append_left v (10 ∷ []) 0 k (omega arith)) ∙ is)
feeds_none v false none k l = let long = length-append v [] in λ is. none k (omega arith) (sym (get_or_append_left v [] 0 k (omega arith)) ∙ is)

pub found : (room n : ℕ) (a v : List ℕ) (ends : Bool) → NoFeed v → 0 < length (v ++ tail_of ends)
    → items_from room n ((a ++ 10 ∷ v) ++ tail_of ends) ≡ cond (nat_le (length v + 1) room) (Text n (text_of_line ends v) ∷ items_from room (n + 1) (a ++ 10 ∷ [])) (TooSmall ∷ [])
unfolding items_from
found room n a v ends none some =
    let w = v ++ tail_of ends in
    let xs = a ++ 10 ∷ [] in
    let long = length-append a (10 ∷ []) in
    let split : (a ++ 10 ∷ v) ++ tail_of ends ≡ xs ++ w = ap (λ (z : List ℕ). z ++ tail_of ends) (sym (append_assoc a (10 ∷ []) v)) ∙ append_assoc xs v (tail_of ends) in
    ap (λ (t : List ℕ). backward room n (reverse (lines_of t))) split
    ∙ ap (backward room n) (lines_last a w some (feeds_none v ends none))
    ∙ older_stand room n w (reverse (lines_of xs)) (some_lines xs (omega arith))
    ∙ ap (λ (k : ℕ). cond (nat_le (k + 1) room) (Text n (without_terminator w) ∷ backward room (n + 1) (reverse (lines_of xs))) (TooSmall ∷ [])) (bytes_is v ends none)
    ∙ ap (λ (t : List ℕ). cond (nat_le (length v + 1) room) (Text n t ∷ backward room (n + 1) (reverse (lines_of xs))) (TooSmall ∷ [])) (text_is v ends none)

pub lone : (room n : ℕ) (v : List ℕ) (ends : Bool) → NoFeed v → 0 < length (v ++ tail_of ends)
    → items_from room n (v ++ tail_of ends) ≡ cond (nat_le (length v) room) (Text n (text_of_line ends v) ∷ []) (TooSmall ∷ [])
unfolding items_from
lone room n v ends none some =
    let w = v ++ tail_of ends in
    ap (λ (t : List (List ℕ)). backward room n (reverse t)) (lines-one w some (feeds_none v ends none))
    ∙ ap (λ (k : ℕ). cond (nat_le k room) (Text n (without_terminator w) ∷ []) (TooSmall ∷ [])) (bytes_is v ends none)
    ∙ ap (λ (t : List ℕ). cond (nat_le (length v) room) (Text n t ∷ []) (TooSmall ∷ [])) (text_is v ends none)

-- no line feed in two lists, one after the other
none_both : (a v : List ℕ) → NoFeed a → NoFeed v → NoFeed (a ++ v)
none_both a v f g k l =
    let long = length-append a v in
    ⊎_elim
    (λ (in_a : k < length a). λ is. f k in_a (sym (get_or_append_left a v 0 k in_a) ∙ is))
    (λ (past : length a ≤ k). λ is. g (k - length a) (omega arith) (sym (get_or-append_right a v (length a) k 0 refl past) ∙ is))
    (cases_lt k (length a))

none_more : (x : ℕ) (a : List ℕ) → x ≢ 10 → NoFeed a → NoFeed (x ∷ a)
none_more x a other none zero l = other
none_more x a other none (suc k) l = none k (omega arith)

record Feed (a : List ℕ) : Type 0 where
  before : List ℕ
  after : List ℕ
  split : a ≡ before ++ 10 ∷ after
  none : NoFeed after

-- the last line feed of a list, or none
last_newline : (a : List ℕ) → NoFeed a ⊎ Feed a
last_newline [] = inl (λ k l. absurd (omega arith))
last_newline (x ∷ a) = ⊎_elim
    (λ (none : NoFeed a). ⊎_elim (λ (is : x ≡ 10). inr (record { before = []; after = a; split = ap (λ (y : ℕ). y ∷ a) is; none = none })) (λ (other : x ≢ 10). inl (none_more x a other none)) (cases_eq x 10))
    (λ (h : Feed a). inr (record { before = x ∷ h.before; after = h.after; split = ap (λ (z : List ℕ). x ∷ z) h.split; none = h.none }))
    (last_newline a)

-- the last line is longer than the buffer
pub long : (room n : ℕ) (a v : List ℕ) (ends : Bool) → NoFeed v → 0 < length a → 0 < room → room ≤ length v
    → items_from room n ((a ++ v) ++ tail_of ends) ≡ TooSmall ∷ []
long room n a v ends none some pos wide = ⊎_elim
    (λ (no : NoFeed a).
    let whole = length-append a v in
    let more = length-append (a ++ v) (tail_of ends) in
    lone room n (a ++ v) ends (none_both a v no none) (omega arith) ∙ cond-false _ _ _ (lt-leb (length (a ++ v)) room (omega arith)))
    (λ (h : Feed a).
    let b = h.before in
    let c = h.after in
    let w = c ++ v in
    let w_len = length-append c v in
    let more = length-append w (tail_of ends) in
    let split : a ++ v ≡ b ++ 10 ∷ w = ap (λ (z : List ℕ). z ++ v) h.split ∙ append_assoc b (10 ∷ c) v in
    ap (λ (z : List ℕ). items_from room n (z ++ tail_of ends)) split
    ∙ found room n b w ends (none_both c v h.none none) (omega arith)
    ∙ cond-false _ _ _ (lt-leb (length w + 1) room (omega arith)))
    (last_newline a)
