-- One step backwards, over plain values.
use Rattle.std.proofs.Common.{◌≡◌, ◌≢◌, ℕ, ◌+◌, ◌-◌, ◌^◌, ◌<◌, ◌≤◌, ⊎_elim, Bool, true, false, cond, nat_le, List, [], ◌∷◌, ◌++◌, length, take, drop, slice_index, slice_range, reverse, refl, sym, ◌∙◌, ap, subst, arith, Some, None, Result, Ok, Err}
use Rattle.std.proofs.lemmas.Bool.{eq-eqb, eqb-true, cond-true, cases_Bool, le-leb, cases_lt}
use Rattle.std.proofs.lemmas.List.{append_assoc, length-append, length-take-le, length-drop, take-append-drop, drop_more, get_or-drop, get_or-take, take-take, take_all, append-nil}
use Rattle.std.proofs.lemmas.Slice.{between_is, between_from_start}
use Rattle.std.proofs.Math.Seq.{take-add}
use Rattle.memchr.specs.Find.{IsLastByte, is_byte}
use Rattle.bstr.specs.Text.{lines_of, without_terminator}
use Rattle.bstr.proofs.lemmas.LineLemmas.{lines-nil}
use Rattle.gix_ref_log.specs.declared.log.iter.error.ReverseError.{ReverseError}
use Rattle.gix_ref_log.specs.declared.log.iter.error.ReverseError.TheVariants.{Io, BufferTooSmall}
use Rattle.gix_ref_files.specs.declared.files.FileError.{FileError}
use Rattle.gix_ref_log.specs.declared.log.iter.stage.Stage.{Stage}
use Rattle.gix_ref_log.specs.declared.log.iter.stage.Stage.TheVariants.{Unread, Reading, Done}
use Rattle.gix_ref_log.specs.LogItems.{Item, Text, TooSmall, backward, len_without_feed, items_from, GivesLine}
use Rattle.gix_ref_log.specs.LogStages.{NoFeed, tail_of, text_of_line}
use Rattle.gix_ref_log.specs.LogWindows.{IsLogWindow, BeginsAtEnd, EndsWindow, Tied, to_come}
use Rattle.gix_ref_log.proofs.LastLines.{found, lone, long, some_lines}

by : (A : Type 0) → A → A
by A a = a

no_feed : (w : List ℕ) → IsLastByte (is_byte 10) w None → NoFeed w
no_feed w h k l is = h k (omega arith) l (eq-eqb _ _ is)

no_feed_after : (w : List ℕ) (i : ℕ) → IsLastByte (is_byte 10) w (Some i) → NoFeed (drop (i + 1) w)
no_feed_after w i h k l is =
    let left = length-drop (i + 1) w in
    let last = h.0 in
    last.after (i + 1 + k) (omega arith) (omega arith) (eq-eqb _ _ (sym (get_or-drop (i + 1) w k 0) ∙ is))

at_feed : (w : List ℕ) (i : ℕ) → IsLastByte (is_byte 10) w (Some i) → w ≡ take i w ++ 10 ∷ drop (i + 1) w
at_feed w i h =
    let last = h.0 in
    let high = last.high in
    let here : slice_index w i ≡ 10 = eqb-true _ _ h.1 in
    sym (take-append-drop i w) ∙ ap (λ (z : List ℕ). take i w ++ z) (drop_more w i 0 (omega arith) ∙ ap (λ (b : ℕ). b ∷ drop (i + 1) w) here)

front_is : (log buf : List ℕ) (pos end : ℕ) → IsLogWindow log buf pos end → take (pos + end) log ≡ take pos log ++ take end buf
front_is log buf pos end w = take-add pos end log ∙ ap (λ (z : List ℕ). take pos log ++ z) (sym w.same)

-- the line at the end of a log has a byte where no line feed follows it
some_last : (log buf : List ℕ) (pos end i e n : ℕ) (ends : Bool) → IsLogWindow log buf pos end → pos + end ≡ e → EndsWindow ends log e n
    → IsLastByte (is_byte 10) (take end buf) (Some i) → (0 < length (drop (i + 1) (take end buf) ++ tail_of ends)) × (n + 1 + (pos + i) ≤ length log) × (i < end)
some_last log buf pos end i e n true w sum o h =
    let high = h.0.high in
    let wide = length-take-le end buf w.fits in
    let all = length-append (drop (i + 1) (take end buf)) (10 ∷ []) in
    (omega arith, omega arith, omega arith)
some_last log buf pos end i e n false w sum o h =
    let high = h.0.high in
    let wide = length-take-le end buf w.fits in
    let left = length-drop (i + 1) (take end buf) in
    let all = length-append (drop (i + 1) (take end buf)) [] in
    let one : n ≡ 1 = o.0 in
    let whole : e ≡ length log = o.2 in
    let here : slice_index (take end buf) i ≡ 10 = eqb-true _ _ h.1 in
    let in_log : slice_index log (pos + i) ≡ 10 =
    sym (get_or-drop pos log i 0) ∙ sym (get_or-take end (drop pos log) i 0 (omega arith)) ∙ ap (λ (z : List ℕ). slice_index z i) (sym w.same) ∙ here in
    let more : i + 1 < end = ⊎_elim (λ (l : i + 1 < end). l) (λ (g : end ≤ i + 1). absurd (o.3 (ap (slice_index log) (by (length log - 1 ≡ pos + i) (omega arith)) ∙ in_log))) (cases_lt (i + 1) end) in
    (omega arith, omega arith, omega arith)

found_items : (room n : ℕ) (log buf : List ℕ) (pos end i : ℕ) (ends : Bool) → length buf ≡ room → IsLogWindow log buf pos end → IsLastByte (is_byte 10) (take end buf) (Some i)
    → 0 < length (drop (i + 1) (take end buf) ++ tail_of ends)
    → items_from room n (take (pos + end) log ++ tail_of ends) ≡ Text n (text_of_line ends (slice_range buf (i + 1) end)) ∷ items_from room (n + 1) (take (pos + i) log ++ 10 ∷ [])
found_items room n log buf pos end i ends size w h some =
    let x = take end buf in
    let v = drop (i + 1) x in
    let a = take pos log ++ take i x in
    let high = h.0.high in
    let fits = w.fits in
    let wide = length-take-le end buf w.fits in
    let left = length-drop (i + 1) x in
    let u_is : take (pos + end) log ≡ a ++ 10 ∷ v =
    front_is log buf pos end w ∙ ap (λ (z : List ℕ). take pos log ++ z) (at_feed x i h) ∙ sym (append_assoc (take pos log) (take i x) (10 ∷ v)) in
    let a_is : a ≡ take (pos + i) log =
    ap (λ (z : List ℕ). take pos log ++ take i z) w.same ∙ ap (λ (z : List ℕ). take pos log ++ z) (take-take i end (drop pos log) (omega arith)) ∙ sym (take-add pos i log) in
    ap (λ (z : List ℕ). items_from room n (z ++ tail_of ends)) u_is
    ∙ found room n a v ends (no_feed_after x i h) some
    ∙ cond-true _ _ _ (le-leb (length v + 1) room (omega arith))
    ∙ ap (λ (z : List ℕ). Text n (text_of_line ends z) ∷ items_from room (n + 1) (a ++ 10 ∷ [])) (sym (between_is buf (i + 1) end))
    ∙ ap (λ (z : List ℕ). Text n (text_of_line ends (slice_range buf (i + 1) end)) ∷ items_from room (n + 1) (z ++ 10 ∷ [])) a_is

-- a line that was found, and what is to come after it
pub found_step : {T : Type 0} (R : ℕ → List ℕ → T → Type 0) (room n m e : ℕ) (log buf : List ℕ) (pos end i : ℕ) (ends : Bool) (l : T) → length buf ≡ room → length log < 2 ^ 64 → m ≡ n + 1
    → pos + end ≡ e → IsLogWindow log buf pos end → EndsWindow ends log e n → IsLastByte (is_byte 10) (take end buf) (Some i)
    → R n (text_of_line ends (slice_range buf (i + 1) end)) l
    → GivesLine R (items_from room n (take e log ++ tail_of ends)) (Some (Ok l)) (to_come Reading room log pos i m) × ((length log < 2 ^ 64) × Tied Reading log buf pos i m)
found_step R room n m e log buf pos end i ends l size small next sum w o h reads =
    let facts = some_last log buf pos end i e n ends w sum o h in
    let items = found_items room n log buf pos end i ends size w h facts.0 in
    let there : items_from room n (take e log ++ tail_of ends) ≡ Text n (text_of_line ends (slice_range buf (i + 1) end)) ∷ items_from room (n + 1) (take (pos + i) log ++ 10 ∷ []) =
    ap (λ (k : ℕ). items_from room n (take k log ++ tail_of ends)) (sym sum) ∙ items in
    let fits = w.fits in
    let within = w.within in
    let lt = facts.2 in
    let after = facts.1 in
    let shorter : take i buf ≡ take i (drop pos log) =
    sym (take-take i end buf (omega arith)) ∙ ap (take i) w.same ∙ take-take i end (drop pos log) (omega arith) in
    let window : IsLogWindow log buf pos i = record { fits = omega arith; within = omega arith; same = shorter } in
    let rest : items_from room n (take e log ++ tail_of ends) ≡ Text n (text_of_line ends (slice_range buf (i + 1) end)) ∷ items_from room m (take (pos + i) log ++ 10 ∷ []) =
    there ∙ ap (λ (k : ℕ). Text n (text_of_line ends (slice_range buf (i + 1) end)) ∷ items_from room k (take (pos + i) log ++ 10 ∷ [])) (sym next) in
    ((n, text_of_line ends (slice_range buf (i + 1) end), rest, reads), (small, (window, omega arith)))

-- something is left
some_left : (log : List ℕ) (e n : ℕ) (ends : Bool) → e ≤ length log → EndsWindow ends log e n → 0 < length (take e log ++ tail_of ends)
some_left log e n true within o = let l = length-append (take e log) (10 ∷ []) in omega arith
some_left log e n false within o = let l = length-append (take e log) [] in let k = length-take-le e log within in let p = o.1 in omega arith

-- the oldest line, which is all that is left
pub lone_step : {T : Type 0} (R : ℕ → List ℕ → T → Type 0) (room n e : ℕ) (log buf : List ℕ) (pos end : ℕ) (ends : Bool) (l : T) → length buf ≡ room → pos ≡ 0
    → pos + end ≡ e → IsLogWindow log buf pos end → EndsWindow ends log e n → IsLastByte (is_byte 10) (take end buf) None
    → R n (text_of_line ends (slice_range buf 0 end)) l
    → GivesLine R (items_from room n (take e log ++ tail_of ends)) (Some (Ok l)) []
lone_step R room n e log buf pos end ends l size first sum w o h reads =
    let fits = w.fits in
    let within = w.within in
    let wide = length-take-le end buf w.fits in
    let u_is : take e log ≡ take end buf =
    ap (λ (k : ℕ). take k log) (sym sum) ∙ front_is log buf pos end w ∙ ap (λ (k : ℕ). take k log ++ take end buf) first in
    let some : 0 < length (take end buf ++ tail_of ends) = subst (λ (z : List ℕ). 0 < length (z ++ tail_of ends)) u_is (some_left log e n ends (omega arith) o) in
    let items : items_from room n (take e log ++ tail_of ends) ≡ Text n (text_of_line ends (slice_range buf 0 end)) ∷ [] =
    ap (λ (z : List ℕ). items_from room n (z ++ tail_of ends)) u_is
    ∙ lone room n (take end buf) ends (no_feed (take end buf) h) some
    ∙ cond-true _ _ _ (le-leb (length (take end buf)) room (omega arith))
    ∙ ap (λ (z : List ℕ). Text n (text_of_line ends z) ∷ []) (sym (between_from_start buf end)) in
    (n, text_of_line ends (slice_range buf 0 end), items, reads)

pub small_step : {T : Type 0} (R : ℕ → List ℕ → T → Type 0) (room n e : ℕ) (log buf : List ℕ) (pos end : ℕ) (ends : Bool) → length buf ≡ room → 0 < room → 0 < pos → end ≡ room
    → pos + end ≡ e → IsLogWindow log buf pos end → IsLastByte (is_byte 10) (take end buf) None
    → GivesLine R (items_from room n (take e log ++ tail_of ends)) (Some (Err BufferTooSmall)) []
small_step R room n e log buf pos end ends size pos_room more full sum w h =
    let fits = w.fits in
    let within = w.within in
    let wide = length-take-le end buf w.fits in
    let front = length-take-le pos log (omega arith) in
    let items : items_from room n (take e log ++ tail_of ends) ≡ TooSmall ∷ [] =
    ap (λ (k : ℕ). items_from room n (take k log ++ tail_of ends)) (sym sum)
    ∙ ap (λ (z : List ℕ). items_from room n (z ++ tail_of ends)) (front_is log buf pos end w)
    ∙ long room n (take pos log) (take end buf) ends (no_feed (take end buf) h) (omega arith) pos_room (omega arith) in
    (items, refl)

-- no list of lines has no items
some_backward : (room n : ℕ) (ps : List (List ℕ)) → 0 < length ps → backward room n ps ≢ []
some_backward room n [] some is = absurd (omega arith)
some_backward room n (p ∷ []) some is = ⊎_elim
    (λ (yes : nat_le (len_without_feed p) room ≡ true). let e : cond true (Text n (without_terminator p) ∷ []) (TooSmall ∷ []) ≡ [] = subst (λ (b : Bool). cond b (Text n (without_terminator p) ∷ []) (TooSmall ∷ []) ≡ []) yes is in cc)
    (λ (no : nat_le (len_without_feed p) room ≡ false). let e : cond false (Text n (without_terminator p) ∷ []) (TooSmall ∷ []) ≡ [] = subst (λ (b : Bool). cond b (Text n (without_terminator p) ∷ []) (TooSmall ∷ []) ≡ []) no is in cc)
    (cases_Bool (nat_le (len_without_feed p) room))
some_backward room n (p ∷ q ∷ ps) some is = ⊎_elim
    (λ (yes : nat_le (len_without_feed p + 1) room ≡ true). let e : cond true (Text n (without_terminator p) ∷ backward room (n + 1) (q ∷ ps)) (TooSmall ∷ []) ≡ [] = subst (λ (b : Bool). cond b (Text n (without_terminator p) ∷ backward room (n + 1) (q ∷ ps)) (TooSmall ∷ []) ≡ []) yes is in cc)
    (λ (no : nat_le (len_without_feed p + 1) room ≡ false). let e : cond false (Text n (without_terminator p) ∷ backward room (n + 1) (q ∷ ps)) (TooSmall ∷ []) ≡ [] = subst (λ (b : Bool). cond b (Text n (without_terminator p) ∷ backward room (n + 1) (q ∷ ps)) (TooSmall ∷ []) ≡ []) no is in cc)
    (cases_Bool (nat_le (len_without_feed p + 1) room))

pub some_items : (room n : ℕ) (log : List ℕ) → 0 < length log → items_from room n log ≢ []
unfolding items_from
some_items room n log some = some_backward room n (reverse (lines_of log)) (some_lines log some)

pub fault_step : {T : Type 0} (R : ℕ → List ℕ → T → Type 0) (room n e : ℕ) (log : List ℕ) (ends : Bool) (error : FileError) → e ≤ length log → EndsWindow ends log e n
    → GivesLine R (items_from room n (take e log ++ tail_of ends)) (Some (Err (Io error))) []
fault_step R room n e log ends error within o = (some_items room n (take e log ++ tail_of ends) (some_left log e n ends within o), refl)

-- the same, at the values after the call
pub found_after : {T : Type 0} (R : ℕ → List ℕ → T → Type 0) (room room' n n' m pos' end' : ℕ) (log log' buf : List ℕ) (pos end i : ℕ) (ends : Bool) (l : T)
    → log' ≡ log → room' ≡ room → n' ≡ n → length buf ≡ room' → length log < 2 ^ 64 → m ≡ n' + 1
    → pos + end ≡ pos' + end' → IsLogWindow log buf pos end → EndsWindow ends log (pos' + end') n → IsLastByte (is_byte 10) (take end buf) (Some i)
    → R n (text_of_line ends (slice_range buf (i + 1) end)) l
    → GivesLine R (items_from room n (take (pos' + end') log ++ tail_of ends)) (Some (Ok l)) (to_come Reading room' log' pos i m) × ((length log' < 2 ^ 64) × Tied Reading log' buf pos i m)
found_after R room room' n n' m pos' end' log log' buf pos end i ends l same_log same_room same_number size small next sum w o h reads =
    let e = pos' + end' in
    let step = found_step R room n m e log buf pos end i ends l (size ∙ same_room) small (next ∙ ap (λ (k : ℕ). k + 1) same_number) sum w o h reads in
    subst (λ (x : List ℕ). GivesLine R (items_from room n (take (pos' + end') log ++ tail_of ends)) (Some (Ok l)) (to_come Reading room' x pos i m) × ((length x < 2 ^ 64) × Tied Reading x buf pos i m)) (sym same_log)
    (subst (λ (k : ℕ). GivesLine R (items_from room n (take (pos' + end') log ++ tail_of ends)) (Some (Ok l)) (to_come Reading k log pos i m) × ((length log < 2 ^ 64) × Tied Reading log buf pos i m)) (sym same_room) step)

none_left : (room n : ℕ) (log : List ℕ) → length log ≡ 0 → items_from room n log ≡ []
unfolding items_from
none_left room n [] none = ap (λ (ps : List (List ℕ)). backward room n (reverse ps)) lines-nil
none_left room n (b ∷ log) none = absurd (omega arith)

-- the first call, of an empty log
pub start_none : {T : Type 0} (R : ℕ → List ℕ → T → Type 0) (st : Stage) (room n pos end : ℕ) (log buf : List ℕ) → st ≡ Unread → pos ≡ 0 → length log < 2 ^ 64 → Tied st log buf pos end n
    → GivesLine R (to_come st room log pos end n) None [] × ((length log < 2 ^ 64) × Unit {0})
start_none R Unread room n pos end log buf is first small tied = let at = tied.0 in ((none_left room n log (omega arith), refl), (small, tt))
start_none R Reading room n pos end log buf is first small tied = absurd (cc)
start_none R Done room n pos end log buf is first small tied = absurd (cc)

-- the first call, and a fault
pub start_fault : {T : Type 0} (R : ℕ → List ℕ → T → Type 0) (st : Stage) (room n pos end : ℕ) (log buf : List ℕ) (error : FileError) → st ≡ Unread → 0 < pos → Tied st log buf pos end n
    → GivesLine R (to_come st room log pos end n) (Some (Err (Io error))) []
start_fault R Unread room n pos end log buf error is more tied = let at = tied.0 in (some_items room n log (omega arith), refl)
start_fault R Reading room n pos end log buf error is more tied = absurd (cc)
start_fault R Done room n pos end log buf error is more tied = absurd (cc)

-- what the first read leaves to be given
begin_open : (log buf : List ℕ) (pos end n : ℕ) (ends : Bool) → n ≡ 1 → length log < 2 ^ 64 → BeginsAtEnd log buf pos end ends
    → (length log < 2 ^ 64) × IsLogWindow log buf pos end × EndsWindow ends log (pos + end) n
begin_open log buf pos end n true one small b = let whole = b.1 in (small, b.0, omega arith)
begin_open log buf pos end n false one small b = let some = b.2 in (small, b.0, (one, omega arith, b.1, b.3))

begin_items : (room n : ℕ) (log buf : List ℕ) (pos end : ℕ) (ends : Bool) → BeginsAtEnd log buf pos end ends
    → items_from room n (take (pos + end) log ++ tail_of ends) ≡ items_from room n log
begin_items room n log buf pos end true b = ap (items_from room n) b.2
begin_items room n log buf pos end false b =
    ap (items_from room n) (append-nil (take (pos + end) log) ∙ ap (λ (k : ℕ). take k log) b.1 ∙ take_all (length log) log (omega arith))

-- the first call, and a line
pub start_line : {T : Type 0} (R : ℕ → List ℕ → T → Type 0) (st : Stage) (room room' n n' pos end pos' end' : ℕ) (log log' buf buf' : List ℕ) (ends : Bool) (r : Result T ReverseError) (rest : List Item) (X : Type 0)
    → st ≡ Unread → log' ≡ log → room' ≡ room → n' ≡ n → length log < 2 ^ 64 → Tied st log buf pos end n
    → (end ≡ 0 → pos ≡ length log → BeginsAtEnd log buf' pos' end' ends)
    → ((length log' < 2 ^ 64) × IsLogWindow log' buf' pos' end' × EndsWindow ends log' (pos' + end') n' → GivesLine R (items_from room' n' (take (pos' + end') log' ++ tail_of ends)) (Some r) rest × X)
    → GivesLine R (to_come st room log pos end n) (Some r) rest × X
start_line R Unread room room' n n' pos end pos' end' log log' buf buf' ends r rest X is same_log same_room same_number small tied begins step =
    let b = begins tied.1 tied.0 in
    let open' = begin_open log buf' pos' end' n' ends (same_number ∙ tied.2) small b in
    let given = step (subst (λ (l : List ℕ). (length l < 2 ^ 64) × IsLogWindow l buf' pos' end' × EndsWindow ends l (pos' + end') n') (sym same_log) open') in
    let items : items_from room' n' (take (pos' + end') log' ++ tail_of ends) ≡ items_from room n log =
    ap (λ (l : List ℕ). items_from room' n' (take (pos' + end') l ++ tail_of ends)) same_log
    ∙ ap (λ (k : ℕ). items_from k n' (take (pos' + end') log ++ tail_of ends)) same_room
    ∙ ap (λ (k : ℕ). items_from room k (take (pos' + end') log ++ tail_of ends)) same_number
    ∙ begin_items room n log buf' pos' end' ends b in
    (subst (λ (l : List Item). GivesLine R l (Some r) rest) items given.0, given.1)
start_line R Reading room room' n n' pos end pos' end' log log' buf buf' ends r rest X is same_log same_room same_number small tied begins step = absurd (cc)
start_line R Done room room' n n' pos end pos' end' log log' buf buf' ends r rest X is same_log same_room same_number small tied begins step = absurd (cc)
