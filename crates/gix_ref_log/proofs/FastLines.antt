-- A log whose first line has a tab and ends with LF: where the line ends, and its parts.
use Rattle.std.proofs.Common.{◌≡◌, ℕ, suc, ◌-◌, ◌≤◌, Bool, true, false, cond, ◌&&◌, ◌==◌, nat_lt, List, [], ◌∷◌, ◌++◌, length, slice_index, get_or, take, drop, inl, inr, refl, sym, ◌∙◌, ap, subst, arith}
use Rattle.std.proofs.lemmas.Bool.{lt-ltb}
use Rattle.std.proofs.lemmas.List.{append_assoc, take-append-drop, drop_more, drop-drop, length-take-le, length-drop}
use Rattle.std.specs.List.{list_all}
use Rattle.bstr.specs.Text.{no_cr}
use Rattle.hex.specs.Hex.{is_hex_digit}
use Rattle.gix_ref_hash.specs.Bytes.{NoByte, Cuts}
use Rattle.gix_ref_log.specs.Signatures.{Who, IsSignature}
use Rattle.gix_ref_log.proofs.SignaturesAgain.{none_append, none_cons}
use Rattle.gix_ref_log.specs.LogCuts.{log_lines}
use Rattle.gix_ref_log.specs.LogIds.{IdFront}
use Rattle.gix_ref_log.specs.LogLines.{LogLine, IsLine}
use Rattle.gix_ref_log.specs.internal.LogFast.{HasFront}
use Rattle.gix_ref_log.proofs.LineLemmas.{none_in_rest}
use Rattle.gix_ref_log.proofs.FirstLines.{first_of_lines}
use Rattle.gix_ref_hash.proofs.IdDigits.{id_text, no_byte_in_id}

by : (A : Type 0) → A → A
by A a = a

-- the ids of a SHA-1, each with a space after it
pub two_ids : (text : List ℕ) → 82 ≤ length text → get_or text 40 0 ≡ 32 → get_or text 81 0 ≡ 32 → list_all is_hex_digit (take 40 text) ≡ true → list_all is_hex_digit (take 40 (drop 41 text)) ≡ true
    → (ids : List ℕ) × IdFront text (take 40 text) ids × IdFront ids (take 40 (drop 41 text)) (drop 82 text)
two_ids text room first second previous new =
    let front : drop 40 text ≡ 32 ∷ drop 41 text = drop_more text 40 0 (omega arith) ∙ ap (λ (c : ℕ). c ∷ drop 41 text) first in
    let back : drop 40 (drop 41 text) ≡ 32 ∷ drop 82 text = drop-drop 40 41 text ∙ drop_more text 81 0 (omega arith) ∙ ap (λ (c : ℕ). c ∷ drop 82 text) second in (
      drop 41 text,
      (id_text (take 40 text) (inl (length-take-le 40 text (omega arith))) previous, sym (take-append-drop 40 text) ∙ ap (λ (t : List ℕ). take 40 text ++ t) front),
      (id_text (take 40 (drop 41 text)) (inl (length-take-le 40 (drop 41 text) (omega (arith, length-drop 41 text)))) new, sym (take-append-drop 40 (drop 41 text)) ∙ ap (λ (t : List ℕ). take 40 (drop 41 text) ++ t) back),
    )

-- two tests
pub both_hold : (a b : Bool) → (a && b) ≡ true → (a ≡ true) × (b ≡ true)
both_hold true b h = (refl, h)
both_hold false b h = absurd (cc)

cond_cons : (c : ℕ) (t : Bool) (a b : List ℕ) → cond t (c ∷ a) (c ∷ b) ≡ c ∷ cond t a b
cond_cons c true a b = refl
cond_cons c false a b = refl

-- a carriage return at the end is that of what follows
no_cr_cons : (c d : ℕ) (y : List ℕ) → no_cr (c ∷ d ∷ y) ≡ c ∷ no_cr (d ∷ y)
no_cr_cons c d y =
    let whole = c ∷ d ∷ y in
    let last : length whole - 1 ≡ suc (length y) = omega arith in
    let before : length (d ∷ y) - 1 ≡ length y = omega arith in
    let some : nat_lt 0 (length whole) ≡ true = lt-ltb 0 _ (omega arith) in
    let more : nat_lt 0 (length (d ∷ y)) ≡ true = lt-ltb 0 _ (omega arith) in
    ap (λ (j : ℕ). cond (nat_lt 0 (length whole) && slice_index whole j == 13) (take j whole) whole) last
    ∙ ap (λ (t : Bool). cond (t && slice_index (d ∷ y) (length y) == 13) (c ∷ take (length y) (d ∷ y)) whole) some
    ∙ cond_cons c (slice_index (d ∷ y) (length y) == 13) (take (length y) (d ∷ y)) (d ∷ y)
    ∙ ap (λ (t : Bool). c ∷ cond (t && slice_index (d ∷ y) (length y) == 13) (take (length y) (d ∷ y)) (d ∷ y)) (sym more)
    ∙ ap (λ (j : ℕ). c ∷ cond (nat_lt 0 (length (d ∷ y)) && slice_index (d ∷ y) j == 13) (take j (d ∷ y)) (d ∷ y)) (sym before)

no_cr_tab : (m : List ℕ) → no_cr (9 ∷ m) ≡ 9 ∷ no_cr m
no_cr_tab [] = refl
no_cr_tab (d ∷ m) = no_cr_cons 9 d m

pub no_cr_behind : (x m : List ℕ) → no_cr (x ++ 9 ∷ m) ≡ x ++ 9 ∷ no_cr m
no_cr_behind [] m = no_cr_tab m
no_cr_behind (c ∷ []) m = no_cr_cons c 9 m ∙ ap (λ (t : List ℕ). c ∷ t) (no_cr_tab m)
no_cr_behind (c ∷ d ∷ x) m = no_cr_cons c d (x ++ 9 ∷ m) ∙ ap (λ (t : List ℕ). c ∷ t) (no_cr_behind (d ∷ x) m)

-- the text of a line, of its parts
abbrev text_of : List ℕ → List ℕ → List ℕ → List ℕ → List ℕ
text_of p n head m = p ++ 32 ∷ (n ++ 32 ∷ (head ++ 9 ∷ m))

text_behind : (p n head m t : List ℕ) → p ++ 32 ∷ (n ++ 32 ∷ (head ++ 9 ∷ (m ++ t))) ≡ (p ++ 32 ∷ (n ++ 32 ∷ (head ++ 9 ∷ m))) ++ t
text_behind p n head m t =
    sym (append_assoc p (32 ∷ (n ++ 32 ∷ (head ++ 9 ∷ m))) t
    ∙ ap (λ (r : List ℕ). p ++ 32 ∷ r) (append_assoc n (32 ∷ (head ++ 9 ∷ m)) t ∙ ap (λ (r : List ℕ). n ++ 32 ∷ r) (append_assoc head (9 ∷ m) t)))

-- the same as one text before the tab
text_front : (p n head m : List ℕ) → p ++ 32 ∷ (n ++ 32 ∷ (head ++ 9 ∷ m)) ≡ (p ++ 32 ∷ (n ++ 32 ∷ head)) ++ 9 ∷ m
text_front p n head m = sym (append_assoc p (32 ∷ (n ++ 32 ∷ head)) (9 ∷ m) ∙ ap (λ (r : List ℕ). p ++ 32 ∷ r) (append_assoc n (32 ∷ head) (9 ∷ m)))

module _ (log p ids n text head tail message rest : List ℕ) (previous : IdFront log p ids) (new : IdFront ids n text) (tab : Cuts 9 text head tail) (one_line : NoByte 10 head) (feed : Cuts 10 tail message rest) where
  behind : NoByte 10 (head ++ 9 ∷ message)
  behind = none_append 10 head (9 ∷ message) one_line (none_cons 10 9 message (omega arith) feed.none)

  all : NoByte 10 (p ++ 32 ∷ (n ++ 32 ∷ (head ++ 9 ∷ message)))
  all = none_append 10 p (32 ∷ (n ++ 32 ∷ (head ++ 9 ∷ message))) (no_byte_in_id 10 p refl previous.0)
      (none_cons 10 32 (n ++ 32 ∷ (head ++ 9 ∷ message)) (omega arith) (none_append 10 n (32 ∷ (head ++ 9 ∷ message)) (no_byte_in_id 10 n refl new.0) (none_cons 10 32 (head ++ 9 ∷ message) (omega arith) behind)))

  log_is : log ≡ (p ++ 32 ∷ (n ++ 32 ∷ (head ++ 9 ∷ message))) ++ 10 ∷ rest
  log_is = previous.1 ∙ ap (λ (r : List ℕ). p ++ 32 ∷ r) (new.1 ∙ ap (λ (r : List ℕ). n ++ 32 ∷ r) (tab.whole ∙ ap (λ (r : List ℕ). head ++ 9 ∷ r) feed.whole)) ∙ text_behind p n head message (10 ∷ rest)

  pub usual_lines : log_lines log ≡ (p ++ 32 ∷ (n ++ 32 ∷ (head ++ 9 ∷ no_cr message))) ∷ log_lines rest
  usual_lines =
      first_of_lines log (p ++ 32 ∷ (n ++ 32 ∷ (head ++ 9 ∷ message))) rest (record { whole = log_is; none = all })
      ∙ ap (λ (t : List ℕ). t ∷ log_lines rest) (ap no_cr (text_front p n head message) ∙ no_cr_behind (p ++ 32 ∷ (n ++ 32 ∷ head)) message ∙ sym (text_front p n head (no_cr message)))

  pub usual_is_line : (who : Who) (m : List ℕ) → m ≡ no_cr message → NoByte 10 m → IsSignature head who → IsLine (p ++ 32 ∷ (n ++ 32 ∷ (head ++ 9 ∷ no_cr message))) (record { previous = p; new = n; who = who; message = m })
  usual_is_line who m is none signature = subst (λ (t : List ℕ). IsLine (p ++ 32 ∷ (n ++ 32 ∷ (head ++ 9 ∷ t))) (record { previous = p; new = n; who = who; message = m })) is (record {
    ids = n ++ 32 ∷ (head ++ 9 ∷ m);
    rest = head ++ 9 ∷ m;
    line = head ++ 9 ∷ m;
    next_lines = [];
    signature = head;
    previous = (previous.0, refl);
    new = (new.0, refl);
    cut = inr (none_append 10 head (9 ∷ m) one_line (none_cons 10 9 m (omega arith) none), refl, refl);
    message = inl (record { whole = refl; none = tab.none });
    who = signature;
  })

-- a text without LF whose front has the common form is a line
pub front_is_line : (text : List ℕ) (l : LogLine) → NoByte 10 text → HasFront text l → IsLine text l
front_is_line text l none h = record {
  ids = h.ids;
  rest = h.rest;
  line = h.rest;
  next_lines = [];
  signature = h.head;
  previous = h.previous;
  new = h.new;
  cut = inr (none_in_rest 10 text l.previous h.ids l.new h.rest none h.previous h.new, refl, refl);
  message = inl h.tab;
  who = h.who;
}
