-- What the front of a text says of its header.
use Rattle.std.proofs.Common.{◌≡◌, ◌≢◌, ℕ, ◌≤◌, List, [], ◌∷◌, ◌++◌, codes, length, take, drop, refl, sym, ◌∙◌, ap, subst, arith, Option, Some, None, append_assoc, length-drop}
use Rattle.std.proofs.lemmas.List.{take-append-drop, drop-append-le}
use Rattle.gix_ref_hash.specs.Bytes.{StopsAt}
use Rattle.gix_ref_packed_text.specs.declared.packed.decode.options.Header.{Header}
use Rattle.gix_ref_packed_text.specs.HeaderGrammar.{TakesHeader}
use Rattle.gix_ref_packed_text.specs.OpenedText.{Heads, is_hash}
use Rattle.gix_ref_packed_text.proofs.RecordBytes.{line_front}

front_stops : (part more : List ℕ) → part ≢ [] → StopsAt is_hash part → StopsAt is_hash (part ++ more)
front_stops [] more some stops = absurd (some refl)
front_stops (b ∷ part) more some stops = stops

pub heads_wider : (text part : List ℕ) (h : Option Header) (start : ℕ) → part ≡ take (length part) text → part ≢ [] → start ≤ length part → Heads part h (drop start part) → Heads text h (drop start text)
heads_wider text part None start is some low f =
    let more = drop (length part) text in
    let whole : text ≡ part ++ more = sym (take-append-drop (length part) text) ∙ ap (λ u. u ++ more) (sym is) in
    let len = ap length f.0 in
    let cut = length-drop start part in
    let first : start ≡ 0 = omega arith in
    (ap (λ i. drop i text) (sym first), subst (StopsAt is_hash) (sym whole) (front_stops part more some f.1))
heads_wider text part (Some h) start is some low f =
    let more = drop (length part) text in
    let whole : text ≡ part ++ more = sym (take-append-drop (length part) text) ∙ ap (λ u. u ++ more) (sym is) in
    let l = line_front f.after f.line (drop start part) f.is_line in
    let rest : drop start text ≡ drop start part ++ more = ap (drop start) whole ∙ drop-append-le start part more low in
    subst (λ (r : List ℕ). TakesHeader text h r) (sym rest) (record {
      after = l.0 ++ (drop start part ++ more);
      line = f.line;
      whole = whole ∙ ap (λ u. u ++ more) (f.whole ∙ ap (λ a. codes "# pack-refs with: " ++ a) l.1) ∙ append_assoc (codes "# pack-refs with: ") (l.0 ++ drop start part) more ∙ ap (λ a. codes "# pack-refs with: " ++ a) (append_assoc l.0 (drop start part) more);
      is_line = l.2 (drop start part ++ more);
      says = f.says;
    })
