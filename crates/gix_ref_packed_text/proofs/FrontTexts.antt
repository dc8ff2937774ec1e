-- A front of a text that ends with a LF, before a line with no `^`: its records are those of the text that begin in it.
use Rattle.std.proofs.Common.{◌≡◌, ◌≢◌, inl, inr, ⊎_elim, ℕ, suc, zero, ◌+◌, ◌-◌, ◌<◌, get_or, List, [], ◌∷◌, ◌++◌, length, refl, sym, ◌∙◌, ap, subst, arith, true, false, Option, Some, None, append_assoc, length-append}
use Rattle.std.proofs.lemmas.List.{get_or-append-add}
use Rattle.std.proofs.lemmas.List.Elements.{All-append, All-tail}
use Rattle.gix_ref_hash.specs.declared.hash.Kind.{Kind}
use Rattle.gix_ref_hash.specs.Bytes.{StopsAt}
use Rattle.gix_ref_target.specs.PackedRecords.{Record}
use Rattle.gix_ref_packed_text.specs.RecordGrammar.{Line, RecordLine, PeeledLine, OptionalPeeledLine, Takes, NoRecord, is_caret}
use Rattle.gix_ref_packed_text.proofs.RecordPlaces.{NoLf, EndsLf, hex_no_lf, line_no_lf, one_no_lf}
use Rattle.gix_ref_packed_text.proofs.RecordBytes.{lines_taken}

-- a LF is in the text
abbrev pub HasLf : List ℕ → Type 0
HasLf text = (i : ℕ) × (i < length text) × (get_or text i 0 ≡ 10)

pub has_lf : (text : List ℕ) → EndsLf text → HasLf text
has_lf text ends = let some = ends.some in (length text - 1, omega arith, ends.last)

-- what is left of a text that ends with a LF ends with it
pub ends_rest : (text front rest : List ℕ) → EndsLf text → text ≡ front ++ rest → rest ≢ [] → EndsLf rest
ends_rest text front [] ends whole some = absurd (some refl)
ends_rest text front (b ∷ rest) ends whole some =
    let len : length text ≡ length front + length (b ∷ rest) = ap length whole ∙ length-append front (b ∷ rest) in
    let at : length text - 1 ≡ length front + (length (b ∷ rest) - 1) = omega arith in
    record {
      some = omega arith;
      last = sym (get_or-append-add front (b ∷ rest) (length (b ∷ rest) - 1) 0) ∙ ap (λ i. get_or (front ++ b ∷ rest) i 0) (sym at)
          ∙ ap (λ t. get_or t (length text - 1) 0) (sym whole) ∙ ends.last;
    }

-- a line that ends within the text, as a LF of it shows
pub cut_within : (line s tail after : List ℕ) → NoLf line → HasLf s → s ++ tail ≡ line ++ 10 ∷ after → (x : List ℕ) × (s ≡ line ++ 10 ∷ x) × (after ≡ x ++ tail)
cut_within line [] tail after none (i, lt, lf) is = absurd (omega (arith, lt))
cut_within [] (c ∷ s) tail after none has is = (s, cc (is), cc (is))
cut_within (b ∷ line) (c ∷ s) tail after none (zero, lt, lf) is =
    let same : c ≡ b = cc (is) in absurd (none 0 0 (omega arith) (sym same ∙ lf))
cut_within (b ∷ line) (c ∷ s) tail after none (suc i, lt, lf) is =
    let same : c ≡ b = cc (is) in
    let others : s ++ tail ≡ line ++ 10 ∷ after = cc (is) in
    let later = cut_within line s tail after (All-tail (λ b. b ≢ 10) b line none) (i, omega (arith, lt), lf) others in
    let whole = later.1 in
    (later.0, cc (same, whole), later.2)

-- a line up to its LF, whatever follows
pub line_to_lf : (after name rest : List ℕ) → Line after name rest → (l : List ℕ) × NoLf l × (after ≡ l ++ 10 ∷ rest) × ((x : List ℕ) → Line (l ++ 10 ∷ x) name x)
line_to_lf after name rest f = ⊎_elim
    (λ (lf : f.after ≡ 10 ∷ rest). (
      name,
      line_no_lf name f.cut.front_passes,
      f.cut.whole ∙ ap (λ r. name ++ r) lf,
      λ x. record { after = 10 ∷ x; cut = record { whole = refl; front_passes = f.cut.front_passes; stops = refl }; newline = inl refl },
    ))
    (λ (crlf : f.after ≡ 13 ∷ 10 ∷ rest). (
      name ++ 13 ∷ [],
      All-append (λ b. b ≢ 10) name (13 ∷ []) (line_no_lf name f.cut.front_passes) (one_no_lf 13 refl),
      f.cut.whole ∙ ap (λ r. name ++ r) crlf ∙ sym (append_assoc name (13 ∷ []) (10 ∷ rest)),
      λ x. record { after = 13 ∷ 10 ∷ x; cut = record { whole = append_assoc name (13 ∷ []) (10 ∷ x); front_passes = f.cut.front_passes; stops = refl }; newline = inr refl },
    ))
    f.newline

pub peeled_to_lf : (k : Kind) (after object rest : List ℕ) → PeeledLine k after object rest → (l : List ℕ) × NoLf l × (after ≡ l ++ 10 ∷ rest) × ((x : List ℕ) → PeeledLine k (l ++ 10 ∷ x) object x)
peeled_to_lf k after object rest f = ⊎_elim
    (λ (lf : f.after ≡ 10 ∷ rest). (
      94 ∷ object,
      caret object (hex_no_lf object k f.id),
      f.whole ∙ ap (λ r. 94 ∷ (object ++ r)) lf,
      λ x. record { after = 10 ∷ x; whole = refl; id = f.id; newline = inl refl },
    ))
    (λ (crlf : f.after ≡ 13 ∷ 10 ∷ rest). (
      94 ∷ (object ++ 13 ∷ []),
      caret (object ++ 13 ∷ []) (All-append (λ b. b ≢ 10) object (13 ∷ []) (hex_no_lf object k f.id) (one_no_lf 13 refl)),
      f.whole ∙ ap (λ r. 94 ∷ r) (ap (λ r. object ++ r) crlf ∙ sym (append_assoc object (13 ∷ []) (10 ∷ rest))),
      λ x. record { after = 13 ∷ 10 ∷ x; whole = ap (λ r. 94 ∷ r) (append_assoc object (13 ∷ []) (10 ∷ x)); id = f.id; newline = inr refl },
    ))
    f.newline
  where
    caret : (l : List ℕ) → NoLf l → NoLf (94 ∷ l)
    caret l none = All-append (λ b. b ≢ 10) (94 ∷ []) l (one_no_lf 94 refl) none

module _ (k : Kind) (s tail : List ℕ) (stops : StopsAt is_caret tail) where
  -- a record of the front is one of the text
  pub record_longer : (r : Record) (rest : List ℕ) → Takes k s r rest → Takes k (s ++ tail) r (rest ++ tail)
  record_longer r rest takes =
      let lines = lines_taken k s r rest takes in
      subst (λ (t : List ℕ). Takes k t r (rest ++ tail)) (sym (append_assoc lines.front rest tail) ∙ ap (λ t. t ++ tail) (sym lines.whole))
      (lines.again (rest ++ tail) (λ none. no_caret rest (subst (λ (o : Option (List ℕ)). OptionalPeeledLine k takes.after o rest) none takes.peeled).1))
    where
      no_caret : (t : List ℕ) → StopsAt is_caret t → StopsAt is_caret (t ++ tail)
      no_caret [] none = stops
      no_caret (b ∷ t) none = none

  -- a record of the text whose first line is within the front is one of the front
  module _ (ends : EndsLf s) (r : Record) (rest : List ℕ) (takes : Takes k (s ++ tail) r rest) where
    abbrev InFront : Option (List ℕ) → Type 0
    InFront o = (left : List ℕ) × Takes k s (record { name = r.name; target = r.target; object = o }) left × (rest ≡ left ++ tail)

    begun : (front x after : List ℕ) → s ≡ front ++ 10 ∷ x → after ≡ x ++ tail → RecordLine k s r.target r.name x → (o : Option (List ℕ)) → OptionalPeeledLine k after o rest → InFront o
    begun front [] after whole is line None peeled = ([], record { after = []; line = line; id = takes.id; valid = takes.valid; peeled = (refl, tt) }, sym peeled.0 ∙ is)
    begun front [] after whole is line (Some object) peeled =
        let bad : true ≡ false = subst (StopsAt is_caret) (sym is ∙ peeled.whole) stops in absurd (cc)
    begun front (b ∷ x) after whole is line None peeled = (
      b ∷ x,
      record { after = b ∷ x; line = line; id = takes.id; valid = takes.valid; peeled = (refl, subst (StopsAt is_caret) (sym peeled.0 ∙ is) peeled.1) },
      sym peeled.0 ∙ is,
    )
    begun front (b ∷ x) after whole is line (Some object) peeled =
        let second = peeled_to_lf k after object rest peeled in
        let left : EndsLf (b ∷ x) = ends_rest s (front ++ 10 ∷ []) (b ∷ x) ends (whole ∙ sym (append_assoc front (10 ∷ []) (b ∷ x))) (λ (empty : b ∷ x ≡ []). cc) in
        let cut = cut_within second.0 (b ∷ x) tail rest second.1 (has_lf (b ∷ x) left) (sym is ∙ second.2) in (
          cut.0,
          record { after = b ∷ x; line = line; id = takes.id; valid = takes.valid; peeled = subst (λ (t : List ℕ). PeeledLine k t object cut.0) (sym cut.1) (second.3 cut.0) },
          cut.2,
        )

    pub record_shorter : (left : List ℕ) × Takes k s r left × (rest ≡ left ++ tail)
    record_shorter =
        let first = line_to_lf takes.line.after r.name takes.after takes.line.line in
        let front = r.target ++ 32 ∷ first.0 in
        let no_lf : NoLf front = All-append (λ b. b ≢ 10) r.target (32 ∷ first.0) (hex_no_lf r.target k takes.id) (All-append (λ b. b ≢ 10) (32 ∷ []) first.0 (one_no_lf 32 refl) first.1) in
        let whole : s ++ tail ≡ front ++ 10 ∷ takes.after = takes.line.whole ∙ ap (λ t. r.target ++ 32 ∷ t) first.2 ∙ sym (append_assoc r.target (32 ∷ first.0) (10 ∷ takes.after)) in
        let cut = cut_within front s tail takes.after no_lf (has_lf s ends) whole in
        begun front cut.0 takes.after cut.1 cut.2
        (record {
          after = first.0 ++ 10 ∷ cut.0;
          whole = cut.1 ∙ append_assoc r.target (32 ∷ first.0) (10 ∷ cut.0);
          len = takes.line.len;
          line = first.3 cut.0;
        }) r.object takes.peeled

  -- so where none begins the front, none begins the text
  pub no_record_longer : NoRecord k s → EndsLf s → NoRecord k (s ++ tail)
  no_record_longer none ends r rest takes = let there = record_shorter ends r rest takes in none r there.0 there.1
