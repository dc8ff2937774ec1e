-- Sorting keeps of a text of records just these records in the order of their names, and what a search in that finds.
use Rattle.std.proofs.Common.{◌≡◌, ◌≢◌, ⊎_elim, ℕ, ◌+◌, ◌*◌, ◌==◌, ◌&&◌, Bool, true, false, not, cond, if◌then◌else◌, List, [], ◌∷◌, ◌++◌, map, length, drop, refl, sym, ◌∙◌, ap, subst, arith, append-nil, append_assoc, length-append, ne_eqb}
use Rattle.std.specs.List.{All, AllPass, flat_map, take_while}
use Rattle.std.specs.List.Sorted.{IsPermutation, IsSortedByKey, IsStableByKey}
use Rattle.std.specs.Cmp.Lexicographic.{slice_cmp}
use Rattle.std.specs.Ordering.{nat_cmp}
use Rattle.std.proofs.lemmas.List.{append_cancel_right, drop_at}
use Rattle.std.proofs.lemmas.List.Elements.{All-head, All-tail, All-cons, All-nil}
use Rattle.std.proofs.lemmas.List.Sums.{take_while-cons}
use Rattle.std.proofs.lemmas.List.Sorted.{IsPermutation-refl, IsPermutation-sym, All-permutation, Contains-permutation}
use Rattle.gix_ref_hash.specs.declared.hash.Kind.{Kind}
use Rattle.gix_ref_hash.specs.Ids.{kind_len}
use Rattle.gix_ref_hash.specs.Bytes.{StopsAt}
use Rattle.gix_ref_target.specs.PackedRecords.{Record}
use Rattle.gix_ref_packed_text.specs.RecordGrammar.{Records, Rising, Below, Takes, in_record_line, is_caret}
use Rattle.gix_ref_packed_text.specs.OpenedText.{Piece, IsPiece, SortsByName, SortsText, records_in, bytes_in}
use Rattle.gix_ref_packed_text.proofs.RecordPlaces.{NoLf, Parts, parts_of, form_of}
use Rattle.gix_ref_packed_text.proofs.RecordBytes.{records_stop}
use Rattle.gix_ref_packed.specs.InOrder.{sorted_by, begins_with_caret, add_to_first, record_lines, name_in_lines, in_order}
use Rattle.gix_ref_packed.proofs.InOrderLemmas.{NeverFalls, sorted_never_falls, sorted_moves, sorted_stable, sorts_once, sorted_images, sorted_same}
use Rattle.gix_ref_packed.specs.declared.packed.sorting.Entry.{Entry}
use Rattle.gix_ref_packed.specs.internal.Entries.{entry_record, entry_piece, entry_ref_name, entry_bytes}
use Rattle.gix_ref_packed.proofs.SortedPieces.{pieces_of, pieces_together, same_bytes_in, same_records_in, sorts}

abbrev piece_name : Piece → List ℕ
piece_name p = p.said.name

abbrev piece_bytes : Piece → List ℕ
piece_bytes p = p.bytes

-- ---- the lines of each record

-- a line's bytes go to the first lines after them
no_lf_lines : (l u first : List ℕ) (more : List (List ℕ)) → NoLf l → record_lines u ≡ first ∷ more → record_lines (l ++ u) ≡ (l ++ first) ∷ more
no_lf_lines [] u first more none is = is
no_lf_lines (b ∷ l) u first more none is =
    let other : (b == 10) ≡ false = ne_eqb b 10 (All-head (λ x. x ≢ 10) b l none) in
    ap (λ x. if x && not (begins_with_caret (l ++ u)) then (b ∷ []) ∷ record_lines (l ++ u) else add_to_first b (record_lines (l ++ u))) other
    ∙ ap (add_to_first b) (no_lf_lines l u first more (All-tail (λ x. x ≢ 10) b l none) is)

-- the text is cut after a LF that no `^` follows
lf_lines : (rest : List ℕ) → StopsAt is_caret rest → record_lines (10 ∷ rest) ≡ (10 ∷ []) ∷ record_lines rest
lf_lines [] stops = refl
lf_lines (b ∷ rest) stops = ap (λ x. if not x then (10 ∷ []) ∷ record_lines (b ∷ rest) else add_to_first 10 (record_lines (b ∷ rest))) stops

-- a line before text that begins no line with `^`
line_lines : (l rest : List ℕ) → NoLf l → StopsAt is_caret rest → record_lines (l ++ 10 ∷ rest) ≡ (l ++ 10 ∷ []) ∷ record_lines rest
line_lines l rest none stops = no_lf_lines l (10 ∷ rest) (10 ∷ []) (record_lines rest) none (lf_lines rest stops)

-- the lines of a record
piece_lines : (p rest : List ℕ) → Parts (p ++ rest) rest → StopsAt is_caret rest → record_lines (p ++ rest) ≡ p ∷ record_lines rest
piece_lines p rest parts stops = ⊎_elim
    (λ (none : parts.second ≡ []).
    let whole : p ≡ parts.first ++ 10 ∷ [] = bytes ∙ ap (λ s. (parts.first ++ 10 ∷ []) ++ s) none ∙ append-nil (parts.first ++ 10 ∷ []) in
    ap (λ b. record_lines (b ++ rest)) whole ∙ ap record_lines (append_assoc parts.first (10 ∷ []) rest) ∙ line_lines parts.first rest parts.first_line stops ∙ ap (λ b. b ∷ record_lines rest) (sym whole))
    (λ (two : (body : List ℕ) × NoLf (94 ∷ body) × (parts.second ≡ (94 ∷ body) ++ 10 ∷ [])).
    let second = (94 ∷ two.0) ++ 10 ∷ [] in
    let whole : p ≡ (parts.first ++ 10 ∷ []) ++ second = bytes ∙ ap (λ s. (parts.first ++ 10 ∷ []) ++ s) two.2 in
    let later : record_lines (second ++ rest) ≡ second ∷ record_lines rest = ap record_lines (append_assoc (94 ∷ two.0) (10 ∷ []) rest) ∙ line_lines (94 ∷ two.0) rest two.1 stops in
    ap (λ b. record_lines (b ++ rest)) whole ∙ ap record_lines (regroup parts.first second rest)
    ∙ no_lf_lines parts.first (10 ∷ (second ++ rest)) (10 ∷ second) (record_lines rest) parts.first_line (ap (add_to_first 10) later)
    ∙ ap (λ b. b ∷ record_lines rest) (sym (append_assoc parts.first (10 ∷ []) second) ∙ sym whole))
    parts.second_line
  where
    bytes : p ≡ (parts.first ++ 10 ∷ []) ++ parts.second
    bytes = append_cancel_right p ((parts.first ++ 10 ∷ []) ++ parts.second) rest (parts.whole ∙ sym (append_assoc (parts.first ++ 10 ∷ []) parts.second rest))

    regroup : (a b c : List ℕ) → ((a ++ 10 ∷ []) ++ b) ++ c ≡ a ++ 10 ∷ (b ++ c)
    regroup a b c = simp append_assoc

all_lines : (k : Kind) (ps : List Piece) → All (IsPiece k) ps → record_lines (bytes_in ps) ≡ map piece_bytes ps
all_lines k [] all = refl
all_lines k (p ∷ ps) all =
    let rest = bytes_in ps in
    let more = All-tail (IsPiece k) p ps all in
    let stops = records_stop k rest (records_in ps) (pieces_together k ps more) in
    let takes = All-head (IsPiece k) p ps all rest stops in
    piece_lines p.bytes rest (parts_of k (p.bytes ++ rest) p.said rest (form_of k (p.bytes ++ rest) p.said rest takes)) stops ∙ ap (λ ls. p.bytes ∷ ls) (all_lines k ps more)

-- ---- the name in them

passes_first : (passes : ℕ → Bool) (front rest : List ℕ) → AllPass passes front → StopsAt passes rest → take_while passes (front ++ rest) ≡ front
passes_first passes [] [] all stops = refl
passes_first passes [] (b ∷ rest) all stops = take_while-cons passes b rest ∙ ap (λ x. cond x (b ∷ take_while passes rest) []) stops
passes_first passes (b ∷ front) rest all stops =
    take_while-cons passes b (front ++ rest) ∙ ap (λ x. cond x (b ∷ take_while passes (front ++ rest)) []) (All-head (λ x. passes x ≡ true) b front all)
    ∙ ap (λ t. b ∷ t) (passes_first passes front rest (All-tail (λ x. passes x ≡ true) b front all) stops)

name_taken : (k : Kind) (t : List ℕ) (r : Record) (rest : List ℕ) → Takes k t r rest → name_in_lines k t ≡ r.name
name_taken k t r rest f =
    let after = f.line.after in
    let len : length (r.target ++ 32 ∷ []) ≡ length r.target + 1 = length-append r.target (32 ∷ []) in
    let digits = f.line.len in
    let behind : drop (2 * kind_len k + 1) t ≡ after =
    ap (drop (2 * kind_len k + 1)) (f.line.whole ∙ sym (append_assoc r.target (32 ∷ []) after)) ∙ drop_at (r.target ++ 32 ∷ []) after (2 * kind_len k + 1) (omega arith) in
    ap (take_while in_record_line) (behind ∙ f.line.line.cut.whole) ∙ passes_first in_record_line r.name f.line.line.after f.line.line.cut.front_passes f.line.line.cut.stops

names_are : (k : Kind) (ps : List Piece) → All (IsPiece k) ps → All (λ p. name_in_lines k p.bytes ≡ piece_name p) ps
names_are k [] all = All-nil (λ p. name_in_lines k p.bytes ≡ piece_name p)
names_are k (p ∷ ps) all =
    let takes : Takes k (p.bytes ++ []) p.said [] = All-head (IsPiece k) p ps all [] tt in
    All-cons (λ q. name_in_lines k q.bytes ≡ piece_name q) p ps (ap (name_in_lines k) (sym (append-nil p.bytes)) ∙ name_taken k (p.bytes ++ []) p.said [] takes) (names_are k ps (All-tail (IsPiece k) p ps all))

-- ---- the records in their order

joined : (ps : List Piece) → flat_map (λ (lines : List ℕ). lines) (map piece_bytes ps) ≡ bytes_in ps
joined [] = refl
joined (p ∷ ps) = ap (λ t. p.bytes ++ t) (joined ps)

order_is : (k : Kind) (t : List ℕ) (ps : List Piece) → All (IsPiece k) ps → t ≡ bytes_in ps → in_order k t ≡ bytes_in (sorted_by piece_name ps)
order_is k t ps all is =
    ap (in_order k) is ∙ ap (λ ls. flat_map (λ (lines : List ℕ). lines) (sorted_by (name_in_lines k) ls)) (all_lines k ps all)
    ∙ ap (flat_map (λ (lines : List ℕ). lines)) (sorted_images (name_in_lines k) piece_bytes ps ∙ ap (map piece_bytes) (sorted_same (λ p. name_in_lines k (piece_bytes p)) piece_name ps (names_are k ps all)))
    ∙ joined (sorted_by piece_name ps)

rising : (ps : List Piece) → NeverFalls piece_name ps → Rising (records_in ps)
rising [] up = tt
rising (p ∷ ps) up = (below ps up.0, rising ps up.1)
  where
    below : (qs : List Piece) → All (λ q. Below (piece_name q) p.said.name → ⊥) qs → All (λ (s : Record). Below s.name p.said.name → ⊥) (records_in qs)
    below [] all = All-nil (λ (s : Record). Below s.name p.said.name → ⊥)
    below (q ∷ qs) all = All-cons (λ (s : Record). Below s.name p.said.name → ⊥) q.said (records_in qs) (All-head (λ x. Below (piece_name x) p.said.name → ⊥) q qs all) (below qs (All-tail (λ x. Below (piece_name x) p.said.name → ⊥) q qs all))

never_falls : (ps : List Piece) → Rising (records_in ps) → NeverFalls piece_name ps
never_falls [] up = tt
never_falls (p ∷ ps) up = (below ps up.0, never_falls ps up.1)
  where
    below : (qs : List Piece) → All (λ (s : Record). Below s.name p.said.name → ⊥) (records_in qs) → All (λ q. Below (piece_name q) p.said.name → ⊥) qs
    below [] all = All-nil (λ x. Below (piece_name x) p.said.name → ⊥)
    below (q ∷ qs) all = All-cons (λ x. Below (piece_name x) p.said.name → ⊥) q qs (All-head (λ (s : Record). Below s.name p.said.name → ⊥) q.said (records_in qs) all) (below qs (All-tail (λ (s : Record). Below s.name p.said.name → ⊥) q.said (records_in qs) all))

-- there is one way to sort pieces
one_order : (old new : List Piece) → SortsByName old new → new ≡ sorted_by piece_name old
one_order old new s =
    let held = sorted_by piece_name old in
    let moved = sorted_moves piece_name old in
    sorts_once piece_name new held (never_falls new s.rises) (sorted_never_falls piece_name old)
    (λ p has. s.stable p (Contains-permutation new old p (IsPermutation-sym old new s.moved) has) ∙ sym (sorted_stable piece_name old p))
    (λ p has. s.stable p (Contains-permutation held old p (IsPermutation-sym old held moved) has) ∙ sym (sorted_stable piece_name old p))

-- pieces whose names rise stay in their order
stays_so : (old new : List Piece) → SortsByName old new → Rising (records_in old) → new ≡ old
stays_so old new s up = one_order old new s ∙ sym (one_order old old (record { moved = IsPermutation-refl old; rises = up; stable = λ p has. refl }))

-- the sorted records are kept
pub keeps_sorted : (k : Kind) (t kept : List ℕ) (es fs ds : List Entry) → ds ≡ fs → Records k t (map entry_record es) → All (IsPiece k) (map entry_piece es) → t ≡ flat_map entry_bytes es → IsPermutation es fs → IsSortedByKey entry_ref_name (slice_cmp nat_cmp) fs → IsStableByKey entry_ref_name (slice_cmp nat_cmp) es fs → kept ≡ flat_map entry_bytes ds → SortsText k t kept
keeps_sorted k t kept es fs ds same records pieces cut moved up stable is =
    let old = map entry_piece es in
    let new = map entry_piece fs in
    let whole : kept ≡ bytes_in new = is ∙ ap (flat_map entry_bytes) same ∙ sym (same_bytes_in fs) in
    let bytes : t ≡ bytes_in old = cut ∙ sym (same_bytes_in es) in
    let order = sorts es fs moved up stable in
    record {
      old = old;
      new = new;
      pieces = pieces;
      cut = bytes;
      sorts = order;
      joined = whole;
      stays = λ rises. whole ∙ ap bytes_in (stays_so old new order rises) ∙ sym bytes;
      before = subst (Records k t) (sym (same_records_in es)) records;
      after = subst (λ (u : List ℕ). Records k u (records_in new)) (sym whole) (pieces_together k new (All-permutation (IsPiece k) old new order.moved pieces));
    }

-- what sorting keeps of a text is that
pub kept_is : (k : Kind) (t kept : List ℕ) → SortsText k t kept → kept ≡ in_order k t
kept_is k t kept s = s.joined ∙ ap bytes_in (one_order s.old s.new s.sorts) ∙ sym (order_is k t s.old s.pieces s.cut)

-- it is what sorting keeps of a text of records
pub order_sorts : (k : Kind) (t : List ℕ) (rs : List Record) → Records k t rs → SortsText k t (in_order k t)
order_sorts k t rs h =
    let ps = pieces_of k t rs h in
    let new = sorted_by piece_name ps.0 in
    let is = order_is k t ps.0 ps.1 ps.2 in
    let moved = sorted_moves piece_name ps.0 in
    let sorts : SortsByName ps.0 new = record { moved = moved; rises = rising new (sorted_never_falls piece_name ps.0); stable = λ p has. sorted_stable piece_name ps.0 p } in
    record {
      old = ps.0;
      new = new;
      pieces = ps.1;
      cut = ps.2;
      sorts = sorts;
      joined = is;
      stays = λ up. is ∙ ap bytes_in (stays_so ps.0 new sorts up) ∙ sym ps.2;
      before = subst (Records k t) (sym ps.3) h;
      after = subst (λ (u : List ℕ). Records k u (records_in new)) (sym is) (pieces_together k new (All-permutation (IsPiece k) ps.0 new moved ps.1));
    }
