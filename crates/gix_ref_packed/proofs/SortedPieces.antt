-- Records that were read, each with its bytes, in the order of their names.
use Rattle.std.proofs.Common.{◌≡◌, ℕ, ◌+◌, ◌<◌, Bool, true, false, cond, List, [], ◌∷◌, ◌++◌, map, length, get_or, take, refl, sym, ◌∙◌, ap, subst, arith, is_lt, suc, append-nil, append_assoc}
use Rattle.std.specs.List.{All, filter, flat_map}
use Rattle.std.specs.List.Sorted.{IsPermutation, IsSortedByKey, IsStableByKey, ties}
use Rattle.std.specs.Cmp.Lexicographic.{slice_cmp}
use Rattle.std.specs.Ordering.{nat_cmp}
use Rattle.std.proofs.lemmas.List.{get_or-map, length-map, map-append}
use Rattle.std.proofs.lemmas.List.Elements.{All-head, All-tail, All-append, All-cons, All-nil, All-weaker}
use Rattle.std.proofs.lemmas.List.Sorted.{IsPermutation-map, IsPermutation-refl}
use Rattle.gix_ref_hash.specs.declared.hash.Kind.{Kind}
use Rattle.gix_ref_packed.specs.declared.packed.sorting.Entry.{Entry}
use Rattle.std.proofs.lemmas.Grind.{flat_map-append}
use Rattle.gix_ref_target.specs.PackedRecords.{Record}
use Rattle.gix_ref_packed_text.specs.RecordGrammar.{Takes, Records, Below, Rising}
use Rattle.gix_ref_packed_text.specs.OpenedText.{Piece, IsPiece, SortsByName, SortsText, is_lower, records_in, bytes_in, Fronts, lines_of, line_count}
use Rattle.gix_ref_packed.specs.internal.Entries.{entry_record, entry_piece, entry_ref_name, entry_bytes}
use Rattle.gix_ref_packed_text.proofs.RecordBytes.{lines_taken, front_is, records_stop, fronts_more, lines_more}
use Rattle.gix_ref_packed_text.proofs.LowerBounds.{below_or}

pub piece_taken : (k : Kind) (e : Entry) (t rest : List ℕ) (n : ℕ) → Takes k t (entry_record e) rest → entry_bytes e ≡ take n t → n + length rest ≡ length t → IsPiece k (entry_piece e)
piece_taken k e t rest n takes is len x stops =
    let l = lines_taken k t (entry_record e) rest takes in
    let same : entry_bytes e ≡ l.front = is ∙ front_is t l.front rest n l.whole len in
    subst (λ (b : List ℕ). Takes k (b ++ x) (entry_record e) x) (sym same) (l.again x (λ none. stops))

pub pieces_together : (k : Kind) (ps : List Piece) → All (IsPiece k) ps → Records k (bytes_in ps) (records_in ps)
pieces_together k [] all = refl
pieces_together k (p ∷ ps) all =
    let more = pieces_together k ps (All-tail (IsPiece k) p ps all) in
    let here = All-head (IsPiece k) p ps all in
    (bytes_in ps, here (bytes_in ps) (records_stop k (bytes_in ps) (records_in ps) more), more)

pub same_records_in : (es : List Entry) → records_in (map entry_piece es) ≡ map entry_record es
same_records_in [] = refl
same_records_in (e ∷ es) = ap (λ rs. entry_record e ∷ rs) (same_records_in es)

pub same_bytes_in : (es : List Entry) → bytes_in (map entry_piece es) ≡ flat_map entry_bytes es
same_bytes_in [] = refl
same_bytes_in (e ∷ es) = ap (λ t. entry_bytes e ++ t) (same_bytes_in es)

-- a filter of images
filter_images : (p : Piece → Bool) (es : List Entry) → filter p (map entry_piece es) ≡ map entry_piece (filter (λ e. p (entry_piece e)) es)
filter_images p [] = refl
filter_images p (e ∷ es) = go (p (entry_piece e)) (filter_images p es)
  where
    go : (b : Bool) → filter p (map entry_piece es) ≡ map entry_piece (filter (λ x. p (entry_piece x)) es) → cond b (entry_piece e ∷ filter p (map entry_piece es)) (filter p (map entry_piece es)) ≡ map entry_piece (cond b (e ∷ filter (λ x. p (entry_piece x)) es) (filter (λ x. p (entry_piece x)) es))
    go true more = ap (λ xs. entry_piece e ∷ xs) more
    go false more = more

some_entry : (es : List Entry) → 0 < length es → Entry
some_entry [] some = absurd (omega arith)
some_entry (e ∷ es) some = e

-- adjacent names that do not descend
rise : (es : List Entry) → IsSortedByKey entry_ref_name (slice_cmp nat_cmp) es → Rising (records_in (map entry_piece es))
rise [] up = tt
rise (e ∷ []) up = (All-nil (λ s. Below s.name (entry_ref_name e) → ⊥), tt)
rise (e ∷ f ∷ es) up =
    let more : Rising (records_in (map entry_piece (f ∷ es))) = rise (f ∷ es) (λ k d low high.
    let next : suc k + 1 ≡ suc (k + 1) = omega arith in
    subst (λ (i : ℕ). is_lt (slice_cmp nat_cmp (entry_ref_name (get_or (e ∷ f ∷ es) i d)) (entry_ref_name (get_or (f ∷ es) k d))) ≡ false) next (up (suc k) d (omega arith) (omega arith))) in
    let here : Below (entry_ref_name f) (entry_ref_name e) → ⊥ = λ below.
    let no = up 0 e (omega arith) (omega arith) in let bad : false ≡ true = sym no ∙ ap is_lt below in cc in (
      All-cons (λ s. Below s.name (entry_ref_name e) → ⊥) (entry_record f) (records_in (map entry_piece es)) here
          (All-weaker (λ (s : Record). Below s.name (entry_ref_name f) → ⊥) (λ (s : Record). Below s.name (entry_ref_name e) → ⊥) (λ s not_below below. not_below (below_or s.name (entry_ref_name e) (entry_ref_name f) below here)) (records_in (map entry_piece es)) more.0),
      more,
    )

pub sorts : (es fs : List Entry) → IsPermutation es fs → IsSortedByKey entry_ref_name (slice_cmp nat_cmp) fs → IsStableByKey entry_ref_name (slice_cmp nat_cmp) es fs → SortsByName (map entry_piece es) (map entry_piece fs)
sorts es fs moved up stable = record {
  moved = IsPermutation-map entry_piece es fs moved;
  rises = rise fs up;
  stable = λ p has.
      let len : length (map entry_piece es) ≡ length es = length-map es entry_piece in
      let below = has.1 in
      let within : has.0 < length es = omega arith in
      let e0 = some_entry es (omega arith) in
      let e = get_or es has.0 e0 in
      let same : entry_piece e ≡ p = sym (get_or-map entry_piece es has.0 e0 p within) ∙ has.2 in
      subst (λ (x : Piece). filter (ties is_lower x) (map entry_piece fs) ≡ filter (ties is_lower x) (map entry_piece es)) same
      (filter_images (ties is_lower (entry_piece e)) fs ∙ ap (map entry_piece) (stable e) ∙ sym (filter_images (ties is_lower (entry_piece e)) es));
}

-- one entry more
pub entries_more : (k : Kind) (t : List ℕ) (es ns : List Entry) (e : Entry) (mid rest : List ℕ) (n : ℕ) → ns ≡ es ++ e ∷ [] → Fronts k t (map entry_record es) mid → All (IsPiece k) (map entry_piece es) → t ≡ flat_map entry_bytes es ++ mid → Takes k mid (entry_record e) rest → entry_bytes e ≡ take n mid → n + length rest ≡ length mid
    → Fronts k t (map entry_record ns) rest × All (IsPiece k) (map entry_piece ns) × (line_count (map entry_record ns) ≡ line_count (map entry_record es) + lines_of (entry_record e)) × (t ≡ flat_map entry_bytes ns ++ rest)
entries_more k t es ns e mid rest n more fronts pieces cut takes is len =
    let images : map entry_record ns ≡ map entry_record es ++ entry_record e ∷ [] = ap (map entry_record) more ∙ map-append entry_record es (e ∷ []) in
    let piece_images : map entry_piece ns ≡ map entry_piece es ++ entry_piece e ∷ [] = ap (map entry_piece) more ∙ map-append entry_piece es (e ∷ []) in
    let one = piece_taken k e mid rest n takes is len in
    let l = lines_taken k mid (entry_record e) rest takes in
    let bytes : mid ≡ entry_bytes e ++ rest = l.whole ∙ ap (λ b. b ++ rest) (sym (is ∙ front_is mid l.front rest n l.whole len)) in
    let all : flat_map entry_bytes ns ≡ flat_map entry_bytes es ++ (entry_bytes e ++ []) = ap (flat_map entry_bytes) more ∙ flat_map-append entry_bytes es (e ∷ []) in (
      subst (λ (rs : List Record). Fronts k t rs rest) (sym images) (fronts_more k t (map entry_record es) mid (entry_record e) rest fronts takes),
      subst (All (IsPiece k)) (sym piece_images) (All-append (IsPiece k) (map entry_piece es) (entry_piece e ∷ []) pieces (All-cons (IsPiece k) (entry_piece e) [] one (All-nil (IsPiece k)))),
      ap line_count images ∙ lines_more (map entry_record es) (entry_record e),
      cut ∙ ap (λ u. flat_map entry_bytes es ++ u) bytes ∙ sym (regroup (flat_map entry_bytes es) (entry_bytes e) rest) ∙ ap (λ u. u ++ rest) (sym all),
    )
  where
    regroup : (a b c : List ℕ) → (a ++ (b ++ [])) ++ c ≡ a ++ (b ++ c)
    regroup a b c = simp (append-nil, append_assoc)

-- the pieces of a text
pub pieces_of : (k : Kind) (t : List ℕ) (rs : List Record) → Records k t rs → (ps : List Piece) × All (IsPiece k) ps × (t ≡ bytes_in ps) × (records_in ps ≡ rs)
pieces_of k t [] h = ([], All-nil (IsPiece k), h, refl)
pieces_of k t (r ∷ rs) h =
    let l = lines_taken k t r h.0 h.1 in
    let more = pieces_of k h.0 rs h.2 in
    let p : Piece = record { said = r; bytes = l.front } in (
      p ∷ more.0,
      All-cons (IsPiece k) p more.0 (λ x stops. l.again x (λ none. stops)) more.1,
      l.whole ∙ ap (λ u. l.front ++ u) more.2,
      ap (λ xs. r ∷ xs) more.3,
    )

-- a text whose names do not descend is kept
pub keeps_text : (k : Kind) (t : List ℕ) (rs : List Record) → Records k t rs → Rising rs → SortsText k t t
keeps_text k t rs h up =
    let ps = pieces_of k t rs h in
    let rises : Rising (records_in ps.0) = subst Rising (sym ps.3) up in
    let records : Records k t (records_in ps.0) = subst (Records k t) (sym ps.3) h in
    record {
      old = ps.0;
      new = ps.0;
      pieces = ps.1;
      cut = ps.2;
      sorts = record { moved = IsPermutation-refl ps.0; rises = rises; stable = λ p has. refl };
      joined = ps.2;
      stays = λ up. refl;
      before = records;
      after = records;
    }
