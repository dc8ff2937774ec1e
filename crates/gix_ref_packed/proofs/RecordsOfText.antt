-- The records of a text are those that are computed.
use Rattle.std.proofs.Common.{◌≡◌, ◌==◌, ◌||◌, ◌&&◌, inl, inr, ℕ, ◌*◌, ◌+◌, Bool, true, false, not, cond, nat_eq, List, [], ◌∷◌, ◌++◌, length, drop, refl, sym, ◌∙◌, ap, subst, arith, Option, Some, None, is_none, unwrap_or, append_assoc, length-append, codes, eqb-true, eq-eqb}
use Rattle.std.specs.List.{All, AllPass, list_all, flat_map, starts_with}
use Rattle.std.specs.Option.{option_map, option_and_then}
use Rattle.std.specs.Cmp.Lexicographic.{bytes_decides}
use Rattle.std.proofs.lemmas.List.{take_at, drop_at, append-nil}
use Rattle.std.proofs.lemmas.List.Elements.{All-head, All-tail, All-nil, All-cons, All-append}
use Rattle.std.proofs.lemmas.List.Sums.{list_all-from_AllPass, AllPass-from_list_all}
use Rattle.std.proofs.lemmas.Bool.Decides.{Decides-eqb}
use Rattle.std.proofs.lemmas.Slice.Eq.{starts_is}
use Rattle.hex.specs.Hex.{is_hex_digit}
use Rattle.gix_ref_hash.specs.declared.hash.Kind.{Kind}
use Rattle.gix_ref_hash.specs.Ids.{kind_len, IsHexOf}
use Rattle.gix_ref_hash.specs.Bytes.{StopsAt}
use Rattle.gix_ref_name.specs.declared.name.error.Error.{Error}
use Rattle.gix_ref_name.specs.NameGrammar.{full_error}
use Rattle.gix_ref_target.specs.PackedRecords.{Record}
use Rattle.gix_ref_packed_text.specs.declared.packed.decode.options.Header.{Header}
use Rattle.gix_ref_packed_text.specs.RecordGrammar.{Newline, Line, OptionalPeeledLine, Takes, Records, in_record_line}
use Rattle.gix_ref_packed_text.specs.OpenedText.{Heads, PackedText}
use Rattle.gix_ref_packed_text.specs.Positions.{IsReadable, IsObject}
use Rattle.gix_ref_packed.specs.RecordsOfText.{begins_lf, begins_hash, longer, text_lines, behind_header, is_hex_of, is_line_of, digits_in, line_name, behind_caret, first_object, add_line, add_lines, line_records, read_records, RecordsAreComputed}
use Rattle.gix_ref_packed_text.proofs.RecordBytes.{two_digits}
use Rattle.gix_ref_packed.proofs.FileSearchLemmas.{readable}

-- ---- lines

-- a line in front of the lines of the rest
abbrev pub in_front : List ℕ → Option (List (List ℕ)) → Option (List (List ℕ))
in_front line more = option_map (λ ls. line ∷ ls) more

lines_end : (t r : List ℕ) → Newline t r → text_lines t ≡ in_front [] (text_lines r)
lines_end t r (inl lf) = ap text_lines lf
lines_end t r (inr crlf) = ap text_lines crlf

add_byte : (b : ℕ) (l : List ℕ) (o : Option (List (List ℕ))) → option_and_then (longer b) (in_front l o) ≡ in_front (b ∷ l) o
add_byte b l None = refl
add_byte b l (Some ls) = refl

neither : (x y : Bool) → not (x || y) ≡ true → (x ≡ false) × (y ≡ false)
neither true y h = absurd (cc)
neither false true h = absurd (cc)
neither false false h = (refl, refl)

byte_in_line : (b : ℕ) (rest : List ℕ) → in_record_line b ≡ true → text_lines (b ∷ rest) ≡ option_and_then (longer b) (text_lines rest)
byte_in_line b rest passes =
    let no = neither (b == 10) (b == 13) passes in
    ap (λ x. cond x (in_front [] (text_lines rest)) (cond (b == 13) (cond (begins_lf rest) (text_lines rest) None) (option_and_then (longer b) (text_lines rest)))) no.0
    ∙ ap (λ x. cond x (cond (begins_lf rest) (text_lines rest) None) (option_and_then (longer b) (text_lines rest))) no.1

line_cut : (t l r : List ℕ) → Line t l r → text_lines t ≡ in_front l (text_lines r)
line_cut t l r f = ap text_lines f.cut.whole ∙ go l f.cut.front_passes
  where
    go : (l : List ℕ) → AllPass in_record_line l → text_lines (l ++ f.after) ≡ in_front l (text_lines r)
    go [] h = lines_end f.after r f.newline
    go (b ∷ l) h =
        byte_in_line b (l ++ f.after) (All-head (λ x. in_record_line x ≡ true) b l h)
        ∙ ap (option_and_then (longer b)) (go l (All-tail (λ x. in_record_line x ≡ true) b l h))
        ∙ add_byte b l (text_lines r)

-- ---- bytes of a line

-- a digit is another byte than one that is no digit
not_digit : (c : ℕ) → is_hex_digit c ≡ false → (b : ℕ) → is_hex_digit b ≡ true → (b == c) ≡ false
not_digit c none b digit = go (b == c) refl
  where
    go : (x : Bool) → (b == c) ≡ x → (b == c) ≡ false
    go false is = is
    go true is = let same : b ≡ c = eqb-true b c is in let bad : is_hex_digit c ≡ true = subst (λ (x : ℕ). is_hex_digit x ≡ true) same digit in absurd (cc)

digit_in_line : (b : ℕ) → is_hex_digit b ≡ true → in_record_line b ≡ true
digit_in_line b digit =
    ap (λ x. not (x || (b == 13))) (not_digit 10 refl b digit) ∙ ap (λ x. not x) (not_digit 13 refl b digit)

digits_in_line : (d : List ℕ) → AllPass is_hex_digit d → AllPass in_record_line d
digits_in_line [] h = All-nil (λ b. in_record_line b ≡ true)
digits_in_line (b ∷ d) h = All-cons (λ x. in_record_line x ≡ true) b d (digit_in_line b (All-head (λ x. is_hex_digit x ≡ true) b d h)) (digits_in_line d (All-tail (λ x. is_hex_digit x ≡ true) b d h))

-- a line with more in front of it
pub wider : (t p a l r : List ℕ) → t ≡ p ++ a → AllPass in_record_line p → Line a l r → Line t (p ++ l) r
wider t p a l r whole passes f = record {
  after = f.after;
  cut = record {
    whole = whole ∙ ap (λ x. p ++ x) f.cut.whole ∙ sym (append_assoc p l f.after);
    front_passes = All-append (λ b. in_record_line b ≡ true) p l passes f.cut.front_passes;
    stops = f.cut.stops;
  };
  newline = f.newline;
}

-- ---- the lines of records

abbrev record_line : Record → List ℕ
record_line r = r.target ++ 32 ∷ r.name

abbrev object_lines : Option (List ℕ) → List (List ℕ)
object_lines None = []
object_lines (Some object) = (94 ∷ object) ∷ []

abbrev lines_of_record : Record → List (List ℕ)
lines_of_record r = record_line r ∷ object_lines r.object

abbrev lines_of_records : List Record → List (List ℕ)
lines_of_records rs = flat_map lines_of_record rs

record_line_cut : (k : Kind) (t : List ℕ) (r : Record) (rest : List ℕ) (f : Takes k t r rest) → Line t (record_line r) f.after
record_line_cut k t r rest f =
    wider t r.target (32 ∷ f.line.after) (32 ∷ r.name) f.after f.line.whole (digits_in_line r.target f.id.digits)
    (wider (32 ∷ f.line.after) (32 ∷ []) f.line.after r.name f.after refl (All-cons (λ b. in_record_line b ≡ true) 32 [] refl (All-nil (λ b. in_record_line b ≡ true))) f.line.line)

pub empty_line : (t r : List ℕ) → Newline t r → Line t [] r
empty_line t r n = record { after = t; cut = record { whole = refl; front_passes = All-nil (λ b. in_record_line b ≡ true); stops = stops n }; newline = n }
  where
    stops : Newline t r → StopsAt in_record_line t
    stops (inl lf) = subst (StopsAt in_record_line) (sym lf) refl
    stops (inr crlf) = subst (StopsAt in_record_line) (sym crlf) refl

peeled_cut : (k : Kind) (t : List ℕ) (o : Option (List ℕ)) (rest : List ℕ) (ls : List (List ℕ)) → OptionalPeeledLine k t o rest → text_lines rest ≡ Some ls → text_lines t ≡ Some (object_lines o ++ ls)
peeled_cut k t None rest ls f is = ap text_lines f.0 ∙ is
peeled_cut k t (Some object) rest ls f is =
    let digits = digits_in_line object f.id.digits in
    let line = wider t (94 ∷ object) f.after [] rest f.whole (All-cons (λ b. in_record_line b ≡ true) 94 object refl digits) (empty_line f.after rest f.newline) in
    line_cut t ((94 ∷ object) ++ []) rest line ∙ ap (in_front ((94 ∷ object) ++ [])) is ∙ ap (λ l. Some (l ∷ ls)) (append-nil (94 ∷ object))

records_cut : (k : Kind) (t : List ℕ) (rs : List Record) → Records k t rs → text_lines t ≡ Some (lines_of_records rs)
records_cut k t [] h = ap text_lines h
records_cut k t (r ∷ rs) h =
    line_cut t (record_line r) h.1.after (record_line_cut k t r h.0 h.1)
    ∙ ap (in_front (record_line r)) (peeled_cut k h.1.after r.object h.0 (lines_of_records rs) h.1.peeled (records_cut k h.0 rs h.2))

-- ---- the records of lines

no_object : (k : Kind) (d n : List ℕ) → IsHexOf k d → behind_caret (d ++ 32 ∷ n) ≡ None
no_object k [] n h = let some = two_digits k 0 h.len in absurd (omega arith)
no_object k (b ∷ d) n h =
    ap (λ x. cond x (Some (d ++ 32 ∷ n)) None) (not_digit 94 refl b (All-head (λ x. is_hex_digit x ≡ true) b d h.digits))

no_first_object : (k : Kind) (rs : List Record) → All (IsReadable k) rs → first_object (lines_of_records rs) ≡ None
no_first_object k [] all = refl
no_first_object k (r ∷ rs) all = no_object k r.target r.name (All-head (IsReadable k) r rs all).target

hex_of : (k : Kind) (d : List ℕ) → IsHexOf k d → is_hex_of k d ≡ true
hex_of k d h = ap (λ x. x && list_all is_hex_digit d) (eq-eqb (length d) (2 * kind_len k) h.len) ∙ list_all-from_AllPass is_hex_digit d h.digits

module _ (k : Kind) (r : Record) (h : IsReadable k r) where
  digits_are : digits_in k (record_line r) ≡ r.target
  digits_are = take_at r.target (32 ∷ r.name) (2 * kind_len k) h.target.len

  name_is : line_name k (record_line r) ≡ r.name
  name_is =
      let len = h.target.len in
      let sum = length-append r.target (32 ∷ []) in
      ap (drop (2 * kind_len k + 1)) (sym (append_assoc r.target (32 ∷ []) r.name)) ∙ drop_at (r.target ++ 32 ∷ []) r.name (2 * kind_len k + 1) (omega arith)

  is_line : is_line_of k (record_line r) (digits_in k (record_line r)) (line_name k (record_line r)) ≡ true
  is_line =
      (λ i. is_line_of k (record_line r) (digits_are i) (name_is i))
      ∙ ap (λ x. x && is_hex_of k r.target && is_none (full_error r.name)) ((bytes_decides (record_line r) (record_line r)).1 refl)
      ∙ ap (λ x. x && is_none (full_error r.name)) (hex_of k r.target h.target)
      ∙ ap (λ (x : Option Error). is_none x) h.name

  line_added : (object : Option (List ℕ)) (rs : List Record) → add_line k (record_line r) object (behind_caret (record_line r)) rs ≡ Some (record { name = r.name; target = r.target; object = object } ∷ rs)
  line_added object rs =
      ap (λ o. add_line k (record_line r) object o rs) (no_object k r.target r.name h.target)
      ∙ ap (λ x. cond x (Some (record { name = line_name k (record_line r); target = digits_in k (record_line r); object = object } ∷ rs)) None) is_line
      ∙ (λ i. Some (record { name = name_is i; target = digits_are i; object = object } ∷ rs))

object_added : (k : Kind) (o : List ℕ) (more : List (List ℕ)) (rs : List Record) → IsHexOf k o → first_object more ≡ None → add_lines k more ≡ Some rs → add_lines k ((94 ∷ o) ∷ more) ≡ Some rs
object_added k o more rs h none is =
    ap (option_and_then (add_line k (94 ∷ o) (first_object more) (Some o))) is
    ∙ ap (λ (x : Option (List ℕ)). cond (is_hex_of k o && is_none x) (Some rs) None) none
    ∙ ap (λ x. cond (x && true) (Some rs) None) (hex_of k o h)

lines_added : (k : Kind) (rs : List Record) → All (IsReadable k) rs → add_lines k (lines_of_records rs) ≡ Some rs
lines_added k [] all = refl
lines_added k (r ∷ rs) all = go r.object refl (lines_added k rs (All-tail (IsReadable k) r rs all))
  where
    h : IsReadable k r
    h = All-head (IsReadable k) r rs all

    more : All (IsReadable k) rs
    more = All-tail (IsReadable k) r rs all

    go : (o : Option (List ℕ)) → r.object ≡ o → add_lines k (lines_of_records rs) ≡ Some rs → add_lines k (lines_of_records (r ∷ rs)) ≡ Some (r ∷ rs)
    go None is added =
        ap (λ (o : Option (List ℕ)). add_lines k (record_line r ∷ (object_lines o ++ lines_of_records rs))) is
        ∙ ap (option_and_then (add_line k (record_line r) (first_object (lines_of_records rs)) (behind_caret (record_line r)))) added
        ∙ line_added k r h (first_object (lines_of_records rs)) rs
        ∙ ap (λ (o : Option (List ℕ)). Some (record { name = r.name; target = r.target; object = o } ∷ rs)) (no_first_object k rs more ∙ sym is)
    go (Some object) is added =
        let digits : IsHexOf k object = subst (IsObject k) is h.object in
        ap (λ (o : Option (List ℕ)). add_lines k (record_line r ∷ (object_lines o ++ lines_of_records rs))) is
        ∙ ap (option_and_then (add_line k (record_line r) (Some object) (behind_caret (record_line r)))) (object_added k object (lines_of_records rs) rs digits (no_first_object k rs more) added)
        ∙ line_added k r h (Some object) rs
        ∙ ap (λ (o : Option (List ℕ)). Some (record { name = r.name; target = r.target; object = o } ∷ rs)) (sym is)

all_readable : (k : Kind) (t : List ℕ) (rs : List Record) → Records k t rs → All (IsReadable k) rs
all_readable k t [] h = All-nil (IsReadable k)
all_readable k t (r ∷ rs) h = All-cons (IsReadable k) r rs (readable k t r h.0 h.1) (all_readable k h.0 rs h.2)

-- ---- the header

not_begins : (b : ℕ) (l : List ℕ) → (b == 35) ≡ false → starts_with nat_eq (b ∷ l) (codes "# pack-refs with: ") ≡ false
not_begins b l other = go (starts_with nat_eq (b ∷ l) (codes "# pack-refs with: ")) refl
  where
    go : (x : Bool) → starts_with nat_eq (b ∷ l) (codes "# pack-refs with: ") ≡ x → starts_with nat_eq (b ∷ l) (codes "# pack-refs with: ") ≡ false
    go false is = is
    go true is =
        let whole = (starts_is Decides-eqb (b ∷ l) (codes "# pack-refs with: ") true (sym is)).0 refl in
        let bad : begins_hash (b ∷ l) ≡ true = ap begins_hash whole in absurd (cc)

-- the first of the lines is no header
no_header : (k : Kind) (rs : List Record) → All (IsReadable k) rs → behind_header (lines_of_records rs) ≡ Some (lines_of_records rs)
no_header k [] all = refl
no_header k (r ∷ rs) all = go r.target (All-head (IsReadable k) r rs all).target
  where
    more : List (List ℕ)
    more = object_lines r.object ++ lines_of_records rs

    front : List ℕ
    front = codes "# pack-refs with: "

    go : (d : List ℕ) → IsHexOf k d → behind_header ((d ++ 32 ∷ r.name) ∷ more) ≡ Some ((d ++ 32 ∷ r.name) ∷ more)
    go [] h = let some = two_digits k 0 h.len in absurd (omega arith)
    go (b ∷ d) h =
        let digit = All-head (λ x. is_hex_digit x ≡ true) b d h.digits in
        ap (λ x. cond x (Some more) (cond (b == 35) None (Some ((b ∷ (d ++ 32 ∷ r.name)) ∷ more)))) (not_begins b (d ++ 32 ∷ r.name) (not_digit 35 refl b digit))
        ∙ ap (λ x. cond x None (Some ((b ∷ (d ++ 32 ∷ r.name)) ∷ more))) (not_digit 35 refl b digit)

heading_cut : (k : Kind) (t : List ℕ) (h : Option Header) (rest : List ℕ) (rs : List Record) → Heads t h rest → Records k rest rs → option_and_then behind_header (text_lines t) ≡ Some (lines_of_records rs)
heading_cut k t None rest rs f h =
    ap (λ x. option_and_then behind_header (text_lines x)) f.0 ∙ ap (option_and_then behind_header) (records_cut k rest rs h) ∙ no_header k rs (all_readable k rest rs h)
heading_cut k t (Some head) rest rs f h =
    let front = codes "# pack-refs with: " in
    let line = wider t front f.after f.line rest f.whole (AllPass-from_list_all in_record_line front refl) f.is_line in
    ap (option_and_then behind_header) (line_cut t (front ++ f.line) rest line ∙ ap (in_front (front ++ f.line)) (records_cut k rest rs h))
    ∙ ap (λ x. cond x (Some (lines_of_records rs)) (cond (begins_hash (front ++ f.line)) None (Some ((front ++ f.line) ∷ lines_of_records rs))))
    ((starts_is Decides-eqb (front ++ f.line) front (starts_with nat_eq (front ++ f.line) front) refl).1 f.line refl)

pub records_read : (k : Kind) (t : List ℕ) (h : Option Header) (rs : List Record) → PackedText k t h rs → read_records k t ≡ Some rs
records_read k t h rs f =
    let all = all_readable k f.0 rs f.2 in
    ap (option_and_then (line_records k)) (heading_cut k t h f.0 rs f.1 f.2)
    ∙ ap (λ (o : Option (List ℕ)). cond (is_none o) (add_lines k (lines_of_records rs)) None) (no_first_object k rs all)
    ∙ lines_added k rs all

pub records_computed : RecordsAreComputed
records_computed kind text h rs f = ap (λ o. unwrap_or o []) (records_read kind text h rs f)
