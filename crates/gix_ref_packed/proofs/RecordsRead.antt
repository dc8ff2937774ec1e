-- A text whose records are computed is a header and these records.
use Rattle.std.proofs.Common.{◌≡◌, ◌==◌, ◌||◌, ◌&&◌, inl, inr, ℕ, ◌*◌, Bool, true, false, not, cond, nat_eq, List, [], ◌∷◌, ◌++◌, length, drop, refl, sym, ◌∙◌, ap, subst, arith, Option, Some, None, is_none, unwrap_or, append_assoc, codes, eqb-true}
use Rattle.std.specs.List.{AllPass, starts_with}
use Rattle.std.specs.Option.{option_and_then}
use Rattle.std.specs.Cmp.Lexicographic.{bytes_decides}
use Rattle.std.proofs.lemmas.List.Elements.{All-head, All-tail, All-nil, All-cons}
use Rattle.std.proofs.lemmas.List.Sums.{AllPass-from_list_all}
use Rattle.std.proofs.lemmas.Bool.Decides.{Decides-eqb}
use Rattle.std.proofs.lemmas.Slice.Eq.{starts_is}
use Rattle.hex.specs.Hex.{is_hex_digit}
use Rattle.gix_ref_hash.specs.declared.hash.Kind.{Kind}
use Rattle.gix_ref_hash.specs.Ids.{kind_len, IsHexOf}
use Rattle.gix_ref_hash.specs.Bytes.{StopsAt}
use Rattle.gix_ref_name.specs.declared.name.error.Error.{Error}
use Rattle.gix_ref_name.specs.NameGrammar.{IsFullName, full_error}
use Rattle.gix_ref_target.specs.PackedRecords.{Record}
use Rattle.gix_ref_packed_text.specs.declared.packed.decode.options.Header.{Header}
use Rattle.gix_ref_packed_text.specs.RecordGrammar.{Newline, Line, OptionalPeeledLine, Records, in_record_line, is_caret}
use Rattle.gix_ref_packed_text.specs.HeaderGrammar.{said, silent, words}
use Rattle.gix_ref_packed_text.specs.OpenedText.{PackedText, is_hash}
use Rattle.gix_ref_packed.specs.RecordsOfText.{begins_lf, begins_hash, longer, text_lines, behind_header, is_hex_of, is_line_of, digits_in, line_name, behind_caret, first_object, add_line, add_lines, line_records, read_records, TextsAreRead}
use Rattle.gix_ref_packed_text.proofs.ReadBack.{name_in_line}
use Rattle.gix_ref_packed.proofs.RecordsOfText.{in_front, wider, empty_line, records_read}

-- ---- parts of what is computed

both : (x y : Bool) → (x && y) ≡ true → (x ≡ true) × (y ≡ true)
both true y h = (refl, h)
both false y h = absurd (cc)

value_is : {T : Type 0} (x y : T) → Some x ≡ Some y → x ≡ y
value_is x y e = ap (λ o. unwrap_or o x) e

-- a test that was passed
passed : {T : Type 0} (b : Bool) (x : Option T) (y : T) → cond b x None ≡ Some y → (b ≡ true) × (x ≡ Some y)
passed true x y h = (refl, h)
passed false x y h = absurd (cc)

-- a step that was taken
taken : {T U : Type 0} (f : T → Option U) (o : Option T) (y : U) → option_and_then f o ≡ Some y → (x : T) × (o ≡ Some x) × (f x ≡ Some y)
taken f None y h = absurd (cc)
taken f (Some x) y h = (x, refl, h)

nothing : (x : Option (List ℕ)) → is_none x ≡ true → x ≡ None
nothing None h = refl
nothing (Some x) h = absurd (cc)

no_error : (x : Option Error) → is_none x ≡ true → x ≡ None
no_error None h = refl
no_error (Some x) h = absurd (cc)

-- ---- lines

-- the text is these lines
abbrev pub Cut : List ℕ → List (List ℕ) → Type 0
Cut t [] = t ≡ []
Cut t (l ∷ ls) = (r : List ℕ) × Line t l r × Cut r ls

cut_lf : (b : ℕ) (rest : List ℕ) (o : Option (List (List ℕ))) (ls : List (List ℕ)) → b ≡ 10 → in_front [] o ≡ Some ls → ((xs : List (List ℕ)) → o ≡ Some xs → Cut rest xs) → Cut (b ∷ rest) ls
cut_lf b rest None ls is h more = absurd (cc)
cut_lf b rest (Some xs) ls is h more =
    subst (Cut (b ∷ rest)) (value_is ([] ∷ xs) ls h) (rest, empty_line (b ∷ rest) rest (inl (ap (λ x. x ∷ rest) is)), more xs refl)

-- the line that an LF ends is empty
cut_cr : (b : ℕ) (rest : List ℕ) (ls : List (List ℕ)) → b ≡ 13 → begins_lf rest ≡ true → Cut rest ls → Cut (b ∷ rest) ls
cut_cr b [] ls is lf cut = absurd (cc)
cut_cr b (c ∷ rest) [] is lf cut = absurd (cc)
cut_cr b (c ∷ rest) ([] ∷ ls) is lf cut = (cut.0, empty_line (b ∷ c ∷ rest) cut.0 (ended cut.1.newline), cut.2)
  where
    ended : Newline cut.1.after cut.0 → Newline (b ∷ c ∷ rest) cut.0
    ended (inl n) = inr (λ i. is i ∷ (cut.1.cut.whole ∙ n) i)
    ended (inr n) = let first : c ≡ 13 = cc (cut.1.cut.whole, n) in let ten : c ≡ 10 = eqb-true c 10 lf in absurd (omega arith)
cut_cr b (c ∷ rest) ((x ∷ l) ∷ ls) is lf cut =
    let ten : c ≡ 10 = eqb-true c 10 lf in
    let same : x ≡ 10 = cc (cut.1.cut.whole, ten) in
    let passes : in_record_line 10 ≡ true = subst (λ (y : ℕ). in_record_line y ≡ true) same (All-head (λ y. in_record_line y ≡ true) x l cut.1.cut.front_passes) in absurd (cc)

cut_byte : (b : ℕ) (rest : List ℕ) (o : Option (List (List ℕ))) (ls : List (List ℕ)) → in_record_line b ≡ true → option_and_then (longer b) o ≡ Some ls → ((xs : List (List ℕ)) → o ≡ Some xs → Cut rest xs) → Cut (b ∷ rest) ls
cut_byte b rest None ls passes h more = absurd (cc)
cut_byte b rest (Some []) ls passes h more = absurd (cc)
cut_byte b rest (Some (l ∷ xs)) ls passes h more =
    let cut = more (l ∷ xs) refl in
    subst (Cut (b ∷ rest)) (value_is ((b ∷ l) ∷ xs) ls h)
    (cut.0, wider (b ∷ rest) (b ∷ []) rest l cut.0 refl (All-cons (λ x. in_record_line x ≡ true) b [] passes (All-nil (λ x. in_record_line x ≡ true))) cut.1, cut.2)

cut_all : (t : List ℕ) (ls : List (List ℕ)) → text_lines t ≡ Some ls → Cut t ls
cut_all [] ls h = subst (Cut []) (value_is [] ls h) refl
cut_all (b ∷ rest) ls h = by_lf (b == 10) refl h (cut_all rest)
  where
    other : (x y : Bool) → (b == 10) ≡ false → (b == 13) ≡ x → begins_lf rest ≡ y → cond x (cond y (text_lines rest) None) (option_and_then (longer b) (text_lines rest)) ≡ Some ls → ((xs : List (List ℕ)) → text_lines rest ≡ Some xs → Cut rest xs) → Cut (b ∷ rest) ls
    other true true not_lf is begins h more = cut_cr b rest ls (eqb-true b 13 is) begins (more ls h)
    other true false not_lf is begins h more = absurd (cc)
    other false y not_lf is begins h more = cut_byte b rest (text_lines rest) ls (ap (λ x. not (x || (b == 13))) not_lf ∙ ap (λ x. not x) is) h more

    by_lf : (x : Bool) → (b == 10) ≡ x → cond x (in_front [] (text_lines rest)) (cond (b == 13) (cond (begins_lf rest) (text_lines rest) None) (option_and_then (longer b) (text_lines rest))) ≡ Some ls → ((xs : List (List ℕ)) → text_lines rest ≡ Some xs → Cut rest xs) → Cut (b ∷ rest) ls
    by_lf true is h more = cut_lf b rest (text_lines rest) ls (eqb-true b 10 is) h more
    by_lf false is h more = other (b == 13) (begins_lf rest) is refl refl h more

-- ---- records

hex_back : (k : Kind) (d : List ℕ) → is_hex_of k d ≡ true → IsHexOf k d
hex_back k d h =
    let parts = both _ _ h in
    record { len = eqb-true (length d) (2 * kind_len k) parts.0; digits = AllPass-from_list_all is_hex_digit d parts.1 }

caret_line : (line digits : List ℕ) → behind_caret line ≡ Some digits → line ≡ 94 ∷ digits
caret_line [] digits h = absurd (cc)
caret_line (b ∷ line) digits h =
    let parts = passed (is_caret b) (Some line) digits h in λ i. eqb-true b 94 parts.0 i ∷ value_is line digits parts.1 i

no_caret : (line after : List ℕ) (d n : List ℕ) → line ≡ d ++ 32 ∷ n → behind_caret line ≡ None → StopsAt is_caret (line ++ after)
no_caret [] after [] n whole none = absurd (cc)
no_caret [] after (b ∷ d) n whole none = absurd (cc)
no_caret (b ∷ line) after d n whole none = go (is_caret b) refl none
  where
    go : (x : Bool) → is_caret b ≡ x → cond x (Some line) None ≡ None → is_caret b ≡ false
    go true is h = absurd (cc)
    go false is h = is

-- what the lines give: an object of the record before them, and records
abbrev Follows : Kind → List ℕ → Option (List ℕ) → List Record → Type 0
Follows k t o rs = (rest : List ℕ) × OptionalPeeledLine k t o rest × Records k rest rs

object_read : (k : Kind) (t line r digits : List ℕ) (o : Option (List ℕ)) (ss rs : List Record) → Line t line r → Follows k r o ss → line ≡ 94 ∷ digits → cond (is_hex_of k digits && is_none o) (Some ss) None ≡ Some rs → Follows k t (Some digits) rs
object_read k t line r digits o ss rs f more is h =
    let test = passed (is_hex_of k digits && is_none o) (Some ss) rs h in
    let parts = both _ _ test.0 in
    let last : o ≡ None = nothing o parts.1 in
    let ends : OptionalPeeledLine k r None more.0 = subst (λ (x : Option (List ℕ)). OptionalPeeledLine k r x more.0) last more.1 in
    let rest : Records k r ss = subst (λ (u : List ℕ). Records k u ss) (sym ends.0) more.2 in (
      r,
      record { after = f.after; whole = f.cut.whole ∙ ap (λ x. x ++ f.after) is; id = hex_back k digits parts.0; newline = f.newline },
      subst (Records k r) (value_is ss rs test.1) rest,
    )

record_read : (k : Kind) (t line r d n : List ℕ) (o : Option (List ℕ)) (ss rs : List Record) → Line t line r → Follows k r o ss → behind_caret line ≡ None
    → cond (is_line_of k line d n) (Some (record { name = n; target = d; object = o } ∷ ss)) None ≡ Some rs → Follows k t None rs
record_read k t line r d n o ss rs f more none h =
    let test = passed (is_line_of k line d n) (Some (record { name = n; target = d; object = o } ∷ ss)) rs h in
    let first = both _ _ test.0 in
    let second = both _ _ first.0 in
    let whole : line ≡ d ++ 32 ∷ n = (bytes_decides line (d ++ 32 ∷ n)).0 second.0 in
    let id = hex_back k d second.1 in
    let valid : IsFullName n = no_error (full_error n) first.1 in
    let one : Records k t (record { name = n; target = d; object = o } ∷ ss) = (
      more.0,
      record {
        after = r;
        line = record {
          after = n ++ f.after;
          whole = f.cut.whole ∙ ap (λ x. x ++ f.after) whole ∙ append_assoc d (32 ∷ n) f.after;
          len = id.len;
          line = record { after = f.after; cut = record { whole = refl; front_passes = name_in_line n valid; stops = f.cut.stops }; newline = f.newline };
        };
        id = id;
        valid = valid;
        peeled = more.1;
      },
      more.2,
    ) in (
      t,
      (refl, subst (StopsAt is_caret) (sym f.cut.whole) (no_caret line f.after d n whole none)),
      subst (Records k t) (value_is (record { name = n; target = d; object = o } ∷ ss) rs test.1) one,
    )

lines_read : (k : Kind) (ls : List (List ℕ)) (t : List ℕ) (rs : List Record) → Cut t ls → add_lines k ls ≡ Some rs → Follows k t (first_object ls) rs
lines_read k [] t rs cut h = (t, (refl, subst (StopsAt is_caret) (sym cut) tt), subst (Records k t) (value_is [] rs h) cut)
lines_read k (line ∷ more) t rs cut h =
    let step = taken (add_line k line (first_object more) (behind_caret line)) (add_lines k more) rs h in
    go (behind_caret line) refl step.0 (lines_read k more cut.0 step.0 cut.2 step.1) step.2
  where
    go : (o : Option (List ℕ)) → behind_caret line ≡ o → (ss : List Record) → Follows k cut.0 (first_object more) ss → add_line k line (first_object more) o ss ≡ Some rs → Follows k t o rs
    go (Some digits) is ss rest valid = object_read k t line cut.0 digits (first_object more) ss rs cut.1 rest (caret_line line digits is) valid
    go None is ss rest valid = record_read k t line cut.0 (digits_in k line) (line_name k line) (first_object more) ss rs cut.1 rest is valid

-- ---- the header

first_read : (k : Kind) (ls : List (List ℕ)) (t : List ℕ) (rs : List Record) → Cut t ls → line_records k ls ≡ Some rs → Records k t rs
first_read k ls t rs cut h =
    let test = passed (is_none (first_object ls)) (add_lines k ls) rs h in
    let found = lines_read k ls t rs cut test.1 in
    let none : OptionalPeeledLine k t None found.0 = subst (λ (o : Option (List ℕ)). OptionalPeeledLine k t o found.0) (nothing (first_object ls) test.0) found.1 in
    subst (λ (u : List ℕ). Records k u rs) (sym none.0) found.2

no_hash : (line after r : List ℕ) → Newline after r → begins_hash line ≡ false → StopsAt is_hash (line ++ after)
no_hash [] after r (inl lf) none = subst (StopsAt is_hash) (sym lf) refl
no_hash [] after r (inr crlf) none = subst (StopsAt is_hash) (sym crlf) refl
no_hash (b ∷ line) after r n none = none

behind : (p a : List ℕ) → AllPass in_record_line (p ++ a) → AllPass in_record_line a
behind [] a h = h
behind (b ∷ p) a h = behind p a (All-tail (λ x. in_record_line x ≡ true) b (p ++ a) h)

module _ (k : Kind) (t : List ℕ) (rs : List Record) where
  header_read : (line r : List ℕ) (ls : List (List ℕ)) → Line t line r → Cut r ls → starts_with nat_eq line (codes "# pack-refs with: ") ≡ true → line_records k ls ≡ Some rs → (h : Option Header) × PackedText k t h rs
  header_read line r ls f cut begins h =
      let front = codes "# pack-refs with: " in
      let rest = drop (length front) line in
      let whole : line ≡ front ++ rest = (starts_is Decides-eqb line front true (sym begins)).0 refl in (
        Some (said silent (words rest)),
        (
          r,
          record {
            after = rest ++ f.after;
            line = rest;
            whole = f.cut.whole ∙ ap (λ x. x ++ f.after) whole ∙ append_assoc front rest f.after;
            is_line = record {
              after = f.after;
              cut = record { whole = refl; front_passes = behind front rest (subst (AllPass in_record_line) whole f.cut.front_passes); stops = f.cut.stops };
              newline = f.newline;
            };
            says = refl;
          },
          first_read k ls r rs cut h,
        ),
      )

  no_header_read : (line r : List ℕ) (ls : List (List ℕ)) → Line t line r → Cut r ls → begins_hash line ≡ false → line_records k (line ∷ ls) ≡ Some rs → (h : Option Header) × PackedText k t h rs
  no_header_read line r ls f cut none h =
      (None, (t, (refl, subst (StopsAt is_hash) (sym f.cut.whole) (no_hash line f.after r f.newline none)), first_read k (line ∷ ls) t rs (r, f, cut) h))

  heading_read : (ls ms : List (List ℕ)) → Cut t ls → behind_header ls ≡ Some ms → line_records k ms ≡ Some rs → (h : Option Header) × PackedText k t h rs
  heading_read [] ms cut is h =
      (None, (t, (refl, subst (StopsAt is_hash) (sym cut) tt), first_read k [] t rs cut (ap (line_records k) (value_is [] ms is) ∙ h)))
  heading_read (line ∷ ls) ms cut is h = go (starts_with nat_eq line (codes "# pack-refs with: ")) (begins_hash line) refl refl is
    where
      go : (x y : Bool) → starts_with nat_eq line (codes "# pack-refs with: ") ≡ x → begins_hash line ≡ y → cond x (Some ls) (cond y None (Some (line ∷ ls))) ≡ Some ms → (h : Option Header) × PackedText k t h rs
      go true y begins hash is = header_read line cut.0 ls cut.1 cut.2 begins (ap (line_records k) (value_is ls ms is) ∙ h)
      go false true begins hash is = absurd (cc)
      go false false begins hash is = no_header_read line cut.0 ls cut.1 cut.2 hash (ap (line_records k) (value_is (line ∷ ls) ms is) ∙ h)

  text_read : read_records k t ≡ Some rs → (h : Option Header) × PackedText k t h rs
  text_read h =
      let second = taken (line_records k) (option_and_then behind_header (text_lines t)) rs h in
      let first = taken behind_header (text_lines t) second.0 second.1 in
      heading_read first.0 second.0 (cut_all t first.0 first.1) first.2 second.2

pub texts_are_read : TextsAreRead
texts_are_read kind text rs = (text_read kind text rs, λ f. records_read kind text f.0 rs f.1)
