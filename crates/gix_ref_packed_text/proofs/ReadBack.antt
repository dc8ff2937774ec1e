-- Written records read back, and a text is read in one way.
use Rattle.std.proofs.Common.{◌≡◌, ◌==◌, ◌||◌, inl, ⊎_elim, ℕ, Bool, true, false, not, cond, List, [], ◌∷◌, ◌++◌, length, refl, sym, ◌∙◌, ap, subst, arith, Option, Some, None, append_assoc, codes, eqb-true}
use Rattle.std.specs.List.{All, AllPass, flat_map, find}
use Rattle.std.proofs.lemmas.Bool.{cases_eq}
use Rattle.std.proofs.lemmas.List.{append_cancel_left}
use Rattle.std.proofs.lemmas.List.Elements.{All-head, All-tail, All-cons, All-nil}
use Rattle.std.proofs.lemmas.List.Sums.{AllPass-from_list_all}
use Rattle.gix_ref_hash.specs.declared.hash.Kind.{Kind}
use Rattle.gix_ref_name.specs.declared.name.error.Error.{Error}
use Rattle.gix_ref_hash.specs.Bytes.{StopsAt}
use Rattle.gix_ref_name.specs.NameGrammar.{IsFullName, IsPartialName, is_invalid, first_reported, full_error}
use Rattle.gix_ref_name.proofs.PartialNames.{rules_of}
use Rattle.gix_ref_packed_text.specs.declared.packed.decode.options.Header.{Header}
use Rattle.gix_ref_target.specs.PackedRecords.{Record, object_line, record_text, header_text}
use Rattle.gix_ref_packed_text.specs.RecordGrammar.{Line, OptionalPeeledLine, Takes, Records, in_record_line, is_caret}
use Rattle.gix_ref_packed_text.specs.HeaderGrammar.{TakesHeader, said_by, said, silent, words}
use Rattle.gix_ref_packed_text.specs.OpenedText.{Heads, is_hash}
use Rattle.gix_ref_packed_text.specs.Positions.{IsObject, IsReadable}
use Rattle.gix_ref_packed_text.specs.WrittenText.{written_header, WrittenTextReadsBack, PackedTextIsOne}
use Rattle.gix_ref_packed_text.proofs.OneReading.{same_record, same_line}
use Rattle.gix_ref_packed_text.proofs.RecordPlaces.{shorter_record as shorter}
use Rattle.gix_ref_packed_text.proofs.RecordBytes.{records_stop}

first_none : (o : Option Error) (rest : List (Option Error)) → first_reported (o ∷ rest) ≡ None → o ≡ None
first_none None rest h = refl
first_none (Some e) rest h = absurd (cc)

partial_of_full : (n : List ℕ) → IsFullName n → IsPartialName n
unfolding full_error
partial_of_full n valid = first_none _ _ valid

valid_in_line : (b : ℕ) → is_invalid b ≡ false → in_record_line b ≡ true
valid_in_line b valid = ⊎_elim
    (λ (lf : b ≡ 10). let bad : is_invalid 10 ≡ false = subst (λ (x : ℕ). is_invalid x ≡ false) lf valid in absurd (cc))
    (λ (not_lf : b ≡ 10 → ⊥). ⊎_elim
    (λ (cr : b ≡ 13). let bad : is_invalid 13 ≡ false = subst (λ (x : ℕ). is_invalid x ≡ false) cr valid in absurd (cc))
    (λ (not_cr : b ≡ 13 → ⊥). go (b == 10) (b == 13) (λ e. not_lf (eqb-true b 10 e)) (λ e. not_cr (eqb-true b 13 e)))
    (cases_eq b 13))
    (cases_eq b 10)
  where
    go : (x y : Bool) → (x ≡ true → ⊥) → (y ≡ true → ⊥) → not (x || y) ≡ true
    go true y p q = absurd (p refl)
    go false true p q = absurd (q refl)
    go false false p q = refl

in_one_line : (n : List ℕ) → find is_invalid n ≡ None → AllPass in_record_line n
in_one_line [] h = All-nil (λ b. in_record_line b ≡ true)
in_one_line (b ∷ n) h = go (is_invalid b) refl h (in_one_line n)
  where
    go : (x : Bool) → is_invalid b ≡ x → cond x (Some b) (find is_invalid n) ≡ None → (find is_invalid n ≡ None → AllPass in_record_line n) → AllPass in_record_line (b ∷ n)
    go true is k more = absurd (cc)
    go false is k more = All-cons (λ x. in_record_line x ≡ true) b n (valid_in_line b is) (more k)

-- the name of a record is in one line
pub name_in_line : (n : List ℕ) → IsFullName n → AllPass in_record_line n
name_in_line n valid = in_one_line n (rules_of n (partial_of_full n valid)).0.valid

object_back : (k : Kind) (o : Option (List ℕ)) (x : List ℕ) → IsObject k o → StopsAt is_caret x → OptionalPeeledLine k (object_line o ++ x) o x
object_back k None x digits stops = (refl, stops)
object_back k (Some object) x digits stops = record {
  after = 10 ∷ x;
  whole = ap (λ a. 94 ∷ a) (append_assoc object (10 ∷ []) x);
  id = digits;
  newline = inl refl;
}

record_back : (k : Kind) (r : Record) (x : List ℕ) → IsReadable k r → StopsAt is_caret x → Takes k (record_text r ++ x) r x
record_back k r x h stops =
    let rest = object_line r.object ++ x in
    record {
      after = rest;
      line = record {
        after = r.name ++ 10 ∷ rest;
        whole = regroup r.target r.name (object_line r.object) x;
        len = h.target.len;
        line = record {
          after = 10 ∷ rest;
          cut = record { whole = refl; front_passes = name_in_line r.name h.name; stops = refl };
          newline = inl refl;
        };
      };
      id = h.target;
      valid = h.name;
      peeled = object_back k r.object x h.object stops;
    }
  where
    regroup : (a b c d : List ℕ) → (a ++ 32 ∷ (b ++ 10 ∷ c)) ++ d ≡ a ++ 32 ∷ (b ++ 10 ∷ (c ++ d))
    regroup a b c d = simp append_assoc

records_back : (k : Kind) (rs : List Record) → All (IsReadable k) rs → Records k (flat_map record_text rs) rs
records_back k [] all = refl
records_back k (r ∷ rs) all =
    let more = records_back k rs (All-tail (IsReadable k) r rs all) in
    (flat_map record_text rs, record_back k r (flat_map record_text rs) (All-head (IsReadable k) r rs all) (records_stop k (flat_map record_text rs) rs more), more)

pub header_back : (rest : List ℕ) → TakesHeader (header_text ++ rest) written_header rest
unfolding said_by
header_back rest = record {
  after = codes "peeled fully-peeled sorted " ++ 10 ∷ rest;
  line = codes "peeled fully-peeled sorted ";
  whole = refl;
  is_line = record {
    after = 10 ∷ rest;
    cut = record { whole = refl; front_passes = AllPass-from_list_all in_record_line (codes "peeled fully-peeled sorted ") refl; stops = refl };
    newline = inl refl;
  };
  says = refl;
}

pub reads_back : WrittenTextReadsBack
reads_back kind rs all = (flat_map record_text rs, header_back (flat_map record_text rs), records_back kind rs all)

-- ---- one way

pub same_records : (k : Kind) (t : List ℕ) (rs ss : List Record) → Records k t rs → Records k t ss → rs ≡ ss
same_records k t [] [] f g = refl
same_records k t [] (s ∷ ss) f g =
    let less = shorter k t s g.0 g.1 in
    let none : length t ≡ 0 = ap length f in absurd (omega arith)
same_records k t (r ∷ rs) [] f g =
    let less = shorter k t r f.0 f.1 in
    let none : length t ≡ 0 = ap length g in absurd (omega arith)
same_records k t (r ∷ rs) (s ∷ ss) f g =
    let same = same_record k t r f.0 s g.0 f.1 g.1 in
    let more = same_records k f.0 rs ss f.2 (subst (λ (u : List ℕ). Records k u ss) (sym same.1) g.2) in cc

pub same_header : (t : List ℕ) (g : Header) (a : List ℕ) (h : Header) (b : List ℕ) → TakesHeader t g a → TakesHeader t h b → (g ≡ h) × (a ≡ b)
same_header t g a h b f e =
    let after : f.after ≡ e.after = append_cancel_left (codes "# pack-refs with: ") f.after e.after (sym f.whole ∙ e.whole) in
    let line = same_line e.after f.line a e.line b (subst (λ (u : List ℕ). Line u f.line a) after f.is_line) e.is_line in
    (f.says ∙ ap (λ l. said silent (words l)) line.0 ∙ sym e.says, line.1)

no_hash : (t : List ℕ) (h : Header) (rest : List ℕ) → TakesHeader t h rest → StopsAt is_hash t → ⊥
no_hash t h rest f stops = let stop : true ≡ false = subst (StopsAt is_hash) f.whole stops in absurd (cc)

pub same_heading : (t : List ℕ) (g h : Option Header) (a b : List ℕ) → Heads t g a → Heads t h b → (g ≡ h) × (a ≡ b)
same_heading t None None a b f e = (refl, sym f.0 ∙ e.0)
same_heading t None (Some h) a b f e = absurd (no_hash t h b e f.1)
same_heading t (Some g) None a b f e = absurd (no_hash t g a f e.1)
same_heading t (Some g) (Some h) a b f e = let same = same_header t g a h b f e in (ap (λ x. Some x) same.0, same.1)

pub text_is_one : PackedTextIsOne
text_is_one kind text g h rs ss f e =
    let same = same_heading text g h f.0 e.0 f.1 e.1 in
    (same.0, same_records kind e.0 rs ss (subst (λ (u : List ℕ). Records kind u rs) same.1 f.2) e.2)
