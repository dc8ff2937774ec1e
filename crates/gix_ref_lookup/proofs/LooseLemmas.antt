-- What a loose text holds is what is computed from it, and a written text holds its target.
use Rattle.std.proofs.Common.{◌≡◌, ℕ, ◌*◌, ◌<◌, Bool, true, false, not, ◌&&◌, List, [], ◌∷◌, ◌++◌, length, take, drop, codes, refl, sym, ◌∙◌, ap, subst, arith, Some, None, Option, Ok, Err, Result, nat_eq, if◌then◌else◌, is_none, take-append-drop, ◌||◌, cond, nat_le, find, lt_of_not-le, ne_eqb, slice_get, OnOk}
use Rattle.std.specs.Prelude.{◌==◌}
use Rattle.std.specs.List.{AllPass, starts_with}
use Rattle.std.proofs.lemmas.Bool.{le-leb}
use Rattle.std.proofs.lemmas.Bool.Decides.{Decides-eqb}
use Rattle.std.proofs.lemmas.List.{take_at, drop_at}
use Rattle.std.proofs.lemmas.List.Elements.{All-head, All-nil, All-cons}
use Rattle.std.proofs.lemmas.Slice.Eq.{starts_is}
use Rattle.hex.specs.Hex.{is_hex_digit, decode_of, encode_lower}
use Rattle.hex.specs.declared.error.FromHexError.{FromHexError}
use Rattle.hex.proofs.HexLemmas.{decode_of-ok}
use Rattle.gix_ref_hash.specs.Bytes.{Spans, StopsAt, is_space, in_line, is_empty}
use Rattle.gix_ref_hash.specs.Ids.{ReadsId, IsWhole, IsHexOf, kind_len, id_kind, id_bytes}
use Rattle.gix_ref_name.specs.NameGrammar.{IsFullName, IsPartialName, full_error, partial_error, full_rule, first_reported, is_invalid}
use Rattle.gix_ref_target.specs.Targets.{TargetValue}
use Rattle.gix_ref_target.specs.Targets.TargetValue.{object_id, symbolic_name}
use Rattle.gix_ref_name.specs.declared.name.error.Error.{Error as NameError}
use Rattle.gix_ref_hash.specs.declared.hash.Kind.{Kind}
use Rattle.gix_ref_hash.specs.declared.hash.Kind.TheVariants as kinds
use Rattle.gix_ref_hash.specs.declared.hash.ObjectId.{ObjectId}
use Rattle.gix_ref_hash.specs.declared.hash.ObjectId.TheVariants as ids
use Rattle.gix_ref_name.proofs.FrontLemmas.{begins_true, begins_false}
use Rattle.gix_ref_hash.proofs.ByteLemmas.{same_span, no_stop}
use Rattle.gix_ref_hash.proofs.IdLemmas.{reads_whole, written_reads}
use Rattle.gix_ref_name.proofs.PartialNames.{rules_of}
use Rattle.gix_ref_lookup.specs.declared.loose.error.Error.{Error}
use Rattle.gix_ref_lookup.specs.declared.loose.error.Error.TheVariants.{Parse, RefnameValidation, Memory}
use Rattle.gix_ref_lookup.specs.LooseText.{HoldsPath, HoldsId, HoldsTarget, CannotDecode, front_while, behind, stops, id_of, object_of, object_in, symbolic_in, target_in}
use Rattle.gix_ref_theory.specs.ConcreteStore.{loose_text}

-- the longest front, and what follows it, are what is computed
computed_span : (p : ℕ → Bool) (text : List ℕ) → Spans p text (front_while p text) (behind p text)
computed_span p [] = record { whole = refl; front_passes = All-nil (λ b. p b ≡ true); stops = tt }
computed_span p (b ∷ text) = go (p b) refl (computed_span p text)
  where
    go : (passes : Bool) → p b ≡ passes → Spans p text (front_while p text) (behind p text) →
        Spans p (b ∷ text) (if passes then b ∷ front_while p text else []) (if passes then behind p text else b ∷ text)
    go true is rest = record {
      whole = ap (λ l. b ∷ l) rest.whole;
      front_passes = All-cons (λ c. p c ≡ true) b (front_while p text) is rest.front_passes;
      stops = rest.stops;
    }
    go false is rest = record { whole = refl; front_passes = All-nil (λ c. p c ≡ true); stops = is }

spans_is : (p : ℕ → Bool) (text front rest : List ℕ) → Spans p text front rest → (front_while p text ≡ front) × (behind p text ≡ rest)
spans_is p text front rest spans = same_span p text (front_while p text) front (behind p text) rest (computed_span p text) spans

-- Symbolic texts.

path_is : (text path : List ℕ) → HoldsPath text path → front_while in_line (behind is_space (drop 5 text)) ≡ path
path_is text path h =
    ap (λ t. front_while in_line (behind is_space t)) (ap (drop 5) h.word ∙ drop_at (codes "ref: ") h.after_word 5 refl)
    ∙ (ap (front_while in_line) (spans_is is_space h.after_word h.spaces.0 h.after_spaces h.spaces.1).1
    ∙ (spans_is in_line h.after_spaces path h.line.0 h.line.1).0)

holds_path : (text : List ℕ) → starts_with nat_eq text (codes "ref: ") ≡ true → HoldsPath text (front_while in_line (behind is_space (drop 5 text)))
holds_path text begins = record {
  after_word = drop 5 text;
  after_spaces = behind is_space (drop 5 text);
  word = (starts_is Decides-eqb text (codes "ref: ") (starts_with nat_eq text (codes "ref: ")) refl).0 begins;
  spaces = (front_while is_space (drop 5 text), computed_span is_space (drop 5 text));
  line = (behind in_line (behind is_space (drop 5 text)), computed_span in_line (behind is_space (drop 5 text)));
}

symbolic_is : (path : List ℕ) → IsFullName path → symbolic_in path ≡ Some (symbolic_name path)
symbolic_is path valid = ap (λ (e : Option NameError). if is_none e then Some (symbolic_name path) else None) valid

symbolic_has : (path : List ℕ) (target : TargetValue) → symbolic_in path ≡ Some target → (target ≡ symbolic_name path) × IsFullName path
symbolic_has path target is = go (full_error path) refl is
  where
    go : (e : Option NameError) → full_error path ≡ e → (if is_none e then Some (symbolic_name path) else None) ≡ Some target → (target ≡ symbolic_name path) × (full_error path ≡ None)
    go None none some = (cc, none)
    go (Some e) broken some = absurd (cc)

-- Texts of ids.

same_kind : (id : ObjectId) (kind : Kind) → id_kind id ≡ kind → id_of kind (id_bytes id) ≡ id
same_kind (ids.Sha1 bytes) kind is = ap (λ k. id_of k bytes) (sym is)
same_kind (ids.Sha256 bytes) kind is = ap (λ k. id_of k bytes) (sym is)

made_kind : (kind : Kind) (bytes : List ℕ) → (id_kind (id_of kind bytes) ≡ kind) × (id_bytes (id_of kind bytes) ≡ bytes)
made_kind kinds.Sha1 bytes = (refl, refl)
made_kind kinds.Sha256 bytes = (refl, refl)

stops_true : (rest : List ℕ) → StopsAt is_hex_digit rest → stops rest ≡ true
stops_true [] h = refl
stops_true (b ∷ rest) h = ap not h

stops_here : (rest : List ℕ) → stops rest ≡ true → StopsAt is_hex_digit rest
stops_here [] h = tt
stops_here (b ∷ rest) h = go (is_hex_digit b) refl h
  where
    go : (digit : Bool) → is_hex_digit b ≡ digit → not digit ≡ true → is_hex_digit b ≡ false
    go true is none = absurd (cc)
    go false is none = is

some_digits : (id : ObjectId) (digits : List ℕ) → ReadsId digits id → 0 < length digits
some_digits (ids.Sha1 bytes) digits h = omega (arith, h.len)
some_digits (ids.Sha256 bytes) digits h = omega (arith, h.len)

-- a text that begins with digits does not begin with the word
no_word : (digits rest tail bytes : List ℕ) → 0 < length digits → decode_of digits ≡ Ok bytes → digits ++ rest ≡ 114 ∷ tail → ⊥
no_word [] rest tail bytes some ok e = omega arith
no_word (d ∷ ds) rest tail bytes some ok e =
    let here : d ≡ 114 = cc in
    let hex : is_hex_digit d ≡ true = All-head (λ x. is_hex_digit x ≡ true) d ds (decode_of-ok (d ∷ ds) bytes ok).1 in
    let bad : is_hex_digit 114 ≡ true = subst (λ (x : ℕ). is_hex_digit x ≡ true) here hex in cc

-- a symbolic text holds no id
pub path_no_id : (kind : Kind) (text path : List ℕ) (id : ObjectId) → HoldsPath text path → HoldsId kind text id → ⊥
path_no_id kind text path id f g = no_word g.digits g.rest _ (id_bytes id) (some_digits id g.digits g.reads) g.reads.digits (sym g.whole ∙ f.word)

-- no id, where the digits of the kind go on
pub goes_on : (kind : Kind) (text digits rest : List ℕ) (b : ℕ) → IsHexOf kind digits → text ≡ digits ++ rest → Some b ≡ slice_get rest 0 → is_hex_digit b ≡ true → (id : ObjectId) → HoldsId kind text id → ⊥
goes_on kind text digits rest b hex whole first digit id h =
    let n = 2 * kind_len kind in
    let len : length h.digits ≡ n = h.reads.len ∙ ap (λ k. 2 * kind_len k) h.of_kind in
    let same : h.rest ≡ rest = sym (drop_at h.digits h.rest n len) ∙ (ap (drop n) (sym h.whole ∙ whole) ∙ drop_at digits rest n hex.len) in
    no_stop is_hex_digit rest b first digit (subst (StopsAt is_hex_digit) same h.ends)

-- no id, where the text does not begin with digits of the kind
pub no_digits_no_id : (kind : Kind) (text : List ℕ) → ((digits rest : List ℕ) → IsHexOf kind digits → text ≡ digits ++ rest → ⊥) → (id : ObjectId) → HoldsId kind text id → ⊥
no_digits_no_id kind text none id h =
    none h.digits h.rest (subst (λ (k : Kind). IsHexOf k h.digits) h.of_kind (reads_whole h.digits id h.reads).0) h.whole

same_len : (n m : ℕ) → n ≡ m → nat_eq n m ≡ true
same_len n m e = (Decides-eqb n m).1 e

object_is : (kind : Kind) (text : List ℕ) (id : ObjectId) → HoldsId kind text id → object_in kind (take (2 * kind_len kind) text) (drop (2 * kind_len kind) text) ≡ Some (object_id id)
object_is kind text id h =
    let n = 2 * kind_len kind in
    let len : length h.digits ≡ n = h.reads.len ∙ ap (λ k. 2 * kind_len k) h.of_kind in
    let front : take n text ≡ h.digits = ap (take n) h.whole ∙ take_at h.digits h.rest n len in
    let rest : drop n text ≡ h.rest = ap (drop n) h.whole ∙ drop_at h.digits h.rest n len in
    ap (λ d. object_in kind d (drop n text)) front
    ∙ (ap (object_in kind h.digits) rest
    ∙ (ap (λ b. if b && stops h.rest then object_of kind (decode_of h.digits) else None) (same_len (length h.digits) n len)
    ∙ (ap (λ b. if b then object_of kind (decode_of h.digits) else None) (stops_true h.rest h.ends)
    ∙ (ap (object_of kind) h.reads.digits
    ∙ ap (λ i. Some (object_id i)) (same_kind id kind h.of_kind)))))

object_has : (kind : Kind) (text : List ℕ) (target : TargetValue) → object_in kind (take (2 * kind_len kind) text) (drop (2 * kind_len kind) text) ≡ Some target → HoldsTarget kind text target
object_has kind text target is =
    sized (nat_eq (length digits) (2 * kind_len kind)) (stops rest) refl refl is
  where
    digits : List ℕ
    digits = take (2 * kind_len kind) text

    rest : List ℕ
    rest = drop (2 * kind_len kind) text

    read : (r : Result (List ℕ) FromHexError) → decode_of digits ≡ r → length digits ≡ 2 * kind_len kind → stops rest ≡ true → object_of kind r ≡ Some target → HoldsTarget kind text target
    read (Ok bytes) ok len end some =
        let made = made_kind kind bytes in
        let same : object_id (id_of kind bytes) ≡ target = cc in
        subst (HoldsTarget kind text) same (record {
          digits = digits;
          rest = rest;
          whole = sym (take-append-drop (2 * kind_len kind) text);
          of_kind = made.0;
          reads = record { len = len ∙ ap (λ k. 2 * kind_len k) (sym made.0); digits = ok ∙ ap Ok (sym made.1) };
          ends = stops_here rest end;
        })
    read (Err e) ok len end some = absurd (cc)

    sized : (same end : Bool) → nat_eq (length digits) (2 * kind_len kind) ≡ same → stops rest ≡ end → (if same && end then object_of kind (decode_of digits) else None) ≡ Some target → HoldsTarget kind text target
    sized true true same end some = read (decode_of digits) refl ((Decides-eqb (length digits) (2 * kind_len kind)).0 same) end some
    sized true false same end some = absurd (cc)
    sized false end same stop some = absurd (cc)

-- Both together.

pub held_is : (kind : Kind) (text : List ℕ) (target : TargetValue) → HoldsTarget kind text target → target_in kind text ≡ Some target
unfolding target_in
held_is kind text (object_id id) h =
    let apart : starts_with nat_eq text (codes "ref: ") ≡ false = begins_false (codes "ref: ") text (λ r e. no_word h.digits h.rest _ (id_bytes id) (some_digits id h.digits h.reads) h.reads.digits (sym h.whole ∙ e)) in
    ap (λ b. if b then symbolic_in (front_while in_line (behind is_space (drop 5 text))) else object_in kind (take (2 * kind_len kind) text) (drop (2 * kind_len kind) text)) apart
    ∙ object_is kind text id h
held_is kind text (symbolic_name name) h =
    ap (λ b. if b then symbolic_in (front_while in_line (behind is_space (drop 5 text))) else object_in kind (take (2 * kind_len kind) text) (drop (2 * kind_len kind) text)) (begins_true (codes "ref: ") text h.0.after_word h.0.word)
    ∙ (ap symbolic_in (path_is text name h.0) ∙ symbolic_is name h.1)

pub is_held : (kind : Kind) (text : List ℕ) (target : TargetValue) → target_in kind text ≡ Some target → HoldsTarget kind text target
unfolding target_in
is_held kind text target is = go (starts_with nat_eq text (codes "ref: ")) refl is
  where
    go : (begins : Bool) → starts_with nat_eq text (codes "ref: ") ≡ begins →
        (if begins then symbolic_in (front_while in_line (behind is_space (drop 5 text))) else object_in kind (take (2 * kind_len kind) text) (drop (2 * kind_len kind) text)) ≡ Some target →
        HoldsTarget kind text target
    go true begins some =
        let path = front_while in_line (behind is_space (drop 5 text)) in
        let has = symbolic_has path target some in
        subst (HoldsTarget kind text) (sym has.0) (holds_path text begins, has.1)
    go false apart some = object_has kind text target some

-- Written texts.

-- no byte of a name ends a line or is a space
low_is_invalid : (b : ℕ) → nat_le b 32 ≡ true → is_invalid b ≡ true
low_is_invalid b h = ap (λ x. x || (b == 42) || (b == 58) || (b == 63) || (b == 91) || (b == 92) || (b == 94) || (b == 126) || (b == 127)) h

plain_byte : (b : ℕ) → is_invalid b ≡ false → (in_line b ≡ true) × (is_space b ≡ false)
plain_byte b h =
    let above : 32 < b = lt_of_not-le (λ le. clash h (low_is_invalid b (le-leb b 32 le))) in (
      lines (b == 0) (b == 10) (b == 13) (ne_eqb b 0 (λ e. omega (arith, above, e))) (ne_eqb b 10 (λ e. omega (arith, above, e))) (ne_eqb b 13 (λ e. omega (arith, above, e))),
      ne_eqb b 32 (λ e. omega (arith, above, e)),
    )
  where
    clash : {c : Bool} → c ≡ false → c ≡ true → ⊥
    clash f t = cc

    lines : (x y z : Bool) → x ≡ false → y ≡ false → z ≡ false → not (x || y || z) ≡ true
    lines false false false f g h = refl
    lines true y z f g h = absurd (cc)
    lines false true z f g h = absurd (cc)
    lines false false true f g h = absurd (cc)

find_none : (b : ℕ) (n : List ℕ) → find is_invalid (b ∷ n) ≡ None → (is_invalid b ≡ false) × (find is_invalid n ≡ None)
find_none b n none = go (is_invalid b) refl none
  where
    go : (invalid : Bool) → is_invalid b ≡ invalid → cond invalid (Some b) (find is_invalid n) ≡ None → (is_invalid b ≡ false) × (find is_invalid n ≡ None)
    go true is some = absurd (cc)
    go false is later = (is, later)

in_one_line : (n : List ℕ) → find is_invalid n ≡ None → AllPass in_line n
in_one_line [] none = All-nil (λ b. in_line b ≡ true)
in_one_line (b ∷ n) none =
    let first = find_none b n none in
    All-cons (λ c. in_line c ≡ true) b n (plain_byte b first.0).0 (in_one_line n first.1)

no_space : (n : List ℕ) → is_empty n ≡ false → find is_invalid n ≡ None → StopsAt is_space (n ++ 10 ∷ [])
no_space [] some none = absurd (cc)
no_space (b ∷ n) some none = (plain_byte b (find_none b n none).0).1

full_is_partial : (n : List ℕ) → IsFullName n → IsPartialName n
unfolding full_error
full_is_partial n valid = go (partial_error n) valid
  where
    go : (e : Option NameError) → first_reported (e ∷ full_rule n ∷ []) ≡ None → e ≡ None
    go None h = refl
    go (Some e) h = absurd (cc)

written_path : (name : List ℕ) → IsFullName name → HoldsPath (codes "ref: " ++ (name ++ 10 ∷ [])) name
written_path name valid =
    let rules = (rules_of name (full_is_partial name valid)).0 in
    record {
      after_word = name ++ 10 ∷ [];
      after_spaces = name ++ 10 ∷ [];
      word = refl;
      spaces = ([], record { whole = refl; front_passes = All-nil (λ b. is_space b ≡ true); stops = no_space name rules.some rules.valid });
      line = (10 ∷ [], record { whole = refl; front_passes = in_one_line name rules.valid; stops = refl });
    }

-- a written text decodes to its target
pub name_reads_back : (kind : Kind) (name : List ℕ) → IsFullName name → target_in kind (loose_text (symbolic_name name)) ≡ Some (symbolic_name name)
name_reads_back kind name valid = held_is kind (loose_text (symbolic_name name)) (symbolic_name name) (written_path name valid, valid)

pub id_reads_back : (kind : Kind) (id : ObjectId) → id_kind id ≡ kind → IsWhole id → target_in kind (loose_text (object_id id)) ≡ Some (object_id id)
id_reads_back kind id of_kind whole =
    held_is kind (loose_text (object_id id)) (object_id id) (record {
      digits = encode_lower (id_bytes id);
      rest = 10 ∷ [];
      whole = refl;
      of_kind = of_kind;
      reads = written_reads id whole;
      ends = refl;
    })

-- a fact, stated at `Ok`
pub at_ok : {A E : Type 0} (P : Type 0) (r : Result A E) → P → OnOk r P
at_ok P (Ok x) p = p
at_ok P (Err e) p = tt

-- a text that is refused, except for want of memory, holds no target
pub refused_none : (kind : Kind) (text : List ℕ) (error : Error) → CannotDecode kind text error → (error ≡ Memory → ⊥) → target_in kind text ≡ None
refused_none kind text error refused memory = by (target_in kind text) refl
  where
    none : (e : Error) → CannotDecode kind text e → (e ≡ Memory → ⊥) → (target : TargetValue) → HoldsTarget kind text target → ⊥
    none (Parse content) r m (object_id id) h = r.2 id h
    none (Parse content) r m (symbolic_name name) h = r.1 name h.0
    none (RefnameValidation source path) r m (object_id id) h = path_no_id kind text path.items id r.0 h
    none (RefnameValidation source path) r m (symbolic_name name) h =
        let bad : full_error name ≡ Some source = subst (λ (p : List ℕ). full_error p ≡ Some source) (sym (path_is text path.items r.0) ∙ path_is text name h.0) r.1 in
        let good : full_error name ≡ None = h.1 in cc
    none Memory r m target h = m refl

    by : (o : Option TargetValue) → target_in kind text ≡ o → o ≡ None
    by None e = refl
    by (Some target) e = absurd (none error refused memory target (is_held kind text target e))
