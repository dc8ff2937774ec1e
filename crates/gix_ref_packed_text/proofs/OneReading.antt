-- A text is read in one way.
use Rattle.std.proofs.Common.{◌≡◌, ◌≢◌, inl, inr, ℕ, ◌*◌, ◌+◌, ◌<◌, get_or, Bool, true, false, List, [], ◌∷◌, ◌++◌, length, take, drop, refl, sym, ◌∙◌, ap, subst, Option, Some, None, ◌==◌}
use Rattle.std.proofs.lemmas.List.{drop_at, take_at, take-append-drop, drop_more}
use Rattle.gix_ref_hash.specs.declared.hash.Kind.{Kind}
use Rattle.gix_ref_hash.specs.Ids.{kind_len, IsHexOf}
use Rattle.gix_ref_hash.specs.Bytes.{StopsAt, Spans}
use Rattle.gix_ref_name.specs.NameGrammar.{IsFullName, full_error, partial_error}
use Rattle.gix_ref_hash.proofs.ByteLemmas.{same_span}
use Rattle.gix_ref_target.specs.PackedRecords.{Record}
use Rattle.gix_ref_packed_text.specs.RecordGrammar.{Newline, Line, RecordLine, OptionalPeeledLine, PeeledForm, Takes, TakesForm, in_record_line, is_caret}

abbrev is_lf : List ℕ → Bool
is_lf [] = false
is_lf (b ∷ t) = b == 10

pub same_newline : (t r s : List ℕ) → Newline t r → Newline t s → r ≡ s
same_newline t r s (inl a) (inl b) = cc
same_newline t r s (inl a) (inr b) = let e : true ≡ false = ap is_lf (sym a ∙ b) in absurd (cc)
same_newline t r s (inr a) (inl b) = let e : true ≡ false = ap is_lf (sym b ∙ a) in absurd (cc)
same_newline t r s (inr a) (inr b) = cc

pub no_newline : (r : List ℕ) → Newline [] r → ⊥
no_newline r (inl a) = cc
no_newline r (inr a) = cc

pub same_line : (t a r b s : List ℕ) → Line t a r → Line t b s → (a ≡ b) × (r ≡ s)
same_line t a r b s f g =
    let cut = same_span in_record_line t a b f.after g.after f.cut g.cut in
    let rest = subst (λ (u : List ℕ). Newline u r) cut.1 f.newline in
    (cut.0, same_newline g.after r s rest g.newline)

-- lists of one length at the front of a list are the same
pub same_front : (d a e b : List ℕ) → length d ≡ length e → d ++ a ≡ e ++ b → (d ≡ e) × (a ≡ b)
same_front d a e b len whole = (
  sym (take_at d a (length d) refl) ∙ ap (take (length d)) whole ∙ take_at e b (length d) (sym len),
  sym (drop_at d a (length d) refl) ∙ ap (drop (length d)) whole ∙ drop_at e b (length d) (sym len),
)

pub same_record_line : (k : Kind) (t d n r e m s : List ℕ) → RecordLine k t d n r → RecordLine k t e m s → (d ≡ e) × (n ≡ m) × (r ≡ s)
same_record_line k t d n r e m s f g =
    let front = same_front d (32 ∷ f.after) e (32 ∷ g.after) (f.len ∙ sym g.len) (sym f.whole ∙ g.whole) in
    let after : f.after ≡ g.after = cc (front.1) in
    let line = same_line g.after n r m s (subst (λ (u : List ℕ). Line u n r) after f.line) g.line in
    (front.0, line.0, line.1)

pub same_peeled : (k : Kind) (t : List ℕ) (o : Option (List ℕ)) (a : List ℕ) (p : Option (List ℕ)) (b : List ℕ) → OptionalPeeledLine k t o a → OptionalPeeledLine k t p b → (o ≡ p) × (a ≡ b)
same_peeled k t None a None b f g = (refl, sym f.0 ∙ g.0)
same_peeled k t None a (Some y) b f g =
    let stop : true ≡ false = subst (StopsAt is_caret) (sym f.0 ∙ g.whole) f.1 in absurd (cc)
same_peeled k t (Some x) a None b f g =
    let stop : true ≡ false = subst (StopsAt is_caret) (sym g.0 ∙ f.whole) g.1 in absurd (cc)
same_peeled k t (Some x) a (Some y) b f g =
    let whole : x ++ f.after ≡ y ++ g.after = cc (f.whole, g.whole) in
    let front = same_front x f.after y g.after (f.id.len ∙ sym g.id.len) whole in
    (ap (λ z. Some z) front.0, same_newline g.after a b (subst (λ (u : List ℕ). Newline u a) front.1 f.newline) g.newline)

-- a text has one record at its front
pub same_record : (k : Kind) (t : List ℕ) (r : Record) (a : List ℕ) (s : Record) (b : List ℕ) → Takes k t r a → Takes k t s b → (r ≡ s) × (a ≡ b)
same_record k t r a s b f g =
    let shape = same_record_line k t r.target r.name f.after s.target s.name g.after f.line g.line in
    let peeled = same_peeled k g.after r.object a s.object b (subst (λ (u : List ℕ). OptionalPeeledLine k u r.object a) shape.2 f.peeled) g.peeled in
    let all : r ≡ s = λ i. record { name = shape.1 i; target = shape.0 i; object = peeled.0 i } in
    (all, peeled.1)

pub same_peeled_form : (t : List ℕ) (o : Option (List ℕ)) (a : List ℕ) (p : Option (List ℕ)) (b : List ℕ) → PeeledForm t o a → PeeledForm t p b → (o ≡ p) × (a ≡ b)
same_peeled_form t None a None b f g = (refl, sym f.0 ∙ g.0)
same_peeled_form t None a (Some y) b f g =
    let stop : true ≡ false = subst (StopsAt is_caret) (sym f.0 ∙ g.1) f.1 in absurd (cc)
same_peeled_form t (Some x) a None b f g =
    let stop : true ≡ false = subst (StopsAt is_caret) (sym g.0 ∙ f.1) g.1 in absurd (cc)
same_peeled_form t (Some x) a (Some y) b f g =
    let after : f.0 ≡ g.0 = cc (f.1, g.1) in
    let line = same_line g.0 x a y b (subst (λ (u : List ℕ). Line u x a) after f.2) g.2 in
    (ap (λ z. Some z) line.0, line.1)

-- a text has one record's form at its front
pub same_form : (k : Kind) (t : List ℕ) (r : Record) (a : List ℕ) (s : Record) (b : List ℕ) → TakesForm k t r a → TakesForm k t s b → (r ≡ s) × (a ≡ b)
same_form k t r a s b f g =
    let shape = same_record_line k t r.target r.name f.after s.target s.name g.after f.line g.line in
    let peeled = same_peeled_form g.after r.object a s.object b (subst (λ (u : List ℕ). PeeledForm u r.object a) shape.2 f.peeled) g.peeled in
    let all : r ≡ s = λ i. record { name = shape.1 i; target = shape.0 i; object = peeled.0 i } in
    (all, peeled.1)

-- a full name is not empty
pub some_name : (n : List ℕ) → IsFullName n → n ≢ []
unfolding full_error partial_error
some_name n valid empty = let none : full_error [] ≡ None = subst IsFullName empty valid in cc

-- what refuses a part of a record refuses the record
pub no_line : (t line after : List ℕ) → Spans in_record_line t line after → ((rest : List ℕ) → Newline after rest → ⊥) → (a r : List ℕ) → Line t a r → ⊥
no_line t line after cut none a r f =
    let same = same_span in_record_line t a line f.after after f.cut cut in none r (subst (λ (u : List ℕ). Newline u r) same.1 f.newline)

pub no_end : (k : Kind) (t line object after : List ℕ) → t ≡ 94 ∷ line → IsHexOf k object → line ≡ object ++ after → ((rest : List ℕ) → Newline after rest → ⊥) → (o : Option (List ℕ)) (r : List ℕ) → OptionalPeeledLine k t o r → ⊥
no_end k t line object after whole id cut none None r f =
    let stop : true ≡ false = subst (StopsAt is_caret) (sym f.0 ∙ whole) f.1 in cc
no_end k t line object after whole id cut none (Some x) r f =
    let both : x ++ f.after ≡ object ++ after = cc (f.whole, whole, cut) in
    let front = same_front x f.after object after (f.id.len ∙ sym id.len) both in
    none r (subst (λ (u : List ℕ). Newline u r) front.1 f.newline)

pub no_id : (k : Kind) (t line : List ℕ) → t ≡ 94 ∷ line → ((digits rest : List ℕ) → IsHexOf k digits → line ≡ digits ++ rest → ⊥) → (o : Option (List ℕ)) (r : List ℕ) → OptionalPeeledLine k t o r → ⊥
no_id k t line whole none None r f = let stop : true ≡ false = subst (StopsAt is_caret) (sym f.0 ∙ whole) f.1 in cc
no_id k t line whole none (Some x) r f = let both : line ≡ x ++ f.after = cc (f.whole, whole) in none x f.after f.id both

pub no_record : (k : Kind) (t d n after : List ℕ) → RecordLine k t d n after → (IsHexOf k d → IsFullName n → (o : Option (List ℕ)) (rest : List ℕ) → OptionalPeeledLine k after o rest → ⊥) → (r : Record) (rest : List ℕ) → Takes k t r rest → ⊥
no_record k t d n after shape none r rest f =
    let same = same_record_line k t r.target r.name f.after d n after f.line shape in
    none (subst (IsHexOf k) same.0 f.id) (subst IsFullName same.1 f.valid) r.object rest (subst (λ (u : List ℕ). OptionalPeeledLine k u r.object rest) same.2 f.peeled)

pub no_record_line : (k : Kind) (t d after : List ℕ) → t ≡ d ++ 32 ∷ after → length d ≡ 2 * kind_len k → ((name rest : List ℕ) → Line after name rest → ⊥) → (e n r : List ℕ) → RecordLine k t e n r → ⊥
no_record_line k t d after whole len none e n r f =
    let front = same_front e (32 ∷ f.after) d (32 ∷ after) (f.len ∙ sym len) (sym f.whole ∙ whole) in
    let same : f.after ≡ after = cc (front.1) in none n r (subst (λ (u : List ℕ). Line u n r) same f.line)

pub spaced : (t : List ℕ) (i : ℕ) → i < length t → get_or t i 0 ≡ 32 → t ≡ take i t ++ 32 ∷ drop (i + 1) t
spaced t i within here = sym (take-append-drop i t) ∙ ap (λ r. take i t ++ r) (drop_more t i 0 within ∙ ap (λ b. b ∷ drop (i + 1) t) here)
