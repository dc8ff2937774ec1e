-- Words in quotes.
use Rattle.std.proofs.Common.{◌≡◌, ◌≢◌, inl, inr, ℕ, zero, suc, ◌+◌, ◌<◌, ◌≤◌, length, get_or, take, arith, List, [], ◌∷◌, ◌++◌, map, Bor, Vec, Some, None, refl, sym, ◌∙◌, ap, subst, append_assoc, append-nil}
use Rattle.std.proofs.lemmas.Bool.Decides.{nat_tests}
use Rattle.std.proofs.lemmas.List.{append_cancel_right}
use Rattle.std.specs.declared.alloc.Global.{Global}
use Rattle.gix_ref_session.specs.Commands.{texts}
use Rattle.gix_ref_session.specs.Quotes.{ArePlain, IsEscape, IsOctal, IsPlain, Unquotes, escaped, plain_texts}
use Rattle.gix_ref_session.specs.Quotes.Unquotes.{Ends, Goes, Escapes}

pub no_length : (xs : List ℕ) → length xs ≡ 0 → xs ≡ []
no_length [] none = refl
no_length (x ∷ xs) none = absurd (omega (arith, none))

-- What is between quotes, from its front on.
module _ (quoted rest before : List ℕ) (so_far : (plain : List ℕ) → Unquotes rest plain → Unquotes quoted (before ++ plain)) where
  goes_on : (byte : ℕ) (now plain : List ℕ) → now ≡ before ++ byte ∷ [] → Unquotes rest (byte ∷ plain) → Unquotes quoted (now ++ plain)
  goes_on byte now plain is more = subst (λ (w : List ℕ). Unquotes quoted w) (sym (ap (λ (w : List ℕ). w ++ plain) is ∙ append_assoc before (byte ∷ []) plain)) (so_far (byte ∷ plain) more)

  pub escape_more : (first byte : ℕ) (text after now plain : List ℕ) → rest ≡ first ∷ text → first ≡ 92 → IsEscape text byte after → now ≡ before ++ byte ∷ [] → Unquotes after plain → Unquotes quoted (now ++ plain)
  escape_more first byte text after now plain are is escape pushed more =
      goes_on byte now plain pushed (subst (λ (w : List ℕ). Unquotes w (byte ∷ plain)) (sym (are ∙ ap (λ (b : ℕ). b ∷ text) is)) (Escapes text byte after plain escape more))

  pub byte_more : (byte : ℕ) (after now plain : List ℕ) → rest ≡ byte ∷ after → byte ≢ 34 → byte ≢ 92 → now ≡ before ++ byte ∷ [] → Unquotes after plain → Unquotes quoted (now ++ plain)
  byte_more byte after now plain are no_quote no_slash pushed more =
      goes_on byte now plain pushed (subst (λ (w : List ℕ). Unquotes w (byte ∷ plain)) (sym are) (Goes byte after plain no_quote no_slash more))

  pub no_more : rest ≡ [] → Unquotes quoted before
  no_more none = subst (λ (w : List ℕ). Unquotes quoted w) (append-nil before) (so_far [] (subst (λ (w : List ℕ). Unquotes w []) (sym none) Ends))

-- What is between quotes, at its first byte.

same_byte : (a b : ℕ) (r s : List ℕ) → a ∷ r ≡ b ∷ s → a ≡ b
same_byte a b r s e = cc

same_rest : (a b : ℕ) (r s : List ℕ) → a ∷ r ≡ b ∷ s → r ≡ s
same_rest a b r s e = cc

read_none : (quoted p : List ℕ) → quoted ≡ [] → Unquotes quoted p → p ≡ []
read_none quoted p none Ends = refl
read_none quoted p none (Goes b r s no_quote no_slash more) = absurd (cc)
read_none quoted p none (Escapes text b r s is more) = absurd (cc)

pub read_quote : (byte : ℕ) (after quoted p : List ℕ) → quoted ≡ byte ∷ after → byte ≡ 34 → Unquotes quoted p → ⊥
read_quote byte after quoted p are is Ends = cc
read_quote byte after quoted p are is (Goes b r s no_quote no_slash more) = no_quote (same_byte b byte r after are ∙ is)
read_quote byte after quoted p are is (Escapes text b r s escape more) = let e : 92 ≡ 34 = same_byte 92 byte text after are ∙ is in omega (arith, e)

-- a byte that is no backslash is itself
pub read_byte : (byte : ℕ) (after quoted p : List ℕ) → quoted ≡ byte ∷ after → byte ≢ 92 → Unquotes quoted p → (q : List ℕ) × (p ≡ byte ∷ q) × Unquotes after q
read_byte byte after quoted p are never Ends = absurd (cc)
read_byte byte after quoted p are never (Goes b r s no_quote no_slash more) =
    (s, ap (λ (c : ℕ). c ∷ s) (same_byte b byte r after are), subst (λ (w : List ℕ). Unquotes w s) (same_rest b byte r after are) more)
read_byte byte after quoted p are never (Escapes text b r s escape more) = absurd (never (sym (same_byte 92 byte text after are)))

-- a backslash begins an escape
pub read_escape : (byte : ℕ) (text quoted p : List ℕ) → quoted ≡ byte ∷ text → byte ≡ 92 → Unquotes quoted p → (b : ℕ) × (rest : List ℕ) × (q : List ℕ) × IsEscape text b rest × (p ≡ b ∷ q) × Unquotes rest q
read_escape byte text quoted p are is Ends = absurd (cc)
read_escape byte text quoted p are is (Goes b r s no_quote no_slash more) = absurd (no_slash (same_byte b byte r text are ∙ is))
read_escape byte text quoted p are is (Escapes t b r s escape more) =
    (b, r, s, subst (λ (w : List ℕ). IsEscape w b r) (same_rest 92 byte t text are) escape, refl, more)

-- What words are for, they are for alone.

no_letter : (digit byte : ℕ) → 48 ≤ digit → digit < 52 → escaped digit ≡ Some byte → ⊥
no_letter digit byte low high is = grind (arith, nat_tests)

-- an escape is for one byte, and ends in one place
escape_once : (text : List ℕ) (a b : ℕ) (r s : List ℕ) → IsEscape text a r → IsEscape text b s → (b ≡ a) × (s ≡ r)
escape_once text a b r s (inl (l, are, is)) (inl (m, be, so)) = let same : m ≡ l = same_byte m l s r (sym be ∙ are) in (let here : escaped m ≡ Some a = ap escaped same ∙ is in cc, same_rest m l s r (sym be ∙ are))
escape_once text a b r s (inl (l, are, is)) (inr (h, m, w, be, o)) =
    let same : l ≡ h = same_byte l h r (m ∷ (w ∷ s)) (sym are ∙ be) in
    absurd (no_letter h a o.high_is.0 o.high_is.1 (ap escaped (sym same) ∙ is))
escape_once text a b r s (inr (h, m, w, are, o)) (inl (l, be, so)) =
    let same : l ≡ h = same_byte l h s (m ∷ (w ∷ r)) (sym be ∙ are) in
    absurd (no_letter h b o.high_is.0 o.high_is.1 (ap escaped (sym same) ∙ so))
escape_once text a b r s (inr (h, m, w, are, o)) (inr (i, n, x, be, u)) =
    let same : h ∷ (m ∷ (w ∷ r)) ≡ i ∷ (n ∷ (x ∷ s)) = sym are ∙ be in
    let one = o.byte_is in
    let two = u.byte_is in
    (cc, cc)

pub escape_rest : (text : List ℕ) (a b : ℕ) (r s p : List ℕ) → IsEscape text a r → IsEscape text b s → Unquotes s p → Unquotes r p
escape_rest text a b r s p one two reads = subst (λ (w : List ℕ). Unquotes w p) (escape_once text a b r s one two).1 reads

unquoted_once : (quoted one two : List ℕ) → Unquotes quoted one → Unquotes quoted two → two ≡ one
unquoted_once quoted one two Ends b = read_none [] two refl b
unquoted_once quoted one two (Goes byte r s no_quote no_slash more) b =
    let got = read_byte byte r (byte ∷ r) two refl no_slash b in
    got.1 ∙ ap (λ (w : List ℕ). byte ∷ w) (unquoted_once r s got.0 more got.2)
unquoted_once quoted one two (Escapes text byte r s escape more) b =
    let got = read_escape 92 text (92 ∷ text) two refl refl b in
    let same = escape_once text byte got.0 r got.1 escape got.3 in
    let rest = unquoted_once r s got.2 more (escape_rest text byte got.0 r got.1 got.2 escape got.3 got.5) in
    got.4 ∙ (ap (λ (c : ℕ). c ∷ got.2) same.0 ∙ ap (λ (w : List ℕ). byte ∷ w) rest)

-- a word is for one text at most
pub word_once : (word one two : List ℕ) → IsPlain word one → IsPlain word two → two ≡ one
word_once [] one two a b = b ∙ sym a
word_once (byte ∷ word) one two (inl (never, a)) (inl (n, b)) = b ∙ sym a
word_once (byte ∷ word) one two (inl (never, a)) (inr (is, b)) = absurd (never is)
word_once (byte ∷ word) one two (inr (is, a)) (inl (never, b)) = absurd (never is)
word_once (byte ∷ word) one two (inr (is, (quoted, are, a))) (inr (so, (q, be, b))) =
    unquoted_once quoted one two a (subst (λ (w : List ℕ). Unquotes w two) (append_cancel_right q quoted (34 ∷ []) (sym be ∙ are)) b)

-- words are for one list of texts at most
pub plain_once : (words one two : List (List ℕ)) → ArePlain words one → ArePlain words two → two ≡ one
plain_once [] [] [] a b = refl
plain_once [] [] (p ∷ two) a b = absurd b
plain_once [] (p ∷ one) two a b = absurd a
plain_once (w ∷ words) [] two a b = absurd a
plain_once (w ∷ words) (p ∷ one) [] a b = absurd b
plain_once (w ∷ words) (p ∷ one) (q ∷ two) (a, are) (b, be) =
    let first = word_once w p q a b in
    let rest = plain_once words one two are be in cc

-- Words that are badly quoted.

-- no letter and no digits
pub no_escape : (text : List ℕ) (letter : ℕ) (after : List ℕ) → text ≡ letter ∷ after → escaped letter ≡ None → ((byte : ℕ) → IsOctal (get_or text 0 0) (get_or text 1 0) (get_or text 2 0) byte → ⊥) → (byte : ℕ) (rest : List ℕ) → IsEscape text byte rest → ⊥
no_escape text letter after are none never byte rest (inl (l, be, is)) = let e : Some byte ≡ None = sym is ∙ (ap escaped (same_byte l letter rest after (sym be ∙ are)) ∙ none) in cc
no_escape text letter after are none never byte rest (inr (h, m, w, be, o)) = never byte (subst (λ (t : List ℕ). IsOctal (get_or t 0 0) (get_or t 1 0) (get_or t 2 0) byte) (sym be) o)

-- one word that is for nothing
pub no_words : (words : List (Bor (List ℕ))) (k : ℕ) (d : Bor (List ℕ)) → k < length words → ((p : List ℕ) → IsPlain (get_or words k d).now p → ⊥) → (plain : List (List ℕ)) → ArePlain (texts words) plain → ⊥
no_words [] k d lt never plain are = absurd (omega (arith, lt))
no_words (w ∷ words) k d lt never [] are = are
no_words (w ∷ words) zero d lt never (p ∷ plain) (is, are) = never p is
no_words (w ∷ words) (suc k) d lt never (p ∷ plain) (is, are) = no_words words k d (omega (arith, lt)) never plain are

-- Words, one by one.

next_part : {C D : Type 0} (f : C → D) (xs : List C) (k : ℕ) (d : C) → k < length xs → map f (take (k + 1) xs) ≡ map f (take k xs) ++ f (get_or xs k d) ∷ []
next_part f [] k d lt = absurd (omega (arith, lt))
next_part f (x ∷ xs) zero d lt = refl
next_part {C = C} {D = D} f (x ∷ xs) (suc k) d lt =
    let more : suc k + 1 ≡ suc (k + 1) = omega arith in
    ap (λ (m : ℕ). map f (take m (x ∷ xs))) more ∙ ap (λ (ys : List D). f x ∷ ys) (next_part f xs k d (omega (arith, lt)))

mapped_one : {C D : Type 0} (f : C → D) (xs : List C) (x : C) → map f (xs ++ x ∷ []) ≡ map f xs ++ f x ∷ []
mapped_one f [] x = refl
mapped_one {D = D} f (y ∷ xs) x = ap (λ (ys : List D). f y ∷ ys) (mapped_one f xs x)

plain_more : (words plain : List (List ℕ)) (w p : List ℕ) → ArePlain words plain → IsPlain w p → ArePlain (words ++ w ∷ []) (plain ++ p ∷ [])
plain_more [] [] w p are is = (is, tt)
plain_more [] (q ∷ plain) w p are is = absurd are
plain_more (v ∷ words) [] w p are is = absurd are
plain_more (v ∷ words) (q ∷ plain) w p (first, are) is = (first, plain_more words plain w p are is)

pub word_more : (words : List (Bor (List ℕ))) (k : ℕ) (d : Bor (List ℕ)) (plain now : List (Vec ℕ Global)) (word : Vec ℕ Global) → k < length words → ArePlain (texts (take k words)) (plain_texts plain) → IsPlain (get_or words k d).now word.items → now ≡ plain ++ word ∷ [] →
    ArePlain (texts (take (k + 1) words)) (plain_texts now)
word_more words k d plain now word lt are is pushed =
    subst (λ (ws : List (List ℕ)). ArePlain ws (plain_texts now)) (sym (next_part (λ (w : Bor (List ℕ)). w.now) words k d lt))
    (subst (λ (ps : List (List ℕ)). ArePlain (texts (take k words) ++ (get_or words k d).now ∷ []) ps) (sym (ap plain_texts pushed ∙ mapped_one (λ (t : Vec ℕ Global). t.items) plain word))
    (plain_more (texts (take k words)) (plain_texts plain) (get_or words k d).now word.items are is))

pub unquoted_more : (words : List (Bor (List ℕ))) (k : ℕ) (d : Bor (List ℕ)) → k < length words → ArePlain (texts (take k words)) (texts (take k words)) → IsPlain (get_or words k d).now (get_or words k d).now →
    ArePlain (texts (take (k + 1) words)) (texts (take (k + 1) words))
unquoted_more words k d lt are is =
    let w = (get_or words k d).now in
    let ws = texts (take k words) in
    subst (λ (vs : List (List ℕ)). ArePlain vs vs) (sym (next_part (λ (w : Bor (List ℕ)). w.now) words k d lt)) (plain_more ws ws w w are is)
