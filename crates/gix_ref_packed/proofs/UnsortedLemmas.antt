-- The search for the first record of a name, one record after the other.
use Rattle.std.proofs.Common.{◌≡◌, ◌≢◌, ℕ, ◌+◌, ◌<◌, Bool, true, false, cond, nat_eq, List, [], ◌∷◌, ◌++◌, length, refl, sym, ◌∙◌, ap, subst, arith, Option, Some, None, length-append}
use Rattle.std.specs.Cmp.Lexicographic.{pointwise, bytes_decides}
use Rattle.gix_ref_hash.specs.declared.hash.Kind.{Kind}
use Rattle.gix_ref_hash.specs.Bytes.{StopsAt}
use Rattle.gix_ref_target.specs.PackedRecords.{Record, record_named}
use Rattle.gix_ref_packed_text.specs.RecordGrammar.{Line, RecordLine, PeeledForm, Takes, Records, is_caret}
use Rattle.gix_ref_packed_text.proofs.OneReading.{same_line, same_record_line}
use Rattle.gix_ref_packed_text.proofs.RecordBytes.{line_front}
use Rattle.gix_ref_packed_text.proofs.RecordPlaces.{form_of}

-- what follows a line with `^`
pub behind_peeled : (t line a r : List ℕ) (o : Option (List ℕ)) (rest : List ℕ) → t ≡ 94 ∷ line → Line line a r → PeeledForm t o rest → r ≡ rest
behind_peeled t line a r None rest whole f p = let bad : true ≡ false = subst (StopsAt is_caret) (sym p.0 ∙ whole) p.1 in absurd (cc)
behind_peeled t line a r (Some object) rest whole f p =
    let same : p.0 ≡ line = cc (p.1, whole) in
    (same_line line a r object rest f (subst (λ (u : List ℕ). Line u object rest) same p.2)).1

-- a line with `^` ends
pub no_peeled : (t line : List ℕ) (o : Option (List ℕ)) (rest : List ℕ) → t ≡ 94 ∷ line → ((a r : List ℕ) → Line line a r → ⊥) → PeeledForm t o rest → ⊥
no_peeled t line None rest whole none p = let bad : true ≡ false = subst (StopsAt is_caret) (sym p.0 ∙ whole) p.1 in cc
no_peeled t line (Some object) rest whole none p =
    let same : p.0 ≡ line = cc (p.1, whole) in none object rest (subst (λ (u : List ℕ). Line u object rest) same p.2)

-- the line of a record is not empty
pub line_shorter : (k : Kind) (t d n after : List ℕ) → RecordLine k t d n after → length after < length t
line_shorter k t d n after f =
    let l = line_front f.after n after f.line in
    let len = length-append l.0 after in
    let behind : length f.after ≡ length (l.0 ++ after) = ap length l.1 in
    let whole : length t ≡ length d + length (32 ∷ f.after) = ap length f.whole ∙ length-append d (32 ∷ f.after) in omega arith

-- the records that are left have the first of the name, if it was not met
abbrev pub Left : Kind → List ℕ → List ℕ → List ℕ → Type 0
Left k t rest n = (rs : List Record) → Records k t rs → (more : List Record) × Records k rest more × (record_named n rs ≡ record_named n more)

-- where a line is a record's, the records that are left begin with it
first_left : (k : Kind) (rest d m after : List ℕ) (more : List Record) → RecordLine k rest d m after → Records k rest more → (r : Record) × (later : List Record) × (more ≡ r ∷ later) × (r.name ≡ m) × (left : List ℕ) × Takes k rest r left × Records k left later × PeeledForm after r.object left
first_left k rest d m after [] line h = let len = line_shorter k rest d m after line in let none : length rest ≡ 0 = ap length h in absurd (omega arith)
first_left k rest d m after (r ∷ later) line h =
    let same = same_record_line k rest r.target r.name h.1.after d m after h.1.line line in
    let form = form_of k rest r h.0 h.1 in
    let shape = same_record_line k rest r.target r.name form.after d m after form.line line in
    (r, later, refl, same.1, h.0, h.1, h.2, subst (λ (u : List ℕ). PeeledForm u r.object h.0) shape.2 form.peeled)

-- a record of another name is passed over
another : (r : Record) (later : List Record) (m n : List ℕ) → r.name ≡ m → m ≢ n → record_named n (r ∷ later) ≡ record_named n later
another r later m n is other = by (pointwise nat_eq r.name n) refl
  where
    by : (b : Bool) → pointwise nat_eq r.name n ≡ b → cond b (Some r) (record_named n later) ≡ record_named n later
    by true e = absurd (other (sym is ∙ (bytes_decides r.name n).0 e))
    by false e = refl

pub pass : (k : Kind) (t rest d m after next n : List ℕ) → Left k t rest n → RecordLine k rest d m after → m ≢ n → ((o : Option (List ℕ)) (left : List ℕ) → PeeledForm after o left → next ≡ left) → Left k t next n
pass k t rest d m after next n left line other peeled rs h =
    let was = left rs h in
    let first = first_left k rest d m after was.0 line was.1 in
    let is : next ≡ first.4 = peeled first.0.object first.4 first.7 in
    (first.1, subst (λ (u : List ℕ). Records k u first.1) (sym is) first.6, was.2 ∙ ap (record_named n) first.2 ∙ another first.0 first.1 m n first.3 other)

-- a record of the name is the first one
pub first_is : (k : Kind) (t rest d m after n : List ℕ) → Left k t rest n → RecordLine k rest d m after → m ≡ n → (rs : List Record) → Records k t rs → (r : Record) × (left : List ℕ) × Takes k rest r left × (record_named n rs ≡ Some r)
first_is k t rest d m after n left line same rs h =
    let was = left rs h in
    let first = first_left k rest d m after was.0 line was.1 in
    (first.0, first.4, first.5, was.2 ∙ ap (record_named n) first.2 ∙ ap (λ b. cond b (Some first.0) (record_named n first.1)) ((bytes_decides first.0.name n).1 (first.3 ∙ same)))

-- where no line of a record is left, none has the name
pub none_left : (k : Kind) (t rest n : List ℕ) → Left k t rest n → ((d m after : List ℕ) → RecordLine k rest d m after → ⊥) → (rs : List Record) → Records k t rs → record_named n rs ≡ None
none_left k t rest n left none rs h = let was = left rs h in was.2 ∙ by was.0 was.1
  where
    by : (more : List Record) → Records k rest more → record_named n more ≡ None
    by [] g = refl
    by (r ∷ more) g = absurd (none r.target r.name g.1.after g.1.line)
