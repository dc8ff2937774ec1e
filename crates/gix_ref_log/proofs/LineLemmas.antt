-- The parts of a line are where the decoder finds them.
use Rattle.std.proofs.Common.{◌≡◌, ℕ, ◌+◌, ◌-◌, List, [], ◌∷◌, ◌++◌, length, slice_index, inl, inr, refl, sym, ap, ◌∙◌, subst, arith}
use Rattle.std.proofs.lemmas.List.{append_assoc, length-append, get_or-append_right}
use Rattle.gix_ref_hash.specs.Bytes.{NoByte}
use Rattle.gix_ref_log.specs.Signatures.{Who, IsSignature}
use Rattle.gix_ref_hash.proofs.ByteLemmas.{same_cut}
use Rattle.gix_ref_log.proofs.SignatureLemmas.{no_cut, one_who}
use Rattle.gix_ref_log.specs.LogIds.{IdFront}
use Rattle.gix_ref_log.specs.LogLines.{LogLine, IsLine, CutsOrAll}
use Rattle.gix_ref_log.proofs.LineIds.{same_id}

pub same_cut_or_all : (b : ℕ) (text x y v w : List ℕ) → CutsOrAll b text x y → CutsOrAll b text v w → (x ≡ v) × (y ≡ w)
same_cut_or_all b text x y v w (inl f) (inl g) = same_cut b text x y v w f g
same_cut_or_all b text x y v w (inl f) (inr g) = absurd (no_cut b text x y g.0 f.whole)
same_cut_or_all b text x y v w (inr f) (inl g) = absurd (no_cut b text v w f.0 g.whole)
same_cut_or_all b text x y v w (inr f) (inr g) = (f.1 ∙ sym g.1, f.2 ∙ sym g.2)

module _ (text : List ℕ) (l : LogLine) (w : IsLine text l) (p i : List ℕ) (previous : IdFront text p i) where
  pub same_ids : w.ids ≡ i
  same_ids = (same_id text l.previous w.ids p i w.previous previous).1

  module _ (n r : List ℕ) (new : IdFront i n r) where
    pub same_rest : w.rest ≡ r
    same_rest = (same_id i l.new w.rest n r (subst (λ (t : List ℕ). IdFront t l.new w.rest) same_ids w.new) new).1

    pub same_signature : (line next head message : List ℕ) → CutsOrAll 10 r line next → CutsOrAll 9 line head message → w.signature ≡ head
    same_signature line next head message cut tab =
        let one = (same_cut_or_all 10 r w.line w.next_lines line next (subst (λ (t : List ℕ). CutsOrAll 10 t w.line w.next_lines) same_rest w.cut) cut).0 in
        (same_cut_or_all 9 line w.signature l.message head message (subst (λ (t : List ℕ). CutsOrAll 9 t w.signature l.message) one w.message) tab).0

-- a text is one line
pub one_line : (text : List ℕ) (a b : LogLine) → IsLine text a → IsLine text b → a ≡ b
one_line text a b f g =
    let first = same_id text a.previous f.ids b.previous g.ids f.previous g.previous in
    let second = same_id g.ids a.new f.rest b.new g.rest (subst (λ (t : List ℕ). IdFront t a.new f.rest) first.1 f.new) g.new in
    let line = (same_cut_or_all 10 g.rest f.line f.next_lines g.line g.next_lines (subst (λ (t : List ℕ). CutsOrAll 10 t f.line f.next_lines) second.1 f.cut) g.cut).0 in
    let both = same_cut_or_all 9 g.line f.signature a.message g.signature b.message (subst (λ (t : List ℕ). CutsOrAll 9 t f.signature a.message) line f.message) g.message in
    let who = one_who g.signature a.who b.who (subst (λ (t : List ℕ). IsSignature t a.who) both.0 f.who) g.who in
    ap (λ (x : List ℕ). let l : LogLine = record { previous = x; new = a.new; who = a.who; message = a.message } in l) first.0
    ∙ ap (λ (x : List ℕ). let l : LogLine = record { previous = b.previous; new = x; who = a.who; message = a.message } in l) second.0
    ∙ ap (λ (x : Who). let l : LogLine = record { previous = b.previous; new = b.new; who = x; message = a.message } in l) who
    ∙ ap (λ (x : List ℕ). let l : LogLine = record { previous = b.previous; new = b.new; who = b.who; message = x } in l) both.1

-- what follows the ids has no byte that the text lacks
none_behind : (b : ℕ) (x y : List ℕ) → NoByte b (x ++ y) → NoByte b y
none_behind b x y none k l =
    let long = length-append x y in
    λ is. none (length x + k) (omega arith) (get_or-append_right x y (length x) (length x + k) 0 refl (omega arith) ∙ ap (λ (j : ℕ). slice_index y j) (same (length x) k) ∙ is)
  where
    same : (n k : ℕ) → n + k - n ≡ k
    same n k = omega arith

pub none_in_rest : (b : ℕ) (text p i n r : List ℕ) → NoByte b text → IdFront text p i → IdFront i n r → NoByte b r
none_in_rest b text p i n r none f g =
    none_behind b (n ++ 32 ∷ []) r (subst (λ (t : List ℕ). NoByte b t) (g.1 ∙ sym (append_assoc n (32 ∷ []) r))
    (none_behind b (p ++ 32 ∷ []) i (subst (λ (t : List ℕ). NoByte b t) (f.1 ∙ sym (append_assoc p (32 ∷ []) i)) none)))
