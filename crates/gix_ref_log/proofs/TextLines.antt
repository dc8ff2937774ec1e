-- A text is a line where its first line is: the ids have no LF.
use Rattle.std.proofs.Common.{◌≡◌, ℕ, List, [], ◌∷◌, ◌++◌, inl, inr, refl, sym, ◌∙◌, ap, subst, arith}
use Rattle.std.proofs.lemmas.List.{append_assoc}
use Rattle.gix_ref_hash.specs.Bytes.{NoByte, Cuts}
use Rattle.gix_ref_hash.proofs.ByteLemmas.{same_cut}
use Rattle.gix_ref_hash.proofs.IdDigits.{no_byte_in_id}
use Rattle.gix_ref_log.specs.LogIds.{IdFront}
use Rattle.gix_ref_log.specs.LogLines.{LogLine, IsLine, CutsOrAll}
use Rattle.gix_ref_log.proofs.LineLemmas.{none_in_rest, same_cut_or_all}
use Rattle.gix_ref_log.proofs.SignatureLemmas.{no_cut}
use Rattle.gix_ref_log.proofs.SignaturesAgain.{none_append, none_cons}

-- an id in front stays in front of a longer text
longer : (text id rest more : List ℕ) → IdFront text id rest → IdFront (text ++ more) id (rest ++ more)
longer text id rest more h = (h.0, ap (λ (t : List ℕ). t ++ more) h.1 ∙ append_assoc id (32 ∷ rest) more)

module _ (text line rest : List ℕ) (l : LogLine) where
  -- a line is one also with lines after it
  with_more : Cuts 10 text line rest → IsLine line l → IsLine text l
  with_more cut w =
      let none : NoByte 10 w.rest = none_in_rest 10 line l.previous w.ids l.new w.rest cut.none w.previous w.new in
      let own : CutsOrAll 10 w.rest w.rest [] = inr (none, refl, refl) in
      let same = same_cut_or_all 10 w.rest w.line w.next_lines w.rest [] w.cut own in
      subst (λ (t : List ℕ). IsLine t l) (sym cut.whole) (record {
        ids = w.ids ++ 10 ∷ rest;
        rest = w.rest ++ 10 ∷ rest;
        line = w.rest;
        next_lines = rest;
        signature = w.signature;
        previous = longer line l.previous w.ids (10 ∷ rest) w.previous;
        new = longer w.ids l.new w.rest (10 ∷ rest) w.new;
        cut = inl (record { whole = refl; none = none });
        message = subst (λ (t : List ℕ). CutsOrAll 9 t w.signature l.message) same.0 w.message;
        who = w.who;
      })

  pub first_is_line : CutsOrAll 10 text line rest → IsLine line l → IsLine text l
  first_is_line (inl cut) w = with_more cut w
  first_is_line (inr all) w = subst (λ (t : List ℕ). IsLine t l) all.1 w

-- the parts of a line, up to its end
abbrev up_to : List ℕ → List ℕ → List ℕ → List ℕ
up_to p n line = p ++ 32 ∷ (n ++ 32 ∷ line)

up_to-append : (p n line more : List ℕ) → p ++ 32 ∷ (n ++ 32 ∷ (line ++ more)) ≡ up_to p n line ++ more
up_to-append p n line more = sym (append_assoc p (32 ∷ (n ++ 32 ∷ line)) more ∙ ap (λ (r : List ℕ). p ++ 32 ∷ r) (append_assoc n (32 ∷ line) more))

whole_text : (text : List ℕ) (l : LogLine) (w : IsLine text l) → text ≡ up_to l.previous l.new w.rest
whole_text text l w = w.previous.1 ∙ ap (λ (r : List ℕ). l.previous ++ 32 ∷ r) w.new.1

-- no LF is in the parts of a line
no_feed : (text : List ℕ) (l : LogLine) (w : IsLine text l) (line : List ℕ) → NoByte 10 line → NoByte 10 (up_to l.previous l.new line)
no_feed text l w line none =
    none_append 10 l.previous (32 ∷ (l.new ++ 32 ∷ line)) (no_byte_in_id 10 l.previous refl w.previous.0)
    (none_cons 10 32 (l.new ++ 32 ∷ line) (omega arith)
    (none_append 10 l.new (32 ∷ line) (no_byte_in_id 10 l.new refl w.new.0) (none_cons 10 32 line (omega arith) none)))

-- the same line without what follows it
alone : (text : List ℕ) (l : LogLine) (w : IsLine text l) → NoByte 10 w.line → IsLine (up_to l.previous l.new w.line) l
alone text l w none = record {
  ids = l.new ++ 32 ∷ w.line;
  rest = w.line;
  line = w.line;
  next_lines = [];
  signature = w.signature;
  previous = (w.previous.0, refl);
  new = (w.new.0, refl);
  cut = inr (none, refl, refl);
  message = w.message;
  who = w.who;
}

line_alone : (text line rest : List ℕ) (l : LogLine) (w : IsLine text l) → Cuts 10 text line rest → CutsOrAll 10 w.rest w.line w.next_lines → IsLine line l
line_alone text line rest l w cut (inl c) =
    let whole : text ≡ up_to l.previous l.new w.line ++ 10 ∷ w.next_lines =
    whole_text text l w ∙ ap (λ (r : List ℕ). up_to l.previous l.new r) c.whole ∙ up_to-append l.previous l.new w.line (10 ∷ w.next_lines) in
    let also : Cuts 10 text (up_to l.previous l.new w.line) w.next_lines = record { whole = whole; none = no_feed text l w w.line c.none } in
    let same = same_cut 10 text (up_to l.previous l.new w.line) w.next_lines line rest also cut in
    subst (λ (t : List ℕ). IsLine t l) same.0 (alone text l w c.none)
line_alone text line rest l w cut (inr all) =
    let none : NoByte 10 text = subst (λ (t : List ℕ). NoByte 10 t) (sym (whole_text text l w)) (no_feed text l w w.rest all.0) in
    absurd (no_cut 10 text line rest none cut.whole)

pub line_is_first : (text line rest : List ℕ) (l : LogLine) → CutsOrAll 10 text line rest → IsLine text l → IsLine line l
line_is_first text line rest l (inl cut) w = line_alone text line rest l w cut w.cut
line_is_first text line rest l (inr all) w = subst (λ (t : List ℕ). IsLine t l) (sym all.1) w
