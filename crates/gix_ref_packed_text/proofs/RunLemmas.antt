-- Runs without their CRs.
use Rattle.std.proofs.Common.{◌≡◌, ◌==◌, ℕ, ◌+◌, inl, inr, ⊎_elim, Bool, true, false, not, cond, List, [], ◌∷◌, ◌++◌, length, take, suc, refl, sym, ◌∙◌, ap, subst, arith, ne_eqb, append_assoc, Option, Some, None}
use Rattle.std.specs.List.{flat_map, AllPass}
use Rattle.std.proofs.lemmas.Bool.{cases_eq}
use Rattle.std.proofs.lemmas.List.{append_cancel_right}
use Rattle.std.proofs.lemmas.List.Elements.{filter-append, All-head, All-tail}
use Rattle.hex.specs.Hex.{is_hex_digit}
use Rattle.gix_ref_hash.specs.declared.hash.Kind.{Kind}
use Rattle.gix_ref_hash.specs.Ids.{IsHexOf}
use Rattle.gix_ref_hash.specs.Bytes.{Cuts, NoByte}
use Rattle.gix_ref_target.specs.PackedRecords.{Record, object_line, record_text}
use Rattle.gix_ref_packed_text.specs.RecordGrammar.{Newline, OptionalPeeledLine, Takes, in_record_line}
use Rattle.gix_ref_packed_text.specs.OpenedText.{Fronts}
use Rattle.gix_ref_packed_text.proofs.RecordBytes.{lines_taken, front_is}
use Rattle.gix_ref_packed_text.specs.internal.Runs.{is_no_cr, without_cr}

-- nothing is left out where no CR is
pub none_left_out : (run : List ℕ) → NoByte 13 run → without_cr run ≡ run
none_left_out [] none = refl
none_left_out (b ∷ run) none =
    let here : (b == 13) ≡ false = ne_eqb b 13 (none 0 (omega arith)) in
    ap (λ t. cond (not t) (b ∷ without_cr run) (without_cr run)) here ∙ ap (λ r. b ∷ r) (none_left_out run (λ k lt. none (suc k) (omega arith)))

-- a run up to its first CR, and what follows
pub cut_run : (text front after whole added run : List ℕ) → Cuts 13 run front after → added ≡ text ++ front → text ++ without_cr run ≡ whole → added ++ without_cr after ≡ whole
cut_run text front after whole added run cuts more was =
    ap (λ t. t ++ without_cr after) more
    ∙ (append_assoc text front (without_cr after)
    ∙ (ap (λ r. text ++ r) (sym (ap without_cr cuts.whole ∙ (filter-append is_no_cr front (13 ∷ after) ∙ ap (λ f. f ++ without_cr after) (none_left_out front cuts.none)))) ∙ was))

-- ---- the lines of records

kept : (p : ℕ → Bool) → ((b : ℕ) → p b ≡ true → is_no_cr b ≡ true) → (run : List ℕ) → AllPass p run → without_cr run ≡ run
kept p no_cr [] all = refl
kept p no_cr (b ∷ run) all =
    ap (λ t. cond t (b ∷ without_cr run) (without_cr run)) (no_cr b (All-head (λ x. p x ≡ true) b run all))
    ∙ ap (λ r. b ∷ r) (kept p no_cr run (All-tail (λ x. p x ≡ true) b run all))

no_cr_passes : (p : ℕ → Bool) → p 13 ≡ false → (b : ℕ) → p b ≡ true → is_no_cr b ≡ true
no_cr_passes p fails b passes = ⊎_elim
    (λ (cr : b ≡ 13). let bad : p 13 ≡ true = subst (λ (x : ℕ). p x ≡ true) cr passes in absurd (cc))
    (λ (other : b ≡ 13 → ⊥). ap not (ne_eqb b 13 other))
    (cases_eq b 13)

digits_kept : (k : Kind) (digits : List ℕ) → IsHexOf k digits → without_cr digits ≡ digits
digits_kept k digits h = kept is_hex_digit (no_cr_passes is_hex_digit refl) digits h.digits

line_kept : (name : List ℕ) → AllPass in_record_line name → without_cr name ≡ name
line_kept name all = kept in_record_line (no_cr_passes in_record_line refl) name all

newline_kept : (text rest : List ℕ) → Newline text rest → without_cr text ≡ 10 ∷ without_cr rest
newline_kept text rest (inl lf) = ap without_cr lf
newline_kept text rest (inr crlf) = ap without_cr crlf

part_kept : (part text : List ℕ) → without_cr part ≡ part → without_cr (part ++ text) ≡ part ++ without_cr text
part_kept part text is = filter-append is_no_cr part text ∙ ap (λ p. p ++ without_cr text) is

peeled_kept : (k : Kind) (text : List ℕ) (o : Option (List ℕ)) (rest : List ℕ) → OptionalPeeledLine k text o rest → without_cr text ≡ object_line o ++ without_cr rest
peeled_kept k text None rest f = ap without_cr f.0
peeled_kept k text (Some object) rest f =
    ap without_cr f.whole
    ∙ (ap (λ t. 94 ∷ t) (part_kept object f.after (digits_kept k object f.id) ∙ ap (λ t. object ++ t) (newline_kept f.after rest f.newline))
    ∙ sym (regroup object (without_cr rest)))
  where
    regroup : (a b : List ℕ) → (94 ∷ (a ++ 10 ∷ [])) ++ b ≡ 94 ∷ (a ++ 10 ∷ b)
    regroup a b = simp append_assoc

-- a record without the CRs of its lines is written
record_kept : (k : Kind) (text : List ℕ) (r : Record) (rest : List ℕ) → Takes k text r rest → without_cr text ≡ record_text r ++ without_cr rest
record_kept k text r rest f =
    ap without_cr f.line.whole
    ∙ (part_kept r.target (32 ∷ f.line.after) (digits_kept k r.target f.id)
    ∙ (ap (λ t. r.target ++ 32 ∷ t) name_part
    ∙ sym (regroup r.target r.name (object_line r.object) (without_cr rest))))
  where
    name_part : without_cr f.line.after ≡ r.name ++ 10 ∷ (object_line r.object ++ without_cr rest)
    name_part =
        ap without_cr f.line.line.cut.whole
        ∙ (part_kept r.name f.line.line.after (line_kept r.name f.line.line.cut.front_passes)
        ∙ ap (λ t. r.name ++ t) (newline_kept f.line.line.after f.after f.line.line.newline ∙ ap (λ t. 10 ∷ t) (peeled_kept k f.after r.object rest f.peeled)))

    regroup : (a b c d : List ℕ) → (a ++ 32 ∷ (b ++ 10 ∷ c)) ++ d ≡ a ++ 32 ∷ (b ++ 10 ∷ (c ++ d))
    regroup a b c d = simp append_assoc

fronts_kept : (k : Kind) (text : List ℕ) (rs : List Record) (rest : List ℕ) → Fronts k text rs rest → without_cr text ≡ flat_map record_text rs ++ without_cr rest
fronts_kept k text [] rest f = ap without_cr f
fronts_kept k text (r ∷ rs) rest f =
    record_kept k text r f.0 f.1
    ∙ (ap (λ t. record_text r ++ t) (fronts_kept k f.0 rs rest f.2) ∙ sym (append_assoc (record_text r) (flat_map record_text rs) (without_cr rest)))

fronts_cut : (k : Kind) (text : List ℕ) (rs : List Record) (rest : List ℕ) → Fronts k text rs rest → (front : List ℕ) × (text ≡ front ++ rest)
fronts_cut k text [] rest f = ([], f)
fronts_cut k text (r ∷ rs) rest f =
    let l = lines_taken k text r f.0 f.1 in
    let more = fronts_cut k f.0 rs rest f.2 in
    (l.front ++ more.0, l.whole ∙ (ap (λ t. l.front ++ t) more.1 ∙ sym (append_assoc l.front more.0 rest)))

-- the run of the records, as it is written
pub run_kept : (k : Kind) (text : List ℕ) (rs : List Record) (rest : List ℕ) (n : ℕ) → Fronts k text rs rest → n + length rest ≡ length text → without_cr (take n text) ≡ flat_map record_text rs
run_kept k text rs rest n f len =
    let cut = fronts_cut k text rs rest f in
    let front = front_is text cut.0 rest n cut.1 len in
    append_cancel_right (without_cr (take n text)) (flat_map record_text rs) (without_cr rest)
    (sym (filter-append is_no_cr (take n text) rest) ∙ (ap without_cr (ap (λ t. t ++ rest) front ∙ sym cut.1) ∙ fronts_kept k text rs rest f))
