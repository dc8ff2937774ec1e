-- Formats, read part by part.
use Rattle.std.proofs.Common.{◌≡◌, ℕ, suc, zero, List, [], ◌∷◌, ◌++◌, drop, Ok, Err, refl, sym, ◌∙◌, ap, append_assoc, append-nil}
use Rattle.gix_ref_queries.specs.Formats.{Parts, parts_after, first_part, first_then, with_part}
use Rattle.gix_ref_queries.specs.declared.format.Part.{Part}

-- other parts before these
abbrev pub after_parts : List Part → Parts → Parts
after_parts done (Ok parts) = Ok (done ++ parts)
after_parts done (Err field) = Err field

pub after_none : (parts : Parts) → after_parts [] parts ≡ parts
after_none (Ok parts) = refl
after_none (Err field) = refl

pub after_all : (done : List Part) → after_parts done (Ok []) ≡ Ok done
after_all done = ap (λ (ps : List Part). let r : Parts = Ok ps in r) (append-nil done)

pub after_one : (done : List Part) (part : Part) (parts : Parts) → after_parts (done ++ part ∷ []) parts ≡ after_parts done (with_part part parts)
after_one done part (Ok parts) = ap (λ (ps : List Part). let r : Parts = Ok ps in r) (append_assoc done (part ∷ []) parts)
after_one done part (Err field) = refl

-- bytes that were passed
pub passed_on : (n : ℕ) (text : List ℕ) → parts_after n text ≡ parts_after 0 (drop n text)
passed_on zero text = refl
passed_on (suc n) [] = refl
passed_on (suc n) (first ∷ rest) = passed_on n rest

-- one part more
pub part_more : (done : List Part) (part : Part) (len first : ℕ) (rest after : List ℕ) (whole : Parts) → after_parts done (parts_after 0 rest) ≡ whole → rest ≡ first ∷ after → first_part first after ≡ Ok (part, len) → after_parts (done ++ part ∷ []) (parts_after 0 (drop len after)) ≡ whole
part_more done part len first rest after whole so_far is reads =
    after_one done part (parts_after 0 (drop len after))
    ∙ (ap (λ ps. after_parts done (with_part part ps)) (sym (passed_on len after))
    ∙ (ap (after_parts done) (sym (ap (parts_after 0) is ∙ ap (first_then (λ n. parts_after n after)) reads)) ∙ so_far))

-- a field that is not supported
pub field_ends : (done : List Part) (field : List ℕ) (first : ℕ) (rest after : List ℕ) (whole : Parts) → after_parts done (parts_after 0 rest) ≡ whole → rest ≡ first ∷ after → first_part first after ≡ Err field → whole ≡ Err field
field_ends done field first rest after whole so_far is reads =
    sym so_far ∙ ap (after_parts done) (ap (parts_after 0) is ∙ ap (first_then (λ n. parts_after n after)) reads)
