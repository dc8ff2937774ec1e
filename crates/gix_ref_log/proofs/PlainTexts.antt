-- Texts without `<`, `>` and LF.
use Rattle.std.proofs.Common.{◌≡◌, ◌≢◌, ℕ, ◌<◌, ◌≤◌, Bool, true, false, List, length, get_or, take, refl, sym, ◌∙◌, ap, subst, ne_eqb}
use Rattle.std.specs.Prelude.{◌==◌, ◌||◌}
use Rattle.std.specs.List.{All}
use Rattle.std.proofs.lemmas.List.Elements.{All-get_or}
use Rattle.gix_ref_hash.specs.Bytes.{NoByte}
use Rattle.gix_ref_log.specs.Signatures.{IsPlainText, is_mark}

-- a byte is no mark
abbrev pub IsUnmarked : ℕ → Type 0
IsUnmarked b = is_mark b ≡ false

none_of : (m : ℕ) (text : List ℕ) → is_mark m ≡ true → All IsUnmarked text → NoByte m text
none_of m text marks all = λ k within here.
    let un : is_mark (get_or text k 0) ≡ false = All-get_or IsUnmarked text k 0 within all in
    let is : is_mark (get_or text k 0) ≡ true = ap is_mark here ∙ marks in
    absurd (cc)

pub plain_unmarked : (text : List ℕ) → All IsUnmarked text → IsPlainText text
plain_unmarked text all = (none_of 60 text refl all, none_of 62 text refl all, none_of 10 text refl all)

unmarked : (b : ℕ) → b ≢ 60 → b ≢ 62 → b ≢ 10 → is_mark b ≡ false
unmarked b low high feed =
    ap (λ (x : Bool). x || (b == 62) || (b == 10)) (ne_eqb b 60 low)
    ∙ (ap (λ (x : Bool). x || (b == 10)) (ne_eqb b 62 high) ∙ ne_eqb b 10 feed)

pub marked_not_plain : (text : List ℕ) (k : ℕ) → k < length text → is_mark (get_or text k 0) ≡ true → IsPlainText text → ⊥
marked_not_plain text k within marked plain =
    let un : is_mark (get_or text k 0) ≡ false = unmarked (get_or text k 0) (plain.0 k within) (plain.1 k within) (plain.2 k within) in
    absurd (cc)
