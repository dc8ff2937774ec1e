-- The first line of a log, and the lines after it.
use Rattle.std.proofs.Common.{◌≡◌, ℕ, ◌<◌, true, false, List, [], ◌∷◌, ◌++◌, length, map, sym, ◌∙◌, ap, inr, arith}
use Rattle.std.proofs.lemmas.List.{append_assoc, append-nil, length-append}
use Rattle.bstr.specs.Text.{lines_of, without_terminator, no_cr}
use Rattle.bstr.proofs.lemmas.LineLemmas.{lines-append, lines-one, lines-nil}
use Rattle.gix_ref_hash.specs.Bytes.{NoByte, Cuts}
use Rattle.gix_ref_log.specs.LogCuts.{log_lines}
use Rattle.gix_ref_log.proofs.LastLines.{text_is, feeds_none, last_at}

pub first_of_lines : (log line rest : List ℕ) → Cuts 10 log line rest → log_lines log ≡ no_cr line ∷ log_lines rest
first_of_lines log line rest cut =
    let xs = line ++ 10 ∷ [] in
    let long = length-append line (10 ∷ []) in
    let split : log ≡ xs ++ rest = cut.whole ∙ sym (append_assoc line (10 ∷ []) rest) in
    let one : lines_of xs ≡ xs ∷ [] = lines-one xs (omega arith) (feeds_none line true cut.none) in
    ap log_lines split
    ∙ ap (map without_terminator) (lines-append (length xs) xs rest (omega arith) (inr (last_at line 10)) ∙ ap (λ (z : List (List ℕ)). z ++ lines_of rest) one)
    ∙ ap (λ (t : List ℕ). t ∷ log_lines rest) (text_is line true cut.none)

pub only_line : (log : List ℕ) → 0 < length log → NoByte 10 log → log_lines log ≡ log ∷ log_lines []
only_line log some none =
    ap (map without_terminator) (lines-one log some (λ k l. none k (omega arith)))
    ∙ ap (λ (t : List ℕ). t ∷ []) (ap without_terminator (sym (append-nil log)) ∙ text_is log false none)
    ∙ ap (λ (z : List (List ℕ)). log ∷ map without_terminator z) (sym lines-nil)

pub no_lines : log_lines [] ≡ []
no_lines = ap (map without_terminator) lines-nil
