-- Lines of paths.
use Rattle.std.proofs.Common.{◌≡◌, ◌<◌, ◌+◌, ℕ, List, [], ◌∷◌, ◌++◌, length, get_or, take, codes, sym, ◌∙◌, ap, append_assoc, append-nil, Vec}
use Rattle.std.specs.declared.alloc.Global.{Global}
use Rattle.std.proofs.lemmas.Grind.{flat_map-append}
use Rattle.std.proofs.lemmas.List.{take_more}
use Rattle.gix_ref_queries.specs.Answers.{path_lines}

-- one line more
pub one_more : (paths : List (Vec ℕ Global)) (i : ℕ) (path : Vec ℕ Global) → i < length paths → path ≡ get_or paths i path → path_lines (take (i + 1) paths) ≡ (path_lines (take i paths) ++ path.items) ++ codes "\n"
one_more paths i path lt is =
    ap path_lines (take_more paths i path lt ∙ ap (λ (p : Vec ℕ Global). take i paths ++ p ∷ []) (sym is))
    ∙ (flat_map-append (λ (p : Vec ℕ Global). p.items ++ codes "\n") (take i paths) (path ∷ [])
    ∙ (ap (λ line. path_lines (take i paths) ++ line) (append-nil (path.items ++ codes "\n"))
    ∙ sym (append_assoc (path_lines (take i paths)) path.items (codes "\n"))))
