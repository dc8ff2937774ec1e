-- The lines of the locks that stay.
use Rattle.std.proofs.Common.{◌≡◌, ◌<◌, ◌+◌, ℕ, List, [], ◌∷◌, ◌++◌, length, get_or, take, codes, sym, ◌∙◌, ap, append_assoc, append-nil, Vec}
use Rattle.std.specs.declared.alloc.Global.{Global}
use Rattle.std.proofs.lemmas.Grind.{flat_map-append}
use Rattle.std.proofs.lemmas.List.{take_more}
use Rattle.gix_ref_program.specs.Outcomes.{lock_lines}

-- one line more
pub one_more : (locks : List (Vec ℕ Global)) (i : ℕ) (lock : Vec ℕ Global) → i < length locks → lock ≡ get_or locks i lock →
    lock_lines (take (i + 1) locks) ≡ lock_lines (take i locks) ++ (codes "lock left: " ++ (lock.items ++ codes "\n"))
one_more locks i lock lt is =
    ap lock_lines (take_more locks i lock lt ∙ ap (λ (l : Vec ℕ Global). take i locks ++ l ∷ []) (sym is))
    ∙ (flat_map-append (λ (l : Vec ℕ Global). codes "lock left: " ++ (l.items ++ codes "\n")) (take i locks) (lock ∷ [])
    ∙ ap (λ line. lock_lines (take i locks) ++ line) (append-nil (codes "lock left: " ++ (lock.items ++ codes "\n"))))

-- the text after the pieces of a line
pub pieces : (old seen text one two three lock : List ℕ) → text ≡ old ++ seen → one ≡ text ++ codes "lock left: " → two ≡ one ++ lock → three ≡ two ++ codes "\n" →
    three ≡ old ++ (seen ++ (codes "lock left: " ++ (lock ++ codes "\n")))
pieces old seen text one two three lock a b c d =
    d
    ∙ (ap (λ t. t ++ codes "\n") c
    ∙ (ap (λ t. (t ++ lock) ++ codes "\n") b
    ∙ (append_assoc (text ++ codes "lock left: ") lock (codes "\n")
    ∙ (append_assoc text (codes "lock left: ") (lock ++ codes "\n")
    ∙ (ap (λ t. t ++ (codes "lock left: " ++ (lock ++ codes "\n"))) a
    ∙ append_assoc old seen (codes "lock left: " ++ (lock ++ codes "\n")))))))
