-- The commands of a line, word by word.
use Rattle.std.proofs.Common.{◌≡◌, ℕ, zero, suc, ◌+◌, ◌<◌, length, get_or, take, arith, List, [], ◌∷◌, ◌++◌, Bool, true, false, cond, map, codes, refl, sym, ◌∙◌, ap, subst, Result, Ok, Err, IfOk, OnOk}
use Rattle.std.specs.Prelude.{bytes_eq}
use Rattle.std.specs.List.{slice_split, onto_first}
use Rattle.gix_ref_program.specs.Words.{Asked, Update, Symbolic, Delete, Show, Listing, Log, Script, IsCommand, IsWrite}
use Rattle.gix_ref_program.specs.ScriptLines.{AreCommands}

-- Parts of a list, each element read.

onto_map : {X Y : Type 0} (f : X → Y) (x : X) (parts : List (List X)) → map (map f) (onto_first x parts) ≡ onto_first (f x) (map (map f) parts)
onto_map f x [] = refl
onto_map f x (part ∷ parts) = refl

split_by : {X Y : Type 0} (f : X → Y) (x : X) (parts : List (List X)) (mapped : List (List Y)) → map (map f) parts ≡ mapped → (b : Bool) → map (map f) (cond b ([] ∷ parts) (onto_first x parts)) ≡ cond b ([] ∷ mapped) (onto_first (f x) mapped)
split_by {Y = Y} f x parts mapped is true = ap (λ (ps : List (List Y)). [] ∷ ps) is
split_by {Y = Y} f x parts mapped is false = onto_map f x parts ∙ ap (λ (ps : List (List Y)). onto_first (f x) ps) is

pub split_map : {X Y : Type 0} (f : X → Y) (p : Y → Bool) (xs : List X) → map (map f) (slice_split (λ x. p (f x)) xs) ≡ slice_split p (map f xs)
split_map f p [] = refl
split_map {X = X} f p (x ∷ xs) = split_by f x (slice_split (λ (y : X). p (f y)) xs) (slice_split p (map f xs)) (split_map f p xs) (p (f x))

pub map_map : {X Y Z : Type 0} (g : Y → Z) (f : X → Y) (xs : List X) → map (λ x. g (f x)) xs ≡ map g (map f xs)
map_map g f [] = refl
map_map {Z = Z} g f (x ∷ xs) = ap (λ (zs : List Z). g (f x) ∷ zs) (map_map g f xs)

-- Commands.

pub one_more_command : (parts : List (List (List ℕ))) (all : List Asked) (words : List (List ℕ)) (asked : Asked) → AreCommands parts all → IsCommand words asked → IsWrite asked → AreCommands (parts ++ words ∷ []) (all ++ asked ∷ [])
one_more_command [] [] words asked are is writes = (is, writes, tt)
one_more_command [] (a ∷ all) words asked are is writes = absurd are
one_more_command (part ∷ parts) [] words asked are is writes = absurd are
one_more_command (part ∷ parts) (a ∷ all) words asked (first, first_writes, are) is writes = (first, first_writes, one_more_command parts all words asked are is writes)

-- each part is a command that writes
pub command_at : {X : Type 0} (f : X → List (List ℕ)) (xs : List X) (d : X) (k : ℕ) (all : List Asked) → AreCommands (map f xs) all → k < length xs → (asked : Asked) × IsCommand (f (get_or xs k d)) asked × IsWrite asked
command_at f [] d k all are lt = absurd (omega (arith, lt))
command_at f (x ∷ xs) d k [] are lt = absurd are
command_at f (x ∷ xs) d zero (a ∷ all) (first, first_writes, are) lt = (a, first, first_writes)
command_at f (x ∷ xs) d (suc k) (a ∷ all) (first, first_writes, are) lt = command_at f xs d k all are (omega (arith, lt))

pub next_part : {X Y : Type 0} (f : X → Y) (xs : List X) (k : ℕ) (d : X) → k < length xs → map f (take (k + 1) xs) ≡ map f (take k xs) ++ f (get_or xs k d) ∷ []
next_part f [] k d lt = absurd (omega (arith, lt))
next_part f (x ∷ xs) zero d lt = refl
next_part {X = X} {Y = Y} f (x ∷ xs) (suc k) d lt =
    let more : suc k + 1 ≡ suc (k + 1) = omega arith in
    ap (λ (m : ℕ). map f (take m (x ∷ xs))) more ∙ ap (λ (ys : List Y). f x ∷ ys) (next_part f xs k d (omega (arith, lt)))

pub take_all : {X : Type 0} (xs : List X) → take (length xs) xs ≡ xs
take_all [] = refl
take_all {X = X} (x ∷ xs) = ap (λ (ys : List X). x ∷ ys) (take_all xs)

pub one_mapped : {X Y : Type 0} (f : X → Y) (xs : List X) (x : X) → map f (xs ++ x ∷ []) ≡ map f xs ++ f x ∷ []
one_mapped f [] x = refl
one_mapped {Y = Y} f (y ∷ xs) x = ap (λ (ys : List Y). f y ∷ ys) (one_mapped f xs x)

-- what holds of a result for a reason that gives another
pub if_ok : {A E : Type 0} {P Q : A → Type 0} (r : Result A E) → ((v : A) → P v → Q v) → IfOk r P → IfOk r Q
if_ok (Ok v) wider holds = wider v holds
if_ok (Err e) wider holds = tt

no_way : {X : Type 0} → true ≡ false → X
no_way e = cc

heads : {x y : List ℕ} {xs ys : List (List ℕ)} → x ∷ xs ≡ y ∷ ys → x ≡ y
heads e = cc

-- no command that writes begins with another word
no_write : (words : List (List ℕ)) (word : List ℕ) (rest : List (List ℕ)) → words ≡ word ∷ rest → bytes_eq (codes "update") word ≡ false → bytes_eq (codes "symbolic") word ≡ false → bytes_eq (codes "delete") word ≡ false →
    (asked : Asked) → IsCommand words asked → IsWrite asked → ⊥
no_write words word rest are u s d (Update deref name id old) (behind, same, is) writes = no_way (ap (bytes_eq (codes "update")) (heads (sym same ∙ are)) ∙ u)
no_write words word rest are u s d (Symbolic name target) same writes = no_way (ap (bytes_eq (codes "symbolic")) (heads (sym same ∙ are)) ∙ s)
no_write words word rest are u s d (Delete deref name old) (behind, same, is) writes = no_way (ap (bytes_eq (codes "delete")) (heads (sym same ∙ are)) ∙ d)
no_write words word rest are u s d (Show name) is writes = absurd writes
no_write words word rest are u s d (Listing prefix) is writes = absurd writes
no_write words word rest are u s d (Log name) is writes = absurd writes
no_write words word rest are u s d (Script path) is writes = absurd writes

-- the words of a command that does not write are of none that does
pub no_other : (words : List (List ℕ)) (asked : Asked) → IsCommand words asked → (IsWrite asked → ⊥) → (other : Asked) → IsCommand words other → IsWrite other → ⊥
no_other words (Update deref name id old) is none other same writes = none tt
no_other words (Symbolic name target) is none other same writes = none tt
no_other words (Delete deref name old) is none other same writes = none tt
no_other words (Show name) is none other same writes = no_write words _ _ is refl refl refl other same writes
no_other words (Listing prefix) is none other same writes = no_write words _ _ is refl refl refl other same writes
no_other words (Log name) is none other same writes = no_write words _ _ is refl refl refl other same writes
no_other words (Script path) is none other same writes = no_write words _ _ is refl refl refl other same writes

-- the next part, and its command
pub next_commands : {X C : Type 0} (f : X → List (List ℕ)) (g : C → Asked) (xs : List X) (k : ℕ) (d : X) (commands new : List C) (command : C) → k < length xs → AreCommands (map f (take k xs)) (map g commands) →
    IsCommand (f (get_or xs k d)) (g command) → IsWrite (g command) → new ≡ commands ++ command ∷ [] → AreCommands (map f (take (k + 1) xs)) (map g new)
next_commands f g xs k d commands new command lt are is writes added =
    subst (λ (parts : List (List (List ℕ))). AreCommands parts (map g new)) (sym (next_part f xs k d lt))
    (subst (λ (all : List Asked). AreCommands (map f (take k xs) ++ f (get_or xs k d) ∷ []) all) (sym (ap (map g) added ∙ one_mapped g commands command))
    (one_more_command (map f (take k xs)) (map g commands) (f (get_or xs k d)) (g command) are is writes))

-- two facts of a result that is good
pub ok_both : {A E : Type 0} (P : A → Type 0) (Q : Type 0) (r : Result A E) → IfOk r P → OnOk r Q → IfOk r (λ v. P v × Q)
ok_both P Q (Ok v) p q = (p, q)
ok_both P Q (Err e) p q = tt
