-- The edits of commands.
use Rattle.std.proofs.Common.{◌≡◌, ℕ, zero, suc, ◌+◌, ◌<◌, length, get_or, take, drop, arith, List, [], ◌∷◌, ◌++◌, map, Option, false, Result, Ok, Err, OnOk, refl, sym, ap, subst}
use Rattle.std.specs.Result.{is_err}
use Rattle.gix_ref_hash.specs.declared.hash.Kind.{Kind}
use Rattle.gix_ref_edits.specs.declared.transaction.RefEdit.{RefEdit}
use Rattle.gix_ref_program.specs.AskedEdits.{AreAskedFor, IsAskedFor, NoEdit, NoEditAmong}
use Rattle.gix_ref_program.specs.ScriptLines.{AllWrite, AreCommands}
use Rattle.gix_ref_program.specs.Words.{Asked, IsWrite}
use Rattle.gix_ref_program.specs.declared.refusal.Refusal.{Refusal}
use Rattle.gix_ref_program.proofs.ScriptWords.{next_part}

-- what holds where a call succeeded, which it did
pub succeeded : {A E : Type 0} (r : Result A E) (P : Type 0) → is_err r ≡ false → OnOk r P → P
succeeded (Ok v) P none holds = holds
succeeded (Err e) P none holds = absurd (cc)

pub all_write : (parts : List (List (List ℕ))) (all : List Asked) → AreCommands parts all → AllWrite all
all_write [] [] are = tt
all_write [] (a ∷ all) are = absurd are
all_write (part ∷ parts) [] are = absurd are
all_write (part ∷ parts) (a ∷ all) (is, writes, are) = (writes, all_write parts all are)

pub write_at : {C : Type 0} (f : C → Asked) (xs : List C) (k : ℕ) (d : C) → AllWrite (map f xs) → k < length xs → IsWrite (f (get_or xs k d))
write_at f [] k d all lt = absurd (omega (arith, lt))
write_at f (x ∷ xs) zero d all lt = all.0
write_at f (x ∷ xs) (suc k) d all lt = write_at f xs k d all.1 (omega (arith, lt))

one_more_edit : (kind : Kind) (message : Option (List ℕ)) (all : List Asked) (edits : List RefEdit) (asked : Asked) (edit : RefEdit) → AreAskedFor kind message all edits → IsAskedFor kind message asked edit →
    AreAskedFor kind message (all ++ asked ∷ []) (edits ++ edit ∷ [])
one_more_edit kind message [] [] asked edit are is = (is, tt)
one_more_edit kind message [] (e ∷ edits) asked edit are is = absurd are
one_more_edit kind message (a ∷ all) [] asked edit are is = absurd are
one_more_edit kind message (a ∷ all) (e ∷ edits) asked edit (first, are) is = (first, one_more_edit kind message all edits asked edit are is)

-- the edit of the next command
pub next_edits : {C : Type 0} (kind : Kind) (message : Option (List ℕ)) (f : C → Asked) (xs : List C) (k : ℕ) (d : C) (edits new : List RefEdit) (edit : RefEdit) → k < length xs →
    AreAskedFor kind message (map f (take k xs)) edits → IsAskedFor kind message (f (get_or xs k d)) edit → new ≡ edits ++ edit ∷ [] → AreAskedFor kind message (map f (take (k + 1) xs)) new
next_edits kind message f xs k d edits new edit lt are is added =
    subst (λ (all : List Asked). AreAskedFor kind message all new) (sym (next_part f xs k d lt))
    (subst (λ (es : List RefEdit). AreAskedFor kind message (map f (take k xs) ++ f (get_or xs k d) ∷ []) es) (sym added) (one_more_edit kind message (map f (take k xs)) edits (f (get_or xs k d)) edit are is))

parts_at : {C D : Type 0} (f : C → D) (xs : List C) (k : ℕ) (d : C) → k < length xs → map f xs ≡ map f (take k xs) ++ f (get_or xs k d) ∷ map f (drop (suc k) xs)
parts_at f [] k d lt = absurd (omega (arith, lt))
parts_at f (x ∷ xs) zero d lt = refl
parts_at {D = D} f (x ∷ xs) (suc k) d lt = ap (λ (ys : List D). f x ∷ ys) (parts_at f xs k d (omega (arith, lt)))

-- there is none of the next command
pub no_next : {C : Type 0} (kind : Kind) (message : Option (List ℕ)) (f : C → Asked) (xs : List C) (k : ℕ) (d : C) (edits : List RefEdit) (refusal : Refusal) → k < length xs →
    AreAskedFor kind message (map f (take k xs)) edits → NoEdit (f (get_or xs k d)) refusal → NoEditAmong kind message (map f xs) refusal
no_next kind message f xs k d edits refusal lt are none =
    record { before = map f (take k xs); asked = f (get_or xs k d); rest = map f (drop (suc k) xs); all_are = parts_at f xs k d lt; edits = edits; are_asked_for = are; none = none }
