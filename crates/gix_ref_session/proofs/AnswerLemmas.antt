-- Answers that are written one after the other, and what is gathered meanwhile.
use Rattle.std.proofs.Common.{ℕ, List, [], ◌++◌, Option, Some, None, Result, Ok, Err, IfErr, refl, sym, ◌∙◌, ap, append_assoc, append-nil}
use Rattle.std.specs.Io.KnownBytes.{Appends, Keeps}
use Rattle.gix_ref_session.specs.Gathering.{Stays, as_gathering}
use Rattle.gix_ref_session.specs.declared.gather.Gathered.{Gathered}

pub append_none : (a : Option (List ℕ)) → Appends a a []
append_none None = tt
append_none (Some x) = sym (append-nil x)

pub append_more : (a b c : Option (List ℕ)) (first second : List ℕ) → Appends a b first → Appends b c second → Appends a c (first ++ second)
append_more None b c first second one two = tt
append_more (Some x) None c first second one two = absurd one
append_more (Some x) (Some y) None first second one two = absurd two
append_more (Some x) (Some y) (Some z) first second one two = two ∙ (ap (λ (w : List ℕ). w ++ second) one ∙ append_assoc x first second)

pub keeps_same : (a : Option (List ℕ)) → Keeps a a
keeps_same None = tt
keeps_same (Some x) = refl

pub all_errors : {T E : Type 0} (r : Result T E) (P : E → Type 0) → ((e : E) → P e) → IfErr r P
all_errors (Ok v) P all = tt
all_errors (Err e) P all = all e

pub stays_same : (input rest output : Option (List ℕ)) (gathered : Gathered) → Stays (as_gathering input output gathered) (as_gathering rest output gathered)
stays_same input rest output gathered = record { edits = refl; started = refl; output = refl }
