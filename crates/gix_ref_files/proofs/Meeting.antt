-- Faults that were counted: a call counts its fault, and no later call forgets it.
use Rattle.std.proofs.Common.{◌≡◌, ◌≢◌, ℕ, ◌+◌, ◌-◌, ◌≤◌, ◌^◌, Bool, true, false, nat_lt, if◌then◌else◌, ◌==◌, refl, sym, subst, inl, inr, arith}
use Rattle.std.specs.Prelude.{Result, Ok, Err}
use Rattle.std.proofs.lemmas.Bool.{ltb-false, eq-eqb}
use Rattle.gix_ref_files.specs.Files.{FaultCounts, NoFewer, IsRise, IsMet, HasRisen, one_more, number_of, counted, count_with, count_after}
use Rattle.gix_ref_files.specs.declared.files.FileError.{FileError}
use Rattle.gix_ref_files.specs.declared.files.FileError.TheVariants.{Device, NotUtf8, Memory}

-- nothing is forgotten
pub no_fewer_starts : (n : FaultCounts) → NoFewer n n
no_fewer_starts n = record { total = omega arith; each = λ fault. omega arith }

pub no_fewer_joins : {a b d : FaultCounts} → NoFewer a b → NoFewer b d → NoFewer a d
no_fewer_joins first next = record {
  total = omega (arith, first.total, next.total);
  each = λ fault. omega (arith, first.each fault, next.each fault);
}

-- one more is a rise
pub rises : (n : ℕ) → IsRise n (one_more n)
rises n = go (nat_lt n (2 ^ 64 - 1)) refl
  where
    go : (b : Bool) → nat_lt n (2 ^ 64 - 1) ≡ b → IsRise n (if b then n + 1 else n)
    go true is = inl (omega arith)
    go false is = inr (ltb-false n (2 ^ 64 - 1) is)

-- a rise within a longer run
pub rise_wider : {a b d e : ℕ} → a ≤ b → d ≤ e → IsRise b d → IsRise a e
rise_wider le le' (inl lt) = inl (omega (arith, le, le', lt))
rise_wider le le' (inr full) = inr (omega (arith, le', full))

-- a fault that was counted, within a longer run
pub met_wider : {error : FileError} {a b d e : FaultCounts} → NoFewer a b → NoFewer d e → IsMet error b d → IsMet error a e
met_wider {error} first next met = rise_wider (first.each error) (next.each error) met

-- and any fault
pub risen_wider : {a b d e : FaultCounts} → NoFewer a b → NoFewer d e → HasRisen b d → HasRisen a e
risen_wider first next risen = rise_wider first.total next.total risen

-- a number is the same as itself
self_equal : (n : ℕ) → (n == n) ≡ true
self_equal n = eq-eqb n n refl

-- the fault of a call is counted
pub counts_it : (error : FileError) (n : FaultCounts) → IsMet error n (counted error n)
counts_it error n = subst (λ (b : Bool). IsRise (n.each error) (if b then one_more (n.each error) else n.each error)) (sym (self_equal (number_of error))) (rises (n.each error))

pub met_now : (error : FileError) (n : FaultCounts) → error ≢ Memory → IsMet error n (count_with error n)
met_now (Device kind) n not = counts_it (Device kind) n
met_now NotUtf8 n not = counts_it NotUtf8 n
met_now Memory n not = absurd (not refl)

pub risen_now : (error : FileError) (n : FaultCounts) → error ≢ Memory → HasRisen n (count_with error n)
risen_now (Device kind) n not = rises n.total
risen_now NotUtf8 n not = rises n.total
risen_now Memory n not = absurd (not refl)

-- one more is no fewer
not_less : (n : ℕ) → n ≤ one_more n
not_less n = go (nat_lt n (2 ^ 64 - 1))
  where
    go : (b : Bool) → n ≤ (if b then n + 1 else n)
    go true = omega arith
    go false = omega arith

counted_more : (error : FileError) (n : FaultCounts) → NoFewer n (counted error n)
counted_more error n = record { total = not_less n.total; each = λ fault. go fault (number_of fault == number_of error) }
  where
    go : (fault : FileError) (b : Bool) → n.each fault ≤ (if b then one_more (n.each fault) else n.each fault)
    go fault true = not_less (n.each fault)
    go fault false = omega arith

-- a call forgets no fault
pub more_after : (error : FileError) (n : FaultCounts) → NoFewer n (count_with error n)
more_after (Device kind) n = counted_more (Device kind) n
more_after NotUtf8 n = counted_more NotUtf8 n
more_after Memory n = no_fewer_starts n

-- nor does one that counts none
pub fewer_same : (a b : FaultCounts) → b ≡ a → NoFewer a b
fewer_same a b same = subst (NoFewer a) (sym same) (no_fewer_starts a)

pub fewer_after : {T : Type 0} (r : Result T FileError) (a b : FaultCounts) → b ≡ count_after r a → NoFewer a b
fewer_after (Ok value) a b same = fewer_same a b same
fewer_after (Err error) a b same = subst (NoFewer a) (sym same) (more_after error a)

-- the fault that a call met is counted, as a run sees it
pub met_after : (error : FileError) (a b : FaultCounts) → error ≢ Memory → b ≡ count_with error a → IsMet error a b
met_after error a b not same = subst (IsMet error a) (sym same) (met_now error a not)
