-- Edits that are held, as far as a list was searched.
use Rattle.std.proofs.Common.{◌≡◌, inl, inr, ℕ, zero, suc, ◌+◌, ◌<◌, List, [], ◌∷◌, length, take, get_or, map, subst, refl, arith}
use denote.Ref.{Bor}
use Rattle.gix_ref_edits.specs.RefEdits.{name_of}
use Rattle.gix_ref_edits.specs.declared.transaction.RefEdit.{RefEdit}
use Rattle.gix_ref_session.specs.Named.{AreNamed, IsHeld, IsNamed, IsSwitched, IsUnnamed}

-- the edits that are lent
abbrev pub lent : List (Bor RefEdit) → List RefEdit
lent held = map (λ (edit : Bor RefEdit). edit.now) held

pub held_at : (held : List (Bor RefEdit)) (k : ℕ) (d : Bor RefEdit) (name : List ℕ) → k < length held → name_of (get_or held k d).now ≡ name → IsHeld (lent held) name
held_at [] k d name lt is = absurd (omega (arith, lt))
held_at (e ∷ held) zero d name lt is = inl is
held_at (e ∷ held) (suc k) d name lt is = inr (held_at held k d name (omega (arith, lt)) is)

one_more : (held : List (Bor RefEdit)) (k : ℕ) (d : Bor RefEdit) (name : List ℕ) → k < length held → (IsHeld (lent (take k held)) name → ⊥) → (name_of (get_or held k d).now ≡ name → ⊥) → IsHeld (lent (take (suc k) held)) name → ⊥
one_more [] k d name lt none other h = omega (arith, lt)
one_more (e ∷ held) zero d name lt none other (inl here) = other here
one_more (e ∷ held) zero d name lt none other (inr later) = later
one_more (e ∷ held) (suc k) d name lt none other (inl here) = none (inl here)
one_more (e ∷ held) (suc k) d name lt none other (inr later) = one_more held k d name (omega (arith, lt)) (λ h. none (inr h)) other later

pub none_more : (held : List (Bor RefEdit)) (k : ℕ) (d : Bor RefEdit) (name : List ℕ) → k < length held → (IsHeld (lent (take k held)) name → ⊥) → (name_of (get_or held k d).now ≡ name → ⊥) → IsHeld (lent (take (k + 1) held)) name → ⊥
none_more held k d name lt none other =
    let next : suc k ≡ k + 1 = omega arith in
    subst (λ (n : ℕ). IsHeld (lent (take n held)) name → ⊥) next (one_more held k d name lt none other)

pub none_all : (held : List (Bor RefEdit)) (k : ℕ) (name : List ℕ) → (k < length held → ⊥) → (IsHeld (lent (take k held)) name → ⊥) → IsHeld (lent held) name → ⊥
none_all [] k name out none h = h
none_all (e ∷ held) zero name out none h = out (omega arith)
none_all (e ∷ held) (suc k) name out none (inl here) = none (inl here)
none_all (e ∷ held) (suc k) name out none (inr later) = none_all held k name (λ lt. out (omega (arith, lt))) (λ h. none (inr h)) later

-- edits of which each update is named, as far as they were looked at
one_named : (held edits : List RefEdit) (k : ℕ) (d : RefEdit) → k < length edits → AreNamed held (take k edits) → IsNamed held (get_or edits k d) → AreNamed held (take (suc k) edits)
one_named held [] k d lt are is = absurd (omega (arith, lt))
one_named held (e ∷ edits) zero d lt are is = (is, tt)
one_named held (e ∷ edits) (suc k) d lt (first, are) is = (first, one_named held edits k d (omega (arith, lt)) are is)

pub named_more : (held edits : List RefEdit) (k : ℕ) (d : RefEdit) → k < length edits → AreNamed held (take k edits) → IsNamed held (get_or edits k d) → AreNamed held (take (k + 1) edits)
named_more held edits k d lt are is =
    let next : suc k ≡ k + 1 = omega arith in
    subst (λ (n : ℕ). AreNamed held (take n edits)) next (one_named held edits k d lt are is)

pub named_all : (held edits : List RefEdit) (k : ℕ) → (k < length edits → ⊥) → AreNamed held (take k edits) → AreNamed held edits
named_all held [] k out are = tt
named_all held (e ∷ edits) zero out are = absurd (out (omega arith))
named_all held (e ∷ edits) (suc k) out (first, are) = (first, named_all held edits k (λ lt. out (omega (arith, lt))) are)

pub switched_at : (held edits : List RefEdit) (k : ℕ) (d : RefEdit) → k < length edits → IsUnnamed held (get_or edits k d) → IsSwitched held edits (name_of (get_or edits k d))
switched_at held [] k d lt is = absurd (omega (arith, lt))
switched_at held (e ∷ edits) zero d lt is = inl (is, refl)
switched_at held (e ∷ edits) (suc k) d lt is = inr (switched_at held edits k d (omega (arith, lt)) is)
