-- The locks of edits with safe names: none is at a place, at `packed-refs` or on the way to another one.
use Rattle.std.proofs.Common.{arith, ◌≡◌, ⊎_elim, ℕ, List, [], ◌∷◌, ◌++◌, Bool, true, false, codes, refl, sym, ◌∙◌, ap, append_assoc, if◌then◌else◌, All}
use Rattle.std.specs.Prelude.{bytes_eq, is_none, ◌&&◌, ◌==◌}
use Rattle.std.proofs.lemmas.Bool.{eqb-true}
use Rattle.std.proofs.lemmas.List.{append_cancel_left, append_cancel_right}
use Rattle.std.proofs.lemmas.List.Elements.{All-nil, All-cons}
use Rattle.gix_ref_hash.specs.declared.hash.Kind.{Kind}
use Rattle.gix_ref_target.specs.Layout.{Layout, IsLayout, below}
use Rattle.gix_ref_target.specs.Locations.{is_safe}
use Rattle.gix_ref_target.proofs.LocationLemmas.{head}
use Rattle.gix_ref_files.specs.Tree.{Path, fronts, fronts_after}
use Rattle.gix_ref_files.specs.Lock.{lock_of}
use Rattle.gix_ref_theory.specs.Readings.{Store}
use Rattle.gix_ref_theory.specs.ConcreteStore.{Options, store_of}
use Rattle.gix_ref_theory.proofs.LockPlaces.{no_lock_below, no_lock_below_packed}
use Rattle.gix_ref_theory.proofs.PlaceLaws.{laws_hold}
use Rattle.gix_ref_transaction.specs.OwnLocks.{is_in}
use Rattle.gix_ref_transaction.specs.Causes.{AllValid, IsApartFromPacked, LocksAreApart, locks_of}
use Rattle.gix_ref_edits.specs.RefEdits.{name_of}
use Rattle.gix_ref_edits.specs.declared.transaction.RefEdit.{RefEdit}
use Rattle.gix_ref_transaction.proofs.PackedBelow.{no_packed_below}
use Rattle.gix_ref_transaction.proofs.Adds.{false_is_true, is_false, in_one, any_cases}

-- a path goes on after each of its fronts with a slash
front_after : (seen xs q : Path) → is_in (fronts_after seen xs) q ≡ true → (rest : List ℕ) × (seen ++ xs ≡ below q rest)
front_after seen [] q within = false_is_true within
front_after seen (c ∷ xs) q within = by (λ h. let later = front_after (seen ++ c ∷ []) xs q h in (later.0, sym (append_assoc seen (c ∷ []) xs) ∙ later.1)) (c == 47) refl within
  where
    by : (is_in (fronts_after (seen ++ c ∷ []) xs) q ≡ true → (rest : List ℕ) × (seen ++ c ∷ xs ≡ below q rest)) → (b : Bool) → (c == 47) ≡ b →
        is_in (if b then seen ∷ fronts_after (seen ++ c ∷ []) xs else fronts_after (seen ++ c ∷ []) xs) q ≡ true → (rest : List ℕ) × (seen ++ c ∷ xs ≡ below q rest)
    by later true slash h = ⊎_elim
        (λ here. (xs, ap (λ (d : ℕ). seen ++ d ∷ xs) (eqb-true c 47 slash) ∙ ap (λ (p : Path). below p xs) (in_one seen q here)))
        (λ there. later there)
        (any_cases (λ p. bytes_eq p q) (seen ∷ []) (fronts_after (seen ++ c ∷ []) xs) h)
    by later false other h = later h

front_of : (p q : Path) → is_in (fronts p) q ≡ true → (rest : List ℕ) × (p ≡ below q rest)
front_of [] q within = false_is_true within
front_of (c ∷ p) q within = front_after (c ∷ []) p q within

module _ (f : Layout) (o : Options) (laid : IsLayout f) (kind : Kind) where
  abbrev s : Store
  s = store_of f o

  is_reference : (edit : RefEdit) → is_safe (name_of edit) ≡ true → s.is_reference (name_of edit) ≡ true
  is_reference edit safe = ap (λ e. is_none e && is_safe (name_of edit)) edit.name.valid ∙ safe

  pub references : (seen edits : List RefEdit) → AllValid s kind seen edits → All (λ (edit : RefEdit). s.is_reference (name_of edit) ≡ true) edits
  references seen [] valid = All-nil (λ (edit : RefEdit). s.is_reference (name_of edit) ≡ true)
  references seen (edit ∷ edits) valid =
      All-cons (λ (e : RefEdit). s.is_reference (name_of e) ≡ true) edit edits (is_reference edit valid.0.safe) (references (seen ++ edit ∷ []) edits valid.1)

  -- each lock is that of a name
  named : (seen edits : List RefEdit) → AllValid s kind seen edits → (q : Path) → is_in (locks_of s edits) q ≡ true → (n : List ℕ) × (s.is_reference n ≡ true) × (lock_of (s.place n) ≡ q)
  named seen [] valid q within = false_is_true within
  named seen (edit ∷ edits) valid q within = ⊎_elim
      (λ here. (name_of edit, is_reference edit valid.0.safe, in_one (lock_of (s.place (name_of edit))) q here))
      (λ later. named (seen ++ edit ∷ []) edits valid.1 q later)
      (any_cases (λ p. bytes_eq p q) (locks_of s (edit ∷ [])) (locks_of s edits) within)

  from_packed : (edit : RefEdit) → s.is_reference (name_of edit) ≡ true → IsApartFromPacked s edit
  from_packed edit is = record {
    lock = λ same. (laws_hold f o laid).place_is_not_packed (name_of edit) is (append_cancel_right (s.place (name_of edit)) s.packed_path (codes ".lock") same);
    way = is_false (is_in (fronts (lock_of (s.place (name_of edit)))) (lock_of s.packed_path)) (λ within.
        let front = front_of (lock_of (s.place (name_of edit))) (lock_of s.packed_path) within in
        no_lock_below_packed f o laid (name_of edit) front.0 is front.1);
    place = (laws_hold f o laid).place_is_no_lock (name_of edit) s.packed_path is;
    behind = is_false (is_in (fronts (lock_of s.packed_path)) (lock_of (s.place (name_of edit)))) (λ within.
        let front = front_of (lock_of s.packed_path) (lock_of (s.place (name_of edit))) within in
        no_packed_below f o laid (name_of edit) front.0 is front.1);
  }

  -- a place is not on the way to its lock
  on_way : (p : Path) → is_in (fronts (lock_of p)) p ≡ false
  on_way p = is_false (is_in (fronts (lock_of p)) p) (λ within.
      let front = front_of (lock_of p) p within in
      let ends : codes ".lock" ≡ 47 ∷ front.0 = append_cancel_left p (codes ".lock") (47 ∷ front.0) front.1 in
      let first : ◌≡◌ {A = ℕ} 46 47 = ap head ends in absurd (omega (arith, first)))

  pub apart : (edits : List RefEdit) → AllValid s kind [] edits → LocksAreApart s edits
  apart edits valid = record {
    ways = λ lock q at there. is_false (is_in (fronts lock) q) (λ within.
        let m = named [] edits valid lock at in
        let n = named [] edits valid q there in
        let front = front_of lock q within in
        no_lock_below f o laid m.0 n.0 front.0 m.1 n.1 (m.2 ∙ (front.1 ∙ ap (λ (p : Path). below p front.0) (sym n.2))));
    places = λ k d lt. is_false (is_in (locks_of s edits) _) (λ within.
        let m = named [] edits valid _ within in
        (laws_hold f o laid).place_is_no_lock _ (s.place m.0) (references [] edits valid k d lt) (sym m.2));
    packed = is_false (is_in (locks_of s edits) s.packed_path) (λ within.
        let m = named [] edits valid s.packed_path within in
        (laws_hold f o laid).packed_is_no_lock (s.place m.0) (sym m.2));
    packed_locks = λ k d lt. from_packed _ (references [] edits valid k d lt);
    packed_lock = (laws_hold f o laid).packed_is_no_lock s.packed_path;
    packed_way = on_way s.packed_path;
  }
