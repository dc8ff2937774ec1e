-- What a loss of power leaves inside of a commit of updates, and what it leaves settled.
use Rattle.std.proofs.Common.{◌≡◌, ◌≢◌, ⊎_elim, ℕ, List, [], ◌∷◌, Bool, true, false, Option, Some, None, refl, sym, ◌∙◌, ap, subst, if◌then◌else◌}
use Rattle.std.specs.Prelude.{bytes_eq}
use Rattle.gix_ref_files.specs.Tree.{Path}
use Rattle.gix_ref_files.specs.Disk.{Disk}
use Rattle.gix_ref_files.specs.Lock.{lock_of}
use Rattle.gix_ref_files.specs.Settled.{AllStay, IsAllSettled, IsSettledAt, IsWholeAt}
use Rattle.gix_ref_files.proofs.Settling.{stands_settled}
use Rattle.gix_ref_theory.specs.OnDisks.{IsAsBefore, AreWhole}
use Rattle.gix_ref_theory.specs.OnRealTrees.{view_of, file_of}
use Rattle.gix_ref_theory.specs.Views.{View}
use Rattle.gix_ref_theory.proofs.OnDisks as runs
use Rattle.gix_ref_transaction.specs.OwnLocks.{is_in}
use Rattle.gix_ref_transaction.specs.PrepareSteps.{AreWholeLocks}
use Rattle.gix_ref_transaction.proofs.Adds.{false_is_true, any_cases, in_one}

-- where all was settled, all is again, once nothing but own locks has changed
pub rest_kept : (locked staying : List Path) (D E : Disk) → IsAllSettled D → IsAsBefore locked staying D E → IsAllSettled E × AllStay E staying
rest_kept locked staying D E settled same = (at_rest, same.1)
  where
    still : (q : Path) → ((p : Path) → q ≢ lock_of p) → IsSettledAt E (view_of D.tree q) q
    still q no_lock = same.0 q (λ own. let l = runs.own_is_lock locked q own in no_lock l.0 l.1, settled q no_lock)

    at_rest : IsAllSettled E
    at_rest q no_lock = subst (λ (f : Option (List ℕ)). IsSettledAt E f q) (sym (stands_settled E (view_of D.tree q) q (still q no_lock))) (still q no_lock)

-- the texts of these locks on a disk
abbrev pub texts_on : Disk → List Path → View
texts_on D locks q = if is_in locks q then view_of D.tree q else None

-- each of these locks is whole
pub are_whole : (D : Disk) (locks : List Path) → AreWholeLocks D locks → AreWhole (texts_on D locks) D
are_whole D locks whole q bytes is = by (is_in locks q) refl is
  where
    inner : {x y : List ℕ} → Some x ≡ Some y → x ≡ y
    inner h = cc

    at : (some : List Path) → AreWholeLocks D some → is_in some q ≡ true → view_of D.tree q ≡ Some bytes → IsWholeAt D q bytes
    at [] whole' within told = false_is_true within
    at (l ∷ some) whole' within told = ⊎_elim
        (λ here. let e = in_one l q here in
        let w = subst (λ (p : Path). IsWholeAt D p whole'.0.0) e whole'.0.1 in
        subst (λ (b : List ℕ). IsWholeAt D q b) (inner (sym (ap file_of w.0) ∙ told)) w)
        (λ there. at some whole'.1 there told)
        (any_cases (λ p. bytes_eq p q) (l ∷ []) some within)

    by : (b : Bool) → is_in locks q ≡ b → (if b then view_of D.tree q else None) ≡ Some bytes → IsWholeAt D q bytes
    by true within told = at locks whole within told
    by false out told = cc

-- and has a text there
pub whole_at : (D : Disk) (locks : List Path) → AreWholeLocks D locks → (q : Path) → is_in locks q ≡ true → (text : List ℕ) × (view_of D.tree q ≡ Some text)
whole_at D [] whole q within = false_is_true within
whole_at D (l ∷ locks) whole q within = ⊎_elim
    (λ here. (whole.0.0, subst (λ (p : Path). view_of D.tree p ≡ Some whole.0.0) (in_one l q here) (ap file_of whole.0.1.0)))
    (λ there. whole_at D locks whole.1 q there)
    (any_cases (λ p. bytes_eq p q) (l ∷ []) locks within)

-- a lock has there the text that it has in the tree
pub same_text : (D : Disk) (locks : List Path) (q : Path) → is_in locks q ≡ true → texts_on D locks q ≡ view_of D.tree q
same_text D locks q within = ap (λ b. if b then view_of D.tree q else None) within
