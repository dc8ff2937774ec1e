-- One round of the loop that takes the locks, on the disk.
use Rattle.std.proofs.Common.{◌≡◌, ◌≢◌, inl, inr, ⊎_elim, ℕ, ◌+◌, ◌<◌, List, [], ◌∷◌, ◌++◌, length, get_or, take, map, true, None, refl, sym, ◌∙◌, ap, subst}
use Rattle.std.specs.Prelude.{bytes_eq}
use Rattle.std.proofs.lemmas.List.{map-append}
use Rattle.std.proofs.lemmas.Simd.{map-map}
use Rattle.gix_ref_hash.specs.declared.hash.Kind.{Kind}
use Rattle.gix_ref_files.specs.Tree.{Tree, Path, is_file}
use Rattle.gix_ref_files.specs.Disk.{Disk}
use Rattle.gix_ref_files.specs.Files.{Meaning, disk_of, Leaves, Passes}
use Rattle.gix_ref_files.specs.Lock.{lock_of, LockingOn}
use Rattle.gix_ref_files.specs.Settled.{IsWholeAt}
use Rattle.gix_ref_files.proofs.Moments.{passes_weaken, passes_joins}
use Rattle.gix_ref_theory.specs.Edits.{Mode}
use Rattle.gix_ref_theory.specs.OnDisks.{IsAsBefore}
use Rattle.gix_ref_theory.specs.Readings.{Store}
use Rattle.gix_ref_theory.specs.Views.{IsOwnLock}
use Rattle.gix_ref_theory.proofs.LockDisks.{locking_as_before, writing_as_before, whole_locking, whole_writing}
use Rattle.gix_ref_transaction.specs.OwnLocks.{is_in, AddsLocks, OnlyLocks}
use Rattle.gix_ref_transaction.specs.Causes.{LocksAreApart, locks_of, packed_taken}
use Rattle.gix_ref_transaction.specs.PrepareSteps.{own_locks, own_places, packed_locks, places_of, IsNewLock, FillingOn, IsSomeWhole, AreWholeLocks}
use Rattle.gix_ref_edits.specs.RefEdits.{name_of}
use Rattle.gix_ref_edits.specs.declared.transaction.RefEdit.{RefEdit}
use Rattle.gix_ref_transaction.proofs.Adds.{clash, any_cases, any_right, in_here, in_one}
use Rattle.gix_ref_transaction.proofs.Rounds.{more, within}
use Rattle.gix_ref_transaction.proofs.Taking.{Held}

-- a lock of the edits is the transaction's
pub own_lock : (s : Store) (edits : List RefEdit) (q : Path) → is_in (locks_of s edits) q ≡ true → IsOwnLock (places_of s edits) q
own_lock s [] q within = clash within refl
own_lock s (edit ∷ edits) q within =
    ⊎_elim
    (λ here. inl (sym (in_one (lock_of (s.place (name_of edit))) q here)))
    (λ later. inr (own_lock s edits q later))
    (any_cases (λ p. bytes_eq p q) (locks_of s (edit ∷ [])) (locks_of s edits) within)

-- the locks of some places are the transaction's
own_any : (ps : List Path) (q : Path) → is_in (map lock_of ps) q ≡ true → IsOwnLock ps q
own_any [] q within = clash within refl
own_any (p ∷ ps) q within = ⊎_elim
    (λ here. inl (sym (in_one (lock_of p) q here)))
    (λ later. inr (own_any ps q later))
    (any_cases (λ r. bytes_eq r q) (lock_of p ∷ []) (map lock_of ps) within)

owned_any : (ps : List Path) (q : Path) → IsOwnLock ps q → is_in (map lock_of ps) q ≡ true
owned_any [] q own = absurd own
owned_any (p ∷ ps) q (inl here) = in_here (lock_of p) q (map lock_of ps) (sym here)
owned_any (p ∷ ps) q (inr later) = any_right (λ r. bytes_eq r q) (lock_of p ∷ []) (map lock_of ps) (owned_any ps q later)

-- and so all locks of edits, with that of `packed-refs`
module _ (s : Store) (mode : Mode) (T : Tree) (edits : List RefEdit) where
  by_places : own_locks s mode T edits ≡ map lock_of (own_places s mode T edits)
  by_places =
      ap (λ ls. packed_locks s mode T edits ++ ls) (sym (map-map lock_of (λ (e : RefEdit). s.place (name_of e)) edits))
      ∙ sym (map-append lock_of (packed_taken s mode T edits) (places_of s edits))

  pub own_all : (q : Path) → is_in (own_locks s mode T edits) q ≡ true → IsOwnLock (own_places s mode T edits) q
  own_all q within = own_any (own_places s mode T edits) q (subst (λ (l : List Path). is_in l q ≡ true) by_places within)

  pub owned_all : (q : Path) → IsOwnLock (own_places s mode T edits) q → is_in (own_locks s mode T edits) q ≡ true
  owned_all q own = subst (λ (l : List Path). is_in l q ≡ true) (sym by_places) (owned_any (own_places s mode T edits) q own)

  -- those of the edits are among them
  pub edit_lock : (q : Path) → is_in (locks_of s edits) q ≡ true → is_in (own_locks s mode T edits) q ≡ true
  edit_lock q within = any_right (λ r. bytes_eq r q) (packed_locks s mode T edits) (locks_of s edits) within

  pub edit_own : (q : Path) → is_in (locks_of s edits) q ≡ true → IsOwnLock (own_places s mode T edits) q
  edit_own q within = own_all q (edit_lock q within)

module _ (locked staying : List Path) (first : Disk) where
  filling_as_before : (D E : Disk) (lock : Path) → IsOwnLock locked lock → is_file (D.tree lock) ≡ true → IsAsBefore locked staying first D → FillingOn D lock E → IsAsBefore locked staying first E
  filling_as_before D E lock own file same (inl e) = subst (IsAsBefore locked staying first) (sym e) same
  filling_as_before D E lock own file same (inr (text, writing)) = writing_as_before locked staying first D E lock text own file same writing

  -- after a lock was taken, or not
  pub locking_passes : (old mid new : Meaning) (place : Path) → IsOwnLock locked (lock_of place) → Passes old mid (IsAsBefore locked staying first) → Passes mid new (LockingOn (disk_of mid) place) →
      Passes old new (IsAsBefore locked staying first)
  locking_passes old mid new place own run next =
      passes_joins run (passes_weaken next (λ E found. locking_as_before locked staying first (disk_of mid) E place own run.disk found))

  -- and after it got its text, or not
  pub filling_passes : (old mid new : Meaning) (lock : Path) → IsOwnLock locked lock → is_file (mid.tree lock) ≡ true → Passes old mid (IsAsBefore locked staying first) → Passes mid new (FillingOn (disk_of mid) lock) →
      Passes old new (IsAsBefore locked staying first)
  filling_passes old mid new lock own file run next =
      passes_joins run (passes_weaken next (λ E found. filling_as_before (disk_of mid) E lock own file run.disk found))

-- locks that stay whole
whole_on : (D E : Disk) (locks : List Path) → ((q : Path) (bytes : List ℕ) → IsWholeAt D q bytes → IsWholeAt E q bytes) → AreWholeLocks D locks → AreWholeLocks E locks
whole_on D E [] keeps whole = tt
whole_on D E (lock ∷ locks) keeps whole = ((whole.0.0, keeps lock whole.0.0 whole.0.1), whole_on D E locks keeps whole.1)

whole_more : (D : Disk) (locks : List Path) (lock : Path) → AreWholeLocks D locks → IsSomeWhole D lock → AreWholeLocks D (locks ++ lock ∷ [])
whole_more D [] lock whole here = (here, tt)
whole_more D (l ∷ locks) lock whole here = (whole.0, whole_more D locks lock whole.1 here)

filling_whole : (D E : Disk) (lock q : Path) (bytes : List ℕ) → lock ≢ q → IsWholeAt D q bytes → FillingOn D lock E → IsWholeAt E q bytes
filling_whole D E lock q bytes apart whole (inl e) = subst (λ (X : Disk). IsWholeAt X q bytes) (sym e) whole
filling_whole D E lock q bytes apart whole (inr (text, writing)) = whole_writing D E lock q text bytes apart whole writing

-- what is whole stays so where one more lock is taken, which was free, and gets its text
pub keeps_whole : (D U E : Disk) (place : Path) → D.tree (lock_of place) ≡ None → LockingOn D place U → FillingOn U (lock_of place) E → (q : Path) (bytes : List ℕ) → IsWholeAt D q bytes → IsWholeAt E q bytes
keeps_whole D U E place free locking filling q bytes whole =
    filling_whole U E (lock_of place) q bytes apart (whole_locking D U place q bytes apart whole locking) filling
  where
    apart : lock_of place ≢ q
    apart same = clash (ap is_file whole.0) (ap is_file (subst (λ (p : Path). D.tree p ≡ None) same free))

-- and one more lock is
pub whole_then : (s : Store) (D U E : Disk) (seen : List RefEdit) (edit : RefEdit) → AreWholeLocks D (locks_of s seen) → D.tree (lock_of (s.place (name_of edit))) ≡ None →
    LockingOn D (s.place (name_of edit)) U → FillingOn U (lock_of (s.place (name_of edit))) E →
    IsSomeWhole E (lock_of (s.place (name_of edit))) → AreWholeLocks E (locks_of s (seen ++ edit ∷ []))
whole_then s D U E seen edit whole free locking filling here =
    subst (AreWholeLocks E) (sym (map-append (λ (e : RefEdit). lock_of (s.place (name_of e))) seen (edit ∷ [])))
    (whole_more E (locks_of s seen) (lock_of (s.place (name_of edit))) (whole_on D E (locks_of s seen) (keeps_whole D U E (s.place (name_of edit)) free locking filling) whole) here)

module _ (s : Store) (kind : Kind) (edits : List RefEdit) (apart : LocksAreApart s edits) (first mid : Meaning) (i : ℕ) (edit : RefEdit) (lt : i < length edits) (is : edit ≡ get_or edits i edit) (place : Path) (placed : place ≡ s.place (name_of edit)) (held : Held s kind edits apart first.tree (take i edits) mid.tree) (run : Leaves first mid (AddsLocks (locks_of s edits) (locks_of s edits) first.tree)) where
  abbrev lock : Path
  lock = lock_of place

  at : lock ≡ lock_of (s.place (name_of edit))
  at = ap lock_of placed

  within' : is_in (locks_of s edits) lock ≡ true
  within' = subst (λ (l : Path). is_in (locks_of s edits) l ≡ true) (sym at) (within s kind edits apart first mid i edit lt is lock at held run)

  pub locking_round : (one : Meaning) → OnlyLocks (locks_of s edits) first mid → Passes mid one (LockingOn (disk_of mid) place) → OnlyLocks (locks_of s edits) first one
  locking_round one before next locked staying D own here = locking_passes locked staying D first mid one place (own lock within') (before locked staying D own here) next

  pub filling_round : (one two : Meaning) → OnlyLocks (locks_of s edits) first mid → Passes mid one (LockingOn (disk_of mid) place) → is_file (one.tree lock) ≡ true →
      Passes one two (FillingOn (disk_of one) lock) → OnlyLocks (locks_of s edits) first two
  filling_round one two before next file last locked staying D own here =
      filling_passes locked staying D first one two lock (own lock within') file (locking_round one before next locked staying D own here) last

  module _ (one two : Meaning) (new : IsNewLock mid.tree lock one.tree) (next : Passes mid one (LockingOn (disk_of mid) place)) (last : Passes one two (FillingOn (disk_of one) lock)) where
    pub wholes_round : (q : Path) (text : List ℕ) → IsWholeAt (disk_of mid) q text → IsWholeAt (disk_of two) q text
    wholes_round q text whole = keeps_whole (disk_of mid) (disk_of one) (disk_of two) place new.free next.disk last.disk q text whole

    pub whole_round : AreWholeLocks (disk_of mid) (locks_of s (take i edits)) → IsSomeWhole (disk_of two) lock → AreWholeLocks (disk_of two) (locks_of s (take (i + 1) edits))
    whole_round whole here =
        subst (λ (l : List RefEdit). AreWholeLocks (disk_of two) (locks_of s l)) (sym (more s kind edits apart first mid i edit lt is lock at held run))
        (whole_then s (disk_of mid) (disk_of one) (disk_of two) (take i edits) edit whole
        (subst (λ (l : Path). mid.tree l ≡ None) at new.free)
        (subst (λ (p : Path). LockingOn (disk_of mid) p (disk_of one)) placed next.disk)
        (subst (λ (l : Path). FillingOn (disk_of one) l (disk_of two)) at last.disk)
        (subst (λ (l : Path). IsSomeWhole (disk_of two) l) at here))
