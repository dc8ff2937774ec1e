-- The lock of `packed-refs`, and then those of the edits.
use Rattle.std.proofs.Common.{◌≡◌, ◌⊎◌, inl, inr, ⊎_elim, ℕ, List, [], ◌∷◌, ◌++◌, true, false, Option, Some, None, map, refl, sym, ◌∙◌, ap, subst}
use Rattle.std.specs.Prelude.{bytes_eq}
use Rattle.gix_ref_files.specs.Disk.{Disk}
use Rattle.gix_ref_files.specs.Files.{Meaning, Leaves, IsMet, FaultCounts, NoFewer}
use Rattle.gix_ref_files.proofs.Meeting.{met_wider, no_fewer_starts}
use Rattle.gix_ref_files.specs.declared.files.FileError.{FileError}
use Rattle.gix_ref_files.specs.Lock.{lock_of}
use Rattle.gix_ref_files.specs.Settled.{IsWholeAt}
use Rattle.gix_ref_files.specs.Tree.{Tree, Path, Content, fronts, is_file}
use Rattle.gix_ref_files.specs.Tree.Content.{File, Folder}
use Rattle.gix_ref_files.proofs.Moments.{joins, weaken, passes_joins}
use Rattle.gix_ref_packed.specs.declared.packed.buffer.open.Error.TheVariants.{Io as unread, HeaderParsing, Iter, Memory as open_memory}
use Rattle.gix_ref_theory.specs.Readings.{Store}
use Rattle.gix_ref_transaction.specs.Causes.{IsCountedWith}
use Rattle.gix_ref_transaction.specs.OwnLocks.{is_in, leads_to, AddsLocks, IsOurs, OnlyLocks, OnlyRemoves, RemovesLocks}
use Rattle.gix_ref_transaction.specs.PrepareSteps.{packed_places, AreWholeLocks, IsPackedPlace, TakesPacked}
use Rattle.gix_ref_transaction.specs.declared.prepare.error.Error.{Error}
use Rattle.gix_ref_transaction.specs.declared.prepare.error.Error.TheVariants.{UnsafeName, DeviceName, DeleteMustNotExist, TargetNotFull, OtherHashKind, PreprocessingFailed, PackedTransactionAcquire, Packed, PackedFind, PackedTransactionPrepare, PathCollision, LockAcquire, DeleteReferenceMustExist, MustExist, MustNotExist, ReferenceOutOfDate, ReferenceDecode, Io, Memory}
use Rattle.gix_ref_transaction.proofs.Adds.{adds_then, adds_wider, any_cases, any_left, any_right, clash, either_way, in_one}

in_left : (xs ys : List Path) (q : Path) → is_in xs q ≡ true → is_in (xs ++ ys) q ≡ true
in_left xs ys q = any_left (λ p. bytes_eq p q) xs ys

in_right : (xs ys : List Path) (q : Path) → is_in ys q ≡ true → is_in (xs ++ ys) q ≡ true
in_right xs ys q = any_right (λ p. bytes_eq p q) xs ys

leads_left : (xs ys : List Path) (q : Path) → leads_to xs q ≡ true → leads_to (xs ++ ys) q ≡ true
leads_left xs ys q = any_left (λ p. is_in (fronts p) q) xs ys

leads_right : (xs ys : List Path) (q : Path) → leads_to ys q ≡ true → leads_to (xs ++ ys) q ≡ true
leads_right xs ys q = any_right (λ p. is_in (fronts p) q) xs ys

module _ (xs all : List Path) where
  pub adds_first : (S T : Tree) → AddsLocks xs xs S T → AddsLocks (xs ++ all) (xs ++ all) S T
  adds_first S T adds = adds_wider xs (xs ++ all) xs (xs ++ all) S T (in_left xs all) (leads_left xs all) adds

  -- some of the others too
  adds_some : (some : List Path) (S T U : Tree) → AddsLocks xs xs S T → AddsLocks some all T U → AddsLocks (xs ++ some) (xs ++ all) S U
  adds_some some S T U first second =
      adds_then (xs ++ some) (xs ++ some) (xs ++ all) S T U (λ q h. h)
      (adds_wider xs (xs ++ some) xs (xs ++ all) S T (in_left xs some) (leads_left xs all) first)
      (adds_wider some (xs ++ some) all (xs ++ all) T U (in_right xs some) (leads_right xs all) second)

  pub adds_both : (S T U : Tree) → AddsLocks xs xs S T → AddsLocks all all T U → AddsLocks (xs ++ all) (xs ++ all) S U
  adds_both S T U first second = adds_some all S T U first second

  pub leaves_both : (old mid new : Meaning) → Leaves old mid (AddsLocks xs xs old.tree) → Leaves mid new (AddsLocks all all mid.tree) → Leaves old new (AddsLocks (xs ++ all) (xs ++ all) old.tree)
  leaves_both old mid new first second =
      joins (weaken first (λ (T : Tree). adds_first old.tree T)) (weaken second (λ (T : Tree). adds_both old.tree mid.tree T first.tree))

  pub takes_both : (old mid new : Meaning) → OnlyLocks xs old mid → OnlyLocks all mid new → OnlyLocks (xs ++ all) old new
  takes_both old mid new first second locked staying D own here =
      let run = first locked staying D (λ q h. own q (in_left xs all q h)) here in
      passes_joins run (second locked staying D (λ q h. own q (in_right xs all q h)) run.disk)

  pub takes_first : (old new : Meaning) → OnlyLocks xs old new → OnlyLocks (xs ++ all) old new
  takes_first old new first locked staying D own here = first locked staying D (λ q h. own q (in_left xs all q h)) here

  -- and the first are removed again
  pub takes_less : (old mid new : Meaning) → OnlyLocks (xs ++ all) old mid → OnlyRemoves xs mid new → OnlyLocks (xs ++ all) old new
  takes_less old mid new first removes locked staying D own here =
      let run = first locked staying D own here in
      passes_joins run (removes locked staying [] D (λ q h. own q (in_left xs all q h)) run.disk)

  pub adds_again : (left named : List Path) (S T U V : Tree) → ((q : Path) → is_in xs q ≡ true → S q ≡ None) → AddsLocks xs xs S T → AddsLocks left all T U → RemovesLocks xs U V →
      ((q : Path) → is_in xs q ≡ true → is_in named q ≡ false → is_file (V q) ≡ false) → ((q : Path) → is_in left q ≡ true → is_in named q ≡ true) → AddsLocks named (xs ++ all) S V
  adds_again left named S T U V free first second removes gone kept q =
      ⊎_elim
      (λ same. ⊎_elim (λ old. inl (same ∙ old)) (λ new. inr (new.0, subst (λ content. IsOurs named (xs ++ all) q content) (sym same) (by (U q) refl same new.1))) (adds_some left S T U first second q))
      (λ gone'. inl (gone'.1 ∙ sym (free q gone'.0)))
      (removes q)
    where
      by : (content : Option Content) → U q ≡ content → V q ≡ U q → IsOurs (xs ++ left) (xs ++ all) q content → IsOurs named (xs ++ all) q content
      by (Some (File bytes)) is same within = ⊎_elim
          (λ mine. either_way (is_in named q) (λ there. there) (λ out. clash (ap is_file (same ∙ is)) (gone q mine out)))
          (λ other. kept q other)
          (any_cases (λ p. bytes_eq p q) xs left within)
      by (Some Folder) is same leads = leads
      by None is same none = none

  pub leaves_again : (old mid end new : Meaning) (left : List Path) → ((q : Path) → is_in xs q ≡ true → old.tree q ≡ None) → Leaves old mid (AddsLocks xs xs old.tree) → Leaves mid end (AddsLocks all all mid.tree) →
      AddsLocks left all mid.tree end.tree → ((q : Path) → is_in left q ≡ true → is_in all q ≡ true) → Leaves end new (RemovesLocks xs end.tree) → Leaves old new (AddsLocks (xs ++ all) (xs ++ all) old.tree)
  leaves_again old mid end new left free first second adds ours removes =
      joins (leaves_both old mid end first second)
      (weaken removes (λ (V : Tree) less. adds_again left (xs ++ all) old.tree mid.tree end.tree V free first.tree adds less (λ q mine out. clash (in_left xs all q mine) out) (λ q h. in_right xs all q (ours q h))))

-- locks that stay whole, and others
pub whole_both : (D E : Disk) (xs ys : List Path) → ((q : Path) (text : List ℕ) → IsWholeAt D q text → IsWholeAt E q text) → AreWholeLocks D xs → AreWholeLocks E ys → AreWholeLocks E (xs ++ ys)
whole_both D E [] ys keeps first second = second
whole_both D E (x ∷ xs) ys keeps first second = ((first.0.0, keeps x first.0.0 first.0.1), whole_both D E xs ys keeps first.1 second)

-- a count up to a later moment
rose_later : (error : FileError) (a b d : FaultCounts) → NoFewer b d → IsMet error a b → IsMet error a d
rose_later error a b d le met = met_wider {error = error} (no_fewer_starts a) le met

pub counted_after : (honest : Type 0) (read : FileError → Type 0) (a b d : FaultCounts) (error : Error) → NoFewer b d → IsCountedWith honest read a b error → IsCountedWith honest read a d error
counted_after honest read a b d (Packed (unread error)) le told = λ h. (⊎_elim (λ risen. inl (rose_later error a b d le risen)) (λ failed. inr failed) (told h).0, (told h).1)
counted_after honest read a b d (Packed HeaderParsing) le told = tt
counted_after honest read a b d (Packed (Iter line)) le told = tt
counted_after honest read a b d (Packed open_memory) le told = tt
counted_after honest read a b d (PackedFind error) le told = tt
counted_after honest read a b d (Io error) le told = (rose_later error a b d le told.0, told.1)
counted_after honest read a b d UnsafeName le told = tt
counted_after honest read a b d DeviceName le told = tt
counted_after honest read a b d DeleteMustNotExist le told = tt
counted_after honest read a b d PackedTransactionAcquire le told = tt
counted_after honest read a b d TargetNotFull le told = tt
counted_after honest read a b d OtherHashKind le told = tt
counted_after honest read a b d (PreprocessingFailed source) le told = tt
counted_after honest read a b d (PathCollision name) le told = tt
counted_after honest read a b d (LockAcquire name) le told = tt
counted_after honest read a b d (DeleteReferenceMustExist name) le told = tt
counted_after honest read a b d (MustExist name expected) le told = tt
counted_after honest read a b d (MustNotExist name actual new) le told = tt
counted_after honest read a b d (ReferenceOutOfDate name expected actual) le told = tt
counted_after honest read a b d (PackedTransactionPrepare source) le told = tt
counted_after honest read a b d (ReferenceDecode source) le told = tt
counted_after honest read a b d Memory le told = tt

-- the lock was free, where it was taken
pub taken_free : (T U : Tree) (packed : Option Path) (xs : List Path) → map lock_of (packed_places packed) ≡ xs → TakesPacked T packed U → (q : Path) → is_in xs q ≡ true → T q ≡ None
taken_free T U packed xs is takes q within = by packed takes (subst (λ (l : List Path). is_in l q ≡ true) (sym is) within)
  where
    by : (p : Option Path) → TakesPacked T p U → is_in (map lock_of (packed_places p)) q ≡ true → T q ≡ None
    by None takes' within' = clash within' refl
    by (Some place) takes' within' = subst (λ (r : Path). T r ≡ None) (in_one (lock_of place) q within') takes'.0

-- the locks that are named, where that of `packed-refs` may have been added
pub possible : (s : Store) (all : List Path) (packed : Option Path) → IsPackedPlace s packed → (left named : List Path) → (named ≡ left) ⊎ (named ≡ left ++ map lock_of (packed_places packed)) →
    ((q : Path) → is_in left q ≡ true → is_in all q ≡ true) → (q : Path) → is_in named q ≡ true → is_in (lock_of s.packed_path ∷ all) q ≡ true
possible s all packed place left named (inl same) ours q there = in_right (lock_of s.packed_path ∷ []) all q (ours q (subst (λ (l : List Path). is_in l q ≡ true) same there))
possible s all packed place left named (inr is) ours q there = ⊎_elim
    (λ old. in_right (lock_of s.packed_path ∷ []) all q (ours q old))
    (λ mine. in_left (lock_of s.packed_path ∷ []) all q (by place mine))
    (any_cases (λ p. bytes_eq p q) left (map lock_of (packed_places packed)) (subst (λ (l : List Path). is_in l q ≡ true) is there))
  where
    by : IsPackedPlace s packed → is_in (map lock_of (packed_places packed)) q ≡ true → is_in (lock_of s.packed_path ∷ []) q ≡ true
    by (inl none) mine = clash (subst (λ (p : Option Path). is_in (map lock_of (packed_places p)) q ≡ true) none mine) refl
    by (inr some) mine = subst (λ (p : Option Path). is_in (map lock_of (packed_places p)) q ≡ true) some mine
