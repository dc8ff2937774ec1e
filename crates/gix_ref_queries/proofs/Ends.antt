-- Answers for followings.
use Rattle.std.proofs.Common.{◌≡◌, ◌∙◌, inl, inr, ap, refl, true, false, Bool, Bor, ℕ, List, Option, Some, None, Result, Ok, Err, sym, subst}
use Rattle.std.specs.Prelude.{IfOk, is_none}
use Rattle.gix_ref_queries.specs.Answers.{EndVerified, IsShownAs, LastName, ShowsEnd, ShowsLast, SymbolicFull, VerifiesFull}
use Rattle.gix_ref_queries.specs.Shortening.{SeesShort, short_name}
use Rattle.gix_ref_files.specs.Files.{Meaning, FaultCounts}
use Rattle.gix_ref_files.specs.declared.files.ReadAt.{Ghosts}
use Rattle.gix_ref_target.specs.PackedRecords.{Record}
use Rattle.gix_ref_store.specs.Lookup.{AreRecordsIn, LooksUp}
use Rattle.gix_ref_store.specs.declared.file.store.Store.{Store}
use Rattle.gix_ref_queries.specs.Resolving.{TargetsByName, NameEnd, EndsBy, EndFails, FollowsTo, SeesEnds, targets_in}
use Rattle.gix_ref_queries.specs.Resolving.NameEnd.{Reached, Missing, TooDeep}
use Rattle.gix_ref_queries.specs.declared.answer.Answer.{Answer}
use Rattle.gix_ref_queries.specs.declared.resolve.End.{End}
use Rattle.gix_ref_queries.specs.declared.resolve.End.TheVariants as ends
use Rattle.gix_ref_queries.proofs.Names.{follows_to, same_finds, same_records, unfollowed_by}
use Rattle.gix_ref_queries.proofs.ShortLemmas.{short_before, unshort_before}

module _ {F R : Type 0} (G : Ghosts R) (honest : Type 0) (means : F → Meaning) (faults : F → FaultCounts) (old : Store F) where
  -- what is answered where the following of a name ended so
  pub verified : (first last name : List ℕ) (of : End) (a : Answer) → first ≡ name → (honest → (records : List Record) → AreRecordsIn means old records → EndsBy (targets_in means old records) first last of) → (honest → SeesEnds means old first last of) → EndFails G honest means faults old last of → EndVerified of name a → VerifiesFull G honest means faults old name a
  verified first last name (ends.Object id) a same by sees fails said = inr (Reached last id, follows_to honest means old first last name (ends.Object id) (ends.Object id) (Reached last id) same refl refl by sees, said)
  verified first last name ends.Absent a same by sees fails said = inr (Missing last, follows_to honest means old first last name ends.Absent ends.Absent (Missing last) same refl refl by sees, said)
  verified first last name ends.TooDeep a same by sees fails said = inr (TooDeep, follows_to honest means old first last name ends.TooDeep ends.TooDeep TooDeep same refl refl by sees, said)
  verified first last name (ends.Unread error) a same by sees fails said = inl ((error, unfollowed_by G honest means faults old first last name (ends.Unread error) error refl same by sees fails), said)
  verified first last name ends.Memory a same by sees fails said = absurd said

  module _ (mid : Store F) (looked : LooksUp honest means old mid) where
    -- a name as it is shown, once the store was looked at
    shown_before : (short : Bool) (name shown : List ℕ) → IsShownAs honest means mid short name shown → IsShownAs honest means old short name shown
    shown_before false name shown is = is
    shown_before true name shown is = λ h. (
      short_before honest means old mid looked h false name shown (is h).0,
      λ records are. (is h).1 records (same_records honest means old mid records looked h are) ∙ ap (λ (find : TargetsByName). short_name find false name) (same_finds honest means old mid records looked h),
    )

    last_before : (short : Bool) (last name : List ℕ) (a : Answer) → ShowsLast G honest means faults mid short last name a → ShowsLast G honest means faults old short last name a
    last_before short last name a (inl (shown, is, says)) = inl (shown, shown_before short last shown is, says)
    last_before short last name a (inr (is_short, none, fails)) = inr (is_short, unshort_before G honest means faults false old mid last looked none, fails)

    -- what is answered by the last name, or without its short name
    pub led_to : (short : Bool) (end : NameEnd) (last at name : List ℕ) (a : Answer) → at ≡ last → FollowsTo honest means old name end →
        (ShowsLast G honest means faults old short last name a → ShowsEnd G honest means faults old short end name a) → ShowsLast G honest means faults mid short at name a → SymbolicFull G honest means faults old short name a
    led_to short end last at name a same leads so shows = inr (end, leads, so (subst (λ (l : List ℕ). ShowsLast G honest means faults old short l name a) same (last_before short at name a shows)))

-- the last name, as it is shown
pub last_is : (last last' shown shown' name name' : List ℕ) (a : Answer) → last ≡ last' → shown ≡ shown' → name ≡ name' → LastName last shown name a → LastName last' shown' name' a
last_is last last' shown shown' name name' a p q r says =
    subst (λ (n : List ℕ). LastName last' shown' n a) r (subst (λ (s : List ℕ). LastName last' s name a) q (subst (λ (l : List ℕ). LastName l shown name a) p says))

-- a short name that was found is what is to be shown short
pub shown_short : {F E : Type 0} (honest : Type 0) (means : F → Meaning) (store : Store F) (short : Bool) (name : List ℕ) (result : Result (Bor (List ℕ)) E) → short ≡ true →
    (honest → IfOk result (λ shown. SeesShort means store false name shown.now)) → (honest → (records : List Record) → AreRecordsIn means store records → IfOk result (λ shown. shown.now ≡ short_name (targets_in means store records) false name)) → IfOk result (λ shown. IsShownAs honest means store short name shown.now)
shown_short honest means store short name (Ok shown) is saw found = subst (λ (b : Bool). IsShownAs honest means store b name shown.now) (sym is) (λ h. (saw h, found h))
shown_short honest means store short name (Err error) is saw found = _

pub not_none : {A : Type 0} (o : Option A) → (o ≡ None → ⊥) → is_none o ≡ false
not_none None not = absurd (not refl)
not_none (Some x) not = refl
