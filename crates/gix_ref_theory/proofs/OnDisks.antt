-- The theorems on losses of power, put together.
use Rattle.std.proofs.Common.{◌≡◌, ◌≢◌, inl, inr, ℕ, List, [], ◌∷◌, Some, None, refl, sym, ◌∙◌, subst}
use Rattle.gix_ref_files.specs.Tree.{Path}
use Rattle.gix_ref_files.specs.Disk.{Disk}
use Rattle.gix_ref_files.specs.Lock.{lock_of}
use Rattle.gix_ref_files.specs.Settled.{AllStay, IsSettledAt, synced}
use Rattle.gix_ref_files.specs.DiskSteps.{BeginsOn}
use Rattle.gix_ref_files.specs.Steps.{Step}
use Rattle.gix_ref_files.specs.Steps.Step.{Create, Append, Line, Rename, RemoveFile, MakeFolders, RemoveFolder, End}
use Rattle.gix_ref_files.proofs.Entries.{synced_may}
use Rattle.gix_ref_files.proofs.Settling.{lost_holds, stands_settled, holds_fewer, stays_fewer}
use Rattle.gix_ref_theory.specs.OnRealTrees.{view_of}
use Rattle.gix_ref_theory.specs.Views.{View, after, changed_at, IsOwnLock}
use Rattle.gix_ref_theory.specs.OnDisks.{Rests, IsWithin, IsSpokenOf, AreWhole, EveryLossIsInOneWrite, EveryRunSettles, EveryDiskIsWithin, LockRemovalsKeepWithin, EveryLossWithin, EveryDoneRunIsKept, IsOwnStep, OwnStepsWriteNothing, SyncsWriteNothing}
use Rattle.gix_ref_theory.proofs.Reached.{reached, at_end, within_lost, within_removal, rests_create, rests_append, rests_remove, rests_folders, rests_no_folder}

rests : (locked staying : List Path) (texts : View) (D : Disk) → AllStay D staying → AreWhole texts D → Rests (IsSpokenOf locked D) staying texts (view_of D.tree) D
rests locked staying texts D stays whole = record { files = λ q spoken. spoken.1; stays = stays; whole = whole }

pub in_one : EveryLossIsInOneWrite
in_one locked staying texts plan writes D E T stays whole carry at lost =
    within_lost (IsSpokenOf locked D) staying writes (view_of D.tree) E T (reached (IsSpokenOf locked D) staying plan writes texts (view_of D.tree) D E (rests locked staying texts D stays whole) carry at) lost

pub within : EveryDiskIsWithin
within locked staying texts plan writes D E stays whole carry at =
    reached (IsSpokenOf locked D) staying plan writes texts (view_of D.tree) D E (rests locked staying texts D stays whole) carry at

pub removal : LockRemovalsKeepWithin
removal locked writes D E F p own inside begins =
    within_removal (IsSpokenOf locked D) [] writes (view_of D.tree) E F p (λ spoken. spoken.0 own) begins inside

pub losses : EveryLossWithin
losses locked writes D E T inside lost = within_lost (IsSpokenOf locked D) [] writes (view_of D.tree) E T inside lost

pub own_is_lock : (locked : List Path) (path : Path) → IsOwnLock locked path → (q : Path) × (path ≡ lock_of q)
own_is_lock [] path h = absurd h
own_is_lock (l ∷ ls) path (inl h) = (l, h)
own_is_lock (l ∷ ls) path (inr h) = own_is_lock ls path h

pub settles : EveryRunSettles
settles locked staying texts plan writes D E stays whole settled carry done =
    let end = at_end (IsSpokenOf locked D) staying plan writes texts (view_of D.tree) D E (rests locked staying texts D stays whole) carry done in
    let at : (q : Path) → ((p : Path) → q ≢ lock_of p) → IsSettledAt E (after writes (view_of D.tree) q) q =
    λ q no_lock. end.1.files q (λ own. let l = own_is_lock locked q own in no_lock l.0 l.1, settled q no_lock) in
    let is : (q : Path) → ((p : Path) → q ≢ lock_of p) → view_of E.tree q ≡ after writes (view_of D.tree) q =
    λ q no_lock. stands_settled E (after writes (view_of D.tree) q) q (at q no_lock) in
    (λ q no_lock. subst (λ f. IsSettledAt E f q) (sym (is q no_lock)) (at q no_lock), end.1.stays, is)

pub done_kept : EveryDoneRunIsKept
done_kept locked staying texts plan writes D E T stays whole settled carry done lost q no_lock =
    let end = settles locked staying texts plan writes D E stays whole settled carry done in
    lost_holds E T (view_of E.tree q) (λ f. f ≡ view_of E.tree q) q (end.0 q no_lock) refl lost ∙ end.2 q no_lock

pub own_steps : OwnStepsWriteNothing
own_steps locked staying D E F step own at begins = out (by step own begins)
  where
    no_bytes : (bytes : List ℕ) → None ≡ Some bytes → ⊥
    no_bytes bytes e = cc

    inside : Rests (IsSpokenOf locked D) staying (λ p. None) (view_of D.tree) E
    inside = record { files = at.0; stays = at.1; whole = λ p bytes is. absurd (no_bytes bytes is) }

    out : ((texts : View) × Rests (IsSpokenOf locked D) staying texts (view_of D.tree) F) → IsWithin (IsSpokenOf locked D) [] (view_of D.tree) F × AllStay F staying
    out found = (found.1.files, found.1.stays)

    by : (step : Step) → IsOwnStep locked staying step → BeginsOn step E F → (texts : View) × Rests (IsSpokenOf locked D) staying texts (view_of D.tree) F
    by (Create p) own begins = (changed_at p None (λ q. None), rests_create (IsSpokenOf locked D) staying (λ q. None) (view_of D.tree) E F p (λ spoken. spoken.0 own) inside begins)
    by (Append p bytes) own begins = (changed_at p None (λ q. None), rests_append (IsSpokenOf locked D) staying (λ q. None) (view_of D.tree) E F p bytes (λ spoken. spoken.0 own) inside begins)
    by (RemoveFile p) own begins = (changed_at p None (λ q. None), rests_remove (IsSpokenOf locked D) staying (λ q. None) (view_of D.tree) E F p (λ spoken. spoken.0 own) inside begins)
    by (MakeFolders p) own begins = (λ q. None, rests_folders (IsSpokenOf locked D) staying (λ q. None) (view_of D.tree) E F p inside begins)
    by (RemoveFolder p) own begins = (λ q. None, rests_no_folder (IsSpokenOf locked D) staying (λ q. None) (view_of D.tree) E F p own inside begins)
    by (Line p bytes) own begins = absurd own
    by (Rename from to) own begins = absurd own
    by End own begins = absurd own

pub syncs : SyncsWriteNothing
syncs locked staying D E F sync at (inl e) = subst (λ (X : Disk). IsWithin (IsSpokenOf locked D) [] (view_of D.tree) X × AllStay X staying) (sym e) at
syncs locked staying D E F sync at (inr e) =
    subst (λ (X : Disk). IsWithin (IsSpokenOf locked D) [] (view_of D.tree) X × AllStay X staying) (sym e) (
      λ q counts. holds_fewer E (synced sync E) (λ r c may. synced_may sync E r c may) (view_of D.tree q) (λ f. f ≡ view_of D.tree q) q (at.0 q counts),
      stays_fewer E (synced sync E) (λ r c may. synced_may sync E r c may) staying at.1,
    )
