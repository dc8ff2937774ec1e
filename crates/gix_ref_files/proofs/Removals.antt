-- A group of removals that is synced together.
use Rattle.std.proofs.Common.{◌≡◌, ◌≢◌, ◌⊎◌, inl, inr, ℕ, List, [], ◌∷◌, take, Bool, true, false, Option, Some, None, refl, sym, ◌∙◌, ap, subst}
use Rattle.std.specs.Prelude.{bytes_eq, if◌then◌else◌}
use Rattle.std.proofs.lemmas.Bool.{false≢true}
use Rattle.gix_ref_files.specs.Tree.{Path, Content, file_of, is_file}
use Rattle.gix_ref_files.specs.Tree.Content.{File, Folder}
use Rattle.gix_ref_files.specs.Disk.{Disk, Remains, MayBe, folder_of, removed_on, item_at}
use Rattle.gix_ref_files.specs.Settled.{Sync, synced, synced_by, MayHold, IsSettledAt, IsIn}
use Rattle.gix_ref_files.specs.Steps.Step.{RemoveFile}
use Rattle.gix_ref_files.specs.DiskSteps.{DoesOn, BeginsOn, IsSomeSynced}
use Rattle.gix_ref_files.specs.Removals.{IsSyncedBy, SettlesAll, RemovesAll, BeginsAll, MayBeGone, EveryLossInAGroup, EveryGroupSettles}
use Rattle.gix_ref_files.proofs.Changes.{Gone, removes, holds_changed}
use Rattle.gix_ref_files.proofs.Entries.{entry_synced, synced_by_may, synced_by_tree}
use Rattle.gix_ref_files.proofs.Puts.{put_at}
use Rattle.gix_ref_files.proofs.Settling.{holds_fewer, holds_weaker}

-- one removal, begun or done: the path may hold no file, and all else is as it was
one_gone : (before : Path → Option (List ℕ)) (paths : List Path) (p : Path) (D E : Disk) (q : Path) → IsIn p paths → BeginsOn (RemoveFile p) D E → MayHold D (before q) (MayBeGone paths (before q) q) q → MayHold E (before q) (MayBeGone paths (before q) q) q
one_gone before paths p D E q is (inl e) holds = subst (λ (X : Disk). MayHold X (before q) (MayBeGone paths (before q) q) q) (sym e) holds
one_gone before paths p D E q is (inr (file, e)) holds =
    subst (λ (X : Disk). MayHold X (before q) (MayBeGone paths (before q) q) q) (sym e)
    (holds_changed D (removed_on D p) (Gone p) (removes D p file) (before q) (MayBeGone paths (before q) q) (MayBeGone paths (before q) q) q (λ f h. h)
    (λ c gone. inr (subst (λ (x : Path). IsIn x paths) gone.0 is, ap file_of gone.1)) holds)

done_begins : (p : Path) (D E : Disk) → DoesOn (RemoveFile p) D E → BeginsOn (RemoveFile p) D E
done_begins p D E (inl (file, e)) = inr (file, e)
done_begins p D E (inr (none, e)) = inl e

-- all of these are among those
abbrev AllIn : List Path → List Path → Type 0
AllIn [] all = Unit {0}
AllIn (p ∷ paths) all = IsIn p all × AllIn paths all

all_more : (paths all : List Path) (p : Path) → AllIn paths all → AllIn paths (p ∷ all)
all_more [] all p are = tt
all_more (x ∷ paths) all p are = (inr are.0, all_more paths all p are.1)

all_self : (paths : List Path) → AllIn paths paths
all_self [] = tt
all_self (p ∷ paths) = (inl refl, all_more paths paths p (all_self paths))

some_gone : (before : Path → Option (List ℕ)) (all paths : List Path) (D E : Disk) (q : Path) → AllIn paths all → BeginsAll paths D E → MayHold D (before q) (MayBeGone all (before q) q) q → MayHold E (before q) (MayBeGone all (before q) q) q
some_gone before all [] D E q are e holds = subst (λ (X : Disk). MayHold X (before q) (MayBeGone all (before q) q) q) (sym e) holds
some_gone before all (p ∷ paths) D E q are (inl begun) holds = one_gone before all p D E q are.0 begun holds
some_gone before all (p ∷ paths) D E q are (inr (mid, does, more)) holds =
    some_gone before all paths mid E q are.1 more (one_gone before all p D mid q are.0 (done_begins p D mid does) holds)

all_begin : (paths : List Path) (D E : Disk) → RemovesAll paths D E → BeginsAll paths D E
all_begin [] D E e = e
all_begin (p ∷ paths) D E (mid, does, more) = inr (mid, does, all_begin paths mid E more)

pub in_group : EveryLossInAGroup
in_group paths syncs before D E q settled at = by at
  where
    start : MayHold D (before q) (MayBeGone paths (before q) q) q
    start = holds_weaker D (before q) (λ f. f ≡ before q) (MayBeGone paths (before q) q) q (λ f h. inl h) settled

    by : BeginsAll paths D E ⊎ ((mid : Disk) × RemovesAll paths D mid × IsSomeSynced syncs mid E) → MayHold E (before q) (MayBeGone paths (before q) q) q
    by (inl begun) = some_gone before paths paths D E q (all_self paths) begun start
    by (inr (mid, all, (n, e))) =
        subst (λ (X : Disk). MayHold X (before q) (MayBeGone paths (before q) q) q) (sym e)
        (holds_fewer mid (synced_by (take n syncs) mid) (λ r c may. synced_by_may (take n syncs) mid r c may) (before q) (MayBeGone paths (before q) q) q
        (some_gone before paths paths D mid q (all_self paths) (all_begin paths D mid all) start))

-- Elsewhere.

not_here : (before : Path → Option (List ℕ)) (p : Path) (D E : Disk) (q : Path) → (p ≢ q) → BeginsOn (RemoveFile p) D E → IsSettledAt D (before q) q → IsSettledAt E (before q) q
not_here before p D E q apart (inl e) settled = subst (λ (X : Disk). IsSettledAt X (before q) q) (sym e) settled
not_here before p D E q apart (inr (file, e)) settled =
    subst (λ (X : Disk). IsSettledAt X (before q) q) (sym e)
    (holds_changed D (removed_on D p) (Gone p) (removes D p file) (before q) (λ f. f ≡ before q) (λ f. f ≡ before q) q (λ f h. h) (λ c gone. absurd (apart gone.0)) settled)

all_elsewhere : (before : Path → Option (List ℕ)) (paths : List Path) (D E : Disk) (q : Path) → (IsIn q paths → ⊥) → RemovesAll paths D E → IsSettledAt D (before q) q → IsSettledAt E (before q) q
all_elsewhere before [] D E q never e settled = subst (λ (X : Disk). IsSettledAt X (before q) q) (sym e) settled
all_elsewhere before (p ∷ paths) D E q never (mid, does, more) settled =
    all_elsewhere before paths mid E q (λ is. never (inr is)) more (not_here before p D mid q (λ same. never (inl same)) (done_begins p D mid does) settled)

-- At one of the paths: nothing that is a file is there, and once its folder is synced nothing else remains.

abbrev HoldsNone : Disk → Path → Type 0
HoldsNone D q = file_of (D.tree q) ≡ None

no_file : (c : Option Content) → is_file c ≡ false → file_of c ≡ None
no_file (Some (File bytes)) h = absurd (false≢true (sym h))
no_file (Some Folder) h = refl
no_file None h = refl

gone_now : (p : Path) (D E : Disk) → DoesOn (RemoveFile p) D E → HoldsNone E p
gone_now p D E (inl (file, e)) = ap (λ (X : Disk). file_of (X.tree p)) e ∙ ap file_of (put_at D.tree p None)
gone_now p D E (inr (none, e)) = ap (λ (X : Disk). file_of (X.tree p)) e ∙ no_file (D.tree p) none

stays_gone : (p q : Path) (D E : Disk) → DoesOn (RemoveFile p) D E → HoldsNone D q → HoldsNone E q
stays_gone p q D E (inr (none, e)) gone = ap (λ (X : Disk). file_of (X.tree q)) e ∙ gone
stays_gone p q D E (inl (file, e)) gone = ap (λ (X : Disk). file_of (X.tree q)) e ∙ by (bytes_eq p q)
  where
    by : (b : Bool) → file_of (if b then None else D.tree q) ≡ None
    by true = refl
    by false = gone

all_stay_gone : (paths : List Path) (q : Path) (D E : Disk) → RemovesAll paths D E → HoldsNone D q → HoldsNone E q
all_stay_gone [] q D E e gone = ap (λ (X : Disk). file_of (X.tree q)) e ∙ gone
all_stay_gone (p ∷ paths) q D E (mid, does, more) gone = all_stay_gone paths q mid E more (stays_gone p q D mid does gone)

all_gone : (paths : List Path) (q : Path) (D E : Disk) → IsIn q paths → RemovesAll paths D E → HoldsNone E q
all_gone [] q D E is all = absurd is
all_gone (p ∷ paths) q D E (inl same) (mid, does, more) = all_stay_gone paths q mid E more (subst (HoldsNone mid) same (gone_now p D mid does))
all_gone (p ∷ paths) q D E (inr is) (mid, does, more) = all_gone paths q mid E is more

-- of an entry without a file no file remains
none_remains : (D : Disk) (q : Path) (c : Option Content) → HoldsNone D q → Remains (item_at D q) c → file_of c ≡ None
none_remains D q c gone r = by (D.tree q) gone r
  where
    by : (here : Option Content) → file_of here ≡ None → Remains (record { content = here; synced = D.unsynced.synced q }) c → file_of c ≡ None
    by (Some (File bytes)) g r = absurd (some_none bytes g)
      where
        some_none : (bytes : List ℕ) → Some bytes ≡ None → ⊥
        some_none bytes e = cc
    by (Some Folder) g r = ap file_of r.2
    by None g r = ap file_of r.2

synced_none : (syncs : List Sync) (q : Path) (D : Disk) (c : Option Content) → IsSyncedBy (folder_of q) syncs → HoldsNone D q → MayBe (synced_by syncs D) q c → file_of c ≡ None
synced_none [] q D c is gone may = absurd is
synced_none (s ∷ syncs) q D c (inl same) gone may =
    none_remains D q c gone
    (entry_synced D (folder_of q) q c refl (subst (λ (x : Sync). MayBe (synced x D) q c) same (synced_by_may syncs (synced s D) q c may)))
synced_none (s ∷ syncs) q D c (inr is) gone may =
    synced_none syncs q (synced s D) c is (ap (λ (T : Path → Option Content). file_of (T q)) (synced_by_tree (s ∷ []) D) ∙ gone) may

is_synced : (paths : List Path) (syncs : List Sync) (q : Path) → IsIn q paths → SettlesAll paths syncs → IsSyncedBy (folder_of q) syncs
is_synced [] syncs q is all = absurd is
is_synced (p ∷ paths) syncs q (inl same) all = subst (λ (x : Path). IsSyncedBy (folder_of x) syncs) same all.0
is_synced (p ∷ paths) syncs q (inr is) all = is_synced paths syncs q is all.1

none_some : (bytes : List ℕ) → None ≡ Some bytes → ⊥
none_some bytes e = cc

pub after_group : EveryGroupSettles
after_group paths syncs before D mid q settled settles all = (
  λ is. record {
    entry = λ c may. synced_none syncs q mid c (is_synced paths syncs q is settles) (all_gone paths q D mid is all) may;
    way = λ bytes e. absurd (none_some bytes e);
  },
  λ never. holds_fewer mid (synced_by syncs mid) (λ r c may. synced_by_may syncs mid r c may) (before q) (λ f. f ≡ before q) q (all_elsewhere before paths D mid q never all settled),
)
