-- What stays settled, and what syncs settle.
use Rattle.std.proofs.Common.{◌≡◌, ◌≢◌, ◌⊎◌, inl, inr, ℕ, List, [], ◌∷◌, ◌++◌, length, Bool, true, false, Option, Some, None, refl, sym, ◌∙◌, ap, subst, append_assoc}
use Rattle.std.specs.Prelude.{bytes_eq, if◌then◌else◌, ◌&&◌, ◌==◌, is_some}
use Rattle.std.specs.List.{list_all}
use Rattle.std.proofs.lemmas.Bool.{cases_Bool, false≢true, true≢false, cond-true, cond-false, eqb-true}
use Rattle.std.proofs.lemmas.Slice.Eq.{bytes_eq-Decides}
use Rattle.gix_ref_files.specs.Tree.{Tree, Path, Content, bytes_of, is_file, is_folder, file_of, has_folders, fronts, fronts_after, IsEmptyFolder, IsShaped}
use Rattle.gix_ref_files.specs.Tree.Content.{File, Folder}
use Rattle.gix_ref_files.specs.Disk.{DiskItem, Disk, Remains, item_at, MayBe, with_item, file_synced, folder_synced, folder_of, a_folder, with_folder_on, Lost}
use Rattle.gix_ref_files.specs.Settled.Sync.{OfFile, OfFolder}
use Rattle.gix_ref_files.specs.Settled.{StaysFolder, AllStay, MayHold, IsSettledAt, IsWholeAt, IsIn, AreIn, Settles, SettlesPath, SettlesRemoval, Sync, synced_by, sync_of_folder}
use Rattle.gix_ref_files.proofs.FolderOf.{fronts_of_folder}
use Rattle.gix_ref_files.proofs.Entries.{now_may_be, entered_may, synced_may, synced_by_may, entry_synced, folder_remains}

pub both_true : (a b : Bool) → (a && b) ≡ true → (a ≡ true) × (b ≡ true)
both_true true b h = (refl, h)
both_true false b h = absurd (false≢true h)

-- folders that stay are chosen as folders
all_folders : (D : Disk) (entries : Tree) → ((p : Path) → MayBe D p (entries p)) → (fs : List Path) → AllStay D fs → list_all (λ f. is_folder (entries f)) fs ≡ true
all_folders D entries may [] stay = refl
all_folders D entries may (f ∷ fs) stay =
    ap (λ c. is_folder c && list_all (λ g. is_folder (entries g)) fs) (stay.0 (entries f) (may f)) ∙ all_folders D entries may fs stay.1

-- what a loss of power leaves at a path of which this is known
pub lost_holds : (D : Disk) (T : Tree) (before : Option (List ℕ)) (P : Option (List ℕ) → Type 0) (p : Path) → MayHold D before P p → P before → Lost D T → P (file_of (T p))
lost_holds D T before P p holds old (entries, may, stands) =
    subst (λ c. P (file_of c)) (sym (stands p)) (by (cases_Bool (has_folders entries p)))
  where
    no_folders : (b : Option (List ℕ)) → before ≡ b → has_folders entries p ≡ false → P (file_of None)
    no_folders None e none = subst P e old
    no_folders (Some bytes) e none = absurd (true≢false (sym (all_folders D entries may (fronts p) (holds.way bytes e)) ∙ none))

    by : (has_folders entries p ≡ true) ⊎ (has_folders entries p ≡ false) → P (file_of (if has_folders entries p then entries p else None))
    by (inl e) = subst (λ c. P (file_of c)) (sym (cond-true (has_folders entries p) (entries p) None e)) (holds.entry (entries p) (may p))
    by (inr e) = subst (λ c. P (file_of c)) (sym (cond-false (has_folders entries p) (entries p) None e)) (no_folders before refl e)

-- the file that is there is one that may be
pub stands_settled : (D : Disk) (file : Option (List ℕ)) (p : Path) → IsSettledAt D file p → file_of (D.tree p) ≡ file
stands_settled D file p settled = settled.entry (D.tree p) (now_may_be D p)

-- a loss of power may leave all as it is
pub stop_is_loss : (D : Disk) → IsShaped D.tree → Lost D D.tree
stop_is_loss D shaped = (D.tree, now_may_be D, λ p. by p (D.tree p) refl (cases_Bool (has_folders D.tree p)))
  where
    by : (p : Path) (c : Option Content) → D.tree p ≡ c → (has_folders D.tree p ≡ true) ⊎ (has_folders D.tree p ≡ false) → D.tree p ≡ (if has_folders D.tree p then D.tree p else None)
    by p c is (inl e) = sym (cond-true (has_folders D.tree p) (D.tree p) None e)
    by p None is (inr e) = is ∙ sym (cond-false (has_folders D.tree p) (D.tree p) None e)
    by p (Some c) is (inr e) = absurd (true≢false (sym (shaped p (ap is_some is)) ∙ e))

-- where less may be, less may be lost
pub lost_more : (D E : Disk) (T : Tree) → ((q : Path) (c : Option Content) → MayBe E q c → MayBe D q c) → Lost E T → Lost D T
lost_more D E T fewer (entries, may, stands) = (entries, λ p. fewer p (entries p) (may p), stands)

pub stays_fewer : (D E : Disk) → ((q : Path) (c : Option Content) → MayBe E q c → MayBe D q c) → (fs : List Path) → AllStay D fs → AllStay E fs
stays_fewer D E fewer [] stay = tt
stays_fewer D E fewer (f ∷ fs) stay = (λ c may. stay.0 c (fewer f c may), stays_fewer D E fewer fs stay.1)

pub holds_fewer : (D E : Disk) → ((q : Path) (c : Option Content) → MayBe E q c → MayBe D q c) → (before : Option (List ℕ)) (P : Option (List ℕ) → Type 0) (p : Path) → MayHold D before P p → MayHold E before P p
holds_fewer D E fewer before P p holds = record {
  entry = λ c may. holds.entry c (fewer p c may);
  way = λ bytes is. stays_fewer D E fewer (fronts p) (holds.way bytes is);
}

pub holds_weaker : (D : Disk) (before : Option (List ℕ)) (P Q : Option (List ℕ) → Type 0) (p : Path) → ((f : Option (List ℕ)) → P f → Q f) → MayHold D before P p → MayHold D before Q p
holds_weaker D before P Q p wider holds = record { entry = λ c may. wider (file_of c) (holds.entry c may); way = holds.way }

-- Folders that stay, when an entry that is none of them changes.

pub folder_now : (D : Disk) (f : Path) → StaysFolder D f → is_folder (D.tree f) ≡ true
folder_now D f stays = ap is_folder (stays (D.tree f) (now_may_be D f))

pub stay_entered : (D : Disk) (p : Path) (h : DiskItem) (fs : List Path) → is_folder (D.tree p) ≡ false → AllStay D fs → AllStay (with_item D p h) fs
stay_entered D p h [] none stay = tt
stay_entered D p h (f ∷ fs) none stay = (
  λ c may. elim (entered_may D p f h c may) [
    | inl old ↦ stay.0 c old
    | inr new ↦ absurd (true≢false (sym (folder_now D f stay.0) ∙ subst (λ (x : Path). is_folder (D.tree x) ≡ false) new.0 none))
  ],
  stay_entered D p h fs none stay.1,
)

pub stay_apart : (D : Disk) (p : Path) (h : DiskItem) (fs : List Path) → (IsIn p fs → ⊥) → AllStay D fs → AllStay (with_item D p h) fs
stay_apart D p h [] none stay = tt
stay_apart D p h (f ∷ fs) none stay = (
  λ c may. elim (entered_may D p f h c may) [ inl old ↦ stay.0 c old | inr new ↦ absurd (none (inl (sym new.0))) ],
  stay_apart D p h fs (λ is. none (inr is)) stay.1,
)

-- a folder is there already, or it is made
by_folder : (D : Disk) (p : Path) (P : Disk → Type 0) → P D → P (with_item D p a_folder) → P (with_folder_on D p)
by_folder D p P there made = by (is_folder (D.tree p))
  where
    by : (b : Bool) → P (if b then D else with_item D p a_folder)
    by true = there
    by false = made

made_stays : (D : Disk) (p : Path) (fs : List Path) → AllStay D fs → AllStay (with_item D p a_folder) fs
made_stays D p [] stay = tt
made_stays D p (f ∷ fs) stay = (
  λ c may. elim (entered_may D p f a_folder c may) [ inl old ↦ stay.0 c old | inr new ↦ folder_remains 0 c new.1 ],
  made_stays D p fs stay.1,
)

pub stay_with_folder : (D : Disk) (p : Path) (fs : List Path) → AllStay D fs → AllStay (with_folder_on D p) fs
stay_with_folder D p fs stay = by_folder D p (λ (E : Disk). AllStay E fs) stay (made_stays D p fs stay)

-- a folder is made where no file is
made_settled : (D : Disk) (p q : Path) (file : Option (List ℕ)) → is_file (D.tree p) ≡ false → IsSettledAt D file q → IsSettledAt (with_item D p a_folder) file q
made_settled D p q file none settled = record {
  entry = λ c may. elim (entered_may D p q a_folder c may) [
    | inl old ↦ settled.entry c old
    | inr new ↦ ap file_of (folder_remains 0 c new.1) ∙ (sym (no_file (D.tree q) (subst (λ (x : Path). is_file (D.tree x) ≡ false) new.0 none)) ∙ stands_settled D file q settled)
  ];
  way = λ bytes is. made_stays D p (fronts q) (settled.way bytes is);
}
  where
    no_file : (c : Option Content) → is_file c ≡ false → file_of c ≡ None
    no_file (Some (File bytes)) h = absurd (true≢false h)
    no_file (Some Folder) h = refl
    no_file None h = refl

pub settled_with_folder : (D : Disk) (p q : Path) (file : Option (List ℕ)) → is_file (D.tree p) ≡ false → IsSettledAt D file q → IsSettledAt (with_folder_on D p) file q
settled_with_folder D p q file none settled = by_folder D p (λ (E : Disk). IsSettledAt E file q) settled (made_settled D p q file none settled)

-- A front of a path: the path goes on after it with a slash.

pub front_splits : (q f : Path) → IsIn f (fronts q) → (rest : List ℕ) × (q ≡ f ++ 47 ∷ rest)
front_splits [] f is = absurd is
front_splits (b ∷ q) f is = after (b ∷ []) q is
  where
    after : (seen : Path) (xs : List ℕ) → IsIn f (fronts_after seen xs) → (rest : List ℕ) × (seen ++ xs ≡ f ++ 47 ∷ rest)
    after seen [] is = absurd is
    after seen (c ∷ xs) is = by (c == 47) refl is (λ later. after (seen ++ c ∷ []) xs later)
      where
        on : (rest : List ℕ) × ((seen ++ c ∷ []) ++ xs ≡ f ++ 47 ∷ rest) → (rest : List ℕ) × (seen ++ c ∷ xs ≡ f ++ 47 ∷ rest)
        on found = (found.0, sym (append_assoc seen (c ∷ []) xs) ∙ found.1)

        by : (slash : Bool) → (c == 47) ≡ slash → IsIn f (if slash then seen ∷ fronts_after (seen ++ c ∷ []) xs else fronts_after (seen ++ c ∷ []) xs) →
            (IsIn f (fronts_after (seen ++ c ∷ []) xs) → (rest : List ℕ) × ((seen ++ c ∷ []) ++ xs ≡ f ++ 47 ∷ rest)) → (rest : List ℕ) × (seen ++ c ∷ xs ≡ f ++ 47 ∷ rest)
        by true e (inl here) go = (xs, ap (λ (x : Path). x ++ c ∷ xs) here ∙ ap (λ (b : ℕ). f ++ b ∷ xs) (eqb-true c 47 e))
        by true e (inr later) go = on (go later)
        by false e later go = on (go later)

-- an empty folder is removed
pub settled_without_folder : (D : Disk) (p q : Path) (h : DiskItem) (file : Option (List ℕ)) → IsEmptyFolder D.tree p → ((c : Option Content) → Remains h c → c ≡ None) → IsSettledAt D file q → IsSettledAt (with_item D p h) file q
settled_without_folder D p q h file empty none settled = record {
  entry = λ c may. elim (entered_may D p q h c may) [
    | inl old ↦ settled.entry c old
    | inr new ↦ ap file_of (none c new.1) ∙ (sym (folder_file (D.tree q) (subst (λ (x : Path). is_folder (D.tree x) ≡ true) new.0 empty.0)) ∙ stands_settled D file q settled)
  ];
  way = λ bytes is. stay_apart D p h (fronts q) (λ front. full bytes is (front_splits q p front)) (settled.way bytes is);
}
  where
    folder_file : (c : Option Content) → is_folder c ≡ true → file_of c ≡ None
    folder_file (Some (File bytes)) h = absurd (false≢true h)
    folder_file (Some Folder) h = refl
    folder_file None h = refl

    some_none : (bytes : List ℕ) → Some bytes ≡ None → ⊥
    some_none bytes e = cc

    full : (bytes : List ℕ) → file ≡ Some bytes → ((rest : List ℕ) × (q ≡ p ++ 47 ∷ rest)) → ⊥
    full bytes is (rest, at) =
        some_none bytes (sym is ∙ (sym (stands_settled D file q settled) ∙ ap file_of (ap D.tree at ∙ empty.1 rest)))

-- Syncs up to a folder that stays.

all_split : (D : Disk) (a b : List Path) → AllStay D (a ++ b) → AllStay D a × AllStay D b
all_split D [] b stay = (tt, stay)
all_split D (f ∷ a) b stay = let parts = all_split D a b stay.1 in ((stay.0, parts.0), parts.1)

all_join : (D : Disk) (a b : List Path) → AllStay D a → AllStay D b → AllStay D (a ++ b)
all_join D [] b h k = k
all_join D (f ∷ a) b h k = (h.0, all_join D a b h.1 k)

stay_in : (D : Disk) (fs : List Path) (p : Path) → AllStay D fs → IsIn p fs → StaysFolder D p
stay_in D [] p stay is = absurd is
stay_in D (f ∷ fs) p stay (inl same) = subst (StaysFolder D) same stay.0
stay_in D (f ∷ fs) p stay (inr is) = stay_in D fs p stay.1 is

all_in : (D : Disk) (ps fs : List Path) → AllStay D fs → AreIn ps fs → AllStay D ps
all_in D [] fs stay are = tt
all_in D (p ∷ ps) fs stay are = (stay_in D fs p stay are.0, all_in D ps fs stay are.1)

pub all_snoc : (test : Path → Bool) (a : List Path) (f : Path) → list_all test (a ++ f ∷ []) ≡ true → (list_all test a ≡ true) × (test f ≡ true)
all_snoc test [] f h = (refl, (both_true (test f) true h).0)
all_snoc test (x ∷ a) f h =
    let parts = both_true (test x) (list_all test (a ++ f ∷ [])) h in
    let later = all_snoc test a f parts.1 in
    (ap (λ b. b && list_all test a) parts.0 ∙ later.0, later.1)

folder_content : (c : Option Content) → is_folder c ≡ true → c ≡ Some Folder
folder_content (Some (File bytes)) h = absurd (false≢true h)
folder_content (Some Folder) h = refl
folder_content None h = absurd (false≢true h)

-- the entry of a path whose folder is synced first is as it is item_at
pub removal_settled : (p : Path) (ss : List Sync) (D : Disk) (c : Option Content) → SettlesRemoval p ss → MayBe (synced_by ss D) p c → Remains (item_at D p) c
removal_settled p [] D c settles may = absurd settles
removal_settled p (OfFile f ∷ ss) D c settles may = absurd settles
removal_settled p (OfFolder f ∷ ss) D c settles may = entry_synced D f p c settles (synced_by_may ss (folder_synced D f) p c may)

-- so it is where all that settles the path is synced
own_folder_first : (staying : List Path) (p : Path) (ss : List Sync) → SettlesPath staying p ss → SettlesRemoval p ss
own_folder_first staying p [] settles = absurd settles
own_folder_first staying p (OfFile f ∷ ss) settles = absurd settles
own_folder_first staying p (OfFolder f ∷ ss) settles = settles.0

pub settled_entry : (staying : List Path) (p : Path) (ss : List Sync) (D : Disk) (c : Option Content) → SettlesPath staying p ss → MayBe (synced_by ss D) p c → Remains (item_at D p) c
settled_entry staying p ss D c settles may = removal_settled p ss D c (own_folder_first staying p ss settles) may

-- the folder of a path that has one
pub own_sync : (f : Path) → f ≢ [] → sync_of_folder f ≡ OfFolder f ∷ []
own_sync [] some = absurd (some refl)
own_sync (c ∷ f) some = refl

-- A path that can be settled has a folder, and so the sync of that folder alone settles its removal.
pub own_sync_settles : (staying : List Path) (p : Path) (ss : List Sync) → SettlesPath staying p ss → SettlesRemoval p (sync_of_folder (folder_of p))
own_sync_settles staying p [] settles = absurd settles
own_sync_settles staying p (OfFile f ∷ ss) settles = absurd settles
own_sync_settles staying p (OfFolder f ∷ ss) settles =
    subst (SettlesRemoval p) (sym (own_sync (folder_of p) (λ none. settles.1 (sym settles.0 ∙ none)))) refl

-- a folder that is there stays, once its path is settled
settled_folder : (staying : List Path) (f : Path) (ss : List Sync) (D : Disk) → Settles staying f ss → AllStay D staying → is_folder (D.tree f) ≡ true → StaysFolder (synced_by ss D) f
settled_folder staying f [] D settles stay here = (all_split D (fronts f) (f ∷ []) (all_in D (fronts f ++ f ∷ []) staying stay settles)).1.0
settled_folder staying f (OfFile g ∷ ss) D settles stay here = absurd settles
settled_folder staying f (OfFolder g ∷ ss) D settles stay here =
    λ c may. by_content (D.tree f) refl (folder_content (D.tree f) here) (D.unsynced.synced f) c (settled_entry staying f (OfFolder g ∷ ss) D c settles may)
  where
    by_content : (content : Option Content) → content ≡ D.tree f → content ≡ Some Folder → (n : ℕ) (c : Option Content) → Remains (record { content = content; synced = n }) c → c ≡ Some Folder
    by_content content e is n c r = folder_remains n c (subst (λ (x : Option Content). Remains (record { content = x; synced = n }) c) is r)

front_is : (p f : Path) → folder_of p ≡ f → f ≢ [] → fronts p ≡ fronts f ++ f ∷ []
front_is p f is some = subst (λ (x : Path). x ≢ [] → fronts p ≡ fronts x ++ x ∷ []) is (fronts_of_folder p) some

-- and so do all folders on its way
pub settled_way : (staying : List Path) (p : Path) (ss : List Sync) (D : Disk) → Settles staying p ss → AllStay D staying → has_folders D.tree p ≡ true → AllStay (synced_by ss D) (fronts p)
settled_way staying p [] D settles stay folders = (all_split D (fronts p) (p ∷ []) (all_in D (fronts p ++ p ∷ []) staying stay settles)).0
settled_way staying p (OfFile f ∷ ss) D settles stay folders = absurd settles
settled_way staying p (OfFolder f ∷ ss) D settles stay folders =
    let E = synced_by ss (folder_synced D f) in
    let parts = all_snoc (λ g. is_folder (D.tree g)) (fronts f) f (ap (list_all (λ g. is_folder (D.tree g))) (sym (front_is p f settles.0 settles.1)) ∙ folders) in
    let staying_still = stays_fewer D (folder_synced D f) (λ q c may. synced_may (OfFolder f) D q c may) staying stay in
    subst (AllStay E) (sym (front_is p f settles.0 settles.1))
    (all_join E (fronts f) (f ∷ []) (settled_way staying f ss (folder_synced D f) settles.2 staying_still parts.0)
    (settled_folder staying f ss (folder_synced D f) settles.2 staying_still parts.1, tt))

-- what is whole stays whole
pub whole_synced : (ss : List Sync) (D : Disk) (p : Path) (bytes : List ℕ) → IsWholeAt D p bytes → IsWholeAt (synced_by ss D) p bytes
whole_synced [] D p bytes whole = whole
whole_synced (OfFolder f ∷ ss) D p bytes whole = whole_synced ss (folder_synced D f) p bytes whole
whole_synced (OfFile f ∷ ss) D p bytes whole = whole_synced ss (file_synced D f) p bytes (whole.0, by (bytes_eq f p) refl)
  where
    by : (b : Bool) → bytes_eq f p ≡ b → (if b then length (bytes_of (D.tree f)) else D.unsynced.synced p) ≡ length bytes
    by true e = ap (λ (x : Path). length (bytes_of (D.tree x))) ((bytes_eq-Decides f p).0 e) ∙ ap (λ c. length (bytes_of c)) whole.0
    by false e = whole.1

pub as_settles : (staying : List Path) (p : Path) (ss : List Sync) → SettlesPath staying p ss → Settles staying p ss
as_settles staying p [] h = absurd h
as_settles staying p (s ∷ ss) h = h
