-- Places, logs and keys lie in the namespace, and what is outside of it stays.
use Rattle.std.proofs.Common.{◌≡◌, ◌≢◌, inl, inr, ⊎_elim, ℕ, Bool, true, false, ◌&&◌, List, [], ◌∷◌, ◌++◌, refl, sym, ◌∙◌, ap, subst, Option, Some, None, bytes_eq}
use Rattle.std.specs.Prelude.{MatchBool, codes, if◌then◌else◌, unwrap_or}
use Rattle.std.proofs.lemmas.Bool.{cond-false}
use Rattle.gix_ref_hash.specs.declared.hash.Kind.{Kind}
use Rattle.gix_ref_target.specs.Layout.{Layout, below, packed_refs}
use Rattle.gix_ref_target.specs.Locations.{Location, location, row_of}
use Rattle.gix_ref_target.specs.Locations.Location.{Common, ThisWorktree, MainWorktree, LinkedWorktree}
use Rattle.gix_ref_target.specs.PackedRecords.{Record, record_named}
use Rattle.gix_ref_target.proofs.LocationLemmas.{HasSpot, has_slash, has_spot, test_no_slash}
use Rattle.gix_ref_files.specs.Disk.{Disk}
use Rattle.gix_ref_files.specs.Lock.{lock_of}
use Rattle.gix_ref_files.specs.Settled.{IsAllSettled}
use Rattle.gix_ref_files.specs.Tree.{Tree, Path, file_of}
use Rattle.gix_ref_lookup.specs.Lookups.{ArePackedRecords}
use Rattle.gix_ref_lookup.specs.StoreLayout.{git_options}
use Rattle.gix_ref_theory.specs.Between.{IsBetween, IsCommitted, MergesRecords, IsOther, IsPackedFile}
use Rattle.gix_ref_theory.specs.ConcreteStore.{Options, store_of}
use Rattle.gix_ref_theory.specs.Edits.{Edit, Mode, alters_packed, file_of_records, is_key, merged_record, edited_record}
use Rattle.gix_ref_theory.specs.Losses.{IsLostBetween}
use Rattle.gix_ref_theory.specs.OnDisks.{IsSpokenOf}
use Rattle.gix_ref_theory.specs.OnRealTrees.{view_of}
use Rattle.gix_ref_theory.specs.Readings.{Store, Reading, reading, reading_by, reading_of_record, records_of_file}
use Rattle.gix_ref_theory.specs.Readings.Reading.{Fault}
use Rattle.gix_ref_theory.specs.Views.{IsOwnLock}
use Rattle.gix_ref_theory.proofs.OnDisks.{own_is_lock}
use Rattle.gix_ref_theory.proofs.Roots.{in_namespace}
use Rattle.gix_ref_transaction.specs.OwnLocks.{is_in, AddsLocks}
use Rattle.gix_ref_transaction.specs.PrepareSteps.{own_locks, own_places}
use Rattle.gix_ref_transaction.proofs.Adds.{any_cases, any_right, clash, in_here, in_one, is_false, same_path, same_view}
use Rattle.gix_ref_transaction.proofs.LockRounds.{own_all, owned_all}
use Rattle.gix_ref_commit.specs.LogEffects.{with_extras}
use Rattle.gix_ref_read_back.specs.Outside.{AllPutReadable, EveryLossLeavesTheOutside, EveryStopLeavesTheOutside, IsKeyInside, IsLock, IsLogInside, IsOneOf, IsOutside, IsPlaceInside, KeysLieInTheNamespace, LogsLieInTheNamespace, OutsideIsAsBefore, OwnLocksAreLocks, PlacesLieInside, ReadingsOutsideStay, TheseLocksAreLocks}
use Rattle.gix_ref_read_back.proofs.PackedAgain.{read_again}

-- ---- the table

pub places_inside : PlacesLieInside
places_inside f o name = in_namespace f (unwrap_or (location name) (Common name))

same_worktree : (w s v k : List ℕ) → LinkedWorktree w s ≡ LinkedWorktree v k → has_slash w ≡ false → has_slash v ≡ false
same_worktree w s v k is none = let same : w ≡ v = cc in subst (λ (z : List ℕ). has_slash z ≡ false) same none

-- the name of a linked worktree has no slash
worktree_is_one : (name v k : List ℕ) → HasSpot name (LinkedWorktree v k) → has_slash v ≡ false
worktree_is_one name v k (inl (inl h)) = let e : ThisWorktree name ≡ LinkedWorktree v k = h.1 in cc
worktree_is_one name v k (inl (inr (inl h))) = let e : ThisWorktree name ≡ LinkedWorktree v k = h.2 in cc
worktree_is_one name v k (inl (inr (inr h))) = let e : Common name ≡ LinkedWorktree v k = h.2 in cc
worktree_is_one name v k (inr (inl (s, e, inl h))) = let f : MainWorktree s ≡ LinkedWorktree v k = h.1 in cc
worktree_is_one name v k (inr (inl (s, e, inr (inl h)))) = let f : MainWorktree s ≡ LinkedWorktree v k = h.2 in cc
worktree_is_one name v k (inr (inl (s, e, inr (inr h)))) = let f : Common s ≡ LinkedWorktree v k = h.2 in cc
worktree_is_one name v k (inr (inr (w, s, e, none, inl h))) = same_worktree w s v k h.1 none
worktree_is_one name v k (inr (inr (w, s, e, none, inr (inl h)))) = same_worktree w s v k h.2 none
worktree_is_one name v k (inr (inr (w, s, e, none, inr (inr h)))) = let f : Common s ≡ LinkedWorktree v k = h.2 in cc

log_inside : (f : Layout) (name : List ℕ) (x : Location) → location name ≡ Some x → IsLogInside f (row_of f x).log
log_inside f name (Common n) e = inl (f.common, n, inl refl, refl)
log_inside f name (ThisWorktree n) e = inl (f.git, n, inr refl, refl)
log_inside f name (MainWorktree n) e = inl (f.common, n, inl refl, refl)
log_inside f name (LinkedWorktree w n) e = inr (w, n, test_no_slash w (worktree_is_one name w n (has_spot name (LinkedWorktree w n) e)), refl)

pub logs_inside : LogsLieInTheNamespace
logs_inside f o name = by (location name) refl
  where
    by : (l : Option Location) → location name ≡ l → IsLogInside f ((store_of f o).log name)
    by None e = subst (λ (l : Option Location). IsLogInside f (row_of f (unwrap_or l (Common name))).log) (sym e) (inl (f.common, name, inl refl, refl))
    by (Some x) e = subst (λ (l : Option Location). IsLogInside f (row_of f (unwrap_or l (Common name))).log) (sym e) (log_inside f name x e)

none_is_some : (key : List ℕ) → None ≡ Some key → ⊥
none_is_some key is = cc

same_key : (a b : List ℕ) → Some a ≡ Some b → a ≡ b
same_key a b is = cc

key_inside : (f : Layout) (x : Location) (key : List ℕ) → (row_of f x).key ≡ Some key → IsKeyInside f key
key_inside f (Common n) key is = (n, sym (same_key (f.namespace ++ n) key is))
key_inside f (ThisWorktree n) key is = absurd (none_is_some key is)
key_inside f (MainWorktree n) key is = absurd (none_is_some key is)
key_inside f (LinkedWorktree w n) key is = absurd (none_is_some key is)

pub keys_inside : KeysLieInTheNamespace
keys_inside f o name key is = key_inside f (unwrap_or (location name) (Common name)) key is

-- ---- the locks that are named

-- they are the locks of some places
pub unlocked : (left : List Path) → ((q : Path) → is_in left q ≡ true → (p : Path) × (q ≡ lock_of p)) →
    (places : List Path) × ((q : Path) → is_in left q ≡ true → IsOwnLock places q) × ((q : Path) → IsOwnLock places q → is_in left q ≡ true)
unlocked [] all = ([], λ q none. clash none refl, λ q own. absurd own)
unlocked (l ∷ left) all =
    let p = all l (in_here l l left refl) in
    let rest = unlocked left (λ q within. all q (any_right (λ r. bytes_eq r q) (l ∷ []) left within)) in (
      p.0 ∷ rest.0,
      λ q within. ⊎_elim (λ here. inl (sym (in_one l q here) ∙ p.1)) (λ later. inr (rest.1 q later)) (any_cases (λ r. bytes_eq r q) (l ∷ []) left within),
      λ q own. ⊎_elim (λ here. in_here l q left (p.1 ∙ sym here)) (λ later. any_right (λ r. bytes_eq r q) (l ∷ []) left (rest.2 q later)) own,
    )

-- ---- trees

and_false : (a b : Bool) → b ≡ false → (a && b) ≡ false
and_false true b h = h
and_false false b h = refl

not_key : (own : Option (List ℕ)) (key : List ℕ) → (own ≡ Some key → ⊥) → is_key own key ≡ false
not_key None key other = refl
not_key (Some name) key other = is_false (bytes_eq name key) (λ same. other (ap Some (same_path name key same)))

module _ (f : Layout) (k : Kind) (prohibits : Bool) where
  abbrev git : Store
  git = store_of f (git_options k prohibits)

  -- what is outside is no file of an edit
  outside_is_other : (locked : List Path) (Excepted : Path → Type 0) (edits : List Edit) (path : Path) → ((q : Path) → IsOwnLock locked q → Excepted q) → IsOutside f Excepted path → IsOther git locked edits path
  outside_is_other locked Excepted edits path named out = record {
    no_place = λ e within of_reference is. out.no_place (subst (IsPlaceInside f) is (places_inside f (git_options k prohibits) e.name));
    no_log = λ e within is. out.no_log (subst (IsLogInside f) is (logs_inside f (git_options k prohibits) e.name));
    not_packed = out.not_packed;
    no_lock = λ own. out.not_excepted (named path own);
  }

  -- the record of a key that no edit has stays
  merged_same : (mode : Mode) (edits : List Edit) (key : List ℕ) (old : Option Record) → (IsKeyInside f key → ⊥) → merged_record git mode edits key old ≡ old
  merged_same mode [] key old out = refl
  merged_same mode (e ∷ edits) key old out =
      cond-false (e.and_reference && is_key (git.key e.name) key) (edited_record mode key e e.change old) (merged_record git mode edits key old)
      (and_false e.and_reference (is_key (git.key e.name) key) (not_key (git.key e.name) key (λ is. out (keys_inside f (git_options k prohibits) e.name key is))))
      ∙ merged_same mode edits key old out

  records_outside : (mode : Mode) (edits : List Edit) (old new : Option (List ℕ)) (rs : List Record) → ArePackedRecords k old rs → AllPutReadable git mode k edits → IsPackedFile git mode edits old new → (key : List ℕ) → (IsKeyInside f key → ⊥) →
      record_named key (records_of_file git new) ≡ record_named key (records_of_file git old)
  records_outside mode edits old new rs are puts file key out = go (alters_packed git mode (records_of_file git old) edits) file
    where
      go : (b : Bool) → MatchBool b ((merged : List Record) × MergesRecords git mode edits (records_of_file git old) merged × (new ≡ file_of_records git merged)) (new ≡ old) →
          record_named key (records_of_file git new) ≡ record_named key (records_of_file git old)
      go false same = ap (λ (n : Option (List ℕ)). record_named key (records_of_file git n)) same
      go true (merged, m, is) =
          ap (λ (n : Option (List ℕ)). record_named key (records_of_file git n)) is
          ∙ (ap (record_named key) (read_again f k prohibits mode edits old rs merged are puts m)
          ∙ (m.each key ∙ merged_same mode edits key (record_named key (records_of_file git old)) out))

  module _ (mode : Mode) (edits : List Edit) (locked : List Path) (Excepted : Path → Type 0) (named : (q : Path) → IsOwnLock locked q → Excepted q) (before : Tree) (rs : List Record) (are : ArePackedRecords k (view_of before git.packed_path) rs) (puts : AllPutReadable git mode k edits) (T : Tree) where
    -- after a commit
    pub committed_outside : IsCommitted git mode locked edits (view_of before) (view_of T) → OutsideIsAsBefore f git Excepted before T
    committed_outside c = record {
      files = λ path out. c.others path (outside_is_other locked Excepted edits path named out);
      records = λ key out. records_outside mode edits (view_of before git.packed_path) (view_of T git.packed_path) rs are puts c.packed key out;
    }

    -- and at a stop inside it
    pub between_outside : IsBetween git mode locked edits (view_of before) (view_of T) → OutsideIsAsBefore f git Excepted before T
    between_outside b = record {
      files = λ path out. b.others path (outside_is_other locked Excepted edits path named out);
      records = λ key out. ⊎_elim
          (λ same. ap (λ (n : Option (List ℕ)). record_named key (records_of_file git n)) same)
          (λ file. records_outside mode edits (view_of before git.packed_path) (view_of T git.packed_path) rs are puts file key out)
          b.packed;
    }

  -- after a loss of power inside it
  pub lost_outside : (mode : Mode) (edits : List Edit) (locked : List Path) (D : Disk) (before : Tree) (rs : List Record) → ArePackedRecords k (view_of before git.packed_path) rs → AllPutReadable git mode k edits → (T : Tree) → IsAllSettled D →
      IsLostBetween git mode locked edits D (view_of before) (view_of T) → OutsideIsAsBefore f git IsLock before T
  lost_outside mode edits locked D before rs are puts T settled b = record {
    files = λ path out. b.others path (outside_is_other locked IsLock edits path (own_is_lock locked) out) (settled path (λ p is. out.not_excepted (p, is)));
    records = λ key out. ⊎_elim
        (λ same. ap (λ (n : Option (List ℕ)). record_named key (records_of_file git n)) same)
        (λ file. records_outside mode edits (view_of before git.packed_path) (view_of T git.packed_path) rs are puts file key out)
        b.packed;
  }

  -- while locks are taken
  pub locking_outside : (locks : List Path) (before T : Tree) → is_in locks git.packed_path ≡ false → AddsLocks locks locks before T → OutsideIsAsBefore f git (IsOneOf locks) before T
  locking_outside locks before T apart adds = record {
    files = λ path out. same_view file_of refl locks locks before T path adds (is_false (is_in locks path) out.not_excepted);
    records = λ key out. ap (λ (n : Option (List ℕ)). record_named key (records_of_file git n)) (same_view file_of refl locks locks before T git.packed_path adds apart);
  }

  -- and after a loss of power meanwhile
  module _ (places : List Path) (D : Disk) (T : Tree) (apart : (p : Path) → git.packed_path ≢ lock_of p) (settled : IsAllSettled D) (spoken : (q : Path) → IsSpokenOf places D q → view_of T q ≡ view_of D.tree q) where
    still : (q : Path) → ((p : Path) → q ≢ lock_of p) → view_of T q ≡ view_of D.tree q
    still q no_lock = spoken q (λ own. let l = own_is_lock places q own in no_lock l.0 l.1, settled q no_lock)

    pub unlost_outside : OutsideIsAsBefore f git IsLock D.tree T
    unlost_outside = record {
      files = λ path out. still path (λ p is. out.not_excepted (p, is));
      records = λ key out. ap (λ (n : Option (List ℕ)). record_named key (records_of_file git n)) (still git.packed_path apart);
    }

pub stops_outside : EveryStopLeavesTheOutside
stops_outside f k prohibits mode edits extras before T good puts well =
    let s : Store = store_of f (git_options k prohibits) in
    between_outside f k prohibits mode (with_extras edits extras) (own_places s mode before edits) (IsOneOf (own_locks s mode before edits)) (owned_all s mode before edits) before good.0 good.1 puts T well.between

pub losses_outside : EveryLossLeavesTheOutside
losses_outside f k prohibits mode edits extras D before T good puts settled well =
    lost_outside f k prohibits mode (with_extras edits extras) (own_places (store_of f (git_options k prohibits)) mode before edits) D before good.0 good.1 puts T settled well.between

pub own_are_locks : OwnLocksAreLocks
own_are_locks s mode T edits q within = own_is_lock (own_places s mode T edits) q (own_all s mode T edits q within)

pub these_are_locks : TheseLocksAreLocks
these_are_locks f s locks before T are same = record {
  files = λ path out. same.files path (record { no_place = out.no_place; no_log = out.no_log; not_packed = out.not_packed; not_excepted = λ one. out.not_excepted (are path one) });
  records = same.records;
}

-- ---- readings

-- by the same record of its key, if it has one, a reference reads the same
reads_by_record : (s : Store) (key file : Option (List ℕ)) (old new : List Record) → ((k : List ℕ) → key ≡ Some k → record_named k new ≡ record_named k old) → reading_by s key file new ≡ reading_by s key file old
reads_by_record s key (Some bytes) old new same = refl
reads_by_record s None None old new same = refl
reads_by_record s (Some k) None old new same = ap reading_of_record (same k refl)

-- the records of a text do not depend on the folders
same_records : (f g : Layout) (o : Options) (file : Option (List ℕ)) → records_of_file (store_of g o) file ≡ records_of_file (store_of f o) file
same_records f g o None = refl
same_records f g o (Some bytes) = refl

module _ (f g : Layout) (o : Options) (before T : Tree) (one : g.common ≡ f.common) (outside : OutsideIsAsBefore f (store_of f o) IsLock before T) where
  abbrev s : Store
  s = store_of g o

  at_packed : (S : Tree) (key : List ℕ) → record_named key (records_of_file s (view_of S s.packed_path)) ≡ record_named key (records_of_file (store_of f o) (view_of S (packed_refs f)))
  at_packed S key =
      ap (λ (common : Path). record_named key (records_of_file s (view_of S (below common (codes "packed-refs"))))) one
      ∙ ap (record_named key) (same_records f g o (view_of S (packed_refs f)))

  reading_stays : (name : List ℕ) → IsOutside f IsLock (s.place name) → ((key : List ℕ) → s.key name ≡ Some key → IsKeyInside f key → ⊥) → reading s (view_of T) name ≡ reading s (view_of before) name
  reading_stays name out other =
      ap (λ (file : Option (List ℕ)). if s.is_prohibited (s.place name) then Fault else reading_by s (s.key name) file (records_of_file s (view_of T s.packed_path))) (outside.files (s.place name) out)
      ∙ ap (λ (r : Reading). if s.is_prohibited (s.place name) then Fault else r)
      (reads_by_record s (s.key name) (view_of before (s.place name)) (records_of_file s (view_of before s.packed_path)) (records_of_file s (view_of T s.packed_path))
      (λ key has. at_packed T key ∙ (outside.records key (other key has) ∙ sym (at_packed before key))))

pub readings_stay : ReadingsOutsideStay
readings_stay f g o before T one outside name out other = reading_stays f g o before T one outside name out other
