-- What each step of a lookup returns, and what it leaves (`gitrevisions`).
use Rattle.std.specs.Prelude.{◌≡◌, ℕ, List, Bool, false, Option, None, IfOk, MatchOption, MatchResult, Result}
use Rattle.std.specs.List.{AllByRecursion}
use Rattle.gix_ref_name.specs.Candidates.{candidates, remote_head}
use Rattle.gix_ref_target.specs.PackedRecords.{Record}
use Rattle.gix_ref_files.specs.Files.{FaultCounts, Meaning}
use Rattle.gix_ref_files.specs.ReadOnly.{OnlyReads}
use Rattle.gix_ref_files.specs.Tree.{Tree}
use Rattle.gix_ref_files.specs.declared.files.ReadAt.{Ghosts}
use Rattle.gix_ref_theory.specs.Views.{View}
use Rattle.gix_ref_theory.specs.OnRealTrees.{view_of}
use Rattle.gix_ref_theory.specs.Readings.{Store}
use Rattle.gix_ref_theory.specs.Lookups.{first_hit, hit_or_head}
use Rattle.gix_ref_packed_text.specs.declared.raw.Reference.{Reference}
use Rattle.gix_ref_lookup.specs.Lookups.{AreHonest, AreMissing, AreSeen, AreStillAskedWith, Among, CandidateFails, FailsAmong, Finds, HasNoRecord, HasNothing, IsAnswerOf, IsByRecord, IsCandidate, IsFaultAmong, IsFaultOrMemory, IsHitAmong, IsLooseHit, IsNotRead, IsRecordHit, IsSeen, IsSound, MemoryOr, OfAsked, RecordFails, asked_names, head_names, lookup_as, lookup_of, meaning_in}
use Rattle.gix_ref_lookup.specs.declared.find.error.Error.{Error}
use Rattle.gix_ref_lookup.specs.declared.find.lookup.Lookup.{Lookup}
use Rattle.gix_ref_lookup.specs.declared.settings.Settings.{Settings}

-- what a step returns: a reference, or `None`; or the error of the lookup
abbrev pub Answer : Type 0
Answer = Result (Option Reference) Error

-- the place of a name has no name of a device, where the store prohibits these
abbrev pub IsAllowed : Settings → List ℕ → Type 0
IsAllowed settings name =
    let s = meaning_in settings in
    s.is_prohibited (s.place name) ≡ false

-- What a step returns where files are honest, by the files and the records of the lookup before it.
module _ {F R : Type 0} {G : Ghosts R} (honest : Type 0) (means : F → Meaning)
    (lookup : Lookup F R G) where
  -- where the names of the store are, and what it reads
  abbrev pub store_in : Store
  store_in = meaning_in lookup.settings

  -- what is at each path
  abbrev pub tree_in : Tree
  tree_in = (means lookup.files.now).tree

  abbrev pub view_in : View
  view_in = view_of tree_in

  -- nothing is at the path that it keeps
  abbrev pub KeepsNothing : Type 0
  KeepsNothing = honest → HasNothing tree_in lookup.nothing_at.now.items

  -- this holds for the records that are asked, where `packed-refs` is well formed or missing
  abbrev pub OfRecords : (List Record → Type 0) → Type 0
  OfRecords P = OfAsked lookup.settings (means lookup.files.now) honest lookup.records.now P

  -- and this of what is found on any text of `packed-refs`, which an honest reader reads
  abbrev pub Sees : (Option Reference → Type 0) → Answer → Type 0
  Sees P result = honest → AreHonest lookup.records.now → IfOk result P

  -- the loose file of a name as a result
  abbrev pub FindsLoose : (name : List ℕ) → Answer → Type 0
  FindsLoose name result = honest → IfOk result (λ found. MatchOption found
      (view_in (store_in.place name) ≡ None) (IsLooseHit store_in view_in name))

  -- its record
  abbrev pub FindsRecord : (name : List ℕ) → Answer → Type 0
  FindsRecord name result = OfRecords (λ records.
      MatchResult result (IsByRecord store_in records name) IsFaultOrMemory)

  abbrev pub SeesRecord : (name : List ℕ) → Answer → Type 0
  SeesRecord name = Sees (λ found. MatchOption found
      (HasNoRecord lookup.settings view_in lookup.records.now name)
      (IsRecordHit lookup.settings view_in lookup.records.now name))

  -- a candidate: its loose file, or else its record
  abbrev pub FindsCandidate : (name : List ℕ) → Answer → Type 0
  FindsCandidate name result = OfRecords (λ records.
      MatchResult result (IsCandidate store_in view_in records name) IsSound)

  abbrev pub SeesCandidate : (name : List ℕ) → Answer → Type 0
  SeesCandidate name = Sees (IsSeen lookup.settings view_in lookup.records.now name)

  -- the first candidate of a partial name
  abbrev pub FindsFirst : (p : List ℕ) → Answer → Type 0
  FindsFirst p result = OfRecords (λ records.
      Finds (first_hit store_in view_in records (candidates p)) result)

  abbrev pub SeesFirst : (p : List ℕ) → Answer → Type 0
  SeesFirst p = Sees (AreSeen lookup.settings view_in lookup.records.now (candidates p))

  -- the head of a remote, as a loose file alone
  abbrev pub FindsHead : (p : List ℕ) → Answer → Type 0
  FindsHead p result = honest → Finds (hit_or_head store_in view_in None (remote_head p)) result

  abbrev pub SeesHead : (p : List ℕ) → Answer → Type 0
  SeesHead p result = honest → IfOk result (λ found. MatchOption found
      (AllByRecursion (λ name. view_in (store_in.place name) ≡ None) (head_names p))
      (λ r. Among (λ name. IsLooseHit store_in view_in name r) (head_names p)))

  -- a partial name as it is
  abbrev pub FindsAsked : (p : List ℕ) → Answer → Type 0
  FindsAsked p result = OfRecords (λ records.
      Finds (lookup_as store_in view_in records p) result)

  abbrev pub SeesAsked : (p : List ℕ) → Answer → Type 0
  SeesAsked p = Sees (λ found. MatchOption found
      (AreMissing lookup.settings view_in lookup.records.now p)
      (IsHitAmong lookup.settings view_in lookup.records.now (asked_names p)))

  -- and a partial name where names are composed or not (`core.precomposeUnicode` of `git config`)
  abbrev pub FindsReference : (composes : Bool) → (p : List ℕ) → Answer → Type 0
  FindsReference composes p result = OfRecords (λ records.
      Finds (lookup_of composes store_in view_in records p) result)

  abbrev pub SeesReference : (composes : Bool) → (p : List ℕ) → Answer → Type 0
  SeesReference composes p =
      Sees (IsAnswerOf composes lookup.settings view_in lookup.records.now p)

-- Why a step fails, and what it leaves.
module _ {F R : Type 0} {G : Ghosts R} (honest : Type 0) (means : F → Meaning)
    (faults : F → FaultCounts) (old new : Lookup F R G) where
  -- a step that succeeds counts no fault, and an error has a cause
  abbrev pub FailsBy : (Error → Type 0) → Answer → Type 0
  FailsBy Why result =
      MatchResult result (λ _. faults new.files.now ≡ faults old.files.now) Why

  -- the loose file of a name is not read
  abbrev pub IsLooseFault : (name : List ℕ) → Error → Type 0
  IsLooseFault name = IsNotRead honest old.settings.kind (store_in honest means old)
      (view_in honest means old) (faults old.files.now) (faults new.files.now) name

  abbrev pub FailsAtLoose : (name : List ℕ) → Answer → Type 0
  FailsAtLoose name = FailsBy (IsLooseFault name)

  abbrev pub FailsAtRecord : (name : List ℕ) → Answer → Type 0
  FailsAtRecord name = FailsBy (RecordFails honest old.settings (tree_in honest means old)
      old.records.now (faults old.files.now) (faults new.files.now) name)

  abbrev pub FailsAtCandidate : (name : List ℕ) → Answer → Type 0
  FailsAtCandidate name = FailsBy (CandidateFails honest old.settings (tree_in honest means old)
      old.records.now (faults old.files.now) (faults new.files.now) name)

  -- the first of these names that is not passed fails
  abbrev pub FailsAtFirst : (names : List (List ℕ)) → Answer → Type 0
  FailsAtFirst names = FailsBy (FailsAmong honest old.settings (tree_in honest means old)
      old.records.now (faults old.files.now) (faults new.files.now) names)

  -- so it does, or there was no memory
  abbrev pub FailsAtNames : (names : List (List ℕ)) → Answer → Type 0
  FailsAtNames names = FailsBy (IsFaultAmong honest old.settings (tree_in honest means old)
      old.records.now (faults old.files.now) (faults new.files.now) names)

  abbrev pub FailsAtHead : (p : List ℕ) → Answer → Type 0
  FailsAtHead p = FailsBy (MemoryOr (λ error. Among (λ name. IsLooseFault name error)
      (head_names p)))

  -- A step only reads: it leaves the files and the records that it borrows, the settings, and records that are asked as before.
  -- Nothing is at the path that it keeps, if nothing was at the one before.
  pub record LooksOn : Type 0 where
    pub files : new.files.ghost_name ≡ old.files.ghost_name
    pub records : new.records.ghost_name ≡ old.records.ghost_name
    pub settings : new.settings ≡ old.settings
    pub nothing : KeepsNothing honest means old → KeepsNothing honest means new
    pub reads : OnlyReads honest means faults old.files.now new.files.now
    pub asked : honest → AreStillAskedWith old.settings (means old.files.now)
        old.records.now new.records.now
