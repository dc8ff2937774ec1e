-- What a command answers.
use Rattle.std.specs.Prelude.{◌≡◌, ◌≢◌, ◌⊎◌, ℕ, List, [], ◌++◌, Vec, codes, Bool, true, false, if◌then◌else◌, bytes_eq, nat_eq, ◌||◌, ◌&&◌, is_none}
use Rattle.gix_ref_name.specs.NameGrammar.{full_error, partial_error}
use Rattle.gix_ref_target.specs.PackedRecords.{Record}
use Rattle.std.specs.List.{flat_map, starts_with}
use Rattle.std.specs.declared.alloc.Global.{Global}
use Rattle.gix_ref_files.specs.Files.{FaultCounts, IsMet, Meaning}
use Rattle.gix_ref_files.specs.declared.files.FileError.{FileError}
use Rattle.gix_ref_files.specs.declared.files.FileError.TheVariants as faulty
use Rattle.gix_ref_files.specs.declared.files.ReadAt.{Ghosts}
use Rattle.gix_ref_locks.specs.LockFiles.{IsLockFailure}
use Rattle.gix_ref_locks.specs.Removals.{StopsAt}
use Rattle.gix_ref_locks.specs.declared.locks.Error.{Error as LockError}
use Rattle.gix_ref_locks.specs.declared.locks.Error.TheVariants as unlisted
use Rattle.gix_ref_store.specs.Lookup.{AreRecordsIn, settings_of}
use Rattle.gix_ref_store.specs.Locks.{AreLocks, AreRemoved}
use Rattle.gix_ref_files.specs.Tree.{is_file}
use Rattle.gix_ref_lookup.specs.Reflogs.{count_by}
use Rattle.gix_ref_lookup.specs.declared.reflog.error.Error.{Error as LogError}
use Rattle.gix_ref_lookup.specs.declared.reflog.error.Error.TheVariants as unlogged
use Rattle.gix_ref_store.specs.Reflogs.{reflog_at, IsNoReflog}
use Rattle.gix_ref_store.specs.Store.{files_of, meaning_of}
use Rattle.gix_ref_store.specs.declared.file.store.Store.{Store}
use Rattle.hex.specs.Hex.{encode_lower}
use Rattle.gix_ref_hash.specs.Ids.{id_bytes}
use Rattle.gix_ref_queries.specs.Resolving.{NameEnd, FollowsTo, IsUnread, targets_in}
use Rattle.gix_ref_queries.specs.Resolving.NameEnd.{Reached, Missing, TooDeep}
use Rattle.gix_ref_queries.specs.Shortening.{IsUnshort, SeesShort, short_name}
use Rattle.gix_ref_queries.specs.declared.resolve.End.{End}
use Rattle.gix_ref_queries.specs.declared.resolve.End.TheVariants as ends
use Rattle.gix_ref_queries.specs.declared.answer.Answer.{Answer}

-- a text and a status, and no error
abbrev pub Says : (text : List ℕ) → (status : ℕ) → Answer → Type 0
Says text status answer =
    (answer.text.items ≡ text) × (answer.errors.items ≡ []) × (answer.status ≡ status)

-- an error in Git's form after a text, and its status
abbrev pub FailsAfter : (text message : List ℕ) → Answer → Type 0
FailsAfter text message answer = (answer.text.items ≡ text)
    × (answer.errors.items ≡ codes "fatal: " ++ (message ++ codes "\n")) × (answer.status ≡ 128)

abbrev pub Fails : (message : List ℕ) → Answer → Type 0
Fails message answer = FailsAfter [] message answer

-- the error of `show-ref --verify` for a name that leads to no object, and that of `symbolic-ref` for one that cannot be followed
abbrev pub NotValid : (name : List ℕ) → Answer → Type 0
NotValid name answer = Fails (codes "'" ++ (name ++ codes "' - not a valid ref")) answer

abbrev pub NoSuchRef : (name : List ℕ) → Answer → Type 0
NoSuchRef name answer = Fails (codes "No such ref: " ++ name) answer

-- the id of the object that a name leads to, and the name
abbrev pub VerifyAnswer : NameEnd → (name : List ℕ) → Answer → Type 0
VerifyAnswer (Reached last id) name answer =
    Says (encode_lower (id_bytes id) ++ (codes " " ++ (name ++ codes "\n"))) 0 answer
VerifyAnswer end name answer = NotValid name answer

-- the last name that another one leads to, as it is shown
abbrev pub LastNameBy : (same : Bool) → (shown name : List ℕ) → Answer → Type 0
LastNameBy true shown name answer =
    Fails (codes "ref " ++ (name ++ codes " is not a symbolic ref")) answer
LastNameBy false shown name answer = Says (shown ++ codes "\n") 0 answer

abbrev pub LastName : (last shown name : List ℕ) → Answer → Type 0
LastName last shown name answer = LastNameBy (bytes_eq last name) shown name answer

-- the answers for a following that ends so
abbrev pub EndVerified : End → (name : List ℕ) → Answer → Type 0
EndVerified (ends.Object id) name answer =
    Says (encode_lower (id_bytes id) ++ (codes " " ++ (name ++ codes "\n"))) 0 answer
EndVerified ends.Memory name answer = ⊥
EndVerified end name answer = NotValid name answer

-- a name may be verified: a full name that begins with `refs/` or is `HEAD`
abbrev pub is_verifiable : (name : List ℕ) → Bool
is_verifiable name = (starts_with nat_eq name (codes "refs/") || bytes_eq name (codes "HEAD"))
    && is_none (full_error name)

-- A name as it is shown: itself, or its short name, which only the names that Git looks up before may take: by what lookups saw, on any
-- text of `packed-refs`, and where that is well formed or missing, by its records.
abbrev pub IsShownAs : {F : Type 0} (honest : Type 0) (means : F → Meaning) → Store F →
    (short : Bool) → (name shown : List ℕ) → Type 0
IsShownAs honest means store false name shown = shown ≡ name
IsShownAs honest means store true name shown = honest → SeesShort means store false name shown
    × ((records : List Record) → AreRecordsIn means store records →
    shown ≡ short_name (targets_in means store records) false name)

module _ {F R : Type 0} (G : Ghosts R) (honest : Type 0) (means : F → Meaning)
    (faults : F → FaultCounts) where
  -- what is answered for a name that may be verified: its following failed; or by where it leads
  abbrev pub VerifiesFull : (old : Store F) → (name : List ℕ) → Answer → Type 0
  VerifiesFull old name answer =
      (IsUnread G honest means faults old name × NotValid name answer)
      ⊎ ((end : NameEnd) × FollowsTo honest means old name end × VerifyAnswer end name answer)

  -- `show-ref --verify`: the name may not be verified; or what is answered where it may
  abbrev pub VerifiesAs : (old : Store F) → (name : List ℕ) → Answer → Type 0
  VerifiesAs old name answer = ((is_verifiable name ≡ false) × NotValid name answer)
      ⊎ ((is_verifiable name ≡ true) × VerifiesFull old name answer)

  -- the last name is shown; or it is to be shown short, and a lookup for that failed
  abbrev pub ShowsLast : (old : Store F) → (short : Bool) → (last name : List ℕ) → Answer → Type 0
  ShowsLast old short last name answer =
      ((shown : List ℕ) × IsShownAs honest means old short last shown
      × LastName last shown name answer)
      ⊎ ((short ≡ true) × IsUnshort G honest means faults false old last × NoSuchRef name answer)

  -- what is answered where the following of a name ends so: at an object, or without a reference
  abbrev pub ShowsEnd : (old : Store F) → (short : Bool) → NameEnd → (name : List ℕ) → Answer →
      Type 0
  ShowsEnd old short (Reached last id) name answer = ShowsLast old short last name answer
  ShowsEnd old short (Missing last) name answer = ShowsLast old short last name answer
  ShowsEnd old short TooDeep name answer = NoSuchRef name answer

  -- and of a name that a reference may have: its following failed; or by where it leads
  abbrev pub SymbolicFull : (old : Store F) → (short : Bool) → (name : List ℕ) → Answer → Type 0
  SymbolicFull old short name answer =
      (IsUnread G honest means faults old name × NoSuchRef name answer)
      ⊎ ((end : NameEnd) × FollowsTo honest means old name end × ShowsEnd old short end name answer)

  -- `symbolic-ref`: no reference may have the name; or what is answered where one may
  abbrev pub SymbolicAs : (old : Store F) → (short : Bool) → (name : List ℕ) → Answer → Type 0
  SymbolicAs old short name answer =
      ((is_none (partial_error name) ≡ false) × NoSuchRef name answer)
      ⊎ ((is_none (partial_error name) ≡ true) × SymbolicFull old short name answer)

-- a line for each path
abbrev pub path_lines : List (Vec ℕ Global) → List ℕ
path_lines paths = flat_map (λ (path : Vec ℕ Global). path.items ++ codes "\n") paths

-- the error for lock files that are not listed by a fault; want of memory has none
abbrev pub IsUnlistedBy : LockError → Answer → Type 0
IsUnlistedBy unlisted.Memory answer = ⊥
IsUnlistedBy (unlisted.Io path source) answer =
    Fails (codes "cannot look at '" ++ (path.items ++ codes "'")) answer

module _ {F : Type 0} (means : F → Meaning) (faults : F → FaultCounts) where
  -- why lock files are not listed: by a fault that was counted
  abbrev pub IsUnlisted : (old new : Store F) → Answer → Type 0
  IsUnlisted old new answer = (error : LockError)
      × IsLockFailure (settings_of old) (faults (files_of old)) (faults (files_of new)) error
      × IsUnlistedBy error answer

  -- `locks`: a line for each lock file; or why they are not listed
  abbrev pub LocksAnswer : (honest : Type 0) → (old new : Store F) → Answer → Type 0
  LocksAnswer honest old new answer =
      ((paths : List (Vec ℕ Global)) × (honest → AreLocks means old paths)
      × Says (path_lines paths) 0 answer) ⊎ IsUnlisted old new answer

  -- `locks --remove`: a line for each lock file, all of which were removed; or why they are not listed, and then none was removed; or
  -- a line for each that was removed before one that could not be, by a fault that was counted
  abbrev pub RemovesAnswer : (honest : Type 0) → (old new : Store F) → Answer → Type 0
  RemovesAnswer honest old new answer =
      ((paths : List (Vec ℕ Global)) × (honest → AreRemoved means old new paths)
      × Says (path_lines paths) 0 answer)
      ⊎ ((IsUnlisted old new answer
      × (honest → (means (files_of new)).tree ≡ (means (files_of old)).tree))
      ⊎ ((removed : List (Vec ℕ Global)) × (path : Vec ℕ Global)
      × (honest → StopsAt (meaning_of old) (means (files_of old)).tree (means (files_of new)).tree
      removed path) × ((error : FileError) × (error ≢ faulty.Memory)
      × IsMet error (faults (files_of old)) (faults (files_of new)))
      × FailsAfter (path_lines removed)
      (codes "cannot remove '" ++ (path.items ++ codes "'")) answer))

  -- why a log is not looked at: its path is prohibited, or by a fault that was counted; want of memory has no answer
  abbrev pub IsNotLookedAt : (old new : Store F) → (name : List ℕ) → Type 0
  IsNotLookedAt old new name = (error : LogError) × (error ≢ unlogged.Memory)
      × IsNoReflog old name error
      × (faults (files_of new) ≡ count_by error (faults (files_of old)))

  -- `reflog exists`: whether there is a log; or the name is no valid one; or the log is not looked at
  abbrev pub ExistsAs : (honest : Type 0) → (old new : Store F) → (name : List ℕ) → Answer → Type 0
  ExistsAs honest old new name answer = ((is_none (partial_error name) ≡ true)
      × (status : ℕ) × (honest → status ≡ (if is_file (reflog_at means old name) then 0 else 1))
      × Says [] status answer)
      ⊎ (((is_none (partial_error name) ≡ false)
      × Fails (codes "invalid ref format: " ++ name) answer)
      ⊎ ((is_none (partial_error name) ≡ true) × IsNotLookedAt old new name
      × Fails (codes "cannot look at the reflog of " ++ name) answer))
