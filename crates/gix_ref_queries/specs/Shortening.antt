-- Short names of references (`git symbolic-ref --short`, `%(refname:short)` of `git for-each-ref`).
use Rattle.std.specs.Prelude.{◌≡◌, ◌≢◌, ◌⊎◌, ℕ, List, [], ◌∷◌, ◌++◌, Bool, true, false, ◌&&◌, codes, drop, length, map, take, Option, Some, None, bytes_eq, if◌then◌else◌, is_none}
use denote.Ref.{Bor}
use Rattle.std.specs.List.{Any}
use Rattle.gix_ref_name.specs.NameGrammar.{full_error}
use Rattle.gix_ref_files.specs.Files.{FaultCounts, Meaning}
use Rattle.gix_ref_files.specs.declared.files.ReadAt.{Ghosts}
use Rattle.gix_ref_lookup.specs.declared.find.error.Error.{Error}
use Rattle.gix_ref_target.specs.PackedRecords.{Record}
use Rattle.gix_ref_store.specs.Lookup.{AreRecordsIn}
use Rattle.gix_ref_store.specs.declared.file.store.Store.{Store}
use Rattle.gix_ref_queries.specs.Resolving.{IsUnfollowedBy, NameEnd, SeesEnd, TargetsByName, resolved, targets_in}
use Rattle.gix_ref_queries.specs.Resolving.NameEnd.{Reached, Missing, TooDeep}
use Rattle.gix_ref_queries.specs.declared.short.ShortError.{ShortError}
use Rattle.gix_ref_queries.specs.declared.short.ShortError.TheVariants as shorts

-- a following ends at an object
abbrev pub is_reached : NameEnd → Bool
is_reached (Reached name id) = true
is_reached (Missing name) = false
is_reached TooDeep = false

-- a name leads to an object, by what lookups find
abbrev pub leads_to_object : TargetsByName → (name : List ℕ) → Bool
leads_to_object find name = is_none (full_error name) && is_reached (resolved find 5 name)

-- what Git puts before a short name and after it to look it up, in its order (`gitrevisions`)
abbrev pub rules : List (List ℕ × List ℕ)
rules =
    (codes "", codes "")
    ∷ (codes "refs/", codes "")
    ∷ (codes "refs/tags/", codes "")
    ∷ (codes "refs/heads/", codes "")
    ∷ (codes "refs/remotes/", codes "")
    ∷ (codes "refs/remotes/", codes "/HEAD")
    ∷ []

-- the full names that a short one may be short for
abbrev pub full_names : (short : List ℕ) → List (List ℕ)
full_names short = map (λ (rule : List ℕ × List ℕ). rule.0 ++ (short ++ rule.1)) rules

-- What one of them decides: where it is the name that is shown, it is clear, unless that is strict and those after it are asked for too;
-- where another one leads to an object, it is not.
abbrev pub decided : TargetsByName → (strict : Bool) → (name full : List ℕ) → Option Bool
decided find strict name full =
    if bytes_eq full name then (if strict then None else Some true)
    else (if leads_to_object find full then Some false else None)

abbrev pub decided_or : Option Bool → (other : Bool) → Bool
decided_or (Some clear) other = clear
decided_or None other = other

-- of these names the first that decides it does; where none does, it is clear
abbrev pub is_clear_among : TargetsByName → (strict : Bool) → (name : List ℕ) → List (List ℕ) → Bool
is_clear_among find strict name [] = true
is_clear_among find strict name (full ∷ more) =
    decided_or (decided find strict name full) (is_clear_among find strict name more)

-- the rest of a name after this prefix, where that is short for it alone
abbrev pub short_after : TargetsByName → (strict : Bool) → (name prefix : List ℕ) → Option (List ℕ)
short_after find strict name prefix =
    let short = drop (length prefix) name in
    if bytes_eq (take (length prefix) name) prefix
    && is_clear_among find strict name (full_names short) then Some short else None

abbrev pub short_or : Option (List ℕ) → (other : List ℕ) → List ℕ
short_or (Some short) other = short
short_or None other = other

-- and so by the first of these prefixes; else the name itself
abbrev pub short_by : TargetsByName → (strict : Bool) → (name : List ℕ) →
    (prefixes : List (List ℕ)) → List ℕ
short_by find strict name [] = name
short_by find strict name (prefix ∷ prefixes) =
    short_or (short_after find strict name prefix) (short_by find strict name prefixes)

-- the prefixes that are left out
abbrev pub short_prefixes : List (List ℕ)
short_prefixes =
    codes "refs/remotes/" ∷ codes "refs/heads/" ∷ codes "refs/tags/" ∷ codes "refs/" ∷ []

-- the short name of a reference
abbrev pub short_name : TargetsByName → (strict : Bool) → (name : List ℕ) → List ℕ
short_name find strict name = short_by find strict name short_prefixes

-- One of these names is asked for, whether it leads to an object: it is not the one that is shown, and none before it decides whether
-- that one is clear.
abbrev pub IsAskedAmong : (strict : Bool) → (name : List ℕ) → List (List ℕ) → TargetsByName →
    (asked : List ℕ) → Type 0
IsAskedAmong strict name [] find asked = ⊥
IsAskedAmong strict name (full ∷ more) find asked = ((asked ≡ full) × (full ≢ name))
    ⊎ ((decided find strict name full ≡ None) × IsAskedAmong strict name more find asked)

-- it is asked for by the rest of the name after this prefix
abbrev pub IsAskedAfter : (strict : Bool) → (name prefix : List ℕ) → TargetsByName →
    (asked : List ℕ) → Type 0
IsAskedAfter strict name prefix find asked = (short : List ℕ) × (name ≡ prefix ++ short)
    × IsAskedAmong strict name (full_names short) find asked

-- and so by the first of these prefixes that gives a short name, or by one before it
abbrev pub IsAskedBy : (strict : Bool) → (name : List ℕ) → (prefixes : List (List ℕ)) →
    TargetsByName → (asked : List ℕ) → Type 0
IsAskedBy strict name [] find asked = ⊥
IsAskedBy strict name (prefix ∷ prefixes) find asked = IsAskedAfter strict name prefix find asked
    ⊎ ((short_after find strict name prefix ≡ None) × IsAskedBy strict name prefixes find asked)

-- it is asked for the short name of a reference
abbrev pub IsAskedFor : (strict : Bool) → (name : List ℕ) → TargetsByName → (asked : List ℕ) →
    Type 0
IsAskedFor strict name find asked = IsAskedBy strict name short_prefixes find asked

-- a short name by these prefixes, whatever other names there are: what comes after one of them, or the whole name
abbrev pub IsShortBy : (name : List ℕ) → (prefixes : List (List ℕ)) → (short : List ℕ) → Type 0
IsShortBy name prefixes short = (short ≡ name)
    ⊎ Any (λ (prefix : List ℕ). name ≡ prefix ++ short) prefixes

-- and by those of Git
abbrev pub IsShortOf : (name short : List ℕ) → Type 0
IsShortOf name short = IsShortBy name short_prefixes short

-- What is seen of the full names on any text of `packed-refs`.
module _ {F : Type 0} (means : F → Meaning) (store : Store F) where
  -- by what lookups saw, a name leads to an object, or not; one that breaks a rule of names does not
  abbrev pub SeesLeads : (name : List ℕ) → (leads : Bool) → Type 0
  SeesLeads name leads = ((is_none (full_error name) ≡ false) × (leads ≡ false))
      ⊎ ((is_none (full_error name) ≡ true) × (end : NameEnd)
      × SeesEnd means store 5 name end × (leads ≡ is_reached end))

  -- what one of them decides
  abbrev pub SeesDecided : (strict : Bool) → (name full : List ℕ) → Option Bool → Type 0
  SeesDecided strict name full clear =
      ((full ≡ name) × (clear ≡ (if strict then None else Some true)))
      ⊎ ((full ≢ name) × (leads : Bool) × SeesLeads full leads
      × (clear ≡ (if leads then Some false else None)))

  -- the first that decides it does; where none does, it is clear
  abbrev pub SeesClear : (strict : Bool) → (name : List ℕ) → List (List ℕ) → (clear : Bool) →
      Type 0
  SeesClear strict name [] clear = clear ≡ true
  SeesClear strict name (full ∷ more) clear = SeesDecided strict name full (Some clear)
      ⊎ (SeesDecided strict name full None × SeesClear strict name more clear)

  -- the rest of a name after this prefix, where that is short for it alone
  abbrev pub SeesShortAfter : (strict : Bool) → (name prefix : List ℕ) → Option (List ℕ) → Type 0
  SeesShortAfter strict name prefix short = let rest = drop (length prefix) name in
      ((bytes_eq (take (length prefix) name) prefix ≡ false) × (short ≡ None))
      ⊎ ((name ≡ prefix ++ rest) × (clear : Bool)
      × SeesClear strict name (full_names rest) clear
      × (short ≡ (if clear then Some rest else None)))

  -- and so by the first of these prefixes; else the name itself
  abbrev pub SeesShortBy : (strict : Bool) → (name : List ℕ) → (prefixes : List (List ℕ)) →
      (short : List ℕ) → Type 0
  SeesShortBy strict name [] short = short ≡ name
  SeesShortBy strict name (prefix ∷ prefixes) short =
      SeesShortAfter strict name prefix (Some short)
      ⊎ (SeesShortAfter strict name prefix None × SeesShortBy strict name prefixes short)

  -- the short name of a reference
  abbrev pub SeesShort : (strict : Bool) → (name short : List ℕ) → Type 0
  SeesShort strict name short = SeesShortBy strict name short_prefixes short

-- the bytes that are lent
abbrev pub lent_bytes : Option (Bor (List ℕ)) → Option (List ℕ)
lent_bytes None = None
lent_bytes (Some bytes) = Some bytes.now

module _ {F R : Type 0} (G : Ghosts R) (honest : Type 0) (means : F → Meaning)
    (faults : F → FaultCounts) where
  -- The following of a full name that is asked for failed with this error. That it is asked for is said where the files are honest and
  -- `packed-refs` is well formed or missing.
  pub record IsAskedInVain (Asked : TargetsByName → (full : List ℕ) → Type 0) (old : Store F)
      (error : Error) : Type 0 where
    pub full : List ℕ
    pub unfollowed : IsUnfollowedBy G honest means faults old full error
    pub asked : honest → (records : List Record) → AreRecordsIn means old records →
        Asked (targets_in means old records) full

  -- why there is no short name: a lookup failed; or there was no memory
  abbrev pub IsNoShort : (Asked : TargetsByName → (full : List ℕ) → Type 0) → (old : Store F) →
      ShortError → Type 0
  IsNoShort Asked old (shorts.Unread error) = IsAskedInVain Asked old error
  IsNoShort Asked old shorts.Memory = Unit {0}

  -- a lookup for the short name of this one failed
  abbrev pub IsUnshort : (strict : Bool) → (old : Store F) → (name : List ℕ) → Type 0
  IsUnshort strict old name = (error : Error) × IsAskedInVain (IsAskedFor strict name) old error
