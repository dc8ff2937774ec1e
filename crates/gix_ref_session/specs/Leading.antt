-- Where symbolic references lead the edits of a transaction (`git update-ref`).
use Rattle.std.specs.Prelude.{◌≡◌, ℕ, List, [], ◌∷◌, Bool, true, false, ◌&&◌, ◌||◌, if◌then◌else◌, bytes_eq, codes, is_none, Option, Some, None}
use Rattle.gix_ref_target.specs.Targets.{TargetValue}
use Rattle.gix_ref_target.specs.Targets.TargetValue.{object_id, symbolic_name}
use Rattle.gix_ref_edits.specs.RefEdits.{SameChange, is_of_reference, mode_of, name_of, new_of}
use Rattle.gix_ref_edits.specs.declared.transaction.Change.{Change}
use Rattle.gix_ref_edits.specs.declared.transaction.RefEdit.{RefEdit}
use Rattle.gix_ref_queries.specs.Resolving.{TargetsByName, NameEnd, Missing, Reached, SeesEnd, SeesTarget, TooDeep, targets_in, resolved}
use Rattle.gix_ref_files.specs.Files.{Meaning}
use Rattle.gix_ref_target.specs.PackedRecords.{Record}
use Rattle.gix_ref_store.specs.Lookup.{AreRecordsIn}
use Rattle.gix_ref_store.specs.declared.file.store.Store.{Store}

-- the name that a symbolic target is
abbrev pub next_of : Option TargetValue → Option (List ℕ)
next_of (Some (symbolic_name next)) = Some next
next_of target = None

abbrev pub is_object : Option TargetValue → Bool
is_object (Some (object_id id)) = true
is_object target = false

-- an update of a reference, and not of its log alone, to an object
abbrev pub updates : Change → Bool
updates change = is_of_reference (mode_of change) && is_object (new_of change)

-- a deletion that follows symbolic references
abbrev pub is_followed : RefEdit → Bool
is_followed edit = edit.deref && is_none (new_of edit.change)

-- the branch that `HEAD` leads to, where lines are written
abbrev pub branch_of : TargetsByName → (writes_lines : Bool) → Option (List ℕ)
branch_of find true = next_of (find (codes "HEAD"))
branch_of find false = None

-- it has this name
abbrev pub is_named : (branch : Option (List ℕ)) → (name : List ℕ) → Bool
is_named (Some branch) name = bytes_eq branch name
is_named None name = false

-- An update of that branch is made through `HEAD`, whose log gets its line too; but if the branch is symbolic, by its target, only
-- where it is followed.
abbrev pub is_through_head : (own : Option TargetValue) → (branch : Option (List ℕ)) → RefEdit →
    Bool
is_through_head own branch edit = is_named branch (name_of edit) && (updates edit.change
    && (edit.deref || is_none (next_of own)))

-- the last name of a chain of five symbolic references at most
abbrev pub last_of : NameEnd → Option (List ℕ)
last_of (Reached last id) = Some last
last_of (Missing last) = Some last
last_of TooDeep = None

abbrev pub name_or : (name : List ℕ) → Option (List ℕ) → List ℕ
name_or name (Some last) = last
name_or name None = name

-- A deletion that follows is of the last name itself, where its following ends so; where there are more, it stays as it is. Any other
-- edit does.
abbrev pub led_name : (own : Option TargetValue) → NameEnd → (branch : Option (List ℕ)) → RefEdit →
    List ℕ
led_name own end branch edit =
    if is_through_head own branch edit then codes "HEAD"
    else if is_followed edit then name_or (name_of edit) (last_of end)
    else name_of edit

abbrev pub led_deref : (own : Option TargetValue) → NameEnd → (branch : Option (List ℕ)) → RefEdit →
    Bool
led_deref own end branch edit =
    if is_through_head own branch edit then true
    else if is_followed edit then is_none (last_of end)
    else edit.deref

-- an edit is led to another, whose reference has this target, and where the following of its name ends so
pub record LeadsBy (own : Option TargetValue) (end : NameEnd) (branch : Option (List ℕ))
    (edit led : RefEdit) : Type 0 where
  pub name_is : name_of led ≡ led_name own end branch edit
  pub deref_is : led.deref ≡ led_deref own end branch edit

-- and by what lookups find
abbrev pub LeadsTo : TargetsByName → (branch : Option (List ℕ)) → (edit led : RefEdit) → Type 0
LeadsTo find branch edit led =
    LeadsBy (find (name_of edit)) (resolved find 5 (name_of edit)) branch edit led

-- By what lookups in a store saw, on any text of `packed-refs`:
module _ {F : Type 0} (means : F → Meaning) (store : Store F) where
  -- the name that a name leads to, if it is symbolic
  abbrev pub SeesNext : (name : List ℕ) → Option (List ℕ) → Type 0
  SeesNext name next = (target : Option TargetValue) × SeesTarget means store name target
      × (next ≡ next_of target)

  -- the last name of its chain
  abbrev pub SeesLast : (name : List ℕ) → Option (List ℕ) → Type 0
  SeesLast name last = (end : NameEnd) × SeesEnd means store 5 name end × (last ≡ last_of end)

  -- the branch that `HEAD` leads to, where lines are written
  abbrev pub SeesBranch : (writes_lines : Bool) → Option (List ℕ) → Type 0
  SeesBranch true branch = SeesNext (codes "HEAD") branch
  SeesBranch false branch = branch ≡ None

  -- the target of the reference of an edit, where that decides: the edit is an update of the branch, and does not follow
  abbrev pub SeesOwn : (branch : Option (List ℕ)) → RefEdit → Option TargetValue → Type 0
  SeesOwn branch edit own = is_named branch (name_of edit) ≡ true → updates edit.change ≡ true →
      edit.deref ≡ false → SeesTarget means store (name_of edit) own

  -- whether an edit is made through `HEAD`
  abbrev pub SeesThrough : (branch : Option (List ℕ)) → RefEdit → Bool → Type 0
  SeesThrough branch edit through = (own : Option TargetValue) × SeesOwn branch edit own
      × (through ≡ is_through_head own branch edit)

  -- An edit is led to another, where `HEAD` leads to this branch.
  pub record SeesLed (branch : Option (List ℕ)) (edit led : RefEdit) : Type 0 where
    pub own : Option TargetValue
    pub own_seen : SeesOwn branch edit own
    pub end : NameEnd
    pub end_seen : is_through_head own branch edit ≡ false → is_followed edit ≡ true →
        SeesEnd means store 5 (name_of edit) end
    pub leads : LeadsBy own end branch edit led

-- An edit is led to another in a store, where lines are written or are not.
pub record LeadsIn {F : Type 0} (honest : Type 0) (means : F → Meaning) (store : Store F)
    (writes_lines : Bool) (edit led : RefEdit) : Type 0 where
  -- by what lookups saw, on any text of `packed-refs`
  pub seen : honest → (branch : Option (List ℕ)) × SeesBranch means store writes_lines branch
      × SeesLed means store branch edit led
  -- where `packed-refs` is well formed or missing, by what they find
  pub exact : honest → (records : List Record) → AreRecordsIn means store records →
      LeadsTo (targets_in means store records)
      (branch_of (targets_in means store records) writes_lines) edit led

-- an edit as it is made: its change is the same
pub record IsLed (Leads : (edit led : RefEdit) → Type 0) (edit led : RefEdit) : Type 0 where
  pub change : SameChange edit.change led.change
  pub leads : Leads edit led

-- edits as they are made, one by one
abbrev pub AreLed : (Leads : (edit led : RefEdit) → Type 0) → (edits led : List RefEdit) → Type 0
AreLed Leads [] [] = Unit {0}
AreLed Leads [] (l ∷ led) = ⊥
AreLed Leads (e ∷ edits) [] = ⊥
AreLed Leads (e ∷ edits) (l ∷ led) = IsLed Leads e l × AreLed Leads edits led
