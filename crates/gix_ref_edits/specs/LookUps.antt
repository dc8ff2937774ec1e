-- What a finder of targets was asked, and what it answered.
use Rattle.std.specs.Prelude.{◌≡◌, ℕ, List, Option, Some, None, Result, Ok, Err, All, map, filter}
use Rattle.std.specs.List.{FoldsTo}
use Rattle.gix_ref_name.specs.declared.name.PartialNameRef.{PartialNameRef}
use Rattle.gix_ref_target.specs.declared.target.Target.{Target}
use Rattle.gix_ref_target.specs.declared.target.Target.TheVariants as targets
use Rattle.gix_ref_name.specs.Names.{partial_ref_bytes, full_bytes}
use Rattle.gix_ref_edits.specs.EditValues.{EditValue}

-- a name that was looked up, and the name that its reference leads to, where it is symbolic
pub record LookUp : Type 0 where
  pub name : List ℕ
  pub referent : Option (List ℕ)

-- the name that a target is
abbrev pub referent_of : Option Target → Option (List ℕ)
referent_of (Some (targets.Symbolic name)) = Some (full_bytes name)
referent_of other = None

-- A call of the finder with this name answered where it leads.
pub record Answers {F E : Type 0} (step : F → PartialNameRef → Result (Option Target) E → F →
    Type 0) (before : F) (lookup : LookUp) (after : F) : Type 0 where
  pub asked : PartialNameRef
  pub name : partial_ref_bytes asked ≡ lookup.name
  pub target : Option Target
  pub called : step before asked (Ok target) after
  pub referent : referent_of target ≡ lookup.referent

-- These calls were made, in order.
abbrev pub CallsInOrder : {F E : Type 0} →
    (F → PartialNameRef → Result (Option Target) E → F → Type 0) → F → List LookUp → F → Type 0
CallsInOrder step = FoldsTo (Answers step)

-- all of them answered as `find` says
abbrev pub AnswersBy : (List ℕ → Option (List ℕ)) → List LookUp → Type 0
AnswersBy find = All (λ lookup. find lookup.name ≡ lookup.referent)

-- the calls for these edits: one for each that follows, in order
unfoldable pub lookups_of : (List ℕ → Option (List ℕ)) → List EditValue → List LookUp
lookups_of find edits = map (λ edit. record { name = edit.name; referent = find edit.name })
    (filter (λ edit. edit.deref) edits)

-- The finder is in the state to which some calls that answered led, one after the other.
pub record HasLookedUp {F E : Type 0} (step : F → PartialNameRef → Result (Option Target) E → F →
    Type 0) (before later : F) : Type 0 where
  pub lookups : List LookUp
  pub called : CallsInOrder step before lookups later

-- calls that answered, and then one that failed
pub record LookUpFailed {F E : Type 0} (step : F → PartialNameRef → Result (Option Target) E → F →
    Type 0) (before later : F) (error : E) : Type 0 where
  pub lookups : List LookUp
  pub between : F
  pub called : CallsInOrder step before lookups between
  pub asked : PartialNameRef
  pub failed : step between asked (Err error) later
