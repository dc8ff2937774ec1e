-- Rounds of splits, by where each edit leads.
use Rattle.gix_ref_files.specs.Files.{FaultCounts}
use Rattle.std.specs.Prelude.{◌≡◌, ◌⊎◌, ℕ, suc, List, [], ◌∷◌, ◌++◌, Option, Some, None, false, map, All, IsSome, length, vec_len}
use Rattle.std.specs.Option.{option_map}
use Rattle.gix_ref_hash.specs.declared.hash.Kind.{Kind}
use Rattle.gix_ref_name.specs.Names.{full_bytes}
use Rattle.gix_ref_name.specs.declared.name.FullName.{FullName}
use Rattle.gix_ref_target.specs.Targets.{TargetValue, target_name, target_value, stripped_target}
use Rattle.gix_ref_lookup.specs.declared.find.loose.Loose.{Loose}
use Rattle.gix_ref_lookup.specs.declared.find.loose.Loose.TheVariants as loose_files
use Rattle.gix_ref_theory.specs.Readings.{Store}
use Rattle.gix_ref_edits.specs.EditValues.{ChangeValue, EditValue, ExpectedValue, edit_value}
use Rattle.gix_ref_edits.specs.EditValues.ChangeValue.{update, delete}
use Rattle.gix_ref_edits.specs.EditValues.ExpectedValue.{must_not_exist, must_match, may_match}
use Rattle.gix_ref_edits.specs.SplitLists.{looked_up, child_list, referent, after_round, children}
use Rattle.gix_ref_edits.specs.declared.transaction.RefEdit.{RefEdit}
use Rattle.gix_ref_transaction.specs.Causes.{IsCounted, IsFullTarget, IsIoOrMemory, IsOfKind, IsWellNamed, IsWholeTarget}
use Rattle.gix_ref_transaction.specs.Parents.{parent_list, parents_from}
use Rattle.gix_ref_transaction.specs.Splits.{name_led_to, values_of, CanFollow, IsFirstMisnamed}
use Rattle.gix_ref_transaction.specs.declared.prepare.error.Error.{Error}
use Rattle.gix_ref_transaction.specs.declared.prepare.split.SplitEdits.{SplitEdits}
use Rattle.gix_ref_files.specs.Tree.{Tree}
use Rattle.gix_ref_theory.specs.OnRealTrees.{view_of}

-- the name that a loose file leads to
abbrev pub name_by : List ℕ → Loose → Option (List ℕ)
name_by namespace (loose_files.Holds target) =
    target_name (stripped_target namespace (target_value target))
name_by namespace other = None

-- the bytes of names that may be missing
abbrev pub led_to : List (Option FullName) → List (Option (List ℕ))
led_to names = map (λ (name : Option FullName). option_map full_bytes name) names

-- where edits lead, by a finder
abbrev pub led_by : (List ℕ → Option (List ℕ)) → List EditValue → List (Option (List ℕ))
led_by find edits = map (λ (edit : EditValue). referent find edit.name edit.deref) edits

-- edits after their round, where each leads there
abbrev pub after_by : List EditValue → List (Option (List ℕ)) → List EditValue
after_by [] led = []
after_by (edit ∷ edits) [] = []
after_by (edit ∷ edits) (name ∷ led) = looked_up edit name ∷ after_by edits led

-- and their children
abbrev pub children_by : List EditValue → List (Option (List ℕ)) → List EditValue
children_by [] led = []
children_by (edit ∷ edits) [] = []
children_by (edit ∷ edits) (name ∷ led) = child_list edit name ++ children_by edits led

-- the parents of these, where the first of the edits is at this place
abbrev pub parents_by : (place : ℕ) → List (Option (List ℕ)) → List (Option ℕ)
parents_by place [] = []
parents_by place (name ∷ led) = parent_list place name ++ parents_by (suc place) led

-- a round over these edits, wherever they lead
pub record IsRoundBy (edits after kids : List EditValue) : Type 0 where
  pub led : List (Option (List ℕ))
  pub len : length led ≡ length edits
  pub changed : after ≡ after_by edits led
  pub split : kids ≡ children_by edits led

-- a round over these edits, with this finder
pub record IsRoundOver (find : List ℕ → Option (List ℕ))
    (edits after kids : List EditValue) : Type 0 where
  pub changed : after ≡ after_round find edits
  pub split : kids ≡ children find edits

-- the children of an edit, of which there is one or none
abbrev pub child_values : Option RefEdit → List EditValue
child_values None = []
child_values (Some child) = edit_value child ∷ []

-- the new target of a change, and the one that it expects
abbrev pub new_in : ChangeValue → Option TargetValue
new_in (update mode forced message expected new) = Some new
new_in (delete expected mode) = None

abbrev pub previous_in : ExpectedValue → Option TargetValue
previous_in (must_match target) = Some target
previous_in (may_match target) = Some target
previous_in other = None

abbrev pub expected_in : ChangeValue → ExpectedValue
expected_in (update mode forced message expected new) = expected
expected_in (delete expected mode) = expected

-- a deletion does not expect that there is no reference
abbrev pub IsPossibleValue : ChangeValue → Type 0
IsPossibleValue (update mode forced message expected new) = Unit {0}
IsPossibleValue (delete must_not_exist mode) = ⊥
IsPossibleValue (delete expected mode) = Unit {0}

-- a change is sound: it can be, and its targets are sound
pub record IsSoundChange (kind : Kind) (change : ChangeValue) : Type 0 where
  pub possible : IsPossibleValue change
  pub target : IsFullTarget (new_in change)
  pub new : IsOfKind kind (new_in change)
  pub previous : IsOfKind kind (previous_in (expected_in change))
  pub whole : IsWholeTarget (new_in change)

-- an edit is valid by itself
abbrev pub IsValidValue : Store → Kind → EditValue → Type 0
IsValidValue s kind edit = IsWellNamed s edit.name × IsSoundChange kind edit.change

-- and so it is once it may be looked up
abbrev pub IsSoundValue : Store → Kind → EditValue → Type 0
IsSoundValue s kind edit = (edit.deref ≡ false → IsWellNamed s edit.name)
    × IsSoundChange kind edit.change

-- an edit is an update
abbrev pub IsUpdateValue : EditValue → Type 0
IsUpdateValue edit = IsSome (new_in edit.change)

-- One round of these edits, before which there are `first` others: what they are after it, their children, and the places of the parents of
-- these. Each edit that is looked up may be.
pub record IsSplitRound (honest : Type 0) (s : Store) (T : Tree) (first : ℕ)
    (old new : List RefEdit) (kids : SplitEdits) : Type 0 where
  pub round : honest → IsRoundOver (name_led_to s (view_of T)) (values_of old) (values_of new)
      (values_of kids.edits.items)
  pub parents : honest → kids.parents.items ≡ parents_from (name_led_to s (view_of T)) first
      (values_of old)
  pub len : vec_len kids.parents ≡ vec_len kids.edits
  pub by : IsRoundBy (values_of old) (values_of new) (values_of kids.edits.items)
  pub can_follow : All (CanFollow s) (values_of old)

-- Why a round fails: a fault of files or of memory, or the name of an edit that is looked up; and of `Io` this fault was counted.
pub record IsRoundFault (s : Store) (edits : List RefEdit) (before now : FaultCounts)
    (error : Error) : Type 0 where
  pub cause : IsIoOrMemory error ⊎ IsFirstMisnamed s (values_of edits) error
  pub counted : IsCounted before now error
