-- Splits of a transaction's edits, by what the loose files of a store lead to, and why they are refused.
use Rattle.std.specs.Prelude.{◌≡◌, ◌⊎◌, ℕ, List, [], ◌∷◌, ◌++◌, true, false, Option, Some, None, map, All}
use Rattle.gix_ref_hash.specs.declared.hash.Kind.{Kind}
use Rattle.gix_ref_target.specs.Targets.{TargetValue, target_name}
use Rattle.gix_ref_files.specs.Tree.{Tree}
use Rattle.gix_ref_theory.specs.OnRealTrees.{view_of}
use Rattle.gix_ref_theory.specs.Readings.{Store, as_read}
use Rattle.gix_ref_theory.specs.Views.{View}
use Rattle.gix_ref_edits.specs.EditValues.{EditValue, edit_value}
use Rattle.gix_ref_edits.specs.SplitLists.{IsSplitList, first_levels, level}
use Rattle.gix_ref_edits.specs.declared.transaction.RefEdit.{RefEdit}
use Rattle.gix_ref_edits.specs.declared.transaction.ext.error.SplitError.TheVariants.{TooManySplits}
use Rattle.gix_ref_edits.specs.DoubledNames.{NoneDoubled}
use Rattle.gix_ref_hash.specs.declared.hash.ObjectId.{ObjectId}
use Rattle.gix_ref_object.specs.Objects.{Stored}
use Rattle.gix_ref_theory.specs.Edits.{Mode}
use Rattle.gix_ref_transaction.specs.Peels.{IsLockCause}
use Rattle.gix_ref_transaction.specs.Causes.{decoded, names_of, AllValid, IsDoubling, IsFirstInvalid, IsIoOrMemory, IsMisnamed, IsWellNamed}
use Rattle.gix_ref_transaction.specs.declared.prepare.error.Error.{Error}
use Rattle.gix_ref_transaction.specs.declared.prepare.error.Error.TheVariants.{PreprocessingFailed}

-- the name that the target of a loose file is, without the namespace
abbrev pub symbolic_name_in : Store → Option TargetValue → Option (List ℕ)
symbolic_name_in s None = None
symbolic_name_in s (Some target) = target_name (as_read s target)

-- Where the reference of a name leads: to the symbolic target of its loose file. A record names an object.
abbrev pub name_led_to : Store → View → List ℕ → Option (List ℕ)
name_led_to s view name = symbolic_name_in s (decoded s (view (s.place name)))

-- edits as values
abbrev pub values_of : List RefEdit → List EditValue
values_of edits = map edit_value edits

-- What becomes of edits where some follow symbolic references: their split list.
abbrev pub AreSplit : Store → View → (given split : List RefEdit) → Type 0
AreSplit s view given split = IsSplitList (name_led_to s view) (values_of given) (values_of split)

-- the edits of the rounds: those that are given, and the children of the first four rounds
abbrev pub all_rounds : Store → View → List RefEdit → List EditValue
all_rounds s view given = first_levels (name_led_to s view) (values_of given) 5

-- an edit that is looked up may be: one that follows has a name for edits
abbrev pub CanFollow : Store → EditValue → Type 0
CanFollow s edit = edit.deref ≡ true → IsWellNamed s edit.name

-- the error is that of the first of these edits that is looked up and may not be
pub record IsFirstMisnamed (s : Store) (edits : List EditValue) (error : Error) : Type 0 where
  pub before : List EditValue
  pub edit : EditValue
  pub after : List EditValue
  pub parts : edits ≡ before ++ edit ∷ after
  pub can_follow : All (CanFollow s) before
  pub follows : edit.deref ≡ true
  pub fault : IsMisnamed s edit.name error

-- a fifth round finds children, where all may be looked up
abbrev pub IsTooLong : Store → View → List RefEdit → Error → Type 0
IsTooLong s view given (PreprocessingFailed (TooManySplits rounds)) =
    (rounds ≡ 5) × All (CanFollow s) (all_rounds s view given)
    × (level (name_led_to s view) (values_of given) 5 ≡ [] → ⊥)
IsTooLong s view given other = ⊥

-- no edit follows a symbolic reference
abbrev pub AreDirect : List RefEdit → Type 0
AreDirect edits = All (λ (edit : RefEdit). edit.deref ≡ false) edits

-- The first cause before the split list is there: each edit as it is given; then the name of each edit that is looked up, and the rounds.
abbrev pub IsSplitCause : Store → Kind → Tree → List RefEdit → Error → Type 0
IsSplitCause s kind T given error =
    IsIoOrMemory error
    ⊎ (IsFirstInvalid s kind [] given error
    ⊎ (AllValid s kind [] given × (IsFirstMisnamed s (all_rounds s (view_of T) given) error
    ⊎ IsTooLong s (view_of T) given error)))

-- The first cause: each edit as it is given; then the splits, with the name of each edit that is looked up; then a name of two edits of
-- the split list; then the lock of `packed-refs`; then the objects that are put into it; then, edit by edit, its lock and what it expects.
abbrev pub Refuses : (claims : Type 0) → (ObjectId → Stored) → Store → Mode → Kind → Tree →
    List RefEdit → Error → Type 0
Refuses claims meaning s mode kind T given error =
    IsSplitCause s kind T given error
    ⊎ (AllValid s kind [] given × All (CanFollow s) (all_rounds s (view_of T) given)
    × ((split : List RefEdit) × AreSplit s (view_of T) given split
    × (IsDoubling split error
    ⊎ (NoneDoubled (names_of split) × IsLockCause claims meaning s mode kind T split error))))
