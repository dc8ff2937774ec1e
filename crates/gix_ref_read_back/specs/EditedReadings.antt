-- What a reference reads after edits, and what a lookup of its full name finds then.
use Rattle.std.specs.Prelude.{◌≡◌, ◌||◌, ℕ, List, Bool, true, drop, Option, Some, None, Result, Ok, Err}
use Rattle.gix_ref_files.specs.declared.files.FileError.{FileError}
use Rattle.gix_ref_name.specs.Candidates.{candidates, is_pseudo, is_full_ref_path, remote_head}
use Rattle.gix_ref_name.specs.Names.{full_bytes}
use Rattle.gix_ref_target.specs.Targets.{target_value}
use Rattle.gix_ref_packed_text.specs.declared.raw.Reference.{Reference}
use Rattle.gix_ref_theory.specs.Edits.{Edit, edited_reading}
use Rattle.gix_ref_theory.specs.Lookups.{hit_name, lookup}
use Rattle.gix_ref_theory.specs.Readings.{Store, Reading, reading, records_of_file}
use Rattle.gix_ref_theory.specs.Readings.Reading.{Is, Fault, Absent}
use Rattle.gix_ref_theory.specs.Views.{View}
use Rattle.gix_ref_lookup.specs.Lookups.{ReturnsHit, IsSound, name_asked}
use Rattle.gix_ref_lookup.specs.declared.find.error.Error.{Error as FindError}
use Rattle.gix_ref_lookup.specs.declared.find.error.Error.TheVariants.{Memory, PackedOpen, ReadFileContents}
use Rattle.gix_ref_lookup.specs.declared.find.error.ReadError.TheVariants.{File as file_error}
use Rattle.gix_ref_packed.specs.declared.packed.buffer.open.Error.TheVariants.{Io}
use Rattle.gix_ref_lookup.specs.declared.find.existing.Error.{Error as Missing}
use Rattle.gix_ref_lookup.specs.declared.find.existing.Error.TheVariants.{Find, NotFound}

-- what a reference reads after these edits, where these were the files before
abbrev pub reading_after : Store → View → List Edit → List ℕ → Reading
reading_after s view edits name = edited_reading s edits name (reading s view name)

-- A full name that a lookup takes as itself first: it begins with `refs/`, `main-worktree/` or `worktrees/`, or has only capitals
-- and underscores; it may be that of a reference; and it is not composed to another name.
pub record IsAskedFirst (s : Store) (composes : Bool) (name : List ℕ) : Type 0 where
  pub reference : s.is_reference name ≡ true
  pub first : (is_pseudo name || is_full_ref_path name) ≡ true
  pub composed : name_asked composes name ≡ name

-- what it may be short for beside itself
abbrev pub further : List ℕ → List (List ℕ)
further name = drop 1 (candidates name)

-- What a lookup of such a name finds where it reads this: its target. Where it reads nothing, the lookup goes on with the names
-- that it may be short for; and a fault is an error.
abbrev pub AnswersName : Store → View → List ℕ → Reading → Option Reference → Type 0
AnswersName s view name (Is target) (Some r) =
    (target_value r.target ≡ target)
    × (full_bytes r.name ≡ hit_name s name (s.key name) (view (s.place name)))
AnswersName s view name (Is target) None = ⊥
AnswersName s view name Fault found = ⊥
AnswersName s view name Absent found = ReturnsHit
    (lookup s view (records_of_file s (view s.packed_path)) (further name) (remote_head name)) found

-- Why a lookup of such a name has an error: there was no memory; or, where the name reads a target, a call of files failed. Where
-- it reads a fault, that is one; where it reads nothing, one of the further names may have one.
abbrev pub FailsAs : (failed : FileError → Type 0) → Reading → FindError → Type 0
FailsAs failed reading Memory = Unit {0}
FailsAs failed (Is target) (PackedOpen (Io error)) = failed error
FailsAs failed (Is target) (ReadFileContents (file_error error) path) = failed error
FailsAs failed (Is target) error = ⊥
FailsAs failed Fault error = Unit {0}
FailsAs failed Absent error = Unit {0}

-- and so as the result of `find`; the error of a lookup is a fault of files, a file that cannot be decoded, or want of memory
abbrev pub IsFoundAs : Store → View → List ℕ → (failed : FileError → Type 0) → Reading →
    Result Reference Missing → Type 0
IsFoundAs s view name failed reading (Ok r) = AnswersName s view name reading (Some r)
IsFoundAs s view name failed reading (Err (NotFound partial)) = AnswersName s view name reading None
IsFoundAs s view name failed reading (Err (Find error)) = IsSound error
    × FailsAs failed reading error
