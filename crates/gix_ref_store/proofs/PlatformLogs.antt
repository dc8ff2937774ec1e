-- Why a platform reads no log.
use Rattle.std.proofs.Common.{◌≡◌, ℕ, List, Option, Result, Ok, Err, refl, arith}
use Rattle.std.specs.Prelude.{IfErr}
use Rattle.gix_ref_files.specs.Files.{Meaning, FaultCounts}
use Rattle.gix_ref_files.specs.Tree.{Content}
use Rattle.gix_ref_files.proofs.Moments.{starts, passes_starts}
use Rattle.gix_ref_lookup.specs.Reflogs.{count_log}
use Rattle.gix_ref_lookup.specs.declared.reflog.error.Error.{Error}
use Rattle.gix_ref_lookup.specs.declared.reflog.error.Error.TheVariants.{RefnameValidation, Io, DeviceName, EmptyBuffer, Memory}
use Rattle.gix_ref_store.specs.Store.{files_of}
use Rattle.gix_ref_store.specs.Lookup.{LooksUp}
use Rattle.gix_ref_store.specs.Reflogs.{IsNoReflog, IsNoReverse, LeavesNoReflog}
use Rattle.gix_ref_store.specs.declared.file.store.Store.{Store}

module _ {F : Type 0} (honest : Type 0) (means : F → Meaning) (faults : F → FaultCounts) (old : Store F) (name : List ℕ) where
  -- nothing was asked
  looks_same : LooksUp honest means old old
  looks_same = record {
    leaves = λ h. starts (means (files_of old)) _ refl;
    passes = λ h. passes_starts (means (files_of old)) _ refl;
    same = record { dirs = refl; namespace = refl; of_kind = refl; reflogs = refl; composes = refl; prohibits = refl; threshold = refl };
  }

  -- there was no memory for what is read
  pub no_room : LeavesNoReflog honest means faults old name Memory
  no_room = record { why = tt; left = old; looks_up = looks_same; counts = refl }

  -- the log was asked for, oldest lines first
  pub no_lines : {A : Type 0} (left : Store F) (r : Result A Error) → LooksUp honest means old left → faults (files_of left) ≡ count_log r (faults (files_of old)) → IfErr r (IsNoReflog old name) → IfErr r (LeavesNoReflog honest means faults old name)
  no_lines left (Ok lines) looks count why = tt
  no_lines left (Err error) looks count why = record { why = why; left = left; looks_up = looks; counts = count }

  -- the log was asked for, newest lines first, through a buffer with room
  pub no_lines_back : {A : Type 0} (left : Store F) (content : Option Content) (room : ℕ) (r : Result A Error) → room ≡ 4096 → LooksUp honest means old left → faults (files_of left) ≡ count_log r (faults (files_of old)) →
      IfErr r (IsNoReverse honest content room old name) → IfErr r (LeavesNoReflog honest means faults old name)
  no_lines_back left content room (Ok lines) some looks count why = tt
  no_lines_back left content room (Err EmptyBuffer) some looks count why = let none : room ≡ 0 = why.0 in absurd (omega arith)
  no_lines_back left content room (Err (RefnameValidation error)) some looks count why = record { why = why; left = left; looks_up = looks; counts = count }
  no_lines_back left content room (Err (Io error)) some looks count why = record { why = why; left = left; looks_up = looks; counts = count }
  no_lines_back left content room (Err DeviceName) some looks count why = record { why = why; left = left; looks_up = looks; counts = count }
  no_lines_back left content room (Err Memory) some looks count why = record { why = why; left = left; looks_up = looks; counts = count }
