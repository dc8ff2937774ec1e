-- Stores that are only looked at.
use Rattle.std.proofs.Common.{refl}
use Rattle.gix_ref_files.specs.Files.{Meaning, disk_of}
use Rattle.gix_ref_files.proofs.Moments.{starts, passes_starts}
use Rattle.gix_ref_files.specs.Calls.{Unchanged}
use Rattle.gix_ref_files.specs.DiskCalls.{Untouched}
use Rattle.gix_ref_store.specs.Lookup.{LooksUp}
use Rattle.gix_ref_store.specs.Prepared.{tree_of}
use Rattle.gix_ref_store.specs.Store.{files_of}
use Rattle.gix_ref_store.specs.declared.file.store.Store.{Store}
use Rattle.gix_ref_store.proofs.Walked.{looks_on as joined}

pub looks_same : {F : Type 0} (honest : Type 0) (means : F → Meaning) (store : Store F) → LooksUp honest means store store
looks_same honest means store = record {
  leaves = λ h. starts (means (files_of store)) (Unchanged (tree_of means store)) refl;
  passes = λ h. passes_starts (means (files_of store)) (Untouched (disk_of (means (files_of store)))) refl;
  same = record { dirs = refl; namespace = refl; of_kind = refl; reflogs = refl; composes = refl; prohibits = refl; threshold = refl };
}

pub looks_on : {F : Type 0} (honest : Type 0) (means : F → Meaning) (old mid new : Store F) → LooksUp honest means old mid → LooksUp honest means mid new → LooksUp honest means old new
looks_on honest means old mid new first second = joined honest means old mid new first second
