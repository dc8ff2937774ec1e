-- A transaction of commands: what it keeps where it is not begun.
use Rattle.std.proofs.Common.{◌≡◌, refl}
use Rattle.gix_ref_files.specs.Disk.{Lost}
use Rattle.gix_ref_files.specs.Files.{Meaning, Loses, disk_of}
use Rattle.gix_ref_files.specs.Tree.{Tree, file_of}
use Rattle.gix_ref_files.proofs.Settling.{lost_holds}
use Rattle.gix_ref_theory.proofs.Sequences.{loses_starts}
use Rattle.gix_ref_program.specs.Writes.{IsKept}

-- a loss of power leaves each file that was settled
pub kept : {F : Type 0} (means : F → Meaning) (files : F) (T : Tree) → Lost (disk_of (means files)) T → IsKept means files T
kept means files T lost q settled = lost_holds (disk_of (means files)) T (file_of ((means files).tree q)) (λ f. f ≡ file_of ((means files).tree q)) q settled refl lost

-- where nothing was begun, each is as it was
pub keeps_all : {F : Type 0} (means : F → Meaning) (files : F) (Left : Tree → Type 0) → ((T : Tree) → IsKept means files T → Left T) → Loses (means files) (means files) Left
keeps_all means files Left leaves = loses_starts (means files) Left (λ T lost. leaves T (kept means files T lost))
