-- How many edits are done where a run ended: as before the step, but where only a sync after its rename failed.
use Rattle.std.proofs.Common.{◌≡◌, ℕ, refl}
use Rattle.gix_ref_files.specs.declared.files.FileError.{FileError}
use Rattle.gix_ref_files.specs.declared.steps.Cause.TheVariants.{File, Unexpected, Asked}
use Rattle.gix_ref_commit.specs.Entries.{done_at, done_before}
use Rattle.gix_ref_commit.specs.declared.plan.About.{About}
use Rattle.gix_ref_commit.specs.declared.plan.About.TheVariants as about

pub done_by_fault : (n : ℕ) (a : About) (error : FileError) → done_at n a (File error) ≡ done_before n a
done_by_fault n (about.Folders at) error = refl
done_by_fault n (about.Line at) error = refl
done_by_fault n (about.Rename at) error = refl
done_by_fault n (about.LogRemoval at) error = refl
done_by_fault n about.Packed error = refl
done_by_fault n (about.Removal at) error = refl

pub done_unexpected : (n : ℕ) (a : About) → done_at n a Unexpected ≡ done_before n a
done_unexpected n (about.Folders at) = refl
done_unexpected n (about.Line at) = refl
done_unexpected n (about.Rename at) = refl
done_unexpected n (about.LogRemoval at) = refl
done_unexpected n about.Packed = refl
done_unexpected n (about.Removal at) = refl

pub done_asked : (n : ℕ) (a : About) → done_at n a Asked ≡ done_before n a
done_asked n (about.Folders at) = refl
done_asked n (about.Line at) = refl
done_asked n (about.Rename at) = refl
done_asked n (about.LogRemoval at) = refl
done_asked n about.Packed = refl
done_asked n (about.Removal at) = refl
