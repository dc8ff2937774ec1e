-- Making the fronts of a path with one slash more is making its folders.
use Rattle.std.proofs.Common.{◌≡◌, inr, ⊎_elim, ℕ, ◌≤◌, List, [], ◌∷◌, ◌++◌, length, take, true, false, refl, sym, ◌∙◌, ap, subst}
use Rattle.std.proofs.lemmas.List.{take_all}
use Rattle.gix_ref_files.specs.Tree.{Tree, Path, fronts, folders_to, with_folders}
use Rattle.gix_ref_files.specs.Disk.{Disk, with_folder_on, with_folders_on}
use Rattle.gix_ref_files.specs.Files.{Meaning, disk_of, Passes, AddsDisks}
use Rattle.gix_ref_files.specs.Calls.{is_in_the_way}
use Rattle.gix_ref_files.specs.DiskCalls.{MakingFoldersOn}
use Rattle.gix_ref_memory.specs.Changes.{MakingFrontsOn, with_folders_as}
use Rattle.gix_ref_files.proofs.Moments.{passes_weaken}
use Rattle.gix_ref_files.proofs.PathFronts.{fronts_short}

-- all of the fronts
pub all_fronts : (T : Tree) (folders p : Path) → folders ≡ p ++ 47 ∷ [] → with_folders T (take (length folders) (fronts folders)) ≡ with_folders T (folders_to p)
all_fronts T folders p is =
    ap (λ (l : List Path). with_folders T l) (take_all (length folders) (fronts folders) (fronts_short folders)) ∙ ap (λ (l : Path). with_folders T (fronts l)) is

-- folders that count as not synced are those that a call makes
pub as_made : (D : Disk) (fs : List Path) → with_folders_as false D fs ≡ with_folders_on D fs
as_made D [] = refl
as_made D (f ∷ fs) = as_made (with_folder_on D f) fs

pub all_fronts_on : (D : Disk) (folders p : Path) → folders ≡ p ++ 47 ∷ [] → with_folders_as false D (take (length folders) (fronts folders)) ≡ with_folders_on D (folders_to p)
all_fronts_on D folders p is =
    as_made D (take (length folders) (fronts folders))
    ∙ (ap (λ (l : List Path). with_folders_on D l) (take_all (length folders) (fronts folders) (fronts_short folders)) ∙ ap (λ (l : Path). with_folders_on D (fronts l)) is)

pub making : (D : Disk) (folders p : Path) → folders ≡ p ++ 47 ∷ [] → is_in_the_way D.tree p ≡ false → (E : Disk) → MakingFrontsOn false D (fronts folders) E → MakingFoldersOn D p E
making D folders p is free E some = inr (free, (some.0, some.1 ∙ (as_made D (take some.0 (fronts folders)) ∙ ap (λ (l : Path). with_folders_on D (take some.0 (fronts l))) is)))

pub making_passes : (old new : Meaning) (folders p : Path) → folders ≡ p ++ 47 ∷ [] → is_in_the_way old.tree p ≡ false → Passes old new (MakingFrontsOn false (disk_of old) (fronts folders)) → Passes old new (MakingFoldersOn (disk_of old) p)
making_passes old new folders p is free run = passes_weaken run (making (disk_of old) folders p is free)

pub making_adds : (old new : Meaning) (folders p : Path) → folders ≡ p ++ 47 ∷ [] → ((t : ℕ) → t ≤ old.moment → new.found_since t (disk_of old)) → AddsDisks old new (MakingFrontsOn false (disk_of old) (fronts folders)) → AddsDisks old new (MakingFoldersOn (disk_of old) p)
making_adds old new folders p is here adds t E le some =
    ⊎_elim (λ before. subst (λ (X : Disk). new.found_since t X) (sym before) (here t le))
    (λ made. adds t E le (made.1.0, made.1.1 ∙ (ap (λ (l : Path). with_folders_on (disk_of old) (take made.1.0 (fronts l))) (sym is) ∙ sym (as_made (disk_of old) (take made.1.0 (fronts folders))))))
    some

-- where a file is in the way, only the disk before
pub way_adds : (old new : Meaning) (p : Path) → is_in_the_way old.tree p ≡ true → ((t : ℕ) → t ≤ old.moment → new.found_since t (disk_of old)) → AddsDisks old new (MakingFoldersOn (disk_of old) p)
way_adds old new p way here t E le some =
    ⊎_elim (λ before. subst (λ (X : Disk). new.found_since t X) (sym before) (here t le)) (λ made. absurd (clash (sym way ∙ made.0))) some
  where
    clash : true ≡ false → ⊥
    clash e = cc
