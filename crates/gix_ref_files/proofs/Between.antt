-- What stops among steps leave.
use Rattle.std.proofs.Common.{inl, inr, ⊎_elim, ℕ, zero, suc, List, [], ◌∷◌, length, refl, sym, ◌∙◌, ap, subst}
use Rattle.std.proofs.Math.Seq.{take-length}
use Rattle.gix_ref_files.specs.Tree.{Tree, Path, appended, folders_to, with_folders}
use Rattle.gix_ref_files.specs.Calls.{created, Creating}
use Rattle.gix_ref_files.specs.Steps.{Step, Create, Append, Line, Rename, RemoveFile, MakeFolders, RemoveFolder, End, Does, Begins, IsAfter, IsLeftBy, EndsBy, EndsAt}
use Rattle.gix_ref_files.specs.declared.steps.Cause.{Cause}
use Rattle.gix_ref_files.specs.declared.steps.Cause.TheVariants.{File, Sync, Unexpected, Asked}
use Rattle.gix_ref_files.proofs.Puts.{appended_none}

-- a step that is not begun
pub not_begun : (step : Step) (T : Tree) → Begins step T T
not_begun (Create path) T = inl refl
not_begun (Append path bytes) T = (0, sym (appended_none T path))
not_begun (Line path bytes) T = inl (0, sym (appended_none T path))
not_begun (Rename from to) T = inl refl
not_begun (RemoveFile path) T = inl refl
not_begun (MakeFolders path) T = inl refl
not_begun (RemoveFolder path) T = inl refl
not_begun End T = refl

-- a line whose file was perhaps made, with no byte of it
pub line_begun : (before : Tree) (path : Path) (bytes : List ℕ) (T : Tree) → Creating before path T → Begins (Line path bytes) before T
line_begun before path bytes T =
    ⊎_elim (λ same. subst (Begins (Line path bytes) before) (sym same) (not_begun (Line path bytes) before)) (λ made. inr (made.0, inl made.1))

-- a step that is done
pub done_is_begun : (step : Step) (before T : Tree) → Does step before T → Begins step before T
done_is_begun (Create path) before T does = inr does
done_is_begun (Append path bytes) before T does =
    (length bytes, does.1 ∙ ap (λ (l : List ℕ). appended before path l) (sym (take-length bytes)))
done_is_begun (Line path bytes) before T does =
    ⊎_elim (λ there. inl (length bytes, there.1 ∙ ap (λ (l : List ℕ). appended before path l) (sym (take-length bytes))))
    (λ made. inr (made.0, inr (length bytes, made.1 ∙ ap (λ (l : List ℕ). appended (created before path) path l) (sym (take-length bytes))))) does
done_is_begun (Rename from to) before T does = inr does
done_is_begun (RemoveFile path) before T does = ⊎_elim (λ gone. inr gone) (λ none. inl none.1) does
done_is_begun (MakeFolders path) before T does =
    inr (does.0, (length (folders_to path), does.1 ∙ ap (λ (l : List Path). with_folders before l) (sym (take-length (folders_to path)))))
done_is_begun (RemoveFolder path) before T does = ⊎_elim (λ gone. inr gone) (λ none. inl none.1) does
done_is_begun End before T does = absurd does

-- no step is begun
pub none_begun : (steps : List Step) (T : Tree) → IsLeftBy steps T T
none_begun [] T = refl
none_begun (step ∷ steps) T = inl (not_begun step T)

-- all steps are done
pub all_done : (steps : List Step) (before T : Tree) → IsAfter steps before T → IsLeftBy steps before T
all_done [] before T after = after
all_done (step ∷ steps) before T after = inr (after.0, after.1, all_done steps after.0 T after.2)

-- the step that ended a run is begun, or it is not
pub ended_is_begun : (step : Step) (cause : Cause) (before T : Tree) → EndsBy step cause before T → Begins step before T
ended_is_begun step (File error) before T ends = ends
ended_is_begun step (Sync error) before T ends = done_is_begun step before T ends.1
ended_is_begun step Unexpected before T ends = subst (λ (S : Tree). Begins step before S) (sym ends.1) (not_begun step before)
ended_is_begun step Asked before T ends = subst (λ (S : Tree). Begins step before S) (sym ends.1) (not_begun step before)

-- the tree after a run that ended is one that a stop could have left
pub ended_is_left : (steps : List Step) (at : ℕ) (cause : Cause) (before T : Tree) → EndsAt steps at cause before T → IsLeftBy steps before T
ended_is_left [] at cause before T ends = absurd ends
ended_is_left (step ∷ steps) zero cause before T ends = inl (ended_is_begun step cause before T ends)
ended_is_left (step ∷ steps) (suc at) cause before T ends = inr (ends.0, ends.1, ended_is_left steps at cause ends.0 T ends.2)
