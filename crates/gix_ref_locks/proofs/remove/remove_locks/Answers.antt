use Rattle.std.proofs.Common.{◌≡◌, ◌+◌, ◌<◌, length, ◌++◌, ◌∷◌, [], inl, inr, ⊎_elim, sym, ◌∙◌, ap, subst, take, drop, get_or, List, ℕ, Vec, Global}
use Rattle.std.proofs.lemmas.List.{take_more, drop_more, take-append-drop}
use Rattle.gix_ref_files.specs.Tree.{Tree}
use Rattle.gix_ref_lookup.specs.Lookups.{meaning_in}
use Rattle.gix_ref_locks.specs.LockFiles.{AreLockFiles}
use Rattle.gix_ref_locks.specs.Removals.{IsLeftLocked, without}
use Rattle.gix_ref_locks.proofs.remove.remove_locks.Goals as goal

pub returns-in-Err-remove_files-clause-stopped : goal.returns-in-Err-remove_files-clause-stopped
returns-in-Err-remove_files-clause-stopped g c h =
    let F = g.F.Files in
    let s = meaning_in c.args.settings in
    let before = (F.means c.args.files.now).tree in
    let now = (F.means c.remove_files.new.files).tree in
    let paths = c.in-Ok.paths.items in
    let i = c.in-Err-remove_files.stopped.at in
    let told = c.stopped_at.ensures in
    let removed = told.0 in
    let path = told.1 in
    let within = subst (λ (ps : List (Vec ℕ Global)). i < length ps) c.deref.ensures.value c.in-Err-remove_files.ensures.failed.0 in
    let more : take (i + 1) paths ≡ removed.items ++ path ∷ [] = take_more paths i path within ∙ (ap (λ ps. ps ++ get_or paths i path ∷ []) (sym told.3) ∙ ap (λ p. removed.items ++ p ∷ []) (sym told.4)) in
    let split : paths ≡ removed.items ++ path ∷ drop (i + 1) paths = sym (take-append-drop i paths) ∙ (ap (λ ps. take i paths ++ ps) (drop_more paths i path within) ∙ (ap (λ ps. ps ++ get_or paths i path ∷ drop (i + 1) paths) (sym told.3) ∙ ap (λ p. removed.items ++ p ∷ drop (i + 1) paths) (sym told.4))) in
    let same : (F.means c.list_locks.new.files).tree ≡ before = (c.list_locks.ensures.looks.leaves h).tree in
    let at = λ (n : ℕ). ap (λ (T : Tree). without T (take n c.deref.result.now)) same ∙ ap (λ ps. without before (take n ps)) c.deref.ensures.value in
    subst (IsLeftLocked s before now) (sym told.2)
    record {
      rest = drop (i + 1) paths;
      locks = subst (AreLockFiles s before) split (c.in-Ok.ensures.lists h);
      tree = ⊎_elim (λ first. inl (first ∙ (at i ∙ ap (without before) (sym told.3)))) (λ next. inr (next ∙ (at (i + 1) ∙ ap (without before) more))) (c.in-Err-remove_files.ensures.ended h);
    }
