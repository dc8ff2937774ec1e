use Rattle.std.proofs.Common.{◌≡◌, true, List, ℕ, None, ◌∷◌, ◌++◌, refl, sym, subst, rules}
use Rattle.gix_ref_files.specs.Tree.{is_folder, IsShaped, IsEmptyFolder, no_tree}
use Rattle.gix_ref_memory.specs.Changes.{after_changes}
use Rattle.gix_ref_files.proofs.Puts.{shaped_empty}
use Rattle.gix_ref_memory.proofs.Grows.{put_more}
use Rattle.gix_ref_memory.proofs.memory.edits.remove_folder_now.Goals as goal

pub returns-clause-answer : goal.returns-clause-answer
returns-clause-answer c =
    let T = after_changes c.args.changes.now.items no_tree in
    let at : c.in_ok-path.path.items ≡ c.args.path.now = search rules in
    let folder : is_folder (T c.args.path.now) ≡ true = search rules in
    let none : (rest : List ℕ) → T (c.args.path.now ++ 47 ∷ rest) ≡ None = search rules in
    let empty : IsEmptyFolder T c.args.path.now = (folder, none) in
    (empty, (put_more _ _ _ _ _ _ _ _ empty at refl c.in_ok-push.ensures.items).tree_is)

pub returns-clause-passes : goal.returns-clause-passes
returns-clause-passes c =
    let T = after_changes c.args.changes.now.items no_tree in
    let at : c.in_ok-path.path.items ≡ c.args.path.now = search rules in
    let folder : is_folder (T c.args.path.now) ≡ true = search rules in
    let none : (rest : List ℕ) → T (c.args.path.now ++ 47 ∷ rest) ≡ None = search rules in
    let empty : IsEmptyFolder T c.args.path.now = (folder, none) in
    (put_more _ _ _ _ _ _ _ _ empty at refl c.in_ok-push.ensures.items).passes

pub returns-clause-shape : goal.returns-clause-shape
returns-clause-shape c shape =
    let T = after_changes c.args.changes.now.items no_tree in
    let at : c.in_ok-path.path.items ≡ c.args.path.now = search rules in
    let folder : is_folder (T c.args.path.now) ≡ true = search rules in
    let none : (rest : List ℕ) → T (c.args.path.now ++ 47 ∷ rest) ≡ None = search rules in
    let empty : IsEmptyFolder T c.args.path.now = (folder, none) in
    subst IsShaped (sym (put_more _ _ _ _ _ _ _ _ empty at refl c.in_ok-push.ensures.items).tree_is) (shaped_empty T c.args.path.now shape empty)

pub returns-clause-disk : goal.returns-clause-disk
returns-clause-disk c =
    let T = after_changes c.args.changes.now.items no_tree in
    let at : c.in_ok-path.path.items ≡ c.args.path.now = search rules in
    let folder : is_folder (T c.args.path.now) ≡ true = search rules in
    let none : (rest : List ℕ) → T (c.args.path.now ++ 47 ∷ rest) ≡ None = search rules in
    let empty : IsEmptyFolder T c.args.path.now = (folder, none) in
    (put_more _ _ _ _ _ _ _ _ empty at refl c.in_ok-push.ensures.items).disk_is
