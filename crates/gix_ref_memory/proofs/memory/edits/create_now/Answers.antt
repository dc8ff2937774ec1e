use Rattle.std.proofs.Common.{◌≡◌, ℕ, List, [], Some, true, false, sym, subst, ap, rules}
use Rattle.std.specs.Prelude.{is_some}
use Rattle.gix_ref_files.specs.Tree.{is_folder, has_folders, IsShaped, no_tree}
use Rattle.gix_ref_files.specs.Tree.Content.{File}
use Rattle.gix_ref_files.specs.Calls.{IsFree}
use Rattle.gix_ref_memory.specs.Changes.{after_changes, found_content}
use Rattle.gix_ref_files.proofs.Puts.{shaped_put}
use Rattle.gix_ref_memory.proofs.Grows.{put_more, nothing_found}
use Rattle.gix_ref_memory.proofs.memory.edits.create_now.Goals as goal

pub returns-clause-answer : goal.returns-clause-answer
returns-clause-answer c =
    let T = after_changes c.args.changes.now.items no_tree in
    let at : c.in_ok-path.path.items ≡ c.args.path.now = search rules in
    let none : is_some c.find.result ≡ false = search rules in
    let found : found_content c.find.result ≡ T c.args.path.now = search rules in
    let below : has_folders T c.args.path.now ≡ true = search rules in
    let free : IsFree T c.args.path.now = (nothing_found c.find.result _ none found, below) in
    (free, (put_more _ _ _ _ _ _ _ _ free at (ap (λ (l : List ℕ). Some (File l)) c.new.ensures.items) c.in_ok-push.ensures.items).tree_is)

pub returns-clause-passes : goal.returns-clause-passes
returns-clause-passes c =
    let T = after_changes c.args.changes.now.items no_tree in
    let at : c.in_ok-path.path.items ≡ c.args.path.now = search rules in
    let none : is_some c.find.result ≡ false = search rules in
    let found : found_content c.find.result ≡ T c.args.path.now = search rules in
    let below : has_folders T c.args.path.now ≡ true = search rules in
    let free : IsFree T c.args.path.now = (nothing_found c.find.result _ none found, below) in
    (put_more _ _ _ _ _ _ _ _ free at (ap (λ (l : List ℕ). Some (File l)) c.new.ensures.items) c.in_ok-push.ensures.items).passes

pub returns-clause-shape : goal.returns-clause-shape
returns-clause-shape c shape =
    let T = after_changes c.args.changes.now.items no_tree in
    let at : c.in_ok-path.path.items ≡ c.args.path.now = search rules in
    let none : is_some c.find.result ≡ false = search rules in
    let found : found_content c.find.result ≡ T c.args.path.now = search rules in
    let below : has_folders T c.args.path.now ≡ true = search rules in
    let free : IsFree T c.args.path.now = (nothing_found c.find.result _ none found, below) in
    subst IsShaped (sym (put_more _ _ _ _ _ _ _ _ free at (ap (λ (l : List ℕ). Some (File l)) c.new.ensures.items) c.in_ok-push.ensures.items).tree_is) (shaped_put T c.args.path.now (Some (File [])) shape (ap is_folder free.0) (λ some. below))

pub returns-clause-disk : goal.returns-clause-disk
returns-clause-disk c =
    let T = after_changes c.args.changes.now.items no_tree in
    let at : c.in_ok-path.path.items ≡ c.args.path.now = search rules in
    let none : is_some c.find.result ≡ false = search rules in
    let found : found_content c.find.result ≡ T c.args.path.now = search rules in
    let below : has_folders T c.args.path.now ≡ true = search rules in
    let free : IsFree T c.args.path.now = (nothing_found c.find.result _ none found, below) in
    (put_more _ _ _ _ _ _ _ _ free at (ap (λ (l : List ℕ). Some (File l)) c.new.ensures.items) c.in_ok-push.ensures.items).disk_is
