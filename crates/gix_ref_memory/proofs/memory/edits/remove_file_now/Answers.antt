use Rattle.std.proofs.Common.{◌≡◌, true, None, refl, sym, subst, rules}
use Rattle.gix_ref_files.specs.Tree.{is_file, IsShaped, no_tree}
use Rattle.gix_ref_memory.specs.Changes.{after_changes}
use Rattle.gix_ref_files.proofs.Puts.{shaped_file}
use Rattle.gix_ref_memory.proofs.Grows.{put_more}
use Rattle.gix_ref_memory.proofs.memory.edits.remove_file_now.Goals as goal

pub returns-clause-answer : goal.returns-clause-answer
returns-clause-answer c =
    let at : c.in_ok-path.path.items ≡ c.args.path.now = search rules in
    let a_file : is_file (after_changes c.args.changes.now.items no_tree c.args.path.now) ≡ true = search rules in
    (a_file, (put_more _ _ _ _ _ _ _ _ a_file at refl c.in_ok-push.ensures.items).tree_is)

pub returns-clause-passes : goal.returns-clause-passes
returns-clause-passes c =
    let at : c.in_ok-path.path.items ≡ c.args.path.now = search rules in
    let a_file : is_file (after_changes c.args.changes.now.items no_tree c.args.path.now) ≡ true = search rules in
    (put_more _ _ _ _ _ _ _ _ a_file at refl c.in_ok-push.ensures.items).passes

pub returns-clause-shape : goal.returns-clause-shape
returns-clause-shape c shape =
    let at : c.in_ok-path.path.items ≡ c.args.path.now = search rules in
    let a_file : is_file (after_changes c.args.changes.now.items no_tree c.args.path.now) ≡ true = search rules in
    subst IsShaped (sym (put_more _ _ _ _ _ _ _ _ a_file at refl c.in_ok-push.ensures.items).tree_is) (shaped_file (after_changes c.args.changes.now.items no_tree) c.args.path.now None shape a_file)

pub returns-clause-disk : goal.returns-clause-disk
returns-clause-disk c =
    let at : c.in_ok-path.path.items ≡ c.args.path.now = search rules in
    let a_file : is_file (after_changes c.args.changes.now.items no_tree c.args.path.now) ≡ true = search rules in
    (put_more _ _ _ _ _ _ _ _ a_file at refl c.in_ok-push.ensures.items).disk_is
