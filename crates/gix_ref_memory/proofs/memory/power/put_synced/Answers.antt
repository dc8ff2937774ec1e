use Rattle.std.proofs.Common.{◌≡◌, refl, ◌∙◌, ap, List, rules}
use Rattle.gix_ref_files.specs.Tree.{Path, put, no_tree}
use Rattle.gix_ref_memory.specs.Changes.{after_changes, content_of}
use Rattle.gix_ref_memory.specs.declared.memory.changes.Change.{Change}
use Rattle.gix_ref_memory.proofs.Grows.{after_push}
use Rattle.gix_ref_memory.proofs.Knowing.{put_pushed}
use Rattle.gix_ref_memory.proofs.memory.power.put_synced.Goals as goal

pub returns-clause-tree : goal.returns-clause-tree
returns-clause-tree c =
    let T = after_changes c.args.left.now.items no_tree in
    let at : c.in_ok-path.path.items ≡ c.args.path.now = search rules in
    ap (λ (l : List Change). after_changes l no_tree) c.in_ok-push.ensures.items ∙ (after_push c.args.left.now.items _ no_tree ∙ ap (λ (p : Path). put T p (content_of c.args.stored)) at)

pub returns-clause-synced : goal.returns-clause-synced
returns-clause-synced c synced = put_pushed _ _ _ c.in_ok-push.ensures.items (refl, tt) synced
