use Rattle.std.proofs.Common.{◌∙◌, ap, ◌++◌, ◌∷◌, []}
use Rattle.gix_ref_locks.proofs.walk.one_folder.Goals as goal

pub returns : goal.returns
returns c = (c.in_ok-to_vec.field-0, c.in_ok-to_vec.ensures.items_if_clones_equal (λ x y e. e), c.in_ok-push.ensures.items ∙ ap (λ fs. fs ++ c.in_ok-to_vec.field-0 ∷ []) c.in_ok-folders.ensures.items)
