use Rattle.std.proofs.Common.{◌∙◌, ap, ℕ, Vec, Global}
use Rattle.std.proofs.lemmas.Result.{IfOk-weaker}
use Rattle.gix_ref_target.specs.Layout.{below}
use Rattle.gix_ref_target.proofs.layout.RefLayout.log_in.Goals as goal

pub returns-in_ok-tail-in-LinkedWorktree : goal.returns-in_ok-tail-in-LinkedWorktree
returns-in_ok-tail-in-LinkedWorktree c =
    let tail = c.deref.ensures.value ∙ c.in_ok-tail-in-LinkedWorktree.ensures in
    rw c.in-LinkedWorktree.is (IfOk-weaker c.path_in-in-LinkedWorktree.result _ _ (λ (path : Vec ℕ Global) h. h ∙ ap (below c.args.self.common_dir.now) tail) c.path_in-in-LinkedWorktree.ensures)
