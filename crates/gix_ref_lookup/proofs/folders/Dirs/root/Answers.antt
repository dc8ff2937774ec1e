use Rattle.std.proofs.Common.{◌≡◌, ap, ◌∙◌, sym, length, arith}
use Rattle.gix_ref_target.specs.Layout.{LiesIn, below}
use Rattle.gix_ref_lookup.specs.CleanPaths.{common_of}
use Rattle.gix_ref_theory.proofs.Roots.{root_below, root_elsewhere}
use Rattle.gix_ref_lookup.proofs.folders.Dirs.root.Goals as goal

pub returns-in-Some : goal.returns-in-Some
returns-in-Some c =
    let dirs = c.args.self.now in
    let len : c.len.result ≡ length dirs.git_dir.items = omega (arith, c.len.ensures) in
    len ∙ root_below dirs.git_dir.items (common_of dirs.git_dir dirs.common_dir) c.args.path.now c.in-Some.field-0.now (c.in-Some.ensures ∙ ap (λ f. below f c.in-Some.field-0.now) c.deref.ensures.value)

pub returns-in-None : goal.returns-in-None
returns-in-None c =
    let dirs = c.args.self.now in
    ap length c.common.ensures ∙ root_elsewhere dirs.git_dir.items (common_of dirs.git_dir dirs.common_dir) c.args.path.now (λ (lies : LiesIn c.args.path.now dirs.git_dir.items). c.in-None.ensures (lies.0, lies.1 ∙ ap (λ f. below f lies.0) (sym c.deref.ensures.value)))
