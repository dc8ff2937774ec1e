use Rattle.std.proofs.Common.{◌∙◌}
use Rattle.std.proofs.lemmas.Bool.{false≢true}
use Rattle.gix_ref_lookup.proofs.FolderLemmas.{laid_below, same_test}
use Rattle.gix_ref_lookup.proofs.folders.dirs_are_compatible.Goals as goal

pub returns-in-Some : goal.returns-in-Some
returns-in-Some c =
    laid_below c.args.git_dir.now c.args.common_dir.now c.in-Some.rest.now c.is_worktree.result
    (λ same. false≢true (c.if-eq.ensures ∙ same_test c.args.git_dir.now c.args.common_dir.now same)) c.in-Some.ensures c.is_worktree.ensures
