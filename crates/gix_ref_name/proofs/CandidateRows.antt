-- Worked rows: what some partial names may be short for.
use Rattle.std.proofs.Common.{◌≡◌, Some, None, codes, refl, [], ◌∷◌}
use Rattle.gix_ref_name.specs.Candidates.{candidates, remote_head}

main_candidates : candidates (codes "main") ≡ codes "refs/main" ∷ codes "refs/tags/main" ∷ codes "refs/heads/main" ∷ codes "refs/remotes/main" ∷ []
main_candidates = refl

head_candidates : candidates (codes "HEAD") ≡ codes "HEAD" ∷ codes "refs/HEAD" ∷ codes "refs/tags/HEAD" ∷ codes "refs/heads/HEAD" ∷ codes "refs/remotes/HEAD" ∷ []
head_candidates = refl

foo_candidates : candidates (codes "FOO") ≡ codes "FOO" ∷ codes "refs/FOO" ∷ codes "refs/tags/FOO" ∷ codes "refs/heads/FOO" ∷ codes "refs/remotes/FOO" ∷ []
foo_candidates = refl

full_candidates : candidates (codes "refs/heads/x") ≡ codes "refs/heads/x" ∷ codes "tags/refs/heads/x" ∷ codes "heads/refs/heads/x" ∷ codes "remotes/refs/heads/x" ∷ []
full_candidates = refl

refs_candidates : candidates (codes "refs") ≡ codes "refs/refs" ∷ codes "refs/tags/refs" ∷ codes "refs/heads/refs" ∷ codes "refs/remotes/refs" ∷ []
refs_candidates = refl

worktree_candidates : candidates (codes "main-worktree/refs/heads/x") ≡ codes "main-worktree/refs/heads/x" ∷ codes "tags/main-worktree/refs/heads/x" ∷ codes "heads/main-worktree/refs/heads/x" ∷ codes "remotes/main-worktree/refs/heads/x" ∷ []
worktree_candidates = refl

main_head : remote_head (codes "main") ≡ Some (codes "refs/remotes/main/HEAD")
main_head = refl

no_head : remote_head (codes "HEAD") ≡ None
no_head = refl

foo_head : remote_head (codes "FOO") ≡ Some (codes "refs/remotes/FOO/HEAD")
foo_head = refl

full_head : remote_head (codes "refs/heads/x") ≡ Some (codes "remotes/refs/heads/x/HEAD")
full_head = refl

refs_head : remote_head (codes "refs") ≡ Some (codes "remotes/refs/HEAD")
refs_head = refl

worktree_head : remote_head (codes "main-worktree/refs/heads/x") ≡ Some (codes "remotes/main-worktree/refs/heads/x/HEAD")
worktree_head = refl
