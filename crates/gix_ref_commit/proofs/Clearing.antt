-- The steps of a commit, put together.
use Rattle.std.proofs.Common.{◌≡◌, ℕ, zero, suc, ◌+◌, ◌<◌, ◌≤◌, List, [], ◌∷◌, ◌++◌, length, drop, refl, sym, ◌∙◌, ap, subst, arith, slice_index_or}
use Rattle.std.proofs.lemmas.List.{append-nil, drop_more, drop_all}
use Rattle.gix_ref_files.specs.Tree.{Path}
use Rattle.gix_ref_files.specs.declared.steps.Planned.{Planned}
use Rattle.gix_ref_transaction.specs.OwnLocks.{paths_of}
use Rattle.gix_ref_commit.specs.Cleared.{cleared, removals, folder_lists, ClearsNothing}
use Rattle.gix_ref_commit.specs.Entries.{Entry, entries}
use Rattle.gix_ref_commit.specs.declared.folders.EmptyDirs.{EmptyDirs}
use Rattle.gix_ref_commit.specs.declared.plan.About.{About}

none_left : (plan : List (Planned About)) (k : ℕ) → length plan ≤ k → drop k plan ≡ []
none_left [] zero le = refl
none_left [] (suc k) le = refl
none_left (p ∷ plan) zero le = absurd (omega (arith, le))
none_left (p ∷ plan) (suc k) le = none_left plan k (omega (arith, le))

nothing_cleared : (folders : List (List Path)) → cleared folders [] ≡ []
nothing_cleared [] = refl
nothing_cleared (fs ∷ folders) = refl

pub all_cleared : (ways : List EmptyDirs) (plan steps : List (Planned About)) (k : ℕ) → length plan ≤ k → entries steps ++ cleared (folder_lists (drop k ways)) (entries (drop k plan)) ≡ cleared (folder_lists ways) (entries plan) →
    entries steps ≡ cleared (folder_lists ways) (entries plan)
all_cleared ways plan steps k le is =
    sym (append-nil (entries steps))
    ∙ (ap (λ (l : List Entry). entries steps ++ l)
    (sym (ap (λ (p : List (Planned About)). cleared (folder_lists (drop k ways)) (entries p)) (none_left plan k le) ∙ nothing_cleared (folder_lists (drop k ways)))) ∙ is)

one_more_step : (fs : List Path) (folders : List (List Path)) → fs ≡ [] → ClearsNothing folders → ClearsNothing (fs ∷ folders)
one_more_step fs folders none rest [] = refl
one_more_step fs folders none rest (e ∷ plan) =
    ap (λ (l : List Path). removals e.1 l ++ e ∷ cleared folders plan) none ∙ ap (λ (l : List Entry). e ∷ l) (rest plan)

-- Where the way before one step more has no folder, nothing is cleared still.
pub clears_before : (ways : List EmptyDirs) (k : ℕ) (way : EmptyDirs) → k < length ways → way ≡ slice_index_or ways k way → paths_of way.folders.items ≡ [] →
    ClearsNothing (folder_lists (drop (k + 1) ways)) → ClearsNothing (folder_lists (drop k ways))
clears_before ways k way lt is none rest =
    subst (λ (l : List EmptyDirs). ClearsNothing (folder_lists l)) (sym (drop_more ways k way lt))
    (subst (λ (w : EmptyDirs). ClearsNothing (folder_lists (w ∷ drop (k + 1) ways))) is
    (one_more_step (paths_of way.folders.items) (folder_lists (drop (k + 1) ways)) none rest))

pub clears_at_end : (ways : List EmptyDirs) (k : ℕ) → length ways ≤ k → ClearsNothing (folder_lists (drop k ways))
clears_at_end ways k le plan = ap (λ (l : List EmptyDirs). cleared (folder_lists l) plan) (drop_all k ways le)
