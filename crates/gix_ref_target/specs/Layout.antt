-- Where a store keeps each name: the table of places, logs and packed keys (`git worktree`, `gitnamespaces`). G is the
-- git folder, C the common folder of all worktrees, N the namespace with its last slash, or nothing.
use Rattle.std.specs.Prelude.{◌≡◌, ◌≢◌, ℕ, List, [], ◌∷◌, ◌++◌, Option, Some, None, Bool, ◌||◌, if◌then◌else◌, codes, nat_eq, ◌⊎◌}
use Rattle.std.specs.List.{starts_with}
use Rattle.gix_ref_hash.specs.Bytes.{BeginsWith, NoByte}
use Rattle.gix_ref_name.specs.Categories.{HasCategory, NoCategory}
use Rattle.gix_ref_name.specs.declared.name.category.Category.{Category}
use Rattle.gix_ref_name.specs.declared.name.category.Category.TheVariants.{Tag, LocalBranch, RemoteBranch, Note, PseudoRef, MainPseudoRef, MainRef, LinkedPseudoRef, LinkedRef, Bisect, Rewritten, WorktreePrivate}

-- The folders of a store, and its namespace.
pub record Layout : Type 0 where
  pub git : List ℕ
  pub common : List ℕ
  pub namespace : List ℕ

-- a path in a folder
abbrev pub below : List ℕ → List ℕ → List ℕ
below folder path = folder ++ 47 ∷ path

-- C/n, with N directly before n; and so before n or s in all of these
abbrev pub in_common : Layout → List ℕ → List ℕ
in_common f n = below f.common (f.namespace ++ n)

-- C/logs/n
abbrev pub common_log : Layout → List ℕ → List ℕ
common_log f n = below f.common (codes "logs/" ++ (f.namespace ++ n))

-- G/n
abbrev pub in_git : Layout → List ℕ → List ℕ
in_git f n = below f.git (f.namespace ++ n)

-- G/logs/n
abbrev pub git_log : Layout → List ℕ → List ℕ
git_log f n = below f.git (codes "logs/" ++ (f.namespace ++ n))

-- C/worktrees/w/logs/s
abbrev pub linked_log : Layout → List ℕ → List ℕ → List ℕ
linked_log f w s =
    below f.common (codes "worktrees/" ++ (w ++ 47 ∷ (codes "logs/" ++ (f.namespace ++ s))))

-- n, as a key
abbrev pub packed_key : Layout → List ℕ → Option (List ℕ)
packed_key f n = Some (f.namespace ++ n)

-- C/packed-refs
abbrev pub packed_refs : Layout → List ℕ
packed_refs f = below f.common (codes "packed-refs")

-- The loose place, the log and the packed key of a name.
pub record RefPaths : Type 0 where
  pub place : List ℕ
  pub log : List ℕ
  pub key : Option (List ℕ)

-- the three together
abbrev pub ref_paths : List ℕ → List ℕ → Option (List ℕ) → RefPaths
ref_paths place log key = record { place = place; log = log; key = key }

-- a name below `refs/` of which each worktree has its own
abbrev pub is_private_ref : List ℕ → Bool
is_private_ref s =
    starts_with nat_eq s (codes "refs/bisect/") || starts_with nat_eq s (codes "refs/rewritten/")
    || starts_with nat_eq s (codes "refs/worktree/")

-- the table, for a name `n` of the category with the short name `s`
abbrev pub paths_in : Layout → Category → (n s : List ℕ) → RefPaths
paths_in f Tag n s = ref_paths (in_common f n) (common_log f n) (packed_key f n)
paths_in f LocalBranch n s = ref_paths (in_common f n) (common_log f n) (packed_key f n)
paths_in f RemoteBranch n s = ref_paths (in_common f n) (common_log f n) (packed_key f n)
paths_in f Note n s = ref_paths (in_common f n) (common_log f n) (packed_key f n)
paths_in f PseudoRef n s = ref_paths (in_git f n) (git_log f n) None
paths_in f Bisect n s = ref_paths (in_git f n) (git_log f n) None
paths_in f Rewritten n s = ref_paths (in_git f n) (git_log f n) None
paths_in f WorktreePrivate n s = ref_paths (in_git f n) (git_log f n) None
paths_in f MainRef n s = ref_paths (in_common f s) (common_log f s)
    (if is_private_ref s then None else packed_key f s)
paths_in f MainPseudoRef n s = ref_paths (in_common f s) (common_log f s) None
paths_in f (LinkedPseudoRef w) n s = ref_paths (in_common f n) (linked_log f w.now s) None
paths_in f (LinkedRef w) n s =
    if is_private_ref s then ref_paths (in_common f n) (linked_log f w.now s) None
    else ref_paths (in_common f s) (common_log f s) (packed_key f s)

-- the paths of a name without a category
abbrev pub paths_of_others : Layout → List ℕ → RefPaths
paths_of_others f n = ref_paths (in_common f n) (common_log f n) (packed_key f n)

-- the paths that the table gives a name
abbrev pub HasPaths : Layout → List ℕ → RefPaths → Type 0
HasPaths f n r = ((c : Category) × (s : List ℕ) × HasCategory n c s × (r ≡ paths_in f c n s))
    ⊎ (NoCategory n × (r ≡ paths_of_others f n))

-- a safe name begins with `refs/` or has a category: no other may be the name of a reference
abbrev pub IsSafe : List ℕ → Type 0
IsSafe n = BeginsWith n (codes "refs/") ⊎ ((c : Category) × (s : List ℕ) × HasCategory n c s)

-- one folder lies in another
abbrev pub LiesIn : List ℕ → List ℕ → Type 0
LiesIn inner outer = (rest : List ℕ) × (inner ≡ below outer rest)

-- neither is the other or lies in it
pub record AreApart (left right : List ℕ) : Type 0 where
  pub differ : left ≢ right
  pub left_outside : LiesIn left right → ⊥
  pub right_outside : LiesIn right left → ⊥

-- G is C, or a linked worktree's folder C/worktrees/w, or the two are apart
abbrev pub AreCompatible : List ℕ → List ℕ → Type 0
AreCompatible git common =
    (git ≡ common)
    ⊎ (((w : List ℕ) × NoByte 47 w × (git ≡ below common (codes "worktrees/" ++ w)))
    ⊎ AreApart git common)

-- and a namespace begins with `refs/namespaces/`
abbrev pub IsLayout : Layout → Type 0
IsLayout f = AreCompatible f.git f.common
    × ((f.namespace ≡ []) ⊎ BeginsWith f.namespace (codes "refs/namespaces/"))
