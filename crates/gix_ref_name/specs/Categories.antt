-- The categories of names: the relation of a name, its category and its short name (`git worktree`, `gitglossary`).
use Rattle.std.specs.Prelude.{◌≡◌, ℕ, List, [], ◌∷◌, ◌++◌, codes, Bool, true, false, nat_eq, not, ◌&&◌}
use Rattle.std.specs.List.{list_all, starts_with}
use Rattle.gix_ref_name.specs.declared.name.category.Category.{Category}
use Rattle.gix_ref_name.specs.declared.name.category.Category.TheVariants.{Tag, LocalBranch, RemoteBranch, Note, PseudoRef, MainPseudoRef, MainRef, LinkedPseudoRef, LinkedRef, Bisect, Rewritten, WorktreePrivate}
use Rattle.gix_ref_hash.specs.Bytes.{BeginsWith, NoByte, is_empty, without_front, with_front}
use Rattle.gix_ref_name.specs.NameGrammar.{is_pseudo_byte}

-- only `A` to `Z` and underscores
abbrev pub IsPseudoName : List ℕ → Type 0
IsPseudoName n = list_all is_pseudo_byte n ≡ true

-- the table of categories: what a name of the category is made of, around its short name `s`
abbrev pub HasCategory : List ℕ → Category → List ℕ → Type 0
HasCategory n Tag s = n ≡ codes "refs/tags/" ++ s
HasCategory n LocalBranch s = n ≡ codes "refs/heads/" ++ s
HasCategory n RemoteBranch s = n ≡ codes "refs/remotes/" ++ s
HasCategory n Note s = (n ≡ codes "refs/" ++ s) × BeginsWith s (codes "notes/")
HasCategory n Bisect s = (n ≡ codes "refs/" ++ s) × BeginsWith s (codes "bisect/")
HasCategory n WorktreePrivate s = (n ≡ codes "refs/" ++ s) × BeginsWith s (codes "worktree/")
HasCategory n Rewritten s = (n ≡ codes "refs/" ++ s) × BeginsWith s (codes "rewritten/")
HasCategory n PseudoRef s = (n ≡ s) × IsPseudoName s
HasCategory n MainRef s = (n ≡ codes "main-worktree/" ++ s) × BeginsWith s (codes "refs/")
HasCategory n MainPseudoRef s = (n ≡ codes "main-worktree/" ++ s) × IsPseudoName s
HasCategory n (LinkedRef w) s = (n ≡ codes "worktrees/" ++ (w.now ++ 47 ∷ s)) × NoByte 47 w.now
    × BeginsWith s (codes "refs/")
HasCategory n (LinkedPseudoRef w) s = (n ≡ codes "worktrees/" ++ (w.now ++ 47 ∷ s))
    × NoByte 47 w.now × IsPseudoName s

-- the name is in no row
abbrev pub NoCategory : List ℕ → Type 0
NoCategory n = (c : Category) (s : List ℕ) → HasCategory n c s → ⊥

-- the name is in none of the rows that are named
pub record NoGroup (n : List ℕ) : Type 0 where
  pub note : (s : List ℕ) → HasCategory n Note s → ⊥
  pub bisect : (s : List ℕ) → HasCategory n Bisect s → ⊥
  pub worktree : (s : List ℕ) → HasCategory n WorktreePrivate s → ⊥
  pub rewritten : (s : List ℕ) → HasCategory n Rewritten s → ⊥

pub record NoMain (n : List ℕ) : Type 0 where
  pub main : (s : List ℕ) → HasCategory n MainRef s → ⊥
  pub pseudo : (s : List ℕ) → HasCategory n MainPseudoRef s → ⊥

pub record NoLinked (n : List ℕ) : Type 0 where
  pub linked : (w : _) (s : List ℕ) → HasCategory n (LinkedRef w) s → ⊥
  pub pseudo : (w : _) (s : List ℕ) → HasCategory n (LinkedPseudoRef w) s → ⊥

-- the text in front of the names of a category, as far as it is the same for all
abbrev pub prefix_of : Category → List ℕ
prefix_of Tag = codes "refs/tags/"
prefix_of LocalBranch = codes "refs/heads/"
prefix_of RemoteBranch = codes "refs/remotes/"
prefix_of Note = codes "refs/notes/"
prefix_of Bisect = codes "refs/bisect/"
prefix_of WorktreePrivate = codes "refs/worktree/"
prefix_of Rewritten = codes "refs/rewritten/"
prefix_of PseudoRef = []
prefix_of MainRef = codes "main-worktree/refs/"
prefix_of MainPseudoRef = codes "main-worktree/"
prefix_of (LinkedRef w) = codes "worktrees/"
prefix_of (LinkedPseudoRef w) = codes "worktrees/"

-- each worktree has its own names of the category (`git worktree`)
abbrev pub is_private : Category → Bool
is_private PseudoRef = true
is_private MainPseudoRef = true
is_private (LinkedPseudoRef w) = true
is_private Bisect = true
is_private Rewritten = true
is_private WorktreePrivate = true
is_private other = false

-- the word that a short name may begin with, and that is dropped
abbrev pub word_of : Category → List ℕ
word_of Note = codes "notes/"
word_of MainRef = codes "refs/"
word_of Bisect = codes "bisect/"
word_of Rewritten = codes "rewritten/"
word_of WorktreePrivate = codes "worktree/"
word_of other = []

-- all that goes in front of a short name
abbrev pub front_of : Category → List ℕ
front_of (LinkedRef w) = codes "worktrees/" ++ w.now ++ codes "/"
front_of (LinkedPseudoRef w) = codes "worktrees/" ++ w.now ++ codes "/"
front_of other = prefix_of other

-- what a category and a short name make
unfoldable pub text_of : Category → List ℕ → List ℕ
text_of c s = with_front (front_of c) (without_front (word_of c) s)

-- the short name, less the word that is dropped, begins itself with the text that goes in front
abbrev pub begins_again : Category → List ℕ → Bool
begins_again c s = not (is_empty (front_of c))
    && starts_with nat_eq (without_front (word_of c) s) (front_of c)

-- a category without the worktree that it names, as a number
abbrev pub code_of : Category → ℕ
code_of Tag = 0
code_of LocalBranch = 1
code_of RemoteBranch = 2
code_of Note = 3
code_of PseudoRef = 4
code_of MainPseudoRef = 5
code_of MainRef = 6
code_of (LinkedPseudoRef w) = 7
code_of (LinkedRef w) = 8
code_of Bisect = 9
code_of Rewritten = 10
code_of WorktreePrivate = 11

-- the linked worktree that a category names
abbrev pub worktree_of : Category → List ℕ
worktree_of (LinkedRef w) = w.now
worktree_of (LinkedPseudoRef w) = w.now
worktree_of other = []

-- the same category, of the same linked worktree
pub record SameCategory (c d : Category) : Type 0 where
  pub code : code_of c ≡ code_of d
  pub worktree : worktree_of c ≡ worktree_of d
