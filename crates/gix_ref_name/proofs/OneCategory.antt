-- A name has one category and one short name: both are computed from it.
use Rattle.std.proofs.Common.{◌≡◌, ℕ, Bool, true, false, List, [], ◌∷◌, ◌++◌, refl, sym, ◌∙◌, ap, codes, nat_eq, cond, drop, eqb, ne_eqb, ◌&&◌, if◌then◌else◌}
use Rattle.std.specs.List.{All, list_all, starts_with}
use Rattle.std.proofs.lemmas.List.Elements.{All-head, All-tail}
use Rattle.gix_ref_name.specs.declared.name.category.Category.{Category}
use Rattle.gix_ref_name.specs.declared.name.category.Category.TheVariants.{Tag, LocalBranch, RemoteBranch, Note, PseudoRef, MainPseudoRef, MainRef, LinkedPseudoRef, LinkedRef, Bisect, Rewritten, WorktreePrivate}
use Rattle.gix_ref_hash.specs.Bytes.{BeginsWith, NoByte}
use Rattle.gix_ref_name.specs.NameGrammar.{is_pseudo_byte}
use Rattle.gix_ref_name.specs.Categories.{HasCategory, SameCategory, code_of, worktree_of}
use Rattle.gix_ref_hash.proofs.ByteLemmas.{IsApart, apart}

-- what follows the first slash
abbrev after_slash : List ℕ → List ℕ
after_slash [] = []
after_slash (b ∷ rest) = cond (eqb b 47) rest (after_slash rest)

-- what is before it
abbrev before_slash : List ℕ → List ℕ
before_slash [] = []
before_slash (b ∷ rest) = cond (eqb b 47) [] (b ∷ before_slash rest)

after_slash-append : (w s : List ℕ) → NoByte 47 w → after_slash (w ++ 47 ∷ s) ≡ s
after_slash-append w s none = go w (apart 47 w none)
  where
    go : (w : List ℕ) → All (IsApart 47) w → after_slash (w ++ 47 ∷ s) ≡ s
    go [] h = refl
    go (x ∷ w) h = ap (λ b. cond b (w ++ 47 ∷ s) (after_slash (w ++ 47 ∷ s))) (All-head (IsApart 47) x w h) ∙ go w (All-tail (IsApart 47) x w h)

before_slash-append : (w s : List ℕ) → NoByte 47 w → before_slash (w ++ 47 ∷ s) ≡ w
before_slash-append w s none = go w (apart 47 w none)
  where
    go : (w : List ℕ) → All (IsApart 47) w → before_slash (w ++ 47 ∷ s) ≡ w
    go [] h = refl
    go (x ∷ w) h =
        ap (λ b. cond b [] (x ∷ before_slash (w ++ 47 ∷ s))) (All-head (IsApart 47) x w h)
        ∙ ap (λ v. x ∷ v) (go w (All-tail (IsApart 47) x w h))

abbrev begins : List ℕ → List ℕ → Bool
begins n p = starts_with nat_eq n p

-- the short name, the number of the category, and its worktree
abbrev short_of : List ℕ → List ℕ
short_of n =
    if list_all is_pseudo_byte n then n
    else if begins n (codes "refs/tags/") then drop 10 n
    else if begins n (codes "refs/heads/") then drop 11 n
    else if begins n (codes "refs/remotes/") then drop 13 n
    else if begins n (codes "refs/") then drop 5 n
    else if begins n (codes "main-worktree/") then drop 14 n
    else after_slash (drop 10 n)

abbrev number_of : List ℕ → ℕ
number_of n =
    if list_all is_pseudo_byte n then 4
    else if begins n (codes "refs/tags/") then 0
    else if begins n (codes "refs/heads/") then 1
    else if begins n (codes "refs/remotes/") then 2
    else if begins n (codes "refs/notes/") then 3
    else if begins n (codes "refs/bisect/") then 9
    else if begins n (codes "refs/rewritten/") then 10
    else if begins n (codes "refs/worktree/") then 11
    else if begins n (codes "main-worktree/") then (if list_all is_pseudo_byte (drop 14 n) then 5 else 6)
    else (if list_all is_pseudo_byte (after_slash (drop 10 n)) then 7 else 8)

abbrev linked_of : List ℕ → List ℕ
linked_of n = if begins n (codes "worktrees/") then before_slash (drop 10 n) else []

in_group : (n s w : List ℕ) → n ≡ codes "refs/" ++ s → (b : BeginsWith s w) → n ≡ codes "refs/" ++ (w ++ b.0)
in_group n s w e b = e ∙ ap (λ t. codes "refs/" ++ t) b.1

no_pseudo : (s : List ℕ) → BeginsWith s (codes "refs/") → list_all is_pseudo_byte s ≡ false
no_pseudo s b = ap (list_all is_pseudo_byte) b.1

if_true : {A : Type 0} (b : Bool) (x y : A) → b ≡ true → (if b then x else y) ≡ x
if_true b x y h = ap (λ v. if v then x else y) h

short_is : (n : List ℕ) (c : Category) (s : List ℕ) → HasCategory n c s → short_of n ≡ s
short_is n Tag s h = ap short_of h
short_is n LocalBranch s h = ap short_of h
short_is n RemoteBranch s h = ap short_of h
short_is n Note s h = ap short_of (in_group n s (codes "notes/") h.0 h.1) ∙ sym h.1.1
short_is n Bisect s h = ap short_of (in_group n s (codes "bisect/") h.0 h.1) ∙ sym h.1.1
short_is n WorktreePrivate s h = ap short_of (in_group n s (codes "worktree/") h.0 h.1) ∙ sym h.1.1
short_is n Rewritten s h = ap short_of (in_group n s (codes "rewritten/") h.0 h.1) ∙ sym h.1.1
short_is n PseudoRef s h = ap short_of h.0 ∙ if_true (list_all is_pseudo_byte s) s _ h.1
short_is n MainRef s h = ap short_of h.0
short_is n MainPseudoRef s h = ap short_of h.0
short_is n (LinkedRef w) s h = ap short_of h.0 ∙ after_slash-append w.now s h.1
short_is n (LinkedPseudoRef w) s h = ap short_of h.0 ∙ after_slash-append w.now s h.1

number_is : (n : List ℕ) (c : Category) (s : List ℕ) → HasCategory n c s → number_of n ≡ code_of c
number_is n Tag s h = ap number_of h
number_is n LocalBranch s h = ap number_of h
number_is n RemoteBranch s h = ap number_of h
number_is n Note s h = ap number_of (in_group n s (codes "notes/") h.0 h.1)
number_is n Bisect s h = ap number_of (in_group n s (codes "bisect/") h.0 h.1)
number_is n WorktreePrivate s h = ap number_of (in_group n s (codes "worktree/") h.0 h.1)
number_is n Rewritten s h = ap number_of (in_group n s (codes "rewritten/") h.0 h.1)
number_is n PseudoRef s h = ap number_of h.0 ∙ if_true (list_all is_pseudo_byte s) 4 _ h.1
number_is n MainRef s h = ap number_of h.0 ∙ ap (λ b. cond b 5 6) (no_pseudo s h.1)
number_is n MainPseudoRef s h = ap number_of h.0 ∙ ap (λ b. cond b 5 6) h.1
number_is n (LinkedRef w) s h =
    ap number_of h.0 ∙ ap (λ t. cond (list_all is_pseudo_byte t) 7 8) (after_slash-append w.now s h.1) ∙ ap (λ b. cond b 7 8) (no_pseudo s h.2)
number_is n (LinkedPseudoRef w) s h =
    ap number_of h.0 ∙ ap (λ t. cond (list_all is_pseudo_byte t) 7 8) (after_slash-append w.now s h.1) ∙ ap (λ b. cond b 7 8) h.2

-- a pseudo name begins with no small letter, so it names no worktree
no_worktree : (s : List ℕ) → list_all is_pseudo_byte s ≡ true → linked_of s ≡ []
no_worktree s h = ap (λ b. if b then before_slash (drop 10 s) else []) (go s h)
  where
    capital : (x : ℕ) (rest : Bool) → (is_pseudo_byte x && rest) ≡ true → eqb 119 x ≡ false
    capital x rest h = ne_eqb 119 x (λ same. let never : (is_pseudo_byte 119 && rest) ≡ true = ap (λ v. is_pseudo_byte v && rest) same ∙ h in absurd cc)

    go : (s : List ℕ) → list_all is_pseudo_byte s ≡ true → begins s (codes "worktrees/") ≡ false
    go [] h = refl
    go (x ∷ s) h = ap (λ v. v && begins s (codes "orktrees/")) (capital x (list_all is_pseudo_byte s) h)

linked_is : (n : List ℕ) (c : Category) (s : List ℕ) → HasCategory n c s → linked_of n ≡ worktree_of c
linked_is n Tag s h = ap linked_of h
linked_is n LocalBranch s h = ap linked_of h
linked_is n RemoteBranch s h = ap linked_of h
linked_is n Note s h = ap linked_of h.0
linked_is n Bisect s h = ap linked_of h.0
linked_is n WorktreePrivate s h = ap linked_of h.0
linked_is n Rewritten s h = ap linked_of h.0
linked_is n PseudoRef s h = ap linked_of h.0 ∙ no_worktree s h.1
linked_is n MainRef s h = ap linked_of h.0
linked_is n MainPseudoRef s h = ap linked_of h.0
linked_is n (LinkedRef w) s h = ap linked_of h.0 ∙ before_slash-append w.now s h.1
linked_is n (LinkedPseudoRef w) s h = ap linked_of h.0 ∙ before_slash-append w.now s h.1

-- a name has one category and one short name
pub one_category : (n : List ℕ) (c d : Category) (s t : List ℕ) → HasCategory n c s → HasCategory n d t → SameCategory c d × (s ≡ t)
one_category n c d s t f g = (
  record {
    code = sym (number_is n c s f) ∙ number_is n d t g;
    worktree = sym (linked_is n c s f) ∙ linked_is n d t g;
  },
  sym (short_is n c s f) ∙ short_is n d t g,
)
