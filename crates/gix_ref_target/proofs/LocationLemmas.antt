-- What a name with a location is made of, and that its paths are the one of the table.
use Rattle.std.proofs.Common.{◌≡◌, ℕ, List, [], ◌∷◌, ◌++◌, Option, Some, None, Bool, true, false, not, ◌||◌, ◌&&◌, if◌then◌else◌, refl, sym, ap, ◌∙◌, subst, inl, inr, ◌⊎◌, is_some, nat_eq, codes, drop, length, eqb, append_assoc, ◌==◌, arith, length}
use Rattle.std.specs.List.{All, list_all, list_any, starts_with}
use Rattle.std.specs.Option.{option_map, unwrap_or}
use Rattle.std.proofs.lemmas.Bool.{cond-true, cond-false, false≢true, cases_Bool, or_cases, or_parts, eqb-true}
use Rattle.std.proofs.lemmas.Bool.Decides.{Decides-eqb}
use Rattle.std.proofs.lemmas.List.Elements.{All-head, All-tail}
use Rattle.std.proofs.lemmas.Slice.Eq.{starts_is}
use Rattle.gix_ref_hash.specs.Bytes.{BeginsWith, NoByte, is_slash}
use Rattle.gix_ref_name.specs.NameGrammar.{is_pseudo_byte}
use Rattle.gix_ref_name.specs.Categories.{HasCategory, NoCategory}
use Rattle.gix_ref_name.specs.declared.name.category.Category.{Category}
use Rattle.gix_ref_name.specs.declared.name.category.Category.TheVariants.{Tag, LocalBranch, RemoteBranch, Note, PseudoRef, MainPseudoRef, MainRef, LinkedPseudoRef, LinkedRef, Bisect, Rewritten, WorktreePrivate}
use Rattle.gix_ref_hash.proofs.ByteLemmas.{IsApart as IsOtherByte, apart, no_byte}
use Rattle.gix_ref_target.specs.Layout.{Layout, HasPaths, IsSafe, RefPaths, common_log, git_log, in_common, in_git, is_private_ref, linked_log, packed_key, ref_paths, paths_in, paths_of_others}
use Rattle.gix_ref_target.specs.Locations.{Location, cut_at_slash, is_safe, rest_after, paths_at, row_of, location, location_by, location_in_linked, location_of_linked, location_of_main, location_unless}
use Rattle.gix_ref_target.specs.Locations.Location.{ThisWorktree, LinkedWorktree, MainWorktree, Common}

abbrev pub head : List ℕ → ℕ
head [] = 0
head (x ∷ xs) = x

-- the name has a slash
abbrev pub has_slash : List ℕ → Bool
has_slash name = list_any is_slash name

abbrev pub EndsIn : List ℕ → List ℕ → Type 0
EndsIn k path = (front : List ℕ) × (path ≡ front ++ k)

pub ends_after : (k path front : List ℕ) → EndsIn k path → EndsIn k (front ++ path)
ends_after k path front e = (front ++ e.0, ap (λ x. front ++ x) e.1 ∙ sym (append_assoc front e.0 k))

-- the last part of a name, which is at the end of its place and its log
abbrev pub short : Location → List ℕ
short (Common k) = k
short (ThisWorktree k) = k
short (MainWorktree k) = k
short (LinkedWorktree w k) = k

-- Cuts.

pub rest_is : (front name rest : List ℕ) → rest_after front name ≡ Some rest → name ≡ front ++ rest
rest_is [] name rest h = cc
rest_is (x ∷ front) [] rest h = cc
rest_is (x ∷ front) (y ∷ name) rest h = elim (cases_Bool (x == y)) [
  | inl e ↦ ap (λ z. z ∷ name) (sym (eqb-true x y e)) ∙ ap (λ z. x ∷ z) (rest_is front name rest (sym (cond-true (x == y) (rest_after front name) None e) ∙ h))
  | inr e ↦ absurd (none_is rest (sym (cond-false (x == y) (rest_after front name) None e) ∙ h))
]
  where
    none_is : (q : List ℕ) → None ≡ Some q → ⊥
    none_is q h = cc

pub some_rest : (front name : List ℕ) → is_some (rest_after front name) ≡ true → (rest : List ℕ) × (name ≡ front ++ rest)
some_rest front name h = by (rest_after front name) refl h
  where
    by : (o : Option (List ℕ)) → rest_after front name ≡ o → is_some o ≡ true → (rest : List ℕ) × (name ≡ front ++ rest)
    by None e h = absurd (false≢true h)
    by (Some rest) e h = (rest, rest_is front name rest e)

some_is : {A : Type 0} (p q : A) → Some p ≡ Some q → p ≡ q
some_is p q h = cc

-- a cut at the first slash
pub cut_is : (name : List ℕ) (parts : List ℕ × List ℕ) → cut_at_slash name ≡ Some parts → (name ≡ parts.0 ++ 47 ∷ parts.1) × (has_slash parts.0 ≡ false)
cut_is [] parts h = cc
cut_is (x ∷ name) parts h = cases (cut_is name) (x == 47) refl (cut_at_slash name) refl h
  where
    none_is : (q : List ℕ × List ℕ) → None ≡ Some q → ⊥
    none_is q h = cc

    cases : ((q : List ℕ × List ℕ) → cut_at_slash name ≡ Some q → (name ≡ q.0 ++ 47 ∷ q.1) × (has_slash q.0 ≡ false)) → (b : Bool) → (x == 47) ≡ b → (o : Option (List ℕ × List ℕ)) → cut_at_slash name ≡ o →
        (if b then Some ([], name) else option_map (λ q. (x ∷ q.0, q.1)) o) ≡ Some parts → (x ∷ name ≡ parts.0 ++ 47 ∷ parts.1) × (has_slash parts.0 ≡ false)
    cases ih true e o f h =
        let same = some_is ([], name) parts h in
        (ap (λ z. z ∷ name) (eqb-true x 47 e) ∙ ap (λ (q : List ℕ × List ℕ). q.0 ++ 47 ∷ q.1) same, ap (λ (q : List ℕ × List ℕ). has_slash q.0) (sym same))
    cases ih false e None f h = absurd (none_is parts h)
    cases ih false e (Some q) f h =
        let same = some_is (x ∷ q.0, q.1) parts h in
        let rest = ih q f in (
          ap (λ z. x ∷ z) rest.0 ∙ ap (λ (r : List ℕ × List ℕ). r.0 ++ 47 ∷ r.1) same,
          ap (λ (r : List ℕ × List ℕ). has_slash r.0) (sym same) ∙ (ap (λ b. b || has_slash q.0) e ∙ rest.1),
        )

pub cut-append : (w s : List ℕ) → NoByte 47 w → cut_at_slash (w ++ 47 ∷ s) ≡ Some (w, s)
cut-append w s none = go w (apart 47 w none)
  where
    go : (w : List ℕ) → All (IsOtherByte 47) w → cut_at_slash (w ++ 47 ∷ s) ≡ Some (w, s)
    go [] h = refl
    go (x ∷ w) h =
        ap (λ b. if b then Some ([], w ++ 47 ∷ s) else option_map (λ (q : List ℕ × List ℕ). (x ∷ q.0, q.1)) (cut_at_slash (w ++ 47 ∷ s))) (All-head (IsOtherByte 47) x w h)
        ∙ ap (λ o. option_map (λ (q : List ℕ × List ℕ). (x ∷ q.0, q.1)) o) (go w (All-tail (IsOtherByte 47) x w h))

pub no_slash_test : (w : List ℕ) → NoByte 47 w → has_slash w ≡ false
no_slash_test w none = go w (apart 47 w none)
  where
    go : (w : List ℕ) → All (IsOtherByte 47) w → has_slash w ≡ false
    go [] h = refl
    go (x ∷ w) h = ap (λ b. b || has_slash w) (All-head (IsOtherByte 47) x w h) ∙ go w (All-tail (IsOtherByte 47) x w h)

pub test_no_slash : (w : List ℕ) → has_slash w ≡ false → NoByte 47 w
test_no_slash w h = no_byte 47 w (go w h)
  where
    go : (w : List ℕ) → has_slash w ≡ false → list_all (λ c. not (eqb c 47)) w ≡ true
    go [] h = refl
    go (x ∷ w) h =
        let parts = or_parts (x == 47) (has_slash w) h in
        ap (λ b. not b && list_all (λ c. not (eqb c 47)) w) parts.0 ∙ go w parts.1

-- What a location says of a name.

pub spot_by_cases : (a b c : Bool) (p q x : Location) → (if a then Some p else (if b then (if c then Some p else Some q) else None)) ≡ Some x →
    ((a ≡ true) × (p ≡ x)) ⊎ (((b ≡ true) × (c ≡ true) × (p ≡ x)) ⊎ ((b ≡ true) × (c ≡ false) × (q ≡ x)))
spot_by_cases true b c p q x h = let e : p ≡ x = cc in inl (refl, e)
spot_by_cases false true true p q x h = let e : p ≡ x = cc in inr (inl (refl, refl, e))
spot_by_cases false true false p q x h = let e : q ≡ x = cc in inr (inr (refl, refl, e))
spot_by_cases false false c p q x h = cc

-- a short name by which a name has its location
abbrev pub IsBy : (List ℕ → Location) → List ℕ → Location → Type 0
IsBy private name x =
    ((list_all is_pseudo_byte name ≡ true) × (private name ≡ x))
    ⊎ ((BeginsWith name (codes "refs/") × (is_private_ref name ≡ true) × (private name ≡ x))
    ⊎ (BeginsWith name (codes "refs/") × (is_private_ref name ≡ false) × (Common name ≡ x)))

is_by : (private : List ℕ → Location) (name : List ℕ) (x : Location) → location_by private name ≡ Some x → IsBy private name x
is_by private name x h =
    elim (spot_by_cases (list_all is_pseudo_byte name) (is_some (rest_after (codes "refs/") name)) (is_private_ref name) (private name) (Common name) x h) [
      | inl c ↦ inl c
      | inr r ↦ elim r [
        | inl c ↦ inr (inl (some_rest (codes "refs/") name c.0, c.1, c.2))
        | inr c ↦ inr (inr (some_rest (codes "refs/") name c.0, c.1, c.2))
      ]
    ]

-- how a name has its location: by itself, after `main-worktree/`, or after `worktrees/w/`
abbrev pub HasSpot : List ℕ → Location → Type 0
HasSpot name x =
    IsBy ThisWorktree name x
    ⊎ (((s : List ℕ) × (name ≡ codes "main-worktree/" ++ s) × IsBy MainWorktree s x)
    ⊎ ((w s : List ℕ) × (name ≡ codes "worktrees/" ++ (w ++ 47 ∷ s)) × (has_slash w ≡ false) × IsBy (LinkedWorktree w) s x))

pub has_spot : (name : List ℕ) (x : Location) → location name ≡ Some x → HasSpot name x
has_spot name x h = first (location_by ThisWorktree name) refl h
  where
    linked : (rest : List ℕ) → name ≡ codes "worktrees/" ++ rest → (o : Option (List ℕ × List ℕ)) → cut_at_slash rest ≡ o → location_in_linked o ≡ Some x → HasSpot name x
    linked rest e None f h = cc
    linked rest e (Some parts) f h =
        let k = cut_is rest parts f in
        inr (inr (parts.0, parts.1, e ∙ ap (λ z. codes "worktrees/" ++ z) k.0, k.1, is_by (LinkedWorktree parts.0) parts.1 x h))

    third : (o : Option (List ℕ)) → rest_after (codes "worktrees/") name ≡ o → location_of_linked o ≡ Some x → HasSpot name x
    third None e h = cc
    third (Some rest) e h = linked rest (rest_is (codes "worktrees/") name rest e) (cut_at_slash rest) refl h

    second : (o : Option (List ℕ)) → rest_after (codes "main-worktree/") name ≡ o → location_of_main o name ≡ Some x → HasSpot name x
    second (Some s) e h = inr (inl (s, rest_is (codes "main-worktree/") name s e, is_by MainWorktree s x h))
    second None e h = third (rest_after (codes "worktrees/") name) refl h

    first : (o : Option Location) → location_by ThisWorktree name ≡ o → location_unless o name ≡ Some x → HasSpot name x
    first (Some y) e h = inl (is_by ThisWorktree name x (e ∙ h))
    first None e h = second (rest_after (codes "main-worktree/") name) refl h

-- The location of a name of each category.

paths_by_location : (f : Layout) (name : List ℕ) (x : Location) → location name ≡ Some x → paths_at f name ≡ row_of f x
paths_by_location f name x h = ap (λ o. row_of f (unwrap_or o (Common name))) h

spot_pseudo : (name : List ℕ) → list_all is_pseudo_byte name ≡ true → location name ≡ Some (ThisWorktree name)
spot_pseudo name h =
    ap (λ b. location_unless (if b then Some (ThisWorktree name) else if is_some (rest_after (codes "refs/") name) then (if is_private_ref name then Some (ThisWorktree name) else Some (Common name)) else None) name) h

-- a short name below `refs/`
spot_by_ref : (private : List ℕ → Location) (s : List ℕ) → BeginsWith s (codes "refs/") → location_by private s ≡ (if is_private_ref s then Some (private s) else Some (Common s))
spot_by_ref private s b = subst (λ t. location_by private t ≡ (if is_private_ref t then Some (private t) else Some (Common t))) (sym b.1) refl

spot_by_pseudo : (private : List ℕ → Location) (s : List ℕ) → list_all is_pseudo_byte s ≡ true → location_by private s ≡ Some (private s)
spot_by_pseudo private s h =
    cond-true (list_all is_pseudo_byte s) (Some (private s)) (if is_some (rest_after (codes "refs/") s) then (if is_private_ref s then Some (private s) else Some (Common s)) else None) h

spot_main : (name s : List ℕ) → name ≡ codes "main-worktree/" ++ s → location name ≡ location_by MainWorktree s
spot_main name s e = ap location e

spot_linked : (name w s : List ℕ) → name ≡ codes "worktrees/" ++ (w ++ 47 ∷ s) → NoByte 47 w → location name ≡ location_by (LinkedWorktree w) s
spot_linked name w s e none = ap location e ∙ ap location_in_linked (cut-append w s none)

in_group : (n s word : List ℕ) → n ≡ codes "refs/" ++ s → (b : BeginsWith s word) → n ≡ codes "refs/" ++ (word ++ b.0)
in_group n s word e b = e ∙ ap (λ t. codes "refs/" ++ t) b.1

choice : (f : Layout) (name : List ℕ) (b : Bool) (p q : Location) → row_of f (unwrap_or (if b then Some p else Some q) (Common name)) ≡ (if b then row_of f p else row_of f q)
choice f name true p q = refl
choice f name false p q = refl

main_choice : (f : Layout) (s : List ℕ) (b : Bool) → (if b then row_of f (MainWorktree s) else row_of f (Common s)) ≡ ref_paths (in_common f s) (common_log f s) (if b then None else packed_key f s)
main_choice f s true = refl
main_choice f s false = refl

linked_choice : (f : Layout) (n w s : List ℕ) (b : Bool) → n ≡ codes "worktrees/" ++ (w ++ 47 ∷ s) →
    (if b then row_of f (LinkedWorktree w s) else row_of f (Common s)) ≡ (if b then ref_paths (in_common f n) (linked_log f w s) None else ref_paths (in_common f s) (common_log f s) (packed_key f s))
linked_choice f n w s true e = ap (λ z. ref_paths (in_common f z) (linked_log f w s) None) (sym e)
linked_choice f n w s false e = refl

pub paths_are_in : (f : Layout) (n : List ℕ) (c : Category) (s : List ℕ) → HasCategory n c s → paths_at f n ≡ paths_in f c n s
paths_are_in f n Tag s h = subst (λ m. paths_at f m ≡ paths_of_others f m) (sym h) refl
paths_are_in f n LocalBranch s h = subst (λ m. paths_at f m ≡ paths_of_others f m) (sym h) refl
paths_are_in f n RemoteBranch s h = subst (λ m. paths_at f m ≡ paths_of_others f m) (sym h) refl
paths_are_in f n Note s h = subst (λ m. paths_at f m ≡ paths_of_others f m) (sym (in_group n s (codes "notes/") h.0 h.1)) refl
paths_are_in f n PseudoRef s h = paths_by_location f n (ThisWorktree n) (spot_pseudo n (ap (list_all is_pseudo_byte) h.0 ∙ h.1))
paths_are_in f n Bisect s h = subst (λ m. paths_at f m ≡ ref_paths (in_git f m) (git_log f m) None) (sym (in_group n s (codes "bisect/") h.0 h.1)) refl
paths_are_in f n Rewritten s h = subst (λ m. paths_at f m ≡ ref_paths (in_git f m) (git_log f m) None) (sym (in_group n s (codes "rewritten/") h.0 h.1)) refl
paths_are_in f n WorktreePrivate s h = subst (λ m. paths_at f m ≡ ref_paths (in_git f m) (git_log f m) None) (sym (in_group n s (codes "worktree/") h.0 h.1)) refl
paths_are_in f n MainRef s h =
    ap (λ o. row_of f (unwrap_or o (Common n))) (spot_main n s h.0 ∙ spot_by_ref MainWorktree s h.1)
    ∙ (choice f n (is_private_ref s) (MainWorktree s) (Common s) ∙ main_choice f s (is_private_ref s))
paths_are_in f n MainPseudoRef s h = paths_by_location f n (MainWorktree s) (spot_main n s h.0 ∙ spot_by_pseudo MainWorktree s h.1)
paths_are_in f n (LinkedRef w) s h =
    ap (λ o. row_of f (unwrap_or o (Common n))) (spot_linked n w.now s h.0 h.1 ∙ spot_by_ref (LinkedWorktree w.now) s h.2)
    ∙ (choice f n (is_private_ref s) (LinkedWorktree w.now s) (Common s) ∙ linked_choice f n w.now s (is_private_ref s) h.0)
paths_are_in f n (LinkedPseudoRef w) s h =
    paths_by_location f n (LinkedWorktree w.now s) (spot_linked n w.now s h.0 h.1 ∙ spot_by_pseudo (LinkedWorktree w.now) s h.2)
    ∙ ap (λ z. ref_paths (in_common f z) (linked_log f w.now s) None) (sym h.0)

-- A name with a location is shared as it is, or has a category.

private_group : (n : List ℕ) → is_private_ref n ≡ true → (c : Category) × (s : List ℕ) × HasCategory n c s
private_group n h =
    elim (or_cases (starts_with nat_eq n (codes "refs/bisect/") || starts_with nat_eq n (codes "refs/rewritten/")) (starts_with nat_eq n (codes "refs/worktree/")) h) [
      | inl k ↦ elim (or_cases (starts_with nat_eq n (codes "refs/bisect/")) (starts_with nat_eq n (codes "refs/rewritten/")) k) [
        | inl b ↦ (Bisect, codes "bisect/" ++ drop 12 n, (begun (codes "refs/bisect/") b, (drop 12 n, refl)))
        | inr b ↦ (Rewritten, codes "rewritten/" ++ drop 15 n, (begun (codes "refs/rewritten/") b, (drop 15 n, refl)))
      ]
      | inr b ↦ (WorktreePrivate, codes "worktree/" ++ drop 14 n, (begun (codes "refs/worktree/") b, (drop 14 n, refl)))
    ]
  where
    begun : (p : List ℕ) → starts_with nat_eq n p ≡ true → n ≡ p ++ drop (length p) n
    begun p b = (starts_is Decides-eqb n p (starts_with nat_eq n p) refl).0 b

abbrev pub IsSharedOrHas : List ℕ → Location → Type 0
IsSharedOrHas name x = ((x ≡ Common name) × BeginsWith name (codes "refs/")) ⊎ ((c : Category) × (s : List ℕ) × HasCategory name c s)

pub spot_category : (name : List ℕ) (x : Location) → HasSpot name x → IsSharedOrHas name x
spot_category name x (inl (inl h)) = inr (PseudoRef, name, (refl, h.0))
spot_category name x (inl (inr (inl h))) = inr (private_group name h.1)
spot_category name x (inl (inr (inr h))) = inl (sym h.2, h.0)
spot_category name x (inr (inl (s, e, inl h))) = inr (MainPseudoRef, s, (e, h.0))
spot_category name x (inr (inl (s, e, inr (inl h)))) = inr (MainRef, s, (e, h.0))
spot_category name x (inr (inl (s, e, inr (inr h)))) = inr (MainRef, s, (e, h.0))
spot_category name x (inr (inr (w, s, e, none, inl h))) = inr (LinkedPseudoRef (record { ref_ptr = (0, 0); now = w }), s, (e, test_no_slash w none, h.0))
spot_category name x (inr (inr (w, s, e, none, inr (inl h)))) = inr (LinkedRef (record { ref_ptr = (0, 0); now = w }), s, (e, test_no_slash w none, h.0))
spot_category name x (inr (inr (w, s, e, none, inr (inr h)))) = inr (LinkedRef (record { ref_ptr = (0, 0); now = w }), s, (e, test_no_slash w none, h.0))

-- the paths of a name are those of the table
pub paths_are_table : (f : Layout) (name : List ℕ) (r : RefPaths) → HasPaths f name r → paths_at f name ≡ r
paths_are_table f name r (inl h) = paths_are_in f name h.0 h.1 h.2 ∙ sym h.3
paths_are_table f name r (inr h) = by (location name) refl ∙ sym h.1
  where
    by : (o : Option Location) → location name ≡ o → row_of f (unwrap_or o (Common name)) ≡ paths_of_others f name
    by None e = refl
    by (Some x) e = elim (spot_category name x (has_spot name x e)) [
      | inl s ↦ ap (row_of f) s.0
      | inr c ↦ absurd (h.0 c.0 c.1 c.2)
    ]

-- the test of a safe name
pub safe_is_tested : (name : List ℕ) → IsSafe name → is_safe name ≡ true
safe_is_tested name (inl b) = ap is_some (ap (λ o. location_unless o name) (spot_by_ref ThisWorktree name b)) ∙ some_choice (is_private_ref name)
  where
    some_choice : (b : Bool) → is_some (location_unless (if b then Some (ThisWorktree name) else Some (Common name)) name) ≡ true
    some_choice true = refl
    some_choice false = refl
safe_is_tested name (inr (c, s, h)) = by c h
  where
    some_choice : (p q : Location) (b : Bool) → is_some (if b then Some p else Some q) ≡ true
    some_choice p q true = refl
    some_choice p q false = refl

    by : (c : Category) → HasCategory name c s → is_safe name ≡ true
    by Tag h = ap is_safe h
    by LocalBranch h = ap is_safe h
    by RemoteBranch h = ap is_safe h
    by Note h = ap is_safe (in_group name s (codes "notes/") h.0 h.1)
    by PseudoRef h = ap is_some (spot_pseudo name (ap (list_all is_pseudo_byte) h.0 ∙ h.1))
    by Bisect h = ap is_safe (in_group name s (codes "bisect/") h.0 h.1)
    by Rewritten h = ap is_safe (in_group name s (codes "rewritten/") h.0 h.1)
    by WorktreePrivate h = ap is_safe (in_group name s (codes "worktree/") h.0 h.1)
    by MainRef h = ap is_some (spot_main name s h.0 ∙ spot_by_ref MainWorktree s h.1) ∙ some_choice (MainWorktree s) (Common s) (is_private_ref s)
    by MainPseudoRef h = ap is_some (spot_main name s h.0 ∙ spot_by_pseudo MainWorktree s h.1)
    by (LinkedRef w) h = ap is_some (spot_linked name w.now s h.0 h.1 ∙ spot_by_ref (LinkedWorktree w.now) s h.2) ∙ some_choice (LinkedWorktree w.now s) (Common s) (is_private_ref s)
    by (LinkedPseudoRef w) h = ap is_some (spot_linked name w.now s h.0 h.1 ∙ spot_by_pseudo (LinkedWorktree w.now) s h.2)

-- and a name that passes is safe
pub tested_is_safe : (name : List ℕ) → is_safe name ≡ true → IsSafe name
tested_is_safe name h = by (location name) refl h
  where
    by : (o : Option Location) → location name ≡ o → is_some o ≡ true → IsSafe name
    by None e h = absurd (false≢true h)
    by (Some x) e h = elim (spot_category name x (has_spot name x e)) [ inl s ↦ inl s.1 | inr c ↦ inr c ]

-- Each name has paths.

begun : (n p : List ℕ) → starts_with nat_eq n p ≡ true → n ≡ p ++ drop (length p) n
begun n p b = (starts_is Decides-eqb n p (starts_with nat_eq n p) refl).0 b

begins_so : (n p rest : List ℕ) → n ≡ p ++ rest → starts_with nat_eq n p ≡ true
begins_so n p rest e = (starts_is Decides-eqb n p (starts_with nat_eq n p) refl).1 rest e

-- a name below `refs/` that is shared and in none of the four groups of shared names has no category
shared_no_category : (n : List ℕ) → location n ≡ Some (Common n) → BeginsWith n (codes "refs/")
    → starts_with nat_eq n (codes "refs/tags/") ≡ false → starts_with nat_eq n (codes "refs/heads/") ≡ false
    → starts_with nat_eq n (codes "refs/remotes/") ≡ false → starts_with nat_eq n (codes "refs/notes/") ≡ false → NoCategory n
shared_no_category n shared below_refs tags heads remotes notes = by
  where
    folders : Layout
    folders = record { git = []; common = []; namespace = [] }

    -- a private category has no key, and the shared location has one
    keyed : (c : Category) (s : List ℕ) → HasCategory n c s → (paths_in folders c n s).key ≡ None → ⊥
    keyed c s h none = some_none (sym (ap (λ (r : RefPaths). r.key) (paths_by_location folders n (Common n) shared)) ∙ (ap (λ (r : RefPaths). r.key) (paths_are_in folders n c s h) ∙ none))
      where
        some_none : Some (folders.namespace ++ n) ≡ None → ⊥
        some_none e = cc

    behind : (s word : List ℕ) → n ≡ codes "refs/" ++ s → (b : BeginsWith s word) → n ≡ (codes "refs/" ++ word) ++ b.0
    behind s word e b = in_group n s word e b ∙ sym (append_assoc (codes "refs/") word b.0)

    by : NoCategory n
    by Tag s h = false≢true (sym tags ∙ begins_so n (codes "refs/tags/") s h)
    by LocalBranch s h = false≢true (sym heads ∙ begins_so n (codes "refs/heads/") s h)
    by RemoteBranch s h = false≢true (sym remotes ∙ begins_so n (codes "refs/remotes/") s h)
    by Note s h = false≢true (sym notes ∙ begins_so n (codes "refs/notes/") h.1.0 (behind s (codes "notes/") h.0 h.1))
    by PseudoRef s h = keyed PseudoRef s h refl
    by Bisect s h = keyed Bisect s h refl
    by Rewritten s h = keyed Rewritten s h refl
    by WorktreePrivate s h = keyed WorktreePrivate s h refl
    by MainPseudoRef s h = keyed MainPseudoRef s h refl
    by (LinkedPseudoRef w) s h = keyed (LinkedPseudoRef w) s h refl
    by MainRef s h = let e : ◌≡◌ {A = ℕ} 114 109 = ap head (sym below_refs.1 ∙ h.0) in absurd (omega arith)
    by (LinkedRef w) s h = let e : ◌≡◌ {A = ℕ} 114 119 = ap head (sym below_refs.1 ∙ h.0) in absurd (omega arith)

pub has_paths : (f : Layout) (name : List ℕ) → HasPaths f name (paths_at f name)
has_paths f name = by (location name) refl
  where
    of_category : (c : Category) (s : List ℕ) → HasCategory name c s → HasPaths f name (paths_at f name)
    of_category c s h = inl (c, s, h, paths_are_in f name c s h)

    shared : location name ≡ Some (Common name) → BeginsWith name (codes "refs/") → HasPaths f name (paths_at f name)
    shared e refs = elim (cases_Bool (starts_with nat_eq name (codes "refs/tags/"))) [
      | inl b ↦ of_category Tag (drop 10 name) (begun name (codes "refs/tags/") b)
      | inr tags ↦ elim (cases_Bool (starts_with nat_eq name (codes "refs/heads/"))) [
        | inl b ↦ of_category LocalBranch (drop 11 name) (begun name (codes "refs/heads/") b)
        | inr heads ↦ elim (cases_Bool (starts_with nat_eq name (codes "refs/remotes/"))) [
          | inl b ↦ of_category RemoteBranch (drop 13 name) (begun name (codes "refs/remotes/") b)
          | inr remotes ↦ elim (cases_Bool (starts_with nat_eq name (codes "refs/notes/"))) [
            | inl b ↦ of_category Note (codes "notes/" ++ drop 11 name) (begun name (codes "refs/notes/") b, (drop 11 name, refl))
            | inr notes ↦ inr (shared_no_category name e refs tags heads remotes notes, paths_by_location f name (Common name) e)
          ]
        ]
      ]
    ]

    by : (o : Option Location) → location name ≡ o → HasPaths f name (paths_at f name)
    by None e = inr (λ c s h. false≢true (sym (ap is_some e) ∙ safe_is_tested name (inr (c, s, h))), ap (λ o. row_of f (unwrap_or o (Common name))) e)
    by (Some x) e = elim (spot_category name x (has_spot name x e)) [
      | inl s ↦ shared (e ∙ ap Some s.0) s.1
      | inr c ↦ of_category c.0 c.1 c.2
    ]

-- What the code asks: the category, and else whether the name begins with `refs/`.

-- the name is safe, and these are its paths
abbrev pub IsFound : List ℕ → Location → Type 0
IsFound name x = (is_safe name ≡ true) × ((f : Layout) → paths_at f name ≡ row_of f x)

pub found_category : (name n : List ℕ) (c : Category) (s : List ℕ) (x : Location) → n ≡ name → HasCategory name c s → ((f : Layout) → paths_in f c n s ≡ row_of f x) → IsFound name x
found_category name n c s x same h row =
    (safe_is_tested name (inr (c, s, h)), λ f. paths_are_in f name c s h ∙ (ap (λ (m : List ℕ). paths_in f c m s) (sym same) ∙ row f))

pub found_refs : (name n m : List ℕ) → n ≡ name → m ≡ name → NoCategory name → starts_with nat_eq n (codes "refs/") ≡ true → IsFound name (Common m)
found_refs name n m same also none begins = (
  safe_is_tested name (inl (drop 5 n, sym same ∙ begun n (codes "refs/") begins)),
  λ f. paths_are_table f name (paths_of_others f name) (inr (none, refl)) ∙ ap (paths_of_others f) (sym also),
)

pub not_found : (name n : List ℕ) → n ≡ name → NoCategory name → starts_with nat_eq n (codes "refs/") ≡ false → is_safe name ≡ false
not_found name n same none apart = elim (cases_Bool (is_safe name)) [
  | inl safe ↦ elim (tested_is_safe name safe) [
    | inl refs ↦ absurd (false≢true (sym apart ∙ begins_so n (codes "refs/") refs.0 (same ∙ refs.1)))
    | inr c ↦ absurd (none c.0 c.1 c.2)
  ]
  | inr unsafe ↦ unsafe
]

-- a name that is not safe is shared as it is
pub unsafe_paths : (name n : List ℕ) → n ≡ name → is_safe name ≡ false → (f : Layout) → paths_at f name ≡ row_of f (Common n)
unsafe_paths name n same unsafe f = by (location name) refl
  where
    by : (o : Option Location) → location name ≡ o → row_of f (unwrap_or (location name) (Common name)) ≡ row_of f (Common n)
    by None e = ap (λ o. row_of f (unwrap_or o (Common name))) e ∙ ap (λ (m : List ℕ). row_of f (Common m)) (sym same)
    by (Some x) e = absurd (false≢true (sym unsafe ∙ ap is_some e))
