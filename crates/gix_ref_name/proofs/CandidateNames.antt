-- Why each candidate of a partial name is a valid full name.
use Rattle.std.proofs.Common.{◌≡◌, ◌⊎◌, inl, inr, ℕ, suc, ◌≤◌, Bool, true, false, not, ◌||◌, ◌&&◌, List, [], ◌∷◌, ◌++◌, length, drop, take, if◌then◌else◌, refl, sym, ◌∙◌, ap, subst, None, codes, nat_eq, eqb, ne_eqb, eq-eqb, arith, append_assoc, length-append}
use Rattle.std.specs.List.{All, Contains, list_all, list_any, starts_with}
use Rattle.std.specs.Cmp.Lexicographic.{pointwise}
use Rattle.std.proofs.lemmas.Bool.{eqb-true}
use Rattle.std.proofs.lemmas.Bool.Decides.{Decides-eqb}
use Rattle.std.proofs.lemmas.List.Elements.{All-contains, All-cons, All-nil}
use Rattle.std.proofs.lemmas.Slice.Eq.{starts_is}
use Rattle.gix_ref_name.specs.declared.name.error.Error.TheVariants.{SomeLowercase}
use Rattle.gix_ref_hash.specs.Bytes.{is_slash}
use Rattle.gix_ref_hash.proofs.ByteLemmas.{no_byte}
use Rattle.gix_ref_name.specs.NameGrammar.{is_pseudo_byte, first_reported, reported_if, full_rule, full_error, partial_error, IsPartialName, IsFullName}
use Rattle.gix_ref_name.specs.Candidates.{is_full_ref_path, is_pseudo, lookup_prefixes}
use Rattle.gix_ref_name.proofs.PartialNames.{IsPath, IsComponent, rules_of, first_component, last_component, behind_component}
use Rattle.gix_ref_name.proofs.Expanding.{refs_component}

-- ---- full names
full_by : (n : List ℕ) (s q : Bool) → s ≡ true → first_reported (reported_if (not s && not q) SomeLowercase ∷ []) ≡ None
full_by n true q h = refl
full_by n false q h = absurd (cc)

full_pseudo : (s q : Bool) → q ≡ true → first_reported (reported_if (not s && not q) SomeLowercase ∷ []) ≡ None
full_pseudo true true h = refl
full_pseudo false true h = refl
full_pseudo s false h = absurd (cc)

-- a partial name with a slash
pub full_with_slash : (n : List ℕ) → IsPartialName n → list_any is_slash n ≡ true → IsFullName n
unfolding full_error
full_with_slash n valid slash =
    ap (λ o. first_reported (o ∷ full_rule n ∷ [])) valid ∙ full_by n (list_any is_slash n) (list_all is_pseudo_byte n) slash

-- a partial name with only bytes of a pseudo name
full_without : (n : List ℕ) → IsPartialName n → is_pseudo n ≡ true → IsFullName n
unfolding full_error
full_without n valid pseudo =
    ap (λ o. first_reported (o ∷ full_rule n ∷ [])) valid ∙ full_pseudo (list_any is_slash n) (list_all is_pseudo_byte n) pseudo

-- ---- fronts
pub record IsName (n : List ℕ) : Type 0 where
  pub partial : IsPartialName n
  pub full : IsFullName n

abbrev pub NamedBehind : List ℕ → List ℕ → Type 0
NamedBehind p front = IsName (front ++ p)

pub tags_component : IsComponent (codes "tags")
tags_component = record {
  some = refl;
  valid = refl;
  no_slash = no_byte 47 (codes "tags") refl;
  dotted = refl;
  dots = refl;
  locked = refl;
  portion = refl;
}

pub heads_component : IsComponent (codes "heads")
heads_component = record {
  some = refl;
  valid = refl;
  no_slash = no_byte 47 (codes "heads") refl;
  dotted = refl;
  dots = refl;
  locked = refl;
  portion = refl;
}

pub remotes_component : IsComponent (codes "remotes")
remotes_component = record {
  some = refl;
  valid = refl;
  no_slash = no_byte 47 (codes "remotes") refl;
  dotted = refl;
  dots = refl;
  locked = refl;
  portion = refl;
}

one_front : (p c : List ℕ) → IsComponent c → list_any is_slash (c ++ 47 ∷ p) ≡ true → IsPartialName p → IsName (c ++ 47 ∷ p)
one_front p c is slash valid =
    let partial = behind_component c p is valid in
    record { partial = partial; full = full_with_slash (c ++ 47 ∷ p) partial slash }

two_fronts : (p c d : List ℕ) → IsComponent c → IsComponent d → list_any is_slash (c ++ 47 ∷ (d ++ 47 ∷ p)) ≡ true → IsPartialName p → IsName (c ++ 47 ∷ (d ++ 47 ∷ p))
two_fronts p c d is_c is_d slash valid = one_front (d ++ 47 ∷ p) c is_c slash (behind_component d p is_d valid)

refs_fronts : (p : List ℕ) → IsPartialName p → All (NamedBehind p) (codes "refs/" ∷ codes "refs/tags/" ∷ codes "refs/heads/" ∷ codes "refs/remotes/" ∷ [])
refs_fronts p valid =
    let P = NamedBehind p in
    All-cons P (codes "refs/") (codes "refs/tags/" ∷ codes "refs/heads/" ∷ codes "refs/remotes/" ∷ []) (one_front p (codes "refs") refs_component refl valid) (
    All-cons P (codes "refs/tags/") (codes "refs/heads/" ∷ codes "refs/remotes/" ∷ []) (two_fronts p (codes "refs") (codes "tags") refs_component tags_component refl valid) (
    All-cons P (codes "refs/heads/") (codes "refs/remotes/" ∷ []) (two_fronts p (codes "refs") (codes "heads") refs_component heads_component refl valid) (
    All-cons P (codes "refs/remotes/") [] (two_fronts p (codes "refs") (codes "remotes") refs_component remotes_component refl valid) (All-nil P)
    )
    )
    )

rooted_fronts : (p : List ℕ) → IsPartialName p → IsFullName p → All (NamedBehind p) ([] ∷ codes "tags/" ∷ codes "heads/" ∷ codes "remotes/" ∷ [])
rooted_fronts p valid full =
    let P = NamedBehind p in
    All-cons P [] (codes "tags/" ∷ codes "heads/" ∷ codes "remotes/" ∷ []) (record { partial = valid; full = full }) (
    All-cons P (codes "tags/") (codes "heads/" ∷ codes "remotes/" ∷ []) (one_front p (codes "tags") tags_component refl valid) (
    All-cons P (codes "heads/") (codes "remotes/" ∷ []) (one_front p (codes "heads") heads_component refl valid) (
    All-cons P (codes "remotes/") [] (one_front p (codes "remotes") remotes_component refl valid) (All-nil P)
    )
    )
    )

-- a rooted name has a slash
begins_slash : (f p : List ℕ) → ((r : List ℕ) → list_any is_slash (f ++ r) ≡ true) → starts_with nat_eq p f ≡ true → list_any is_slash p ≡ true
begins_slash f p slash begins =
    let rest = drop (length f) p in
    let whole : p ≡ f ++ rest = (starts_is Decides-eqb p f (starts_with nat_eq p f) refl).0 begins in
    ap (list_any is_slash) whole ∙ slash rest

pub refs_slash : (p : List ℕ) → starts_with nat_eq p (codes "refs/") ≡ true → list_any is_slash p ≡ true
refs_slash p = begins_slash (codes "refs/") p (λ r. refl)

rooted_slash : (p : List ℕ) → is_full_ref_path p ≡ true → list_any is_slash p ≡ true
rooted_slash p rooted = go (starts_with nat_eq p (codes "refs/")) (starts_with nat_eq p (codes "main-worktree/")) (starts_with nat_eq p (codes "worktrees/")) refl refl refl rooted
  where
    go : (a b c : Bool) → starts_with nat_eq p (codes "refs/") ≡ a → starts_with nat_eq p (codes "main-worktree/") ≡ b → starts_with nat_eq p (codes "worktrees/") ≡ c → ((a || b) || c) ≡ true → list_any is_slash p ≡ true
    go true b c e f g h = refs_slash p e
    go false true c e f g h = begins_slash (codes "main-worktree/") p (λ r. refl) f
    go false false true e f g h = begins_slash (codes "worktrees/") p (λ r. refl) g
    go false false false e f g h = absurd (cc)

all_fronts : (p : List ℕ) → IsPartialName p → All (NamedBehind p) (lookup_prefixes p)
all_fronts p valid = go (is_pseudo p) (is_full_ref_path p) refl refl
  where
    go : (q r : Bool) → is_pseudo p ≡ q → is_full_ref_path p ≡ r → All (NamedBehind p) (if q then [] ∷ codes "refs/" ∷ codes "refs/tags/" ∷ codes "refs/heads/" ∷ codes "refs/remotes/" ∷ [] else if r then [] ∷ codes "tags/" ∷ codes "heads/" ∷ codes "remotes/" ∷ [] else codes "refs/" ∷ codes "refs/tags/" ∷ codes "refs/heads/" ∷ codes "refs/remotes/" ∷ [])
    go true r pseudo rooted =
        All-cons (NamedBehind p) [] (codes "refs/" ∷ codes "refs/tags/" ∷ codes "refs/heads/" ∷ codes "refs/remotes/" ∷ []) (record { partial = valid; full = full_without p valid pseudo }) (refs_fronts p valid)
    go false true pseudo rooted = rooted_fronts p valid (full_with_slash p valid (rooted_slash p rooted))
    go false false pseudo rooted = refs_fronts p valid

-- each candidate is a full name
pub named_behind : (p front : List ℕ) → IsPartialName p → Contains (lookup_prefixes p) front → IsName (front ++ p)
named_behind p front valid among = All-contains (NamedBehind p) (lookup_prefixes p) front (all_fronts p valid) among

-- ---- a path before a name
-- the text up to its first slash, and what is after that
first_slash : (text : List ℕ) → (list_all (λ c. not (eqb c 47)) text ≡ true) ⊎ ((c n : List ℕ) × (list_all (λ c. not (eqb c 47)) c ≡ true) × (text ≡ c ++ 47 ∷ n))
first_slash [] = inl refl
first_slash (x ∷ text) = go (eqb x 47) refl (first_slash text)
  where
    go : (b : Bool) → eqb x 47 ≡ b → (list_all (λ c. not (eqb c 47)) text ≡ true) ⊎ ((c n : List ℕ) × (list_all (λ c. not (eqb c 47)) c ≡ true) × (text ≡ c ++ 47 ∷ n)) → (list_all (λ c. not (eqb c 47)) (x ∷ text) ≡ true) ⊎ ((c n : List ℕ) × (list_all (λ c. not (eqb c 47)) c ≡ true) × (x ∷ text ≡ c ++ 47 ∷ n))
    go true here rest = inr ([], text, refl, ap (λ y. y ∷ text) (eqb-true x 47 here))
    go false other (inl none) = inl (ap (λ v. not v && list_all (λ c. not (eqb c 47)) text) other ∙ none)
    go false other (inr (c, n, none, whole)) =
        inr (x ∷ c, n, ap (λ v. not v && list_all (λ c. not (eqb c 47)) c) other ∙ none, ap (λ t. x ∷ t) whole)

-- a partial name after a path and a slash is one; `k` bounds the length of the path
behind_path : (k : ℕ) (c n : List ℕ) → length c ≤ k → IsPath c → IsPartialName n → IsPartialName (c ++ 47 ∷ n)
behind_path k [] n short path valid = let some = path.some in absurd (cc)
behind_path Prim.Native.Nat.zero (x ∷ c) n short path valid = absurd (omega arith)
behind_path (suc k) (x ∷ c) n short path valid = go (first_slash (x ∷ c)) (λ e less rest. behind_path k e n less rest valid)
  where
    go : (list_all (λ c. not (eqb c 47)) (x ∷ c) ≡ true) ⊎ ((d e : List ℕ) × (list_all (λ c. not (eqb c 47)) d ≡ true) × (x ∷ c ≡ d ++ 47 ∷ e)) → ((e : List ℕ) → length e ≤ k → IsPath e → IsPartialName (e ++ 47 ∷ n)) → IsPartialName ((x ∷ c) ++ 47 ∷ n)
    go (inl none) more = behind_component (x ∷ c) n (last_component (x ∷ c) (no_byte 47 (x ∷ c) none) path) valid
    go (inr (d, e, none, whole)) more =
        let parts = first_component d e (no_byte 47 d none) (subst IsPath whole path) in
        let less : length e ≤ k = omega (arith, ap length whole, length-append d (47 ∷ e)) in
        subst IsPartialName (sym (ap (λ t. t ++ 47 ∷ n) whole ∙ append_assoc d (47 ∷ e) (47 ∷ n))) (behind_component d (e ++ 47 ∷ n) parts.0 (more e less parts.1))

head_valid : IsPartialName (codes "HEAD")
unfolding partial_error
head_valid = refl

-- the `HEAD` of a remote is a full name
pub remote_named : (p front : List ℕ) → IsPartialName p → front ≡ (if is_full_ref_path (p ++ codes "/HEAD") then codes "remotes/" else codes "refs/remotes/") → IsName (front ++ (p ++ codes "/HEAD"))
remote_named p front valid e = rw e (go (is_full_ref_path (p ++ codes "/HEAD")))
  where
    inner : IsPartialName (p ++ codes "/HEAD")
    inner = behind_path (length p) p (codes "HEAD") (omega arith) (rules_of p valid).0 head_valid

    go : (b : Bool) → IsName ((if b then codes "remotes/" else codes "refs/remotes/") ++ (p ++ codes "/HEAD"))
    go true = one_front (p ++ codes "/HEAD") (codes "remotes") remotes_component refl inner
    go false = two_fronts (p ++ codes "/HEAD") (codes "refs") (codes "remotes") refs_component remotes_component refl inner

-- ---- a name that a slash makes rooted
or_false : (a : Bool) → (a || false) ≡ a
or_false true = refl
or_false false = refl

and_or : (a b c : Bool) → (a && (b || c)) ≡ ((a && b) || (a && c))
and_or true b c = refl
and_or false b c = refl

eqb_swap : (a x : ℕ) → eqb a x ≡ eqb x a
eqb_swap a x = go (eqb a x) refl
  where
    go : (b : Bool) → eqb a x ≡ b → eqb a x ≡ eqb x a
    go true same = same ∙ sym (eq-eqb x a (sym (eqb-true a x same)))
    go false other = other ∙ sym (ne_eqb x a (λ same. let yes : eqb a x ≡ true = eq-eqb a x (sym same) in absurd cc))

-- a text before a slash begins with a folder and a slash, or is that folder
starts-behind : (f p n : List ℕ) → list_all (λ c. not (eqb c 47)) f ≡ true → starts_with nat_eq (p ++ 47 ∷ n) (f ++ 47 ∷ []) ≡ (starts_with nat_eq p (f ++ 47 ∷ []) || pointwise nat_eq p f)
starts-behind [] [] n h = refl
starts-behind [] (x ∷ p) n h = sym (or_false _)
starts-behind (a ∷ f) p n h = go p (eqb a 47) refl h (λ q more. starts-behind f q n more)
  where
    go : (p : List ℕ) (b : Bool) → eqb a 47 ≡ b → (not b && list_all (λ c. not (eqb c 47)) f) ≡ true → ((q : List ℕ) → list_all (λ c. not (eqb c 47)) f ≡ true → starts_with nat_eq (q ++ 47 ∷ n) (f ++ 47 ∷ []) ≡ (starts_with nat_eq q (f ++ 47 ∷ []) || pointwise nat_eq q f)) → starts_with nat_eq (p ++ 47 ∷ n) (a ∷ (f ++ 47 ∷ [])) ≡ (starts_with nat_eq p (a ∷ (f ++ 47 ∷ [])) || pointwise nat_eq p (a ∷ f))
    go p true slash h more = absurd (cc)
    go [] false other h more = ap (λ v. v && pointwise nat_eq (f ++ 47 ∷ []) (take (length (f ++ 47 ∷ [])) n)) other
    go (x ∷ p) false other h more =
        ap (λ v. eqb a x && v) (more p h) ∙ and_or (eqb a x) _ _ ∙ ap (λ v. (eqb a x && starts_with nat_eq p (f ++ 47 ∷ [])) || (v && pointwise nat_eq p f)) (eqb_swap a x)

or_move : (a b c x y z : Bool) → (((a || x) || (b || y)) || (c || z)) ≡ (((a || b) || c) || ((x || y) || z))
or_move true b c x y z = refl
or_move false true c true y z = refl
or_move false true c false y z = refl
or_move false false true true y z = refl
or_move false false true false true z = refl
or_move false false true false false z = refl
or_move false false false x y z = refl

-- the test of a name with a path after it
pub rooted-behind : (p n : List ℕ) → is_full_ref_path (p ++ 47 ∷ n) ≡ (is_full_ref_path p || ((pointwise nat_eq p (codes "refs") || pointwise nat_eq p (codes "main-worktree")) || pointwise nat_eq p (codes "worktrees")))
rooted-behind p n =
    ap (λ v. (v || starts_with nat_eq (p ++ 47 ∷ n) (codes "main-worktree/")) || starts_with nat_eq (p ++ 47 ∷ n) (codes "worktrees/")) (starts-behind (codes "refs") p n refl)
    ∙ ap (λ v. ((starts_with nat_eq p (codes "refs/") || pointwise nat_eq p (codes "refs")) || v) || starts_with nat_eq (p ++ 47 ∷ n) (codes "worktrees/")) (starts-behind (codes "main-worktree") p n refl)
    ∙ ap (λ v. ((starts_with nat_eq p (codes "refs/") || pointwise nat_eq p (codes "refs")) || (starts_with nat_eq p (codes "main-worktree/") || pointwise nat_eq p (codes "main-worktree"))) || v) (starts-behind (codes "worktrees") p n refl)
    ∙ or_move (starts_with nat_eq p (codes "refs/")) (starts_with nat_eq p (codes "main-worktree/")) (starts_with nat_eq p (codes "worktrees/")) _ _ _

-- one of the three folders
abbrev pub is_root : List ℕ → Bool
is_root p = (pointwise nat_eq p (codes "refs") || pointwise nat_eq p (codes "main-worktree")) || pointwise nat_eq p (codes "worktrees")

abbrev pub front_if : Bool → List ℕ
front_if b = if b then codes "remotes/" else codes "refs/remotes/"

or_true : (a : Bool) → (a || true) ≡ true
or_true true = refl
or_true false = refl

pub front_rooted : (p : List ℕ) → is_full_ref_path p ≡ true → codes "remotes/" ≡ front_if (is_full_ref_path (p ++ codes "/HEAD"))
front_rooted p rooted = sym (ap front_if (rooted-behind p (codes "HEAD") ∙ ap (λ v. v || is_root p) rooted))

pub front_root : (p : List ℕ) → is_root p ≡ true → codes "remotes/" ≡ front_if (is_full_ref_path (p ++ codes "/HEAD"))
front_root p root =
    sym (ap front_if (rooted-behind p (codes "HEAD") ∙ ap (λ v. is_full_ref_path p || v) root ∙ or_true (is_full_ref_path p)))

pub front_other : (p : List ℕ) → is_full_ref_path p ≡ false → is_root p ≡ false → codes "refs/remotes/" ≡ front_if (is_full_ref_path (p ++ codes "/HEAD"))
front_other p rooted root =
    sym (ap front_if (rooted-behind p (codes "HEAD") ∙ ap (λ v. v || is_root p) rooted ∙ root))
