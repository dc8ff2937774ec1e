-- The test of how two folders lie agrees with what it tests.
use Rattle.std.proofs.Common.{◌≡◌, ◌≢◌, ℕ, List, [], ◌∷◌, ◌++◌, Option, Some, None, Bool, true, false, not, ◌||◌, ◌&&◌, if◌then◌else◌, refl, sym, ap, ◌∙◌, inl, inr, ◌⊎◌, is_none, codes, append_assoc, bytes_eq, eq-eqb, IsTrue, ◌↔◌, MatchOption, Bor}
use Rattle.std.proofs.lemmas.Bool.{false≢true, cases_Bool}
use Rattle.std.proofs.lemmas.Slice.Eq.{bytes_eq-Decides}
use Rattle.std.specs.List.{list_all}
use Rattle.std.proofs.lemmas.List.Splits.{slice_split_at, slice_split_none}
use Rattle.gix_ref_hash.specs.Bytes.{NoByte, components, is_slash}
use Rattle.gix_ref_hash.proofs.ByteLemmas.{apart}
use Rattle.gix_ref_files.specs.Tree.{Path}
use Rattle.gix_ref_target.specs.Layout.{AreCompatible, LiesIn, below}
use Rattle.gix_ref_target.specs.Locations.{rest_after}
use Rattle.gix_ref_lookup.specs.CleanPaths.{are_compatible, is_worktree, is_worktree_in}
use Rattle.gix_ref_target.proofs.LocationLemmas.{has_slash, rest_is, no_slash_test, test_no_slash}
use Rattle.gix_ref_theory.proofs.PlaceLaws.{cancel, cancel_below}

rest_back : (front rest : List ℕ) → rest_after front (front ++ rest) ≡ Some rest
rest_back [] rest = refl
rest_back (x ∷ front) rest = ap (λ b. if b then rest_after front (front ++ rest) else None) (eq-eqb x x refl) ∙ rest_back front rest

rest_of : (front name rest : List ℕ) → name ≡ front ++ rest → rest_after front name ≡ Some rest
rest_of front name rest e = ap (rest_after front) e ∙ rest_back front rest

in_folder : (folder rest : Path) → below folder rest ≡ below folder [] ++ rest
in_folder folder rest = sym (append_assoc folder (47 ∷ []) rest)

rest_below : (path folder rest : Path) → path ≡ below folder rest → rest_after (below folder []) path ≡ Some rest
rest_below path folder rest e = rest_of (below folder []) path rest (e ∙ in_folder folder rest)

lies_below : (path folder rest : Path) → rest_after (below folder []) path ≡ Some rest → path ≡ below folder rest
lies_below path folder rest e = rest_is (below folder []) path rest e ∙ sym (in_folder folder rest)

none_below : (path folder : Path) → (LiesIn path folder → ⊥) → rest_after (below folder []) path ≡ None
none_below path folder outside = by (rest_after (below folder []) path) refl
  where
    by : (o : Option (List ℕ)) → rest_after (below folder []) path ≡ o → o ≡ None
    by None e = refl
    by (Some rest) e = absurd (outside (rest, lies_below path folder rest e))

is_outside : (path folder : Path) → rest_after (below folder []) path ≡ None → LiesIn path folder → ⊥
is_outside path folder none lies = some_none (sym (rest_below path folder lies.0 lies.1) ∙ none)
  where
    some_none : {q : List ℕ} → Some q ≡ None → ⊥
    some_none e = cc

pub same_test : (a b : Path) → a ≡ b → bytes_eq a b ≡ true
same_test a b e = (bytes_eq-Decides a b).1 e

or_left : (a b c : Bool) → a ≡ true → (a || b || c) ≡ true
or_left true b c h = refl
or_left false b c h = absurd (false≢true h)

or_mid : (a b c : Bool) → b ≡ true → (a || b || c) ≡ true
or_mid true b c h = refl
or_mid false true c h = refl
or_mid false false c h = absurd (false≢true h)

or_right : (a b c : Bool) → c ≡ true → (a || b || c) ≡ true
or_right true b c h = refl
or_right false true c h = refl
or_right false false c h = h

or_three : (a b c : Bool) → (a || b || c) ≡ true → (a ≡ true) ⊎ ((b ≡ true) ⊎ (c ≡ true))
or_three true b c h = inl refl
or_three false true c h = inr (inl refl)
or_three false false c h = inr (inr h)

worktree_test : (git common w : List ℕ) → NoByte 47 w → git ≡ below common (codes "worktrees/" ++ w) → is_worktree (rest_after (below common []) git) ≡ true
worktree_test git common w none e =
    ap is_worktree (rest_below git common (codes "worktrees/" ++ w) e)
    ∙ (ap is_worktree_in (rest_back (codes "worktrees/") w) ∙ ap not (no_slash_test w none))

pub laid_test : (git common : Path) → AreCompatible git common → are_compatible git common ≡ true
unfolding are_compatible
laid_test git common (inl same) = or_left (bytes_eq git common) _ _ (same_test git common same)
laid_test git common (inr (inl r)) = or_mid (bytes_eq git common) (is_worktree (rest_after (below common []) git)) _ (worktree_test git common r.0 r.1 r.2)
laid_test git common (inr (inr a)) =
    or_right (bytes_eq git common) (is_worktree (rest_after (below common []) git)) _
    (ap (λ o. is_none o && is_none (rest_after (below git []) common)) (none_below git common a.left_outside)
    ∙ ap is_none (none_below common git a.right_outside))

worktree_is : (git common : Path) → is_worktree (rest_after (below common []) git) ≡ true → (w : List ℕ) × NoByte 47 w × (git ≡ below common (codes "worktrees/" ++ w))
worktree_is git common h = by (rest_after (below common []) git) refl h
  where
    named : (rest : List ℕ) (o : Option (List ℕ)) → rest_after (codes "worktrees/") rest ≡ o → git ≡ below common rest → is_worktree_in o ≡ true → (w : List ℕ) × NoByte 47 w × (git ≡ below common (codes "worktrees/" ++ w))
    named rest None e is h = absurd (false≢true h)
    named rest (Some w) e is h = (w, test_no_slash w (off (has_slash w) h), is ∙ ap (below common) (rest_is (codes "worktrees/") rest w e))
      where
        off : (b : Bool) → not b ≡ true → b ≡ false
        off true h = absurd (false≢true h)
        off false h = refl

    by : (o : Option (List ℕ)) → rest_after (below common []) git ≡ o → is_worktree o ≡ true → (w : List ℕ) × NoByte 47 w × (git ≡ below common (codes "worktrees/" ++ w))
    by None e h = absurd (false≢true h)
    by (Some rest) e h = named rest (rest_after (codes "worktrees/") rest) refl (lies_below git common rest e) h

none_test : (o : Option (List ℕ)) → is_none o ≡ true → o ≡ None
none_test None h = refl
none_test (Some q) h = absurd (false≢true h)

both : (a b : Bool) → (a && b) ≡ true → (a ≡ true) × (b ≡ true)
both true b h = (refl, h)
both false b h = absurd (false≢true h)

pub test_laid : (git common : Path) → are_compatible git common ≡ true → AreCompatible git common
unfolding are_compatible
test_laid git common h = elim (or_three (bytes_eq git common) (is_worktree (rest_after (below common []) git)) (is_none (rest_after (below common []) git) && is_none (rest_after (below git []) common)) h) [
  | inl same ↦ inl ((bytes_eq-Decides git common).0 same)
  | inr r ↦ elim (cases_Bool (bytes_eq git common)) [
    | inl same ↦ inl ((bytes_eq-Decides git common).0 same)
    | inr differ ↦ elim r [
      | inl w ↦ inr (inl (worktree_is git common w))
      | inr apart ↦
          let parts = both (is_none (rest_after (below common []) git)) (is_none (rest_after (below git []) common)) apart in
          inr (inr (record {
            differ = λ e. false≢true (sym differ ∙ same_test git common e);
            left_outside = is_outside git common (none_test (rest_after (below common []) git) parts.0);
            right_outside = is_outside common git (none_test (rest_after (below git []) common) parts.1);
          }))
    ]
  ]
]

-- What the code asks, one after the other.

-- a git folder below the common one
pub laid_below : (git common rest : Path) (worktree : Bool) → git ≢ common → git ≡ below common rest →
    (IsTrue worktree ↔ ((w : List ℕ) × NoByte 47 w × (rest ≡ codes "worktrees/" ++ w))) → IsTrue worktree ↔ AreCompatible git common
laid_below git common rest worktree differ is named = (to, from)
  where
    to : IsTrue worktree → AreCompatible git common
    to holds = let w = named.0 holds in inr (inl (w.0, w.1, is ∙ ap (below common) w.2))

    from : AreCompatible git common → IsTrue worktree
    from (inl same) = absurd (differ same)
    from (inr (inl r)) = named.1 (r.0, r.1, cancel_below common rest (codes "worktrees/" ++ r.0) (sym is ∙ r.2))
    from (inr (inr a)) = absurd (a.left_outside (rest, is))

-- the rest after the folder begins with a slash, or the path does not lie in the folder
pub rest_in : (path folder rest : Path) (o : Option (Bor Path)) → path ≡ folder ++ rest →
    MatchOption o ((tail : Path) → rest ≢ codes "/" ++ tail) (λ tail. rest ≡ codes "/" ++ tail.now) →
    MatchOption o (LiesIn path folder → ⊥) (λ tail. path ≡ below folder tail.now)
rest_in path folder rest None is none = λ lies. none lies.0 (cancel folder rest (47 ∷ lies.0) (sym is ∙ lies.1))
rest_in path folder rest (Some tail) is some = is ∙ ap (λ r. folder ++ r) some

-- Components, one after the other.

parts_more : (rest part after : List ℕ) → NoByte 47 part → rest ≡ part ++ 47 ∷ after → components rest ≡ part ∷ components after
parts_more rest part after none is = ap components is ∙ slice_split_at is_slash part 47 after (apart 47 part none) refl

-- the next one passes, and so all do where the others do
pub all_more : (passes : List ℕ → Bool) (rest part after : List ℕ) (all : Bool) → NoByte 47 part → rest ≡ part ++ 47 ∷ after → passes part ≡ true →
    list_all passes (components rest) ≡ all → list_all passes (components after) ≡ all
all_more passes rest part after all none is ok so_far = sym (ap (list_all passes) (parts_more rest part after none is) ∙ ap (λ b. b && list_all passes (components after)) ok) ∙ so_far

-- the last one decides
pub all_last : (passes : List ℕ → Bool) (rest : List ℕ) (all : Bool) → NoByte 47 rest → list_all passes (components rest) ≡ all → passes rest ≡ all
all_last passes rest all none so_far = sym (ap (list_all passes) (slice_split_none is_slash rest (apart 47 rest none)) ∙ last (passes rest)) ∙ so_far
  where
    last : (b : Bool) → (b && true) ≡ b
    last true = refl
    last false = refl
