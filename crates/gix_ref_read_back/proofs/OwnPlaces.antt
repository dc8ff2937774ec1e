-- Names below `refs/`, and names whose own key they are, have their own places.
use Rattle.std.proofs.Common.{◌≡◌, ◌⊎◌, inl, inr, ℕ, Bool, true, false, List, ◌∷◌, ◌++◌, refl, sym, ◌∙◌, ap, Option, Some, None, codes, if◌then◌else◌, append_assoc}
use Rattle.std.specs.Prelude.{is_some, unwrap_or}
use Rattle.std.specs.List.{list_all}
use Rattle.gix_ref_hash.specs.Bytes.{BeginsWith}
use Rattle.gix_ref_name.specs.NameGrammar.{is_pseudo_byte}
use Rattle.gix_ref_target.specs.Layout.{Layout, below, is_private_ref}
use Rattle.gix_ref_target.specs.Locations.{Location, location, location_unless, row_of, rest_after}
use Rattle.gix_ref_target.specs.Locations.Location.{Common, ThisWorktree, MainWorktree, LinkedWorktree}
use Rattle.gix_ref_theory.specs.Readings.{Store}
use Rattle.gix_ref_lookup.specs.Lookups.{meaning_in}
use Rattle.gix_ref_lookup.specs.StoreLayout.{folders_of}
use Rattle.gix_ref_lookup.specs.declared.settings.Settings.{Settings}
use Rattle.gix_ref_listing.specs.LooseListings.{IsFront, front_in}
use Rattle.gix_ref_listing.specs.WholeListings.{key_in}

by_tests : (name : List ℕ) (pseudo private : Bool) (rest : Option (List ℕ)) → is_some rest ≡ true →
    (location_unless (if pseudo then Some (ThisWorktree name) else if is_some rest then (if private then Some (ThisWorktree name) else Some (Common name)) else None) name ≡ Some (ThisWorktree name))
    ⊎ (location_unless (if pseudo then Some (ThisWorktree name) else if is_some rest then (if private then Some (ThisWorktree name) else Some (Common name)) else None) name ≡ Some (Common name))
by_tests name true private rest some = inl refl
by_tests name false true (Some rest) some = inl refl
by_tests name false false (Some rest) some = inr refl
by_tests name false private None some = absurd (cc)

-- a name below `refs/` belongs to all worktrees, or to this one
near : (name : List ℕ) → BeginsWith name (codes "refs/") → (location name ≡ Some (ThisWorktree name)) ⊎ (location name ≡ Some (Common name))
near name (rest, is) =
    by_tests name (list_all is_pseudo_byte name) (is_private_ref name) (rest_after (codes "refs/") name) (ap (λ n. is_some (rest_after (codes "refs/") n)) is)

none_is_some : (key : List ℕ) → None ≡ Some key → ⊥
none_is_some key is = cc

same_key : (a b : List ℕ) → Some a ≡ Some b → a ≡ b
same_key a b is = cc

-- after the namespace in a folder
behind : (folder namespace name : List ℕ) → below folder (namespace ++ name) ≡ below folder namespace ++ name
behind folder namespace name = sym (append_assoc folder (47 ∷ namespace) name)

module _ (settings : Settings) where
  abbrev s : Store
  s = meaning_in settings

  abbrev f : Layout
  f = folders_of settings.dirs.now settings.namespace.now

  abbrev HasOwnPlace : List ℕ → Type 0
  HasOwnPlace name = (front : List ℕ) × IsFront settings front × (s.place name ≡ front ++ name)

  in_common_folder : (name : List ℕ) → s.place name ≡ below f.common (f.namespace ++ name) → HasOwnPlace name
  in_common_folder name is = (front_in settings f.common, inl refl, is ∙ behind f.common f.namespace name)

  pub own_place : (name : List ℕ) → BeginsWith name (codes "refs/") → HasOwnPlace name
  own_place name begins = go (near name begins)
    where
      go : (location name ≡ Some (ThisWorktree name)) ⊎ (location name ≡ Some (Common name)) → HasOwnPlace name
      go (inl is) = (front_in settings f.git, inr refl, ap (λ l. (row_of f (unwrap_or l (Common name))).place) is ∙ behind f.git f.namespace name)
      go (inr is) = in_common_folder name (ap (λ l. (row_of f (unwrap_or l (Common name))).place) is)

  -- its key is its own, if it has one
  pub own_key : (name key : List ℕ) → BeginsWith name (codes "refs/") → s.key name ≡ Some key → s.key name ≡ Some (key_in settings name)
  own_key name key begins has = go (near name begins)
    where
      go : (location name ≡ Some (ThisWorktree name)) ⊎ (location name ≡ Some (Common name)) → s.key name ≡ Some (key_in settings name)
      go (inl is) = absurd (none_is_some key (sym (ap (λ l. (row_of f (unwrap_or l (Common name))).key) is) ∙ has))
      go (inr is) = ap (λ l. (row_of f (unwrap_or l (Common name))).key) is

  -- a name whose own key it is has its own place
  pub place_of_own_key : (name : List ℕ) → s.key name ≡ Some (key_in settings name) → HasOwnPlace name
  place_of_own_key name has = go (unwrap_or (location name) (Common name)) refl
    where
      go : (l : Location) → unwrap_or (location name) (Common name) ≡ l → HasOwnPlace name
      go (Common n) is =
          let same = same_key (f.namespace ++ n) (f.namespace ++ name) (sym (ap (λ l. (row_of f l).key) is) ∙ has) in
          in_common_folder name (ap (λ l. (row_of f l).place) is ∙ ap (below f.common) same)
      go (ThisWorktree n) is = absurd (none_is_some (key_in settings name) (sym (ap (λ l. (row_of f l).key) is) ∙ has))
      go (MainWorktree n) is = absurd (none_is_some (key_in settings name) (sym (ap (λ l. (row_of f l).key) is) ∙ has))
      go (LinkedWorktree w n) is = absurd (none_is_some (key_in settings name) (sym (ap (λ l. (row_of f l).key) is) ∙ has))
