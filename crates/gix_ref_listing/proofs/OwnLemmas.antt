-- Which records a listing gives.
use Rattle.std.proofs.Common.{◌≡◌, ℕ, Bool, true, false, ◌&&◌, if◌then◌else◌, List, ◌++◌, length, drop, refl, sym, ◌∙◌, ap, nat_eq, Option, Some, None, unwrap_or}
use Rattle.std.specs.Prelude.{bytes_eq, is_none}
use Rattle.std.specs.List.{starts_with}
use Rattle.std.specs.Option.{option_map}
use Rattle.std.proofs.Math.Seq.{drop-append_seam}
use Rattle.std.proofs.lemmas.Slice.Eq.{bytes_eq-Decides, starts_is}
use Rattle.std.proofs.lemmas.Bool.Decides.{Decides-eqb}
use Rattle.gix_ref_target.specs.Layout.{Layout}
use Rattle.gix_ref_target.specs.Locations.{Location, location, row_of, paths_at, key_outside, no_namespace}
use Rattle.gix_ref_target.specs.Locations.Location.{Common, ThisWorktree, MainWorktree, LinkedWorktree}
use Rattle.gix_ref_name.specs.NameGrammar.{partial_error, IsPartialName}
use Rattle.gix_ref_name.specs.declared.name.error.Error.{Error}
use Rattle.gix_ref_name.proofs.FrontLemmas.{begins_true}
use Rattle.gix_ref_theory.proofs.PlaceLaws.{cancel}
use Rattle.gix_ref_lookup.specs.Lookups.{meaning_in}
use Rattle.gix_ref_lookup.specs.StoreLayout.{namespace_text}
use Rattle.gix_ref_lookup.specs.declared.settings.Settings.{Settings}
use Rattle.gix_ref_listing.specs.OwnRecords.{own_name}
use Rattle.gix_ref_theory.specs.Edits.{is_key}

key_by : (f : Layout) (x : Location) → (row_of f x).key ≡ option_map (λ k. f.namespace ++ k) (row_of no_namespace x).key
key_by f (Common n) = refl
key_by f (ThisWorktree n) = refl
key_by f (MainWorktree n) = refl
key_by f (LinkedWorktree w n) = refl

-- a key is the namespace and the key outside of it
pub key_inside : (f : Layout) (name : List ℕ) → (paths_at f name).key ≡ option_map (λ k. f.namespace ++ k) (key_outside name)
key_inside f name = key_by f (unwrap_or (location name) (Common name))

same_bool : (a b : Bool) → (a ≡ true → b ≡ true) → (b ≡ true → a ≡ true) → a ≡ b
same_bool true b there back = sym (there refl)
same_bool false true there back = back refl
same_bool false false there back = refl

module _ (f : Layout) (name key : List ℕ) where
  pub key_is : (own rest : List ℕ) → key_outside name ≡ Some own → key ≡ f.namespace ++ rest → bytes_eq own rest ≡ is_key (paths_at f name).key key
  key_is own rest outside whole =
      let own_key = key_inside f name ∙ ap (option_map (λ k. f.namespace ++ k)) outside in
      let behind = bytes_eq-Decides own rest in
      let both = bytes_eq-Decides (f.namespace ++ own) key in
      same_bool (bytes_eq own rest) (bytes_eq (f.namespace ++ own) key)
      (λ same. both.1 (ap (λ r. f.namespace ++ r) (behind.0 same) ∙ sym whole))
      (λ same. behind.1 (cancel f.namespace own rest (both.0 same ∙ whole)))
      ∙ ap (λ k. is_key k key) (sym own_key)

  pub no_key : key_outside name ≡ None → false ≡ is_key (paths_at f name).key key
  no_key outside = ap (λ k. is_key k key) (sym (key_inside f name ∙ ap (option_map (λ k. f.namespace ++ k)) outside))

  pub other_key : (own : List ℕ) → key_outside name ≡ Some own → ((rest : List ℕ) → key ≡ f.namespace ++ rest → ⊥) → false ≡ is_key (paths_at f name).key key
  other_key own outside never =
      let own_key = key_inside f name ∙ ap (option_map (λ k. f.namespace ++ k)) outside in
      let both = bytes_eq-Decides (f.namespace ++ own) key in
      same_bool false (bytes_eq (f.namespace ++ own) key) (λ no. absurd (cc)) (λ same. absurd (never own (sym (both.0 same))))
      ∙ ap (λ k. is_key k key) (sym own_key)

abbrev pub choose : (a b c : Bool) → List ℕ → Option (List ℕ)
choose a b c name = if a && (b && c) then Some name else None

module _ (settings : Settings) (key : List ℕ) where
  N : List ℕ
  N = namespace_text settings.namespace.now

  -- the name inside of the namespace is the one that is asked for its key
  pub own_inside : (name : List ℕ) (b : Bool) → key ≡ namespace_text settings.namespace.now ++ name → IsPartialName name → is_key ((meaning_in settings).key name) key ≡ b →
      own_name settings key ≡ (if b then Some name else None)
  unfolding own_name
  own_inside name b whole valid is =
      let front = namespace_text settings.namespace.now in
      let K = (meaning_in settings).key in
      let here : drop (length front) key ≡ name = ap (drop (length front)) whole ∙ drop-append_seam front name in
      ap (λ a. choose a (is_none (partial_error (drop (length front) key))) (is_key (K (drop (length front) key)) key) (drop (length front) key)) (begins_true front key name whole)
      ∙ (ap (λ n. choose true (is_none (partial_error n)) (is_key (K n) key) n) here
      ∙ (ap (λ o. choose true (is_none o) (is_key (K name) key) name) valid
      ∙ ap (λ c. choose true true c name) is))

  -- a key outside of the namespace, or with no partial name inside of it, is not given
  pub not_inside : ((rest : List ℕ) → IsPartialName rest → key ≡ namespace_text settings.namespace.now ++ rest → ⊥) → own_name settings key ≡ None
  unfolding own_name
  not_inside never = by (starts_with nat_eq key front) refl
    where
      front : List ℕ
      front = namespace_text settings.namespace.now

      rest : List ℕ
      rest = drop (length front) key

      asked : Bool
      asked = is_key ((meaning_in settings).key rest) key

      by_error : (o : Option Error) → partial_error rest ≡ o → key ≡ front ++ rest → choose true (is_none o) asked rest ≡ None
      by_error None valid whole = absurd (never rest valid whole)
      by_error (Some error) bad whole = refl

      by : (b : Bool) → starts_with nat_eq key front ≡ b → choose b (is_none (partial_error rest)) asked rest ≡ None
      by false apart = refl
      by true begins = by_error (partial_error rest) refl ((starts_is Decides-eqb key front (starts_with nat_eq key front) refl).0 begins)
