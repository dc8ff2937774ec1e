-- The walks of the folders of a store.
use Rattle.std.proofs.Common.{◌≡◌, ◌≢◌, inl, ⊎_elim, ℕ, List, [], ◌∷◌, ◌++◌, sym, ◌∙◌, ap, subst, append_assoc, IsSome, length, arith}
use Rattle.std.specs.List.{All}
use Rattle.gix_ref_hash.specs.Bytes.{BeginsWith}
use Rattle.gix_ref_target.specs.Layout.{below}
use Rattle.gix_ref_theory.specs.Views.{View}
use Rattle.gix_ref_lookup.specs.Lookups.{meaning_in, name_asked, Among}
use Rattle.gix_ref_lookup.specs.StoreLayout.{folders_of}
use Rattle.gix_ref_lookup.specs.declared.settings.Settings.{Settings}
use Rattle.gix_ref_listing.specs.Walks.{Holds, StaysFound, FoundEntry, IsFolderPath, IsRootPath, IsLooseName, IsThere, IsThereOr}
use Rattle.gix_ref_listing.specs.LooseListings.{front_in, IsLooseListed, IsFront, LooseIn, IsFoundIn}
use Rattle.gix_ref_listing.specs.declared.found.Found.TheVariants.{File, Unlisted}
use Rattle.gix_ref_listing.specs.declared.walk.Root.{Root}
use Rattle.gix_ref_listing.proofs.WalkLemmas.{among_all, among_at}

-- a folder, a slash and a namespace end in a slash
pub root_front : (folder namespace front : List ℕ) → folder ≢ [] → IsFolderPath namespace → front ≡ below folder namespace → IsRootPath front
root_front folder namespace front some ends is =
    ⊎_elim (λ (none : namespace ≡ []). (folder, some, is ∙ ap (λ n. folder ++ 47 ∷ n) none))
    (λ (inner : (f : List ℕ) × (namespace ≡ f ++ 47 ∷ [])). (folder ++ 47 ∷ inner.0, no_nil folder inner.0, is ∙ (ap (λ n. folder ++ 47 ∷ n) inner.1 ∙ sym (append_assoc folder (47 ∷ inner.0) (47 ∷ []))))) ends
  where
    no_nil : (p c : List ℕ) → p ++ 47 ∷ c ≢ []
    no_nil [] c h = cc
    no_nil (x ∷ p) c h = cc

module _ (root : Root) (settings : Settings) (view : View) (prefix front : List ℕ) (of : IsFront settings front) (same_settings : root.settings ≡ settings) (same_path : root.path.now ≡ front) (same_prefix : root.prefix.now ≡ prefix) where
  -- a name that the store lists is one of the root
  pub of_root : (name : List ℕ) → LooseIn settings view prefix front name → IsLooseName root view name
  of_root name loose = (
    (
      record {
        valid = loose.placed.valid;
        begins = subst (BeginsWith name) (sym same_prefix) loose.placed.begins;
        own = ap (λ (s : Settings). (meaning_in s).place name) same_settings ∙ (loose.placed.own ∙ ap (λ p. p ++ name) (sym same_path));
      },
      ap (λ (s : Settings). name_asked s.precompose_unicode name) same_settings ∙ loose.composed,
    ),
    subst (λ p. IsSome (view (p ++ name))) (sym same_path) loose.there,
  )

  -- and what the root found is of the store
  pub of_store : (e : FoundEntry) → IsThere root view e → IsFoundIn settings view prefix e
  of_store (key, File name path) (named, file) = (
    named,
    record {
      front = front;
      of = of;
      placed = record {
        valid = file.own.valid;
        begins = subst (BeginsWith key.items) same_prefix file.own.begins;
        own = ap (λ (s : Settings). (meaning_in s).place key.items) (sym same_settings) ∙ (file.own.own ∙ ap (λ p. p ++ key.items) same_path);
      };
      disk = file.disk;
      at = file.is ∙ ap (λ p. p ++ file.disk) same_path;
      asked = file.asked ∙ ap (λ (s : Settings). name_asked s.precompose_unicode file.disk) same_settings;
      there = file.there;
    },
  )
  of_store (key, Unlisted path error) (other, at) = (other, (front, of, at ∙ ap (λ p. p ++ key.items) same_path))

  either_store : (es : List FoundEntry) → ((e : FoundEntry) → Among (λ o. o ≡ e) es → IsFoundIn settings view prefix e) → (e : FoundEntry) → IsThereOr es root view e → IsFoundIn settings view prefix e
  either_store es old e has = ⊎_elim (old e) (of_store e) has

  pub all_store : (es new : List FoundEntry) → All (IsFoundIn settings view prefix) es → (All (IsThereOr es root view) es → All (IsThereOr es root view) new) → All (IsFoundIn settings view prefix) new
  all_store es new old walked = λ k d below. either_store es (λ e has. among_all (IsFoundIn settings view prefix) es old e has) _ (walked (λ i x under. inl (among_at es i x under)) k d below)

-- a name of either folder is found
pub found_either : (settings : Settings) (view : View) (prefix : List ℕ) (mid new : List FoundEntry) → let f = folders_of settings.dirs.now settings.namespace.now in
    ((name : List ℕ) → LooseIn settings view prefix (front_in settings f.common) name → Among (Holds name) mid) →
    StaysFound mid new → ((name : List ℕ) → LooseIn settings view prefix (front_in settings f.git) name → Among (Holds name) new) →
    (name : List ℕ) → IsLooseListed settings view prefix name → Among (Holds name) new
found_either settings view prefix mid new first stays second name (front, of, loose) =
    ⊎_elim (λ is. stays name (first name (subst (λ p. LooseIn settings view prefix p name) is loose)))
    (λ is. second name (subst (λ p. LooseIn settings view prefix p name) is loose)) of

pub all_none : {A : Type 0} (P : A → Type 0) (xs : List A) → length xs ≡ 0 → All P xs
all_none P xs none = λ k d below. absurd (omega (arith, none, below))
