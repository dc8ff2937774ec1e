-- The pseudo references that the walk of one folder finds.
use Rattle.std.proofs.Common.{◌≡◌, inl, inr, ⊎_elim, ℕ, Bool, true, false, cond, not, ◌&&◌, ◌||◌, ◌==◌, List, [], ◌∷◌, ◌++◌, refl, sym, ◌∙◌, ap, subst, arith}
use Rattle.std.specs.List.{All, filter, list_any}
use Rattle.std.specs.Prelude.{Vec, slice_index_or}
use Rattle.std.specs.declared.alloc.Global.{Global}
use Rattle.std.proofs.lemmas.List.Elements.{All-cons, All-head, All-tail}
use Rattle.gix_ref_hash.specs.Bytes.{BeginsWith, is_slash}
use Rattle.gix_ref_theory.specs.Views.{View}
use Rattle.gix_ref_lookup.specs.declared.settings.Settings.{Settings}
use Rattle.gix_ref_lookup.specs.Lookups.{meaning_in, name_asked, Among}
use Rattle.gix_ref_listing.specs.PlainSettings.{plain}
use Rattle.gix_ref_listing.specs.Walks.{Holds, FoundEntry, IsThereOr, IsInnerPath, IsBelow, IsLooseName}
use Rattle.gix_ref_listing.specs.Listings.{merged_listing}
use Rattle.gix_ref_listing.specs.PseudoListings.{is_head_file, is_kept, git_front, IsPseudoListed, IsPseudoFound, IsPseudoItem, IsPseudoListing}
use Rattle.gix_ref_listing.specs.declared.found.Found.TheVariants.{File, Unlisted}
use Rattle.gix_ref_listing.specs.declared.walk.Root.{Root}
use Rattle.gix_ref_listing.proofs.StoreWalks.{of_root}
use Rattle.gix_ref_listing.proofs.MergedListings.{FoundRises, all_merged, merged_rises, loose_merged}
use Rattle.gix_ref_listing.proofs.Listing.{by_recursion}

no_slash : (name : List ℕ) → is_head_file name ≡ true → list_any is_slash name ≡ false
no_slash name is = by _ (list_any is_slash name) is
  where
    by : (a b : Bool) → (a && not b) ≡ true → b ≡ false
    by a false h = refl
    by true true h = absurd (cc)
    by false true h = absurd (cc)

has_one : (front rest : List ℕ) → list_any is_slash ((front ++ 47 ∷ []) ++ rest) ≡ true
has_one [] rest = refl
has_one (x ∷ front) rest = or_true (x == 47) _ (has_one front rest)
  where
    or_true : (a b : Bool) → b ≡ true → (a || b) ≡ true
    or_true true b h = refl
    or_true false b h = h

not_both : (b : Bool) → b ≡ true → b ≡ false → ⊥
not_both b is is_not = let bad : false ≡ true = sym is_not ∙ is in absurd cc

-- a pseudo reference is in no inner folder
pub not_inner : (name : List ℕ) → is_head_file name ≡ true → (folders : List (Vec ℕ Global)) → All (λ f. IsInnerPath f.items) folders → IsBelow folders name → ⊥
not_inner name is [] all below = absurd below
not_inner name is (f ∷ folders) all below =
    ⊎_elim (λ (begins : BeginsWith name f.items).
    let inner = All-head (λ (g : Vec ℕ Global). IsInnerPath g.items) f folders all in
    not_both (list_any is_slash name) (ap (list_any is_slash) (begins.1 ∙ ap (λ t. t ++ begins.0) inner.1) ∙ has_one inner.0 begins.0) (no_slash name is))
    (λ later. not_inner name is folders (All-tail (λ (g : Vec ℕ Global). IsInnerPath g.items) f folders all) later) below

-- what holds such a name is kept
holder_kept : (name : List ℕ) → is_head_file name ≡ true → (e : FoundEntry) → Holds name e → is_kept e ≡ true
holder_kept name is (key, File n path) held = ap is_head_file held ∙ is
holder_kept name is (key, Unlisted path error) held = refl

pub kept_holds : (name : List ℕ) → is_head_file name ≡ true → (es : List FoundEntry) → Among (Holds name) es → Among (Holds name) (filter is_kept es)
kept_holds name is [] has = absurd has
kept_holds name is (e ∷ es) has = by (is_kept e) refl (kept_holds name is es)
  where
    by : (b : Bool) → is_kept e ≡ b → (Among (Holds name) es → Among (Holds name) (filter is_kept es)) → Among (Holds name) (cond b (e ∷ filter is_kept es) (filter is_kept es))
    by true kept more = ⊎_elim (λ here. inl here) (λ later. inr (more later)) has
    by false kept more = ⊎_elim (λ here. absurd (not_both (is_kept e) (holder_kept name is e here) kept)) (λ later. more later) has

-- what all had, and what each that is kept has
pub all_kept : (P Q : FoundEntry → Type 0) → ((e : FoundEntry) → P e → is_kept e ≡ true → Q e) → (es : List FoundEntry) → All P es → All Q (filter is_kept es)
all_kept P Q f [] all = λ k d below. absurd (omega (arith, below))
all_kept P Q f (e ∷ es) all = by (is_kept e) refl (all_kept P Q f es (All-tail P e es all))
  where
    by : (b : Bool) → is_kept e ≡ b → All Q (filter is_kept es) → All Q (cond b (e ∷ filter is_kept es) (filter is_kept es))
    by true kept more = All-cons Q e (filter is_kept es) (f e (All-head P e es all) kept) more
    by false kept more = more

module _ (root : Root) (settings : Settings) (view : View) (same_settings : root.settings ≡ settings) (same_path : root.path.now ≡ git_front settings) (same_prefix : root.prefix.now ≡ []) where
  -- a pseudo reference is a loose one of the folder
  pub pseudo_of_root : (name : List ℕ) → IsPseudoListed settings view name → IsLooseName root view name
  pseudo_of_root name listed = of_root root settings view [] (git_front settings) (inr refl) same_settings same_path same_prefix name listed.1

  -- and what is kept is one
  pseudo_found : (e : FoundEntry) → IsThereOr [] root view e → is_kept e ≡ true → IsPseudoFound settings view e
  pseudo_found e (inl none) kept = absurd none
  pseudo_found (key, File name path) (inr (named, file)) kept = (
    named,
    record {
      is = kept;
      file = record {
        front = git_front settings;
        of = inr refl;
        placed = record {
          valid = file.own.valid;
          begins = subst (BeginsWith key.items) same_prefix file.own.begins;
          own = ap (λ (s : Settings). (meaning_in s).place key.items) (sym same_settings) ∙ (file.own.own ∙ ap (λ p. p ++ key.items) same_path);
        };
        disk = file.disk;
        at = file.is ∙ ap (λ p. p ++ file.disk) same_path;
        asked = file.asked ∙ ap (λ (s : Settings). name_asked s.precompose_unicode file.disk) same_settings;
        there = file.there;
      };
      in_git = refl;
    },
  )
  pseudo_found (key, Unlisted path error) (inr (other, at)) kept = (other, at ∙ ap (λ p. p ++ key.items) same_path)

  pub all_pseudo : (es : List FoundEntry) → All (IsThereOr [] root view) es → All (IsPseudoFound settings view) (filter is_kept es)
  all_pseudo es all = all_kept (IsThereOr [] root view) (IsPseudoFound settings view) pseudo_found es all

-- where settings lie does not matter
pub pseudo_of_plain : (s : Settings) (view : View) (name : List ℕ) → IsPseudoListed (plain s) view name → IsPseudoListed s view name
pseudo_of_plain s view name (is, loose) = (
  is,
  record {
    placed = record { valid = loose.placed.valid; begins = loose.placed.begins; own = loose.placed.own };
    composed = loose.composed;
    there = loose.there;
  },
)

found_plain : (s : Settings) (view : View) (e : FoundEntry) → IsPseudoFound s view e → IsPseudoFound (plain s) view e
found_plain s view (key, File name path) (named, of) = (
  named,
  record {
    is = of.is;
    file = record {
      front = of.file.front;
      of = of.file.of;
      placed = record { valid = of.file.placed.valid; begins = of.file.placed.begins; own = of.file.placed.own };
      disk = of.file.disk;
      at = of.file.at;
      asked = of.file.asked;
      there = of.file.there;
    };
    in_git = of.in_git;
  },
)
found_plain s view (key, Unlisted path error) found = found

-- what was found is the listing
pub pseudo_listing : (s : Settings) (view : View) (es : List FoundEntry) → FoundRises es → ((name : List ℕ) → IsPseudoListed s view name → Among (Holds name) es) → All (IsPseudoFound s view) es →
    IsPseudoListing (plain s) view (merged_listing es [])
pseudo_listing s view es rises finds found = record {
  ascending = merged_rises es [] rises _;
  each = λ name listed. loose_merged name es [] (finds name (pseudo_of_plain s view name listed));
  only = all_merged (IsPseudoItem (plain s) view) es [] (by_recursion (IsPseudoFound (plain s) view) es (λ k d below. found_plain s view (slice_index_or es k d) (found k d below))) _;
}
