-- A lookup of a composed name, as it is given.
use Rattle.std.proofs.Common.{◌≡◌, ◌≢◌, ℕ, List, Option, Some, None, Bool, true, false, if◌then◌else◌, nat_eq, Result, Ok, Err, IfOk, MatchOption, MatchResult, refl, sym, ◌∙◌, ap, subst}
use Rattle.std.specs.Option.{option_map}
use Rattle.std.specs.Cmp.Lexicographic.{pointwise, same_text, other_text}
use Rattle.gix_ref_name.specs.Names.{full_bytes}
use Rattle.gix_ref_target.specs.Targets.{target_value}
use Rattle.gix_ref_name.specs.ComposedNames.{decomposed}
use Rattle.gix_ref_theory.specs.Lookups.{Hit}
use Rattle.gix_ref_theory.specs.Readings.Reading.{Is}
use Rattle.gix_ref_packed_text.specs.declared.raw.Reference.{Reference}
use Rattle.gix_ref_files.specs.declared.files.ReadAt.{Ghosts}
use Rattle.gix_ref_theory.specs.Views.{View}
use Rattle.gix_ref_lookup.specs.Lookups.{ReturnsHit, Finds, IsSound, Among, IsHit, IsHitOf, IsNamed, IsGivenOf, asked_names, name_asked, name_given, hit_given}
use Rattle.gix_ref_lookup.specs.declared.settings.Settings.{Settings}
use Rattle.gix_ref_lookup.specs.declared.find.records.Records.{Records as Asked}
use Rattle.gix_ref_lookup.specs.declared.find.error.Error.{Error}
use Rattle.gix_ref_lookup.specs.declared.find.error.Error.TheVariants.{Memory}

-- the name of a hit is given as it is where the name was asked as it is, else decomposed
pub given_same : (p name : List ℕ) → name_given p p name ≡ name
given_same p name = go (pointwise nat_eq p p) refl
  where
    go : (v : Bool) → v ≡ pointwise nat_eq p p → name_given p p name ≡ name
    go true is = ap (λ v. if v then name else decomposed name) (sym is)
    go false is = absurd (other_text p p is refl)

pub given_other : (asked p name : List ℕ) → asked ≢ p → name_given asked p name ≡ decomposed name
given_other asked p name other = go (pointwise nat_eq asked p) refl
  where
    go : (v : Bool) → v ≡ pointwise nat_eq asked p → name_given asked p name ≡ decomposed name
    go true is = absurd (other (same_text asked p is))
    go false is = ap (λ v. if v then name else decomposed name) (sym is)

pub named_same : (p : List ℕ) (r : Reference) → IsNamed (name_given p p) r r
named_same p r = record { name = sym (given_same p (full_bytes r.name)); target = refl; peeled = refl }

pub answers_same : (p : List ℕ) (hit : Option Hit) (found : Option Reference) → ReturnsHit hit found → ReturnsHit (option_map (hit_given p p) hit) found
answers_same p None None is = tt
answers_same p (Some hit) (Some r) is = (is.0 ∙ sym (given_same p hit.name), is.1, is.2)
answers_same p None (Some r) is = absurd is
answers_same p (Some hit) None is = absurd is

answers_named : (asked p : List ℕ) → asked ≢ p → (hit : Option Hit) (found given : Reference) → IsNamed decomposed found given →
    ReturnsHit hit (Some found) → ReturnsHit (option_map (hit_given asked p) hit) (Some given)
answers_named asked p other None found given named is = absurd is
answers_named asked p other (Some hit) found given named is = (
  named.name ∙ (ap decomposed is.0 ∙ sym (given_other asked p hit.name other)),
  is.1 ∙ ap (λ t. Is (target_value t)) (sym named.target),
  named.peeled ∙ is.2,
)

none_given : (form : Hit → Hit) (hit : Option Hit) → ReturnsHit hit None → ReturnsHit (option_map form hit) None
none_given form None is = tt
none_given form (Some hit) is = absurd is

-- what was found for a name that is asked as it is
pub hit_as_asked : {R : Type 0} {G : Ghosts R} (composes : Bool) (settings : Settings) (view : View) (records : Asked R G) (p : List ℕ) → name_asked composes p ≡ p → (r : Reference) →
    Among (λ n. IsHit settings view records n r) (asked_names p) → IsHitOf composes settings view records p r
hit_as_asked composes settings view records p as_is r hit = (
  r,
  subst (λ asked. Among (λ n. IsHit settings view records n r) (asked_names asked)) (sym as_is) hit,
  subst (λ asked. IsNamed (name_given asked p) r r) (sym as_is) (named_same p r),
)

-- what is said of what was found is said of what is given
pub given_answers : (asked p : List ℕ) → asked ≢ p → (hit : Option Hit) (found given : Result (Option Reference) Error) → IsGivenOf found given →
    Finds hit found → Finds (option_map (hit_given asked p) hit) given
given_answers asked p other hit (Ok (Some r)) (Ok (Some g)) named is = answers_named asked p other hit r g named is
given_answers asked p other hit (Ok (Some r)) (Err e) memory is = subst IsSound (sym memory) tt
given_answers asked p other hit (Ok (Some r)) (Ok None) none is = absurd none
given_answers asked p other hit (Ok None) given none is = subst (Finds (option_map (hit_given asked p) hit)) (sym none) (none_given (hit_given asked p) hit is)
given_answers asked p other hit (Err e) given failed is = subst (Finds (option_map (hit_given asked p) hit)) (sym failed) is

pub given_seen : (asked p : List ℕ) → asked ≢ p → (N : Type 0) (P Q : Reference → Type 0) (found given : Result (Option Reference) Error) → IsGivenOf found given →
    ((r g : Reference) → P r → IsNamed (name_given asked p) r g → Q g) → IfOk found (λ r. MatchOption r N P) → IfOk given (λ r. MatchOption r N Q)
given_seen asked p other N P Q (Ok (Some r)) (Ok (Some g)) named wider is =
    wider r g is (record { name = named.name ∙ sym (given_other asked p (full_bytes r.name) other); target = named.target; peeled = named.peeled })
given_seen asked p other N P Q (Ok (Some r)) (Err e) memory wider is = tt
given_seen asked p other N P Q (Ok (Some r)) (Ok None) none wider is = absurd none
given_seen asked p other N P Q (Ok None) given none wider is = subst (λ g. IfOk g (λ r. MatchOption r N Q)) (sym none) is
given_seen asked p other N P Q (Err e) given failed wider is = subst (λ g. IfOk g (λ r. MatchOption r N Q)) (sym failed) tt

pub given_err : (S : Type 0) (P : Error → Type 0) → P Memory → (found given : Result (Option Reference) Error) → IsGivenOf found given → MatchResult found (λ r. S) P → MatchResult given (λ r. S) P
given_err S P memory (Ok (Some r)) (Ok (Some g)) named is = is
given_err S P memory (Ok (Some r)) (Err e) no_memory is = subst P (sym no_memory) memory
given_err S P memory (Ok (Some r)) (Ok None) none is = absurd none
given_err S P memory (Ok None) given none is = subst (λ g. MatchResult g (λ r. S) P) (sym none) is
given_err S P memory (Err e) given failed is = subst (λ g. MatchResult g (λ r. S) P) (sym failed) is
