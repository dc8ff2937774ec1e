-- How a namespace grows, component by component.
use Rattle.std.proofs.Common.{◌≡◌, ◌⊎◌, inl, inr, ℕ, true, List, [], ◌∷◌, ◌++◌, refl, sym, ◌∙◌, ap, subst, codes, nat_eq, append_assoc}
use Rattle.std.specs.List.{flat_map, starts_with, ends_with}
use Rattle.std.proofs.lemmas.List.{append-nil}
use Rattle.std.proofs.lemmas.List.Splits.{slice_split_none}
use Rattle.std.proofs.lemmas.Slice.Eq.{ends_is}
use Rattle.std.proofs.lemmas.Bool.Decides.{Decides-eqb}
use Rattle.gix_ref_hash.specs.Bytes.{BeginsWith, NoByte, is_slash, components}
use Rattle.gix_ref_name.specs.NameGrammar.{IsPartialName}
use Rattle.gix_ref_name.specs.Namespaces.{expanded, expanded_component}
use Rattle.gix_ref_hash.proofs.ByteLemmas.{apart, no_byte}
use Rattle.gix_ref_name.proofs.FrontLemmas.{begins_true}
use Rattle.gix_ref_name.proofs.PartialNames.{IsComponent, behind_component, cut}

-- a partial name after the text is one
abbrev pub KeepsNames : List ℕ → Type 0
KeepsNames bytes = (n : List ℕ) → IsPartialName n → IsPartialName (bytes ++ n)

pub refs_component : IsComponent (codes "refs")
refs_component = record {
  some = refl;
  valid = refl;
  no_slash = no_byte 47 (codes "refs") refl;
  dotted = refl;
  dots = refl;
  locked = refl;
  portion = refl;
}

namespaces_component : IsComponent (codes "namespaces")
namespaces_component = record {
  some = refl;
  valid = refl;
  no_slash = no_byte 47 (codes "namespaces") refl;
  dotted = refl;
  dots = refl;
  locked = refl;
  portion = refl;
}

component_keeps : (c n : List ℕ) → IsComponent c → IsPartialName n → IsPartialName (expanded_component c ++ n)
component_keeps c n is valid =
    let inner = behind_component c n is valid in
    let whole = behind_component (codes "refs") (codes "namespaces/" ++ (c ++ 47 ∷ n)) refs_component (behind_component (codes "namespaces") (c ++ 47 ∷ n) namespaces_component inner) in
    subst IsPartialName (ap (λ v. codes "refs/namespaces/" ++ v) (sym (append_assoc c (codes "/") n))) whole

pub keeps_more : (bytes next c : List ℕ) → KeepsNames bytes → IsComponent c → next ≡ bytes ++ expanded_component c → KeepsNames next
keeps_more bytes next c keeps is e =
    λ n valid.
    subst IsPartialName (sym (ap (λ v. v ++ n) e ∙ append_assoc bytes (expanded_component c) n)) (keeps (expanded_component c ++ n) (component_keeps c n is valid))

pub keeps_none : (bytes : List ℕ) → bytes ≡ [] → KeepsNames bytes
keeps_none bytes e = λ n valid. subst IsPartialName (sym (ap (λ v. v ++ n) e)) valid

-- the text is empty or begins as a namespace does
abbrev pub Begun : List ℕ → Type 0
Begun bytes = (bytes ≡ []) ⊎ BeginsWith bytes (codes "refs/namespaces/")

pub begins_more : (bytes next c : List ℕ) → Begun bytes → next ≡ bytes ++ expanded_component c → BeginsWith next (codes "refs/namespaces/")
begins_more bytes next c (inl none) e = (c ++ codes "/", e ∙ ap (λ v. v ++ expanded_component c) none)
begins_more bytes next c (inr (rest, begins)) e =
    (rest ++ expanded_component c, e ∙ ap (λ v. v ++ expanded_component c) begins)

pub begins_test : (bytes : List ℕ) → BeginsWith bytes (codes "refs/namespaces/") → starts_with nat_eq bytes (codes "refs/namespaces/") ≡ true
begins_test bytes (rest, begins) = begins_true (codes "refs/namespaces/") bytes rest begins

pub ends_test : (bytes next c : List ℕ) → next ≡ bytes ++ expanded_component c → ends_with nat_eq next (codes "/") ≡ true
ends_test bytes next c e =
    (ends_is Decides-eqb next (codes "/") (ends_with nat_eq next (codes "/")) refl).1 (bytes ++ (codes "refs/namespaces/" ++ c))
    (e ∙ sym (append_assoc bytes (codes "refs/namespaces/" ++ c) (codes "/")))

pub value_more : (bytes next rest c after all : List ℕ) → NoByte 47 c → rest ≡ c ++ 47 ∷ after → next ≡ bytes ++ expanded_component c → bytes ++ expanded rest ≡ all → next ++ expanded after ≡ all
value_more bytes next rest c after all none whole e was =
    ap (λ v. v ++ expanded after) e
    ∙ append_assoc bytes (expanded_component c) (expanded after)
    ∙ ap (λ v. bytes ++ flat_map expanded_component v) (sym (ap components whole ∙ cut c after none))
    ∙ was

pub value_last : (bytes next rest all : List ℕ) → NoByte 47 rest → next ≡ bytes ++ expanded_component rest → bytes ++ expanded rest ≡ all → next ≡ all
value_last bytes next rest all none e was =
    let one : components rest ≡ rest ∷ [] = slice_split_none is_slash rest (apart 47 rest none) in
    e ∙ ap (λ v. bytes ++ v) (sym (ap (flat_map expanded_component) one ∙ append-nil (expanded_component rest))) ∙ was
