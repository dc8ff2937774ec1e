-- Fields that are read one after the other.
use Rattle.std.proofs.Common.{◌≡◌, inl, inr, ℕ, suc, ◌+◌, ◌-◌, ◌<◌, length, arith, List, [], ◌∷◌, ◌++◌, Option, refl, sym, ◌∙◌, ap, append_assoc, append-nil}
use Rattle.std.specs.List.{flat_map}
use Rattle.std.specs.Io.KnownBytes.{IsAtEnd, Keeps}
use Rattle.gix_ref_theory.specs.Sequences.{AreDone}
use Rattle.gix_ref_theory.proofs.Sequences.{done_more}
use Rattle.gix_ref_session.specs.Input.{HearsField, HearsMore}

-- Further fields.

-- of so many fields, all were read but those that are left
pub record MoreSoFar (count left : ℕ) (old now : Option (List ℕ)) (text so_far : List ℕ) : Type 0 where
  pub more : List (List ℕ)
  pub are : AreDone (HearsField 0) more old now
  pub text_is : so_far ≡ text ++ flat_map (λ (field : List ℕ). 0 ∷ field) more
  pub count_is : length more + left ≡ count

pub none_yet : (count : ℕ) (old : Option (List ℕ)) (text : List ℕ) → MoreSoFar count count old old text text
none_yet count old text = record { more = []; are = refl; text_is = sym (append-nil text); count_is = omega arith }

flat_more : (more : List (List ℕ)) (field : List ℕ) → flat_map (λ (f : List ℕ). 0 ∷ f) (more ++ field ∷ []) ≡ flat_map (λ (f : List ℕ). 0 ∷ f) more ++ 0 ∷ field
flat_more [] field = append-nil (0 ∷ field)
flat_more (f ∷ more) field = ap (λ (w : List ℕ). (0 ∷ f) ++ w) (flat_more more field) ∙ sym (append_assoc (0 ∷ f) (flat_map (λ (g : List ℕ). 0 ∷ g) more) (0 ∷ field))

length_more : (more : List (List ℕ)) (field : List ℕ) → length (more ++ field ∷ []) ≡ length more + 1
length_more [] field = refl
length_more (f ∷ more) field = ap suc (length_more more field) ∙ omega arith

pub one_more : (count left : ℕ) (old now new : Option (List ℕ)) (text so_far field : List ℕ) → MoreSoFar count left old now text so_far → 0 < left → HearsField 0 field now new → (after : List ℕ) → after ≡ (so_far ++ 0 ∷ []) ++ field → MoreSoFar count (left - 1) old new text after
one_more count left old now new text so_far field b some hears after is = record {
  more = b.more ++ field ∷ [];
  are = done_more (HearsField 0) b.more field old now new b.are hears;
  text_is = (is ∙ (append_assoc so_far (0 ∷ []) field ∙ ap (λ (w : List ℕ). w ++ 0 ∷ field) b.text_is)) ∙ (append_assoc text (flat_map (λ (f : List ℕ). 0 ∷ f) b.more) (0 ∷ field) ∙ ap (λ (w : List ℕ). text ++ w) (sym (flat_more b.more field)));
  count_is = omega (arith, length_more b.more field, b.count_is, some);
}

pub all_read : (count left : ℕ) (old now : Option (List ℕ)) (text so_far : List ℕ) → MoreSoFar count left old now text so_far → left ≡ 0 → HearsMore count old now text so_far
all_read count left old now text so_far b none = record { more = b.more; mid = now; are = b.are; text_is = b.text_is; all = inl (omega (arith, b.count_is, none), refl) }

pub no_more : (count left : ℕ) (old now new : Option (List ℕ)) (text so_far : List ℕ) → MoreSoFar count left old now text so_far → 0 < left → IsAtEnd now × Keeps now new → HearsMore count old new text so_far
no_more count left old now new text so_far b some at = record { more = b.more; mid = now; are = b.are; text_is = b.text_is; all = inr (omega (arith, b.count_is, some), at.0, at.1) }
