-- Texts with and without a front, and names inside of a namespace.
use Rattle.std.proofs.Common.{◌≡◌, ◌≢◌, ℕ, Bool, true, false, List, ◌++◌, refl, ◌∙◌, ap, cond, nat_eq, length, take, drop, Option, Some, None}
use Rattle.std.specs.List.{starts_with}
use Rattle.std.specs.Option.{is_none, is_some}
use Rattle.std.proofs.lemmas.List.{drop_at, take_at}
use Rattle.std.proofs.lemmas.Slice.Eq.{starts_is}
use Rattle.std.proofs.lemmas.Bool.Decides.{Decides-eqb}
use Rattle.gix_ref_name.specs.declared.name.error.Error.{Error}
use Rattle.gix_ref_hash.specs.Bytes.{without_front, with_front}
use Rattle.gix_ref_name.specs.NameGrammar.{partial_error, IsPartialName}
use Rattle.gix_ref_name.specs.Namespaces.{stripped}

pub begins_true : (p s r : List ℕ) → s ≡ p ++ r → starts_with nat_eq s p ≡ true
begins_true p s r e = (starts_is Decides-eqb s p (starts_with nat_eq s p) refl).1 r e

-- a text that begins with no front
pub begins_false : (p s : List ℕ) → ((r : List ℕ) → s ≢ p ++ r) → starts_with nat_eq s p ≡ false
begins_false p s never = go (starts_with nat_eq s p) refl
  where
    go : (b : Bool) → starts_with nat_eq s p ≡ b → starts_with nat_eq s p ≡ false
    go true begins = absurd (never (drop (length p) s) ((starts_is Decides-eqb s p (starts_with nat_eq s p) refl).0 begins))
    go false apart = apart

pub without-append : (p s r : List ℕ) → s ≡ p ++ r → without_front p s ≡ r
unfolding without_front
without-append p s r e =
    ap (λ b. cond b (drop (length p) s) s) (begins_true p s r e) ∙ ap (drop (length p)) e ∙ drop_at p r (length p) refl

pub without-none : (p s : List ℕ) → ((r : List ℕ) → s ≢ p ++ r) → without_front p s ≡ s
unfolding without_front
without-none p s never = ap (λ b. cond b (drop (length p) s) s) (begins_false p s never)

pub with-has : (f t : List ℕ) → starts_with nat_eq t f ≡ true → with_front f t ≡ t
unfolding with_front
with-has f t has = ap (λ b. cond b t (f ++ t)) has

pub with-new : (f t : List ℕ) → starts_with nat_eq t f ≡ false → with_front f t ≡ f ++ t
unfolding with_front
with-new f t new = ap (λ b. cond b t (f ++ t)) new

-- a name in the namespace whose rest is a name
pub stripped-append : (p s r : List ℕ) → s ≡ p ++ r → IsPartialName r → stripped p s ≡ r
unfolding stripped
stripped-append p s r e valid =
    let rest = without-append p s r e in
    ap (λ v. cond (is_none (partial_error v)) v s) rest ∙ ap (λ v. cond (is_none v) r s) valid

-- one whose rest is not a valid name
pub stripped-bad : (p s r : List ℕ) → s ≡ p ++ r → is_some (partial_error r) ≡ true → stripped p s ≡ s
unfolding stripped
stripped-bad p s r e bad =
    let rest = without-append p s r e in
    ap (λ v. cond (is_none (partial_error v)) v s) rest ∙ go (partial_error r) bad
  where
    go : (o : Option Error) → is_some o ≡ true → cond (is_none o) r s ≡ s
    go None some = absurd (cc)
    go (Some x) some = refl

-- a name outside
pub stripped-none : (p s : List ℕ) → ((r : List ℕ) → s ≢ p ++ r) → stripped p s ≡ s
unfolding stripped
stripped-none p s never = ap (λ v. cond (is_none (partial_error v)) v s) (without-none p s never) ∙ go (is_none (partial_error s))
  where
    go : (b : Bool) → cond b s s ≡ s
    go true = refl
    go false = refl

-- what is after a front, moved to the start
pub moved_front : (p s r : List ℕ) → s ≡ p ++ r → take (length r) (drop (length p) s ++ take (length p) s) ≡ r
moved_front p s r e =
    ap (λ v. take (length r) (v ++ take (length p) s)) (ap (drop (length p)) e ∙ drop_at p r (length p) refl) ∙ take_at r (take (length p) s) (length r) refl
