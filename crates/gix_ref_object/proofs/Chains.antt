-- One step over a chain of tags, and what each report of it says of the whole chain.
use Rattle.std.proofs.Common.{ℕ, suc, ◌≡◌, ◌+◌, ◌-◌, ◌<◌, ◌≤◌, Option, Result, Some, None, Ok, Err, refl, sym, ◌∙◌, ap, subst, arith}
use Rattle.gix_ref_hash.specs.declared.hash.ObjectId.{ObjectId}
use Rattle.gix_ref_object.specs.declared.object.Kind.TheVariants.{Commit, Tree, Blob, Tag}
use Rattle.gix_ref_object.specs.declared.peel.PeelError.{PeelError}
use Rattle.gix_ref_object.specs.declared.peel.PeelError.TheVariants as peeling
use Rattle.gix_ref_object.specs.Objects.{Stored}
use Rattle.gix_ref_object.specs.Objects.Stored.{Object, Absent, Faulty}
use Rattle.gix_ref_object.specs.Peeling.{Peeled, onward, step, walk, PeelsTo, Continues, TagTo, Chain, IsNoTag}
use Rattle.gix_ref_object.specs.Peeling.Peeled.{End, TooLong}

-- ---- the whole chain
walk_at : (m : ObjectId → Stored) (k : ℕ) (at : ObjectId) → k < 1001 → walk m (1001 - k) at ≡ step at (walk m (1001 - (k + 1))) (m at)
unfolding walk
walk_at m k at h = let e : 1001 - k ≡ suc (1001 - (k + 1)) = omega arith in ap (λ n. walk m n at) e

-- after k objects the walk is at this id, where the finder claims what it means
abbrev pub Walks : Type 0 → (ObjectId → Stored) → ObjectId → ℕ → ObjectId → Type 0
Walks Claims m id k at = Claims → walk m 1001 id ≡ walk m (1001 - k) at

-- what one call says, in whatever way the walk goes on
abbrev pub Says : Type 0 → (ObjectId → Stored) → ObjectId → Result (Option ObjectId) PeelError → Type 0
Says Claims m at r = Claims → (more : ObjectId → Peeled) → Continues at more (step at more (m at)) r

pub walks_on : (C : Type 0) (m : ObjectId → Stored) (id : ObjectId) (k : ℕ) (at next : ObjectId) → k < 1001 → Walks C m id k at → Says C m at (Ok (Some next)) → Walks C m id (k + 1) next
walks_on C m id k at next within was says = λ c. was c ∙ walk_at m k at within ∙ says c (walk m (1001 - (k + 1)))

pub walks_to : (C : Type 0) (m : ObjectId → Stored) (id : ObjectId) (k : ℕ) (at : ObjectId) → k < 1001 → Walks C m id k at → Says C m at (Ok None) → C → PeelsTo (walk m 1001 id) (Ok at)
walks_to C m id k at within was says = λ c.
    let e : walk m 1001 id ≡ End at = was c ∙ walk_at m k at within ∙ says c (walk m (1001 - (k + 1))) in
    subst (λ p. PeelsTo p (Ok at)) (sym e) refl

pub walks_into : (C : Type 0) (m : ObjectId → Stored) (id : ObjectId) (k : ℕ) (at : ObjectId) (error : PeelError) → k < 1001 → Walks C m id k at → Says C m at (Err error) → C → PeelsTo (walk m 1001 id) (Err error)
walks_into C m id k at error within was says = λ c.
    subst (λ p. PeelsTo p (Err error)) (sym (was c ∙ walk_at m k at within)) (says c (walk m (1001 - (k + 1))))

walk_none : (m : ObjectId → Stored) (at : ObjectId) → walk m 0 at ≡ TooLong
unfolding walk
walk_none m at = refl

pub too_long : (C : Type 0) (m : ObjectId → Stored) (id : ObjectId) (k : ℕ) (at : ObjectId) → k ≡ 1001 → Walks C m id k at → C → PeelsTo (walk m 1001 id) (Err peeling.TagChainTooLong)
too_long C m id k at past was = λ c.
    let e : walk m 1001 id ≡ TooLong = was c ∙ ap (λ n. walk m (1001 - n) at) past ∙ walk_none m at in
    subst (λ p. PeelsTo p (Err peeling.TagChainTooLong)) (sym e) tt

-- ---- chains of tags
step_end : (id : ObjectId) (more : ObjectId → Peeled) (s : Stored) → IsNoTag s → step id more s ≡ End id
step_end id more (Object Commit bytes) h = refl
step_end id more (Object Tree bytes) h = refl
step_end id more (Object Blob bytes) h = refl
step_end id more (Object Tag bytes) h = absurd (h refl)
step_end id more Absent h = absurd h
step_end id more Faulty h = absurd h

step_on : (m : ObjectId → Stored) (id next : ObjectId) (more : ObjectId → Peeled) → TagTo m id next → step id more (m id) ≡ more next
step_on m id next more (bytes, tag, target) = ap (step id more) tag ∙ ap (onward id more) target

-- over tags up to the number that is followed
pub chain_end : (m : ObjectId → Stored) (tags n : ℕ) (id end : ObjectId) → n ≤ tags → Chain m n id end → IsNoTag (m end) → walk m (suc tags) id ≡ End end
unfolding walk
chain_end m tags Prim.Native.Nat.zero id end within same other =
    ap (walk m (suc tags)) same ∙ step_end end (walk m tags) (m end) other
chain_end m Prim.Native.Nat.zero (suc n) id end within chain other = absurd (omega arith)
chain_end m (suc tags) (suc n) id end within (next, tag, rest) other =
    step_on m id next (walk m (suc tags)) tag ∙ chain_end m tags n next end (omega arith) rest other

-- over more tags
pub chain_too_long : (m : ObjectId → Stored) (tags : ℕ) (id last : ObjectId) → Chain m tags id last → walk m tags id ≡ TooLong
unfolding walk
chain_too_long m Prim.Native.Nat.zero id last same = refl
chain_too_long m (suc tags) id last (next, tag, rest) =
    step_on m id next (walk m tags) tag ∙ chain_too_long m tags next last rest

-- over a tag that names itself
pub ring_too_long : (m : ObjectId → Stored) (tags : ℕ) (id : ObjectId) → TagTo m id id → walk m tags id ≡ TooLong
unfolding walk
ring_too_long m Prim.Native.Nat.zero id tag = refl
ring_too_long m (suc tags) id tag = step_on m id id (walk m tags) tag ∙ ring_too_long m tags id tag
