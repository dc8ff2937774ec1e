-- One step of a following, and what it leaves of the rest.
use Rattle.std.proofs.Common.{◌≡◌, ◌⊎◌, inl, inr, ⊎_elim, ◌≤◌, ◌+◌, ℕ, suc, List, [], ◌∷◌, ◌++◌, Option, Some, None, Result, Ok, Err, Bool, true, false, if◌then◌else◌, ◌||◌, bytes_eq, MatchResult, IfErr, IfOk, OnOk, arith, refl, sym, ◌∙◌, ap, subst}
use Rattle.std.specs.List.{list_any}
use Rattle.std.proofs.lemmas.Slice.Eq.{bytes_eq-Decides}
use Rattle.gix_ref_hash.specs.declared.hash.ObjectId.{ObjectId}
use Rattle.gix_ref_name.specs.Names.{full_bytes, partial_bytes}
use Rattle.gix_ref_target.specs.Targets.{TargetValue, target_value, target_id}
use Rattle.gix_ref_target.specs.Targets.TargetValue.{object_id, symbolic_name}
use Rattle.gix_ref_name.specs.declared.name.FullName.{FullName}
use Rattle.gix_ref_packed_text.specs.declared.raw.Reference.{Reference}
use Rattle.gix_ref_theory.specs.Lookups.{Hit}
use Rattle.gix_ref_lookup.specs.Lookups.{ReturnsHit, IsSound}
use Rattle.gix_ref_lookup.specs.declared.find.existing.Error.{Error as Missing}
use Rattle.gix_ref_lookup.specs.declared.find.existing.Error.TheVariants.{Find, NotFound}
use Rattle.gix_ref_follow.specs.Following.{At, HitsByName, IsStep, Leads, at_of, follow, following, is_one_of, step_from, step_by, arrive}
use Rattle.gix_ref_follow.specs.Following.EndOfChain.{Reached, Circular, TooDeep}
use Rattle.gix_ref_follow.specs.Followed.{bytes_of_names, OfStep, OnStep, IsCycle, IsReturn, RefusesStep, Follows}
use Rattle.gix_ref_follow.specs.declared.peel.to_object.Error.{Error}
use Rattle.gix_ref_follow.specs.declared.peel.to_object.Error.TheVariants.{Follow, Cycle, DepthLimitExceeded, Memory}

-- a test of names one by one
pub any_named : (name : List ℕ) (names : List FullName) → list_any (λ (n : FullName). bytes_eq name (full_bytes n)) names ≡ is_one_of name (bytes_of_names names)
any_named name [] = refl
any_named name (n ∷ names) = ap (λ b. bytes_eq name (full_bytes n) || b) (any_named name names)

pub names_append : (names : List FullName) (n : FullName) → bytes_of_names (names ++ n ∷ []) ≡ bytes_of_names names ++ full_bytes n ∷ []
names_append [] n = refl
names_append (m ∷ names) n = ap (λ l. full_bytes m ∷ l) (names_append names n)

-- what a lookup finds of a name, where it must find something
abbrev pub FindsNext : HitsByName → (Miss : List ℕ → Missing → Type 0) → List ℕ → Result Reference Missing → Type 0
FindsNext find Miss name result = MatchResult result (λ next. ReturnsHit (find name) (Some next)) (Miss name)

pub ok_named : {A E : Type 0} (P : List ℕ → A → Type 0) (n m : List ℕ) (r : Result A E) → n ≡ m → IfOk r (P n) → IfOk r (P m)
ok_named P n m (Ok a) same ok = subst (λ k. P k a) same ok
ok_named P n m (Err e) same ok = tt

pub err_named : {A E : Type 0} (P : List ℕ → E → Type 0) (n m : List ℕ) (r : Result A E) → n ≡ m → IfErr r (P n) → IfErr r (P m)
err_named P n m (Ok a) same err = tt
err_named P n m (Err e) same err = subst (λ k. P k e) same err

-- of a lookup that was made
pub on_step : (P : Type 0) (r : Result Reference Missing) → OnOk r P → OnStep (Some r) P
on_step P (Ok reference) p = p
on_step P (Err error) p = tt

pub on_ok : {A E : Type 0} {P Q : Type 0} (r : Result A E) → (P → Q) → OnOk r P → OnOk r Q
on_ok (Ok a) f p = f p
on_ok (Err e) f p = tt

-- the name of a target that was looked up
pub step_of : (t : TargetValue) (P : List ℕ → Result Reference Missing → Type 0) (r : Result Reference Missing) → OfStep t P (Some r) → (x : List ℕ) × (t ≡ symbolic_name x) × P x r
step_of (object_id id) P r is = absurd is
step_of (symbolic_name name) P r is = (name, refl, is)

-- a lookup that finds the next reference is a step
pub is_step : (find : HitsByName) (Miss : List ℕ → Missing → Type 0) (r next : Reference) (t : TargetValue) → target_value r.target ≡ t → OfStep t (FindsNext find Miss) (Some (Ok next)) → IsStep find (at_of r) (at_of next)
is_step find Miss r next (object_id id) is found = absurd found
is_step find Miss r next (symbolic_name name) is found = by (find name) refl found
  where
    by : (hit : Option Hit) → find name ≡ hit → ReturnsHit hit (Some next) → IsStep find (at_of r) (at_of next)
    by None same answers = absurd answers
    by (Some hit) same answers =
        record { name = name; hit = hit; target = is; found = same; named = answers.0; reads = answers.1; peeled = answers.2 }

none_answered : (found : Option Hit) → ReturnsHit found None → found ≡ None
none_answered None is = refl
none_answered (Some hit) is = absurd is

-- one that finds nothing, or fails, is a refusal
pub refuses_find : (find : HitsByName) (reached : List (List ℕ)) (at : At) (t : TargetValue) (Miss Bound : List ℕ → Missing → Type 0) (error : Missing) → at.target ≡ t →
    ((name : List ℕ) (n : _) → Bound name (NotFound n) → partial_bytes n ≡ name) → ((name : List ℕ) (n : _) → Miss name (NotFound n) → ReturnsHit (find name) None) →
    ((name : List ℕ) (e : _) → Miss name (Find e) → IsSound e) →
    OfStep t (FindsNext find Miss) (Some (Err error)) → OfStep t (λ name r. IfErr r (Bound name)) (Some (Err error)) → RefusesStep find reached at (Follow error)
refuses_find find reached at (object_id id) Miss Bound error is named none sound found bound = absurd found
refuses_find find reached at (symbolic_name name) Miss Bound (Find error) is named none sound found bound = sound name error found
refuses_find find reached at (symbolic_name name) Miss Bound (NotFound n) is named none sound found bound =
    (is ∙ ap symbolic_name (sym (named name n bound)), ap find (named name n bound) ∙ none_answered (find name) (none name n found))

pub refuses_return : (find : HitsByName) (reached : List (List ℕ)) (at next : At) (place : List ℕ) (error : Error) → IsStep find at next → IsReturn next.name reached place error →
    RefusesStep find reached at error
refuses_return find reached at next place (Cycle path) step is = (next, step, is.0)
refuses_return find reached at next place Memory step is = tt
refuses_return find reached at next place (Follow e) step is = absurd is
refuses_return find reached at next place (DepthLimitExceeded n) step is = absurd is

-- one step more
pub leads_more : {A : Type 0} (Step : A → A → Type 0) (steps : ℕ) (start before end : A) → Leads Step steps start before → Step before end → Leads Step (steps + 1) start end
leads_more {A} Step steps start before end leads step =
    let more : suc steps ≡ steps + 1 = omega arith in
    subst (λ (n : ℕ). Leads Step n start end) more (before, leads, step)

-- a name of these and one more
pub one_of_more : (name n : List ℕ) (names : List (List ℕ)) → is_one_of name (names ++ n ∷ []) ≡ true → (is_one_of name names ≡ true) ⊎ (name ≡ n)
one_of_more name n [] one = by (bytes_eq name n) refl one
  where
    by : (b : Bool) → bytes_eq name n ≡ b → (b || false) ≡ true → (false ≡ true) ⊎ (name ≡ n)
    by true same one = inr ((bytes_eq-Decides name n).0 same)
    by false other one = absurd (cc)
one_of_more name n (x ∷ names) one = by (bytes_eq name x) refl one (λ more. one_of_more name n names more)
  where
    by : (b : Bool) → bytes_eq name x ≡ b → (b || is_one_of name (names ++ n ∷ [])) ≡ true → (is_one_of name (names ++ n ∷ []) ≡ true → (is_one_of name names ≡ true) ⊎ (name ≡ n)) → ((bytes_eq name x || is_one_of name names) ≡ true) ⊎ (name ≡ n)
    by true same one later = inl (ap (λ c. c || is_one_of name names) same)
    by false other one later = ⊎_elim
        (λ (among : is_one_of name names ≡ true). inl (ap (λ c. c || is_one_of name names) other ∙ among))
        (λ (same : name ≡ n). inr same)
        (later one)

-- a reference of a name that was reached leads back
pub leads_back : (name : List ℕ) (names : List FullName) (place place' : List ℕ) (error : Error) → list_any (λ (n : FullName). bytes_eq name (full_bytes n)) names ≡ true → place ≡ place' →
    IsCycle place error → IsReturn name (bytes_of_names names) place' error
leads_back name names place place' (Cycle path) again same is = (sym (any_named name names) ∙ again, is ∙ same)
leads_back name names place place' Memory again same is = tt
leads_back name names place place' (Follow e) again same is = absurd is
leads_back name names place place' (DepthLimitExceeded n) again same is = absurd is

-- the target that has this id
pub id_of : (t : TargetValue) (id : ObjectId) → Some id ≡ target_id t → t ≡ object_id id
id_of (object_id other) id is = ap object_id (cc)
id_of (symbolic_name name) id is = absurd (cc)

-- at an object the following ends
pub follow_object : (find : HitsByName) (steps : ℕ) (reached : List (List ℕ)) (at : At) (id : ObjectId) → at.target ≡ object_id id → follow find (suc steps) reached at ≡ Reached at id
unfolding follow
follow_object find steps reached at id is = ap (step_from find reached (λ next. follow find steps (reached ++ next.name ∷ []) next) at) is

-- what is left after a symbolic target, by what its lookup finds
pub follow_symbolic : (find : HitsByName) (steps : ℕ) (reached : List (List ℕ)) (at : At) (name : List ℕ) (hit : Option Hit) → at.target ≡ symbolic_name name → find name ≡ hit →
    follow find (suc steps) reached at ≡ step_by reached (λ next. follow find steps (reached ++ next.name ∷ []) next) at name hit
unfolding follow
follow_symbolic find steps reached at name hit is found =
    ap (step_from find reached (λ next. follow find steps (reached ++ next.name ∷ []) next) at) is
    ∙ ap (step_by reached (λ next. follow find steps (reached ++ next.name ∷ []) next) at name) found

follow_hit : (find : HitsByName) (steps : ℕ) (reached : List (List ℕ)) (at next : At) (step : IsStep find at next) →
    follow find (suc steps) reached at ≡ (if is_one_of step.hit.name reached then Circular at else follow find steps (reached ++ step.hit.name ∷ []) (record { name = step.hit.name; target = next.target; peeled = step.hit.peeled }))
follow_hit find steps reached at next step =
    follow_symbolic find steps reached at step.name (Some step.hit) step.target step.found
    ∙ ap (arrive reached (λ n. follow find steps (reached ++ n.name ∷ []) n) at step.hit) step.reads

found_at : (find : HitsByName) (at next : At) (step : IsStep find at next) → record { name = step.hit.name; target = next.target; peeled = step.hit.peeled } ≡ next
found_at find at next step =
    ap (λ (n : List ℕ). let a : At = record { name = n; target = next.target; peeled = step.hit.peeled } in a) (sym step.named)
    ∙ ap (λ (p : Option ObjectId). let a : At = record { name = next.name; target = next.target; peeled = p } in a) (sym step.peeled)

-- a step to a reference that no step reached goes on from there
pub follow_on : (find : HitsByName) (steps : ℕ) (reached : List (List ℕ)) (at next : At) → IsStep find at next → is_one_of next.name reached ≡ false →
    follow find (suc steps) reached at ≡ follow find steps (reached ++ next.name ∷ []) next
follow_on find steps reached at next step first =
    follow_hit find steps reached at next step
    ∙ (ap (λ (b : Bool). if b then Circular at else follow find steps (reached ++ step.hit.name ∷ []) (record { name = step.hit.name; target = next.target; peeled = step.hit.peeled })) (ap (λ n. is_one_of n reached) (sym step.named) ∙ first)
    ∙ (ap (λ (n : List ℕ). follow find steps (reached ++ n ∷ []) (record { name = step.hit.name; target = next.target; peeled = step.hit.peeled })) (sym step.named)
    ∙ ap (follow find steps (reached ++ next.name ∷ [])) (found_at find at next step)))

pub follow_back : (find : HitsByName) (steps : ℕ) (reached : List (List ℕ)) (at next : At) → IsStep find at next → is_one_of next.name reached ≡ true → follow find (suc steps) reached at ≡ Circular at
follow_back find steps reached at next step again =
    follow_hit find steps reached at next step
    ∙ ap (λ (b : Bool). if b then Circular at else follow find steps (reached ++ step.hit.name ∷ []) (record { name = step.hit.name; target = next.target; peeled = step.hit.peeled })) (ap (λ n. is_one_of n reached) (sym step.named) ∙ again)

-- a refused step ends the following
pub follows_refused : (find : HitsByName) (start at : At) (steps left : ℕ) (reached : List (List ℕ)) (error : Error) → steps ≤ 5 → Leads (IsStep find) steps start at →
    following find start ≡ follow find (suc left) reached at → RefusesStep find reached at error → Follows find start at (Err error)
follows_refused find start at steps left reached (Follow (NotFound name)) most leads same why =
    same ∙ follow_symbolic find left reached at (partial_bytes name) None why.0 why.1
follows_refused find start at steps left reached (Follow (Find error)) most leads same why = (why, (steps, most, leads))
follows_refused find start at steps left reached (Cycle path) most leads same why = same ∙ follow_back find left reached at why.0 why.1 why.2
follows_refused find start at steps left reached (DepthLimitExceeded n) most leads same why = absurd why
follows_refused find start at steps left reached Memory most leads same why = (steps, most, leads)

pub follow_none : (find : HitsByName) (reached : List (List ℕ)) (at : At) → follow find 0 reached at ≡ TooDeep at
unfolding follow
follow_none find reached at = refl
