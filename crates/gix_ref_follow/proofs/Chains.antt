-- How chains of symbolic references end.
use Rattle.std.proofs.Common.{◌≡◌, ◌≤◌, ◌-◌, ◌+◌, ℕ, zero, suc, List, [], None, true, arith, refl, sym, ◌∙◌, ap}
use Rattle.gix_ref_hash.specs.declared.hash.ObjectId.{ObjectId}
use Rattle.gix_ref_target.specs.Targets.TargetValue.{object_id, symbolic_name}
use Rattle.gix_ref_follow.specs.Following.{At, HitsByName, ChainOfSteps, IsStep, follow, following, is_one_of}
use Rattle.gix_ref_follow.specs.Following.EndOfChain.{Reached, Dangling, Circular, TooDeep}
use Rattle.gix_ref_follow.proofs.Steps.{follow_on, follow_object, follow_symbolic, follow_back, follow_none}

-- after a chain, what is left of the steps decides
behind : (find : HitsByName) (steps left all : ℕ) (start end : At) (reached : List (List ℕ)) → steps + left ≡ all → ChainOfSteps find steps start reached end →
    follow find all [] start ≡ follow find left reached end
behind find zero left all start end reached count chain =
    let same : all ≡ left = omega (arith, count) in
    ap (λ n. follow find n [] start) same ∙ (ap (follow find left []) chain.0 ∙ ap (λ names. follow find left names end) (sym chain.1))
behind find (suc steps) left all start end reached count chain =
    let count' : steps + suc left ≡ all = omega (arith, count) in
    behind find steps (suc left) all start chain.0 chain.1 count' chain.2
    ∙ (follow_on find left chain.1 chain.0 end chain.3 chain.4 ∙ ap (λ names. follow find left names end) (sym chain.5))

-- with a step left
in_time : (find : HitsByName) (steps : ℕ) (start end : At) (reached : List (List ℕ)) → steps ≤ 4 → ChainOfSteps find steps start reached end →
    following find start ≡ follow find (suc (4 - steps)) reached end
in_time find steps start end reached few chain =
    let count : steps + suc (4 - steps) ≡ 5 = omega (arith, few) in
    behind find steps (suc (4 - steps)) 5 start end reached count chain

pub to_object : (find : HitsByName) (steps : ℕ) (start end : At) (reached : List (List ℕ)) (id : ObjectId) → steps ≤ 4 → ChainOfSteps find steps start reached end →
    end.target ≡ object_id id → following find start ≡ Reached end id
to_object find steps start end reached id few chain is = in_time find steps start end reached few chain ∙ follow_object find (4 - steps) reached end id is

pub to_nothing : (find : HitsByName) (steps : ℕ) (start end : At) (reached : List (List ℕ)) (name : List ℕ) → steps ≤ 4 → ChainOfSteps find steps start reached end →
    end.target ≡ symbolic_name name → find name ≡ None → following find start ≡ Dangling end name
to_nothing find steps start end reached name few chain is none = in_time find steps start end reached few chain ∙ follow_symbolic find (4 - steps) reached end name None is none

pub back : (find : HitsByName) (steps : ℕ) (start end next : At) (reached : List (List ℕ)) → steps ≤ 4 → ChainOfSteps find steps start reached end → IsStep find end next →
    is_one_of next.name reached ≡ true → following find start ≡ Circular end
back find steps start end next reached few chain step again = in_time find steps start end reached few chain ∙ follow_back find (4 - steps) reached end next step again

pub too_far : (find : HitsByName) (start end : At) (reached : List (List ℕ)) → ChainOfSteps find 5 start reached end → following find start ≡ TooDeep end
too_far find start end reached chain = behind find 5 0 5 start end reached refl chain ∙ follow_none find reached end
