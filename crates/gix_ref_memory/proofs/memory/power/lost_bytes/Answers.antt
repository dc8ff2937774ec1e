use Rattle.std.proofs.Common.{◌≡◌, ◌++◌, ◌∷◌, [], ◌+◌, ◌-◌, ℕ, List, take, length, replicate, min, sym, ◌∙◌, ap, arith, rules, append-nil, append_assoc}
use Rattle.std.proofs.lemmas.List.{take_min, replicate_more}
use Rattle.gix_ref_memory.proofs.memory.power.lost_bytes.Goals as goal

pub loop-at-init : goal.loop-at-init
loop-at-init c =
    let k = c.min-kept.result in
    let front : c.in_ok-left.left.items ≡ take k c.args.bytes.now = search rules in
    let none : 0 ≡ k - k = omega arith in
    front ∙ (sym (append-nil (take k c.args.bytes.now)) ∙ ap (λ (n : ℕ). take k c.args.bytes.now ++ replicate n 63) none)

pub loop-at-preserved : goal.loop-at-preserved
loop-at-preserved c =
    let k = c.min-kept.result in
    let n = c.loop-at._at - k in
    let front = take k c.args.bytes.now in
    let more : n + 1 ≡ c.loop-at._at + 1 - k = omega arith in
    c.in_ok-push.ensures.items
    ∙ (ap (λ (l : List ℕ). l ++ 63 ∷ []) c.loop-at.invariant
    ∙ (append_assoc front (replicate n 63) (63 ∷ [])
    ∙ (ap (λ (l : List ℕ). front ++ l) (replicate_more n 63)
    ∙ ap (λ (m : ℕ). front ++ replicate m 63) more)))

pub returns : goal.returns
returns c =
    let k = c.min-kept.result in
    let bytes = c.args.bytes.now in
    let is : k ≡ min c.args.synced (length bytes) = search rules in
    let count : c.loop-at._at - k ≡ length bytes - c.args.synced = omega arith in
    c.loop-at.invariant
    ∙ (ap (λ (l : List ℕ). l ++ replicate (c.loop-at._at - k) 63) (ap (λ (n : ℕ). take n bytes) is ∙ take_min c.args.synced bytes)
    ∙ ap (λ (n : ℕ). take c.args.synced bytes ++ replicate n 63) count)
