use Rattle.std.proofs.Common.{◌≡◌, ℕ, List, ◌∷◌, length, sym, ◌∙◌, ap, subst, arith}
use Rattle.gix_ref_log.specs.Signatures.{IsSeconds, IsZone}
use Rattle.gix_ref_log.proofs.SignatureLemmas.{no_cut, same_behind, same_after, same_time, same_digits}
use Rattle.gix_ref_log.proofs.actor.SignatureRef.decode_general.Goals as goal

space_is : (a : ℕ) (x : List ℕ) (b : ℕ) (y : List ℕ) → a ∷ x ≡ b ∷ y → a ≡ b
space_is a x b y e = cc

pub returns-in_err-front : goal.returns-in_err-front
returns-in_err-front c = rw c.from_residual.ensures (λ who w. no_cut 60 c.args.text.now w.front w.behind_name c.in_err-front.ensures w.name_cut.whole)

pub returns-in_err-email : goal.returns-in_err-email
returns-in_err-email c = rw c.from_residual-in_err-email.ensures (λ who w.
    let same = same_behind c.args.text.now who w _ _ c.in_ok-front.ensures in
    no_cut 62 c.in_ok-front.behind_name.now who.email _ c.in_err-email.ensures (sym same ∙ w.email.whole))

pub returns-in_err-space : goal.returns-in_err-space
returns-in_err-space c = rw c.from_residual-in_err-space.ensures (λ who w.
    let same = same_after c.args.text.now who w _ _ c.in_ok-front.ensures _ _ c.in_ok-email.ensures in
    omega (arith, ap length same, c.in_err-space.ensures.cases))

pub returns-then-space-ne32 : goal.returns-then-space-ne32
returns-then-space-ne32 c = λ who w.
    let same = same_after c.args.text.now who w _ _ c.in_ok-front.ensures _ _ c.in_ok-email.ensures in
    let here : 32 ≡ c.in_ok-space.space.now = space_is 32 w.time _ _ (same ∙ c.in_ok-space.ensures.cases.0) in
    c.if-space-ne32.true (sym here)

pub returns-in_err-digits : goal.returns-in_err-digits
returns-in_err-digits c = rw c.from_residual-in_err-digits.ensures (λ who w.
    let same = same_time c.args.text.now who w _ _ c.in_ok-front.ensures _ _ c.in_ok-email.ensures c.in_ok-space.space.now c.in_ok-space.time.now c.in_ok-space.ensures.cases.0 in
    no_cut 32 c.in_ok-space.time.now w.digits w.zone c.in_err-digits.ensures (sym same ∙ w.time_cut.whole))

pub returns-in_err-seconds : goal.returns-in_err-seconds
returns-in_err-seconds c = rw c.from_residual-in_err-seconds.ensures (λ who w.
    let same = same_digits c.args.text.now who w _ _ c.in_ok-front.ensures _ _ c.in_ok-email.ensures c.in_ok-space.space.now c.in_ok-space.time.now _ _ c.in_ok-space.ensures.cases.0 c.in_ok-digits.ensures in
    c.in_err-seconds.ensures who.seconds (subst (λ (t : List ℕ). IsSeconds t who.seconds) same.0 w.seconds))

pub returns-in_err-offset : goal.returns-in_err-offset
returns-in_err-offset c = rw c.from_residual-in_err-offset.ensures (λ who w.
    let same = same_digits c.args.text.now who w _ _ c.in_ok-front.ensures _ _ c.in_ok-email.ensures c.in_ok-space.space.now c.in_ok-space.time.now _ _ c.in_ok-space.ensures.cases.0 c.in_ok-digits.ensures in
    c.in_err-offset.ensures who.offset (subst (λ (t : List ℕ). IsZone t who.offset) same.1 w.offset))
