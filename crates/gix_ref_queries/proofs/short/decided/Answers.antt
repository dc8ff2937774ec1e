use Rattle.std.proofs.Common.{◌≡◌, ◌∙◌, [], ◌∷◌, ap, inl, sym, Bool, true, Option, Some, None, if◌then◌else◌}
use Rattle.gix_ref_queries.specs.Shortening.{IsAskedAmong}
use Rattle.gix_ref_queries.proofs.Names.{looks_none}
use Rattle.gix_ref_queries.proofs.ShortLemmas.{apart, no_short_from}
use Rattle.gix_ref_theory.proofs.Writes.{same as same_text}
use Rattle.gix_ref_queries.proofs.short.decided.Goals.{then-strict, else-strict}
use Rattle.gix_ref_queries.proofs.short.decided.Goals as goal

pub returns-in-Err-clause-failed : goal.returns-in-Err-clause-failed
returns-in-Err-clause-failed g c =
    let F = g.F.Files in
    let old = c.args.store.now in
    let name = c.args.name.now in
    let full = c.args.full.now in
    no_short_from g.F.Reader.ReadAt F.honest F.means F.faults (λ find asked. asked ≡ full) (IsAskedAmong c.args.strict name (full ∷ [])) old old c.in-Err.error (looks_none F.honest F.means old)
    (λ h records are asked is. inl (is, apart full name c.eq.result c.eq.ensures c.if-eq.false)) c.in-Err.ensures.failed

pub returns-then-eq-clause-seen : goal.returns-then-eq-clause-seen
returns-then-eq-clause-seen g c h =
    let either = λ (b : Bool). let o : Option Bool = if b then None else Some true in o in
    inl (
      same_text c.args.full.now c.args.name.now (sym c.eq.ensures ∙ c.if-eq.true),
      elim c.if-strict.branch [
        | then-strict w ↦ w.result-is ∙ sym (ap either w.if-strict.true)
        | else-strict w ↦ w.result-is ∙ sym (ap either w.if-strict.false)
      ],
    )
