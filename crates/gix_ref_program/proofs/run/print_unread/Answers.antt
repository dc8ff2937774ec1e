use Rattle.std.proofs.Common.{◌≡◌, ◌⊎◌, inl, inr, refl, sym, subst}
use Rattle.gix_ref_program.specs.Runs.{HasStore, IsUnopened, SaysOne}
use Rattle.gix_ref_program.specs.Runs.Ran.{Said}
use Rattle.gix_ref_program.specs.Words.{line_asked}
use Rattle.gix_ref_program.specs.declared.outcome.Outcome.{Outcome}
use Rattle.gix_ref_program.specs.declared.refusal.Refusal.{Refusal}
use Rattle.gix_ref_program.proofs.Printing.{said}
use Rattle.gix_ref_program.proofs.run.print_unread.Goals as goal

pub returns-in-Ok-clause-prints : goal.returns-in-Ok-clause-prints
returns-in-Ok-clause-prints g c =
    let says = SaysOne (λ (refusal : Refusal). IsUnopened (line_asked c.args.line.now) refusal ⊎ (HasStore c.args.files (line_asked c.args.line.now) × (refusal ≡ c.args.unread))) in
    let refused = c.refused.ensures in
    said says (g.W.Write.contents c.args.out.now) (g.W.Write.contents c.print.new.out) c.print.result c.refused.result
    (subst (λ (o : Outcome). says (Said o)) (sym refused.1) (inr ((c.in-Ok.store, c.in-Ok.ensures), refl), refused.2)) c.print.ensures.status c.print.ensures.printed

pub returns-in-Err-clause-prints : goal.returns-in-Err-clause-prints
returns-in-Err-clause-prints g c =
    let says = SaysOne (λ (refusal : Refusal). IsUnopened (line_asked c.args.line.now) refusal ⊎ (HasStore c.args.files (line_asked c.args.line.now) × (refusal ≡ c.args.unread))) in
    let refused = c.refused-in-Err.ensures in
    said says (g.W.Write.contents c.args.out.now) (g.W.Write.contents c.print-in-Err.new.out) c.print-in-Err.result c.refused-in-Err.result
    (subst (λ (o : Outcome). says (Said o)) (sym refused.1) (inl c.in-Err.ensures.1, refused.2)) c.print-in-Err.ensures.status c.print-in-Err.ensures.printed
