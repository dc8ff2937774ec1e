use Rattle.std.proofs.Common.{subst}
use Rattle.gix_ref_session.specs.Words.{TakesValue, options_in}
use Rattle.gix_ref_session.specs.declared.words.Valued.{Valued}
use Rattle.gix_ref_session.proofs.words.set_value.Goals as goal

pub returns-in-None-clause-options : goal.returns-in-None-clause-options
returns-in-None-clause-options c = λ new takes.
    let signed = subst (λ (o : Valued). TakesValue o c.args.value.now (options_in c.args.line.now) new) c.in-Committer.is takes in
    c.in-None.ensures signed.0 signed.1
