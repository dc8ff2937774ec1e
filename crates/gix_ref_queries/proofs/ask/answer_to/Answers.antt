use Rattle.gix_ref_queries.proofs.AskLemmas.{still_locked}
use Rattle.gix_ref_queries.proofs.Names.{looks_none}
use Rattle.gix_ref_queries.proofs.ask.answer_to.Goals as goal

pub returns-in_err-ask-clause-unchanged : goal.returns-in_err-ask-clause-unchanged
returns-in_err-ask-clause-unchanged g c other = looks_none g.F.Files.honest g.F.Files.means c.args.store.now

pub returns-in_err-ask-clause-leaves : goal.returns-in_err-ask-clause-leaves
returns-in_err-ask-clause-leaves g c h =
    let F = g.F.Files in
    let old = c.args.store.now in
    still_locked F.honest F.means old old (looks_none F.honest F.means old) h

pub returns-in-None-clause-unchanged : goal.returns-in-None-clause-unchanged
returns-in-None-clause-unchanged g c other = looks_none g.F.Files.honest g.F.Files.means c.args.store.now

pub returns-in-None-clause-leaves : goal.returns-in-None-clause-leaves
returns-in-None-clause-leaves g c h =
    let F = g.F.Files in
    let old = c.args.store.now in
    still_locked F.honest F.means old old (looks_none F.honest F.means old) h
