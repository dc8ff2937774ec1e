use Rattle.std.proofs.Common.{◌∙◌}
use Rattle.gix_ref_name.specs.Names.{full_ref_bytes}
use Rattle.gix_ref_queries.proofs.LogEntries.{own_shown, last_shown, none_shown}
use Rattle.gix_ref_queries.proofs.reflog.show_either.Goals as goal

pub returns-in-Ok-Some-clause-answers : goal.returns-in-Ok-Some-clause-answers
returns-in-Ok-Some-clause-answers g c =
    own_shown g.F.Files.honest g.F.Files.means g.F.Files.faults c.args.store.now c.shown_log.new.store (full_ref_bytes c.args.name) (full_ref_bytes c.args.last) c.to_path.result.now c.args.count c.in-Ok-Some.text c.said.result c.to_path.ensures.bytes c.said.ensures (λ h. rw c.in-Ok-Some.field-0-is at (c.in-Ok-Some.ensures.shows h))

pub returns-in-Ok-Some-shown_log-clause-answers : goal.returns-in-Ok-Some-shown_log-clause-answers
returns-in-Ok-Some-shown_log-clause-answers g c =
    last_shown g.F.Files.honest g.F.Files.means g.F.Files.faults c.args.store.now c.shown_log.new.store c.shown_log.ensures.unchanged c.shown_log-2.new.store (full_ref_bytes c.args.name) (full_ref_bytes c.args.last) c.to_path-2.result.now c.args.count c.in-Ok-Some-shown_log.text c.said-in-Ok-Some-shown_log.result c.to_path-2.ensures.bytes c.said-in-Ok-Some-shown_log.ensures
    (λ h. rw c.in-Ok-None.field-0-is at (c.in-Ok-None.ensures.shows h)) (λ h. rw c.in-Ok-Some-shown_log.field-0-is at (c.in-Ok-Some-shown_log.ensures.shows h))

pub returns-in-Ok-None-shown_log-clause-answers : goal.returns-in-Ok-None-shown_log-clause-answers
returns-in-Ok-None-shown_log-clause-answers g c =
    let said = c.said-in-Ok-None-shown_log.ensures in
    none_shown g.F.Files.honest g.F.Files.means g.F.Files.faults c.args.store.now c.shown_log.new.store c.shown_log.ensures.unchanged c.shown_log-2.new.store (full_ref_bytes c.args.name) (full_ref_bytes c.args.last) c.args.count c.said-in-Ok-None-shown_log.result (said.0 ∙ c.new.ensures.items, said.1, said.2)
    (λ h. rw c.in-Ok-None.field-0-is at (c.in-Ok-None.ensures.shows h)) (λ h. rw c.in-Ok-None-shown_log.field-0-is at (c.in-Ok-None-shown_log.ensures.shows h))
