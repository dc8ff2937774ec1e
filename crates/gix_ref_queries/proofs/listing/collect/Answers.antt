use Rattle.std.proofs.Common.{◌≡◌, ◌∙◌, ap, sym, subst, true, false, List}
use Rattle.gix_ref_packed_text.specs.declared.raw.Reference.{Reference}
use Rattle.gix_ref_queries.specs.Patterns.{is_asked_by, texts}
use Rattle.gix_ref_queries.specs.Rows.{is_asked}
use Rattle.gix_ref_queries.proofs.Listed.{AreSoFar, taken, passed, ended, stopped}
use Rattle.gix_ref_queries.proofs.listing.collect.Goals as goal

pub loop-reference-preserved-in-Ok-push : goal.loop-reference-preserved-in-Ok-push
loop-reference-preserved-in-Ok-push g c =
    let F = g.F.Files in
    let patterns = texts c.args.patterns.now in
    let reference = c.in-Ok-Some.reference in
    let asked : is_asked patterns reference ≡ true = sym (c.in-Ok.ensures ∙ ap (is_asked_by patterns) c.to_path.ensures.bytes) ∙ c.if-asked.true in
    subst (λ (found : List Reference). AreSoFar F.honest F.means F.faults patterns c.args.items.now c.next_reference.new.items found) (sym c.in-Ok-push.ensures.items)
    (taken F.honest F.means F.faults patterns c.args.items.now c.loop-reference.items c.next_reference.new.items c.loop-reference.found.items reference c.loop-reference.invariant (rw c.in-Ok-Some.field-0-is at c.in-Ok-Some.ensures.gives) asked)

pub loop-reference-preserved-else-asked : goal.loop-reference-preserved-else-asked
loop-reference-preserved-else-asked g c =
    let F = g.F.Files in
    let patterns = texts c.args.patterns.now in
    let reference = c.in-Ok-Some.reference in
    let asked : is_asked patterns reference ≡ false = sym (c.in-Ok.ensures ∙ ap (is_asked_by patterns) c.to_path.ensures.bytes) ∙ c.if-asked.false in
    passed F.honest F.means F.faults patterns c.args.items.now c.loop-reference.items c.next_reference.new.items c.loop-reference.found.items reference c.loop-reference.invariant (rw c.in-Ok-Some.field-0-is at c.in-Ok-Some.ensures.gives) asked

pub loop-reference-preserved : goal.loop-reference-preserved
loop-reference-preserved g c =
    let F = g.F.Files in
    let patterns = texts c.args.patterns.now in
    let reference = c.in-Ok-Some.reference in
    let asked : is_asked patterns reference ≡ false = sym (c.in-Ok.ensures ∙ ap (is_asked_by patterns) c.to_path.ensures.bytes) ∙ c.if-asked.false in
    passed F.honest F.means F.faults patterns c.args.items.now c.loop-reference.items c.next_reference.new.items c.loop-reference.found.items reference c.loop-reference.invariant (rw c.in-Ok-Some.field-0-is at c.in-Ok-Some.ensures.gives) asked

pub returns-in-Ok-None-clause-collects : goal.returns-in-Ok-None-clause-collects
returns-in-Ok-None-clause-collects g c =
    let F = g.F.Files in
    ended F.honest F.means F.faults (texts c.args.patterns.now) c.args.items.now c.loop-reference.items c.next_reference.new.items c.loop-reference.found.items c.loop-reference.invariant (rw c.in-Ok-None.field-0-is at c.in-Ok-None.ensures.gives)

pub returns-in-Err-clause-collects : goal.returns-in-Err-clause-collects
returns-in-Err-clause-collects g c =
    let F = g.F.Files in
    stopped F.honest F.means F.faults (texts c.args.patterns.now) c.args.items.now c.loop-reference.items c.next_reference.new.items c.loop-reference.found.items c.in-Err.error c.loop-reference.invariant c.in-Err.ensures.gives
