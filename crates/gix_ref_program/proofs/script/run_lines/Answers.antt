use Rattle.std.proofs.Common.{refl, ◌∙◌, ◌∷◌, subst}
use Rattle.gix_ref_packed.specs.OpenFiles.{HasReadFault}
use Rattle.gix_ref_program.specs.ScriptLines.{script_lines}
use Rattle.gix_ref_program.specs.Scripts.{LinePrints}
use Rattle.gix_ref_program.specs.Writes.{terms_in}
use Rattle.gix_ref_program.proofs.ScriptLoop.{SoFar, begins, ends_at, goes_on, leaves_more, loses_more}
use Rattle.gix_ref_program.proofs.script.run_lines.Goals as goal

pub loop-line-init : goal.loop-line-init
loop-line-init g c =
    let F = g.F.Files in
    (refl, begins F.honest (HasReadFault g.F.Reader.ReadAt.faults) F.means F.faults (terms_in c.args.terms.now c.args.packed_refs) (script_lines c.args.text.now) c.args.store.now (g.W.Write.contents c.args.out.now))

pub loop-line-preserved : goal.loop-line-preserved
loop-line-preserved g c =
    let F = g.F.Files in
    let read = HasReadFault g.F.Reader.ReadAt.faults in
    let terms = terms_in c.args.terms.now c.args.packed_refs in
    let lines = script_lines c.args.text.now in
    let first = c.args.store.now in
    let mid = c.loop-line.store in
    let step = c.run_script_line-back in
    let new = step.new.store in
    let line = c.in-Some.line.now in
    let rest = script_lines c.in-Some.after.now in
    let out = g.W.Write.contents c.args.out.now in
    let so_far = g.W.Write.contents c.loop-line.out in
    let now = g.W.Write.contents step.new.out in
    let b : SoFar F.honest read F.means F.faults terms lines first mid (line ∷ rest) out so_far = subst (λ ls. SoFar F.honest read F.means F.faults terms lines first mid ls out so_far) c.in-Some.ensures.0 c.loop-line.invariant.1 in (
      step.ensures.packed_refs ∙ c.loop-line.invariant.0,
      goes_on F.honest read F.means F.faults terms lines first mid new line rest out so_far now b
          (subst (λ s. LinePrints F.honest read F.means F.faults terms line mid new so_far now s) c.if-not-is_zero.ensures (rw c.loop-line.invariant.0 at step.ensures.prints))
          (leaves_more F.honest read F.means F.faults terms lines first mid new line rest out so_far now b (rw c.loop-line.invariant.0 at step.ensures.leaves))
          (loses_more F.honest read F.means F.faults terms lines first mid new line rest out so_far now b (rw c.loop-line.invariant.0 at step.ensures.loses)),
    )

pub returns-then-not-is_zero-clause-prints : goal.returns-then-not-is_zero-clause-prints
returns-then-not-is_zero-clause-prints g c =
    let F = g.F.Files in
    let read = HasReadFault g.F.Reader.ReadAt.faults in
    let terms = terms_in c.args.terms.now c.args.packed_refs in
    let lines = script_lines c.args.text.now in
    let first = c.args.store.now in
    let mid = c.loop-line.store in
    let step = c.run_script_line-back in
    let new = step.new.store in
    let line = c.in-Some.line.now in
    let rest = script_lines c.in-Some.after.now in
    let out = g.W.Write.contents c.args.out.now in
    let so_far = g.W.Write.contents c.loop-line.out in
    let now = g.W.Write.contents step.new.out in
    let b : SoFar F.honest read F.means F.faults terms lines first mid (line ∷ rest) out so_far = subst (λ ls. SoFar F.honest read F.means F.faults terms lines first mid ls out so_far) c.in-Some.ensures.0 c.loop-line.invariant.1 in
    ends_at F.honest read F.means F.faults terms lines first mid new line rest out so_far now b step.result.1 (rw c.loop-line.invariant.0 at step.ensures.prints) c.if-not-is_zero.ensures

pub returns-then-not-is_zero-clause-leaves : goal.returns-then-not-is_zero-clause-leaves
returns-then-not-is_zero-clause-leaves g c =
    let F = g.F.Files in
    let read = HasReadFault g.F.Reader.ReadAt.faults in
    let terms = terms_in c.args.terms.now c.args.packed_refs in
    let lines = script_lines c.args.text.now in
    let first = c.args.store.now in
    let mid = c.loop-line.store in
    let step = c.run_script_line-back in
    let new = step.new.store in
    let line = c.in-Some.line.now in
    let rest = script_lines c.in-Some.after.now in
    let out = g.W.Write.contents c.args.out.now in
    let so_far = g.W.Write.contents c.loop-line.out in
    let now = g.W.Write.contents step.new.out in
    let b : SoFar F.honest read F.means F.faults terms lines first mid (line ∷ rest) out so_far = subst (λ ls. SoFar F.honest read F.means F.faults terms lines first mid ls out so_far) c.in-Some.ensures.0 c.loop-line.invariant.1 in
    leaves_more F.honest read F.means F.faults terms lines first mid new line rest out so_far now b (rw c.loop-line.invariant.0 at step.ensures.leaves)

pub returns-then-not-is_zero-clause-loses : goal.returns-then-not-is_zero-clause-loses
returns-then-not-is_zero-clause-loses g c =
    let F = g.F.Files in
    let read = HasReadFault g.F.Reader.ReadAt.faults in
    let terms = terms_in c.args.terms.now c.args.packed_refs in
    let lines = script_lines c.args.text.now in
    let first = c.args.store.now in
    let mid = c.loop-line.store in
    let step = c.run_script_line-back in
    let new = step.new.store in
    let line = c.in-Some.line.now in
    let rest = script_lines c.in-Some.after.now in
    let out = g.W.Write.contents c.args.out.now in
    let so_far = g.W.Write.contents c.loop-line.out in
    let now = g.W.Write.contents step.new.out in
    let b : SoFar F.honest read F.means F.faults terms lines first mid (line ∷ rest) out so_far = subst (λ ls. SoFar F.honest read F.means F.faults terms lines first mid ls out so_far) c.in-Some.ensures.0 c.loop-line.invariant.1 in
    loses_more F.honest read F.means F.faults terms lines first mid new line rest out so_far now b (rw c.loop-line.invariant.0 at step.ensures.loses)
