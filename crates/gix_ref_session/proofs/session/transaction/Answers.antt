use Rattle.std.proofs.Common.{◌≡◌, ◌∙◌, ◌||◌, ap, sym, Bool}
use Rattle.gix_ref_session.proofs.Serving.{turns}
use Rattle.gix_ref_session.proofs.session.transaction.Goals.{then-gathered, else-gathered}
use Rattle.gix_ref_session.proofs.session.transaction.Goals as goal

pub returns-after-gathered : goal.returns-after-gathered
returns-after-gathered g c =
    let F = g.F.Files in
    let input = g.R.Read.remaining in
    let out = g.W.Write.contents in
    let gives : c.if-gathered.gives_up ≡ (c.in-Ok.gathered.is_started || c.args.needs_start) = elim c.if-gathered.branch [
      | then-gathered w ↦ w.gives_up-is ∙ (w.if-gathered.true ∙ sym (ap (λ (b : Bool). b || c.args.needs_start) w.if-gathered.true))
      | else-gathered w ↦ w.gives_up-is ∙ sym (ap (λ (b : Bool). b || c.args.needs_start) w.if-gathered.false)
    ] in
    turns g.F.Reader.ReadAt F.honest F.means F.faults c.args.session.now c.args.needs_start (input c.args.input.now) (out c.args.out.now) c.args.store.now c.close.new.store c.in-Ok.closing (input c.gather.new.input) (out c.gather.new.out) c.in-Ok.gathered c.in-Ok.ensures.gathered
    c.if-gathered.gives_up (input c.close.new.input) (out c.close.new.out) c.close.result gives (rw c.deref.ensures.value at c.close.ensures.ends) (rw c.deref.ensures.value at c.close.ensures.leaves) (rw c.deref.ensures.value at c.close.ensures.lost)
