use Rattle.std.proofs.Common.{◌≡◌, List, ℕ, drop, subst}
use Rattle.gix_ref_packed_text.specs.Probed.{IsProbeAt}
use Rattle.gix_ref_packed.proofs.packed.sorted_file.SortedFileSearchableRecords.probe.Goals as goal

pub returns-in-Some-clause-probed : goal.returns-in-Some-clause-probed
returns-in-Some-clause-probed g c = λ honest.
    let was = c.loop-turn.invariant in
    let same : drop c.loop-turn.self.base (g.R.ReadAt.bytes c.loop-turn.self.reader) ≡ drop c.args.self.now.base (g.R.ReadAt.bytes c.args.self.now.reader) = λ i. drop (was.base i) (was.same i) in
    subst (λ (t : List ℕ). IsProbeAt c.args.kind t c.args.wanted.now c.args.look.sure c.args.offset c.in-Some.probe) same (c.in-Some.ensures.probed honest)

pub returns-in-Some-probe_in_window-clause-probed : goal.returns-in-Some-probe_in_window-clause-probed
returns-in-Some-probe_in_window-clause-probed g c = λ honest.
    let was = c.loop-turn.invariant in
    let same : drop c.loop-turn.self.base (g.R.ReadAt.bytes c.loop-turn.self.reader) ≡ drop c.args.self.now.base (g.R.ReadAt.bytes c.args.self.now.reader) = λ i. drop (was.base i) (was.same i) in
    subst (λ (t : List ℕ). IsProbeAt c.args.kind t c.args.wanted.now c.args.look.sure c.args.offset c.in-Some-probe_in_window.probe) same (c.in-Some-probe_in_window.ensures.probed honest)
