use Rattle.std.proofs.Common.{◌+◌, ◌-◌, ◌/◌, ℕ, List, length, refl, inl, inr, ◌∙◌, ap, subst, arith, Some}
use Rattle.std.specs.declared.cmp.Ordering.TheVariants.{Less, Greater}
use Rattle.gix_ref_packed_text.specs.Probed.{IsProbeAt}
use Rattle.gix_ref_packed_text.proofs.Halves.{none_yet, step_low, step_high, step_malformed, malformed, line_there, not_malformed_end, found_hit, found_there, counted_now, counted_end, nowhere, cost_counted}
use Rattle.gix_ref_packed_text.proofs.packed.search.search.Goals as goal

pub loop-low-init : goal.loop-low-init
loop-low-init g c = record {
  counts = omega arith;
  no_fault = refl;
  bytes = refl;
  frame = refl;
  halves = λ honest. none_yet c.args.kind (g.T.SearchableRecords.bytes c.args.text.now) c.args.wanted.now c.args.probes.now c.len-high.result (c.len-high.ensures honest);
  line = λ honest no. inl (refl, omega arith);
  malformed = λ honest yes_it_is. absurd (cc);
}

pub loop-low-preserved-in_default : goal.loop-low-preserved-in_default
loop-low-preserved-in_default g c = record {
  counts = let counts = c.loop-low.invariant.counts in let next = c.tick.ensures in omega arith;
  no_fault = c.in-Ok.ensures.no_fault ∙ c.loop-low.invariant.no_fault;
  bytes = c.probe.ensures.kept.0 ∙ c.loop-low.invariant.bytes;
  frame = c.probe.ensures.kept.1 ∙ c.loop-low.invariant.frame;
  halves = λ honest. step_malformed c.args.kind (g.T.SearchableRecords.bytes c.args.text.now) c.args.wanted.now c.args.probes.now c.loop-low.probes c.tick.new.self c.loop-low.low c.loop-low.high (c.loop-low.low + (c.loop-low.high - c.loop-low.low) / 2) (c.loop-low.invariant.halves honest) c.loop-low-test.true refl c.tick.ensures c.at-look.result.sure c.in-Ok.probe
      (subst (λ (t : List ℕ). IsProbeAt c.args.kind t c.args.wanted.now c.at-look.result.sure (c.loop-low.low + (c.loop-low.high - c.loop-low.low) / 2) c.in-Ok.probe) c.loop-low.invariant.bytes (c.in-Ok.ensures.probed honest)) c.in-Ok.ensures.beyond c.in_default.is;
  line = λ honest no. absurd (cc);
  malformed = λ honest. λ yes_it_is. malformed c.args.kind (g.T.SearchableRecords.bytes c.args.text.now) c.args.wanted.now c.args.probes.now c.loop-low.probes c.tick.new.self c.loop-low.low c.loop-low.high (c.loop-low.low + (c.loop-low.high - c.loop-low.low) / 2) (c.loop-low.invariant.halves honest) c.loop-low-test.true refl c.tick.ensures c.at-look.result.sure c.in-Ok.probe
      (subst (λ (t : List ℕ). IsProbeAt c.args.kind t c.args.wanted.now c.at-look.result.sure (c.loop-low.low + (c.loop-low.high - c.loop-low.low) / 2) c.in-Ok.probe) c.loop-low.invariant.bytes (c.in-Ok.ensures.probed honest)) c.in-Ok.ensures.beyond c.in_default.is;
}

pub loop-low-preserved-in-Greater : goal.loop-low-preserved-in-Greater
loop-low-preserved-in-Greater g c = record {
  counts = let counts = c.loop-low.invariant.counts in let next = c.tick.ensures in omega arith;
  no_fault = c.in-Ok.ensures.no_fault ∙ c.loop-low.invariant.no_fault;
  bytes = c.probe.ensures.kept.0 ∙ c.loop-low.invariant.bytes;
  frame = c.probe.ensures.kept.1 ∙ c.loop-low.invariant.frame;
  halves = λ honest. step_high c.args.kind (g.T.SearchableRecords.bytes c.args.text.now) c.args.wanted.now c.args.probes.now c.loop-low.probes c.tick.new.self c.loop-low.low c.loop-low.high (c.loop-low.low + (c.loop-low.high - c.loop-low.low) / 2) (c.loop-low.invariant.halves honest) c.loop-low-test.true refl c.tick.ensures c.at-look.result.sure c.in-Ok.probe
      (subst (λ (t : List ℕ). IsProbeAt c.args.kind t c.args.wanted.now c.at-look.result.sure (c.loop-low.low + (c.loop-low.high - c.loop-low.low) / 2) c.in-Ok.probe) c.loop-low.invariant.bytes (c.in-Ok.ensures.probed honest)) c.in-Ok.ensures.beyond (c.in-Some.is ∙ ap (λ o. Some o) c.in-Greater.is);
  line = λ honest no. inr (line_there c.args.kind (g.T.SearchableRecords.bytes c.args.text.now) c.args.wanted.now c.args.probes.now c.loop-low.probes c.tick.new.self c.loop-low.low c.loop-low.high (c.loop-low.low + (c.loop-low.high - c.loop-low.low) / 2) (c.loop-low.invariant.halves honest) c.loop-low-test.true refl c.tick.ensures c.at-look.result.sure c.in-Ok.probe
      (subst (λ (t : List ℕ). IsProbeAt c.args.kind t c.args.wanted.now c.at-look.result.sure (c.loop-low.low + (c.loop-low.high - c.loop-low.low) / 2) c.in-Ok.probe) c.loop-low.invariant.bytes (c.in-Ok.ensures.probed honest)) c.in-Ok.ensures.beyond Greater (c.in-Some.is ∙ ap (λ o. Some o) c.in-Greater.is) c.loop-low.first c.at-look.ensures.sure (c.loop-low.invariant.line honest no));
  malformed = λ honest. c.loop-low.invariant.malformed honest;
}

pub loop-low-preserved : goal.loop-low-preserved
loop-low-preserved g c = record {
  counts = let counts = c.loop-low.invariant.counts in let next = c.tick.ensures in omega arith;
  no_fault = c.in-Ok.ensures.no_fault ∙ c.loop-low.invariant.no_fault;
  bytes = c.probe.ensures.kept.0 ∙ c.loop-low.invariant.bytes;
  frame = c.probe.ensures.kept.1 ∙ c.loop-low.invariant.frame;
  halves = λ honest. step_low c.args.kind (g.T.SearchableRecords.bytes c.args.text.now) c.args.wanted.now c.args.probes.now c.loop-low.probes c.tick.new.self c.loop-low.low c.loop-low.high (c.loop-low.low + (c.loop-low.high - c.loop-low.low) / 2) (c.loop-low.invariant.halves honest) c.loop-low-test.true refl c.tick.ensures c.at-look.result.sure c.in-Ok.probe
      (subst (λ (t : List ℕ). IsProbeAt c.args.kind t c.args.wanted.now c.at-look.result.sure (c.loop-low.low + (c.loop-low.high - c.loop-low.low) / 2) c.in-Ok.probe) c.loop-low.invariant.bytes (c.in-Ok.ensures.probed honest)) c.in-Ok.ensures.beyond (c.in-Some.is ∙ ap (λ o. Some o) c.in-Less.is);
  line = λ honest no. inr (line_there c.args.kind (g.T.SearchableRecords.bytes c.args.text.now) c.args.wanted.now c.args.probes.now c.loop-low.probes c.tick.new.self c.loop-low.low c.loop-low.high (c.loop-low.low + (c.loop-low.high - c.loop-low.low) / 2) (c.loop-low.invariant.halves honest) c.loop-low-test.true refl c.tick.ensures c.at-look.result.sure c.in-Ok.probe
      (subst (λ (t : List ℕ). IsProbeAt c.args.kind t c.args.wanted.now c.at-look.result.sure (c.loop-low.low + (c.loop-low.high - c.loop-low.low) / 2) c.in-Ok.probe) c.loop-low.invariant.bytes (c.in-Ok.ensures.probed honest)) c.in-Ok.ensures.beyond Less (c.in-Some.is ∙ ap (λ o. Some o) c.in-Less.is) c.loop-low.first c.at-look.ensures.sure (c.loop-low.invariant.line honest no));
  malformed = λ honest. c.loop-low.invariant.malformed honest;
}

pub returns-in-Err-clause-cost : goal.returns-in-Err-clause-cost
returns-in-Err-clause-cost g c honest =
    let was = c.loop-low.invariant.halves honest in
    let counts = was.counts in
    let next = c.tick.ensures in
    record { some = λ more. omega arith; few = cost_counted c.args.probes.now c.loop-low.probes c.tick.new.self c.loop-low.low c.loop-low.high (length (g.T.SearchableRecords.bytes c.args.text.now)) was.counts c.tick.ensures was.width c.loop-low-test.true }

pub returns-in-Equal-clause-cost : goal.returns-in-Equal-clause-cost
returns-in-Equal-clause-cost g c honest = counted_now c.args.kind (g.T.SearchableRecords.bytes c.args.text.now) c.args.wanted.now c.args.probes.now c.loop-low.probes c.tick.new.self c.loop-low.low c.loop-low.high (c.loop-low.low + (c.loop-low.high - c.loop-low.low) / 2) (c.loop-low.invariant.halves honest) c.loop-low-test.true refl c.tick.ensures c.at-look.result.sure c.in-Ok.probe
    (subst (λ (t : List ℕ). IsProbeAt c.args.kind t c.args.wanted.now c.at-look.result.sure (c.loop-low.low + (c.loop-low.high - c.loop-low.low) / 2) c.in-Ok.probe) c.loop-low.invariant.bytes (c.in-Ok.ensures.probed honest)) c.in-Ok.ensures.beyond

pub returns-in-Equal-clause-hit : goal.returns-in-Equal-clause-hit
returns-in-Equal-clause-hit g c honest = found_hit c.args.kind (g.T.SearchableRecords.bytes c.args.text.now) c.args.wanted.now c.args.probes.now c.loop-low.probes c.tick.new.self c.loop-low.low c.loop-low.high (c.loop-low.low + (c.loop-low.high - c.loop-low.low) / 2) (c.loop-low.invariant.halves honest) c.loop-low-test.true refl c.tick.ensures c.at-look.result.sure c.in-Ok.probe
    (subst (λ (t : List ℕ). IsProbeAt c.args.kind t c.args.wanted.now c.at-look.result.sure (c.loop-low.low + (c.loop-low.high - c.loop-low.low) / 2) c.in-Ok.probe) c.loop-low.invariant.bytes (c.in-Ok.ensures.probed honest)) c.in-Ok.ensures.beyond (c.in-Some.is ∙ ap (λ o. Some o) c.in-Equal.is)

pub returns-in-Equal-clause-finds : goal.returns-in-Equal-clause-finds
returns-in-Equal-clause-finds g c honest = found_there c.args.kind (g.T.SearchableRecords.bytes c.args.text.now) c.args.wanted.now c.args.probes.now c.loop-low.probes c.tick.new.self c.loop-low.low c.loop-low.high (c.loop-low.low + (c.loop-low.high - c.loop-low.low) / 2) (c.loop-low.invariant.halves honest) c.loop-low-test.true refl c.tick.ensures c.at-look.result.sure c.in-Ok.probe
    (subst (λ (t : List ℕ). IsProbeAt c.args.kind t c.args.wanted.now c.at-look.result.sure (c.loop-low.low + (c.loop-low.high - c.loop-low.low) / 2) c.in-Ok.probe) c.loop-low.invariant.bytes (c.in-Ok.ensures.probed honest)) c.in-Ok.ensures.beyond (c.in-Some.is ∙ ap (λ o. Some o) c.in-Equal.is)

pub returns-then-saw_malformed_line-clause-cost : goal.returns-then-saw_malformed_line-clause-cost
returns-then-saw_malformed_line-clause-cost g c honest = counted_end c.args.kind (g.T.SearchableRecords.bytes c.args.text.now) c.args.wanted.now c.args.probes.now c.loop-low.probes c.loop-low.low c.loop-low.high (c.loop-low.invariant.halves honest) c.loop-low-test.false

pub returns-else-saw_malformed_line-clause-cost : goal.returns-else-saw_malformed_line-clause-cost
returns-else-saw_malformed_line-clause-cost g c honest = counted_end c.args.kind (g.T.SearchableRecords.bytes c.args.text.now) c.args.wanted.now c.args.probes.now c.loop-low.probes c.loop-low.low c.loop-low.high (c.loop-low.invariant.halves honest) c.loop-low-test.false

pub returns-else-saw_malformed_line-clause-finds : goal.returns-else-saw_malformed_line-clause-finds
returns-else-saw_malformed_line-clause-finds g c honest =
    nowhere c.args.kind (g.T.SearchableRecords.bytes c.args.text.now) c.args.wanted.now c.loop-low.low c.loop-low.high c.loop-low-test.false (c.loop-low.invariant.halves honest).inside

pub returns-else-saw_malformed_line-clause-none : goal.returns-else-saw_malformed_line-clause-none
returns-else-saw_malformed_line-clause-none g c honest =
    not_malformed_end c.args.kind (g.T.SearchableRecords.bytes c.args.text.now) c.args.wanted.now c.args.probes.now c.loop-low.probes c.loop-low.low c.loop-low.high c.loop-low.first (c.loop-low.invariant.halves honest) c.loop-low-test.false
    (c.loop-low.invariant.line honest c.if-saw_malformed_line.false)
