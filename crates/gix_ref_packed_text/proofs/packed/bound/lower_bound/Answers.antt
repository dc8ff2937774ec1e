use Rattle.std.proofs.Common.{◌≡◌, ◌+◌, ◌-◌, ◌/◌, List, ℕ, Bool, true, false, refl, sym, ◌∙◌, ap, subst, arith, inl, Some}
use Rattle.std.specs.declared.cmp.Ordering.TheVariants.{Equal, Greater}
use Rattle.std.proofs.lemmas.List.{drop_all}
use Rattle.gix_ref_hash.specs.Bytes.{StopsAt}
use Rattle.gix_ref_packed_text.specs.RecordGrammar.{is_caret}
use Rattle.gix_ref_packed_text.specs.Probed.{IsProbeAt}
use Rattle.gix_ref_packed_text.proofs.LineBounds.{LinesBound, lines_first, line_low, line_high, bad_start, lines_met, stops_there}
use Rattle.gix_ref_packed_text.proofs.LowerBounds.{Bound, bound_first, no_malformed, passes_low, stops_high, starts_there, splits}
use Rattle.gix_ref_packed_text.proofs.packed.bound.lower_bound.Goals as goal

pub loop-low-init : goal.loop-low-init
loop-low-init g c = record {
  no_fault = refl;
  bytes = refl;
  frame = refl;
  starts = λ honest. let whole = c.len-high.ensures honest in record { within = omega arith; begins = inl whole };
  stops = λ honest. let whole = c.len-high.ensures honest in
      subst (StopsAt is_caret) (sym (drop_all c.len-high.result (g.T.SearchableRecords.bytes c.args.text.now) (omega arith))) tt;
  bound = λ honest. subst (Bound c.args.kind (g.T.SearchableRecords.bytes c.args.text.now) c.args.wanted.now 0) (sym (c.len-high.ensures honest))
      (bound_first c.args.kind (g.T.SearchableRecords.bytes c.args.text.now) c.args.wanted.now);
  lines = λ honest. subst (LinesBound c.args.kind (g.T.SearchableRecords.bytes c.args.text.now) c.args.wanted.now 0) (sym (c.len-high.ensures honest))
      (lines_first c.args.kind (g.T.SearchableRecords.bytes c.args.text.now) c.args.wanted.now);
}

pub loop-low-preserved-in-Less : goal.loop-low-preserved-in-Less
loop-low-preserved-in-Less g c =
    let kind = c.args.kind in
    let text = g.T.SearchableRecords.bytes c.args.text.now in
    let n = c.args.wanted.now in
    let was = c.loop-low.invariant in
    let low = c.loop-low.low in
    let high = c.loop-low.high in
    let o = low + (high - low) / 2 in
    let probe = c.in-Ok.probe in
    let is = c.in-Some.is ∙ ap (λ o. Some o) c.in-Less.is in
    record {
      no_fault = c.in-Ok.ensures.no_fault ∙ was.no_fault;
      bytes = c.probe.ensures.kept.0 ∙ was.bytes;
      frame = c.probe.ensures.kept.1 ∙ was.frame;
      starts = was.starts;
      stops = was.stops;
      bound = λ honest. passes_low kind text n low high o _ probe
          (let starts = was.starts honest in let inside = starts.within in let some = c.loop-low-test.true in omega arith)
          (subst (λ (b : Bool). IsProbeAt kind text n b o probe) c.sure.ensures (subst (λ (t : List ℕ). IsProbeAt kind t n c.sure.result.sure o probe) was.bytes (c.in-Ok.ensures.probed honest))) c.in-Ok.ensures.beyond
          (was.bound honest) is;
      lines = λ honest. line_low kind text n low high o probe
          (let starts = was.starts honest in let inside = starts.within in let some = c.loop-low-test.true in omega arith)
          (subst (λ (b : Bool). IsProbeAt kind text n b o probe) c.sure.ensures (subst (λ (t : List ℕ). IsProbeAt kind t n c.sure.result.sure o probe) was.bytes (c.in-Ok.ensures.probed honest)))
          (was.lines honest) is c.in-Ok.ensures.beyond;
    }

pub loop-low-preserved-in-Equal : goal.loop-low-preserved-in-Equal
loop-low-preserved-in-Equal g c =
    let kind = c.args.kind in
    let text = g.T.SearchableRecords.bytes c.args.text.now in
    let n = c.args.wanted.now in
    let was = c.loop-low.invariant in
    let low = c.loop-low.low in
    let high = c.loop-low.high in
    let o = low + (high - low) / 2 in
    let probe = c.in-Ok.probe in
    let is = c.in-Some.is ∙ ap (λ o. Some o) c.in-Equal.is in
    record {
      no_fault = c.in-Ok.ensures.no_fault ∙ was.no_fault;
      bytes = c.probe.ensures.kept.0 ∙ was.bytes;
      frame = c.probe.ensures.kept.1 ∙ was.frame;
      starts = λ honest. starts_there kind text n low high o _ probe
          (let starts = was.starts honest in let inside = starts.within in let some = c.loop-low-test.true in omega arith)
          (subst (λ (b : Bool). IsProbeAt kind text n b o probe) c.sure.ensures (subst (λ (t : List ℕ). IsProbeAt kind t n c.sure.result.sure o probe) was.bytes (c.in-Ok.ensures.probed honest))) c.in-Ok.ensures.beyond
          (was.bound honest);
      bound = λ honest. stops_high kind text n low high o _ probe
          (let starts = was.starts honest in let inside = starts.within in let some = c.loop-low-test.true in omega arith)
          (subst (λ (b : Bool). IsProbeAt kind text n b o probe) c.sure.ensures (subst (λ (t : List ℕ). IsProbeAt kind t n c.sure.result.sure o probe) was.bytes (c.in-Ok.ensures.probed honest))) c.in-Ok.ensures.beyond
          (was.bound honest) Equal is (λ bad. absurd (cc));
      stops = λ honest. stops_there kind text n low high o probe
          (let starts = was.starts honest in let inside = starts.within in let some = c.loop-low-test.true in omega arith)
          (subst (λ (b : Bool). IsProbeAt kind text n b o probe) c.sure.ensures (subst (λ (t : List ℕ). IsProbeAt kind t n c.sure.result.sure o probe) was.bytes (c.in-Ok.ensures.probed honest)))
          (was.lines honest) Equal is;
      lines = λ honest. line_high kind text n low high o probe
          (let starts = was.starts honest in let inside = starts.within in let some = c.loop-low-test.true in omega arith)
          (subst (λ (b : Bool). IsProbeAt kind text n b o probe) c.sure.ensures (subst (λ (t : List ℕ). IsProbeAt kind t n c.sure.result.sure o probe) was.bytes (c.in-Ok.ensures.probed honest)))
          (was.lines honest) Equal is (λ bad. absurd (cc));
    }

pub loop-low-preserved : goal.loop-low-preserved
loop-low-preserved g c =
    let kind = c.args.kind in
    let text = g.T.SearchableRecords.bytes c.args.text.now in
    let n = c.args.wanted.now in
    let was = c.loop-low.invariant in
    let low = c.loop-low.low in
    let high = c.loop-low.high in
    let o = low + (high - low) / 2 in
    let probe = c.in-Ok.probe in
    let is = c.in-Some.is ∙ ap (λ o. Some o) c.in-Greater.is in
    record {
      no_fault = c.in-Ok.ensures.no_fault ∙ was.no_fault;
      bytes = c.probe.ensures.kept.0 ∙ was.bytes;
      frame = c.probe.ensures.kept.1 ∙ was.frame;
      starts = λ honest. starts_there kind text n low high o _ probe
          (let starts = was.starts honest in let inside = starts.within in let some = c.loop-low-test.true in omega arith)
          (subst (λ (b : Bool). IsProbeAt kind text n b o probe) c.sure.ensures (subst (λ (t : List ℕ). IsProbeAt kind t n c.sure.result.sure o probe) was.bytes (c.in-Ok.ensures.probed honest))) c.in-Ok.ensures.beyond
          (was.bound honest);
      bound = λ honest. stops_high kind text n low high o _ probe
          (let starts = was.starts honest in let inside = starts.within in let some = c.loop-low-test.true in omega arith)
          (subst (λ (b : Bool). IsProbeAt kind text n b o probe) c.sure.ensures (subst (λ (t : List ℕ). IsProbeAt kind t n c.sure.result.sure o probe) was.bytes (c.in-Ok.ensures.probed honest))) c.in-Ok.ensures.beyond
          (was.bound honest) Greater is (λ bad. absurd (cc));
      stops = λ honest. stops_there kind text n low high o probe
          (let starts = was.starts honest in let inside = starts.within in let some = c.loop-low-test.true in omega arith)
          (subst (λ (b : Bool). IsProbeAt kind text n b o probe) c.sure.ensures (subst (λ (t : List ℕ). IsProbeAt kind t n c.sure.result.sure o probe) was.bytes (c.in-Ok.ensures.probed honest)))
          (was.lines honest) Greater is;
      lines = λ honest. line_high kind text n low high o probe
          (let starts = was.starts honest in let inside = starts.within in let some = c.loop-low-test.true in omega arith)
          (subst (λ (b : Bool). IsProbeAt kind text n b o probe) c.sure.ensures (subst (λ (t : List ℕ). IsProbeAt kind t n c.sure.result.sure o probe) was.bytes (c.in-Ok.ensures.probed honest)))
          (was.lines honest) Greater is (λ bad. absurd (cc));
    }

pub returns-in_default-clause-splits : goal.returns-in_default-clause-splits
returns-in_default-clause-splits g c = λ honest rs h up.
    let kind = c.args.kind in
    let text = g.T.SearchableRecords.bytes c.args.text.now in
    let n = c.args.wanted.now in
    let was = c.loop-low.invariant in
    let low = c.loop-low.low in
    let high = c.loop-low.high in
    let o = low + (high - low) / 2 in
    let probe = c.in-Ok.probe in
    absurd (no_malformed kind text n low high o _ probe
    (let starts = was.starts honest in let inside = starts.within in let some = c.loop-low-test.true in omega arith)
    (subst (λ (b : Bool). IsProbeAt kind text n b o probe) c.sure.ensures (subst (λ (t : List ℕ). IsProbeAt kind t n c.sure.result.sure o probe) was.bytes (c.in-Ok.ensures.probed honest))) c.in-Ok.ensures.beyond
    (was.bound honest) c.in_default.is rs h)

pub returns-in_default-clause-starts : goal.returns-in_default-clause-starts
returns-in_default-clause-starts g c = λ honest.
    let kind = c.args.kind in
    let text = g.T.SearchableRecords.bytes c.args.text.now in
    let n = c.args.wanted.now in
    let was = c.loop-low.invariant in
    let low = c.loop-low.low in
    let high = c.loop-low.high in
    let o = low + (high - low) / 2 in
    let probe = c.in-Ok.probe in
    record {
      starts = starts_there kind text n low high o _ probe
          (let starts = was.starts honest in let inside = starts.within in let some = c.loop-low-test.true in omega arith)
          (subst (λ (b : Bool). IsProbeAt kind text n b o probe) c.sure.ensures (subst (λ (t : List ℕ). IsProbeAt kind t n c.sure.result.sure o probe) was.bytes (c.in-Ok.ensures.probed honest))) c.in-Ok.ensures.beyond
          (was.bound honest);
      no_caret = λ formed. let bad : true ≡ false = formed in absurd (cc);
    }

pub returns-in_default-clause-malformed : goal.returns-in_default-clause-malformed
returns-in_default-clause-malformed g c = λ honest is.
    let kind = c.args.kind in
    let text = g.T.SearchableRecords.bytes c.args.text.now in
    let n = c.args.wanted.now in
    let was = c.loop-low.invariant in
    let low = c.loop-low.low in
    let high = c.loop-low.high in
    let o = low + (high - low) / 2 in
    let probe = c.in-Ok.probe in
    bad_start kind text n low high o probe
    (let starts = was.starts honest in let inside = starts.within in let some = c.loop-low-test.true in omega arith)
    (subst (λ (b : Bool). IsProbeAt kind text n b o probe) c.sure.ensures (subst (λ (t : List ℕ). IsProbeAt kind t n c.sure.result.sure o probe) was.bytes (c.in-Ok.ensures.probed honest)))
    (was.lines honest) c.in_default.is

pub returns-clause-starts : goal.returns-clause-starts
returns-clause-starts g c = λ honest. record { starts = c.loop-low.invariant.starts honest; no_caret = λ formed. c.loop-low.invariant.stops honest }

pub returns-clause-splits : goal.returns-clause-splits
returns-clause-splits g c honest = λ rs h up.
    (refl, splits c.args.kind (g.T.SearchableRecords.bytes c.args.text.now) c.args.wanted.now c.loop-low.low c.loop-low.high c.loop-low-test.false (c.loop-low.invariant.bound honest) rs h up)

pub returns-clause-lines : goal.returns-clause-lines
returns-clause-lines g c = λ honest ascend is.
    lines_met c.args.kind (g.T.SearchableRecords.bytes c.args.text.now) c.args.wanted.now c.loop-low.low c.loop-low.high c.loop-low-test.false (c.loop-low.invariant.lines honest) ascend
