use Rattle.std.proofs.Common.{◌≡◌, ◌≢◌, ℕ, ◌<◌, ◌^◌, List, length, refl, sym, ◌∙◌, ap, subst, arith, Some, Err}
use Rattle.gix_ref_log.specs.declared.log.iter.stage.Stage.{Stage}
use Rattle.gix_ref_log.specs.declared.log.iter.stage.Stage.TheVariants.{Unread, Done}
use Rattle.gix_ref_log.specs.LogItems.{count_of}
use Rattle.gix_ref_log.specs.LogWindows.{ReadsPlace}
use Rattle.gix_ref_log.proofs.BackwardSteps.{start_none, start_fault, start_line}
use Rattle.gix_ref_log.proofs.log.iter.backward.Reverse.advance.Goals as goal

small_log : (log log' : List ℕ) → log' ≡ log → length log < 2 ^ 64 → length log' < 2 ^ 64
small_log log log' e l = subst (λ (x : List ℕ). length x < 2 ^ 64) (sym e) l

some : (n : ℕ) → n ≢ 0 → 0 < n
some n other = omega arith

not_done : (s : Stage) → s ≡ Unread → s ≡ Done → ⊥
not_done s is done = let e : Unread ≡ Done = sym is ∙ done in cc

pub returns-then-self-eq0-clause-step : goal.returns-then-self-eq0-clause-step
returns-then-self-eq0-clause-step g c =
    let s = c.args.self.now in
    record {
      same_reference = refl;
      same_bytes = refl;
      counts = refl;
      done = refl;
      stays_done = λ done. absurd (not_done s.stage c.in-Unread.is done);
      gives = λ honest tied. start_none (ReadsPlace s.buf.now) s.stage (length s.buf.now) s.number s.pos s.end (g.F.ReadAt.bytes s.reader) s.buf.now c.in-Unread.is c.if-self-eq0.true tied.0 tied.1;
    }

pub returns-in-Ok-clause-step : goal.returns-in-Ok-clause-step
returns-in-Ok-clause-step g c =
    let s = c.args.self.now in
    let b = c.begin.new.self in
    let e = c.in-Ok.ensures in
    let l = c.pass_line-in-Ok.ensures in
    record {
      same_reference = l.log.same_reference ∙ e.only.log.same_reference;
      same_bytes = l.log.same_bytes ∙ e.only.log.same_bytes;
      counts = l.counts ∙ ap (count_of (Some c.pass_line-in-Ok.result)) e.counts.count;
      done = l.done;
      stays_done = λ done. absurd (not_done s.stage c.in-Unread.is done);
      gives = λ honest tied. start_line (ReadsPlace c.pass_line-in-Ok.new.self.buf.now) s.stage (length s.buf.now) (length b.buf.now) s.number b.number s.pos s.end b.pos b.end
          (g.F.ReadAt.bytes s.reader) (g.F.ReadAt.bytes b.reader) s.buf.now b.buf.now c.in-Ok.ends c.pass_line-in-Ok.result _ _
          c.in-Unread.is e.only.log.same_bytes e.only.log.same_length e.only.number tied.0 tied.1 (e.begins honest) (l.step honest);
    }

pub returns-in-Err-clause-step : goal.returns-in-Err-clause-step
returns-in-Err-clause-step g c =
    let s = c.args.self.now in
    let e = c.in-Err.ensures in
    record {
      same_reference = e.only.log.same_reference;
      same_bytes = e.only.log.same_bytes;
      counts = e.counts.count;
      done = (refl, λ is. e.counts.memory (ap Err is));
      stays_done = λ done. absurd (not_done s.stage c.in-Unread.is done);
      gives = λ honest tied. (
        start_fault (ReadsPlace c.begin.new.self.buf.now) s.stage (length s.buf.now) s.number s.pos s.end (g.F.ReadAt.bytes s.reader) s.buf.now c.in-Err.error c.in-Unread.is (some s.pos c.if-self-eq0.false) tied.1,
        (small_log _ _ e.only.log.same_bytes tied.0, tt),
      );
    }
