use Rattle.std.proofs.Common.{◌≡◌, ℕ, ◌+◌, ◌<◌, ◌^◌, List, length, take, Option, Some, None, Bool, true, false, refl, sym, ◌∙◌, subst, arith, ⊎_elim}
use Rattle.std.proofs.lemmas.List.{length-take-le}
use Rattle.memchr.specs.Find.{IsLastByte, is_byte}
use Rattle.gix_ref_log.specs.LogWindows.{IsLogWindow, EndsWindow, ReadsPlace}
use Rattle.gix_ref_log.proofs.BackwardSteps.{found_after, lone_step, small_step, fault_step}
use Rattle.gix_ref_log.proofs.log.iter.backward.Reverse.pass_line.Goals as goal

small_log : (log log' : List ℕ) → log' ≡ log → length log < 2 ^ 64 → length log' < 2 ^ 64
small_log log log' e l = subst (λ (x : List ℕ). length x < 2 ^ 64) (sym e) l

number_fits : (log buf : List ℕ) (n pos end start e : ℕ) (ends : Bool) → IsLogWindow log buf pos end → IsLastByte (is_byte 10) (take end buf) (Some start) → pos + end ≡ e → EndsWindow ends log e n → length log < 2 ^ 64 → n + 1 < 2 ^ 64
number_fits log buf n pos end start e true w h sum o small =
    let wide = length-take-le end buf w.fits in
    let high = h.0.high in
    omega arith
number_fits log buf n pos end start e false w h sum o small = let one = o.0 in omega arith

pub returns-in-Err-clause-step : goal.returns-in-Err-clause-step
returns-in-Err-clause-step g c = λ honest o.
    let s = c.args.self.now in
    let e = c.in-Err.ensures in
    let within = o.1.within in (
      fault_step (ReadsPlace c.find_start.new.self.buf.now) (length s.buf.now) s.number (s.pos + s.end) (g.F.ReadAt.bytes s.reader) c.args.ends c.in-Err.error within o.2,
      (small_log _ _ e.only.log.same_bytes o.0, tt),
    )

pub returns-in-Ok-Some-clause-step : goal.returns-in-Ok-Some-clause-step
returns-in-Ok-Some-clause-step g c = λ honest o.
    let s = c.args.self.now in
    let t = c.find_start.new.self in
    let e = c.in-Ok-Some.ensures in
    let window = e.window honest o.1 in
    let found : IsLastByte (is_byte 10) (take t.end t.buf.now) (Some c.in-Ok-Some.start) = subst (λ (r : Option ℕ). IsLastByte (is_byte 10) (take t.end t.buf.now) r) c.in-Ok-Some.field-0-is e.found in
    let fits = number_fits _ _ s.number t.pos t.end c.in-Ok-Some.start _ c.args.ends window found e.pos o.2 o.0 in
    let number = e.only.number in
    let next : c.saturating_add-self.result ≡ t.number + 1 = omega (arith, c.saturating_add-self.ensures) in
    found_after (ReadsPlace t.buf.now) (length s.buf.now) (length t.buf.now) s.number t.number c.saturating_add-self.result s.pos s.end
    (g.F.ReadAt.bytes s.reader) (g.F.ReadAt.bytes t.reader) t.buf.now t.pos t.end c.in-Ok-Some.start c.args.ends _
    e.only.log.same_bytes e.only.log.same_length e.only.number refl o.0 next e.pos window o.2 found (record { number = refl; same = refl })

pub returns-then-self-gt0-clause-step : goal.returns-then-self-gt0-clause-step
returns-then-self-gt0-clause-step g c = λ honest o.
    let s = c.args.self.now in
    let t = c.find_start.new.self in
    let e = c.in-Ok-None.ensures in
    let none : IsLastByte (is_byte 10) (take t.end t.buf.now) None = subst (λ (r : Option ℕ). IsLastByte (is_byte 10) (take t.end t.buf.now) r) c.in-Ok-None.field-0-is e.found in
    let more = c.if-self-gt0.true in
    let full : t.end ≡ length s.buf.now = ⊎_elim (λ (zero : t.pos ≡ 0). absurd (omega arith)) (λ (f : t.end ≡ length t.buf.now). f ∙ e.only.log.same_length) (e.full c.in-Ok-None.field-0-is) in (
      small_step (ReadsPlace t.buf.now) (length s.buf.now) s.number (s.pos + s.end) (g.F.ReadAt.bytes s.reader) t.buf.now t.pos t.end c.args.ends
          e.only.log.same_length (omega (arith, s.has_room)) c.if-self-gt0.true full e.pos (e.window honest o.1) none,
      (small_log _ _ e.only.log.same_bytes o.0, tt),
    )

pub returns-else-self-gt0-clause-step : goal.returns-else-self-gt0-clause-step
returns-else-self-gt0-clause-step g c = λ honest o.
    let s = c.args.self.now in
    let t = c.find_start.new.self in
    let e = c.in-Ok-None.ensures in
    let none : IsLastByte (is_byte 10) (take t.end t.buf.now) None = subst (λ (r : Option ℕ). IsLastByte (is_byte 10) (take t.end t.buf.now) r) c.in-Ok-None.field-0-is e.found in (
      lone_step (ReadsPlace t.buf.now) (length s.buf.now) s.number (s.pos + s.end) (g.F.ReadAt.bytes s.reader) t.buf.now t.pos t.end c.args.ends _
          e.only.log.same_length (omega arith) e.pos (e.window honest o.1) o.2 none (record { number = refl; same = refl }),
      (small_log _ _ e.only.log.same_bytes o.0, tt),
    )
