-- A call that gives a line, by the place that the window passed.
use Rattle.std.proofs.Common.{◌≡◌, ◌≢◌, ℕ, ◌<◌, ◌^◌, length, ap, List, [], refl, sym, ◌∙◌, subst, slice_range, Some, None, Result, Ok, Err}
use Rattle.gix_ref_files.specs.Files.{FaultCounts}
use Rattle.gix_ref_log.specs.LogItems.{Item, GivesLine, LineGives, count_of}
use Rattle.gix_ref_log.specs.LogLines.{LogLine, IsLine, NoLine}
use Rattle.gix_ref_log.specs.LogStages.{text_of_line, IsDoneAfter}
use Rattle.gix_ref_log.specs.LogWindows.{ReadsPlace, StepOf, Tied, items_left, to_come}
use Rattle.gix_ref_log.specs.declared.log.iter.error.ReverseError.{ReverseError}
use Rattle.gix_ref_log.specs.declared.log.iter.error.ReverseError.TheVariants.{Io, Decode, BufferTooSmall, Memory}
use Rattle.gix_ref_log.specs.declared.log.iter.decode.LineNumber.TheVariants.{FromEnd}
use Rattle.gix_ref_log.specs.declared.log.iter.backward.Reverse.{Reverse}
use Rattle.gix_ref_log.specs.declared.log.iter.stage.Place.{Place}
use Rattle.gix_ref_log.specs.declared.log.iter.stage.Stage.{Stage}
use Rattle.gix_ref_log.specs.declared.log.iter.stage.Stage.TheVariants.{Unread, Reading, Done}

abbrev pub text_at : List ℕ → Place → List ℕ
text_at buf p = text_of_line p.ends (slice_range buf p.start p.end)

-- what is made of the text at a place
made : {T : Type 0} (R : ℕ → List ℕ → T → Type 0) (buf : List ℕ) (p : Place) (items rest : List Item) (r : Result T ReverseError) → r ≢ Err Memory
    → LineGives R p.number (text_at buf p) r → GivesLine (ReadsPlace buf) items (Some (Ok p)) rest → GivesLine R items (Some r) rest
made R buf p items rest (Ok l) other gives h = (h.0, h.1, h.2, subst (λ (n : ℕ). R n h.1 l) h.3.number (subst (λ (x : List ℕ). R p.number x l) h.3.same gives))
made R buf p items rest (Err (Decode d)) other gives h = (h.0, h.1, h.2, subst (λ (n : ℕ). d.line ≡ FromEnd n) h.3.number gives.0, subst NoLine h.3.same gives.1)
made R buf p items rest (Err Memory) other gives h = absurd (other refl)
made R buf p items rest (Err BufferTooSmall) other gives h = absurd gives
made R buf p items rest (Err (Io d)) other gives h = absurd gives

over : (s : Stage) (room : ℕ) (log : List ℕ) (pos end n : ℕ) → s ≡ Done → to_come s room log pos end n ≡ []
over Unread room log pos end n is = absurd (cc)
over Reading room log pos end n is = absurd (cc)
over Done room log pos end n is = refl

tied_over : (s : Stage) (log buf : List ℕ) (pos end n : ℕ) → s ≡ Done → Tied s log buf pos end n
tied_over Unread log buf pos end n is = absurd (cc)
tied_over Reading log buf pos end n is = absurd (cc)
tied_over Done log buf pos end n is = tt

module _ {F T : Type 0} (R : ℕ → List ℕ → T → Type 0) (honest : Type 0) (bytes : F → List ℕ) (faults : F → FaultCounts) (buf : List ℕ) (s t : Reverse F) where
  not_some : {A B : Type 0} (x : A) (e : Some x ≡ None) → B
  not_some x e = absurd (cc)

  module _ (p : Place) (a : StepOf (ReadsPlace buf) honest bytes faults s (Some (Ok p)) t) where
    -- a line, or a text that is none
    counted : (r : Result T ReverseError) → r ≢ Err Memory → LineGives R p.number (text_at buf p) r → faults t.reader ≡ count_of (Some r) (faults s.reader)
    counted (Ok l) other gives = a.counts
    counted (Err (Decode d)) other gives = a.counts
    counted (Err Memory) other gives = absurd (other refl)
    counted (Err BufferTooSmall) other gives = absurd gives
    counted (Err (Io d)) other gives = absurd gives

    done_after : (r : Result T ReverseError) → r ≢ Err Memory → LineGives R p.number (text_at buf p) r → IsDoneAfter (Some r) t.stage
    done_after (Ok l) other gives = tt
    done_after (Err (Decode d)) other gives = tt
    done_after (Err Memory) other gives = absurd (other refl)
    done_after (Err BufferTooSmall) other gives = absurd gives
    done_after (Err (Io d)) other gives = absurd gives

    pub line_step : (r : Result T ReverseError) → r ≢ Err Memory → LineGives R p.number (text_at buf p) r → StepOf R honest bytes faults s (Some r) t
    line_step r other gives = record {
      same_reference = a.same_reference;
      same_bytes = a.same_bytes;
      counts = counted r other gives;
      done = done_after r other gives;
      stays_done = λ is. not_some _ (a.stays_done is).0;
      gives = λ h tied. let step = a.gives h tied in (made R buf p _ _ r other gives step.0, step.1);
    }

    -- a text that is no line
    pub fault_place : {U : Type 0} (Q : ℕ → List ℕ → U → Type 0) (r : Result U ReverseError) (e : ReverseError) → r ≡ Err e → r ≢ Err Memory → LineGives Q p.number (text_at buf p) r
        → StepOf R honest bytes faults s (Some (Err e)) t
    fault_place Q (Ok l) e is other gives = absurd (cc)
    fault_place Q (Err (Decode d)) e is other gives =
        let same : Decode d ≡ e = cc in
        subst (λ (x : ReverseError). StepOf R honest bytes faults s (Some (Err x)) t) same (line_step (Err (Decode d)) (λ never. absurd (cc)) gives)
    fault_place Q (Err Memory) e is other gives = absurd (other refl)
    fault_place Q (Err BufferTooSmall) e is other gives = absurd gives
    fault_place Q (Err (Io d)) e is other gives = absurd gives

    -- a line for which there is no memory, after which it is done
    pub memory_step : (u : Reverse F) → u.buf.ghost_name ≡ t.buf.ghost_name → u.reader ≡ t.reader → u.stage ≡ Done → (l : LogLine) → IsLine (text_at buf p) l
        → StepOf R honest bytes faults s (Some (Err Memory)) u
    memory_step u same_buf same_reader done l line = record {
      same_reference = same_buf ∙ a.same_reference;
      same_bytes = ap bytes same_reader ∙ a.same_bytes;
      counts = ap faults same_reader ∙ a.counts;
      done = done;
      stays_done = λ is. not_some _ (a.stays_done is).0;
      gives = λ h tied.
          let step = a.gives h tied in
          let given = step.0 in (
            (over u.stage _ _ _ _ _ done, (given.0, given.1, items_left bytes t, l, given.2, subst (λ (x : List ℕ). IsLine x l) given.3.same line)),
            (subst (λ (x : F). length (bytes x) < 2 ^ 64) (sym same_reader) step.1.0, tied_over u.stage _ _ _ _ _ done),
          );
    }
