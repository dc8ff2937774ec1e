-- A reflog that is printed, item by item.
use Rattle.std.proofs.Common.{◌≡◌, ℕ, List, [], ◌∷◌, ◌++◌, Bool, true, false, Option, Some, None, Result, refl, sym, ◌∙◌, ap, subst, append-nil}
use Rattle.std.specs.Prelude.{if◌then◌else◌}
use Rattle.std.specs.Option.{option_map}
use Rattle.std.specs.Result.{is_err}
use Rattle.std.specs.Iterator.{Yields}
use Rattle.std.specs.Iterator.Runs.{WholeRun}
use Rattle.std.specs.Io.KnownBytes.{Appends, Keeps, append_known}
use Rattle.gix_ref_files.specs.Files.{FaultCounts}
use Rattle.gix_ref_log.specs.LogWindows.{NextRefStep}
use Rattle.gix_ref_log.specs.declared.log.iter.backward.Reverse.{Reverse}
use Rattle.gix_ref_log.specs.declared.log.iter.error.ReverseError.{ReverseError}
use Rattle.gix_ref_log.specs.declared.log.line.LineRef.{LineRef}
use Rattle.gix_ref_program.specs.LogPrinting.{log_item_text, log_text, next_log_text, PushesNext}
use Rattle.gix_ref_program.specs.Printed.{items_status}
use Rattle.gix_ref_program.proofs.ItemLemmas.{status_fault, status_line, item_printed, rest_printed, yields_more, none_printed, whole_run}

module _ {R : Type 0} (honest : Type 0) (bytes : R → List ℕ) (faults : R → FaultCounts) where
  -- what is written and the text are what is printed of the items so far
  pub record AreSoFar (first it : Reverse R) (out now : Option (List ℕ)) (text : List ℕ) (status : ℕ) : Type 0 where
    pub items : List (Result LineRef ReverseError)
    pub gives : Yields (NextRefStep honest bytes faults) first items it
    pub status_is : status ≡ items_status items
    pub prints : Appends out (append_known now text) (log_text items)

  pub begins : (it : Reverse R) (out : Option (List ℕ)) → AreSoFar it it out out [] 0
  begins it out = record { items = []; gives = refl; status_is = refl; prints = none_printed out }

  -- the next item is printed, if there is one
  pub more_printed : (first it next : Reverse R) (out before now : Option (List ℕ)) (text grown left : List ℕ) (status after : ℕ) (found : Option Bool) (fault : Bool) →
      AreSoFar first it out before text status → PushesNext honest bytes faults it next text grown found → found ≡ Some fault →
      Keeps (append_known before grown) (append_known now left) → after ≡ (if fault then 1 else status) → AreSoFar first next out now left after
  more_printed first it next out before now text grown left status after found fault so_far pushed is kept value = by pushed.item pushed.gives pushed.fault_is pushed.added
    where
      status_by : (item : Result LineRef ReverseError) (b : Bool) → is_err item ≡ b → (if b then 1 else status) ≡ items_status (so_far.items ++ item ∷ [])
      status_by item true fault = status_fault so_far.items item fault
      status_by item false line = status_line so_far.items item status so_far.status_is line

      by : (item : Option (Result LineRef ReverseError)) → NextRefStep honest bytes faults it item next → found ≡ option_map is_err item → grown ≡ text ++ next_log_text item → AreSoFar first next out now left after
      by None gives same added = let bad = sym is ∙ same in absurd (cc)
      by (Some item) gives same added =
          let both : Some fault ≡ Some (is_err item) = sym is ∙ same in
          let as_told : fault ≡ is_err item = cc in
          record {
            items = so_far.items ++ item ∷ [];
            gives = yields_more (NextRefStep honest bytes faults) first it next so_far.items item so_far.gives gives;
            status_is = value ∙ ap (λ b. if b then 1 else status) as_told ∙ status_by item (is_err item) refl;
            prints = item_printed log_item_text out before now text grown left so_far.items item so_far.prints added kept;
          }

  -- nothing is left, and the rest of the text is written
  pub all_printed : (first it last : Reverse R) (out before now : Option (List ℕ)) (text grown : List ℕ) (status : ℕ) (found : Option Bool) →
      AreSoFar first it out before text status → PushesNext honest bytes faults it last text grown found → found ≡ None → Appends before now grown →
      WholeRun (NextRefStep honest bytes faults) first (λ run. (status ≡ items_status run.items) × Appends out now (log_text run.items))
  all_printed first it last out before now text grown status found so_far pushed is written = by pushed.item pushed.gives pushed.fault_is pushed.added
    where
      by : (item : Option (Result LineRef ReverseError)) → NextRefStep honest bytes faults it item last → found ≡ option_map is_err item → grown ≡ text ++ next_log_text item →
          WholeRun (NextRefStep honest bytes faults) first (λ run. (status ≡ items_status run.items) × Appends out now (log_text run.items))
      by None gives same added =
          let run = whole_run (NextRefStep honest bytes faults) first it last so_far.items so_far.gives gives in (
            run.0,
            run.1,
            run.2,
            (
              so_far.status_is ∙ ap items_status (sym run.3),
              subst (λ items. Appends out now (log_text items)) (sym run.3)
                  (rest_printed out before now text (log_text so_far.items) so_far.prints (subst (λ (x : List ℕ). Appends before now x) (added ∙ append-nil text) written)),
            ),
          )
      by (Some item) gives same added = let bad = sym is ∙ same in absurd (cc)
