-- Whole runs backwards.
use Rattle.std.proofs.Common.{◌≡◌, ◌≢◌, ℕ, ◌+◌, true, List, [], ◌∷◌, refl, sym, ◌∙◌, ap, subst, Some, None, Result, Ok, Err}
use Rattle.gix_ref_files.specs.Files.{FaultCounts}
use Rattle.std.specs.Iterator.{Yields}
use Rattle.std.specs.List.{All}
use Rattle.std.proofs.lemmas.List.Elements.{All-cons, All-nil}
use Rattle.std.specs.Iterator.Runs.{YieldsRun, EachRunFrom}
use Rattle.gix_ref_log.specs.declared.log.iter.error.ReverseError.{ReverseError}
use Rattle.gix_ref_log.specs.declared.log.iter.error.ReverseError.TheVariants.{Io, Decode, BufferTooSmall, Memory}
use Rattle.gix_ref_log.specs.declared.log.iter.backward.Reverse.{Reverse}
use Rattle.gix_ref_log.specs.declared.log.line.LineRef.{LineRef}
use Rattle.gix_ref_log.specs.declared.log.iter.decode.Error as decode
use Rattle.gix_ref_log.specs.declared.log.iter.forwards.Forward.{Forward}
use Rattle.gix_ref_log.specs.LogCuts.{log_lines}
use Rattle.gix_ref_log.specs.LogForward.{ForwardStep}
use Rattle.gix_ref_log.specs.LogItems.{Item, GivesLine, IsRunOf, IsLentRun, ReadsLent, IsAnswer, IsForwardRun, EndsAtError, count_of, faults_after}
use Rattle.gix_ref_log.specs.declared.log.iter.stage.Stage.TheVariants.{Done}
use Rattle.gix_ref_log.specs.LogWindows.{IsTied, items_left, StepOf, NextRefStep}

-- where nothing is to come, no item comes
ended : {T : Type 0} (R : ℕ → List ℕ → T → Type 0) (r : Result T ReverseError) (rest : List Item) → GivesLine R [] (Some r) rest → ⊥
ended R (Ok l) rest h = let e = h.2 in cc
ended R (Err (Decode e)) rest h = let e = h.2 in cc
ended R (Err BufferTooSmall) rest h = let e = h.0 in cc
ended R (Err Memory) rest h = let e = h.1.4 in cc
ended R (Err (Io e)) rest h = h.0 refl

module _ {F T : Type 0} (R : ℕ → List ℕ → T → Type 0) (honest : Type 0) (bytes : F → List ℕ) (faults : F → FaultCounts) where
  -- the count of faults over a run
  pub faults_law : (xs : List (Result T ReverseError)) (s t : Reverse F) (n : FaultCounts) → faults s.reader ≡ n → Yields (StepOf R honest bytes faults) s xs t → faults t.reader ≡ faults_after n xs
  faults_law [] s t n is y = ap (λ (x : Reverse F). faults x.reader) (sym y) ∙ is
  faults_law (x ∷ xs) s t n is y = faults_law xs y.0 t (count_of (Some x) n) (y.1.counts ∙ ap (count_of (Some x)) is) y.2

  -- nothing comes once it is done
  over : (xs : List (Result T ReverseError)) (s t : Reverse F) → s.stage ≡ Done → Yields (StepOf R honest bytes faults) s xs t → xs ≡ []
  over [] s t done y = refl
  over (x ∷ xs) s t done y = let e = (y.1.stays_done done).0 in absurd (cc)

  pub ends_law : (xs : List (Result T ReverseError)) (s t : Reverse F) → Yields (StepOf R honest bytes faults) s xs t → EndsAtError xs
  ends_law [] s t y = tt
  ends_law (Ok l ∷ xs) s t y = ends_law xs y.0 t y.2
  ends_law (Err (Decode d) ∷ xs) s t y = ends_law xs y.0 t y.2
  ends_law (Err BufferTooSmall ∷ xs) s t y = over xs y.0 t y.1.done y.2
  ends_law (Err Memory ∷ xs) s t y = over xs y.0 t y.1.done y.2
  ends_law (Err (Io d) ∷ xs) s t y = (over xs y.0 t y.1.done.0 y.2, y.1.done.1)

  pub each_ends : (s : Reverse F) → EachRunFrom (StepOf R honest bytes faults) s (λ p. EndsAtError p.items)
  unfolding YieldsRun
  each_ends s p seen from = let gave = p.gave.0 in ends_law p.items p.from gave.0 gave.1

module _ {F T : Type 0} (R : ℕ → List ℕ → T → Type 0) (honest : Type 0) (bytes : F → List ℕ) (faults : F → FaultCounts) (ho : honest) where
  nothing : (xs : List (Result T ReverseError)) (s t : Reverse F) → IsTied bytes s → items_left bytes s ≡ [] → Yields (StepOf R honest bytes faults) s xs t → xs ≡ []
  nothing [] s t tied none y = refl
  nothing (x ∷ xs) s t tied none y =
      absurd (ended R x (items_left bytes y.0)
      (subst (λ (items : List Item). GivesLine R items (Some x) (items_left bytes y.0)) none (y.1.gives ho tied).0))

  pub run_law : (Ended : Type 0) (xs : List (Result T ReverseError)) (s t : Reverse F) → IsTied bytes s → Yields (StepOf R honest bytes faults) s xs t
      → (Ended → (u : Reverse F) × StepOf R honest bytes faults t None u) → IsRunOf R Ended (items_left bytes s) xs
  run_law Ended [] s t tied y e = λ end.
      let last = e end in
      let step : StepOf R honest bytes faults s None last.0 = subst (λ (x : Reverse F). StepOf R honest bytes faults x None last.0) (sym y) last.1 in
      (step.gives ho tied).0.0
  run_law Ended (Ok l ∷ xs) s t tied y e =
      let step = y.1.gives ho tied in
      let h = step.0 in
      (h.0, h.1, items_left bytes y.0, h.2, h.3, run_law Ended xs y.0 t step.1 y.2 e)
  run_law Ended (Err (Decode d) ∷ xs) s t tied y e =
      let step = y.1.gives ho tied in
      let h = step.0 in
      (h.0, h.1, items_left bytes y.0, h.2, h.3, h.4, run_law Ended xs y.0 t step.1 y.2 e)
  run_law Ended (Err BufferTooSmall ∷ xs) s t tied y e =
      let step = y.1.gives ho tied in
      (step.0.0, nothing xs y.0 t step.1 step.0.1 y.2)
  run_law Ended (Err Memory ∷ xs) s t tied y e =
      let step = y.1.gives ho tied in
      (step.0.1, nothing xs y.0 t step.1 step.0.0 y.2)
  run_law Ended (Err (Io d) ∷ xs) s t tied y e =
      let step = y.1.gives ho tied in
      (step.0.0, nothing xs y.0 t step.1 step.0.1 y.2)

  -- each run from a state before the whole log
  pub each_run : (s : Reverse F) (items : List Item) → IsTied bytes s → items_left bytes s ≡ items
      → EachRunFrom (StepOf R honest bytes faults) s (λ p. IsRunOf R (p.whole ≡ true) items p.items)
  unfolding YieldsRun
  each_run s items tied is p seen from =
      let gave = p.gave.0 in
      let start : Yields (StepOf R honest bytes faults) s p.items gave.0 = subst (λ (x : Reverse F). Yields (StepOf R honest bytes faults) x p.items gave.0) from gave.1 in
      subst (λ (l : List Item). IsRunOf R (p.whole ≡ true) l p.items) is (run_law (p.whole ≡ true) p.items s gave.0 tied start gave.2)

-- runs of lent lines: their steps, and that none lacks memory
module _ {F : Type 0} (honest : Type 0) (bytes : F → List ℕ) (faults : F → FaultCounts) where
  lent_steps : (xs : List (Result LineRef ReverseError)) (s t : Reverse F) → Yields (NextRefStep honest bytes faults) s xs t
      → Yields (StepOf ReadsLent honest bytes faults) s xs t × All (λ r. r ≢ Err Memory) xs
  lent_steps [] s t y = (y, All-nil (λ r. r ≢ Err Memory))
  lent_steps (x ∷ xs) s t y =
      let rest = lent_steps xs y.0 t y.2 in
      ((y.0, y.1.0, rest.0), All-cons (λ r. r ≢ Err Memory) x xs (λ is. y.1.1 (ap Some is)) rest.1)

  pub lent_faults_law : (xs : List (Result LineRef ReverseError)) (s t : Reverse F) (n : FaultCounts) → faults s.reader ≡ n → Yields (NextRefStep honest bytes faults) s xs t → faults t.reader ≡ faults_after n xs
  lent_faults_law xs s t n is y = faults_law ReadsLent honest bytes faults xs s t n is (lent_steps xs s t y).0

  pub each_lent_ends : (s : Reverse F) → EachRunFrom (NextRefStep honest bytes faults) s (λ p. EndsAtError p.items)
  unfolding YieldsRun
  each_lent_ends s p seen from = let gave = p.gave.0 in ends_law ReadsLent honest bytes faults p.items p.from gave.0 (lent_steps p.items p.from gave.0 gave.1).0

  pub each_lent_run : honest → (s : Reverse F) (items : List Item) → IsTied bytes s → items_left bytes s ≡ items
      → EachRunFrom (NextRefStep honest bytes faults) s (λ p. IsLentRun (p.whole ≡ true) items p.items)
  unfolding YieldsRun
  each_lent_run ho s items tied is p seen from =
      let gave = p.gave.0 in
      let start : Yields (NextRefStep honest bytes faults) s p.items gave.0 = subst (λ (x : Reverse F). Yields (NextRefStep honest bytes faults) x p.items gave.0) from gave.1 in
      let steps = lent_steps p.items s gave.0 start in (
        subst (λ (l : List Item). IsRunOf ReadsLent (p.whole ≡ true) l p.items) is
            (run_law ReadsLent honest bytes faults ho (p.whole ≡ true) p.items s gave.0 tied steps.0 (λ end. let last = gave.2 end in (last.0, last.1.0))),
        steps.1,
      )

-- forward
pub forward_law : (Ended : Type 0) (n : ℕ) (xs : List (Result LineRef decode.Error)) (s t : Forward) → s.count + 1 ≡ n → Yields ForwardStep s xs t
    → (Ended → (u : Forward) × ForwardStep t None u) → IsForwardRun Ended n (log_lines s.rest.now) xs
forward_law Ended n [] s t is y e = λ end.
    let last = e end in
    (subst (λ (x : Forward). ForwardStep x None last.0) (sym y) last.1).0
forward_law Ended n (r ∷ xs) s t is y e =
    let step = y.1 in
    let h = subst (λ (k : ℕ). IsAnswer k step.0 r) is step.2 in
    (step.0, log_lines y.0.rest.now, step.1, h, forward_law Ended (n + 1) xs y.0 t (ap (λ (k : ℕ). k + 1) (step.3 ∙ is)) y.2 e)

pub each_forward : (s : Forward) (lines : List (List ℕ)) → s.count ≡ 0 → log_lines s.rest.now ≡ lines → EachRunFrom ForwardStep s (λ p. IsForwardRun (p.whole ≡ true) 1 lines p.items)
unfolding YieldsRun
each_forward s lines first is p seen from =
    let gave = p.gave.0 in
    let start : Yields ForwardStep s p.items gave.0 = subst (λ (x : Forward). Yields ForwardStep x p.items gave.0) from gave.1 in
    subst (λ (l : List (List ℕ)). IsForwardRun (p.whole ≡ true) 1 l p.items) is (forward_law (p.whole ≡ true) 1 p.items s gave.0 (ap (λ (k : ℕ). k + 1) first) start gave.2)
