-- Steps one after the other, as the transactions of a script: each is begun only where the one before was done.
use Rattle.std.specs.Prelude.{◌≡◌, ◌⊎◌, List, [], ◌∷◌, ◌++◌}

module _ {A S : Type 0} where
  -- the steps were done in turn, from the state `first` to `last`
  abbrev pub AreDone : (Done : A → S → S → Type 0) → List A → (first last : S) → Type 0
  AreDone Done [] first last = last ≡ first
  AreDone Done (a ∷ steps) first last =
      (mid : S) × Done a first mid × AreDone Done steps mid last

  -- what holds at a state with these steps to come: `Ends`, where none is, and else what the next one is begun with
  abbrev pub AtNext : (Ends : S → Type 0) → (Begun : A → S → Type 0) → List A → S → Type 0
  AtNext Ends Begun [] s = Ends s
  AtNext Ends Begun (a ∷ rest) s = Begun a s

  -- Within the steps: states follow one another from `first`, each made of the one before by the next step, done; and what is left is
  -- of the last of these states and of the step that follows, or of that state alone, where none follows.
  pub record IsWithinSteps (Done : A → S → S → Type 0) (Ends : S → Type 0)
      (Begun : A → S → Type 0) (steps : List A) (first : S) : Type 0 where
    pub done : List A
    pub rest : List A
    pub steps_are : steps ≡ done ++ rest
    pub state : S
    pub are_done : AreDone Done done first state
    pub left : AtNext Ends Begun rest state

  -- One step ended otherwise: those before it were done, and none after it was begun.
  pub record EndsAtStep (Done Fails : A → S → S → Type 0) (steps : List A)
      (first last : S) : Type 0 where
    pub done : List A
    pub step : A
    pub rest : List A
    pub steps_are : steps ≡ done ++ step ∷ rest
    pub state : S
    pub are_done : AreDone Done done first state
    pub fails : Fails step state last

  -- what became of the steps: all were done, or they ended at one
  abbrev pub HaveRun : (Done Fails : A → S → S → Type 0) → List A → (first last : S) → Type 0
  HaveRun Done Fails steps first last = AreDone Done steps first last
      ⊎ EndsAtStep Done Fails steps first last
