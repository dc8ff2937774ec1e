-- Runs of any number of steps: what each step promises by itself, all of them promise together.
use Rattle.std.proofs.Common.{◌≡◌, inl, inr, List, [], ◌∷◌, ◌++◌, refl, sym, ap, subst, arith}
use Rattle.gix_ref_files.specs.Tree.{Tree}
use Rattle.gix_ref_files.specs.Disk.{Lost}
use Rattle.gix_ref_files.specs.Files.{Meaning, disk_of, Leaves, Loses}
use Rattle.gix_ref_files.proofs.Moments.{starts, weaken, joins, loses_weaken, loses_joins}
use Rattle.gix_ref_theory.specs.Sequences.{AreDone, AtNext, IsWithinSteps, HaveRun}

-- before the first step
pub loses_starts : (now : Meaning) (P : Tree → Type 0) → ((T : Tree) → Lost (disk_of now) T → P T) → Loses now now P
loses_starts now P here = record { now = here; later = omega arith; since = λ t T le lost. inl lost; keeps = λ t T le lost. lost }

-- Chains of steps.

module _ {A S : Type 0} (Done : A → S → S → Type 0) where
  -- one more step at the end
  pub done_more : (steps : List A) (a : A) (first mid last : S) → AreDone Done steps first mid → Done a mid last → AreDone Done (steps ++ a ∷ []) first last
  done_more [] a first mid last are one = (last, subst (λ (s : S). Done a s last) are one, refl)
  done_more (b ∷ steps) a first mid last (next, b_done, are) one = (next, b_done, done_more steps a next mid last are one)

  -- one chain and then another
  pub done_then : (steps more : List A) (first mid last : S) → AreDone Done steps first mid → AreDone Done more mid last → AreDone Done (steps ++ more) first last
  done_then [] more first mid last are then = subst (λ (s : S). AreDone Done more s last) are then
  done_then (b ∷ steps) more first mid last (next, b_done, are) then = (next, b_done, done_then steps more next mid last are then)

  -- what each step keeps, all of them keep
  pub done_keeps : (Good : S → Type 0) → ((a : A) (s t : S) → Done a s t → Good s → Good t) → (steps : List A) (first last : S) → AreDone Done steps first last → Good first → Good last
  done_keeps Good keeps [] first last are good = subst Good (sym are) good
  done_keeps Good keeps (a ∷ steps) first last (mid, a_done, are) good = done_keeps Good keeps steps mid last are (keeps a first mid a_done good)

-- What is within the steps.

module _ {A S : Type 0} (Done : A → S → S → Type 0) (Ends : S → Type 0) (Begun : A → S → Type 0) where
  -- before the first step
  pub within_first : (steps : List A) (s : S) → AtNext Ends Begun steps s → IsWithinSteps Done Ends Begun steps s
  within_first steps s left = record { done = []; rest = steps; steps_are = refl; state = s; are_done = refl; left = left }

  -- in the step that follows these
  pub within_next : (steps done rest : List A) (a : A) (first s : S) → steps ≡ done ++ a ∷ rest → AreDone Done done first s → Begun a s → IsWithinSteps Done Ends Begun steps first
  within_next steps done rest a first s are were begun = record { done = done; rest = a ∷ rest; steps_are = are; state = s; are_done = were; left = begun }

  -- after the last one
  pub within_all : (steps : List A) (first s : S) → AreDone Done steps first s → Ends s → IsWithinSteps Done Ends Begun steps first
  within_all steps first s were ends = record { done = steps; rest = []; steps_are = sym (append_nil steps); state = s; are_done = were; left = ends }
    where
      append_nil : (xs : List A) → xs ++ [] ≡ xs
      append_nil [] = refl
      append_nil (x ∷ xs) = ap (λ (ys : List A). x ∷ ys) (append_nil xs)

  -- of the steps after one that was done, within all
  pub within_rest : (a : A) (steps : List A) (first mid : S) → Done a first mid → IsWithinSteps Done Ends Begun steps mid → IsWithinSteps Done Ends Begun (a ∷ steps) first
  within_rest a steps first mid a_done within = record {
    done = a ∷ within.done;
    rest = within.rest;
    steps_are = ap (λ (xs : List A). a ∷ xs) within.steps_are;
    state = within.state;
    are_done = (mid, a_done, within.are_done);
    left = within.left;
  }

-- Runs: what a stop leaves.

module _ {A S : Type 0} (means : S → Meaning) (Done Fails : A → S → S → Type 0) (Ends : Tree → S → Type 0) (Begun : Tree → A → S → Type 0) where
  -- what a stop within the steps leaves
  abbrev pub Within : List A → S → Tree → Type 0
  Within steps first T = IsWithinSteps Done (Ends T) (Begun T) steps first

  -- The next step of a run: where the steps before it were done, and the run so far left what is within the steps, so does the run with this
  -- step, however it ended.
  pub stops_go_on : (steps done rest : List A) (a : A) (first mid new : S) → steps ≡ done ++ a ∷ rest → AreDone Done done first mid →
      Leaves (means first) (means mid) (Within steps first) → Leaves (means mid) (means new) (λ T. Begun T a mid) → Leaves (means first) (means new) (Within steps first)
  stops_go_on steps done rest a first mid new are were before step =
      joins before (weaken step (λ T begun. within_next Done (Ends T) (Begun T) steps done rest a first mid are were begun))

  -- a run that is not begun
  pub stops_begin : (steps : List A) (first : S) → ((s : S) → Ends (means s).tree s) → ((a : A) (s : S) → Begun (means s).tree a s) → Leaves (means first) (means first) (Within steps first)
  stops_begin steps first ends begins = starts (means first) (Within steps first) (within_first Done (Ends (means first).tree) (Begun (means first).tree) steps first (at steps))
    where
      at : (rest : List A) → AtNext (Ends (means first).tree) (Begun (means first).tree) rest first
      at [] = ends first
      at (a ∷ rest) = begins a first

  -- What a single step has to promise, from states that are good: it leaves what a stop in it may leave, and where it was done the next one
  -- begins as well.
  pub record StopsSafely (Good : S → Type 0) : Type 0 where
    pub ends : (s : S) → Ends (means s).tree s
    pub begins : (a : A) (s : S) → Begun (means s).tree a s
    pub done_leaves : (a : A) (s t : S) → Good s → Done a s t → Leaves (means s) (means t) (λ T. Begun T a s)
    pub fails_leaves : (a : A) (s t : S) → Good s → Fails a s t → Leaves (means s) (means t) (λ T. Begun T a s)
    pub keeps : (a : A) (s t : S) → Done a s t → Good s → Good t

  -- And so runs of any length leave what is within their steps.
  pub every_stop : (Good : S → Type 0) → StopsSafely Good → (steps : List A) (first last : S) → Good first → HaveRun Done Fails steps first last → Leaves (means first) (means last) (Within steps first)
  every_stop Good safe steps first last good (inl were) = whole steps first last good were
    where
      whole : (steps : List A) (first last : S) → Good first → AreDone Done steps first last → Leaves (means first) (means last) (Within steps first)
      whole [] first last good were = subst (λ (s : S). Leaves (means first) (means s) (Within [] first)) (sym were) (stops_begin [] first safe.ends safe.begins)
      whole (a ∷ steps) first last good (mid, a_done, were) =
          joins (weaken (safe.done_leaves a first mid good a_done) (λ T begun. within_first Done (Ends T) (Begun T) (a ∷ steps) first begun))
          (weaken (whole steps mid last (safe.keeps a first mid a_done good) were) (λ T within. within_rest Done (Ends T) (Begun T) a steps first mid a_done within))
  every_stop Good safe steps first last good (inr end) = subst (λ (xs : List A). Leaves (means first) (means last) (Within xs first)) (sym end.steps_are) (early end.done first good end.are_done)
    where
      early : (done : List A) (first : S) → Good first → AreDone Done done first end.state → Leaves (means first) (means last) (Within (done ++ end.step ∷ end.rest) first)
      early [] first good were =
          let at : Good end.state = subst Good (sym were) good in
          subst (λ (s : S). Leaves (means s) (means last) (Within (end.step ∷ end.rest) s)) were
          (weaken (safe.fails_leaves end.step end.state last at end.fails) (λ T begun. within_first Done (Ends T) (Begun T) (end.step ∷ end.rest) end.state begun))
      early (a ∷ done) first good (mid, a_done, were) =
          joins (weaken (safe.done_leaves a first mid good a_done) (λ T begun. within_first Done (Ends T) (Begun T) (a ∷ (done ++ end.step ∷ end.rest)) first begun))
          (weaken (early done mid (safe.keeps a first mid a_done good) were) (λ T within. within_rest Done (Ends T) (Begun T) a (done ++ end.step ∷ end.rest) first mid a_done within))

-- Runs: what a loss of power leaves. `Rests` are the states of which all is settled but locks.

module _ {A S : Type 0} (means : S → Meaning) (Done Fails : A → S → S → Type 0) (Ends : Tree → S → Type 0) (Begun : Tree → A → S → Type 0) where
  pub losses_go_on : (steps done rest : List A) (a : A) (first mid new : S) → steps ≡ done ++ a ∷ rest → AreDone Done done first mid →
      Loses (means first) (means mid) (Within means Done Fails Ends Begun steps first) → Loses (means mid) (means new) (λ T. Begun T a mid) →
      Loses (means first) (means new) (Within means Done Fails Ends Begun steps first)
  losses_go_on steps done rest a first mid new are were before step =
      loses_joins before (loses_weaken step (λ T begun. within_next Done (Ends T) (Begun T) steps done rest a first mid are were begun))

  -- What a single step has to promise, from states that are good: that a loss of power on the disk of such a state leaves what the end or the
  -- next step may leave; that a loss in a step leaves what it may; and that where it was done the next one begins as well.
  pub record LosesSafely (Good : S → Type 0) : Type 0 where
    pub ends : (s : S) (T : Tree) → Good s → Lost (disk_of (means s)) T → Ends T s
    pub begins : (a : A) (s : S) (T : Tree) → Good s → Lost (disk_of (means s)) T → Begun T a s
    pub done_loses : (a : A) (s t : S) → Good s → Done a s t → Loses (means s) (means t) (λ T. Begun T a s)
    pub fails_loses : (a : A) (s t : S) → Good s → Fails a s t → Loses (means s) (means t) (λ T. Begun T a s)
    pub keeps : (a : A) (s t : S) → Done a s t → Good s → Good t

  -- And so runs of any length leave what is within their steps.
  pub every_loss : (Good : S → Type 0) → LosesSafely Good → (steps : List A) (first last : S) → Good first → HaveRun Done Fails steps first last → Loses (means first) (means last) (Within means Done Fails Ends Begun steps first)
  every_loss Good safe steps first last good (inl were) = whole steps first last good were
    where
      whole : (steps : List A) (first last : S) → Good first → AreDone Done steps first last → Loses (means first) (means last) (Within means Done Fails Ends Begun steps first)
      whole [] first last good were = subst (λ (s : S). Loses (means first) (means s) (Within means Done Fails Ends Begun [] first)) (sym were)
          (loses_starts (means first) (Within means Done Fails Ends Begun [] first) (λ T lost. within_first Done (Ends T) (Begun T) [] first (safe.ends first T good lost)))
      whole (a ∷ steps) first last good (mid, a_done, were) =
          loses_joins (loses_weaken (safe.done_loses a first mid good a_done) (λ T begun. within_first Done (Ends T) (Begun T) (a ∷ steps) first begun))
          (loses_weaken (whole steps mid last (safe.keeps a first mid a_done good) were) (λ T within. within_rest Done (Ends T) (Begun T) a steps first mid a_done within))
  every_loss Good safe steps first last good (inr end) = subst (λ (xs : List A). Loses (means first) (means last) (Within means Done Fails Ends Begun xs first)) (sym end.steps_are) (early end.done first good end.are_done)
    where
      early : (done : List A) (first : S) → Good first → AreDone Done done first end.state → Loses (means first) (means last) (Within means Done Fails Ends Begun (done ++ end.step ∷ end.rest) first)
      early [] first good were =
          let at : Good end.state = subst Good (sym were) good in
          subst (λ (s : S). Loses (means s) (means last) (Within means Done Fails Ends Begun (end.step ∷ end.rest) s)) were
          (loses_weaken (safe.fails_loses end.step end.state last at end.fails) (λ T begun. within_first Done (Ends T) (Begun T) (end.step ∷ end.rest) end.state begun))
      early (a ∷ done) first good (mid, a_done, were) =
          loses_joins (loses_weaken (safe.done_loses a first mid good a_done) (λ T begun. within_first Done (Ends T) (Begun T) (a ∷ (done ++ end.step ∷ end.rest)) first begun))
          (loses_weaken (early done mid (safe.keeps a first mid a_done good) were) (λ T within. within_rest Done (Ends T) (Begun T) a (done ++ end.step ∷ end.rest) first mid a_done within))
