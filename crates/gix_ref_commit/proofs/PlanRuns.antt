-- A run of a plan, by its entries.
use Rattle.std.proofs.Common.{◌≡◌, ℕ, zero, suc, ◌<◌, List, [], ◌∷◌, ◌++◌, refl, sym, ◌∙◌, ap, subst, length, get_or, arith}
use Rattle.gix_ref_files.proofs.Meeting.{met_after, more_after, fewer_same}
use Rattle.std.proofs.lemmas.List.{map-append}
use Rattle.gix_ref_files.specs.Tree.{Tree}
use Rattle.gix_ref_files.specs.Files.{FaultCounts, NoFewer}
use Rattle.gix_ref_files.specs.Steps.{Step, IsAfter, EndsBy, EndsAt, HasMemory, count_ended, steps_of, step_of}
use Rattle.gix_ref_files.specs.DiskSteps.{Synced, synced_step, synced_steps}
use Rattle.gix_ref_files.specs.declared.steps.Cause.{Cause}
use Rattle.gix_ref_files.specs.declared.steps.Cause.TheVariants.{File, Sync, Unexpected, Asked}
use Rattle.gix_ref_files.specs.declared.steps.Ended.{Ended}
use Rattle.gix_ref_files.specs.declared.steps.Planned.{Planned}
use Rattle.gix_ref_commit.specs.Entries.{Entry, entry, entries, bare_steps, steps_in}
use Rattle.gix_ref_commit.specs.Unfinished.{EndsIn, IsRaised, IsRaisedBy, IsStepAt}
use Rattle.gix_ref_commit.specs.declared.plan.About.{About}
use Rattle.gix_ref_commit.specs.declared.run.Unfinished.{Unfinished}
use Rattle.gix_ref_commit.specs.declared.run.Unfinished.TheVariants.{Memory, Step as AtStep}

bares_of : (plan : List (Planned About)) → steps_of plan ≡ bare_steps (entries plan)
bares_of [] = refl
bares_of (p ∷ plan) = ap (λ (l : List Step). step_of p.action ∷ l) (bares_of plan)

synced_of : (plan : List (Planned About)) → synced_steps plan ≡ steps_in (entries plan)
synced_of [] = refl
synced_of (p ∷ plan) = ap (λ (l : List Synced). synced_step p ∷ l) (synced_of plan)

-- the steps of a plan whose entries are these
pub bares_are : (plan : List (Planned About)) (es : List Entry) → entries plan ≡ es → steps_of plan ≡ bare_steps es
bares_are plan es are = bares_of plan ∙ ap bare_steps are

pub synced_are : (plan : List (Planned About)) (es : List Entry) → entries plan ≡ es → synced_steps plan ≡ steps_in es
synced_are plan es are = synced_of plan ∙ ap steps_in are

-- a list cut at one of its places
record IsCut (plan : List (Planned About)) (k : ℕ) : Type 0 where
  before : List (Planned About)
  at : Planned About
  rest : List (Planned About)
  is : plan ≡ before ++ at ∷ rest
  number : length before ≡ k
  there : (d : Planned About) → get_or plan k d ≡ at

cut_at : (plan : List (Planned About)) (k : ℕ) → k < length plan → IsCut plan k
cut_at [] k lt = absurd (omega (arith, lt))
cut_at (p ∷ plan) zero lt = record { before = []; at = p; rest = plan; is = refl; number = refl; there = λ d. refl }
cut_at (p ∷ plan) (suc k) lt =
    let c = cut_at plan k (omega (arith, lt)) in
    record { before = p ∷ c.before; at = c.at; rest = c.rest; is = ap (λ (l : List (Planned About)). p ∷ l) c.is; number = ap suc c.number; there = c.there }

-- a run that ended after some steps
ends_behind : (xs : List Step) (x : Step) (rest : List Step) (k : ℕ) (cause : Cause) (S T : Tree) → length xs ≡ k → EndsAt (xs ++ x ∷ rest) k cause S T → (mid : Tree) × IsAfter xs S mid × EndsBy x cause mid T
ends_behind [] x rest zero cause S T is ends = (S, refl, ends)
ends_behind [] x rest (suc k) cause S T is ends = absurd (omega (arith, is))
ends_behind (y ∷ xs) x rest zero cause S T is ends = absurd (omega (arith, is))
ends_behind (y ∷ xs) x rest (suc k) cause S T is (next, done, ends) =
    let later = ends_behind xs x rest k cause next T (omega (arith, is)) ends in (later.0, (next, done, later.1), later.2)

same_length : (plan : List (Planned About)) → length (steps_of plan) ≡ length plan
same_length [] = refl
same_length (p ∷ plan) = ap suc (same_length plan)

-- where a run ended
pub ends_in : (honest : Type 0) (plan : List (Planned About)) (es : List Entry) (ended : Ended) (u : Unfinished) (S T : Tree) → entries plan ≡ es → ended.at < length plan → IsStepAt plan ended u →
    (honest → EndsAt (steps_of plan) ended.at ended.cause S T) → EndsIn honest es S T u
ends_in honest plan es ended Memory S T are lt is ends = tt
ends_in honest plan es ended (AtStep about cause) S T are lt is ends =
    let c = cut_at plan ended.at lt in
    let same : c.at.about ≡ about = sym (ap (λ (p : Planned About). p.about) (c.there c.at)) ∙ is.0 c.at in
    record {
      before = entries c.before;
      step = synced_step c.at;
      rest = entries c.rest;
      cut = sym are ∙ (ap entries c.is ∙ (map-append entry c.before (c.at ∷ c.rest) ∙ ap (λ (a : About). entries c.before ++ (synced_step c.at, a) ∷ entries c.rest) same));
      ended = λ h.
          let whole : EndsAt (steps_of c.before ++ step_of c.at.action ∷ steps_of c.rest) ended.at ended.cause S T =
          subst (λ (l : List Step). EndsAt l ended.at ended.cause S T) (ap steps_of c.is ∙ map-append (λ (p : Planned About). step_of p.action) c.before (c.at ∷ c.rest)) (ends h) in
          let m = ends_behind (steps_of c.before) (step_of c.at.action) (steps_of c.rest) ended.at ended.cause S T (same_length c.before ∙ c.number) whole in
          (m.0, subst (λ (l : List Step). IsAfter l S m.0) (bares_of c.before) m.1, subst (λ (why : Cause). EndsBy (step_of c.at.action) why m.0 T) (sym is.1) m.2);
    }

-- no fault is forgotten
pub no_fewer_at_end : (cause : Cause) (a b : FaultCounts) → b ≡ count_ended cause a → NoFewer a b
no_fewer_at_end (File error) a b is = subst (NoFewer a) (sym is) (more_after error a)
no_fewer_at_end (Sync error) a b is = subst (NoFewer a) (sym is) (more_after error a)
no_fewer_at_end Unexpected a b is = fewer_same a b is
no_fewer_at_end Asked a b is = fewer_same a b is

-- and a fault at the step where a run ended is counted
raised_by : (cause : Cause) (a b : FaultCounts) → b ≡ count_ended cause a → HasMemory cause → IsRaisedBy a b cause
raised_by (File error) a b is other = (met_after error a b other is, other)
raised_by (Sync error) a b is other = (met_after error a b other is, other)
raised_by Unexpected a b is other = tt
raised_by Asked a b is other = tt

pub raised_at_end : (plan : List (Planned About)) (ended : Ended) (u : Unfinished) (a b : FaultCounts) → IsStepAt plan ended u → b ≡ count_ended ended.cause a → HasMemory ended.cause → IsRaised a b u
raised_at_end plan ended Memory a b at is other = tt
raised_at_end plan ended (AtStep about cause) a b at is other = subst (IsRaisedBy a b) (sym at.1) (raised_by ended.cause a b is other)
