-- Following symbolic references to an object (`git symbolic-ref`): each step is a lookup of the symbolic target.
use Rattle.std.specs.Prelude.{◌≡◌, ◌≤◌, ℕ, zero, suc, List, [], ◌∷◌, ◌++◌, Option, Some, None, Bool, false, bytes_eq, if◌then◌else◌}
use Rattle.std.specs.List.{list_any}
use Rattle.gix_ref_hash.specs.declared.hash.ObjectId.{ObjectId}
use Rattle.gix_ref_name.specs.Names.{full_bytes}
use Rattle.gix_ref_target.specs.Targets.{TargetValue, target_value}
use Rattle.gix_ref_target.specs.Targets.TargetValue.{object_id, symbolic_name}
use Rattle.gix_ref_packed_text.specs.declared.raw.Reference.{Reference}
use Rattle.gix_ref_theory.specs.Lookups.{Hit}
use Rattle.gix_ref_theory.specs.Readings.{Reading}
use Rattle.gix_ref_theory.specs.Readings.Reading.{Is, Fault, Absent}

-- A reference as a value: its name, its target, and the object at the end of its tags, where that is known.
pub record At : Type 0 where
  pub name : List ℕ
  pub target : TargetValue
  pub peeled : Option ObjectId

abbrev pub at_of : Reference → At
at_of r = record { name = full_bytes r.name; target = target_value r.target; peeled = r.peeled }

-- what a lookup finds under a name
abbrev pub HitsByName : Type 0
HitsByName = List ℕ → Option Hit

-- how a following ends, and at which reference
pub data EndOfChain : Type 0 where
  -- the target is this object
  Reached : At → ObjectId → EndOfChain
  -- there is no reference of the name that is the target
  Dangling : At → List ℕ → EndOfChain
  -- there is one, and it has no target that can be read
  Unreadable : At → EndOfChain
  -- there is one, and a step has reached it before
  Circular : At → EndOfChain
  -- the last step that may be taken led here
  TooDeep : At → EndOfChain

abbrev pub is_one_of : List ℕ → List (List ℕ) → Bool
is_one_of name names = list_any (bytes_eq name) names

-- at the reference that a lookup found, with this reading; `more` goes on from it
abbrev pub arrive : (reached : List (List ℕ)) → (more : At → EndOfChain) → At → Hit →
    Reading → EndOfChain
arrive reached more at hit (Is target) =
    if is_one_of hit.name reached then Circular at
    else more (record { name = hit.name; target = target; peeled = hit.peeled })
arrive reached more at hit Fault = Unreadable at
arrive reached more at hit Absent = Unreadable at

-- one step, by what the lookup of the symbolic target finds
abbrev pub step_by : (reached : List (List ℕ)) → (more : At → EndOfChain) → At → List ℕ →
    Option Hit → EndOfChain
step_by reached more at name None = Dangling at name
step_by reached more at name (Some hit) = arrive reached more at hit hit.reading

-- at an object, or one step on
abbrev pub step_from : HitsByName → (reached : List (List ℕ)) → (more : At → EndOfChain) → At →
    TargetValue → EndOfChain
step_from find reached more at (object_id id) = Reached at id
step_from find reached more at (symbolic_name name) = step_by reached more at name (find name)

-- With so many steps left, after the references of these names, which earlier steps reached. The last step is taken and then
-- refused, whatever it reached.
unfoldable pub follow : HitsByName → (steps : ℕ) → (reached : List (List ℕ)) → At → EndOfChain
follow find zero reached at = TooDeep at
follow find (suc steps) reached at = step_from find reached
    (λ next. follow find steps (reached ++ next.name ∷ []) next) at at.target

-- From a reference: up to four steps lead to an object, and a fifth is refused. The name of the start may come again.
abbrev pub following : HitsByName → At → EndOfChain
following find start = follow find 5 [] start

-- one step leads from a reference with a symbolic target to what its lookup finds
pub record IsStep (find : HitsByName) (at next : At) : Type 0 where
  pub name : List ℕ
  pub hit : Hit
  pub target : at.target ≡ symbolic_name name
  pub found : find name ≡ Some hit
  pub named : next.name ≡ hit.name
  pub reads : hit.reading ≡ Is next.target
  pub peeled : next.peeled ≡ hit.peeled

-- so many steps of a kind lead from one to the other
abbrev pub Leads : {A : Type 0} → (A → A → Type 0) → (steps : ℕ) → A → A → Type 0
Leads Step zero start end = start ≡ end
Leads {A} Step (suc steps) start end = (before : A) × Leads Step steps start before
    × Step before end

-- a reference that a following passes, the start included
abbrev pub LeadsWithinLimit : {A : Type 0} → (A → A → Type 0) → A → A → Type 0
LeadsWithinLimit Step start end = (steps : ℕ) × (steps ≤ 5) × Leads Step steps start end

-- So many steps lead from one reference to another, to references of these names, none of which an earlier step reached.
abbrev pub ChainOfSteps : HitsByName → (steps : ℕ) → (start : At) → (reached : List (List ℕ)) →
    (end : At) → Type 0
ChainOfSteps find zero start reached end = (start ≡ end) × (reached ≡ [])
ChainOfSteps find (suc steps) start reached end =
    (before : At) × (earlier : List (List ℕ)) × ChainOfSteps find steps start earlier before
    × IsStep find before end
    × (is_one_of end.name earlier ≡ false) × (reached ≡ earlier ++ end.name ∷ [])
