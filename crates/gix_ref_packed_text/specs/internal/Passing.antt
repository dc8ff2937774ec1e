-- Records that are passed at the front of a text.
use Rattle.std.specs.Prelude.{◌≡◌, ◌≤◌, ◌+◌, ℕ, List, [], ◌∷◌, ◌++◌, length}
use Rattle.std.specs.List.{All}
use Rattle.gix_ref_hash.specs.declared.hash.Kind.{Kind}
use Rattle.gix_ref_target.specs.PackedRecords.{Record}
use Rattle.gix_ref_packed_text.specs.RecordGrammar.{Records, Below, Ascending}
use Rattle.gix_ref_packed_text.specs.OpenedText.{Fronts, line_count}
use Rattle.gix_ref_packed_text.specs.declared.ahead.Ahead.{Ahead}

-- these records are at the front, and that is what follows them
pub record PassesRecords (kind : Kind) (old : Ahead) (passed : List Record)
    (new : Ahead) : Type 0 where
  pub fronts : Fronts kind old.rest.now passed new.rest.now
  pub number : new.line ≡ old.line + line_count passed
  pub shorter : length new.rest.now ≤ length old.rest.now

-- Records are passed until so many bytes are left, or less. Where that many bytes follow some records, these are passed.
pub record PassesUntil (kind : Kind) (left : ℕ) (old new : Ahead) : Type 0 where
  pub passed : List Record
  pub passes : PassesRecords kind old passed new
  pub within : length new.rest.now ≤ left
  pub exact : (rs : List Record) (mid : List ℕ) → Fronts kind old.rest.now rs mid →
      length mid ≡ left → (rs ≡ passed) × (mid ≡ new.rest.now)

-- the first record is not below the key
abbrev pub IsNotAhead : List ℕ → List Record → Type 0
IsNotAhead key [] = Unit {0}
IsNotAhead key (r ∷ rs) = Below r.name key → ⊥

-- Records are passed. Where the whole is records in the order of their names, these are the ones below the key.
pub record PassesBelow (kind : Kind) (key : List ℕ) (old new : Ahead) : Type 0 where
  pub passed : List Record
  pub passes : PassesRecords kind old passed new
  pub splits : (more : List Record) → Records kind new.rest.now more → Ascending (passed ++ more) →
      All (λ r. Below r.name key) passed × IsNotAhead key more
