-- Edits whose names are composed (`core.precomposeUnicode` of `git config`).
use Rattle.std.specs.Prelude.{◌≡◌, ℕ, List, [], ◌∷◌, Bool, true, false, if◌then◌else◌}
use Rattle.std.specs.Option.{is_none}
use Rattle.gix_ref_name.specs.NameGrammar.{full_error}
use Rattle.gix_ref_name.specs.ComposedNames.{composed}
use Rattle.gix_ref_edits.specs.RefEdits.{name_of}
use Rattle.gix_ref_edits.specs.declared.transaction.RefEdit.{RefEdit}

-- the composed form of a full name, where that is a full name too; else the name
abbrev pub composed_full : List ℕ → List ℕ
composed_full n = if is_none (full_error (composed n)) then composed n else n

-- the same edit of the composed name
pub record IsComposedEdit (given asked : RefEdit) : Type 0 where
  pub name : name_of asked ≡ composed_full (name_of given)
  pub change : asked.change ≡ given.change
  pub deref : asked.deref ≡ given.deref

-- and so each of a list
abbrev pub AreComposedEdits : (given asked : List RefEdit) → Type 0
AreComposedEdits [] [] = Unit {0}
AreComposedEdits [] (edit ∷ asked) = ⊥
AreComposedEdits (edit ∷ given) [] = ⊥
AreComposedEdits (edit ∷ given) (other ∷ asked) = IsComposedEdit edit other
    × AreComposedEdits given asked

-- The edits that a store is asked for: those that are given; of the composed names, where it composes names.
abbrev pub AreAskedAs : (composes : Bool) → (given asked : List RefEdit) → Type 0
AreAskedAs false given asked = asked ≡ given
AreAskedAs true given asked = AreComposedEdits given asked
