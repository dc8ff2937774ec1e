-- Where changes put something.
use Rattle.std.proofs.Common.{◌≡◌, ◌⊎◌, inl, inr, ⊎_elim, ℕ, ◌+◌, ◌<◌, List, [], ◌∷◌, length, drop, get_or, Option, Some, None, Bool, true, false, IsSome, refl, sym, ◌∙◌, ap, subst}
use Rattle.std.specs.Prelude.{bytes_eq, if◌then◌else◌}
use Rattle.std.proofs.lemmas.Slice.Eq.{bytes_eq-Decides}
use Rattle.std.proofs.lemmas.List.{drop_more}
use Rattle.gix_ref_files.specs.Tree.{Tree, Path, Content, no_tree}
use Rattle.gix_ref_files.specs.Tree.Content.{File}
use Rattle.gix_ref_memory.specs.Changes.{after_changes, changed, content_after, content_of, place_of, IsChangedPath}
use Rattle.gix_ref_memory.specs.declared.memory.changes.Change.{Change}
use Rattle.gix_ref_memory.specs.declared.memory.changes.Change.TheVariants.{Put, Append, Move, SyncFile, SyncFolder}

put_here : (p q : Path) (new content : Option Content) → IsSome (if bytes_eq p q then new else content) → (p ≡ q) ⊎ IsSome content
put_here p q new content some = by_path (bytes_eq p q) refl some
  where
    by_path : (same : Bool) → bytes_eq p q ≡ same → IsSome (if same then new else content) → (p ≡ q) ⊎ IsSome content
    by_path true eq present = inl ((bytes_eq-Decides p q).0 eq)
    by_path false eq present = inr present

-- what is there after a change was there before, or the change put it there
put_or_stood : (change : Change) (q : Path) (content : Option Content) → IsSome (content_after change q content) → (place_of change ≡ q) ⊎ IsSome content
put_or_stood (Put path stored synced) q content some = put_here path.items q (content_of stored) content some
put_or_stood (Append path whole had) q content some = put_here path.items q (Some (File whole.items)) content some
put_or_stood (Move from to bytes synced) q content some =
    ⊎_elim (λ here. inl here) (λ stood. inr (gone (bytes_eq from.items q) stood)) (put_here to.items q (Some (File bytes.items)) (if bytes_eq from.items q then None else content) some)
  where
    gone : (same : Bool) → IsSome (if same then None else content) → IsSome content
    gone true stood = absurd (cc)
    gone false stood = stood
put_or_stood (SyncFile path) q content some = inr some
put_or_stood (SyncFolder path) q content some = inr some

placed_or_stood : (changes : List Change) (T : Tree) (q : Path) → IsSome (after_changes changes T q) → IsChangedPath changes q ⊎ IsSome (T q)
placed_or_stood [] T q some = inr some
placed_or_stood (change ∷ changes) T q some =
    ⊎_elim (λ later. inl (inr later)) (λ stood. ⊎_elim (λ here. inl (inl here)) (λ before. inr before) (put_or_stood change q (T q) stood)) (placed_or_stood changes (changed change T) q some)

-- what is there, a change put there
pub placed : (changes : List Change) (q : Path) → IsSome (after_changes changes no_tree q) → IsChangedPath changes q
placed changes q some = ⊎_elim (λ here. here) (λ stood. absurd (nothing stood)) (placed_or_stood changes no_tree q some)
  where
    nothing : IsSome (no_tree q) → ⊥
    nothing stood = cc

-- it is the next of the changes, or a later one
pub placed_next : (changes : List Change) (i : ℕ) (change : Change) (q : Path) → i < length changes → change ≡ get_or changes i change → IsChangedPath (drop i changes) q → (place_of change ≡ q) ⊎ IsChangedPath (drop (i + 1) changes) q
placed_next changes i change q lt is there =
    let split : drop i changes ≡ change ∷ drop (i + 1) changes = drop_more changes i change lt ∙ ap (λ (c : Change). c ∷ drop (i + 1) changes) (sym is) in
    subst (λ (l : List Change). IsChangedPath l q) split there
