-- What two renames leave, one after the other.
use Rattle.std.proofs.Common.{◌≡◌, ◌≢◌, inl, inr, [], ◌∷◌, sym, ◌∙◌, ap}
use Rattle.gix_ref_files.specs.Tree.{Tree, Path, moved}
use Rattle.gix_ref_files.specs.Steps.{Rename, IsLeftBy}
use Rattle.gix_ref_files_tests.specs.Publish.{IsOldPlace, IsNew, ArePublishedInOrder, ArePathsApart}
use Rattle.gix_ref_files.proofs.Puts.{moved_to, moved_other}

module _ (first_lock first second_lock second : Path) (apart : ArePathsApart first_lock first second_lock second) (before : Tree) where
  abbrev once : Tree
  once = moved before first_lock first

  abbrev twice : Tree
  twice = moved once second_lock second

  flip : {p q : Path} → p ≢ q → q ≢ p
  flip ne e = ne (sym e)

  first_in_twice : IsNew first_lock first before twice
  first_in_twice = moved_other once second_lock second first apart.second_lock_apart (flip apart.places) ∙ moved_to before first_lock first

  second_in_twice : IsNew second_lock second before twice
  second_in_twice = moved_to once second_lock second ∙ moved_other before first_lock first second_lock apart.locks (flip apart.second_lock_apart)

  at : {S T : Tree} (p : Path) → T ≡ S → T p ≡ S p
  at p e = ap (λ (t : Tree). t p) e

  pub untouched : (T : Tree) → T ≡ before → ArePublishedInOrder first_lock first second_lock second before T
  untouched T e = record { first_place = inl (at first e); second_place = inl (at second e); order = inl (at second e) }

  after_once : (T : Tree) → T ≡ once → ArePublishedInOrder first_lock first second_lock second before T
  after_once T e =
      let second_old : IsOldPlace second before T = at second e ∙ moved_other before first_lock first second apart.first_lock_apart apart.places in
      record { first_place = inr (at first e ∙ moved_to before first_lock first); second_place = inl second_old; order = inl second_old }

  after_twice : (T : Tree) → T ≡ twice → ArePublishedInOrder first_lock first second_lock second before T
  after_twice T e =
      let first_new : IsNew first_lock first before T = at first e ∙ first_in_twice in
      record { first_place = inr first_new; second_place = inr (at second e ∙ second_in_twice); order = inr first_new }

  pub in_order : (T : Tree) → IsLeftBy (Rename first_lock first ∷ Rename second_lock second ∷ []) before T → ArePublishedInOrder first_lock first second_lock second before T
  in_order T (inl (inl e)) = untouched T e
  in_order T (inl (inr done)) = after_once T done.1
  in_order T (inr (mid, does, inl (inl e))) = after_once T (e ∙ does.1)
  in_order T (inr (mid, does, inl (inr done))) = after_twice T (done.1 ∙ ap (λ (S : Tree). moved S second_lock second) does.1)
  in_order T (inr (mid, does, inr (last, both, e))) = after_twice T (e ∙ both.1 ∙ ap (λ (S : Tree). moved S second_lock second) does.1)
