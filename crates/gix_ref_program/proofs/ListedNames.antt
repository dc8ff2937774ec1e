-- What an iterator tells of the items that it gives, whatever the lines of `packed-refs` are.
use Rattle.std.proofs.Common.{◌≡◌, ℕ, List, [], ◌∷◌, ◌++◌, Bool, true, Result, refl, subst}
use Rattle.std.specs.Iterator.{DrainsIf, Yields}
use Rattle.std.specs.List.{AllByRecursion}
use Rattle.gix_ref_files.specs.Files.{Meaning, FaultCounts, NoFewer}
use Rattle.gix_ref_files.proofs.Meeting.{no_fewer_starts, no_fewer_joins}
use Rattle.gix_ref_packed_text.specs.declared.raw.Reference.{Reference}
use Rattle.gix_ref_listing.specs.PackedTexts.{Text}
use Rattle.gix_ref_listing.specs.declared.error.Error.{Error}
use Rattle.gix_ref_store.specs.Listings.{FollowsFile, FollowsText, GivesRight, IsRightSince, NextItem, count_in}
use Rattle.gix_ref_store.proofs.CompleteListings.{text_more}
use Rattle.gix_ref_store.specs.declared.file.store.Store.{Store}
use Rattle.gix_ref_store.specs.declared.file.iter.LooseThenPacked.{LooseThenPacked}
use Rattle.gix_ref_store.specs.declared.file.iter.Remaining.{Remaining}
use Rattle.gix_ref_program.specs.ListedItems.{FollowFiles, FollowLines}
use Rattle.gix_ref_program.proofs.ItemLemmas.{yields_more}

module _ {F : Type 0} (honest : Type 0) (means : F → Meaning) (faults : F → FaultCounts) where
  -- no fewer faults are counted at the end
  rises : (items : List (Result Reference Error)) (s t : LooseThenPacked F Remaining) → Yields (NextItem honest means faults) s items t → NoFewer (count_in honest means faults s) (count_in honest means faults t)
  rises [] s t gave = subst (λ (x : LooseThenPacked F Remaining). NoFewer (count_in honest means faults s) (count_in honest means faults x)) gave (no_fewer_starts (count_in honest means faults s))
  rises (item ∷ items) s t (mid, next, gave) = no_fewer_joins next.gives.rises (rises items mid t gave)

  -- each of the items is right, which come after these
  all_right : (store : Store F) (prefix : List ℕ) (text : Text) (last : FaultCounts) (it s t : LooseThenPacked F Remaining) (before items : List (Result Reference Error)) → GivesRight honest means faults store prefix text it →
      Yields (NextItem honest means faults) it before s → Yields (NextItem honest means faults) s items t → NoFewer (count_in honest means faults t) last → AllByRecursion (IsRightSince honest means faults store prefix text last) items
  all_right store prefix text last it s t before [] right gave gives counts = tt
  all_right store prefix text last it s t before (item ∷ items) right gave (mid, next, gives) counts =
      let this = right before s mid item gave next in (
        (this.0, this.1, this.2, no_fewer_joins this.3 (no_fewer_joins (rises items mid t gives) counts), this.4),
        all_right store prefix text last it mid t (before ++ item ∷ []) items right (yields_more (NextItem honest means faults) it s mid before item gave next) gives counts,
      )

  -- so what an iterator gives that follows the file
  pub follow_files : (store : Store F) (prefix : List ℕ) (last : FaultCounts) (whole : Bool) (it : LooseThenPacked F Remaining) (items : List (Result Reference Error)) → FollowsFile honest means faults store prefix it →
      (drains : DrainsIf (NextItem honest means faults) (whole ≡ true) it items) → NoFewer (count_in honest means faults drains.0) last → FollowFiles honest means faults store prefix last whole items
  follow_files store prefix last whole it items follows (end, gives, ends) counts = record {
    loose = λ name listed all plain. follows.0 items end (ends all).0 gives (ends all).1 plain name listed;
    packed = text_more means store prefix (λ text. FollowsText honest means faults store prefix text it) (λ text. FollowLines honest means faults store prefix text last whole items)
        (λ text of. record {
          right = all_right store prefix text last it it end [] items of.gives_right refl gives counts;
          due = λ up name due all plain. of.lacks_none up items end (ends all).0 gives (ends all).1 plain name due;
        }) follows.1;
  }
