-- A listing that is printed, item by item.
use Rattle.std.proofs.Common.{◌≡◌, ℕ, List, [], ◌∷◌, ◌++◌, Bool, true, false, Option, Some, None, Result, refl, sym, ◌∙◌, ap, subst, append-nil}
use Rattle.gix_ref_files.proofs.Meeting.{no_fewer_starts, no_fewer_joins}
use Rattle.std.specs.Prelude.{if◌then◌else◌}
use Rattle.std.specs.Option.{option_map}
use Rattle.std.specs.Result.{is_err}
use Rattle.std.specs.Iterator.{Yields}
use Rattle.std.specs.Io.KnownBytes.{Appends, Keeps, append_known}
use Rattle.std.proofs.KnownBytes.{Appends-kept}
use Rattle.gix_ref_files.specs.Files.{Meaning, FaultCounts, NoFewer}
use Rattle.gix_ref_files.proofs.Moments.{starts, passes_starts}
use Rattle.gix_ref_packed_text.specs.declared.raw.Reference.{Reference}
use Rattle.gix_ref_listing.specs.declared.error.Error.{Error}
use Rattle.gix_ref_store.specs.Store.{files_of}
use Rattle.gix_ref_store.specs.Lookup.{LooksUp}
use Rattle.gix_ref_store.specs.Listings.{NextItem, count_in, store_listed}
use Rattle.gix_ref_store.specs.declared.file.iter.LooseThenPacked.{LooseThenPacked}
use Rattle.gix_ref_store.specs.declared.file.iter.Remaining.{Remaining}
use Rattle.gix_ref_program.specs.ListPrinting.{item_text, list_text, next_text, PrintsAll, PrintsNext}
use Rattle.gix_ref_program.specs.Printed.{items_status}
use Rattle.gix_ref_program.proofs.ItemLemmas.{status_fault, status_line, item_printed, rest_printed, yields_more, none_printed}
use Rattle.gix_ref_program.proofs.Listing.{looks_on}

module _ {F : Type 0} (honest : Type 0) (means : F → Meaning) (faults : F → FaultCounts) where
  -- from one state of an iterator to another: the same store, with the same files
  pub record Follows (first it : LooseThenPacked F Remaining) : Type 0 where
    pub same_reference : it.store.ghost_name ≡ first.store.ghost_name
    pub rises : NoFewer (count_in honest means faults first) (count_in honest means faults it)
    pub unchanged : LooksUp honest means (store_listed first) (store_listed it)

  -- and what is printed of the items in between
  pub record AreSoFar (first it : LooseThenPacked F Remaining) (out now : Option (List ℕ)) (text : List ℕ) (status : ℕ) : Type 0 where
    pub items : List (Result Reference Error)
    pub gives : Yields (NextItem honest means faults) first items it
    pub status_is : status ≡ items_status items
    pub prints : Appends out (append_known now text) (list_text items)
    pub follows : Follows first it

  pub begins : (it : LooseThenPacked F Remaining) (out : Option (List ℕ)) → AreSoFar it it out out [] 0
  begins it out = record {
    items = [];
    gives = refl;
    status_is = refl;
    prints = none_printed out;
    follows = record {
      same_reference = refl;
      rises = no_fewer_starts _;
      unchanged = record {
        leaves = λ h. starts (means (files_of (store_listed it))) _ refl;
        passes = λ h. passes_starts (means (files_of (store_listed it))) _ refl;
        same = record { dirs = refl; namespace = refl; of_kind = refl; reflogs = refl; composes = refl; prohibits = refl; threshold = refl };
      };
    };
  }

  pub on : (first it next : LooseThenPacked F Remaining) (item : Option (Result Reference Error)) → Follows first it → NextItem honest means faults it item next → Follows first next
  on first it next item follows step = record {
    same_reference = step.same_reference ∙ follows.same_reference;
    rises = no_fewer_joins follows.rises step.gives.rises;
    unchanged = looks_on honest means faults (store_listed first) (store_listed it) (store_listed next) follows.unchanged record { leaves = step.gives.leaves; passes = step.gives.passes; same = step.same_store };
  }

  pub more : (first it next : LooseThenPacked F Remaining) (out before now : Option (List ℕ)) (text left : List ℕ) (status after : ℕ) (item : Result Reference Error) →
      AreSoFar first it out before text status → NextItem honest means faults it (Some item) next → Keeps (append_known before (text ++ item_text item)) (append_known now left) →
      after ≡ (if is_err item then 1 else status) → AreSoFar first next out now left after
  more first it next out before now text left status after item so_far step kept is = record {
    items = so_far.items ++ item ∷ [];
    gives = yields_more (NextItem honest means faults) first it next so_far.items item so_far.gives step;
    status_is = is ∙ by (is_err item) refl;
    prints = item_printed item_text out before now text (text ++ item_text item) left so_far.items item so_far.prints refl kept;
    follows = on first it next (Some item) so_far.follows step;
  }
    where
      by : (b : Bool) → is_err item ≡ b → (if b then 1 else status) ≡ items_status (so_far.items ++ item ∷ [])
      by true fault = status_fault so_far.items item fault
      by false line = status_line so_far.items item status so_far.status_is line

  -- the next item is printed, if there is one
  pub more_printed : (first it next : LooseThenPacked F Remaining) (out before now : Option (List ℕ)) (text left : List ℕ) (status after : ℕ) (found : Option Bool) (fault : Bool) →
      AreSoFar first it out before text status → PrintsNext honest means faults it next before (append_known now left) text found → found ≡ Some fault → after ≡ (if fault then 1 else status) →
      AreSoFar first next out now left after
  more_printed first it next out before now text left status after found fault so_far printed is value = by printed.item printed.gives printed.fault_is printed.prints
    where
      by : (item : Option (Result Reference Error)) → NextItem honest means faults it item next → found ≡ option_map is_err item → Keeps (append_known before (text ++ next_text item)) (append_known now left) → AreSoFar first next out now left after
      by None gives same kept = let bad = sym is ∙ same in absurd (cc)
      by (Some item) gives same kept =
          let both : Some fault ≡ Some (is_err item) = sym is ∙ same in
          let as_told : fault ≡ is_err item = cc in
          more first it next out before now text left status after item so_far gives kept (value ∙ ap (λ b. if b then 1 else status) as_told)

  pub all_printed : (first it last : LooseThenPacked F Remaining) (out before mid now : Option (List ℕ)) (text left : List ℕ) (status : ℕ) (found : Option Bool) →
      AreSoFar first it out before text status → PrintsNext honest means faults it last before (append_known mid left) text found → found ≡ None → Appends mid now left → PrintsAll honest means faults first last out now status
  all_printed first it last out before mid now text left status found so_far printed is written = by printed.item printed.gives printed.fault_is printed.prints
    where
      by : (item : Option (Result Reference Error)) → NextItem honest means faults it item last → found ≡ option_map is_err item → Keeps (append_known before (text ++ next_text item)) (append_known mid left) → PrintsAll honest means faults first last out now status
      by None gives same kept = record {
        items = so_far.items;
        last = it;
        gives = so_far.gives;
        ends = gives;
        status_is = so_far.status_is;
        prints = rest_printed out mid now left (list_text so_far.items)
            (Appends-kept out (append_known before text) (append_known mid left) (list_text so_far.items) so_far.prints (subst (λ (x : List ℕ). Keeps (append_known before x) (append_known mid left)) (append-nil text) kept)) written;
      }
      by (Some item) gives same kept = let bad = sym is ∙ same in absurd (cc)
