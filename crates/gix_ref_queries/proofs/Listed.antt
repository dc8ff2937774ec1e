-- References that are collected from a listing.
use Rattle.std.proofs.Common.{◌≡◌, ◌⊎◌, inl, inr, ℕ, List, [], ◌∷◌, ◌++◌, Bool, true, false, Option, Some, None, Result, Ok, Err, Vec, refl, sym, ◌∙◌, ap, subst, append-nil}
use Rattle.std.specs.Prelude.{MatchResult, if◌then◌else◌}
use Rattle.std.specs.List.{filter}
use denote.Ref.{Bor}
use Rattle.std.specs.Iterator.{Drains, Yields}
use Rattle.std.specs.List.{AllByRecursion}
use Rattle.std.specs.Option.{option_copied}
use Rattle.std.specs.declared.alloc.Global.{Global}
use Rattle.std.proofs.lemmas.List.{map-append}
use Rattle.std.proofs.lemmas.List.Elements.{filter-append}
use Rattle.gix_ref_files.proofs.Meeting.{no_fewer_starts, no_fewer_joins}
use Rattle.gix_ref_files.specs.Files.{Meaning, FaultCounts, NoFewer}
use Rattle.gix_ref_packed_text.specs.declared.raw.Reference.{Reference}
use Rattle.gix_ref_lookup.specs.Lookups.{Among, packed_refs_in}
use Rattle.gix_ref_packed.specs.declared.packed.buffer.Buffer.{Buffer}
use Rattle.gix_ref_listing.specs.Listings.{Listed}
use Rattle.gix_ref_listing.specs.PackedTexts.{Text, IsTextOf}
use Rattle.gix_ref_listing.specs.PrefixedRecords.{HoldsAskedOf}
use Rattle.gix_ref_listing.specs.WholeListings.{key_in}
use Rattle.gix_ref_listing.specs.declared.error.Error.{Error as ItemError}
use Rattle.gix_ref_listing.specs.declared.error.Error.TheVariants as item
use Rattle.gix_ref_listing.specs.declared.list.LooseNames.{LooseNames}
use Rattle.gix_ref_listing.proofs.Listing.{names_on}
use Rattle.gix_ref_store.specs.Listings.{AreFirst, FollowsFile, FollowsText, FollowsWalked, GivesRight, IsNamed, IsReference, IsRightSince, IsWalkedIn, LacksNoLoose, ListsWalked, NextItem, OfPackedText, count_in, store_listed, walked_prefix}
use Rattle.gix_ref_store.specs.Lookup.{LooksUp, settings_of, view_in}
use Rattle.gix_ref_store.specs.Store.{files_of, kind_of}
use Rattle.gix_ref_store.specs.declared.file.iter.LooseThenPacked.{LooseThenPacked}
use Rattle.gix_ref_store.specs.declared.file.iter.Remaining.{Remaining}
use Rattle.gix_ref_store.specs.declared.file.store.Store.{Store}
use Rattle.gix_ref_store.proofs.CompleteListings.{follows_file, text_more}
use Rattle.gix_ref_store.proofs.FirstItems.{first_from, first_to}
use Rattle.gix_ref_queries.specs.ListedNames.{FollowFiles, FollowLines, HaveName, IsRightReference}
use Rattle.gix_ref_queries.specs.Rows.{Collects, FindsAmongNames, GivesFault, StopsAtItem, as_items, is_asked}
use Rattle.gix_ref_queries.proofs.Names.{looks_up, looks_none}

-- one item more
yields_more : {S A : Type 0} (steps : S → Option A → S → Type 0) (s t u : S) (items : List A) (item : A) → Yields steps s items t → steps t (Some item) u → Yields steps s (items ++ item ∷ []) u
yields_more steps s t u [] item gave next = (u, subst (λ x. steps x (Some item) u) (sym gave) next, refl)
yields_more steps s t u (first ∷ items) item (mid, one, gave) next = (mid, one, yields_more steps mid t u items item gave next)

-- a name among items that are references
named : (name : List ℕ) (all : List Reference) → Among (IsNamed name) (as_items all) → HaveName all name
named name [] among = among
named name (r ∷ all) (inl is) = inl is
named name (r ∷ all) (inr among) = inr (named name all among)

-- these are references alone
plain : (all : List Reference) → AllByRecursion IsReference (as_items all)
plain [] = tt
plain (r ∷ all) = (tt, plain all)

module _ {F : Type 0} (honest : Type 0) (means : F → Meaning) (faults : F → FaultCounts) where
  -- from one state of an iterator to another: the same store, with the same files
  pub record Follows (first it : LooseThenPacked F Remaining) : Type 0 where
    pub same_reference : it.store.ghost_name ≡ first.store.ghost_name
    pub rises : NoFewer (count_in honest means faults first) (count_in honest means faults it)
    pub unchanged : LooksUp honest means (store_listed first) (store_listed it)

  -- and what was asked for of the references in between
  pub record AreSoFar (patterns : List (List ℕ)) (first it : LooseThenPacked F Remaining) (found : List Reference) : Type 0 where
    pub all : List Reference
    pub gives : Yields (NextItem honest means faults) first (as_items all) it
    pub asked : found ≡ filter (is_asked patterns) all
    pub follows : Follows first it

  pub begins : (patterns : List (List ℕ)) (it : LooseThenPacked F Remaining) → AreSoFar patterns it it []
  begins patterns it = record {
    all = [];
    gives = refl;
    asked = refl;
    follows = record { same_reference = refl; rises = no_fewer_starts _; unchanged = looks_none honest means (store_listed it) };
  }

  pub on : (first it next : LooseThenPacked F Remaining) (item : Option (Result Reference ItemError)) → Follows first it → NextItem honest means faults it item next → Follows first next
  on first it next item follows step = record {
    same_reference = step.same_reference ∙ follows.same_reference;
    rises = no_fewer_joins follows.rises step.gives.rises;
    unchanged = looks_up honest means (store_listed first) (store_listed it) (store_listed next) follows.unchanged record { leaves = step.gives.leaves; passes = step.gives.passes; same = step.same_store };
  }

  one_given : (first it next : LooseThenPacked F Remaining) (all : List Reference) (reference : Reference) → Yields (NextItem honest means faults) first (as_items all) it → NextItem honest means faults it (Some (Ok reference)) next → Yields (NextItem honest means faults) first (as_items (all ++ reference ∷ [])) next
  one_given first it next all reference gave step =
      subst (λ (items : List (Result Reference ItemError)). Yields (NextItem honest means faults) first items next) (sym (map-append (λ (r : Reference). let made : Result Reference ItemError = Ok r in made) all (reference ∷ [])))
      (yields_more (NextItem honest means faults) first it next (as_items all) (Ok reference) gave step)

  -- a reference that is asked for, and another
  pub taken : (patterns : List (List ℕ)) (first it next : LooseThenPacked F Remaining) (found : List Reference) (reference : Reference) → AreSoFar patterns first it found → NextItem honest means faults it (Some (Ok reference)) next → is_asked patterns reference ≡ true → AreSoFar patterns first next (found ++ reference ∷ [])
  taken patterns first it next found reference so_far step is = record {
    all = so_far.all ++ reference ∷ [];
    gives = one_given first it next so_far.all reference so_far.gives step;
    asked = ap (λ (rs : List Reference). rs ++ reference ∷ []) so_far.asked ∙ sym (filter-append (is_asked patterns) so_far.all (reference ∷ []) ∙ ap (λ (b : Bool). filter (is_asked patterns) so_far.all ++ (if b then reference ∷ [] else [])) is);
    follows = on first it next (Some (Ok reference)) so_far.follows step;
  }

  pub passed : (patterns : List (List ℕ)) (first it next : LooseThenPacked F Remaining) (found : List Reference) (reference : Reference) → AreSoFar patterns first it found → NextItem honest means faults it (Some (Ok reference)) next → is_asked patterns reference ≡ false → AreSoFar patterns first next found
  passed patterns first it next found reference so_far step is = record {
    all = so_far.all ++ reference ∷ [];
    gives = one_given first it next so_far.all reference so_far.gives step;
    asked = so_far.asked ∙ sym (filter-append (is_asked patterns) so_far.all (reference ∷ []) ∙ (ap (λ (b : Bool). filter (is_asked patterns) so_far.all ++ (if b then reference ∷ [] else [])) is ∙ append-nil (filter (is_asked patterns) so_far.all)));
    follows = on first it next (Some (Ok reference)) so_far.follows step;
  }

  pub ended : (patterns : List (List ℕ)) (first it new : LooseThenPacked F Remaining) (found : List Reference) → AreSoFar patterns first it found → NextItem honest means faults it None new → Collects honest means faults patterns first new found
  ended patterns first it new found so_far step = record { all = so_far.all; last = it; gives = so_far.gives; ends = step; asked = so_far.asked }

  pub stopped : (patterns : List (List ℕ)) (first it new : LooseThenPacked F Remaining) (found : List Reference) (error : ItemError) → AreSoFar patterns first it found → NextItem honest means faults it (Some (Err error)) new → StopsAtItem honest means faults first new error
  stopped patterns first it new found error so_far step = inr (so_far.all, (it, so_far.gives, step))

  -- what is collected of a listing
  pub found_among : (old new : Store F) (names : LooseNames) (packed : Option (Bor Buffer)) (patterns : List (List ℕ)) (it t : LooseThenPacked F Remaining) (found : Result (Vec Reference Global) ItemError) →
      (honest → ListsWalked honest means faults old names packed (Ok it)) → (honest → FollowsWalked honest means faults old names packed (Ok it)) →
      NoFewer (count_in honest means faults it) (count_in honest means faults t) → store_listed t ≡ new →
      MatchResult found (λ f. Collects honest means faults patterns it t f.items) (StopsAtItem honest means faults it t) → FindsAmongNames honest means faults old new names packed patterns found
  found_among old new names packed patterns it t (Ok found) lists follows rises is c = (
    c.all,
    c.asked,
    λ h. (
      (it, follows h, (t, (c.last, c.gives, c.ends))),
      λ start records walked are.
          let l = lists h start records walked are in
          let run = l.runs (as_items c.all) c.last c.gives in
          let none : run.rest ≡ [] = run.ends t c.ends in
          let last : NoFewer (count_in honest means faults c.last) (faults (files_of new)) = subst (λ (x : Store F). NoFewer (count_in honest means faults c.last) (faults (files_of x))) is c.ends.gives.rises in
          let after : NoFewer (count_in honest means faults it) (faults (files_of new)) = subst (λ (x : Store F). NoFewer (count_in honest means faults it) (faults (files_of x))) is rises in
          let first = first_from honest means faults (settings_of start) (view_in means start) (faults (files_of start)) (count_in honest means faults it) (faults (files_of new)) l.listed run.rest (as_items c.all) l.counts
          (first_to honest means faults (settings_of start) (view_in means start) (count_in honest means faults it) (count_in honest means faults c.last) (faults (files_of new)) l.listed run.rest (as_items c.all) last run.first) in
          record {
            listed = l.listed;
            is = l.is;
            names = names_on (faults (files_of start)) (count_in honest means faults it) (faults (files_of new)) l.listed after l.names;
            first = subst (λ (rest : List Listed). AreFirst honest means faults (settings_of start) (view_in means start) (faults (files_of start)) (faults (files_of new)) l.listed rest (as_items c.all)) none first;
          },
    ),
  )
  found_among old new names packed patterns it t (Err error) lists follows rises is (inl memory) = λ h. (inl memory, λ start records walked are. inl memory)
  found_among old new names packed patterns it t (Err error) lists follows rises is (inr (all, (mid, gave, step))) = λ h. (
    inr (it, t, all, follows h, (mid, gave, step), subst (λ (x : Store F). NoFewer (count_in honest means faults t) (faults (files_of x))) is (no_fewer_starts _)),
    λ start records walked are.
        let l = lists h start records walked are in
        let items = as_items all ++ Err error ∷ [] in
        let run = l.runs items t (yields_more (NextItem honest means faults) it mid t (as_items all) (Err error) gave step) in
        let after : NoFewer (count_in honest means faults it) (faults (files_of new)) = subst (λ (x : Store F). NoFewer (count_in honest means faults it) (faults (files_of x))) is rises in
        let last : NoFewer (count_in honest means faults t) (faults (files_of new)) = subst (λ (x : Store F). NoFewer (count_in honest means faults t) (faults (files_of x))) is (no_fewer_starts _) in
        inr (
          all,
          run.rest,
          record {
            listed = l.listed;
            is = l.is;
            names = names_on (faults (files_of start)) (count_in honest means faults it) (faults (files_of new)) l.listed after l.names;
            first = first_from honest means faults (settings_of start) (view_in means start) (faults (files_of start)) (count_in honest means faults it) (faults (files_of new)) l.listed run.rest items l.counts
                (first_to honest means faults (settings_of start) (view_in means start) (count_in honest means faults it) (count_in honest means faults t) (faults (files_of new)) l.listed run.rest items last run.first);
          },
        ),
  )

  -- an iterator over the names of a walk and a buffer that was read after it follows the file
  pub follows_walked : honest → (start mid now : Store F) (prefix : List ℕ) (names : LooseNames) (found : Option Buffer) (packed : Option (Bor Buffer)) → LooksUp honest means start mid → walked_prefix names ≡ prefix →
      option_copied packed ≡ found → HoldsAskedOf (kind_of mid) (packed_refs_in (settings_of mid) (means (files_of mid))) (key_in (settings_of mid) prefix) found → IsWalkedIn honest means faults start now names → (it : LooseThenPacked F Remaining) →
      FollowsWalked honest means faults now names packed (Ok it) → FollowsFile honest means faults start prefix it
  follows_walked h start mid now prefix names found packed first asked same holds walked it follows =
      let of_walk = follows start walked in
      follows_file honest means faults h start mid prefix found packed first same holds (Ok it) (subst (λ (p : List ℕ). LacksNoLoose honest means faults start p it) asked of_walk.0)
      (λ text of. subst (λ (p : List ℕ). FollowsText honest means faults start p text it) asked (of_walk.1 text (subst (λ (p : List ℕ). IsTextOf (key_in (settings_of start) p) packed text) (sym asked) of)))

  -- the references that it gives are right
  all_right : (store : Store F) (prefix : List ℕ) (text : Text) (it s t : LooseThenPacked F Remaining) (before : List (Result Reference ItemError)) (all : List Reference) → GivesRight honest means faults store prefix text it →
      Yields (NextItem honest means faults) it before s → Yields (NextItem honest means faults) s (as_items all) t → AllByRecursion (IsRightReference honest means faults store prefix text) all
  all_right store prefix text it s t before [] right gave gives = tt
  all_right store prefix text it s t before (r ∷ all) right gave (mid, next, gives) =
      let this = right before s mid (Ok r) gave next in (
        (this.0, this.1, this.4),
        all_right store prefix text it mid t (before ++ Ok r ∷ []) all right (yields_more (NextItem honest means faults) it s mid before (Ok r) gave next) gives,
      )

  -- and none is lacking of those up to its end
  pub follow_files : (store : Store F) (prefix : List ℕ) (it : LooseThenPacked F Remaining) (all : List Reference) → FollowsFile honest means faults store prefix it → Drains (NextItem honest means faults) it (as_items all) → FollowFiles honest means faults store prefix all
  follow_files store prefix it all follows (end, (last, gave, ends)) = record {
    loose = λ name listed. named name all (follows.0 (as_items all) last end gave ends (plain all) name listed);
    packed = text_more means store prefix (λ text. FollowsText honest means faults store prefix text it) (λ text. FollowLines honest means faults store prefix text all)
        (λ text of. record {
          right = all_right store prefix text it it last [] all of.gives_right refl gave;
          due = λ up name due. named name all (of.lacks_none up (as_items all) last end gave ends (plain all) name due);
        }) follows.1;
  }

  -- and a fault that it gives after references is right
  pub fault_given : (store now new : Store F) (prefix : List ℕ) (names : LooseNames) (packed : Option (Bor Buffer)) (error : ItemError) → ((it : LooseThenPacked F Remaining) → FollowsWalked honest means faults now names packed (Ok it) → FollowsFile honest means faults store prefix it) →
      GivesFault honest means faults now new names packed error → (error ≡ item.Memory) ⊎ OfPackedText means store prefix (λ text. IsRightSince honest means faults store prefix text (faults (files_of new)) (Err error))
  fault_given store now new prefix names packed error file (inl memory) = inl memory
  fault_given store now new prefix names packed error file (inr (it, end, all, follows, (last, gave, step), counts)) =
      inr (text_more means store prefix (λ text. FollowsText honest means faults store prefix text it) (λ text. IsRightSince honest means faults store prefix text (faults (files_of new)) (Err error))
      (λ text of. let this = of.gives_right (as_items all) last end (Err error) gave step in (this.0, this.1, this.2, no_fewer_joins this.3 counts, this.4)) (file it follows).1)
