-- One round of the loop that takes the locks of edits and compares each with what there is.
use Rattle.std.proofs.Common.{◌≡◌, ◌⊎◌, inl, ℕ, zero, suc, ◌+◌, ◌-◌, ◌<◌, ◌≤◌, List, [], ◌∷◌, ◌++◌, length, get_or, true, None, refl, sym, ◌∙◌, ap, subst, take, drop, map, arith, Option, Result, Ok, Err, OnOk}
use Rattle.std.specs.Prelude.{bytes_eq}
use Rattle.std.proofs.Math.ListN.{set}
use Rattle.std.proofs.Math.Seq.{map-set_same}
use Rattle.std.proofs.lemmas.List.{get_or-map, length-map, take_more_set, take_all, drop_all}
use Rattle.gix_ref_hash.specs.declared.hash.Kind.{Kind}
use Rattle.gix_ref_files.specs.Tree.{Tree, Path, IsShaped, has_folders, is_file}
use Rattle.gix_ref_hash.specs.declared.hash.ObjectId.{ObjectId}
use Rattle.gix_ref_files.specs.Files.{Meaning, disk_of, Leaves, Passes}
use Rattle.gix_ref_files.specs.Lock.{lock_of, LockingOn}
use Rattle.gix_ref_files.specs.Settled.{IsWholeAt}
use Rattle.gix_ref_files.proofs.Moments.{starts, passes_starts}
use Rattle.gix_ref_theory.specs.OnRealTrees.{view_of}
use Rattle.gix_ref_theory.specs.Readings.{Store}
use Rattle.gix_ref_edits.specs.RefEdits.{name_of}
use Rattle.gix_ref_edits.specs.declared.transaction.RefEdit.{RefEdit}
use Rattle.gix_ref_theory.specs.Edits.{Mode}
use Rattle.gix_ref_transaction.specs.OwnLocks.{AddsLocks, OnlyLocks, is_in}
use Rattle.gix_ref_transaction.specs.Causes.{found, packed_of, IsFirstCause, IsIoOrMemory, IsMismatch, LocksAreApart, NoCause, locks_of}
use Rattle.gix_ref_transaction.specs.PrepareSteps.{Given, AreLockable, AreSettled, AreWholeLocks, FillingOn, FillsLock, HoldTexts, IsDecided, IsNewLock, IsRefusedLock, IsSomeWhole, all_given, effect_value, effects_of, effects_on, files_at, given, ids_in, old_targets, packed_ids, place_paths, places_of, seen_files, targets_of, updates}
use Rattle.gix_ref_transaction.specs.declared.edit.Edit.{Edit}
use Rattle.gix_ref_transaction.specs.declared.prepare.error.Error.{Error}
use Rattle.gix_ref_transaction.proofs.Adds.{any_right, clash, in_here}
use Rattle.gix_ref_transaction.proofs.Led.{led_by_lock}
use Rattle.gix_ref_transaction.proofs.LockRounds.{filling_round, locking_round, whole_round, wholes_round}
use Rattle.gix_ref_transaction.proofs.Rounds as rounds
use Rattle.gix_ref_transaction.proofs.Taking.{Held}

-- what follows where a call succeeded
pub on_ok : {X E P Q : Type 0} (r : Result X E) → (P → Q) → OnOk r P → OnOk r Q
on_ok (Ok x) f p = f p
on_ok (Err e) f p = p

-- two facts that a success has, each on its own condition
pub both_on_ok : {X E A B P Q R : Type 0} (r : Result X E) → (A → OnOk r P) → (B → OnOk r Q) → ((A → P) → (B → Q) → R) → OnOk r R
both_on_ok (Ok x) first second both = both first second
both_on_ok (Err e) first second both = tt

module _ (s : Store) (kind : Kind) (all : List RefEdit) (first : Meaning) where
  abbrev locks : List Path
  locks = locks_of s all

  -- The locks of the first i edits are taken, whatever `packed-refs` holds.
  pub record Goes (i : ℕ) (now : Meaning) : Type 0 where
    pub adds : AddsLocks (locks_of s (take i all)) locks first.tree now.tree
    pub free : (q : Path) → is_in (locks_of s (take i all)) q ≡ true → first.tree q ≡ None
    pub files : (q : Path) → is_in (locks_of s (take i all)) q ≡ true → is_file (now.tree q) ≡ true
    pub run : Leaves first now (AddsLocks locks locks first.tree)
    pub lockable : AreLockable s kind first.tree (take i all) (drop i all) → AreLockable s kind first.tree [] all
    pub whole : AreWholeLocks (disk_of now) (locks_of s (take i all))
    pub wholes : (q : Path) (text : List ℕ) → IsWholeAt (disk_of first) q text → IsWholeAt (disk_of now) q text
    pub passes : OnlyLocks locks first now

  -- And where the ids of their records are known, what was found and decided of them is by the tree at the beginning, and the rest gives the
  -- result of all.
  pub record Finds (mode : Mode) (i : ℕ) (now : Meaning) (edits : List Edit) : Type 0 where
    pub was : targets_of (take i edits) ≡ old_targets s first.tree (take i all)
    pub files : seen_files (take i edits) ≡ files_at s first.tree (take i all)
    pub what : effects_of (take i edits) ≡ effects_on s mode (view_of first.tree) (take i all)
    pub fault : (error : Error) → IsFirstCause s kind first.tree (take i all) (drop i all) error → IsFirstCause s kind first.tree [] all error
    pub pass : NoCause s kind first.tree (take i all) (drop i all) → NoCause s kind first.tree [] all
    pub texts : HoldTexts s mode first.tree now.tree (take i all)

  -- before the first
  pub goes_first : Goes 0 first
  goes_first = record {
    adds = λ q. inl refl;
    free = λ q none. clash none refl;
    files = λ q none. clash none refl;
    run = starts first _ (λ q. inl refl);
    lockable = λ h. h;
    whole = tt;
    wholes = λ q text h. h;
    passes = λ locked staying D own here. passes_starts first _ here;
  }

  pub finds_first : {mode : Mode} (edits : List Edit) → Finds mode 0 first edits
  finds_first edits = record { was = refl; files = refl; what = refl; fault = λ error h. h; pass = λ h. h; texts = tt }

  -- after the last
  pub lockable_all : (i : ℕ) (now : Meaning) → length all ≤ i → Goes i now → AreLockable s kind first.tree [] all
  lockable_all i now end goes = goes.lockable (subst (λ (l : List RefEdit). AreLockable s kind first.tree (take i all) l) (sym (drop_all i all end)) tt)

  pub whole_all : (i : ℕ) (now : Meaning) → length all ≤ i → Goes i now → AreWholeLocks (disk_of now) locks
  whole_all i now end goes = subst (λ (l : List RefEdit). AreWholeLocks (disk_of now) (locks_of s l)) (take_all i all end) goes.whole

  pub settled_all : {mode : Mode} (i : ℕ) (now : Meaning) (edits given : List Edit) → length all ≤ i → length edits ≤ i → updates given ≡ all → ids_in edits ≡ packed_ids s first.tree (updates given) → Finds mode i now edits → AreSettled s mode kind first.tree now.tree given edits
  settled_all {mode = mode} i now edits given end ends is ids finds =
      let whole = take_all i all end in
      let every = take_all i edits ends in
      record {
        was = subst (λ (l : List Edit). targets_of l ≡ old_targets s first.tree (updates given)) every (finds.was ∙ ap (old_targets s first.tree) (whole ∙ sym is));
        files = subst (λ (l : List Edit). seen_files l ≡ files_at s first.tree (updates given)) every (finds.files ∙ ap (files_at s first.tree) (whole ∙ sym is));
        what = subst (λ (l : List Edit). effects_of l ≡ effects_on s mode (view_of first.tree) (updates given)) every (finds.what ∙ ap (effects_on s mode (view_of first.tree)) (whole ∙ sym is));
        ids = ids;
        no_cause = subst (λ (l : List RefEdit). NoCause s kind first.tree [] l) (sym is) (finds.pass (subst (λ (l : List RefEdit). NoCause s kind first.tree (take i all) l) (sym (drop_all i all end)) tt));
        texts = subst (λ (l : List RefEdit). HoldTexts s mode first.tree now.tree l) (whole ∙ sym is) finds.texts;
      }

-- edits that were given the same have the same ids
ids_given : (edits : List Edit) → ids_in edits ≡ map (λ (g : Given). g.2) (all_given edits)
ids_given [] = refl
ids_given (e ∷ edits) = ap (λ (l : List (Option ObjectId)). e.packed ∷ l) (ids_given edits)

pub same_ids : (a b : List Edit) → all_given a ≡ all_given b → ids_in a ≡ ids_in b
same_ids a b same = ids_given a ∙ (ap (map (λ (g : Given). g.2)) same ∙ sym (ids_given b))

-- and the same places
places_given : (edits : List Edit) → place_paths edits ≡ map (λ (g : Given). g.1) (all_given edits)
places_given [] = refl
places_given (e ∷ edits) = ap (λ (l : List Path). e.lock ∷ l) (places_given edits)

same_places : (a b : List Edit) → all_given a ≡ all_given b → place_paths a ≡ place_paths b
same_places a b same = places_given a ∙ (ap (map (λ (g : Given). g.1)) same ∙ sym (places_given b))

-- the lock of an edit is among those of the edits up to it
lock_among : (s : Store) (all : List RefEdit) (k i : ℕ) → k < i → i ≤ length all → is_in (locks_of s (take i all)) (lock_of (get_or (places_of s all) k [])) ≡ true
lock_among s all k zero lt le = absurd (omega (arith, lt))
lock_among s [] k (suc i) lt le = absurd (omega (arith, le))
lock_among s (e ∷ all) zero (suc i) lt le = in_here (lock_of (s.place (name_of e))) (lock_of (s.place (name_of e))) (locks_of s (take i all)) refl
lock_among s (e ∷ all) (suc k) (suc i) lt le =
    any_right (λ p. bytes_eq p (lock_of (get_or (places_of s all) k []))) (lock_of (s.place (name_of e)) ∷ []) (locks_of s (take i all))
    (lock_among s all k i (omega (arith, lt)) (omega (arith, le)))

-- One edit of a list that is asked for as `old` is.
pub record Turn (old : List Edit) : Type 0 where
  pub edits : List Edit
  pub same : all_given edits ≡ all_given old
  pub i : ℕ
  pub e : Edit
  pub lt : i < length edits
  pub is : e ≡ get_or edits i e

abbrev pub turn : (old edits : List Edit) → all_given edits ≡ all_given old → (i : ℕ) (d : Edit) → i < length edits → d ≡ get_or edits i d → Turn old
turn old edits same i d lt is = record { edits = edits; same = same; i = i; e = get_or edits i d; lt = lt; is = ap (λ x. get_or edits i x) is }

module _ (s : Store) (old : List Edit) (t : Turn old) where
  abbrev pub now : List Edit
  now = t.edits

  abbrev pub i : ℕ
  i = t.i

  abbrev pub e : Edit
  e = t.e

  abbrev lt : i < length now
  lt = t.lt

  abbrev is : e ≡ get_or now i e
  is = t.is

  abbrev same : all_given now ≡ all_given old
  same = t.same

  abbrev pub all : List RefEdit
  all = updates old

  len : length old ≡ length now
  len = sym (length-map old given) ∙ (sym (ap length same) ∙ length-map now given)

  lt_old : i < length old
  lt_old = omega (arith, lt, len)

  pub lt_all : i < length all
  lt_all = omega (arith, lt_old, length-map old (λ (x : Edit). x.update))

  given_is : given e ≡ given (get_or old i e)
  given_is = ap given is ∙ (sym (get_or-map given now i e (given e) lt) ∙ (ap (λ l. get_or l i (given e)) same ∙ get_or-map given old i e (given e) lt_old))

  pub update_is : e.update ≡ get_or all i e.update
  update_is = ap (λ p. p.0) given_is ∙ sym (get_or-map (λ (x : Edit). x.update) old i e e.update lt_old)

  pub place_is : place_paths old ≡ places_of s all → e.lock ≡ s.place (name_of e.update)
  place_is places =
      ap (λ p. p.1) given_is
      ∙ (sym (get_or-map (λ (x : Edit). x.lock) old i e [] lt_old)
      ∙ (ap (λ l. get_or l i []) places
      ∙ (get_or-map (λ (x : RefEdit). s.place (name_of x)) all i e.update [] lt_all
      ∙ ap (λ (x : RefEdit). s.place (name_of x)) (sym update_is))))

  pub id_is : (T : Tree) → ids_in old ≡ packed_ids s T all → e.packed ≡ packed_of s (view_of T) (name_of e.update)
  id_is T ids =
      ap (λ p. p.2) given_is
      ∙ (sym (get_or-map (λ (x : Edit). x.packed) old i e None lt_old)
      ∙ (ap (λ l. get_or l i None) ids
      ∙ (get_or-map (λ (x : RefEdit). packed_of s (view_of T) (name_of x)) all i e.update None lt_all
      ∙ ap (λ (x : RefEdit). packed_of s (view_of T) (name_of x)) (sym update_is))))

  -- a change of it that keeps what is asked for
  pub same_then : (new : Edit) → given new ≡ given e → all_given (set now i new) ≡ all_given old
  same_then new like = map-set_same given now i new e (like ∙ ap given is) ∙ same

  module _ (kind : Kind) (apart : LocksAreApart s all) (places : place_paths old ≡ places_of s all) (first mid : Meaning) (goes : Goes s kind all first i mid) where
    abbrev place : Path
    place = e.lock

    abbrev lock : Path
    lock = lock_of e.lock

    held : Held s kind all apart first.tree (take i all) mid.tree
    held = record { adds = goes.adds; free = goes.free; files = goes.files }

    placed : e.lock ≡ s.place (name_of e.update)
    placed = place_is places

    at : lock ≡ lock_of (s.place (name_of e.update))
    at = ap lock_of placed

    -- The lock of the edit before it is taken, so the folders that lead to the place of that one are there.
    led_before : IsShaped mid.tree → 0 < i → has_folders mid.tree (get_or (place_paths now) (i - 1) []) ≡ true
    led_before shaped some =
        let before = get_or (places_of s all) (i - 1) [] in
        subst (λ (l : List Path). has_folders mid.tree (get_or l (i - 1) []) ≡ true) (sym (same_places now old same ∙ places))
        (led_by_lock mid.tree before shaped (goes.files (lock_of before) (lock_among s all (i - 1) i (omega (arith, some)) (omega (arith, lt_all)))))

    -- and so are those that lead to its own place, where they lead to that one too
    pub is_led : 0 < i → (has_folders mid.tree (get_or (place_paths now) (i - 1) []) ≡ true → has_folders mid.tree (get_or (place_paths now) i []) ≡ true) → IsShaped mid.tree → has_folders mid.tree e.lock ≡ true
    is_led some leads shaped =
        subst (λ (p : Path). has_folders mid.tree p ≡ true) (get_or-map (λ (x : Edit). x.lock) now i e [] lt ∙ ap (λ (x : Edit). x.lock) (sym is))
        (leads (led_before shaped some))

    pub took_refused : {mode : Mode} (error : Error) (edits : List Edit) → Finds s kind all first mode i mid edits → IsRefusedLock mid.tree (name_of e.update) lock error → IsFirstCause s kind first.tree [] all error
    took_refused error edits finds why = finds.fault error (rounds.lock_refused s kind all apart first mid i e.update lt_all update_is lock at held goes.run error why)

    pub took_still : (T : Tree) → AddsLocks [] (lock ∷ []) mid.tree T → AddsLocks (locks_of s (take i all)) (locks_of s all) first.tree T
    took_still T adds = rounds.lock_still s kind all apart first mid i e.update lt_all update_is lock at held goes.run T adds

    pub took_leaves : (one : Meaning) → Leaves mid one (AddsLocks (lock ∷ []) (lock ∷ []) mid.tree) → Leaves first one (AddsLocks (locks_of s all) (locks_of s all) first.tree)
    took_leaves one next = rounds.lock_leaves s kind all apart first mid i e.update lt_all update_is lock at held goes.run one next

    pub took_passes : (one : Meaning) → Passes mid one (LockingOn (disk_of mid) place) → OnlyLocks (locks_of s all) first one
    took_passes one next = locking_round s kind all apart first mid i e.update lt_all update_is place placed held goes.run one goes.passes next

    module _ (one : Meaning) (took : Leaves mid one (AddsLocks (lock ∷ []) (lock ∷ []) mid.tree)) (new : IsNewLock mid.tree lock one.tree) where
      pub id_then : ids_in old ≡ packed_ids s first.tree all → e.packed ≡ packed_of s (view_of one.tree) (name_of e.update)
      id_then ids = rounds.id_as_first s kind all apart first mid i e.update lt_all update_is lock at held goes.run one took new e.packed (id_is first.tree ids)

      pub found_refused : {mode : Mode} (error : Error) (edits : List Edit) → Finds s kind all first mode i mid edits →
          IsIoOrMemory error ⊎ IsMismatch kind e.update (found s (view_of one.tree) (name_of e.update)) error → IsFirstCause s kind first.tree [] all error
      found_refused error edits finds why = finds.fault error (rounds.found_refused s kind all apart first mid i e.update lt_all update_is lock at held goes.run one took new error why)

      pub free_then : (q : Path) → is_in (locks_of s (take (i + 1) all)) q ≡ true → first.tree q ≡ None
      free_then = rounds.free_then s kind all apart first mid i e.update lt_all update_is lock at held goes.run one took new

      module _ (two : Meaning) (fills : Leaves one two (FillsLock one.tree lock)) where
        pub text_adds : AddsLocks (locks_of s (take (i + 1) all)) (locks_of s all) first.tree two.tree
        text_adds = rounds.adds_then_text s kind all apart first mid i e.update lt_all update_is lock at held goes.run one took new two.tree fills.tree

        pub text_leaves : Leaves first two (AddsLocks (locks_of s all) (locks_of s all) first.tree)
        text_leaves = rounds.text_leaves s kind all apart first mid i e.update lt_all update_is lock at held goes.run one took new two fills

        module _ (next : Passes mid one (LockingOn (disk_of mid) place)) (last : Passes one two (FillingOn (disk_of one) lock)) where
          pub text_passes : OnlyLocks (locks_of s all) first two
          text_passes = filling_round s kind all apart first mid i e.update lt_all update_is place placed held goes.run one two goes.passes next (ap is_file new.empty) last

          then : Held s kind all apart first.tree (take (i + 1) all) two.tree
          then = rounds.held_then s kind all apart first mid i e.update lt_all update_is lock at held goes.run one took new two.tree fills.tree

          -- the round is done
          pub goes_then : IsSomeWhole (disk_of two) lock → Goes s kind all first (i + 1) two
          goes_then here = record {
            adds = then.adds;
            free = then.free;
            files = then.files;
            run = text_leaves;
            lockable = λ later. goes.lockable (rounds.lockable_then s kind all apart first mid i e.update lt_all update_is lock at held goes.run one took new later);
            whole = whole_round s kind all apart first mid i e.update lt_all update_is place placed held goes.run one two new next last goes.whole here;
            wholes = λ q text h. wholes_round s kind all apart first mid i e.update lt_all update_is place placed held goes.run one two new next last q text (goes.wholes q text h);
            passes = text_passes;
          }

        pub finds_then : {mode : Mode} (done : Edit) → given done ≡ given e → IsDecided s mode one.tree two.tree e done → Finds s kind all first mode i mid now → Finds s kind all first mode (i + 1) two (set now i done)
        finds_then {mode = mode} done like decided finds = record {
          was = subst (λ (l : List Edit). targets_of l ≡ old_targets s first.tree (take (i + 1) all)) (sym more)
              (rounds.found_then s kind all apart first mid i e.update lt_all update_is lock at held goes.run one took new (take i now) done finds.was decided.was);
          files = subst (λ (l : List Edit). seen_files l ≡ files_at s first.tree (take (i + 1) all)) (sym more)
              (rounds.files_then s kind all apart first mid i e.update lt_all update_is lock at held goes.run one took new (take i now) done finds.files decided.file);
          what = subst (λ (l : List Edit). effects_of l ≡ effects_on s mode (view_of first.tree) (take (i + 1) all)) (sym more)
              (rounds.effects_then s kind all apart first mid i e.update lt_all update_is lock at held goes.run one took new mode (take i now) done finds.what
              (ap (λ p. effect_value p.change done.effect) (ap (λ p. p.0) like) ∙ decided.what));
          fault = λ error later. finds.fault error (rounds.later_fault s kind all apart first mid i e.update lt_all update_is lock at held goes.run one took new decided.expects error later);
          pass = λ later. finds.pass (rounds.all_pass s kind all apart first mid i e.update lt_all update_is lock at held goes.run one took new decided.expects later);
          texts = rounds.texts_then s kind all apart first mid i e.update lt_all update_is lock at held goes.run one took new mode two.tree finds.texts decided.filled;
        }
          where
            more : take (i + 1) (set now i done) ≡ take i now ++ done ∷ []
            more = take_more_set now i done lt
