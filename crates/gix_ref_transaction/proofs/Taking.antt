-- One lock more, and what was found.
use Rattle.std.proofs.Common.{◌≡◌, ◌≢◌, ◌⊎◌, inl, inr, ⊎_elim, ℕ, List, [], ◌∷◌, ◌++◌, true, false, Option, Some, None, is_some, refl, sym, ◌∙◌, ap, subst, IsSome, take, drop}
use Rattle.std.specs.Prelude.{bytes_eq}
use Rattle.std.proofs.lemmas.List.{take-append-drop, map-append}
use Rattle.gix_ref_hash.specs.declared.hash.Kind.{Kind}
use Rattle.gix_ref_files.specs.Tree.{Tree, Path, Content, fronts, is_file, is_blocked, put}
use Rattle.gix_ref_files.specs.Tree.Content.{File}
use Rattle.gix_ref_files.proofs.Puts.{put_at, put_other}
use Rattle.gix_ref_theory.specs.Edits.{Mode}
use Rattle.gix_ref_transaction.specs.OwnLocks.{is_in, leads_to, IsOurs, AddsLocks}
use Rattle.gix_ref_theory.specs.OnRealTrees.{view_of, file_of}
use Rattle.gix_ref_transaction.specs.Causes.{found, found_by, decoded, packed_id, packed_of, IsEditFault, IsLockable, LocksAreApart, locks_of}
use Rattle.gix_ref_theory.specs.Readings.{Store, records_of_file}
use Rattle.gix_ref_transaction.specs.PrepareSteps.{effect_on, has_file_at, lock_text, IsRefusedLock, IsNewLock, FillsLock, HoldTexts}
use Rattle.gix_ref_edits.specs.RefEdits.{name_of}
use Rattle.gix_ref_files.specs.Lock.{lock_of}
use Rattle.gix_ref_edits.specs.declared.transaction.RefEdit.{RefEdit}
use Rattle.gix_ref_transaction.specs.declared.prepare.error.Error.{Error}
use Rattle.gix_ref_transaction.specs.declared.prepare.error.Error.TheVariants.{UnsafeName, DeviceName, DeleteMustNotExist, TargetNotFull, OtherHashKind, PreprocessingFailed, PackedTransactionAcquire, Packed, PackedFind, PackedTransactionPrepare, PathCollision, LockAcquire, DeleteReferenceMustExist, MustExist, MustNotExist, ReferenceOutOfDate, ReferenceDecode, Io, Memory}
use Rattle.gix_ref_transaction.proofs.LookupLemmas.{effect_alike}
use Rattle.gix_ref_transaction.proofs.Adds.{clash, is_false, either_way, any_left, any_right, any_cases, in_one, in_here, any_same, leads_in, leads_one, no_way, adds_wider, adds_then, same_view, same_lock, same_path, is_same_path}

-- the locks of some edits and one more
pub more_left : (s : Store) (kind : Kind) (edits : List RefEdit) (edit : RefEdit) (q : Path) → is_in (locks_of s edits) q ≡ true → is_in (locks_of s (edits ++ edit ∷ [])) q ≡ true
more_left s kind edits edit q h = rw map-append (any_left (λ p. bytes_eq p q) (locks_of s edits) (locks_of s (edit ∷ [])) h)

pub more_here : (s : Store) (kind : Kind) (edits : List RefEdit) (edit : RefEdit) (q : Path) → lock_of (s.place (name_of edit)) ≡ q → is_in (locks_of s (edits ++ edit ∷ [])) q ≡ true
more_here s kind edits edit q h = rw map-append (any_right (λ p. bytes_eq p q) (locks_of s edits) (locks_of s (edit ∷ [])) (in_here (lock_of (s.place (name_of edit))) q [] h))

pub more_cases : (s : Store) (kind : Kind) (edits : List RefEdit) (edit : RefEdit) (q : Path) → is_in (locks_of s (edits ++ edit ∷ [])) q ≡ true → (is_in (locks_of s edits) q ≡ true) ⊎ (lock_of (s.place (name_of edit)) ≡ q)
more_cases s kind edits edit q h =
    let parts = any_cases (λ p. bytes_eq p q) (locks_of s edits) (locks_of s (edit ∷ [])) (rw map-append at h) in
    ⊎_elim (λ left. inl left) (λ right. inr (in_one (lock_of (s.place (name_of edit))) q right)) parts

-- a lock of the first edits is a lock of all
pub front_in : (s : Store) (kind : Kind) (edits : List RefEdit) (n : ℕ) (q : Path) → is_in (locks_of s (take n edits)) q ≡ true → is_in (locks_of s edits) q ≡ true
front_in s kind edits n q h =
    subst (λ (l : List RefEdit). is_in (locks_of s l) q ≡ true) (take-append-drop n edits)
    (rw map-append (any_left (λ p. bytes_eq p q) (locks_of s (take n edits)) (locks_of s (drop n edits)) h))

-- the texts of some locks, in another tree that has these locks too
pub hold_on : (mode : Mode) (s : Store) (kind : Kind) (before S T : Tree) (edits : List RefEdit) → ((q : Path) → is_file (S q) ≡ true → T q ≡ S q) → HoldTexts s mode before S edits → HoldTexts s mode before T edits
hold_on mode s kind before S T [] same holds = tt
hold_on mode s kind before S T (edit ∷ edits) same holds =
    (same (lock_of (s.place (name_of edit))) (ap is_file holds.0) ∙ holds.0, hold_on mode s kind before S T edits same holds.1)

pub hold_more : (mode : Mode) (s : Store) (kind : Kind) (before T : Tree) (edits : List RefEdit) (edit : RefEdit) → HoldTexts s mode before T edits → T (lock_of (s.place (name_of edit))) ≡ Some (File (lock_text (effect_on s mode (view_of before) edit))) → HoldTexts s mode before T (edits ++ edit ∷ [])
hold_more mode s kind before T [] edit holds here = (here, tt)
hold_more mode s kind before T (e ∷ edits) edit holds here = (holds.0, hold_more mode s kind before T edits edit holds.1 here)

module _ (s : Store) (kind : Kind) (edits : List RefEdit) (apart : LocksAreApart s edits) (T0 : Tree) where
  abbrev all : List Path
  all = locks_of s edits

  -- the locks of the edits seen are taken
  pub record Held (seen : List RefEdit) (T : Tree) : Type 0 where
    pub adds : AddsLocks (locks_of s seen) all T0 T
    pub free : (q : Path) → is_in (locks_of s seen) q ≡ true → T0 q ≡ None
    pub files : (q : Path) → is_in (locks_of s seen) q ≡ true → is_file (T q) ≡ true

  module _ (seen : List RefEdit) (known : (q : Path) → is_in (locks_of s seen) q ≡ true → is_in all q ≡ true) (edit : RefEdit) (within : is_in all (lock_of (s.place (name_of edit))) ≡ true) (T : Tree) (held : Held seen T) where
    abbrev lock : Path
    lock = lock_of (s.place (name_of edit))

    no_lead : leads_to all lock ≡ false
    no_lead = no_way all lock (λ l here. apart.ways l lock here within)

    same_way : is_blocked T lock ≡ is_blocked T0 lock
    same_way = any_same (λ f. is_file (T f)) (λ f. is_file (T0 f)) (fronts lock)
        (λ f on_way. same_view is_file refl (locks_of s seen) all T0 T f held.adds
        (is_false (is_in (locks_of s seen) f) (λ taken. clash on_way (apart.ways lock f within (known f taken)))))

    at_lock : is_in (locks_of s seen) lock ≡ false → T lock ≡ T0 lock
    at_lock not_taken = same_lock (locks_of s seen) all T0 T lock held.adds not_taken no_lead

    pub refused : (cause : Error) → IsRefusedLock T (name_of edit) lock cause → IsEditFault s kind T0 seen edit cause
    refused (PathCollision name) why = inr (inl (why.0, sym same_way ∙ why.1))
    refused (LockAcquire name) why = inr (inl (why.0, either_way (is_in (locks_of s seen) lock) (λ taken. inr taken) (λ not_taken. inl (subst (λ (n : Option Content). IsSome n) (at_lock not_taken) why.1))))
    refused (Io error) why = inl tt
    refused Memory why = inl tt
    refused UnsafeName why = absurd why
    refused DeviceName why = absurd why
    refused DeleteMustNotExist why = absurd why
    refused TargetNotFull why = absurd why
    refused OtherHashKind why = absurd why
    refused (PreprocessingFailed source) why = absurd why
    refused PackedTransactionAcquire why = absurd why
    refused (Packed error) why = absurd why
    refused (PackedFind error) why = absurd why
    refused (DeleteReferenceMustExist name) why = absurd why
    refused (MustExist name expected) why = absurd why
    refused (MustNotExist name actual new) why = absurd why
    refused (ReferenceOutOfDate name expected actual) why = absurd why
    refused (PackedTransactionPrepare source) why = absurd why
    refused (ReferenceDecode source) why = absurd why

    wider : (xs : List Path) (S U : Tree) → AddsLocks xs (lock ∷ []) S U → AddsLocks xs all S U
    wider xs S U adds = adds_wider xs xs (lock ∷ []) all S U (λ q h. h) (λ q leads. leads_in all lock q within (leads_one lock q leads)) adds

    -- a refused lock adds nothing
    pub still : (U : Tree) → AddsLocks [] (lock ∷ []) T U → AddsLocks (locks_of s seen) all T0 U
    still U adds = adds_then (locks_of s seen) (locks_of s seen) all T0 T U (λ q h. h) held.adds (adds_wider [] (locks_of s seen) all all T U (λ q none. clash none refl) (λ q h. h) (wider [] T U adds))

    -- one more may be there
    pub begun : (U : Tree) → AddsLocks (lock ∷ []) (lock ∷ []) T U → AddsLocks (locks_of s (seen ++ edit ∷ [])) all T0 U
    begun U adds =
        adds_then (locks_of s seen) (locks_of s (seen ++ edit ∷ [])) all T0 T U (more_left s kind seen edit) held.adds
        (adds_wider (lock ∷ []) (locks_of s (seen ++ edit ∷ [])) all all T U (λ q here. more_here s kind seen edit q (in_one lock q here)) (λ q h. h) (wider (lock ∷ []) T U adds))

    pub all_known : (q : Path) → is_in (locks_of s (seen ++ edit ∷ [])) q ≡ true → is_in all q ≡ true
    all_known q h = ⊎_elim (λ old. known q old) (λ here. subst (λ (p : Path). is_in all p ≡ true) here within) (more_cases s kind seen edit q h)

    -- a stop in taking the lock
    pub stop_taking : (U : Tree) → AddsLocks (lock ∷ []) (lock ∷ []) T U → AddsLocks all all T0 U
    stop_taking U adds = adds_wider (locks_of s (seen ++ edit ∷ [])) all all all T0 U all_known (λ q h. h) (begun U adds)

    module _ (U : Tree) (adds : AddsLocks (lock ∷ []) (lock ∷ []) T U) (new : IsNewLock T lock U) where
      not_ours : is_in (locks_of s seen) lock ≡ false
      not_ours = is_false (is_in (locks_of s seen) lock) (λ taken. clash (held.files lock taken) (ap is_file new.free))

      pub lockable : IsLockable s kind T0 seen edit
      lockable = record { way = sym same_way ∙ new.way; free = sym (at_lock not_ours) ∙ new.free; ours = not_ours }

      pub free_more : (q : Path) → is_in (locks_of s (seen ++ edit ∷ [])) q ≡ true → T0 q ≡ None
      free_more q h = ⊎_elim (λ old. held.free q old) (λ here. subst (λ (p : Path). T0 p ≡ None) here lockable.free) (more_cases s kind seen edit q h)

      -- nothing else changes what is found
      same_file : (path : Path) → is_in all path ≡ false → view_of U path ≡ view_of T0 path
      same_file path apart_path = same_view file_of refl (locks_of s (seen ++ edit ∷ [])) all T0 U path (begun U adds)
          (is_false (is_in (locks_of s (seen ++ edit ∷ [])) path) (λ taken. clash (all_known path taken) apart_path))

      module _ (apart_place : is_in all (s.place (name_of edit)) ≡ false) where
        pub same_id : packed_of s (view_of U) (name_of edit) ≡ packed_of s (view_of T0) (name_of edit)
        same_id = ap (λ (file : Option (List ℕ)). packed_id (s.key (name_of edit)) (records_of_file s file)) (same_file s.packed_path apart.packed)

        pub same_found : found s (view_of U) (name_of edit) ≡ found s (view_of T0) (name_of edit)
        same_found =
            ap (λ (file : Option (List ℕ)). found_by s (decoded s file) (packed_of s (view_of U) (name_of edit))) (same_file (s.place (name_of edit)) apart_place)
            ∙ ap (λ id. found_by s (decoded s (view_of T0 (s.place (name_of edit)))) id) same_id

        pub same_has_file : has_file_at s U edit ≡ has_file_at s T0 edit
        same_has_file = ap is_some (same_file (s.place (name_of edit)) apart_place)

        pub same_effect : (mode : Mode) → effect_on s mode (view_of U) edit ≡ effect_on s mode (view_of T0) edit
        same_effect mode = effect_alike mode s (view_of U) (view_of T0) edit (same_file (s.place (name_of edit)) apart_place) (same_file s.packed_path apart.packed)

      -- with a text in it
      pub filling : (W : Tree) → FillsLock U lock W → AddsLocks (locks_of s (seen ++ edit ∷ [])) all T0 W
      filling W (inl same) = subst (λ (t : Tree). AddsLocks (locks_of s (seen ++ edit ∷ [])) all T0 t) (sym same) (begun U adds)
      filling W (inr (text, is)) = λ q.
          either_way (bytes_eq lock q)
          (λ here. let e : lock ≡ q = (same_path lock q here) in
          inr (
            subst (λ (p : Path). T0 p ≡ None) e lockable.free,
            subst (λ (n : Option Content). IsOurs (locks_of s (seen ++ edit ∷ [])) all q n) (sym (ap (λ (t : Tree). t q) is ∙ subst (λ (p : Path). put U lock (Some (File text)) p ≡ Some (File text)) e (put_at U lock (Some (File text))))) (more_here s kind seen edit q e),
          ))
          (λ elsewhere. let same : W q ≡ U q = ap (λ (t : Tree). t q) is ∙ put_other U lock q (Some (File text)) (λ e. clash (is_same_path lock q e) elsewhere) in
          ⊎_elim (λ old. inl (same ∙ old)) (λ ours. inr (ours.0, subst (λ (n : Option Content). IsOurs (locks_of s (seen ++ edit ∷ [])) all q n) (sym same) ours.1)) (begun U adds q))

      pub stop_filling : (W : Tree) → FillsLock U lock W → AddsLocks all all T0 W
      stop_filling W fills = adds_wider (locks_of s (seen ++ edit ∷ [])) all all all T0 W all_known (λ q h. h) (filling W fills)

      -- its lock has one file more
      still_file : (W : Tree) → FillsLock U lock W → (q : Path) → lock ≢ q → is_file (T q) ≡ true → W q ≡ T q
      still_file W fills q other a_file = filled fills ∙ ⊎_elim (λ old. old) (λ more. clash a_file (ap is_file more.0)) (adds q)
        where
          filled : FillsLock U lock W → W q ≡ U q
          filled (inl same) = ap (λ (t : Tree). t q) same
          filled (inr (text, is)) = ap (λ (t : Tree). t q) is ∙ put_other U lock q _ other

      own_file : (W : Tree) → FillsLock U lock W → is_file (W lock) ≡ true
      own_file W (inl same) = ap (λ (t : Tree). is_file (t lock)) same ∙ ap is_file new.empty
      own_file W (inr (text, is)) = ap (λ (t : Tree). is_file (t lock)) is ∙ ap is_file (put_at U lock (Some (File text)))

      taken_apart : (q : Path) → is_file (T q) ≡ true → lock ≢ q
      taken_apart q a_file e = clash a_file (subst (λ (p : Path). is_file (T p) ≡ false) e (ap is_file new.free))

      pub held_more : (W : Tree) → FillsLock U lock W → Held (seen ++ edit ∷ []) W
      held_more W fills = record {
        adds = filling W fills;
        free = free_more;
        files = λ q h. ⊎_elim
            (λ old. let a_file = held.files q old in ap is_file (still_file W fills q (taken_apart q a_file) a_file) ∙ a_file)
            (λ here. subst (λ (p : Path). is_file (W p) ≡ true) here (own_file W fills))
            (more_cases s kind seen edit q h);
      }

      -- and its text
      pub texts_more : (mode : Mode) (W : Tree) → HoldTexts s mode T0 T seen → W ≡ put U lock (Some (File (lock_text (effect_on s mode (view_of T0) edit)))) → HoldTexts s mode T0 W (seen ++ edit ∷ [])
      texts_more mode W texts is =
          hold_more mode s kind T0 W seen edit (hold_on mode s kind T0 T W seen (λ q a_file. still_file W (inr (_, is)) q (taken_apart q a_file) a_file) texts) (ap (λ (t : Tree). t lock) is ∙ put_at U lock _)
