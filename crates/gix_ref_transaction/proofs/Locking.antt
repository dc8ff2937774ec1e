-- What taking one lock adds to a tree.
use Rattle.std.proofs.Common.{◌≡◌, ◌⊎◌, inl, inr, ⊎_elim, ℕ, List, [], ◌∷◌, true, false, Option, Some, None, refl, sym, ◌∙◌, ap, subst, IsSome, take, drop}
use Rattle.std.specs.Prelude.{bytes_eq, ◌||◌}
use Rattle.std.specs.List.{list_any}
use Rattle.std.proofs.lemmas.List.{take-append-drop}
use Rattle.gix_ref_files.specs.Tree.{Tree, Path, Content, fronts, is_file, is_blocked, put, with_folders}
use Rattle.gix_ref_files.specs.Tree.Content.{File, Folder}
use Rattle.gix_ref_files.specs.Calls.{created}
use Rattle.gix_ref_files.specs.Lock.{Readying, Acquiring, MakesLock, readied, lock_of}
use Rattle.gix_ref_files.specs.declared.files.Create.TheVariants.{Made, Standing, Blocked}
use Rattle.gix_ref_files.proofs.Puts.{put_at, put_other}
use Rattle.gix_ref_files.proofs.PathFronts.{own_untouched}
use Rattle.gix_ref_files.proofs.LockLemmas.{lock_fronts}
use Rattle.gix_ref_transaction.specs.OwnLocks.{is_in, IsOurs, AddsLocks}
use Rattle.gix_ref_transaction.specs.PrepareSteps.{IsNewLock}
use Rattle.gix_ref_transaction.proofs.Adds.{clash, is_false, either_way, any_left, any_right, any_cases, in_one, in_here, leads_in, same_path, is_same_path, adds_wider}

-- a path that was given a folder, or is as it was
folders_at : (T : Tree) (fs : List Path) (q : Path) → (with_folders T fs q ≡ T q) ⊎ ((is_in fs q ≡ true) × (with_folders T fs q ≡ Some Folder))
folders_at T [] q = inl refl
folders_at T (f ∷ fs) q =
    ⊎_elim
    (λ same. either_way (bytes_eq f q)
    (λ here. inr (in_here f q fs (same_path f q here), same ∙ subst (λ (p : Path). put T f (Some Folder) p ≡ Some Folder) (same_path f q here) (put_at T f (Some Folder))))
    (λ other. inl (same ∙ put_other T f q (Some Folder) (λ e. clash (is_same_path f q e) other))))
    (λ made. inr (any_right (λ p. bytes_eq p q) (f ∷ []) fs made.0, made.1))
    (folders_at (put T f (Some Folder)) fs q)

none_of : (T : Tree) (fs : List Path) (q : Path) → list_any (λ f. is_file (T f)) fs ≡ false → is_in fs q ≡ true → is_file (T q) ≡ false
none_of T [] q none within = clash within refl
none_of T (f ∷ fs) q none within =
    is_false (is_file (T q)) (λ a_file. clash (there_is a_file (f ∷ fs) within) none)
  where
    there_is : is_file (T q) ≡ true → (gs : List Path) → is_in gs q ≡ true → list_any (λ g. is_file (T g)) gs ≡ true
    there_is a_file [] h = clash h refl
    there_is a_file (g ∷ gs) h =
        ⊎_elim
        (λ here. any_left (λ x. is_file (T x)) (g ∷ []) gs (one g (in_one g q here)))
        (λ there. any_right (λ x. is_file (T x)) (g ∷ []) gs (there_is a_file gs there))
        (any_cases (λ p. bytes_eq p q) (g ∷ []) gs h)
      where
        one : (x : Path) → x ≡ q → list_any (λ y. is_file (T y)) (x ∷ []) ≡ true
        one x e = ap (λ b. b || false) (ap (λ (p : Path). is_file (T p)) e ∙ a_file)

-- folders of which none is at a file add folders alone
folders_add : (T : Tree) (fs : List Path) (lock : Path) → list_any (λ f. is_file (T f)) fs ≡ false → ((q : Path) → is_in fs q ≡ true → is_in (fronts lock) q ≡ true) → AddsLocks [] (lock ∷ []) T (with_folders T fs)
folders_add T fs lock none way q =
    ⊎_elim (λ same. inl same) (λ made. by_content (T q) refl made.0 made.1) (folders_at T fs q)
  where
    by_content : (content : Option Content) → T q ≡ content → is_in fs q ≡ true → with_folders T fs q ≡ Some Folder → (with_folders T fs q ≡ T q) ⊎ ((T q ≡ None) × IsOurs [] (lock ∷ []) q (with_folders T fs q))
    by_content (Some (File bytes)) is within made = clash (ap is_file is) (none_of T fs q none within)
    by_content (Some Folder) is within made = inl (made ∙ sym is)
    by_content None is within made = inr (is, subst (λ n. IsOurs [] (lock ∷ []) q n) (sym made) (leads_in (lock ∷ []) lock q (in_here lock lock [] refl) (way q within)))

module _ (before : Tree) (place lock : Path) (at : lock ≡ lock_of place) where
  ways : fronts lock ≡ fronts place
  ways = ap fronts at ∙ lock_fronts place

  blocked_is : is_blocked before lock ≡ is_blocked before place
  blocked_is = ap (λ (l : List Path). list_any (λ f. is_file (before f)) l) ways

  some_folders : (n : ℕ) → is_blocked before place ≡ false → AddsLocks [] (lock ∷ []) before (with_folders before (take n (fronts place)))
  some_folders n free =
      folders_add before (take n (fronts place)) lock
      (is_false (list_any (λ f. is_file (before f)) (take n (fronts place))) (λ h. clash (subst (λ (l : List Path). list_any (λ f. is_file (before f)) l ≡ true) (take-append-drop n (fronts place)) (any_left (λ f. is_file (before f)) (take n (fronts place)) (drop n (fronts place)) h)) free))
      (λ q h. subst (λ (l : List Path). is_in l q ≡ true) (take-append-drop n (fronts place) ∙ sym ways) (any_left (λ p. bytes_eq p q) (take n (fronts place)) (drop n (fronts place)) h))

  all_folders : is_blocked before place ≡ false → AddsLocks [] (lock ∷ []) before (readied before place)
  all_folders free = folders_add before (fronts place) lock free (λ q h. subst (λ (l : List Path). is_in l q ≡ true) (sym ways) h)

  -- the folders that lead to the lock
  pub readying_adds : (T : Tree) → Readying before place T → AddsLocks [] (lock ∷ []) before T
  readying_adds T (inl same) = λ q. inl (ap (λ (t : Tree). t q) same)
  readying_adds T (inr (free, (n, is))) = subst (λ (t : Tree). AddsLocks [] (lock ∷ []) before t) (sym is) (some_folders n free)

  at_lock : readied before place lock ≡ before lock
  at_lock = ap (λ (l : List Path). with_folders before l lock) (sym ways) ∙ own_untouched before lock

  new_lock : is_blocked before place ≡ false → before lock ≡ None → AddsLocks (lock ∷ []) (lock ∷ []) before (created (readied before place) lock)
  new_lock free none q =
      either_way (bytes_eq lock q)
      (λ here. let e : lock ≡ q = same_path lock q here in
      inr (
        subst (λ (p : Path). before p ≡ None) e none,
        subst (λ n. IsOurs (lock ∷ []) (lock ∷ []) q n) (sym (subst (λ (p : Path). put (readied before place) lock (Some (File [])) p ≡ Some (File [])) e (put_at (readied before place) lock (Some (File []))))) (in_here lock q [] e),
      ))
      (λ other. let same = put_other (readied before place) lock q (Some (File [])) (λ e. clash (is_same_path lock q e) other) in
      ⊎_elim (λ old. inl (same ∙ old))
      (λ new. inr (new.0, subst (λ n. IsOurs (lock ∷ []) (lock ∷ []) q n) (sym same) (wider q (readied before place q) new.1)))
      (all_folders free q))
    where
      wider : (q : Path) (content : Option Content) → IsOurs [] (lock ∷ []) q content → IsOurs (lock ∷ []) (lock ∷ []) q content
      wider q (Some (File bytes)) h = clash h refl
      wider q (Some Folder) h = h
      wider q None h = h

  -- and the lock
  pub acquiring_adds : (T : Tree) → Acquiring before place T → AddsLocks (lock ∷ []) (lock ∷ []) before T
  acquiring_adds T (inl folders) = adds_wider [] (lock ∷ []) (lock ∷ []) (lock ∷ []) before T (λ q h. clash h refl) (λ q h. h) (readying_adds T folders)
  acquiring_adds T (inr (free, inl same)) =
      subst (λ (t : Tree). AddsLocks (lock ∷ []) (lock ∷ []) before t) (sym same)
      (adds_wider [] (lock ∷ []) (lock ∷ []) (lock ∷ []) before (readied before place) (λ q h. clash h refl) (λ q h. h) (all_folders free))
  acquiring_adds T (inr (free, inr (allowed, is))) =
      subst (λ (t : Tree). AddsLocks (lock ∷ []) (lock ∷ []) before t) (sym (is ∙ ap (created (readied before place)) (sym at)))
      (new_lock free (sym at_lock ∙ ap (readied before place) at ∙ allowed.0))

  -- the three results
  pub made_new : (T : Tree) → MakesLock before place T Made → IsNewLock before lock T
  made_new T (free, (allowed, is)) = record {
    way = blocked_is ∙ free;
    free = sym at_lock ∙ ap (readied before place) at ∙ allowed.0;
    empty = ap (λ (t : Tree). t lock) is ∙ (ap (created (readied before place) (lock_of place)) at ∙ put_at (readied before place) (lock_of place) (Some (File [])));
  }

  pub standing_there : (T : Tree) → MakesLock before place T Standing → IsSome (before lock) × AddsLocks [] (lock ∷ []) before T
  standing_there T (free, (some, same)) = (
    subst (λ (n : Option Content). IsSome n) (ap (readied before place) (sym at) ∙ at_lock) some,
    subst (λ (t : Tree). AddsLocks [] (lock ∷ []) before t) (sym same) (all_folders free),
  )

  pub blocked_there : (T : Tree) → MakesLock before place T Blocked → (is_blocked before lock ≡ true) × AddsLocks [] (lock ∷ []) before T
  blocked_there T (blocked, same) = (blocked_is ∙ blocked, λ q. inl (ap (λ (t : Tree). t q) same))
