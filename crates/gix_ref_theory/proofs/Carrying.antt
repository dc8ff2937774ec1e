-- What the steps on a tree do to its files, and that they leave what the writes that they carry out leave.
use Rattle.std.proofs.Common.{◌≡◌, ℕ, zero, suc, List, [], ◌∷◌, ◌++◌, Option, Some, None, Bool, true, false, refl, sym, ap, ◌∙◌, subst, inl, inr, ◌⊎◌, bytes_eq, if◌then◌else◌, take, drop, append_assoc, append-nil}
use Rattle.std.specs.Prelude.{◌==◌}
use Rattle.std.specs.List.{list_any}
use Rattle.std.proofs.lemmas.Bool.{cond-true, cond-false, false≢true, cases_Bool, or_parts, or_from}
use Rattle.gix_ref_files.specs.Tree.{Tree, Path, Content, put, appended, more, moved, removed, is_file, is_folder, is_blocked, fronts, fronts_after, folders_to, with_folders}
use Rattle.gix_ref_files.specs.Tree.Content.{File, Folder}
use Rattle.gix_ref_files.specs.Calls.{is_in_the_way, created}
use Rattle.gix_ref_files.specs.Steps.{Step, Does, Begins, IsAfter, IsLeftBy as IsLeftBySteps}
use Rattle.gix_ref_files.specs.Steps.Step.{Create, Append as AppendStep, Line as LineStep, Rename, RemoveFile, MakeFolders, RemoveFolder, End}
use Rattle.gix_ref_theory.proofs.Writes.{same, same_true, same_false}
use Rattle.std.proofs.lemmas.List.{take-append-drop}
use Rattle.gix_ref_theory.specs.OnRealTrees.{CarryOut, after_step, file_of, view_of}
use Rattle.gix_ref_theory.specs.Views.{IsLeft, IsLeftByWrites, IsOwnLock, IsSameButLocks, IsSameView, View, Write, after, after_write, changed_at, file_bytes}
use Rattle.gix_ref_theory.specs.Views.Write.{Append, Put, Remove}
use Rattle.gix_ref_theory.specs.Views.Ending.{Stop}
use Rattle.gix_ref_files.proofs.Puts.{put_at}
use Rattle.gix_ref_files.proofs.Folders.{none_later}

-- these are the files of the tree
pub record Views (T : Tree) (view : View) : Type 0 where
  pub at : (path : Path) → view_of T path ≡ view path

-- Steps on files.

file_if : (b : Bool) (x y : Option Content) → file_of (if b then x else y) ≡ (if b then file_of x else file_of y)
file_if true x y = refl
file_if false x y = refl

put_views : (T : Tree) (view : View) (p : Path) (node : Option Content) (file : Option (List ℕ)) → Views T view → file_of node ≡ file → Views (put T p node) (changed_at p file view)
put_views T view p node file views is = record {
  at = λ q.
      file_if (bytes_eq p q) node (T q)
      ∙ (ap (λ x. if bytes_eq p q then x else view_of T q) is ∙ ap (λ x. if bytes_eq p q then file else x) (views.at q));
}

more_file : (node : Option Content) (bytes : List ℕ) → is_file node ≡ true → file_of (more node bytes) ≡ Some (file_bytes (file_of node) ++ bytes)
more_file (Some (File old)) bytes h = refl
more_file (Some Folder) bytes h = absurd (false≢true h)
more_file None bytes h = absurd (false≢true h)

-- an append where there is no file changes nothing
more_none : (node : Option Content) (bytes : List ℕ) → is_file node ≡ false → file_of (more node bytes) ≡ file_of node
more_none (Some (File old)) bytes h = absurd (false≢true (sym h))
more_none (Some Folder) bytes h = refl
more_none None bytes h = refl

put_same : (T : Tree) (view : View) (p : Path) (node : Option Content) → Views T view → file_of node ≡ view p → Views (put T p node) view
put_same T view p node views is = record { at = λ q. file_if (bytes_eq p q) node (T q) ∙ by q (bytes_eq p q) refl }
  where
    by : (q : Path) (b : Bool) → bytes_eq p q ≡ b → (if b then file_of node else view_of T q) ≡ view q
    by q true e = is ∙ ap view (same p q e)
    by q false e = views.at q

appended_views : (T : Tree) (view : View) (p : Path) (bytes : List ℕ) → Views T view → is_file (T p) ≡ true → Views (appended T p bytes) (changed_at p (Some (file_bytes (view p) ++ bytes)) view)
appended_views T view p bytes views file =
    put_views T view p (more (T p) bytes) (Some (file_bytes (view p) ++ bytes)) views (more_file (T p) bytes file ∙ ap (λ x. Some (file_bytes x ++ bytes)) (views.at p))

appended_same : (T : Tree) (view : View) (p : Path) (bytes : List ℕ) → Views T view → is_file (T p) ≡ false → Views (appended T p bytes) view
appended_same T view p bytes views none = put_same T view p (more (T p) bytes) views (more_none (T p) bytes none ∙ views.at p)

moved_views : (T : Tree) (view : View) (from to : Path) → Views T view → Views (moved T from to) (changed_at to (view from) (changed_at from None view))
moved_views T view from to views =
    put_views (put T from None) (changed_at from None view) to (T from) (view from) (put_views T view from None None views refl) (views.at from)

pub no_file : (node : Option Content) → is_file node ≡ false → file_of node ≡ None
no_file (Some (File bytes)) h = absurd (false≢true (sym h))
no_file (Some Folder) h = refl
no_file None h = refl

folder_is_no_file : (node : Option Content) → is_folder node ≡ true → file_of node ≡ None
folder_is_no_file (Some (File bytes)) h = refl_absurd h
  where
    refl_absurd : {A : Type 0} → false ≡ true → A
    refl_absurd h = absurd (false≢true h)
folder_is_no_file (Some Folder) h = refl
folder_is_no_file None h = absurd (false≢true h)

-- to remove what is not there
removed_none : (view : View) (p q : Path) → view p ≡ None → changed_at p None view q ≡ view q
removed_none view p q none = by (bytes_eq p q) refl
  where
    by : (b : Bool) → bytes_eq p q ≡ b → (if b then None else view q) ≡ view q
    by true e = sym none ∙ ap view (same p q e)
    by false e = refl

-- Steps on folders change no file.

folders_views : (fs : List Path) (T : Tree) (view : View) → list_any (λ f. is_file (T f)) fs ≡ false → Views T view → Views (with_folders T fs) view
folders_views [] T view h views = views
folders_views (f ∷ fs) T view h views =
    let parts = or_parts (is_file (T f)) (list_any (λ f. is_file (T f)) fs) h in
    folders_views fs (put T f (Some Folder)) view (none_later T f fs parts.1)
    (put_same T view f (Some Folder) views (sym (no_file (T f) parts.0) ∙ views.at f))

any_append : (test : Path → Bool) (a b : List Path) → list_any test a ≡ false → list_any test b ≡ false → list_any test (a ++ b) ≡ false
any_append test [] b h k = k
any_append test (x ∷ a) b h k =
    let parts = or_parts (test x) (list_any test a) h in or_from (test x) (list_any test (a ++ b)) parts.0 (any_append test a b parts.1 k)

any_take : (test : Path → Bool) (n : ℕ) (a : List Path) → list_any test a ≡ false → list_any test (take n a) ≡ false
any_take test zero a h = refl
any_take test (suc n) [] h = refl
any_take test (suc n) (x ∷ a) h =
    let parts = or_parts (test x) (list_any test a) h in or_from (test x) (list_any test (take n a)) parts.0 (any_take test n a parts.1)

-- the folders that lead to a path are its fronts and the path
fronts_end : (seen rest : Path) → fronts_after seen (rest ++ 47 ∷ []) ≡ fronts_after seen rest ++ (seen ++ rest) ∷ []
fronts_end seen [] = ap (λ (x : Path). x ∷ []) (sym (append-nil seen))
fronts_end seen (c ∷ rest) = by (c == 47) (fronts_end (seen ++ c ∷ []) rest ∙ ap (λ (x : Path). fronts_after (seen ++ c ∷ []) rest ++ x ∷ []) (append_assoc seen (c ∷ []) rest))
  where
    by : (b : Bool) → fronts_after (seen ++ c ∷ []) (rest ++ 47 ∷ []) ≡ fronts_after (seen ++ c ∷ []) rest ++ (seen ++ c ∷ rest) ∷ [] →
        (if b then seen ∷ fronts_after (seen ++ c ∷ []) (rest ++ 47 ∷ []) else fronts_after (seen ++ c ∷ []) (rest ++ 47 ∷ []))
        ≡ (if b then seen ∷ fronts_after (seen ++ c ∷ []) rest else fronts_after (seen ++ c ∷ []) rest) ++ (seen ++ c ∷ rest) ∷ []
    by true e = ap (λ (x : List Path). seen ∷ x) e
    by false e = e

no_file_to : (T : Tree) (p : Path) → is_in_the_way T p ≡ false → list_any (λ f. is_file (T f)) (folders_to p) ≡ false
no_file_to T [] h = refl
no_file_to T (c ∷ p) h =
    let parts = or_parts (is_file (T (c ∷ p))) (is_blocked T (c ∷ p)) h in
    ap (list_any (λ f. is_file (T f))) (fronts_end (c ∷ []) p)
    ∙ any_append (λ f. is_file (T f)) (fronts (c ∷ p)) ((c ∷ p) ∷ []) parts.1 (or_from (is_file (T (c ∷ p))) false parts.0 refl)

removed_folder : (T : Tree) (view : View) (p : Path) → Views T view → is_folder (T p) ≡ true → Views (removed T p) view
removed_folder T view p views folder = put_same T view p None views (sym (folder_is_no_file (T p) folder) ∙ views.at p)

-- The files after a step that is done.

along : {S T : Tree} {view : View} → T ≡ S → Views S view → Views T view
along e views = record { at = λ path. ap (λ (R : Tree). view_of R path) e ∙ views.at path }

-- an append to a file that was just made
made : (view : View) (path : Path) (bytes : List ℕ) (q : Path) → after_write (Append path bytes) (after_write (Append path []) view) q ≡ after_write (Append path bytes) view q
made view path bytes q = by (bytes_eq path q)
  where
    empty : file_bytes (after_write (Append path []) view path) ≡ file_bytes (view path)
    empty = ap file_bytes (cond-true (bytes_eq path path) (Some (file_bytes (view path) ++ [])) (view path) (same_true path path refl)) ∙ append-nil (file_bytes (view path))

    by : (b : Bool) → (if b then Some (file_bytes (after_write (Append path []) view path) ++ bytes) else (if b then Some (file_bytes (view path) ++ []) else view q))
        ≡ (if b then Some (file_bytes (view path) ++ bytes) else view q)
    by true = ap (λ x. Some (x ++ bytes)) empty
    by false = refl

made_views : (T : Tree) (view : View) (path : Path) → Views T view → T path ≡ None → Views (created T path) (after_write (Append path []) view)
made_views T view path views none =
    let missing : view path ≡ None = sym (views.at path) ∙ ap file_of none in
    subst (λ x. Views (created T path) (changed_at path (Some (file_bytes x ++ [])) view)) (sym missing) (put_views T view path (Some (File [])) (Some []) views refl)

line_views : (T : Tree) (view : View) (path : Path) (bytes : List ℕ) → Views T view → T path ≡ None → Views (appended (created T path) path bytes) (changed_at path (Some (file_bytes (view path) ++ bytes)) view)
line_views T view path bytes views none =
    let v = appended_views (created T path) (after_write (Append path []) view) path bytes (made_views T view path views none) (ap is_file (put_at T path (Some (File [])))) in
    record { at = λ q. v.at q ∙ made view path bytes q }

pub done_views : (step : Step) (T mid : Tree) (view : View) → Views T view → Does step T mid → Views mid (after_step step view)
done_views (Create path) T mid view views does = along does.1 (put_views T view path (Some (File [])) (Some []) views refl)
done_views (AppendStep path bytes) T mid view views does = along does.1 (appended_views T view path bytes views does.0)
done_views (LineStep path bytes) T mid view views (inl does) = along does.1 (appended_views T view path bytes views does.0)
done_views (LineStep path bytes) T mid view views (inr does) = along does.1 (line_views T view path bytes views does.0.0)
done_views (Rename from to) T mid view views does = along does.1 (moved_views T view from to views)
done_views (RemoveFile path) T mid view views (inl does) = along does.1 (put_views T view path None None views refl)
done_views (RemoveFile path) T mid view views (inr does) =
    along does.1 (record { at = λ q. views.at q ∙ sym (removed_none view path q (sym (views.at path) ∙ no_file (T path) does.0)) })
done_views (MakeFolders path) T mid view views does = along does.1 (folders_views (folders_to path) T view (no_file_to T path does.0) views)
done_views (RemoveFolder path) T mid view views (inl does) = along does.1 (removed_folder T view path views does.0.0)
done_views (RemoveFolder path) T mid view views (inr does) = along does.1 views
done_views End T mid view views does = absurd does

-- folders that are begun change no file
pub begun_folders : (path : Path) (T left : Tree) (view : View) → Views T view → Begins (MakeFolders path) T left → Views left view
begun_folders path T left view views (inl e) = along e views
begun_folders path T left view views (inr b) =
    along b.1.1 (folders_views (take b.1.0 (folders_to path)) T view (any_take (λ f. is_file (T f)) b.1.0 (folders_to path) (no_file_to T path b.0)) views)

pub begun_removal : (path : Path) (T left : Tree) (view : View) → Views T view → Begins (RemoveFolder path) T left → Views left view
begun_removal path T left view views (inl e) = along e views
begun_removal path T left view views (inr b) = along b.1 (removed_folder T view path views b.0.0)

-- The plan's files beside the real ones.

stop_here : (writes : List Write) (view left : View) → IsSameView left view → IsLeftByWrites Stop writes view left
stop_here [] view left h = h
stop_here (Append path bytes ∷ writes) view left h = inl (inl h)
stop_here (Put path bytes ∷ writes) view left h = inl h
stop_here (Remove path ∷ writes) view left h = inl h

stay : (locked : List Path) (writes : List Write) (view left : View) → IsSameButLocks locked left view → IsLeft locked writes view left
stay locked writes view left h = record { without_locks = view; stopped = stop_here writes view view (λ q. refl); same = h }

then_more : (locked : List Path) (write : Write) (writes : List Write) (view left : View) → IsLeft locked writes (after_write write view) left → IsLeft locked (write ∷ writes) view left
then_more locked write writes view left l = record { without_locks = l.without_locks; stopped = inr l.stopped; same = l.same }

in_writes : (locked : List Path) (view left : View) {a b : List Write} → b ≡ a → IsLeft locked a view left → IsLeft locked b view left
in_writes locked view left e l = subst (λ x. IsLeft locked x view left) (sym e) l

change_of_lock : (locked : List Path) (real view : View) (path : Path) (file : Option (List ℕ)) → IsOwnLock locked path → IsSameButLocks locked real view → IsSameButLocks locked (changed_at path file real) view
change_of_lock locked real view path file own h other n =
    cond-false (bytes_eq path other) file (real other) (same_false path other (λ e. n (subst (IsOwnLock locked) e own))) ∙ h other n

change_of_both : (locked : List Path) (real view : View) (path : Path) (file : Option (List ℕ)) → IsSameButLocks locked real view → IsSameButLocks locked (changed_at path file real) (changed_at path file view)
change_of_both locked real view path file h other n = ap (λ x. if bytes_eq path other then file else x) (h other n)

-- an append elsewhere
append_alike : (locked : List Path) (real view : View) (path : Path) (bytes : List ℕ) → (IsOwnLock locked path → ⊥) → IsSameButLocks locked real view →
    IsSameButLocks locked (changed_at path (Some (file_bytes (real path) ++ bytes)) real) (after_write (Append path bytes) view)
append_alike locked real view path bytes n h =
    subst (λ x. IsSameButLocks locked (changed_at path (Some (file_bytes (real path) ++ bytes)) real) (changed_at path (Some (file_bytes x ++ bytes)) view)) (h path n)
    (change_of_both locked real view path (Some (file_bytes (real path) ++ bytes)) h)

some_bytes : (node : Option Content) → is_file node ≡ true → file_of node ≡ Some (file_bytes (file_of node))
some_bytes (Some (File bytes)) h = refl
some_bytes (Some Folder) h = absurd (false≢true h)
some_bytes None h = absurd (false≢true h)

holds : (T : Tree) (real : View) (from : Path) → Views T real → is_file (T from) ≡ true → real from ≡ Some (file_bytes (real from))
holds T real from views file = sym (views.at from) ∙ (some_bytes (T from) file ∙ ap (λ x. Some (file_bytes x)) (views.at from))

-- the rename of an own lock
rename_alike : (locked : List Path) (real view : View) (from to : Path) → IsOwnLock locked from → real from ≡ Some (file_bytes (real from)) → IsSameButLocks locked real view →
    IsSameButLocks locked (after_step (Rename from to) real) (after_write (Put to (file_bytes (real from))) view)
rename_alike locked real view from to own holds h =
    subst (λ x. IsSameButLocks locked (changed_at to x (changed_at from None real)) (changed_at to (Some (file_bytes (real from))) view)) (sym holds)
    (change_of_both locked (changed_at from None real) view to (Some (file_bytes (real from))) (change_of_lock locked real view from None own h))

through : (locked : List Path) {T : Tree} {real view : View} → Views T real → IsSameButLocks locked real view → IsSameButLocks locked (view_of T) view
through locked views h path n = views.at path ∙ h path n

-- what a stop in an append leaves
begun_append : (locked : List Path) (path : Path) (bytes : List ℕ) (rest : List Write) (T left : Tree) (real view : View) → Views T real → IsSameButLocks locked real view →
    (IsOwnLock locked path → ⊥) → Begins (AppendStep path bytes) T left → IsLeft locked (Append path bytes ∷ rest) view (view_of left)
begun_append locked path bytes rest T left real view views h n (k, e) = by (cases_Bool (is_file (T path)))
  where
    by : (is_file (T path) ≡ true) ⊎ (is_file (T path) ≡ false) → IsLeft locked (Append path bytes ∷ rest) view (view_of left)
    by (inl file) = record {
      without_locks = after_write (Append path (take k bytes)) view;
      stopped = inl (inr (take k bytes, (drop k bytes, take-append-drop k bytes), λ q. refl));
      same = through locked (along e (appended_views T real path (take k bytes) views file)) (append_alike locked real view path (take k bytes) n h);
    }
    by (inr none) = stay locked (Append path bytes ∷ rest) view (view_of left) (through locked (along e (appended_same T real path (take k bytes) views none)) h)

-- on an own lock
begun_own_append : (locked : List Path) (path : Path) (bytes : List ℕ) (T left : Tree) (real view : View) → Views T real → IsSameButLocks locked real view → IsOwnLock locked path →
    Begins (AppendStep path bytes) T left → IsSameButLocks locked (view_of left) view
begun_own_append locked path bytes T left real view views h own (k, e) = by (cases_Bool (is_file (T path)))
  where
    by : (is_file (T path) ≡ true) ⊎ (is_file (T path) ≡ false) → IsSameButLocks locked (view_of left) view
    by (inl file) =
        through locked (along e (appended_views T real path (take k bytes) views file)) (change_of_lock locked real view path (Some (file_bytes (real path) ++ take k bytes)) own h)
    by (inr none) = through locked (along e (appended_same T real path (take k bytes) views none)) h

-- A log that is made empty and then appended to: a stop after it is made leaves a beginning of the append.
pub append_in_two : (path : Path) (bytes : List ℕ) (writes : List Write) (view left : View) →
    IsLeftByWrites Stop (Append path bytes ∷ writes) (after_write (Append path []) view) left → IsLeftByWrites Stop (Append path bytes ∷ writes) view left
append_in_two path bytes writes view left (inl (inl same)) = inl (inr ([], (bytes, refl), same))
append_in_two path bytes writes view left (inl (inr (front, part, same))) =
    inl (inr (front, part, λ q. same q ∙ made view path front q))
append_in_two path bytes writes view left (inr h) = inr (subst (λ v. IsLeftByWrites Stop writes v left) (λ i q. made view path bytes q i) h)

append_after : (path : Path) (bytes : List ℕ) (writes : List Write) (view : View) → after (Append path bytes ∷ writes) (after_write (Append path []) view) ≡ after (Append path bytes ∷ writes) view
append_after path bytes writes view = ap (after writes) (λ i q. made view path bytes q i)

-- a file that is made where there is none
create_alike : (locked : List Path) (T : Tree) (real view : View) (path : Path) → Views T real → T path ≡ None → (IsOwnLock locked path → ⊥) → IsSameButLocks locked real view →
    IsSameButLocks locked (changed_at path (Some []) real) (after_write (Append path []) view)
create_alike locked T real view path views none n h =
    let missing : view path ≡ None = sym (h path n) ∙ (sym (views.at path) ∙ ap file_of none) in
    subst (λ x. IsSameButLocks locked (changed_at path (Some []) real) (changed_at path (Some (file_bytes x ++ [])) view)) (sym missing)
    (change_of_both locked real view path (Some []) h)

with_made : (locked : List Path) (path : Path) (line : List ℕ) (rest writes : List Write) (view left : View) → writes ≡ Append path line ∷ rest → IsLeft locked writes (after_write (Append path []) view) left → IsLeft locked writes view left
with_made locked path line rest writes view left e l = in_writes locked view left e (record {
  without_locks = l.without_locks;
  stopped = append_in_two path line rest view l.without_locks (subst (λ x. IsLeftByWrites Stop x (after_write (Append path []) view) l.without_locks) e l.stopped);
  same = l.same;
})

-- a stop among the steps leaves what a stop among the writes leaves, except for the locks
pub left_alike : (locked : List Path) (steps : List Step) (writes : List Write) (T left : Tree) (real view : View) → Views T real → IsSameButLocks locked real view →
    CarryOut locked real steps writes → IsLeftBySteps steps T left → IsLeft locked writes view (view_of left)
left_alike locked [] writes T left real view views h carry e = stay locked writes view (view_of left) (through locked (along e views) h)
left_alike locked (Create path ∷ steps) writes T left real view views h carry (inl (inl e)) = stay locked writes view (view_of left) (through locked (along e views) h)
left_alike locked (Create path ∷ steps) writes T left real view views h (inl own) (inl (inr made')) =
    stay locked writes view (view_of left)
    (through locked (along made'.1 (put_views T real path (Some (File [])) (Some []) views refl)) (change_of_lock locked real view path (Some []) own.0 h))
left_alike locked (Create path ∷ steps) writes T left real view views h (inr w) (inl (inr made')) =
    in_writes locked view (view_of left) w.3 (record {
      without_locks = after_write (Append path []) view;
      stopped = inl (inr ([], (w.0, refl), λ q. refl));
      same = through locked (along made'.1 (put_views T real path (Some (File [])) (Some []) views refl)) (create_alike locked T real view path views made'.0.0 w.2 h);
    })
left_alike locked (Create path ∷ steps) writes T left real view views h (inl own) (inr next) =
    left_alike locked steps writes next.0 left (after_step (Create path) real) view (done_views (Create path) T next.0 real views next.1)
    (change_of_lock locked real view path (Some []) own.0 h) own.1 next.2
left_alike locked (Create path ∷ steps) writes T left real view views h (inr w) (inr next) =
    with_made locked path w.0 w.1 writes view (view_of left) w.3
    (left_alike locked steps writes next.0 left (after_step (Create path) real) (after_write (Append path []) view)
    (done_views (Create path) T next.0 real views next.1) (create_alike locked T real view path views next.1.0.0 w.2 h) w.4 next.2)
left_alike locked (AppendStep path bytes ∷ steps) writes T left real view views h (inl own) (inl begun) =
    stay locked writes view (view_of left) (begun_own_append locked path bytes T left real view views h own.0 begun)
left_alike locked (AppendStep path bytes ∷ steps) writes T left real view views h (inl own) (inr next) =
    left_alike locked steps writes next.0 left (after_step (AppendStep path bytes) real) view (done_views (AppendStep path bytes) T next.0 real views next.1)
    (change_of_lock locked real view path (Some (file_bytes (real path) ++ bytes)) own.0 h) own.1 next.2
left_alike locked (AppendStep path bytes ∷ steps) writes T left real view views h (inr w) (inl begun) =
    in_writes locked view (view_of left) w.2 (begun_append locked path bytes w.0 T left real view views h w.1 begun)
left_alike locked (AppendStep path bytes ∷ steps) writes T left real view views h (inr w) (inr next) =
    in_writes locked view (view_of left) w.2 (then_more locked (Append path bytes) w.0 view (view_of left)
    (left_alike locked steps w.0 next.0 left (after_step (AppendStep path bytes) real) (after_write (Append path bytes) view)
    (done_views (AppendStep path bytes) T next.0 real views next.1) (append_alike locked real view path bytes w.1 h) w.3 next.2))
left_alike locked (LineStep path bytes ∷ steps) writes T left real view views h w (inl (inl begun)) =
    in_writes locked view (view_of left) w.2 (begun_append locked path bytes w.0 T left real view views h w.1 begun)
left_alike locked (LineStep path bytes ∷ steps) writes T left real view views h w (inl (inr (free, inl e))) =
    in_writes locked view (view_of left) w.2 (record {
      without_locks = after_write (Append path []) view;
      stopped = inl (inr ([], (bytes, refl), λ q. refl));
      same = through locked (along e (put_views T real path (Some (File [])) (Some []) views refl)) (create_alike locked T real view path views free.0 w.1 h);
    })
left_alike locked (LineStep path bytes ∷ steps) writes T left real view views h w (inl (inr (free, inr begun))) =
    in_writes locked view (view_of left) w.2 (with_made locked path bytes w.0 (Append path bytes ∷ w.0) view (view_of left) refl
    (begun_append locked path bytes w.0 (created T path) left (changed_at path (Some []) real) (after_write (Append path []) view)
    (put_views T real path (Some (File [])) (Some []) views refl) (create_alike locked T real view path views free.0 w.1 h) w.1 begun))
left_alike locked (LineStep path bytes ∷ steps) writes T left real view views h w (inr next) =
    in_writes locked view (view_of left) w.2 (then_more locked (Append path bytes) w.0 view (view_of left)
    (left_alike locked steps w.0 next.0 left (after_step (LineStep path bytes) real) (after_write (Append path bytes) view)
    (done_views (LineStep path bytes) T next.0 real views next.1) (append_alike locked real view path bytes w.1 h) w.3 next.2))
left_alike locked (Rename from to ∷ steps) writes T left real view views h w (inl (inl e)) = stay locked writes view (view_of left) (through locked (along e views) h)
left_alike locked (Rename from to ∷ steps) writes T left real view views h w (inl (inr moves)) =
    in_writes locked view (view_of left) w.2 (then_more locked (Put to (file_bytes (real from))) w.0 view (view_of left)
    (stay locked w.0 (after_write (Put to (file_bytes (real from))) view) (view_of left)
    (through locked (along moves.1 (moved_views T real from to views))
    (rename_alike locked real view from to w.1 (holds T real from views moves.0.0) h))))
left_alike locked (Rename from to ∷ steps) writes T left real view views h w (inr next) =
    in_writes locked view (view_of left) w.2 (then_more locked (Put to (file_bytes (real from))) w.0 view (view_of left)
    (left_alike locked steps w.0 next.0 left (after_step (Rename from to) real) (after_write (Put to (file_bytes (real from))) view)
    (done_views (Rename from to) T next.0 real views next.1)
    (rename_alike locked real view from to w.1 (holds T real from views next.1.0.0) h) w.3 next.2))
left_alike locked (RemoveFile path ∷ steps) writes T left real view views h carry (inl (inl e)) = stay locked writes view (view_of left) (through locked (along e views) h)
left_alike locked (RemoveFile path ∷ steps) writes T left real view views h (inl own) (inl (inr removes)) =
    stay locked writes view (view_of left)
    (through locked (along removes.1 (put_views T real path None None views refl)) (change_of_lock locked real view path None own.0 h))
left_alike locked (RemoveFile path ∷ steps) writes T left real view views h (inr w) (inl (inr removes)) =
    in_writes locked view (view_of left) w.1 (then_more locked (Remove path) w.0 view (view_of left)
    (stay locked w.0 (after_write (Remove path) view) (view_of left)
    (through locked (along removes.1 (put_views T real path None None views refl)) (change_of_both locked real view path None h))))
left_alike locked (RemoveFile path ∷ steps) writes T left real view views h (inl own) (inr next) =
    left_alike locked steps writes next.0 left (after_step (RemoveFile path) real) view (done_views (RemoveFile path) T next.0 real views next.1)
    (change_of_lock locked real view path None own.0 h) own.1 next.2
left_alike locked (RemoveFile path ∷ steps) writes T left real view views h (inr w) (inr next) =
    in_writes locked view (view_of left) w.1 (then_more locked (Remove path) w.0 view (view_of left)
    (left_alike locked steps w.0 next.0 left (after_step (RemoveFile path) real) (after_write (Remove path) view)
    (done_views (RemoveFile path) T next.0 real views next.1) (change_of_both locked real view path None h) w.2 next.2))
left_alike locked (MakeFolders path ∷ steps) writes T left real view views h carry (inl begun) =
    stay locked writes view (view_of left) (through locked (begun_folders path T left real views begun) h)
left_alike locked (MakeFolders path ∷ steps) writes T left real view views h carry (inr next) =
    left_alike locked steps writes next.0 left real view (done_views (MakeFolders path) T next.0 real views next.1) h carry next.2
left_alike locked (RemoveFolder path ∷ steps) writes T left real view views h carry (inl begun) =
    stay locked writes view (view_of left) (through locked (begun_removal path T left real views begun) h)
left_alike locked (RemoveFolder path ∷ steps) writes T left real view views h carry (inr next) =
    left_alike locked steps writes next.0 left real view (done_views (RemoveFolder path) T next.0 real views next.1) h carry next.2
left_alike locked (End ∷ steps) writes T left real view views h carry (inl e) = stay locked writes view (view_of left) (through locked (along e views) h)
left_alike locked (End ∷ steps) writes T left real view views h carry (inr next) = absurd next.1

-- and all of the steps leave what all of the writes leave
pub after_alike : (locked : List Path) (steps : List Step) (writes : List Write) (T left : Tree) (real view : View) → Views T real → IsSameButLocks locked real view →
    CarryOut locked real steps writes → IsAfter steps T left → IsSameButLocks locked (view_of left) (after writes view)
after_alike locked [] writes T left real view views h carry e =
    subst (λ x. IsSameButLocks locked (view_of left) (after x view)) (sym carry) (through locked (along e views) h)
after_alike locked (Create path ∷ steps) writes T left real view views h (inl own) next =
    after_alike locked steps writes next.0 left (after_step (Create path) real) view (done_views (Create path) T next.0 real views next.1)
    (change_of_lock locked real view path (Some []) own.0 h) own.1 next.2
after_alike locked (Create path ∷ steps) writes T left real view views h (inr w) next =
    subst (λ v. IsSameButLocks locked (view_of left) v)
    (ap (λ x. after x (after_write (Append path []) view)) w.3 ∙ (append_after path w.0 w.1 view ∙ ap (λ x. after x view) (sym w.3)))
    (after_alike locked steps writes next.0 left (after_step (Create path) real) (after_write (Append path []) view)
    (done_views (Create path) T next.0 real views next.1) (create_alike locked T real view path views next.1.0.0 w.2 h) w.4 next.2)
after_alike locked (AppendStep path bytes ∷ steps) writes T left real view views h (inl own) next =
    after_alike locked steps writes next.0 left (after_step (AppendStep path bytes) real) view (done_views (AppendStep path bytes) T next.0 real views next.1)
    (change_of_lock locked real view path (Some (file_bytes (real path) ++ bytes)) own.0 h) own.1 next.2
after_alike locked (AppendStep path bytes ∷ steps) writes T left real view views h (inr w) next =
    subst (λ x. IsSameButLocks locked (view_of left) (after x view)) (sym w.2)
    (after_alike locked steps w.0 next.0 left (after_step (AppendStep path bytes) real) (after_write (Append path bytes) view)
    (done_views (AppendStep path bytes) T next.0 real views next.1) (append_alike locked real view path bytes w.1 h) w.3 next.2)
after_alike locked (LineStep path bytes ∷ steps) writes T left real view views h w next =
    subst (λ x. IsSameButLocks locked (view_of left) (after x view)) (sym w.2)
    (after_alike locked steps w.0 next.0 left (after_step (LineStep path bytes) real) (after_write (Append path bytes) view)
    (done_views (LineStep path bytes) T next.0 real views next.1) (append_alike locked real view path bytes w.1 h) w.3 next.2)
after_alike locked (Rename from to ∷ steps) writes T left real view views h w next =
    subst (λ x. IsSameButLocks locked (view_of left) (after x view)) (sym w.2)
    (after_alike locked steps w.0 next.0 left (after_step (Rename from to) real) (after_write (Put to (file_bytes (real from))) view)
    (done_views (Rename from to) T next.0 real views next.1)
    (rename_alike locked real view from to w.1 (holds T real from views next.1.0.0) h) w.3 next.2)
after_alike locked (RemoveFile path ∷ steps) writes T left real view views h (inl own) next =
    after_alike locked steps writes next.0 left (after_step (RemoveFile path) real) view (done_views (RemoveFile path) T next.0 real views next.1)
    (change_of_lock locked real view path None own.0 h) own.1 next.2
after_alike locked (RemoveFile path ∷ steps) writes T left real view views h (inr w) next =
    subst (λ x. IsSameButLocks locked (view_of left) (after x view)) (sym w.1)
    (after_alike locked steps w.0 next.0 left (after_step (RemoveFile path) real) (after_write (Remove path) view)
    (done_views (RemoveFile path) T next.0 real views next.1) (change_of_both locked real view path None h) w.2 next.2)
after_alike locked (MakeFolders path ∷ steps) writes T left real view views h carry next =
    after_alike locked steps writes next.0 left real view (done_views (MakeFolders path) T next.0 real views next.1) h carry next.2
after_alike locked (RemoveFolder path ∷ steps) writes T left real view views h carry next =
    after_alike locked steps writes next.0 left real view (done_views (RemoveFolder path) T next.0 real views next.1) h carry next.2
after_alike locked (End ∷ steps) writes T left real view views h carry next = absurd next.1
