-- Text that is printed item by item.
use Rattle.std.proofs.Common.{◌≡◌, ℕ, List, [], ◌∷◌, ◌++◌, Option, Some, None, Result, true, false, refl, sym, ◌∙◌, ap, subst, append-nil}
use Rattle.std.specs.Prelude.{◌||◌, Bool, if◌then◌else◌, length}
use Rattle.std.specs.Option.{option_map}
use Rattle.std.specs.Iterator.{Yields}
use Rattle.std.specs.Iterator.Runs.{Trigger, YieldsRun, WholeRun}
use Rattle.std.specs.List.{slice_get}
use Rattle.std.proofs.lemmas.Option.{slice_get-get_or}
use Rattle.std.specs.Result.{is_err}
use Rattle.std.specs.List.{list_any}
use Rattle.std.specs.Io.KnownBytes.{Appends, Keeps, append_known}
use Rattle.std.proofs.KnownBytes.{Appends-trans, Appends-kept, append_known-grown}
use Rattle.std.proofs.lemmas.List.Folds.{list_any-append}
use Rattle.std.proofs.lemmas.Grind.{flat_map-append}
use Rattle.std.specs.List.{flat_map}
use Rattle.gix_ref_program.specs.Printed.{items_status}

one_fault : {A E : Type 0} (items : List (Result A E)) (item : Result A E) → is_err item ≡ true → list_any is_err (items ++ item ∷ []) ≡ true
one_fault items item fault = list_any-append is_err items (item ∷ []) ∙ (ap (λ b. list_any is_err items || (b || false)) fault ∙ or_true (list_any is_err items))
  where
    or_true : (b : Bool) → (b || (true || false)) ≡ true
    or_true true = refl
    or_true false = refl

-- a fault gives the status 1
pub status_fault : {A E : Type 0} (items : List (Result A E)) (item : Result A E) → is_err item ≡ true → 1 ≡ items_status (items ++ item ∷ [])
status_fault items item fault = rw (one_fault items item fault) refl

-- and a line leaves it
pub status_line : {A E : Type 0} (items : List (Result A E)) (item : Result A E) (status : ℕ) → status ≡ items_status items → is_err item ≡ false → status ≡ items_status (items ++ item ∷ [])
status_line items item status is line = is ∙ ap (λ b. if b then 1 else 0) (sym (list_any-append is_err items (item ∷ []) ∙ (ap (λ b. list_any is_err items || (b || false)) line ∙ or_false (list_any is_err items))))
  where
    or_false : (b : Bool) → (b || (false || false)) ≡ b
    or_false true = refl
    or_false false = refl

-- the text of an item is added, and a block of it perhaps written
pub item_printed : {A : Type 0} (item_text : A → List ℕ) (a b c : Option (List ℕ)) (text more left : List ℕ) (items : List A) (item : A) →
    Appends a (append_known b text) (flat_map item_text items) → more ≡ text ++ item_text item → Keeps (append_known b more) (append_known c left) →
    Appends a (append_known c left) (flat_map item_text (items ++ item ∷ []))
item_printed item_text a b c text more left items item before added kept =
    let grown = append_known-grown (append_known b text) b text more (item_text item) (same (append_known b text)) added in
    let all = Appends-kept a (append_known b more) (append_known c left) (flat_map item_text items ++ item_text item) (Appends-trans a (append_known b text) (append_known b more) (flat_map item_text items) (item_text item) before grown) kept in
    subst (λ t. Appends a (append_known c left) t) (ap (λ t. flat_map item_text items ++ t) (sym (append-nil (item_text item))) ∙ sym (flat_map-append item_text items (item ∷ []))) all
  where
    same : (x : Option (List ℕ)) → Keeps x x
    same None = _
    same (Some x) = refl

-- the rest of the text is written
pub rest_printed : (a b c : Option (List ℕ)) (text all : List ℕ) → Appends a (append_known b text) all → Appends b c text → Appends a c all
rest_printed a b c text all before written = Appends-kept a (append_known b text) c all before (by b c written)
  where
    by : (b c : Option (List ℕ)) → Appends b c text → Keeps (append_known b text) c
    by None c w = _
    by (Some x) None w = absurd w
    by (Some x) (Some y) w = w

-- one item more
pub yields_more : {S A : Type 0} (steps : S → Option A → S → Type 0) (s t u : S) (items : List A) (item : A) → Yields steps s items t → steps t (Some item) u → Yields steps s (items ++ item ∷ []) u
yields_more steps s t u [] item gave next = (u, subst (λ x. steps x (Some item) u) (sym gave) next, refl)
yields_more steps s t u (first ∷ items) item (mid, one, gave) next = (mid, one, yields_more steps mid t u items item gave next)

-- nothing is printed yet
pub none_printed : (out : Option (List ℕ)) → Appends out (append_known out []) []
none_printed None = _
none_printed (Some x) = refl

-- what a loop was given is a whole run
pub whole_run : {S A : Type 0} (steps : S → Option A → S → Type 0) (s t u : S) (items : List A) → Yields steps s items t → steps t None u → WholeRun steps s (λ run. run.items ≡ items)
unfolding Trigger YieldsRun
whole_run steps s t u items gave last = (
  record {
    from = s;
    items = items;
    whole = true;
    len = length items;
    at = slice_get items;
    seen = _;
    long = refl;
    reads = λ k d below. ap (option_map (λ y. y)) (slice_get-get_or items k d below);
    gave = ((t, gave, λ _. (u, last)), λ k. refl);
  },
  refl,
  refl,
  refl,
)
