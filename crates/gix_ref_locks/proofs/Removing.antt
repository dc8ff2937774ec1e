-- Files that are removed one after another.
use Rattle.std.proofs.Common.{◌≡◌, ◌⊎◌, inl, inr, ⊎_elim, ℕ, ◌+◌, ◌<◌, Bool, true, false, List, [], ◌∷◌, ◌++◌, length, take, refl, sym, ◌∙◌, ap, if◌then◌else◌, ◌≤◌, drop, suc, arith, get_or}
use Rattle.std.specs.Prelude.{Vec, slice_index_or}
use Rattle.std.specs.declared.alloc.Global.{Global}
use Rattle.std.proofs.lemmas.List.{take_more, take_all, length-take-le, take-append-le}
use Rattle.std.specs.List.{remove}
use Rattle.gix_ref_files.specs.Tree.{Tree, Path, removed}
use Rattle.gix_ref_files.specs.Calls.{RemovesFile, RemovingFile}
use Rattle.gix_ref_files.specs.Files.{Meaning, Leaves}
use Rattle.gix_ref_files.proofs.Moments.{joins, weaken}
use Rattle.gix_ref_locks.specs.Removals.{without_file, without, IsPartlyWithout}

-- one removal
pub removes : (before T : Tree) (p : Path) (done : Bool) → RemovesFile before p T done → T ≡ without_file before p
removes before T p true (is, made) = made ∙ sym (ap (λ (b : Bool). if b then removed before p else before) is)
removes before T p false (is, same) = same ∙ sym (ap (λ (b : Bool). if b then removed before p else before) is)

pub removing : (before T : Tree) (p : Path) → RemovingFile before p T → (T ≡ before) ⊎ (T ≡ without_file before p)
removing before T p (inl same) = inl same
removing before T p (inr (is, made)) = inr (made ∙ sym (ap (λ (b : Bool). if b then removed before p else before) is))

without-append : (T : Tree) (ps qs : List (Vec ℕ Global)) → without T (ps ++ qs) ≡ without (without T ps) qs
without-append T [] qs = refl
without-append T (p ∷ ps) qs = without-append (without_file T p.items) ps qs

-- and the next one
pub without_next : (T : Tree) (ps : List (Vec ℕ Global)) (i : ℕ) (p : Vec ℕ Global) → i < length ps → p ≡ slice_index_or ps i p → without_file (without T (take i ps)) p.items ≡ without T (take (i + 1) ps)
without_next T ps i p below is =
    ap (λ (q : Vec ℕ Global). without_file (without T (take i ps)) q.items) is
    ∙ sym (ap (without T) (take_more ps i p below) ∙ without-append T (take i ps) (get_or ps i p ∷ []))

module _ (before : Tree) (paths : List (Vec ℕ Global)) (i : ℕ) (p : Vec ℕ Global) (below : i < length paths) (is : p ≡ slice_index_or paths i p) (mid : Tree) (so_far : mid ≡ without before (take i paths)) where
  next_is : without_file mid p.items ≡ without before (take (i + 1) paths)
  next_is = ap (λ (T : Tree). without_file T p.items) so_far ∙ without_next before paths i p below is

  -- one more is removed
  pub one_more_gone : (T : Tree) (done : Bool) → RemovesFile mid p.items T done → T ≡ without before (take (i + 1) paths)
  one_more_gone T done made = removes mid T p.items done made ∙ next_is

  -- or is being removed
  pub one_more_going : (T : Tree) → RemovingFile mid p.items T → (T ≡ without before (take i paths)) ⊎ (T ≡ without before (take (i + 1) paths))
  one_more_going T made = ⊎_elim (λ same. inl (same ∙ so_far)) (λ gone. inr (gone ∙ next_is)) (removing mid T p.items made)

  pub partly_gone : (T : Tree) → RemovingFile mid p.items T → IsPartlyWithout paths before T
  partly_gone T made = ⊎_elim (λ same. (i, same)) (λ gone. (i + 1, gone)) (one_more_going T made)

-- the run goes on
pub run_on : (first mid now : Meaning) (paths : List (Vec ℕ Global)) (i : ℕ) (p : Vec ℕ Global) → i < length paths → p ≡ slice_index_or paths i p → mid.tree ≡ without first.tree (take i paths) →
    Leaves first mid (IsPartlyWithout paths first.tree) → Leaves mid now (RemovingFile mid.tree p.items) → Leaves first now (IsPartlyWithout paths first.tree)
run_on first mid now paths i p below is so_far run step = joins run (weaken step (partly_gone first.tree paths i p below is mid.tree so_far))

-- those before a place are as they were once the one there is taken out
pub kept_front : {A : Type 0} (xs : List A) (i : ℕ) → i < length xs → take i (remove xs i) ≡ take i xs
kept_front xs i below =
    let within : i ≤ length xs = omega arith in
    let len = length-take-le i xs within in
    take-append-le i (take i xs) (drop (suc i) xs) (omega (arith, len)) ∙ take_all i (take i xs) (omega (arith, len))
