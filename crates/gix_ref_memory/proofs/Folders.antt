-- Folders that are made one after the other, and the fronts of a path.
use Rattle.std.proofs.Common.{◌≡◌, ◌⊎◌, inl, inr, ⊎_elim, ℕ, zero, suc, ◌≤◌, List, [], ◌∷◌, ◌++◌, take, Bool, true, false, refl, sym, ◌∙◌, ap, subst, arith}
use Rattle.std.specs.Prelude.{◌&&◌}
use Rattle.std.specs.List.{list_all}
use Rattle.gix_ref_files.specs.Tree.{Path}
use Rattle.gix_ref_files.specs.Disk.{Disk}
use Rattle.gix_ref_files.specs.Files.{Meaning, disk_of, Passes, AddsDisks}
use Rattle.gix_ref_files.specs.DiskCalls.{BeforeOrAfterOn}
use Rattle.gix_ref_memory.specs.Changes.{MakingFrontsOn, with_folder_as, with_folders_as}
use Rattle.gix_ref_files.proofs.Moments.{passes_starts, passes_weaken, passes_joins}

-- some of all these folders are made since old, and the rest is to be made
pub record Making (synced : Bool) (old now : Meaning) (all rest : List Path) : Type 0 where
  pub whole : with_folders_as synced (disk_of now) rest ≡ with_folders_as synced (disk_of old) all
  pub passes : Passes old now (MakingFrontsOn synced (disk_of old) all)
  -- a beginning of the rest is one of all
  pub reach : (n : ℕ) → MakingFrontsOn synced (disk_of old) all (with_folders_as synced (disk_of now) (take n rest))
  -- a beginning of all is in the sets, or one of the rest
  pub adds : (t : ℕ) (D : Disk) → t ≤ old.moment → MakingFrontsOn synced (disk_of old) all D → now.found_since t D ⊎ MakingFrontsOn synced (disk_of now) rest D

-- none is made
pub none_made : (synced : Bool) (now : Meaning) (all : List Path) → Making synced now now all all
none_made synced now all = record {
  whole = refl;
  passes = passes_starts now (MakingFrontsOn synced (disk_of now) all) (0, refl);
  reach = λ n. (n, refl);
  adds = λ t D le some. inr some;
}

-- what is found in the making of one more
abbrev pub OneMore : Bool → Meaning → Meaning → Path → Type 0
OneMore synced mid new f = Passes mid new (BeforeOrAfterOn (disk_of mid) (Unit {0}) (with_folder_as synced (disk_of mid) f))

-- one more is perhaps made
pub one_perhaps : (synced : Bool) {old mid new : Meaning} {all rest : List Path} (f : Path) → Making synced old mid all (f ∷ rest) → OneMore synced mid new f → Passes old new (MakingFrontsOn synced (disk_of old) all)
one_perhaps synced {old} {mid} {new} {all} {rest} f so_far step =
    passes_joins so_far.passes (passes_weaken step (λ D. ⊎_elim
    (λ same. subst (MakingFrontsOn synced (disk_of old) all) (sym same) (so_far.reach 0))
    (λ made. subst (MakingFrontsOn synced (disk_of old) all) (sym made.1) (so_far.reach 1))))

-- one more is made
pub one_made : (synced : Bool) {old mid new : Meaning} {all rest : List Path} (f : Path) → Making synced old mid all (f ∷ rest) → OneMore synced mid new f → disk_of new ≡ with_folder_as synced (disk_of mid) f → ((t : ℕ) → mid.found_since t (disk_of mid)) → Making synced old new all rest
one_made synced {old} {mid} {new} {all} {rest} f so_far step made mid_found = record {
  whole = ap (λ (D : Disk). with_folders_as synced D rest) made ∙ so_far.whole;
  passes = one_perhaps synced f so_far step;
  reach = λ n. subst (λ (D : Disk). MakingFrontsOn synced (disk_of old) all (with_folders_as synced D (take n rest))) (sym made) (so_far.reach (suc n));
  adds = λ t D le some. ⊎_elim
      (λ past. inl (step.keeps t D (omega (arith, le, so_far.passes.later)) past))
      (λ later. by_count t D le later.0 later.1)
      (so_far.adds t D le some);
}
  where
    by_count : (t : ℕ) (D : Disk) → t ≤ old.moment → (m : ℕ) → D ≡ with_folders_as synced (disk_of mid) (take m (f ∷ rest)) → new.found_since t D ⊎ MakingFrontsOn synced (disk_of new) rest D
    by_count t D le zero is = inl (subst (λ (E : Disk). new.found_since t E) (sym is) (step.keeps t (disk_of mid) (omega (arith, le, so_far.passes.later)) (mid_found t)))
    by_count t D le (suc m) is = inr (m, is ∙ ap (λ (E : Disk). with_folders_as synced E (take m rest)) (sym made))

-- all are made
pub all_made : (synced : Bool) {old now : Meaning} {all : List Path} → Making synced old now all [] → ((t : ℕ) → now.found_since t (disk_of now)) → AddsDisks old now (MakingFrontsOn synced (disk_of old) all)
all_made synced {old} {now} {all} so_far now_found t D le some =
    ⊎_elim (λ past. past) (λ later. subst (λ (E : Disk). now.found_since t E) (sym (later.1 ∙ none later.0)) (now_found t)) (so_far.adds t D le some)
  where
    none : (n : ℕ) → with_folders_as synced (disk_of now) (take n []) ≡ disk_of now
    none zero = refl
    none (suc n) = refl

-- what holds of each, and of one more
pub all_snoc : (P : Path → Bool) (fs : List Path) (f : Path) → list_all P fs ≡ true → P f ≡ true → list_all P (fs ++ f ∷ []) ≡ true
all_snoc P [] f all here = ap (λ b. b && true) here
all_snoc P (g ∷ fs) f all here = by_first (P g) (list_all P fs) (list_all P (fs ++ f ∷ [])) all (λ rest. all_snoc P fs f rest here)
  where
    by_first : (a b c : Bool) → (a && b) ≡ true → (b ≡ true → c ≡ true) → (a && c) ≡ true
    by_first true b c both more = more both
    by_first false b c both more = both
