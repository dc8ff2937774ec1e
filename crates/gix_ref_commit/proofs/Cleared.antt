-- A plan whose steps are each after the removals of the folders in their way.
use Rattle.std.proofs.Common.{◌≡◌, ◌⊎◌, inl, inr, ⊎_elim, suc, List, [], ◌∷◌, ◌++◌, Bool, refl, sym, ◌∙◌, ap, subst, arith, Some, None, append_assoc}
use Rattle.std.specs.List.{All}
use Rattle.std.proofs.lemmas.List.{map-append, append-nil}
use Rattle.gix_ref_files.specs.Settled.{IsIn}
use Rattle.gix_ref_files.specs.Steps.Step.{Create, Append as AppendStep, Line, Rename, RemoveFile, MakeFolders, RemoveFolder, End}
use Rattle.gix_ref_files.specs.DiskSteps.{Synced}
use Rattle.gix_ref_files.specs.DiskSteps.Synced.{With}
use Rattle.gix_ref_files.specs.Tree.{Tree, Path}
use Rattle.gix_ref_lookup.specs.declared.folders.Dirs.{Dirs}
use Rattle.gix_ref_theory.specs.Views.{View, Write, changed_at}
use Rattle.gix_ref_transaction.specs.declared.edit.Edit.{Edit}
use Rattle.gix_ref_commit.specs.Cleared.{AllInWay, AreInWayOf, cleared, is_seen, removals, roots_of, written_at}
use Rattle.gix_ref_commit.specs.Entries.{Entry, bare, steps_in}
use Rattle.gix_ref_commit.specs.declared.plan.About.{About}
use Rattle.gix_ref_commit.proofs.Carries.{Carries}
use Rattle.gix_ref_commit.proofs.Gone.{AllMiss}
use Rattle.gix_ref_commit.proofs.Renamed.{HasRename, IsRenameOf, IsInFirst, IsInSecond, either_list, has_right}

-- none of these folders stays
abbrev pub AllOutside : (staying : List Path) → List Path → Type 0
AllOutside staying folders = All (λ f. IsIn f staying → ⊥) folders

abbrev pub EachOutside : (staying : List Path) → List (List Path) → Type 0
EachOutside staying [] = Unit {0}
EachOutside staying (fs ∷ folders) = AllOutside staying fs × EachOutside staying folders

outside_of : (dirs : Dirs) (T : Tree) (seen : Bool) (e : Entry) (fs : List Path) → AreInWayOf dirs T seen (written_at (bare e.0)) fs → AllOutside (roots_of dirs) fs
outside_of dirs T seen e fs way = by (written_at (bare e.0)) way
  where
    by : (at : _) → AreInWayOf dirs T seen at fs → AllOutside (roots_of dirs) fs
    by None none = subst (AllOutside (roots_of dirs)) (sym none) (λ k d lt. absurd (omega (arith, lt)))
    by (Some path) are = are.outside

pub all_outside : (edits : List Edit) (dirs : Dirs) (T : Tree) (folders : List (List Path)) (plan : List Entry) → AllInWay edits dirs T folders plan → EachOutside (roots_of dirs) folders
all_outside edits dirs T [] plan are = tt
all_outside edits dirs T (fs ∷ folders) [] are = absurd are
all_outside edits dirs T (fs ∷ folders) (e ∷ plan) are = (outside_of dirs T (is_seen edits e.1) e fs are.0, all_outside edits dirs T folders plan are.1)

module _ (locked staying : List Path) where
  abbrev Carried : View → List Synced → List Write → Type 0
  Carried texts steps writes = Carries locked staying texts steps writes

  -- removals of folders write nothing
  removals_carried : (texts : View) (about : About) (fs : List Path) (steps : List Synced) (writes : List Write) → AllOutside staying fs → Carried texts steps writes → Carried texts (steps_in (removals about fs) ++ steps) writes
  removals_carried texts about [] steps writes out h = h
  removals_carried texts about (f ∷ fs) steps writes out h =
      (out 0 f (omega arith), removals_carried texts about fs steps writes (λ k d lt. out (suc k) d (omega (arith, lt))) h)

  -- the same step, and then others
  step_then : (step : Synced) (a b : List Synced) → ((texts : View) (writes : List Write) → Carried texts a writes → Carried texts b writes) →
      (texts : View) (writes : List Write) → Carried texts (step ∷ a) writes → Carried texts (step ∷ b) writes
  step_then (With (Line p bytes) syncs) a b later texts writes (rest, alien, is, settles, h) = (rest, alien, is, settles, later (changed_at p None texts) rest h)
  step_then (With (Rename from to) syncs) a b later texts writes (bytes, rest, lock, apart, text, is, settles, h) =
      (bytes, rest, lock, apart, text, is, settles, later (changed_at to None (changed_at from None texts)) rest h)
  step_then (With (RemoveFile p) syncs) a b later texts writes (rest, is, settles, h) = (rest, is, settles, later (changed_at p None texts) rest h)
  step_then (With (MakeFolders p) syncs) a b later texts writes h = later texts writes h
  step_then (With (RemoveFolder p) syncs) a b later texts writes (out, h) = (out, later texts writes h)
  step_then (With (Create p) syncs) a b later texts writes h = absurd h
  step_then (With (AppendStep p bytes) syncs) a b later texts writes h = absurd h
  step_then (With End syncs) a b later texts writes h = absurd h

  pub carries : (folders : List (List Path)) (plan : List Entry) → EachOutside staying folders → (texts : View) (writes : List Write) →
      Carried texts (steps_in plan) writes → Carried texts (steps_in (cleared folders plan)) writes
  carries [] plan out texts writes h = h
  carries (fs ∷ folders) [] out texts writes h = h
  carries (fs ∷ folders) (e ∷ plan) out texts writes h =
      subst (λ (l : List Synced). Carried texts l writes) (sym (map-append (λ (x : Entry). x.0) (removals e.1 fs) (e ∷ cleared folders plan)))
      (removals_carried texts e.1 fs (e.0 ∷ steps_in (cleared folders plan)) writes out.0
      (step_then e.0 (steps_in plan) (steps_in (cleared folders plan)) (λ t ws one. carries folders plan out.1 t ws one) texts writes h))

-- Removals of folders make no lock, and rename none.
removals_miss : (lock : Path) (about : About) (fs : List Path) (plan : List Entry) → AllMiss lock plan → AllMiss lock (removals about fs ++ plan)
removals_miss lock about [] plan miss = miss
removals_miss lock about (f ∷ fs) plan miss = (tt, removals_miss lock about fs plan miss)

pub cleared_miss : (lock : Path) (folders : List (List Path)) (plan : List Entry) → AllMiss lock plan → AllMiss lock (cleared folders plan)
cleared_miss lock [] plan miss = miss
cleared_miss lock (fs ∷ folders) [] miss = miss
cleared_miss lock (fs ∷ folders) (e ∷ plan) miss = removals_miss lock e.1 fs (e ∷ cleared folders plan) (miss.0, cleared_miss lock folders plan miss.1)

pub cleared_rename : (lock : Path) (folders : List (List Path)) (plan : List Entry) → HasRename lock plan → HasRename lock (cleared folders plan)
cleared_rename lock [] plan h = h
cleared_rename lock (fs ∷ folders) [] h = h
cleared_rename lock (fs ∷ folders) (e ∷ plan) (inl here) = has_right lock (removals e.1 fs) (e ∷ cleared folders plan) (inl here)
cleared_rename lock (fs ∷ folders) (e ∷ plan) (inr later) = has_right lock (removals e.1 fs) (e ∷ cleared folders plan) (inr (cleared_rename lock folders plan later))

-- It is the removal of a folder.
abbrev pub IsRemoval : Entry → Type 0
IsRemoval x = (f : Path) × (x.0 ≡ With (RemoveFolder f) [])

of_removals : (about : About) (fs : List Path) (before : List Entry) (x : Entry) (rest : List Entry) → removals about fs ≡ before ++ x ∷ rest → (about ≡ x.1) × IsRemoval x
of_removals about [] [] x rest is = absurd (none is)
  where
    none : [] ≡ x ∷ rest → ⊥
    none e = cc
of_removals about [] (b ∷ before) x rest is = absurd (none is)
  where
    none : [] ≡ b ∷ (before ++ x ∷ rest) → ⊥
    none e = cc
of_removals about (f ∷ fs) [] x rest is = (ap (λ (y : Entry). y.1) (head is), (f, sym (ap (λ (y : Entry). y.0) (head is))))
  where
    head : {a b : Entry} {more others : List Entry} → a ∷ more ≡ b ∷ others → a ≡ b
    head e = cc
of_removals about (f ∷ fs) (b ∷ before) x rest is = of_removals about fs before x rest (tail is)
  where
    tail : {a b : Entry} {more others : List Entry} → a ∷ more ≡ b ∷ others → more ≡ others
    tail e = cc

-- Of each step of a plan, and the folders in its way, W holds.
module _ (W : Entry → List Path → Type 0) where
  abbrev pub Ways : List (List Path) → List Entry → Type 0
  Ways [] [] = Unit {0}
  Ways [] (e ∷ plan) = W e [] × Ways [] plan
  Ways (fs ∷ folders) [] = Unit {0}
  Ways (fs ∷ folders) (e ∷ plan) = W e fs × Ways folders plan

  -- A step of the steps of a commit: that of the plan, right after the removals of what is in its way, or one of these removals.
  pub record IsCutOf (plan before : List Entry) (x : Entry) : Type 0 where
    pub seen : List Entry
    pub step : Entry
    pub later : List Entry
    pub cut : plan ≡ seen ++ step ∷ later
    pub about : step.1 ≡ x.1
    pub renames : (lock : Path) → HasRename lock seen → HasRename lock before
    pub what : ((x ≡ step) × ((front : List Entry) × (fs : List Path) × (before ≡ front ++ removals step.1 fs) × W step fs × ((ways : List (List Path)) × (front ≡ cleared ways seen)))) ⊎ IsRemoval x

  -- after a step and its removals
  module _ (fs : List Path) (e : Entry) (plan before : List Entry) (x : Entry) where
    at_step : before ≡ removals e.1 fs → e ≡ x → W e fs → IsCutOf (e ∷ plan) before x
    at_step front same way = record {
      seen = [];
      step = e;
      later = plan;
      cut = refl;
      about = ap (λ (y : Entry). y.1) same;
      renames = λ lock h. absurd h;
      what = inl (sym same, ([], fs, front, way, ([], refl)));
    }

    at_removal : (about : e.1 ≡ x.1) → IsRemoval x → IsCutOf (e ∷ plan) before x
    at_removal about gone = record { seen = []; step = e; later = plan; cut = refl; about = about; renames = λ lock h. absurd h; what = inr gone }

    at_later : (m : Entry) (mid : List Entry) → before ≡ removals e.1 fs ++ m ∷ mid → e ≡ m → IsCutOf plan mid x → IsCutOf (e ∷ plan) before x
    at_later m mid front same c = record {
      seen = e ∷ c.seen;
      step = c.step;
      later = c.later;
      cut = ap (λ (l : List Entry). e ∷ l) c.cut;
      about = c.about;
      renames = λ lock h. subst (HasRename lock) (sym front) (has_right lock (removals e.1 fs) (m ∷ mid)
          (⊎_elim (λ here. inl (subst (λ (y : Entry). IsRenameOf lock (bare y.0)) same here)) (λ later. inr (c.renames lock later)) h));
      what = ⊎_elim
          (λ it. inl (
            it.0,
            (
              removals e.1 fs ++ m ∷ it.1.0,
              it.1.1,
              front ∙ (ap (λ (l : List Entry). removals e.1 fs ++ m ∷ l) it.1.2 ∙ sym (append_assoc (removals e.1 fs) (m ∷ it.1.0) (removals c.step.1 it.1.1))),
              it.1.3,
              (
                fs ∷ it.1.4.0,
                ap (λ (l : List Entry). removals e.1 fs ++ m ∷ l) it.1.4.1 ∙ ap (λ (y : Entry). removals e.1 fs ++ y ∷ cleared it.1.4.0 c.seen) (sym same),
              ),
            ),
          ))
          (λ gone. inr gone) c.what;
    }

  head : {a b : Entry} {more others : List Entry} → a ∷ more ≡ b ∷ others → a ≡ b
  head h = cc

  tail : {a b : Entry} {more others : List Entry} → a ∷ more ≡ b ∷ others → more ≡ others
  tail h = cc

  empty : (before : List Entry) (x : Entry) (rest : List Entry) → [] ≡ before ++ x ∷ rest → ⊥
  empty [] x rest e = cc
  empty (b ∷ before) x rest e = cc

  pub cut_of : (folders : List (List Path)) (plan : List Entry) → Ways folders plan → (before : List Entry) (x : Entry) (rest : List Entry) → cleared folders plan ≡ before ++ x ∷ rest → IsCutOf plan before x
  cut_of [] [] ways before x rest is = absurd (empty before x rest is)
  cut_of [] (e ∷ plan) ways [] x rest is = at_step [] e plan [] x refl (head is) ways.0
  cut_of [] (e ∷ plan) ways (m ∷ mid) x rest is = at_later [] e plan (m ∷ mid) x m mid refl (head is) (cut_of [] plan ways.1 mid x rest (tail is))
  cut_of (fs ∷ folders) [] ways before x rest is = absurd (empty before x rest is)
  cut_of (fs ∷ folders) (e ∷ plan) ways before x rest is =
      by (cut_of folders plan ways.1) (either_list (removals e.1 fs) (e ∷ cleared folders plan) before x rest is)
    where
      behind : ((mid : List Entry) (y : Entry) (end : List Entry) → cleared folders plan ≡ mid ++ y ∷ end → IsCutOf plan mid y) →
          (mid : List Entry) → before ≡ removals e.1 fs ++ mid → e ∷ cleared folders plan ≡ mid ++ x ∷ rest → IsCutOf (e ∷ plan) before x
      behind next [] front same = at_step fs e plan before x (front ∙ append-nil (removals e.1 fs)) (head same) ways.0
      behind next (m ∷ mid) front same = at_later fs e plan before x m mid front (head same) (next mid x rest (tail same))

      by : ((mid : List Entry) (y : Entry) (end : List Entry) → cleared folders plan ≡ mid ++ y ∷ end → IsCutOf plan mid y) →
          IsInFirst (removals e.1 fs) (e ∷ cleared folders plan) before x rest ⊎ IsInSecond (removals e.1 fs) (e ∷ cleared folders plan) before x rest → IsCutOf (e ∷ plan) before x
      by next (inl first) = let it = of_removals e.1 fs before x first.0 first.1 in at_removal fs e plan before x it.0 it.1
      by next (inr second) = behind next second.0 second.1 second.2

-- nothing is said of them
abbrev pub Any : Entry → List Path → Type 0
Any e fs = Unit {0}

pub any_ways : (folders : List (List Path)) (plan : List Entry) → Ways Any folders plan
any_ways [] [] = tt
any_ways [] (e ∷ plan) = (tt, any_ways [] plan)
any_ways (fs ∷ folders) [] = tt
any_ways (fs ∷ folders) (e ∷ plan) = (tt, any_ways folders plan)

-- or that they are what is in the way
abbrev pub Way : List Edit → Dirs → Tree → Entry → List Path → Type 0
Way edits dirs T e fs = AreInWayOf dirs T (is_seen edits e.1) (written_at (bare e.0)) fs

pub all_ways : (edits : List Edit) (dirs : Dirs) (T : Tree) (folders : List (List Path)) (plan : List Entry) → AllInWay edits dirs T folders plan → Ways (Way edits dirs T) folders plan
all_ways edits dirs T [] [] are = tt
all_ways edits dirs T [] (e ∷ plan) are = absurd are
all_ways edits dirs T (fs ∷ folders) [] are = tt
all_ways edits dirs T (fs ∷ folders) (e ∷ plan) are = (are.0, all_ways edits dirs T folders plan are.1)
