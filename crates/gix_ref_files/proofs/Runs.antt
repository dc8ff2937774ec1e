-- How syncs and steps go on.
use Rattle.std.proofs.Common.{◌≡◌, ◌≢◌, inl, inr, ℕ, ◌+◌, ◌-◌, ◌<◌, ◌≤◌, suc, List, [], ◌∷◌, ◌++◌, length, take, drop, get_or, Bool, true, false, refl, sym, ◌∙◌, ap, subst, arith}
use Rattle.std.specs.Prelude.{if◌then◌else◌, ◌==◌}
use Rattle.std.proofs.lemmas.Bool.{cond-true, cond-false, eqb-true}
use Rattle.std.proofs.lemmas.List.{take_more, drop_more, get_or-map, take-append-drop as take-drop, length-map, take_all}
use Rattle.std.proofs.Math.Seq.{take-length, take-nil}
use Rattle.gix_ref_files.specs.Tree.{Path, is_file}
use Rattle.gix_ref_files.specs.Disk.{Disk}
use Rattle.gix_ref_files.specs.Files.{Meaning, disk_of, Passes}
use Rattle.gix_ref_files.specs.Settled.{Sync, synced, synced_by, folders_up}
use Rattle.gix_ref_files.specs.Settled.Sync.{OfFile, OfFolder}
use Rattle.gix_ref_files.specs.Steps.{Step}
use Rattle.gix_ref_files.specs.Steps.Step.{Create, Append, Line, Rename, RemoveFile, MakeFolders, RemoveFolder, End}
use Rattle.gix_ref_files.specs.DiskSteps.{Synced, needed, BeginsOn, IsReachedBy, IsSyncedAfter, EndsOn, IsEndedAt, IsSomeSynced, Settling, synced_step, synced_steps}
use Rattle.gix_ref_files.specs.DiskSteps.Synced.{With}
use Rattle.gix_ref_files.specs.declared.steps.Planned.{Planned}
use Rattle.gix_ref_files.specs.declared.steps.Cause.{Cause}
use Rattle.gix_ref_files.specs.declared.steps.Cause.TheVariants as causes
use Rattle.gix_ref_files.proofs.Moments.{passes_weaken, passes_joins}

-- the first sync is done, or not
pub first_synced : (s : Sync) (ss : List Sync) (D E : Disk) → Settling s D E → IsSomeSynced (s ∷ ss) D E
first_synced s ss D E (inl e) = (0, e)
first_synced s ss D E (inr e) = (1, e)

-- and then some of the others
pub then_synced : (s : Sync) (ss : List Sync) (D E : Disk) → IsSomeSynced ss (synced s D) E → IsSomeSynced (s ∷ ss) D E
then_synced s ss D E (n, e) = (suc n, e)

-- nothing is begun
pub not_begun_on : (step : Step) (D : Disk) → BeginsOn step D D
not_begun_on (Create p) D = inl refl
not_begun_on (Append p bytes) D = inl refl
not_begun_on (Line p bytes) D = inl refl
not_begun_on (Rename from to) D = inl refl
not_begun_on (RemoveFile p) D = inl refl
not_begun_on (MakeFolders p) D = inl refl
not_begun_on (RemoveFolder p) D = inl refl
not_begun_on End D = refl

pub none_reached : (plan : List Synced) (D : Disk) → IsReachedBy plan D D
none_reached [] D = refl
none_reached (With step syncs ∷ plan) D = inl (not_begun_on step D)

-- steps that are done, and then others
pub after_behind : (front rest : List Synced) (D mid E : Disk) → IsSyncedAfter front D mid → IsSyncedAfter rest mid E → IsSyncedAfter (front ++ rest) D E
after_behind [] rest D mid E e after = subst (λ (X : Disk). IsSyncedAfter rest X E) e after
after_behind (With step ss ∷ front) rest D mid E (x, does, next) after = (x, does, after_behind front rest (synced_by (needed step D ss) x) mid E next after)

pub reached_behind : (front rest : List Synced) (D mid E : Disk) → IsSyncedAfter front D mid → IsReachedBy rest mid E → IsReachedBy (front ++ rest) D E
reached_behind [] rest D mid E e reached = subst (λ (X : Disk). IsReachedBy rest X E) e reached
reached_behind (With step ss ∷ front) rest D mid E (x, does, next) reached = inr (x, does, inr (reached_behind front rest (synced_by (needed step D ss) x) mid E next reached))

-- inside one step, and so inside all from there on
pub reached_alone : (s : Synced) (rest : List Synced) (D E : Disk) → IsReachedBy (s ∷ []) D E → IsReachedBy (s ∷ rest) D E
reached_alone (With step ss) rest D E (inl begun) = inl begun
reached_alone (With step ss) rest D E (inr (x, does, inl some)) = inr (x, does, inl some)
reached_alone (With step ss) rest D E (inr (x, does, inr e)) =
    inr (x, does, inl (length (needed step D ss), e ∙ ap (λ (l : List Sync). synced_by l x) (sym (take-length (needed step D ss)))))

-- a step at its place in a plan
pub at_place : {A : Type 0} → (plan : List (Planned A)) (i : ℕ) (planned : Planned A) → i < length plan → planned ≡ get_or plan i planned → get_or (synced_steps plan) i (synced_step planned) ≡ synced_step planned
at_place plan i planned lt is = get_or-map synced_step plan i planned (synced_step planned) lt ∙ sym (ap synced_step is)

pub front_more : {A : Type 0} → (plan : List (Planned A)) (i : ℕ) (planned : Planned A) → i < length plan → planned ≡ get_or plan i planned →
    take i (synced_steps plan) ++ synced_step planned ∷ [] ≡ take (i + 1) (synced_steps plan)
front_more plan i planned lt is =
    sym (take_more (synced_steps plan) i (synced_step planned) (subst (λ (n : ℕ). i < n) (sym (length-map plan synced_step)) lt)
    ∙ ap (λ (s : Synced). take i (synced_steps plan) ++ s ∷ []) (at_place plan i planned lt is))

pub rest_of : {A : Type 0} → (plan : List (Planned A)) (i : ℕ) (planned : Planned A) → i < length plan → planned ≡ get_or plan i planned →
    drop i (synced_steps plan) ≡ synced_step planned ∷ drop (i + 1) (synced_steps plan)
rest_of plan i planned lt is =
    drop_more (synced_steps plan) i (synced_step planned) (subst (λ (n : ℕ). i < n) (sym (length-map plan synced_step)) lt)
    ∙ ap (λ (s : Synced). s ∷ drop (i + 1) (synced_steps plan)) (at_place plan i planned lt is)

-- the steps before this place are done, and this one is perhaps begun: so is the plan
pub reached_at : {A : Type 0} → (plan : List (Planned A)) (i : ℕ) (planned : Planned A) (D mid E : Disk) → i < length plan → planned ≡ get_or plan i planned →
    IsSyncedAfter (take i (synced_steps plan)) D mid → IsReachedBy (synced_step planned ∷ []) mid E → IsReachedBy (synced_steps plan) D E
reached_at plan i planned D mid E lt is after reached =
    let whole : take i (synced_steps plan) ++ (synced_step planned ∷ drop (i + 1) (synced_steps plan)) ≡ synced_steps plan =
    ap (λ (l : List Synced). take i (synced_steps plan) ++ l) (sym (rest_of plan i planned lt is)) ∙ take-drop i (synced_steps plan) in
    subst (λ (l : List Synced). IsReachedBy l D E) whole
    (reached_behind (take i (synced_steps plan)) (synced_step planned ∷ drop (i + 1) (synced_steps plan)) D mid E after
    (reached_alone (synced_step planned) (drop (i + 1) (synced_steps plan)) mid E reached))

-- and the run ended here
pub ended_at : {A : Type 0} → (plan : List (Planned A)) (i : ℕ) (planned : Planned A) (cause : Cause) (D mid E : Disk) → i < length plan → planned ≡ get_or plan i planned →
    IsSyncedAfter (take i (synced_steps plan)) D mid → EndsOn (synced_step planned) cause mid E → IsEndedAt (synced_steps plan) i cause D E
ended_at plan i planned cause D mid E lt is after ends = (mid, after, synced_step planned, drop (i + 1) (synced_steps plan), rest_of plan i planned lt is, ends)

-- a step without syncs that ends a run does so with its syncs
pub ends_with : (step : Step) (ss : List Sync) (cause : Cause) (D E : Disk) → EndsOn (With step []) cause D E → EndsOn (With step ss) cause D E
ends_with step ss (causes.File error) D E ends = ends
ends_with step ss (causes.Sync error) D E (mid, does, (n, e)) = (mid, does, (0, e ∙ ap (λ (l : List Sync). synced_by l mid) (ap (λ (l : List Sync). take n l) (none step) ∙ take-nil n)))
  where
    either : (b : Bool) (l : List Sync) → (if b then l else l) ≡ l
    either true l = refl
    either false l = refl

    none : (step : Step) → needed step D [] ≡ []
    none (Create p) = refl
    none (Append p bytes) = refl
    none (Line p bytes) = refl
    none (Rename from to) = refl
    none (RemoveFile p) = either (is_file (D.tree p)) []
    none (MakeFolders p) = refl
    none (RemoveFolder p) = refl
    none End = refl
ends_with step ss causes.Unexpected D E ends = ends
ends_with step ss causes.Asked D E ends = ends

-- the whole plan is its front up to its end
pub whole_front : {A : Type 0} → (plan : List (Planned A)) (n : ℕ) → length plan ≤ n → take n (synced_steps plan) ≡ synced_steps plan
whole_front plan n le = take_all n (synced_steps plan) (subst (λ (k : ℕ). k ≤ n) (sym (length-map plan synced_step)) le)

-- the syncs of folders, one place further up
folders_next : (p : Path) (root n end : ℕ) → end ≡ suc (root + n) →
    folders_up p root (end - root) ≡ (if get_or p (end - 1) 0 == 47 then OfFolder (take (end - 1) p) ∷ folders_up p root (end - 1 - root) else folders_up p root (end - 1 - root))
folders_next p root n end is =
    let all : end - root ≡ suc n = omega (arith, is) in
    let rest : n ≡ end - 1 - root = omega (arith, is) in
    let place : root + n ≡ end - 1 = omega (arith, is) in
    ap (folders_up p root) all
    ∙ (ap (λ (m : ℕ). if get_or p m 0 == 47 then OfFolder (take m p) ∷ folders_up p root n else folders_up p root n) place
    ∙ ap (λ (m : ℕ). if get_or p (end - 1) 0 == 47 then OfFolder (take (end - 1) p) ∷ folders_up p root m else folders_up p root m) rest)

pub slash_next : (p : Path) (root end : ℕ) → root < end → get_or p (end - 1) 0 ≡ 47 → folders_up p root (end - root) ≡ OfFolder (take (end - 1) p) ∷ folders_up p root (end - 1 - root)
slash_next p root end lt slash =
    folders_next p root (end - 1 - root) end (omega arith) ∙ cond-true (get_or p (end - 1) 0 == 47) _ _ (ap (λ (b : ℕ). b == 47) slash)

pub no_slash_next : (p : Path) (root end : ℕ) → root < end → get_or p (end - 1) 0 ≢ 47 → folders_up p root (end - root) ≡ folders_up p root (end - 1 - root)
no_slash_next p root end lt none =
    folders_next p root (end - 1 - root) end (omega arith) ∙ cond-false (get_or p (end - 1) 0 == 47) _ _ (unequal (get_or p (end - 1) 0) none)
  where
    unequal : (b : ℕ) → b ≢ 47 → (b == 47) ≡ false
    unequal b none = by (b == 47) refl
      where
        by : (t : Bool) → (b == 47) ≡ t → t ≡ false
        by true e = absurd (none (eqb-true b 47 e))
        by false e = refl

-- the bytes of a file are synced, or also some of its folders
pub line_synced : (p : Path) (ss : List Sync) (old mid new : Meaning) → Passes old mid (Settling (OfFile p) (disk_of old)) → disk_of mid ≡ synced (OfFile p) (disk_of old) → Passes mid new (IsSomeSynced ss (disk_of mid)) →
    Passes old new (IsSomeSynced (OfFile p ∷ ss) (disk_of old))
line_synced p ss old mid new first done rest =
    passes_joins (passes_weaken first (λ E settling. first_synced (OfFile p) ss (disk_of old) E settling))
    (passes_weaken rest (λ E some. then_synced (OfFile p) ss (disk_of old) E (subst (λ (X : Disk). IsSomeSynced ss X E) done some)))
