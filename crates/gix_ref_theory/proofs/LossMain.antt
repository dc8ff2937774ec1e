-- Every loss of power inside a commit: what the steps leave, brought to the readings.
use Rattle.std.proofs.Common.{◌≡◌, ◌≢◌, ◌⊎◌, ℕ, List, [], ◌∷◌, ◌++◌, Option, Some, None, Bool, true, false, refl, sym, ◌∙◌, ap, subst, inl, inr, if◌then◌else◌}
use Rattle.gix_ref_files.specs.Tree.{Tree, Path}
use Rattle.gix_ref_files.specs.Disk.{Disk}
use Rattle.gix_ref_files.specs.Lock.{lock_of}
use Rattle.gix_ref_files.specs.Settled.{IsAllSettled}
use Rattle.gix_ref_target.specs.PackedRecords.{Record}
use Rattle.gix_ref_theory.specs.OnDisks.{IsSpokenOf}
use Rattle.gix_ref_theory.specs.OnRealTrees.{view_of}
use Rattle.gix_ref_theory.specs.Views.{View, Write, after, IsSameButLocks}
use Rattle.gix_ref_theory.specs.Views.Ending.{Loss}
use Rattle.gix_ref_theory.specs.Readings.{Store, HasLaws, reading, records_of_file}
use Rattle.gix_ref_theory.specs.Edits.{Edit, Change, Effect, Mode, removes_packed, alters_packed, effect, file_of_records, edited_reading}
use Rattle.gix_ref_theory.specs.Edits.Change.{Update, Delete}
use Rattle.gix_ref_theory.specs.Edits.Effect.{Writes, Removes, Keeps}
use Rattle.gix_ref_theory.specs.Plan.{plan, writes_of_updates, line_writes, place_writes, log_removal, log_removals, file_writes, packed_writes, place_removal, loose_removals}
use Rattle.gix_ref_theory.specs.Between.{IsEdit, IsNewFile, IsPackedFile, IsPrepared, IsLogLeft, NoDeletionFirst, InOrder, ReadsAsBefore, ReadsAsEdited}
use Rattle.gix_ref_theory.specs.Losses.{IsLostBetween, EveryLossAmongIsBetween, EveryLossIsBetween, EveryWholeRunIsKept}
use Rattle.gix_ref_theory.proofs.Bare.{AllCount, Bare, bare_of}
use Rattle.gix_ref_theory.proofs.Headline as headline
use Rattle.gix_ref_theory.proofs.OnDisks.{within, losses, settles, done_kept, own_is_lock}
use Rattle.gix_ref_theory.proofs.Writes.{IsCut, cut_at}
use Rattle.gix_ref_theory.proofs.ReadingLemmas.{reading-same}
use Rattle.gix_ref_theory.proofs.Plans.{is_reference_at, edit_behind, edit_in_front}
use Rattle.gix_ref_theory.proofs.Stops as stop
use Rattle.gix_ref_theory.proofs.Logs as log

-- Every write of a plan is at a place, at a log or at `packed-refs`.
module _ (Counts : Path → Type 0) (s : Store) (mode : Mode) (view : View) (packed : Counts s.packed_path) where
  count_append : (a b : List Write) → AllCount Counts a → AllCount Counts b → AllCount Counts (a ++ b)
  count_append [] b h k = k
  count_append (w ∷ a) b h k = (h.0, count_append a b h.1 k)

  line_counts : (path : Path) (c : Change) (line : Option (List ℕ)) → Counts path → AllCount Counts (line_writes path c line)
  line_counts path Delete line h = tt
  line_counts path (Update t) None h = tt
  line_counts path (Update t) (Some line) h = (h, tt)

  place_counts : (path : Path) (f : Effect) → Counts path → AllCount Counts (place_writes path f)
  place_counts path (Writes bytes) h = (h, tt)
  place_counts path Removes h = tt
  place_counts path Keeps h = tt

  removal_counts : (path : Path) (f : Effect) → Counts path → AllCount Counts (place_removal path f)
  removal_counts path (Writes bytes) h = tt
  removal_counts path Removes h = (h, tt)
  removal_counts path Keeps h = tt

  log_counts : (path : Path) (c : Change) → Counts path → AllCount Counts (log_removal path c)
  log_counts path Delete h = (h, tt)
  log_counts path (Update t) h = tt

  updates_count : (edits : List Edit) → ((e : Edit) → IsEdit e edits → Counts (s.place e.name) × Counts (s.log e.name)) → AllCount Counts (writes_of_updates s mode view edits)
  updates_count [] h = tt
  updates_count (e ∷ edits) h =
      count_append (line_writes (s.log e.name) e.change e.line) (place_writes (s.place e.name) (effect s mode view e) ++ writes_of_updates s mode view edits)
      (line_counts (s.log e.name) e.change e.line (h e (inl refl)).1)
      (count_append (place_writes (s.place e.name) (effect s mode view e)) (writes_of_updates s mode view edits)
      (place_counts (s.place e.name) (effect s mode view e) (h e (inl refl)).0)
      (updates_count edits (λ f k. h f (inr k))))

  logs_count : (edits : List Edit) → ((e : Edit) → IsEdit e edits → Counts (s.place e.name) × Counts (s.log e.name)) → AllCount Counts (log_removals s edits)
  logs_count [] h = tt
  logs_count (e ∷ edits) h =
      count_append (log_removal (s.log e.name) e.change) (log_removals s edits) (log_counts (s.log e.name) e.change (h e (inl refl)).1) (logs_count edits (λ f k. h f (inr k)))

  removals_count : (edits : List Edit) → ((e : Edit) → IsEdit e edits → Counts (s.place e.name) × Counts (s.log e.name)) → AllCount Counts (loose_removals s mode view edits)
  removals_count [] h = tt
  removals_count (e ∷ edits) h =
      count_append (place_removal (s.place e.name) (effect s mode view e)) (loose_removals s mode view edits)
      (removal_counts (s.place e.name) (effect s mode view e) (h e (inl refl)).0) (removals_count edits (λ f k. h f (inr k)))

  file_counts : (file : Option (List ℕ)) → AllCount Counts (file_writes s.packed_path file)
  file_counts None = (packed, tt)
  file_counts (Some bytes) = (packed, tt)

  packed_count : (edits : List Edit) (merged : List Record) → AllCount Counts (packed_writes s mode view edits merged)
  packed_count edits merged = by (alters_packed s mode (records_of_file s (view s.packed_path)) edits)
    where
      by : (b : Bool) → AllCount Counts (if b then file_writes s.packed_path (file_of_records s merged) else [])
      by true = file_counts (file_of_records s merged)
      by false = tt

  plan_counts : (edits : List Edit) (merged : List Record) → ((e : Edit) → IsEdit e edits → Counts (s.place e.name) × Counts (s.log e.name)) → AllCount Counts (plan s mode view edits merged)
  plan_counts edits merged h =
      count_append (writes_of_updates s mode view edits) (log_removals s edits ++ (packed_writes s mode view edits merged ++ loose_removals s mode view edits)) (updates_count edits h)
      (count_append (log_removals s edits) (packed_writes s mode view edits merged ++ loose_removals s mode view edits) (logs_count edits h)
      (count_append (packed_writes s mode view edits merged) (loose_removals s mode view edits) (packed_count edits merged) (removals_count edits h)))

module _ (s : Store) (laws : HasLaws s) (mode : Mode) (locked : List Path) (edits : List Edit) (merged : List Record) (before : View) (D : Disk) (T : Tree)
    (settled : IsAllSettled D) (p : IsPrepared s mode (view_of D.tree) edits merged) (locks : IsSameButLocks locked before (view_of D.tree)) where
  spoken : (q : Path) → ((r : Path) → q ≢ lock_of r) → IsSpokenOf locked D q
  spoken q no_lock = (λ own. let l = own_is_lock locked q own in no_lock l.0 l.1, settled q no_lock)

  is_ref : (e : Edit) → IsEdit e edits → s.is_reference e.name ≡ true
  is_ref e he = is_reference_at s edits p.apart e he

  at_place : (name : List ℕ) → s.is_reference name ≡ true → IsSpokenOf locked D (s.place name)
  at_place name is = spoken (s.place name) (λ r. laws.place_is_no_lock name r is)

  at_log : (name : List ℕ) → s.is_reference name ≡ true → IsSpokenOf locked D (s.log name)
  at_log name is = spoken (s.log name) (λ r. laws.log_is_no_lock name r is)

  at_packed : IsSpokenOf locked D s.packed_path
  at_packed = spoken s.packed_path (λ r. laws.packed_is_no_lock r)

  counts : AllCount (IsSpokenOf locked D) (plan s mode (view_of D.tree) edits merged)
  counts = plan_counts (IsSpokenOf locked D) s mode (view_of D.tree) at_packed edits merged (λ e he. (at_place e.name (is_ref e he), at_log e.name (is_ref e he)))

  -- the locks that were taken change no reading
  same_file : (q : Path) → IsSpokenOf locked D q → view_of D.tree q ≡ before q
  same_file q sp = sym (locks q sp.0)

  same_reading : (name : List ℕ) → s.is_reference name ≡ true → reading s (view_of D.tree) name ≡ reading s before name
  same_reading name is = reading-same s before (view_of D.tree) name (same_file (s.place name) (at_place name is)) (same_file s.packed_path at_packed)

  module _ (b : Bare (IsSpokenOf locked D) (plan s mode (view_of D.tree) edits merged) (view_of D.tree) (view_of T)) where
    cut : IsCut Loss (plan s mode (view_of D.tree) edits merged) (view_of D.tree) b.bare
    cut = cut_at Loss (plan s mode (view_of D.tree) edits merged) (view_of D.tree) b.bare b.ended

    alike : (name : List ℕ) → s.is_reference name ≡ true → reading s (view_of T) name ≡ reading s b.bare name
    alike name is = reading-same s b.bare (view_of T) name (b.alike (s.place name) (at_place name is)) (b.alike s.packed_path at_packed)

    as_before : (name : List ℕ) → s.is_reference name ≡ true → ReadsAsBefore s (view_of D.tree) b.bare name → ReadsAsBefore s before (view_of T) name
    as_before name is h = alike name is ∙ (h ∙ same_reading name is)

    as_edited : (name : List ℕ) → s.is_reference name ≡ true → ReadsAsEdited s edits (view_of D.tree) b.bare name → ReadsAsEdited s edits before (view_of T) name
    as_edited name is h = alike name is ∙ (h ∙ ap (edited_reading s edits name) (same_reading name is))

    -- what reads otherwise than before the locks reads otherwise than at the beginning
    differs_from : (name : List ℕ) → s.is_reference name ≡ true → (ReadsAsBefore s before (view_of T) name → ⊥) → ReadsAsBefore s (view_of D.tree) b.bare name → ⊥
    differs_from name is differs h = differs (as_before name is h)

    between : IsLostBetween s mode locked edits D before (view_of T)
    between = record {
      readings = λ name is. elim (stop.readings s laws mode (view_of D.tree) edits merged p Loss b.bare cut name is) [ inl h ↦ inl (as_before name is h) | inr h ↦ inr (as_edited name is h) ];
      places = λ e he a.
          subst (λ x. (view_of T (s.place e.name) ≡ x) ⊎ IsNewFile s mode e e.change (view_of T (s.place e.name))) (same_file (s.place e.name) (at_place e.name (is_ref e he)))
          (subst (λ x. (x ≡ view_of D.tree (s.place e.name)) ⊎ IsNewFile s mode e e.change x) (sym (b.alike (s.place e.name) (at_place e.name (is_ref e he))))
          (stop.places s laws mode (view_of D.tree) edits merged p Loss b.bare cut e he a));
      logs = λ e he.
          subst (λ x. IsLogLeft Loss s edits (s.log e.name) x (view_of T (s.log e.name))) (same_file (s.log e.name) (at_log e.name (is_ref e he)))
          (subst (λ x. IsLogLeft Loss s edits (s.log e.name) (view_of D.tree (s.log e.name)) x) (sym (b.alike (s.log e.name) (at_log e.name (is_ref e he))))
          (log.logs s laws mode (view_of D.tree) edits merged p Loss b.bare cut e he));
      packed =
          subst (λ x. (view_of T s.packed_path ≡ x) ⊎ IsPackedFile s mode edits x (view_of T s.packed_path)) (same_file s.packed_path at_packed)
          (subst (λ x. (x ≡ view_of D.tree s.packed_path) ⊎ IsPackedFile s mode edits (view_of D.tree s.packed_path) x) (sym (b.alike s.packed_path at_packed))
          (stop.packed s laws mode (view_of D.tree) edits merged p Loss b.bare cut));
      others = λ path other here.
          b.alike path (other.no_lock, here) ∙ (stop.others s laws mode (view_of D.tree) edits merged p Loss b.bare cut locked path other ∙ same_file path (other.no_lock, here));
    }

    no_deletion_first : removes_packed mode ≡ false → NoDeletionFirst s edits before (view_of T)
    no_deletion_first keeps d hd a deleted differs u hu up =
        as_edited u.name (is_ref u hu)
        (stop.no_deletion_first s laws mode (view_of D.tree) edits merged p Loss b.bare cut keeps d hd a deleted (differs_from d.name (is_ref d hd) differs) u hu up)

    in_order : removes_packed mode ≡ false → InOrder s edits before (view_of T)
    in_order keeps first u later whole up a differs e he eup =
        let hu : IsEdit u edits = subst (IsEdit u) whole (edit_behind first u later) in
        let hf : IsEdit e edits = subst (IsEdit e) whole (edit_in_front e first (u ∷ later) he) in
        as_edited e.name (is_ref e hf)
        (stop.in_edit_order s laws mode (view_of D.tree) edits merged p Loss b.bare cut keeps first u later whole up a (differs_from u.name (is_ref u hu) differs) e he eup)

pub every_loss_among : EveryLossAmongIsBetween
every_loss_among s laws mode locked edits merged before left D E settled prepared alike inside lost =
    let b = bare_of (IsSpokenOf locked D) (plan s mode (view_of D.tree) edits merged) (view_of D.tree) (view_of left) (counts s laws mode locked edits merged (view_of before) D left settled prepared alike)
    (losses locked (plan s mode (view_of D.tree) edits merged) D E left inside lost) in
    record {
      between = between s laws mode locked edits merged (view_of before) D left settled prepared alike b;
      no_deletion_first = no_deletion_first s laws mode locked edits merged (view_of before) D left settled prepared alike b;
      in_order = in_order s laws mode locked edits merged (view_of before) D left settled prepared alike b;
    }

pub every_loss : EveryLossIsBetween
every_loss s laws mode locked staying edits before left D E steps run at lost =
    every_loss_among s laws mode locked edits run.merged before left D E run.settled run.prepared run.locks
    (within locked staying run.texts steps (plan s mode (view_of D.tree) edits run.merged) D E run.stays run.whole run.steps_are_planned at) lost

pub whole_run : EveryWholeRunIsKept
whole_run s laws mode locked staying edits before left D E steps run done lost =
    let writes = plan s mode (view_of D.tree) edits run.merged in
    let end = settles locked staying run.texts steps writes D E run.stays run.whole run.settled run.steps_are_planned done in (
      end.0,
      end.1,
      (
        after writes (view_of D.tree),
        headline.committed s laws mode locked locked edits run.merged (view_of before) (view_of D.tree) (after writes (view_of D.tree)) run.prepared run.locks (λ path no_lock. refl)
            (λ path own not_own. absurd (not_own own)),
        done_kept locked staying run.texts steps writes D E left run.stays run.whole run.settled run.steps_are_planned done lost,
      ),
    )
