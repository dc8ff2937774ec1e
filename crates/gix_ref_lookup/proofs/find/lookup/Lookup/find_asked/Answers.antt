use Rattle.std.proofs.Common.{◌≡◌, ◌∙◌, inl, inr, ⊎_elim, ℕ, List, None, Option, IfOk, MatchOption, sym, subst}
use Rattle.std.specs.List.{AllByRecursion}
use Rattle.std.specs.Prelude.{option_to_list}
use Rattle.gix_ref_name.specs.Candidates.{candidates, remote_head}
use Rattle.gix_ref_name.specs.Names.{partial_ref_bytes}
use Rattle.gix_ref_theory.specs.Lookups.{Hit, hit_or_head}
use Rattle.gix_ref_theory.specs.OnRealTrees.{view_of}
use Rattle.gix_ref_lookup.specs.Lookups.{meaning_in, Among, Finds, IsHit, IsLooseHit, IsNotRead, IsPassed, CandidateFails}
use Rattle.gix_ref_lookup.specs.declared.settings.Settings.{Settings}
use Rattle.gix_ref_lookup.proofs.Heads.{fails_alone}
use Rattle.gix_ref_lookup.proofs.Looking.{among_front, among_behind, among_wider, fails_front, fails_behind, none_found, not_read_from}
use Rattle.gix_ref_lookup.proofs.Opening.{if_ok, both_ways, none_or_some}
use Rattle.gix_ref_lookup.proofs.Steps.{before_step, looks_more}
use Rattle.gix_ref_packed_text.specs.declared.raw.Reference.{Reference}
use Rattle.gix_ref_lookup.proofs.find.lookup.Lookup.find_asked.Goals as goal

pub returns-in-Ok-None-clause-found : goal.returns-in-Ok-None-clause-found
returns-in-Ok-None-clause-found g c h rs are =
    let old = c.args.self.now in
    let mid = c.find_first.new.self in
    let e = c.in-Ok-None.ensures in
    let head = remote_head (partial_ref_bytes c.args.name) in
    subst (λ (found : Option Hit). Finds (hit_or_head (meaning_in old.settings) (view_of (g.F.Files.means old.files.now).tree) found head) c.find_head.result)
    (sym (none_found _ (rw c.in-Ok-None.field-0-is at (e.found h rs are))))
    (before_step g.F.Files.honest g.F.Files.means g.F.Files.faults old mid e.leaves h (λ s T. Finds (hit_or_head (meaning_in s) (view_of T) None head) c.find_head.result) (c.find_head.ensures.found h))

pub returns-in-Ok-None-clause-seen : goal.returns-in-Ok-None-clause-seen
returns-in-Ok-None-clause-seen g c h honest =
    let old = c.args.self.now in
    let mid = c.find_first.new.self in
    let e = c.in-Ok-None.ensures in
    let s = meaning_in old.settings in
    let view = view_of (g.F.Files.means old.files.now).tree in
    let p = partial_ref_bytes c.args.name in
    let head = option_to_list (remote_head p) in
    let Hits = λ (n : List ℕ) (r : Reference). IsHit {R = g.row.F-Reader.Denot} {G = g.F.Reader.ReadAt} old.settings view old.records.now n r in
    if_ok c.find_head.result (λ found. none_or_some found
    (λ missing. record { candidates = rw c.in-Ok-None.field-0-is at (e.seen h honest); head = missing })
    (λ r hit. among_behind (λ n. Hits n r) (candidates p) head (among_wider (λ n. IsLooseHit s view n r) (λ n. Hits n r) head (λ n is. inl is) hit)))
    (before_step g.F.Files.honest g.F.Files.means g.F.Files.faults old mid e.leaves h (λ s T. IfOk c.find_head.result (λ found. MatchOption found
    (AllByRecursion (λ n. view_of T ((meaning_in s).place n) ≡ None) head) (λ r. Among (λ n. IsLooseHit (meaning_in s) (view_of T) n r) head))) (c.find_head.ensures.seen h))

pub returns-in-Ok-None-clause-failed : goal.returns-in-Ok-None-clause-failed
returns-in-Ok-None-clause-failed g c =
    let honest = g.F.Files.honest in
    let old = c.args.self.now in
    let mid = c.find_first.new.self in
    let e = c.in-Ok-None.ensures in
    let first = (g.F.Files.means old.files.now).tree in
    let between_tree = (g.F.Files.means mid.files.now).tree in
    let before = g.F.Files.faults old.files.now in
    let between = g.F.Files.faults mid.files.now in
    let now = g.F.Files.faults c.find_head.new.self.files.now in
    let p = partial_ref_bytes c.args.name in
    both_ways c.find_head.result (λ found still. still ∙ e.failed) (λ error why. ⊎_elim (λ memory. inl memory) (λ fails. inr
    (fails_behind honest old.settings first old.records.now (λ n. CandidateFails {R = g.row.F-Reader.Denot} {G = g.F.Reader.ReadAt} honest old.settings first old.records.now before now n error) (candidates p) (option_to_list (remote_head p))
    (λ h rs are. none_found _ (rw c.in-Ok-None.field-0-is at (e.found h rs are)))
    (fails_alone (IsPassed {R = g.row.F-Reader.Denot} {G = g.F.Reader.ReadAt} honest old.settings first old.records.now)
    (λ n. CandidateFails {R = g.row.F-Reader.Denot} {G = g.F.Reader.ReadAt} honest old.settings first old.records.now before now n error)
    (λ n. IsNotRead honest mid.settings.kind (meaning_in mid.settings) (view_of between_tree) between now n error) (remote_head p)
    (λ n unread. inl (not_read_from honest old.settings.kind (meaning_in old.settings) first between_tree before between now n error (λ h. (e.leaves.reads.leaves h).tree) e.failed
    (subst (λ (s : Settings). IsNotRead honest s.kind (meaning_in s) (view_of between_tree) between now n error) e.leaves.settings unread)))
    fails))) why)
    c.find_head.ensures.failed

pub returns-in-Ok-Some-clause-seen : goal.returns-in-Ok-Some-clause-seen
returns-in-Ok-Some-clause-seen g c h honest =
    let old = c.args.self.now in
    let p = partial_ref_bytes c.args.name in
    let r = c.in-Ok-Some.reference in
    among_front (λ n. IsHit {R = g.row.F-Reader.Denot} {G = g.F.Reader.ReadAt} old.settings (view_of (g.F.Files.means old.files.now).tree) old.records.now n r) (candidates p) (option_to_list (remote_head p))
    (rw c.in-Ok-Some.field-0-is at (c.in-Ok-Some.ensures.seen h honest))

pub returns-in-Err-clause-failed : goal.returns-in-Err-clause-failed
returns-in-Err-clause-failed g c =
    let old = c.args.self.now in
    let first = (g.F.Files.means old.files.now).tree in
    let p = partial_ref_bytes c.args.name in
    inr (fails_front (IsPassed {R = g.row.F-Reader.Denot} {G = g.F.Reader.ReadAt} g.F.Files.honest old.settings first old.records.now)
    (λ n. CandidateFails {R = g.row.F-Reader.Denot} {G = g.F.Reader.ReadAt} g.F.Files.honest old.settings first old.records.now (g.F.Files.faults old.files.now) (g.F.Files.faults c.find_first.new.self.files.now) n c.in-Err.error)
    (candidates p) (option_to_list (remote_head p)) c.in-Err.ensures.failed)

pub returns-in-Ok-None-clause-leaves : goal.returns-in-Ok-None-clause-leaves
returns-in-Ok-None-clause-leaves g c = looks_more _ _ _ _ _ _ c.in-Ok-None.ensures.leaves c.find_head.ensures.leaves
