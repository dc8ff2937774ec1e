use Rattle.std.proofs.Common.{◌≡◌, ◌≢◌, ◌⊎◌, inl, ℕ, List, IfOk, MatchOption, MatchResult, refl, sym, ◌∙◌, subst}
use Rattle.std.specs.Option.{option_map}
use Rattle.gix_ref_name.specs.Candidates.{candidates, remote_head}
use Rattle.gix_ref_name.specs.Names.{partial_ref_bytes, partial_bytes}
use Rattle.gix_ref_packed_text.specs.declared.raw.Reference.{Reference}
use Rattle.gix_ref_theory.specs.OnRealTrees.{view_of}
use Rattle.gix_ref_theory.specs.Lookups.{lookup}
use Rattle.gix_ref_lookup.specs.Lookups.{meaning_in, Finds, AreMissing, IsHitAmong, IsHitOf, FailsAmong, asked_names, name_asked, hit_given}
use Rattle.gix_ref_lookup.specs.declared.find.error.Error.{Error}
use Rattle.gix_ref_lookup.specs.declared.find.error.Error.TheVariants.{Memory}
use Rattle.gix_ref_lookup.proofs.Composing.{answers_same, given_answers, given_seen, given_err, hit_as_asked}
use Rattle.gix_ref_lookup.proofs.Opening.{if_ok, both_ways, none_or_some}
use Rattle.gix_ref_lookup.proofs.find.lookup.Lookup.find_reference.Goals as goal

pub returns-in-Ok-None-clause-found : goal.returns-in-Ok-None-clause-found
returns-in-Ok-None-clause-found g c h rs are =
    let s = meaning_in c.args.self.now.settings in
    let view = view_of (g.F.Files.means c.args.self.now.files.now).tree in
    let p = partial_ref_bytes c.args.name in
    let as_is : name_asked c.args.composes p ≡ p = rw c.in-Ok-None.field-0-is at c.in-Ok-None.ensures in
    subst (λ asked. Finds (option_map (hit_given asked p) (lookup s view rs (candidates asked) (remote_head asked))) c.find_asked.result) (sym as_is)
    (both_ways c.find_asked.result (λ found is. answers_same p (lookup s view rs (candidates p) (remote_head p)) found is) (λ error is. is) (c.find_asked.ensures.found h rs are))

pub returns-in-Ok-None-clause-seen : goal.returns-in-Ok-None-clause-seen
returns-in-Ok-None-clause-seen g c h honest =
    let settings = c.args.self.now.settings in
    let view = view_of (g.F.Files.means c.args.self.now.files.now).tree in
    let p = partial_ref_bytes c.args.name in
    let as_is : name_asked c.args.composes p ≡ p = rw c.in-Ok-None.field-0-is at c.in-Ok-None.ensures in
    if_ok c.find_asked.result (λ found. none_or_some found
    (λ missing. subst (λ asked. AreMissing {R = g.row.F-Reader.Denot} {G = g.F.Reader.ReadAt} settings view c.args.self.now.records.now asked) (sym as_is) missing)
    (λ r hit. hit_as_asked {R = g.row.F-Reader.Denot} {G = g.F.Reader.ReadAt} c.args.composes settings view c.args.self.now.records.now p as_is r hit))
    (c.find_asked.ensures.seen h honest)

pub returns-in-Ok-None-clause-failed : goal.returns-in-Ok-None-clause-failed
returns-in-Ok-None-clause-failed g c =
    let p = partial_ref_bytes c.args.name in
    let as_is : name_asked c.args.composes p ≡ p = rw c.in-Ok-None.field-0-is at c.in-Ok-None.ensures in
    let before = g.F.Files.faults c.args.self.now.files.now in
    let now = g.F.Files.faults c.find_asked.new.self.files.now in
    subst (λ asked. MatchResult c.find_asked.result (λ found. now ≡ before) (λ error. (error ≡ Memory) ⊎ FailsAmong {R = g.row.F-Reader.Denot} {G = g.F.Reader.ReadAt} g.F.Files.honest c.args.self.now.settings (g.F.Files.means c.args.self.now.files.now).tree c.args.self.now.records.now
    before now (asked_names asked) error)) (sym as_is) c.find_asked.ensures.failed

pub returns-in-Ok-Some-clause-found : goal.returns-in-Ok-Some-clause-found
returns-in-Ok-Some-clause-found g c h rs are =
    let s = meaning_in c.args.self.now.settings in
    let view = view_of (g.F.Files.means c.args.self.now.files.now).tree in
    let p = partial_ref_bytes c.args.name in
    let asked = name_asked c.args.composes p in
    let composed : (partial_bytes c.in-Ok-Some.composed ≡ asked) × (asked ≢ p) = rw c.in-Ok-Some.field-0-is at c.in-Ok-Some.ensures in
    given_answers asked p composed.1 (lookup s view rs (candidates asked) (remote_head asked)) c.find_asked-found.result c.given.result c.given.ensures
    (subst (λ (n : List ℕ). Finds (lookup s view rs (candidates n) (remote_head n)) c.find_asked-found.result) (c.as_ref.ensures ∙ composed.0) (c.find_asked-found.ensures.found h rs are))

pub returns-in-Ok-Some-clause-seen : goal.returns-in-Ok-Some-clause-seen
returns-in-Ok-Some-clause-seen g c h honest =
    let settings = c.args.self.now.settings in
    let view = view_of (g.F.Files.means c.args.self.now.files.now).tree in
    let p = partial_ref_bytes c.args.name in
    let composes = c.args.composes in
    let asked = name_asked composes p in
    let composed : (partial_bytes c.in-Ok-Some.composed ≡ asked) × (asked ≢ p) = rw c.in-Ok-Some.field-0-is at c.in-Ok-Some.ensures in
    let Missing = λ (n : List ℕ). AreMissing {R = g.row.F-Reader.Denot} {G = g.F.Reader.ReadAt} settings view c.args.self.now.records.now n in
    let Hits = λ (n : List ℕ) (r : Reference). IsHitAmong {R = g.row.F-Reader.Denot} {G = g.F.Reader.ReadAt} settings view c.args.self.now.records.now (asked_names n) r in
    given_seen asked p composed.1 (Missing asked) (Hits asked) (IsHitOf {R = g.row.F-Reader.Denot} {G = g.F.Reader.ReadAt} composes settings view c.args.self.now.records.now p)
    c.find_asked-found.result c.given.result c.given.ensures
    (λ r given hit form. (r, hit, form))
    (subst (λ (n : List ℕ). IfOk c.find_asked-found.result (λ r. MatchOption r (Missing n) (Hits n))) (c.as_ref.ensures ∙ composed.0) (c.find_asked-found.ensures.seen h honest))

pub returns-in-Ok-Some-clause-failed : goal.returns-in-Ok-Some-clause-failed
returns-in-Ok-Some-clause-failed g c =
    let p = partial_ref_bytes c.args.name in
    let asked = name_asked c.args.composes p in
    let composed : (partial_bytes c.in-Ok-Some.composed ≡ asked) × (asked ≢ p) = rw c.in-Ok-Some.field-0-is at c.in-Ok-Some.ensures in
    let before = g.F.Files.faults c.args.self.now.files.now in
    let now = g.F.Files.faults c.find_asked-found.new.self.files.now in
    let Fails : List ℕ → Error → Type 0 = λ n error. (error ≡ Memory) ⊎ FailsAmong {R = g.row.F-Reader.Denot} {G = g.F.Reader.ReadAt} g.F.Files.honest c.args.self.now.settings (g.F.Files.means c.args.self.now.files.now).tree c.args.self.now.records.now
    before now (asked_names n) error in
    given_err (now ≡ before) (Fails asked) (inl refl) c.find_asked-found.result c.given.result c.given.ensures
    (subst (λ (n : List ℕ). MatchResult c.find_asked-found.result (λ found. now ≡ before) (Fails n)) (c.as_ref.ensures ∙ composed.0) c.find_asked-found.ensures.failed)
