use Rattle.std.proofs.Common.{◌≡◌, inl, inr, List, ℕ, Some, None, Option, IfOk, MatchOption, MatchResult, sym, ◌∙◌, ap, subst}
use Rattle.std.specs.List.{AllByRecursion}
use Rattle.std.specs.Option.{option_map}
use Rattle.std.specs.Prelude.{option_to_list}
use Rattle.gix_ref_name.specs.Candidates.{remote_head}
use Rattle.gix_ref_name.specs.Names.{partial_ref_bytes, full_ref_bytes, full_bytes}
use Rattle.gix_ref_theory.specs.Lookups.{hit_or_head}
use Rattle.gix_ref_theory.specs.OnRealTrees.{view_of}
use Rattle.gix_ref_lookup.specs.Lookups.{Among, Finds, IsLooseHit, IsNotRead, MemoryOr, meaning_in}
use Rattle.gix_ref_lookup.proofs.Heads.{loose_answer, not_read_sound}
use Rattle.gix_ref_lookup.proofs.Opening.{if_ok, both_ways, none_or_some}
use Rattle.gix_ref_lookup.proofs.find.lookup.Lookup.find_head.Goals as goal

pub returns-in-Ok-Some-clause-found : goal.returns-in-Ok-Some-clause-found
returns-in-Ok-Some-clause-found g c h =
    let old = c.args.self.now in
    let new = c.find_loose.new.self in
    let s = meaning_in old.settings in
    let view = view_of (g.F.Files.means old.files.now).tree in
    let before = g.F.Files.faults old.files.now in
    let now = g.F.Files.faults new.files.now in
    let name = full_ref_bytes c.as_ref.result in
    let f = c.find_loose.ensures in
    let head_is : Some name ≡ remote_head (partial_ref_bytes c.args.name) = ap Some c.as_ref.ensures ∙ (sym (ap (option_map full_bytes) c.in-Ok-Some.field-0-is) ∙ c.in-Ok-Some.ensures.bytes) in
    subst (λ (head : Option (List ℕ)). Finds (hit_or_head s view None head) c.find_loose.result) head_is
    (loose_answer s view name (now ≡ before) (IsNotRead g.F.Files.honest old.settings.kind s view before now name) c.find_loose.result
    (not_read_sound g.F.Files.honest old.settings.kind s view before now name) f.allowed (f.found h) f.failed)

pub returns-in-Ok-Some-clause-seen : goal.returns-in-Ok-Some-clause-seen
returns-in-Ok-Some-clause-seen g c h =
    let old = c.args.self.now in
    let s = meaning_in old.settings in
    let view = view_of (g.F.Files.means old.files.now).tree in
    let name = full_ref_bytes c.as_ref.result in
    let head_is : Some name ≡ remote_head (partial_ref_bytes c.args.name) = ap Some c.as_ref.ensures ∙ (sym (ap (option_map full_bytes) c.in-Ok-Some.field-0-is) ∙ c.in-Ok-Some.ensures.bytes) in
    subst (λ (head : Option (List ℕ)). IfOk c.find_loose.result (λ found. MatchOption found
    (AllByRecursion (λ n. view (s.place n) ≡ None) (option_to_list head)) (λ r. Among (λ n. IsLooseHit s view n r) (option_to_list head)))) head_is
    (if_ok c.find_loose.result (λ found. none_or_some found (λ absent. (absent, tt)) (λ r hit. inl hit)) (c.find_loose.ensures.found h))

pub returns-in-Ok-Some-clause-failed : goal.returns-in-Ok-Some-clause-failed
returns-in-Ok-Some-clause-failed g c =
    let old = c.args.self.now in
    let new = c.find_loose.new.self in
    let before = g.F.Files.faults old.files.now in
    let now = g.F.Files.faults new.files.now in
    let s = meaning_in old.settings in
    let view = view_of (g.F.Files.means old.files.now).tree in
    let name = full_ref_bytes c.as_ref.result in
    let head_is : Some name ≡ remote_head (partial_ref_bytes c.args.name) = ap Some c.as_ref.ensures ∙ (sym (ap (option_map full_bytes) c.in-Ok-Some.field-0-is) ∙ c.in-Ok-Some.ensures.bytes) in
    subst (λ (head : Option (List ℕ)). MatchResult c.find_loose.result (λ found. now ≡ before)
    (MemoryOr (λ error. Among (λ n. IsNotRead g.F.Files.honest old.settings.kind s view before now n error) (option_to_list head)))) head_is
    (both_ways c.find_loose.result (λ found still. still) (λ error why. inr (inl why)) c.find_loose.ensures.failed)
