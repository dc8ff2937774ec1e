use Rattle.std.proofs.Common.{◌≡◌, ◌+◌, Bool, List, [], ◌∷◌, ℕ, Option, Some, None, Vec, Global, true, drop, inl, inr, refl, sym, ◌∙◌, subst}
use Rattle.gix_ref_queries.specs.Resolving.{targets_in}
use Rattle.gix_ref_queries.specs.Rows.{row_texts}
use Rattle.gix_ref_queries.specs.Shortening.{IsAskedAmong, SeesClear, SeesDecided, decided}
use Rattle.gix_ref_queries.proofs.Names.{looks_up, same_finds, same_records}
use Rattle.gix_ref_queries.proofs.ShortLemmas.{asked_first, asked_later, clear_step, decided_before, decides, goes_on, names_step, no_short_from}
use Rattle.std.proofs.lemmas.List.{drop_all}
use Rattle.gix_ref_queries.proofs.short.is_clear_among.Goals as goal

pub returns-in-Ok-Some-clause-clear : goal.returns-in-Ok-Some-clause-clear
returns-in-Ok-Some-clause-clear g c h records are =
    let F = g.F.Files in
    let old = c.args.store.now in
    let mid = c.loop-full.store in
    let find = targets_in F.means old records in
    let looked = c.loop-full.invariant.unchanged in
    let name = c.args.name.now in
    let names = c.args.names.now in
    let full = c.full-item.result in
    let clear = c.in-Ok-Some.clear in
    let is = rw c.in-Ok-Some.field-0-is at (c.in-Ok-Some.ensures.decides h records (same_records F.honest F.means old mid records looked h are)) in
    decides find (targets_in F.means mid records) c.args.strict clear name full.items (row_texts (drop (c.loop-full.full-index + 1) names)) (same_finds F.honest F.means old mid records looked h)
    (subst (λ (text : List ℕ). let o : Option Bool = Some clear in o ≡ decided (targets_in F.means mid records) c.args.strict name text) c.deref.ensures.value is)
    ∙ (sym (clear_step find c.args.strict name names c.loop-full.full-index full c.loop-full-test.true c.full-item.is) ∙ sym (c.loop-full.invariant.clear h records are))

pub returns-in-Ok-Some-clause-seen : goal.returns-in-Ok-Some-clause-seen
returns-in-Ok-Some-clause-seen g c h =
    let F = g.F.Files in
    let old = c.args.store.now in
    let mid = c.loop-full.store in
    let name = c.args.name.now in
    let names = c.args.names.now in
    let full = c.full-item.result in
    let clear = c.in-Ok-Some.clear in
    let saw = rw c.in-Ok-Some.field-0-is at (c.in-Ok-Some.ensures.seen h) in
    c.loop-full.invariant.sees h clear
    (subst (λ (ts : List (List ℕ)). SeesClear F.means old c.args.strict name ts clear) (sym (names_step names c.loop-full.full-index full c.loop-full-test.true c.full-item.is))
    (inl (subst (λ (text : List ℕ). SeesDecided F.means old c.args.strict name text (Some clear)) c.deref.ensures.value (decided_before F.honest F.means old mid c.loop-full.invariant.unchanged h c.args.strict name c.deref.result.now (Some clear) saw))))

pub returns-in-Err-clause-failed : goal.returns-in-Err-clause-failed
returns-in-Err-clause-failed g c =
    let F = g.F.Files in
    let old = c.args.store.now in
    let name = c.args.name.now in
    let names = c.args.names.now in
    let i = c.loop-full.full-index in
    let full = c.full-item.result in
    let strict = c.args.strict in
    no_short_from g.F.Reader.ReadAt F.honest F.means F.faults (IsAskedAmong strict name (c.deref.result.now ∷ [])) (IsAskedAmong strict name (row_texts names)) old c.loop-full.store c.in-Err.error c.loop-full.invariant.unchanged
    (λ h records are asked is.
    let find = targets_in F.means old records in
    c.loop-full.invariant.asked h records are asked
    (subst (λ (ts : List (List ℕ)). IsAskedAmong strict name ts find asked) (sym (names_step names i full c.loop-full-test.true c.full-item.is))
    (asked_first strict name full.items (row_texts (drop (i + 1) names)) find asked (subst (λ (t : List ℕ). IsAskedAmong strict name (t ∷ []) find asked) c.deref.ensures.value is)))) c.in-Err.ensures.failed

pub loop-full-preserved : goal.loop-full-preserved
loop-full-preserved g c =
    let F = g.F.Files in
    let old = c.args.store.now in
    let mid = c.loop-full.store in
    let looked = c.loop-full.invariant.unchanged in
    let name = c.args.name.now in
    let names = c.args.names.now in
    let full = c.full-item.result in
    record {
      clear = λ h records are.
          let find = targets_in F.means old records in
          let is = rw c.in-Ok-None.field-0-is at (c.in-Ok-None.ensures.decides h records (same_records F.honest F.means old mid records looked h are)) in
          c.loop-full.invariant.clear h records are ∙ (clear_step find c.args.strict name names c.loop-full.full-index full c.loop-full-test.true c.full-item.is
          ∙ goes_on find (targets_in F.means mid records) c.args.strict name full.items (row_texts (drop (c.loop-full.full-index + 1) names)) (same_finds F.honest F.means old mid records looked h)
          (subst (λ (text : List ℕ). let o : Option Bool = None in o ≡ decided (targets_in F.means mid records) c.args.strict name text) c.deref.ensures.value is));
      asked = λ h records are asked later.
          let find = targets_in F.means old records in
          let mid_finds = targets_in F.means mid records in
          let is = rw c.in-Ok-None.field-0-is at (c.in-Ok-None.ensures.decides h records (same_records F.honest F.means old mid records looked h are)) in
          c.loop-full.invariant.asked h records are asked
          (subst (λ (ts : List (List ℕ)). IsAskedAmong c.args.strict name ts find asked) (sym (names_step names c.loop-full.full-index full c.loop-full-test.true c.full-item.is))
          (asked_later find mid_finds c.args.strict name full.items (row_texts (drop (c.loop-full.full-index + 1) names)) asked (same_finds F.honest F.means old mid records looked h)
          (subst (λ (text : List ℕ). let o : Option Bool = None in o ≡ decided mid_finds c.args.strict name text) c.deref.ensures.value is) later));
      sees = λ h clear later.
          let saw = rw c.in-Ok-None.field-0-is at (c.in-Ok-None.ensures.seen h) in
          c.loop-full.invariant.sees h clear
          (subst (λ (ts : List (List ℕ)). SeesClear F.means old c.args.strict name ts clear) (sym (names_step names c.loop-full.full-index full c.loop-full-test.true c.full-item.is))
          (inr (subst (λ (text : List ℕ). SeesDecided F.means old c.args.strict name text None) c.deref.ensures.value (decided_before F.honest F.means old mid looked h c.args.strict name c.deref.result.now None saw), later)));
      unchanged = looks_up F.honest F.means old mid c.decided.new.store looked c.decided.ensures.unchanged;
    }

pub returns-clause-seen : goal.returns-clause-seen
returns-clause-seen g c h =
    let F = g.F.Files in
    let old = c.args.store.now in
    let names = c.args.names.now in
    c.loop-full.invariant.sees h true
    (subst (λ (ns : List (Vec ℕ Global)). SeesClear F.means old c.args.strict c.args.name.now (row_texts ns) true) (sym (drop_all c.loop-full.full-index names c.loop-full-test.false)) refl)
