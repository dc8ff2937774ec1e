use Rattle.std.proofs.Common.{◌+◌, [], List, ℕ, Option, Some, None, Bor, drop, get_or, inl, inr, refl, sym, subst, ◌∙◌}
use Rattle.gix_ref_queries.specs.Patterns.{texts}
use Rattle.gix_ref_queries.specs.Resolving.{targets_in}
use Rattle.gix_ref_queries.specs.Shortening.{IsAskedAfter, IsAskedBy, SeesShortBy}
use Rattle.gix_ref_queries.proofs.Names.{looks_up, same_finds, same_records}
use Rattle.gix_ref_queries.proofs.ShortLemmas.{after_before, asked_by_later, no_short_from, prefixes_step, short_by_one, short_step, shortens, shortens_not}
use Rattle.std.proofs.lemmas.List.{drop_all}
use Rattle.gix_ref_queries.proofs.short.short_by.Goals as goal

pub returns-in-Ok-Some-clause-short : goal.returns-in-Ok-Some-clause-short
returns-in-Ok-Some-clause-short g c h records are =
    let F = g.F.Files in
    let old = c.args.store.now in
    let mid = c.loop-prefix.store in
    let find = targets_in F.means old records in
    let looked = c.loop-prefix.invariant.unchanged in
    let prefixes = c.args.prefixes.now in
    let i = c.loop-prefix.prefix-index in
    let none : Bor (List ℕ) = record { ref_ptr = (0, 0); now = [] } in
    shortens find (targets_in F.means mid records) c.args.strict c.args.name.now (get_or prefixes i none).now c.in-Ok-Some.short.now (texts (drop (i + 1) prefixes)) (same_finds F.honest F.means old mid records looked h)
    (rw c.in-Ok-Some.field-0-is at (c.in-Ok-Some.ensures.short h records (same_records F.honest F.means old mid records looked h are)))
    ∙ (sym (short_step find c.args.strict c.args.name.now prefixes i none c.loop-prefix-test.true) ∙ sym (c.loop-prefix.invariant.short h records are))

pub returns-in-Ok-Some-clause-seen : goal.returns-in-Ok-Some-clause-seen
returns-in-Ok-Some-clause-seen g c h =
    let F = g.F.Files in
    let old = c.args.store.now in
    let mid = c.loop-prefix.store in
    let name = c.args.name.now in
    let prefixes = c.args.prefixes.now in
    let i = c.loop-prefix.prefix-index in
    let none : Bor (List ℕ) = record { ref_ptr = (0, 0); now = [] } in
    let prefix = (get_or prefixes i none).now in
    let short = c.in-Ok-Some.short.now in
    c.loop-prefix.invariant.sees h short
    (subst (λ (ts : List (List ℕ)). SeesShortBy F.means old c.args.strict name ts short) (sym (prefixes_step prefixes i none c.loop-prefix-test.true))
    (inl (after_before F.honest F.means old mid c.loop-prefix.invariant.unchanged h c.args.strict name prefix (Some short) (rw c.in-Ok-Some.field-0-is at (c.in-Ok-Some.ensures.seen h)))))

pub returns-in-Err-clause-failed : goal.returns-in-Err-clause-failed
returns-in-Err-clause-failed g c =
    let F = g.F.Files in
    let old = c.args.store.now in
    let name = c.args.name.now in
    let strict = c.args.strict in
    let prefixes = c.args.prefixes.now in
    let i = c.loop-prefix.prefix-index in
    let none : Bor (List ℕ) = record { ref_ptr = (0, 0); now = [] } in
    no_short_from g.F.Reader.ReadAt F.honest F.means F.faults (IsAskedAfter strict name (get_or prefixes i none).now) (IsAskedBy strict name (texts prefixes)) old c.loop-prefix.store c.in-Err.error c.loop-prefix.invariant.unchanged
    (λ h records are asked is.
    c.loop-prefix.invariant.asked h records are asked
    (subst (λ (ts : List (List ℕ)). IsAskedBy strict name ts (targets_in F.means old records) asked) (sym (prefixes_step prefixes i none c.loop-prefix-test.true)) (inl is))) c.in-Err.ensures.failed

pub loop-prefix-preserved : goal.loop-prefix-preserved
loop-prefix-preserved g c =
    let F = g.F.Files in
    let old = c.args.store.now in
    let mid = c.loop-prefix.store in
    let looked = c.loop-prefix.invariant.unchanged in
    let prefixes = c.args.prefixes.now in
    let i = c.loop-prefix.prefix-index in
    let none : Bor (List ℕ) = record { ref_ptr = (0, 0); now = [] } in
    record {
      short = λ h records are.
          let find = targets_in F.means old records in
          c.loop-prefix.invariant.short h records are ∙ (short_step find c.args.strict c.args.name.now prefixes i none c.loop-prefix-test.true
          ∙ shortens_not find (targets_in F.means mid records) c.args.strict c.args.name.now (get_or prefixes i none).now (texts (drop (i + 1) prefixes)) (same_finds F.honest F.means old mid records looked h)
          (rw c.in-Ok-None.field-0-is at (c.in-Ok-None.ensures.short h records (same_records F.honest F.means old mid records looked h are))));
      asked = λ h records are asked later.
          let find = targets_in F.means old records in
          c.loop-prefix.invariant.asked h records are asked
          (subst (λ (ts : List (List ℕ)). IsAskedBy c.args.strict c.args.name.now ts find asked) (sym (prefixes_step prefixes i none c.loop-prefix-test.true))
          (asked_by_later find (targets_in F.means mid records) c.args.strict c.args.name.now (get_or prefixes i none).now (texts (drop (i + 1) prefixes)) asked (same_finds F.honest F.means old mid records looked h)
          (rw c.in-Ok-None.field-0-is at (c.in-Ok-None.ensures.short h records (same_records F.honest F.means old mid records looked h are))) later));
      sees = λ h short later.
          let name = c.args.name.now in
          let prefix = (get_or prefixes i none).now in
          c.loop-prefix.invariant.sees h short
          (subst (λ (ts : List (List ℕ)). SeesShortBy F.means old c.args.strict name ts short) (sym (prefixes_step prefixes i none c.loop-prefix-test.true))
          (inr (after_before F.honest F.means old mid looked h c.args.strict name prefix None (rw c.in-Ok-None.field-0-is at (c.in-Ok-None.ensures.seen h)), later)));
      unchanged = looks_up F.honest F.means old mid c.short_after.new.store looked c.short_after.ensures.unchanged;
    }

pub returns-in-Ok-Some-clause-rest : goal.returns-in-Ok-Some-clause-rest
returns-in-Ok-Some-clause-rest g c =
    let prefixes = c.args.prefixes.now in
    let i = c.loop-prefix.prefix-index in
    let none : Bor (List ℕ) = record { ref_ptr = (0, 0); now = [] } in
    inr (short_by_one c.args.name.now c.in-Ok-Some.short.now prefixes i none c.loop-prefix-test.true (rw c.in-Ok-Some.field-0-is at c.in-Ok-Some.ensures.rest))

pub returns-clause-rest : goal.returns-clause-rest
returns-clause-rest g c = inl refl

pub returns-clause-seen : goal.returns-clause-seen
returns-clause-seen g c h =
    let F = g.F.Files in
    let name = c.args.name.now in
    let prefixes = c.args.prefixes.now in
    c.loop-prefix.invariant.sees h name
    (subst (λ (ps : List (Bor (List ℕ))). SeesShortBy F.means c.args.store.now c.args.strict name (texts ps) name) (sym (drop_all c.loop-prefix.prefix-index prefixes c.loop-prefix-test.false)) refl)
