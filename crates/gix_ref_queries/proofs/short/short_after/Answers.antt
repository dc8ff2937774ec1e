use Rattle.std.proofs.Common.{◌≡◌, ◌++◌, Bor, Bool, List, ℕ, Option, Some, None, if◌then◌else◌, sym, subst, ◌∙◌, ap}
use Rattle.std.specs.Prelude.{IfSome}
use Rattle.gix_ref_queries.specs.Resolving.{targets_in}
use Rattle.gix_ref_queries.specs.Rows.{row_texts}
use Rattle.gix_ref_queries.specs.Shortening.{IsAskedAfter, IsAskedAmong, lent_bytes}
use Rattle.gix_ref_queries.proofs.Names.{looks_none}
use Rattle.gix_ref_queries.proofs.ShortLemmas.{no_short_from, rest_is, sees_after, short_is}
use Rattle.gix_ref_queries.proofs.short.short_after.Goals.{then-clear, else-clear}
use Rattle.gix_ref_queries.proofs.short.short_after.Goals as goal

pub returns-in-Ok-clause-short : goal.returns-in-Ok-clause-short
returns-in-Ok-clause-short g c h records are =
    let short = c.in-Some.short.now in
    let either = λ (b : Bool). let o : Option (List ℕ) = if b then Some short else None in o in
    short_is (targets_in g.F.Files.means c.args.store.now records) c.args.strict c.in-Ok.clear c.args.name.now c.args.prefix.now short (row_texts c.deref.result.now) (lent_bytes c.if-clear.result) c.in-Some.ensures.cases.0 c.in-Some.ensures.cases.1
    (ap row_texts c.deref.ensures.value ∙ c.in_ok-names.ensures) (c.in-Ok.ensures.clear h records are)
    (elim c.if-clear.branch [
      | then-clear w ↦ ap lent_bytes w.result-is ∙ sym (ap either w.if-clear.true)
      | else-clear w ↦ ap lent_bytes w.result-is ∙ sym (ap either w.if-clear.false)
    ])

pub returns-clause-failed : goal.returns-clause-failed
returns-clause-failed g c =
    let F = g.F.Files in
    let old = c.args.store.now in
    let name = c.args.name.now in
    let prefix = c.args.prefix.now in
    let short = c.in-Some.short.now in
    let strict = c.args.strict in
    no_short_from g.F.Reader.ReadAt F.honest F.means F.faults (IsAskedAmong strict name (row_texts c.deref.result.now)) (IsAskedAfter strict name prefix) old old c.in-Err.error (looks_none F.honest F.means old)
    (λ h records are asked is. (
      short,
      rest_is name prefix short c.in-Some.ensures.cases.0 c.in-Some.ensures.cases.1,
      subst (λ (ts : List (List ℕ)). IsAskedAmong strict name ts (targets_in F.means old records) asked) (ap row_texts c.deref.ensures.value ∙ c.in_ok-names.ensures) is,
    )) c.in-Err.ensures.failed

pub returns-in-Ok-clause-rest : goal.returns-in-Ok-clause-rest
returns-in-Ok-clause-rest g c =
    let name = c.args.name.now in
    let prefix = c.args.prefix.now in
    let is = λ (found : Option (Bor (List ℕ))). IfSome found (λ (rest : Bor (List ℕ)). name ≡ prefix ++ rest.now) in
    elim c.if-clear.branch [
      | then-clear w ↦ subst is (sym w.result-is) (rest_is name prefix c.in-Some.short.now c.in-Some.ensures.cases.0 c.in-Some.ensures.cases.1)
      | else-clear w ↦ subst is (sym w.result-is) tt
    ]

pub returns-in-Ok-clause-seen : goal.returns-in-Ok-clause-seen
returns-in-Ok-clause-seen g c h =
    let short = c.in-Some.short.now in
    let either = λ (b : Bool). let o : Option (List ℕ) = if b then Some short else None in o in
    sees_after g.F.Files.means c.args.store.now c.args.strict c.in-Ok.clear c.args.name.now c.args.prefix.now short (row_texts c.deref.result.now) (lent_bytes c.if-clear.result) c.in-Some.ensures.cases.0 c.in-Some.ensures.cases.1
    (ap row_texts c.deref.ensures.value ∙ c.in_ok-names.ensures) (c.in-Ok.ensures.seen h)
    (elim c.if-clear.branch [
      | then-clear w ↦ ap lent_bytes w.result-is ∙ sym (ap either w.if-clear.true)
      | else-clear w ↦ ap lent_bytes w.result-is ∙ sym (ap either w.if-clear.false)
    ])
