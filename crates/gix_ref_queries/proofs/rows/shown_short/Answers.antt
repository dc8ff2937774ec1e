use Rattle.std.proofs.Common.{◌≡◌, [], Bool, true, List, ℕ, if◌then◌else◌, refl, sym, ◌∙◌, ap, subst}
use Rattle.std.specs.Prelude.{MatchBool}
use Rattle.gix_ref_name.specs.Names.{full_ref_bytes}
use Rattle.gix_ref_queries.specs.Resolving.{targets_in}
use Rattle.gix_ref_queries.specs.Shortening.{SeesShort, short_name}
use Rattle.gix_ref_queries.proofs.rows.shown_short.Goals as goal

pub returns-then-not-shows_short-clause-short : goal.returns-then-not-shows_short-clause-short
returns-then-not-shows_short-clause-short g c h records are =
    let find = targets_in g.F.Files.means c.args.store.now records in
    sym (ap (λ (b : Bool). let s : List ℕ = if b then short_name find true (full_ref_bytes c.args.name) else [] in s) (sym c.shows_short.ensures ∙ c.if-not-shows_short.true))

pub returns-in-Ok-clause-short : goal.returns-in-Ok-clause-short
returns-in-Ok-clause-short g c h records are =
    let find = targets_in g.F.Files.means c.args.store.now records in
    c.in-Ok.ensures.short h records are
    ∙ (ap (short_name find true) c.to_path.ensures.bytes
    ∙ sym (ap (λ (b : Bool). let s : List ℕ = if b then short_name find true (full_ref_bytes c.args.name) else [] in s) (sym c.shows_short.ensures ∙ c.if-not-shows_short.false)))

pub returns-then-not-shows_short-clause-seen : goal.returns-then-not-shows_short-clause-seen
returns-then-not-shows_short-clause-seen g c h =
    let none : List ℕ = [] in
    subst (λ (b : Bool). MatchBool b (SeesShort g.F.Files.means c.args.store.now true (full_ref_bytes c.args.name) none) (none ≡ [])) (sym (sym c.shows_short.ensures ∙ c.if-not-shows_short.true)) refl

pub returns-in-Ok-clause-seen : goal.returns-in-Ok-clause-seen
returns-in-Ok-clause-seen g c h =
    let old = c.args.store.now in
    let means = g.F.Files.means in
    let name = full_ref_bytes c.args.name in
    let short = c.in-Ok.short.now in
    subst (λ (b : Bool). MatchBool b (SeesShort means old true name short) (short ≡ [])) (sym (sym c.shows_short.ensures ∙ c.if-not-shows_short.false)) (subst (λ (n : List ℕ). SeesShort means old true n short) c.to_path.ensures.bytes (c.in-Ok.ensures.seen h))
