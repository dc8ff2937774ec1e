use Rattle.std.proofs.Common.{rules, ◌≡◌, Bool, sym, subst}
use Rattle.std.specs.Prelude.{is_some, MatchBool}
use Rattle.gix_ref_store.specs.Listings.{store_listed, walked_prefix}
use Rattle.gix_ref_session.specs.Clashes.{ListsNone, ListsOne}
use Rattle.gix_ref_session.proofs.ClashLemmas.{lists_by}
use Rattle.gix_ref_session.proofs.Looking.{looks_on}
use Rattle.gix_ref_session.proofs.clash.lists_one.Goals as goal

pub returns-in-Ok-clause-lists : goal.returns-in-Ok-clause-lists
returns-in-Ok-clause-lists g c h start records walked are =
    let F = g.F.Files in
    let prefix = walked_prefix c.args.names in
    let items = c.in-Ok.items in
    let is : c.is_some-any.result ≡ is_some c.next.result = search rules in
    let looks = looks_on F.honest F.means start c.args.store.now (store_listed items) walked.looks_up c.in-Ok.ensures.made in
    subst (λ (any : Bool). MatchBool any (ListsOne F.honest F.means F.faults start records prefix) (ListsNone F.honest F.means start records prefix)) (sym is)
    (lists_by F.honest F.means F.faults start records prefix items c.next.new.self c.next.result looks (c.in-Ok.ensures.lists h start records walked are) c.next.ensures.steps)

pub returns-in-Ok-clause-seen : goal.returns-in-Ok-clause-seen
returns-in-Ok-clause-seen g c h =
    let is : c.is_some-any.result ≡ is_some c.next.result = search rules in
    (c.in-Ok.items, c.next.new.self, c.next.result, c.in-Ok.ensures.complete h, c.next.ensures.steps, is)
