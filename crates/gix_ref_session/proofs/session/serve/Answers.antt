use Rattle.std.proofs.Common.{refl, subst, Bool, true, Ok}
use Rattle.gix_ref_session.specs.Sessions.{TurnComes, way, way_on}
use Rattle.gix_ref_session.proofs.Serving.{ends, ends_uncounted, fails, goes_on, none_yet}
use Rattle.gix_ref_session.proofs.session.serve.Goals as goal

pub transactions-init : goal.transactions-init
transactions-init g c =
    let F = g.F.Files in
    none_yet g.F.Reader.ReadAt F.honest F.means F.faults c.args.session.now (way (g.R.Read.remaining c.args.input.now) (g.W.Write.contents c.args.out.now) c.args.store.now)

pub transactions-preserved : goal.transactions-preserved
transactions-preserved g c =
    let F = g.F.Files in
    let session = c.args.session.now in
    let first = way (g.R.Read.remaining c.args.input.now) (g.W.Write.contents c.args.out.now) c.args.store.now in
    let mid = way_on c.transactions.needs_start (g.R.Read.remaining c.transactions.input) (g.W.Write.contents c.transactions.out) c.transactions.store in
    let last = way_on true (g.R.Read.remaining c.transaction.new.input) (g.W.Write.contents c.transaction.new.out) c.transaction.new.store in
    goes_on g.F.Reader.ReadAt F.honest F.means F.faults session first mid last c.transactions.invariant (subst (λ (b : Bool). TurnComes g.F.Reader.ReadAt F.honest F.means F.faults session mid last (Ok b)) c.in-Ok-true.field-0-test c.in-Ok-true.ensures) refl

pub returns-in-Ok-false : goal.returns-in-Ok-false
returns-in-Ok-false g c =
    let F = g.F.Files in
    let session = c.args.session.now in
    let first = way (g.R.Read.remaining c.args.input.now) (g.W.Write.contents c.args.out.now) c.args.store.now in
    let mid = way_on c.transactions.needs_start (g.R.Read.remaining c.transactions.input) (g.W.Write.contents c.transactions.out) c.transactions.store in
    let last = way_on true (g.R.Read.remaining c.transaction.new.input) (g.W.Write.contents c.transaction.new.out) c.transaction.new.store in
    ends g.F.Reader.ReadAt F.honest F.means F.faults session first mid last c.transactions.invariant tt (subst (λ (b : Bool). TurnComes g.F.Reader.ReadAt F.honest F.means F.faults session mid last (Ok b)) c.in-Ok-false.field-0-test c.in-Ok-false.ensures)

pub returns-in-Err : goal.returns-in-Err
returns-in-Err g c =
    let F = g.F.Files in
    let first = way (g.R.Read.remaining c.args.input.now) (g.W.Write.contents c.args.out.now) c.args.store.now in
    let mid = way_on c.transactions.needs_start (g.R.Read.remaining c.transactions.input) (g.W.Write.contents c.transactions.out) c.transactions.store in
    let last = way_on true (g.R.Read.remaining c.transaction.new.input) (g.W.Write.contents c.transaction.new.out) c.transaction.new.store in
    fails g.F.Reader.ReadAt F.honest F.means F.faults c.args.session.now first mid last c.transactions.invariant c.in-Err.fatal c.in-Err.ensures

pub returns : goal.returns
returns g c =
    let F = g.F.Files in
    ends_uncounted g.F.Reader.ReadAt F.honest F.means F.faults c.args.session.now (way (g.R.Read.remaining c.args.input.now) (g.W.Write.contents c.args.out.now) c.args.store.now) c.transactions.needs_start (g.R.Read.remaining c.transactions.input) (g.W.Write.contents c.transactions.out) c.transactions.store c.transactions.invariant
