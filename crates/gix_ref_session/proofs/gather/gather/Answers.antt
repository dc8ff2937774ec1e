use Rattle.gix_ref_session.specs.Gathering.{as_gathering}
use Rattle.gix_ref_session.proofs.GatherLemmas.{closes, falls_short, one_more}
use Rattle.gix_ref_session.proofs.gather.gather.Goals as goal

pub returns-in-Err-clause-fails : goal.returns-in-Err-clause-fails
returns-in-Err-clause-fails g c =
    falls_short c.args.session.now c.args.needs_start (g.R.Read.remaining c.args.input.now) (g.W.Write.contents c.args.out.now) (as_gathering (g.R.Read.remaining c.commands.input) (g.W.Write.contents c.commands.out) c.commands.gathered)
    (g.R.Read.remaining c.hear.new.input) (g.W.Write.contents c.hear.new.out) c.in-Err.fatal c.commands.invariant c.in-Err.ensures.fails c.in-Err.ensures.unsaid

pub returns-in-Ok-Some-clause-gathered : goal.returns-in-Ok-Some-clause-gathered
returns-in-Ok-Some-clause-gathered g c =
    let at = as_gathering (g.R.Read.remaining c.commands.input) (g.W.Write.contents c.commands.out) c.commands.gathered in
    closes c.args.session.now c.args.needs_start (g.R.Read.remaining c.args.input.now) (g.W.Write.contents c.args.out.now) at at c.in-Ok-Some.closing (g.W.Write.contents c.hear.new.out) (g.R.Read.remaining c.hear.new.input) c.hear.new.gathered
    c.commands.invariant (rw c.in-Ok-Some.field-0-is at c.in-Ok-Some.ensures.hears)

pub commands-preserved : goal.commands-preserved
commands-preserved g c =
    one_more c.args.session.now c.args.needs_start (g.R.Read.remaining c.args.input.now) (g.W.Write.contents c.args.out.now) (as_gathering (g.R.Read.remaining c.commands.input) (g.W.Write.contents c.commands.out) c.commands.gathered)
    (as_gathering (g.R.Read.remaining c.hear.new.input) (g.W.Write.contents c.hear.new.out) c.hear.new.gathered) c.commands.invariant (rw c.in-Ok-None.field-0-is at c.in-Ok-None.ensures.hears)
