use Rattle.gix_ref_program.specs.Words.{texts}
use Rattle.gix_ref_program.proofs.WordLemmas.{deletions, updates}
use Rattle.gix_ref_program.proofs.words.command_of.Goals as goal

pub returns-in-Some : goal.returns-in-Some
returns-in-Some c =
    let given = c.deref_of-deref in
    updates (texts c.args.words.now) (texts c.in-Some.rest.now) (texts given.result.1.now) given.result.0 c.update_of.result c.in-Some.ensures given.ensures.words given.ensures.option c.update_of.ensures

pub returns-in-Some-strip_word-2 : goal.returns-in-Some-strip_word-2
returns-in-Some-strip_word-2 c =
    let given = c.deref_of-deref-in-Some-strip_word-2 in
    deletions (texts c.args.words.now) (texts c.in-Some-strip_word-2.rest.now) (texts given.result.1.now) given.result.0 c.deletion_of.result c.in-Some-strip_word-2.ensures given.ensures.words given.ensures.option c.deletion_of.ensures
