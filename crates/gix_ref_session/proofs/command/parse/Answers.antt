use Rattle.std.proofs.Common.{◌≡◌, ◌≢◌, None, rules}
use Rattle.std.proofs.lemmas.Option.{MatchOption-at_none}
use Rattle.std.proofs.lemmas.Result.{on_err_weaker}
use Rattle.gix_ref_session.specs.Commands.{no_deref_words, texts}
use Rattle.gix_ref_session.proofs.CommandLemmas.{no_command}
use Rattle.gix_ref_session.proofs.command.parse.Goals as goal

pub returns-clause-refused : goal.returns-clause-refused
returns-clause-refused c =
    let words = texts c.args.words.now in
    let none : c.no_deref.result ≡ None = search rules in
    let deref = MatchOption-at_none (words ≢ no_deref_words c.args.format) (λ _. words ≡ no_deref_words c.args.format) none c.no_deref.ensures in
    on_err_weaker c.edit_of.result (no_command c.args.format c.args.kind words deref c.in_default.ensures.refused) c.edit_of.ensures.refused
