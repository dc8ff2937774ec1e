use Rattle.std.proofs.Common.{List, ℕ}
use Rattle.gix_ref_session.specs.Commands.{IsCommand, heard_of, texts}
use Rattle.gix_ref_session.specs.Quotes.{ArePlain}
use Rattle.gix_ref_session.proofs.GatherLemmas.{ok_with, only_plain}
use Rattle.gix_ref_session.proofs.gather.line_command.Goals as goal

pub returns-then-not-has_quotes-clause-parsed : goal.returns-then-not-has_quotes-clause-parsed
returns-then-not-has_quotes-clause-parsed c =
    let session = c.args.session.now in
    let words = texts c.args.words.now in
    ok_with c.command_in.result (λ command. IsCommand session.format session.object_hash words (heard_of command))
    (λ command. (plain : List (List ℕ)) × ArePlain words plain × IsCommand session.format session.object_hash plain (heard_of command))
    (λ command is. (words, c.has_quotes.ensures c.if-not-has_quotes.true, is)) c.command_in.ensures.parsed

pub returns-then-not-has_quotes-clause-fails : goal.returns-then-not-has_quotes-clause-fails
returns-then-not-has_quotes-clause-fails c =
    let session = c.args.session.now in
    only_plain session.format session.object_hash c.command_in.result c.args.text.now (texts c.args.words.now) (texts c.args.words.now) (c.has_quotes.ensures c.if-not-has_quotes.true) c.command_in.ensures.fails
