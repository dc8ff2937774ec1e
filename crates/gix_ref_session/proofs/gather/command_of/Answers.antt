use Rattle.std.proofs.Common.{◌∙◌, ap, List, ℕ}
use Rattle.gix_ref_session.specs.Commands.{IsCommand, heard_of, texts}
use Rattle.gix_ref_session.specs.Input.{AreWords}
use Rattle.gix_ref_session.specs.Quotes.{ArePlain}
use Rattle.gix_ref_session.proofs.GatherLemmas.{lines_are, no_line, no_nul, nul_are, ok_with}
use Rattle.gix_ref_session.proofs.gather.command_of.Goals as goal

pub returns-in-Nul-clause-parsed : goal.returns-in-Nul-clause-parsed
returns-in-Nul-clause-parsed c =
    let session = c.args.session.now in
    ok_with c.command_in.result (λ command. IsCommand session.format session.object_hash (texts c.deref.result.now) (heard_of command))
    (λ command. (words : List (List ℕ)) × AreWords session.format c.args.text.now words × IsCommand session.format session.object_hash words (heard_of command))
    (λ command is. (texts c.deref.result.now, nul_are session.format c.args.text.now (texts c.deref.result.now) c.in-Nul.is (ap texts c.deref.ensures.value ∙ c.in_ok-words.ensures), is)) c.command_in.ensures.parsed

pub returns-clause-parsed : goal.returns-clause-parsed
returns-clause-parsed c =
    let session = c.args.session.now in
    let words = texts c.deref-in-Lines.result.now in
    ok_with c.line_command.result (λ command. (plain : List (List ℕ)) × ArePlain words plain × IsCommand session.format session.object_hash plain (heard_of command))
    (λ command. (words : List (List ℕ)) × AreWords session.format c.args.text.now words × IsCommand session.format session.object_hash words (heard_of command))
    (λ command is. (is.0, lines_are session.format c.args.text.now words is.0 c.in-Lines.is (ap texts c.deref-in-Lines.ensures.value ∙ c.in_ok-words.ensures) is.1, is.2)) c.line_command.ensures.parsed

pub returns-in-Nul-clause-fails : goal.returns-in-Nul-clause-fails
returns-in-Nul-clause-fails c =
    no_nul c.args.session.now c.command_in.result c.args.text.now (texts c.deref.result.now) c.in-Nul.is (ap texts c.deref.ensures.value ∙ c.in_ok-words.ensures) c.command_in.ensures.fails

pub returns-clause-fails : goal.returns-clause-fails
returns-clause-fails c =
    no_line c.args.session.now c.line_command.result c.args.text.now (texts c.deref-in-Lines.result.now) c.in-Lines.is (ap texts c.deref-in-Lines.ensures.value ∙ c.in_ok-words.ensures) c.line_command.ensures.fails
