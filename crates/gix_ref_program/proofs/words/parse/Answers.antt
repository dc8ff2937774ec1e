use Rattle.std.proofs.Common.{ap}
use Rattle.std.specs.Option.{option_map}
use Rattle.gix_ref_log.specs.Signatures.{signature_ref_who}
use Rattle.gix_ref_program.specs.Words.{texts, command_asked}
use Rattle.gix_ref_program.proofs.WordLemmas.{no_signature, no_text, no_committer, no_command, is_line}
use Rattle.gix_ref_program.proofs.words.parse.Goals as goal

pub returns-in_err-signature : goal.returns-in_err-signature
returns-in_err-signature c =
    rw c.from_residual-in_err-signature.ensures (no_signature (texts c.args.words.now) (c.in_ok-dir.dir.now.now) (texts c.in_ok-dir.rest.now) (texts c.kind_of-object_hash.result.1.now) c.kind_of-object_hash.result.0
    (ap texts c.in_ok-dir.ensures.cases.0) c.kind_of-object_hash.ensures.words c.kind_of-object_hash.ensures.option
    (option_map (λ value. value.now) c.in_ok-namespace.namespace) (texts c.in_ok-namespace.rest.now) c.in_ok-namespace.ensures
    c.in_err-signature.ensures)

pub returns-in_err-message : goal.returns-in_err-message
returns-in_err-message c =
    rw c.from_residual-in_err-message.ensures (no_text (texts c.args.words.now) (c.in_ok-dir.dir.now.now) (texts c.in_ok-dir.rest.now) (texts c.kind_of-object_hash.result.1.now) c.kind_of-object_hash.result.0
    (ap texts c.in_ok-dir.ensures.cases.0) c.kind_of-object_hash.ensures.words c.kind_of-object_hash.ensures.option
    (option_map (λ value. value.now) c.in_ok-namespace.namespace) (texts c.in_ok-namespace.rest.now) c.in_ok-namespace.ensures
    (option_map (λ value. value.now) c.in_ok-signature.signature) (texts c.in_ok-signature.rest.now) c.in_ok-signature.ensures
    c.in_err-message.ensures)

pub returns-in_default : goal.returns-in_default
returns-in_default c =
    no_committer (texts c.args.words.now) (c.in_ok-dir.dir.now.now) (texts c.in_ok-dir.rest.now) (texts c.kind_of-object_hash.result.1.now) c.kind_of-object_hash.result.0
    (ap texts c.in_ok-dir.ensures.cases.0) c.kind_of-object_hash.ensures.words c.kind_of-object_hash.ensures.option
    (option_map (λ value. value.now) c.in_ok-namespace.namespace) (texts c.in_ok-namespace.rest.now) c.in_ok-namespace.ensures
    (option_map (λ value. value.now) c.in_ok-signature.signature) (texts c.in_ok-signature.rest.now) c.in_ok-signature.ensures
    c.in_default.ensures

pub returns-in_err-command : goal.returns-in_err-command
returns-in_err-command c =
    rw c.from_residual-in_err-command.ensures (no_command (texts c.args.words.now) (c.in_ok-dir.dir.now.now) (texts c.in_ok-dir.rest.now) (texts c.kind_of-object_hash.result.1.now) c.kind_of-object_hash.result.0
    (ap texts c.in_ok-dir.ensures.cases.0) c.kind_of-object_hash.ensures.words c.kind_of-object_hash.ensures.option
    (option_map (λ value. value.now) c.in_ok-namespace.namespace) (texts c.in_ok-namespace.rest.now) c.in_ok-namespace.ensures
    (option_map (λ value. value.now) c.in_ok-signature.signature) (texts c.in_ok-signature.rest.now) c.in_ok-signature.ensures
    (option_map (λ value. value.now) c.in_ok-message.message) (texts c.in_ok-message.rest.now) c.in_ok-message.ensures
    c.in_err-command.ensures)

pub returns : goal.returns
returns c =
    is_line (texts c.args.words.now) c.in_ok-dir.dir.now.now (texts c.in_ok-dir.rest.now) (texts c.kind_of-object_hash.result.1.now) c.kind_of-object_hash.result.0
    (ap texts c.in_ok-dir.ensures.cases.0) c.kind_of-object_hash.ensures.words c.kind_of-object_hash.ensures.option
    (option_map (λ value. value.now) c.in_ok-namespace.namespace) (texts c.in_ok-namespace.rest.now) c.in_ok-namespace.ensures
    (option_map (λ value. value.now) c.in_ok-signature.signature) (texts c.in_ok-signature.rest.now) c.in_ok-signature.ensures
    (option_map (λ value. value.now) c.in_ok-message.message) (texts c.in_ok-message.rest.now) c.in_ok-message.ensures
    (option_map signature_ref_who c.in-Ok.committer) (command_asked c.in_ok-command.command) c.in-Ok.ensures c.in_ok-command.ensures
