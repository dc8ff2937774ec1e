use Rattle.std.proofs.Common.{◌++◌, ◌∙◌, ap, refl}
use Rattle.gix_ref_program.proofs.LentLines.{line_pushed}
use Rattle.gix_ref_program.proofs.list.push_record.Goals as goal

pub returns : goal.returns
returns c =
    let spaced = c.push.new.self.items in
    line_pushed c.args.own c.extend_from_slice.new.self c.args.text.now.items c.push_lower_hex.new.text.items spaced c.extend_from_slice.new.self.items c.push-2.new.self.items
    c.in_ok-push_lower_hex.ensures.added c.in_ok-push.ensures.items (c.in_ok-extend_from_slice.ensures.items ∙ ap (λ name. spaced ++ name) c.to_path.ensures.bytes) c.in_ok-push-2.ensures.items refl
