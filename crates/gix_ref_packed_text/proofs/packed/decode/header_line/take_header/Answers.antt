use Rattle.std.proofs.Common.{◌≡◌, ℕ, List, codes, sym, ◌∙◌, subst}
use Rattle.std.proofs.lemmas.List.{append_cancel_left}
use Rattle.gix_ref_packed_text.specs.RecordGrammar.{Line}
use Rattle.gix_ref_packed_text.proofs.packed.decode.header_line.take_header.Goals as goal

pub returns-in_default-strip_front : goal.returns-in_default-strip_front
returns-in_default-strip_front c = λ h rest f. c.in_default-strip_front.ensures f.after f.whole

pub returns-in_default-take_line : goal.returns-in_default-take_line
returns-in_default-take_line c = λ h rest f.
    let same : f.after ≡ c.in-Some-strip_front.after.now = append_cancel_left (codes "# pack-refs with: ") f.after c.in-Some-strip_front.after.now (sym f.whole ∙ c.in-Some-strip_front.ensures) in
    c.in_default-take_line.ensures f.line rest (subst (λ (u : List ℕ). Line u f.line rest) same f.is_line)
