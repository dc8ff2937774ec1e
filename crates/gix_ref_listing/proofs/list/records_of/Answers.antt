use Rattle.std.proofs.Common.{◌∙◌, ap, subst, ◌++◌, ℕ, List, [], Some, sym}
use Rattle.gix_ref_target.specs.PackedRecords.{Record}
use Rattle.gix_ref_packed_text.specs.Prefixes.{records_prefixed}
use Rattle.gix_ref_packed.specs.YetToGive.{IsRestOf, IsYet, Owes}
use Rattle.gix_ref_packed.specs.Buffers.{buffer_kind, buffer_line, buffer_text}
use Rattle.gix_ref_lookup.specs.StoreLayout.{namespace_text}
use Rattle.gix_ref_listing.specs.OwedNames.{OwesOthers}
use Rattle.gix_ref_listing.specs.PackedTexts.{Text}
use Rattle.gix_ref_listing.proofs.OwedLemmas.{owes_all}
use Rattle.gix_ref_listing.proofs.list.records_of.Goals as goal

pub returns-in_ok-key-in-Some-clause-asked : goal.returns-in_ok-key-in-Some-clause-asked
returns-in_ok-key-in-Some-clause-asked c records given =
    let holds = rw c.in-Some.is at given in
    let key = c.in_ok-key-in-Some.ensures ∙ ap (λ n. n ++ c.args.prefix.now) c.text_of.ensures.text in
    record {
      held = holds.held;
      ascending = holds.ascending;
      named = holds.named;
      yet = subst (λ (rs : List Record). IsYet c.iter_prefixed.result rs) (ap (λ k. records_prefixed k holds.part) key ∙ holds.kept) (c.iter_prefixed.ensures.yet holds.part holds.lines holds.rising);
    }

pub returns-in_ok-key-in-Some-clause-owes : goal.returns-in_ok-key-in-Some-clause-owes
returns-in_ok-key-in-Some-clause-owes c settings text given =
    let is = rw c.in-Some.is at given in
    let key = c.in_ok-key-in-Some.ensures ∙ ap (λ n. n ++ c.args.prefix.now) c.text_of.ensures.text in
    let buffer = c.in-Some.buffer.now in
    let it = c.iter_prefixed.result in
    let asked : Text = record { kind = buffer_kind buffer; bytes = buffer_text buffer; line = buffer_line buffer; key = namespace_text c.args.namespace.now ++ c.args.prefix.now } in
    subst (λ (t : Text). OwesOthers settings t (Some []) (Some it)) (sym is)
    (owes_all settings asked it
    (subst (λ (k : List ℕ). IsRestOf (buffer_kind buffer) (buffer_text buffer) (buffer_line buffer) (Some k) it) key c.iter_prefixed.ensures.rest)
    (λ up. subst (λ (k : List ℕ). Owes (buffer_kind buffer) (buffer_text buffer) k [] it) key (c.iter_prefixed.ensures.owes up)))
