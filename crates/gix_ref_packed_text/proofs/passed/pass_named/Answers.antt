use Rattle.std.proofs.Common.{◌≡◌, ◌∙◌, sym, ap, arith, not, Bool, true, false, bytes_eq, refl}
use Rattle.std.proofs.lemmas.Slice.Eq.{bytes_eq-Decides}
use Rattle.gix_ref_packed_text.specs.Views.{record_of}
use Rattle.gix_ref_packed_text.proofs.OneReading.{same_record}
use Rattle.gix_ref_packed_text.proofs.RecordPlaces.{shorter_record}
use Rattle.gix_ref_packed_text.proofs.passed.pass_named.Goals as goal

pub returns-then-ne : goal.returns-then-ne
returns-then-ne c = λ r rest takes named.
    let same = same_record c.args.kind c.args.ahead.rest.now r rest (record_of c.in-Some.reference) c.in-Some.after.now takes c.in-Some.ensures in
    let names : c.to_path.result.now ≡ c.args.key.now = c.to_path.ensures.bytes ∙ (ap (λ x. x.name) (sym same.0) ∙ named) in
    let bad : true ≡ false = sym c.if-ne.true ∙ (c.ne.ensures ∙ ap not ((bytes_eq-Decides c.to_path.result.now c.args.key.now).1 names)) in
    absurd (cc)

by : (b : Bool) → false ≡ not b → b ≡ true
by true h = refl
by false h = cc

pub returns : goal.returns
returns c =
    let less = shorter_record c.args.kind c.args.ahead.rest.now (record_of c.in-Some.reference) c.in-Some.after.now c.in-Some.ensures in
    let count = c.line_count.ensures in
    let named = c.to_path.ensures.bytes in
    let equal : bytes_eq c.to_path.result.now c.args.key.now ≡ true = by (bytes_eq c.to_path.result.now c.args.key.now) (sym c.if-ne.false ∙ c.ne.ensures) in (
      record_of c.in-Some.reference,
      sym named ∙ (bytes_eq-Decides c.to_path.result.now c.args.key.now).0 equal,
      record { fronts = (c.in-Some.after.now, c.in-Some.ensures, refl); number = omega arith; shorter = omega arith },
    )
