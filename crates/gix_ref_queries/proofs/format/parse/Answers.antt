use Rattle.std.proofs.Common.{◌≡◌, ◌-◌, ◌++◌, ◌∷◌, [], List, ℕ, length, drop, take, sym, subst}
use Rattle.std.proofs.lemmas.List.{take_rest}
use Rattle.gix_ref_queries.proofs.Parts.{part_more, after_parts}
use Rattle.gix_ref_queries.specs.Formats.{format_parts, parts_after}
use Rattle.gix_ref_queries.specs.declared.format.Part.{Part}
use Rattle.gix_ref_queries.proofs.format.parse.Goals as goal

pub loop-first-preserved : goal.loop-first-preserved
loop-first-preserved c =
    let whole = format_parts c.args.format.now in
    let after = c.in-Some.after.now in
    let pushed : c.push.new.self.items ≡ c.loop-first.parts.items ++ c.in-Ok.part ∷ [] = c.in_ok-push-in-Ok.ensures.items in
    let left : take (length after - c.in-Ok.len) (drop c.in-Ok.len after) ≡ drop c.in-Ok.len after = take_rest after c.in-Ok.len in
    let one = part_more c.loop-first.parts.items c.in-Ok.part c.in-Ok.len c.in-Some.first.now c.loop-first.rest.now after whole c.loop-first.invariant c.in-Some.ensures.cases.0 c.in-Ok.ensures.read in
    subst (λ (r : List ℕ). after_parts c.push.new.self.items (parts_after 0 r) ≡ whole) (sym left) (subst (λ (ps : List Part). after_parts ps (parts_after 0 (drop c.in-Ok.len after)) ≡ whole) (sym pushed) one)
