use Rattle.std.proofs.Common.{◌≡◌, List, [], ◌∷◌, refl, subst}
use Rattle.gix_ref_files.specs.Tree.{Path}
use Rattle.gix_ref_files.specs.Files.{Leaves}
use Rattle.gix_ref_files.specs.Steps.{Step, Rename, IsLeftBy}
use Rattle.gix_ref_files.proofs.Moments.{weaken, stops_leave}
use Rattle.gix_ref_files_tests.proofs.Order.{in_order, untouched}
use Rattle.gix_ref_files_tests.proofs.publish.publish_both.Goals as goal

-- the steps of paths that are lent
lent : {a b c d e f x y : Path} → a ≡ e → b ≡ f → c ≡ x → d ≡ y → Rename a b ∷ Rename c d ∷ [] ≡ Rename e f ∷ Rename x y ∷ []
lent p q r s = λ i. Rename (p i) (q i) ∷ Rename (r i) (s i) ∷ []

pub returns-clause-stops : goal.returns-clause-stops
returns-clause-stops g c h =
    let old = g.F.Files.means c.args.files.now in
    let new = g.F.Files.means c.run_steps.new.files in
    let first = c.args.first in
    let second = c.args.second in
    let order = in_order first.lock.items first.path.items second.lock.items second.path.items c.requires old.tree in
    let steps = lent c.deref.ensures.value c.deref-2.ensures.value c.deref-3.ensures.value c.deref-4.ensures.value in
    let leaves = subst (λ (l : List Step). Leaves old new (IsLeftBy l old.tree)) steps (c.run_steps.ensures.leaves h) in
    stops_leave (weaken leaves order) (untouched first.lock.items first.path.items second.lock.items second.path.items c.requires old.tree old.tree refl)
    (λ T left. g.met.F.Files.only_now c.args.files.now T h left)

pub returns-clause-at_end : goal.returns-clause-at_end
returns-clause-at_end g c h =
    let old = g.F.Files.means c.args.files.now in
    let new = g.F.Files.means c.run_steps.new.files in
    let first = c.args.first in
    let second = c.args.second in
    let steps = lent c.deref.ensures.value c.deref-2.ensures.value c.deref-3.ensures.value c.deref-4.ensures.value in
    let leaves = subst (λ (l : List Step). Leaves old new (IsLeftBy l old.tree)) steps (c.run_steps.ensures.leaves h) in
    in_order first.lock.items first.path.items second.lock.items second.path.items c.requires old.tree _ leaves.tree
